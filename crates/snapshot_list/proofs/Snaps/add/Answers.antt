use Rattle.std.proofs.Common.{◌≡◌, ◌≤◌, Bool, true, false, cond, refl, sym, ap, subst, ◌∙◌, length, arith, rules}
use Rattle.std.specs.Prelude.{nat_le, ◌==◌, vec_capacity}
use Rattle.std.specs.List.{insert, list_any}
use Rattle.std.specs.List.Sorted.{IsPartitionPoint}
use Rattle.std.specs.Result.{is_ok}
use Rattle.std.proofs.lemmas.List.Edits.{length-insert}
use Rattle.std.proofs.lemmas.List.Sorted.{IsPartitionPoint-from_clause, IsPartitionedBy-leb, IsNonDecreasingBy-insert}
use Rattle.ts_key.specs.declared.numbers.Seq.{Seq}
use Rattle.ts_key.specs.Ascending.{AreAscending}
use Rattle.snapshot_list.specs.Registered.{IsList, paired, has_id, with_snapshot}
use Rattle.snapshot_list.proofs.Snapshots.{length_paired, has_paired, distinct_insert, inserted_is, le_from, gt_from, known_is}
use Rattle.snapshot_list.proofs.Snaps.add.Goals as goal

pub returns-then-len-eq-SNAPSHOT_LIMIT-clause-added : goal.returns-then-len-eq-SNAPSHOT_LIMIT-clause-added
returns-then-len-eq-SNAPSHOT_LIMIT-clause-added c = λ l.
    let x = c.self.inside in
    let n = length_paired x.ids.items x.seqs.items c.self.invariant.0.paired in
    let t = c.if-len-eq-SNAPSHOT_LIMIT.true in
    let e = c.len.ensures in
    absurd (omega (arith, l, n, t, e, x.seqs.ok.0, ap length c.self.view_is))

both : (b : Bool) → b ≡ true → b ≡ false → ⊥
both b x y = cc

pub returns-then-is_some-clause-added : goal.returns-then-is_some-clause-added
returns-then-is_some-clause-added c = λ l fresh.
    let x = c.self.inside in
    let known = known_is x.ids.items x.seqs.items c.args.id c.args.self.now c.is_some.result c.place_of.result c.deref.result.now c.self.invariant.0.paired c.self.view_is c.is_some.ensures c.place_of.ensures c.deref.ensures.value in
    absurd (both c.is_some.result c.if-is_some.true (sym known ∙ fresh))

pub returns-clause-known : goal.returns-clause-known
returns-clause-known c = λ l there.
    let x = c.self.inside in
    let known = known_is x.ids.items x.seqs.items c.args.id c.args.self.now c.is_some.result c.place_of.result c.deref.result.now c.self.invariant.0.paired c.self.view_is c.is_some.ensures c.place_of.ensures c.deref.ensures.value in
    absurd (both c.is_some.result (sym known ∙ there) c.if-is_some.false)

point : (c : goal.After-insert-2) → IsPartitionPoint (λ (y : Seq). nat_le y.0 c.args.seq.0 ≡ true) (λ (y : Seq). nat_le y.0 c.args.seq.0 ≡ false) c.self.inside.seqs.items c.partition_point-place.result
point c =
    let x = c.self.inside in
    let s = c.args.seq in
    let at : IsPartitionPoint (λ (y : Seq). nat_le y.0 s.0 ≡ true) (λ (y : Seq). nat_le y.0 s.0 ≡ false) c.deref-2.result.now c.partition_point-place.result =
    IsPartitionPoint-from_clause (λ (y : Seq). nat_le y.0 s.0) _ _ c.partition_point-place.ensures.partitioned
    (IsPartitionedBy-leb (λ (y : Seq). y.0) _ s.0 (subst AreAscending (sym c.deref-2.ensures.value) c.self.invariant.0.ascending)) (λ a r q k. search rules) in
    subst (λ l. IsPartitionPoint (λ (y : Seq). nat_le y.0 s.0 ≡ true) (λ (y : Seq). nat_le y.0 s.0 ≡ false) l c.partition_point-place.result) c.deref-2.ensures.value at

place_at_most : (c : goal.After-insert-2) → c.partition_point-place.result ≤ length c.self.inside.seqs.items
place_at_most c = let b = c.partition_point-place.ensures.bound in omega (arith, b, ap length c.deref-2.ensures.value)

ids_are : (c : goal.After-insert-2) → (c.insert.new.self.items ≡ insert c.self.inside.ids.items c.partition_point-place.result c.args.id) × (1024 ≤ vec_capacity c.insert.new.self)
ids_are c =
    let x = c.self.inside in
    let inv = c.self.invariant in
    let i = c.partition_point-place.result in
    let e = inv.0.paired in
    let w = inv.0.within in
    let room = inv.1 in
    let f = c.if-len-eq-SNAPSHOT_LIMIT.false in
    let g = c.len.ensures in
    let done : is_ok c.insert.result ≡ true = c.insert.ensures.succeeds (omega (arith, e, w, room, f, g, x.ids.ok.0, x.seqs.ok.0)) in
    let more = c.insert.ensures.capacity in
    (c.insert.ensures.items ∙ ap (λ b. cond b (insert x.ids.items i c.args.id) x.ids.items) done, omega (arith, room, more))

seqs_are : (c : goal.After-insert-2) → (c.insert-2.new.self.items ≡ insert c.self.inside.seqs.items c.partition_point-place.result c.args.seq) × (1024 ≤ vec_capacity c.insert-2.new.self)
seqs_are c =
    let x = c.self.inside in
    let inv = c.self.invariant in
    let i = c.partition_point-place.result in
    let w = inv.0.within in
    let room = inv.2 in
    let f = c.if-len-eq-SNAPSHOT_LIMIT.false in
    let g = c.len.ensures in
    let done : is_ok c.insert-2.result ≡ true = c.insert-2.ensures.succeeds (omega (arith, w, room, f, g, x.seqs.ok.0)) in
    let more = c.insert-2.ensures.capacity in
    (c.insert-2.ensures.items ∙ ap (λ b. cond b (insert x.seqs.items i c.args.seq) x.seqs.items) done, omega (arith, room, more))

pub invariant_of-self : goal.invariant_of-self
invariant_of-self c =
    let x = c.self.inside in
    let inv = c.self.invariant in
    let i = c.partition_point-place.result in
    let p = point c in
    let e = inv.0.paired in
    let l = place_at_most c in
    let m = length-insert x.ids.items i c.args.id (omega (arith, e, l)) in
    let n = length-insert x.seqs.items i c.args.seq l in
    let w = inv.0.within in
    let f = c.if-len-eq-SNAPSHOT_LIMIT.false in
    let g = c.len.ensures in
    let fresh : list_any (λ j. j == c.args.id) x.ids.items ≡ false = sym (has_paired x.ids.items x.seqs.items c.args.id e) ∙ ap (λ r. has_id r c.args.id) c.self.view_is ∙ known_is x.ids.items x.seqs.items c.args.id c.args.self.now c.is_some.result c.place_of.result c.deref.result.now e c.self.view_is c.is_some.ensures c.place_of.ensures c.deref.ensures.value ∙ c.if-is_some.false in
    let list : IsList (insert x.ids.items i c.args.id) (insert x.seqs.items i c.args.seq) = record {
      paired = omega (arith, m, n, e);
      within = omega (arith, n, w, f, g, x.seqs.ok.0);
      ascending = IsNonDecreasingBy-insert (λ (y : Seq). y.0) x.seqs.items i c.args.seq inv.0.ascending l (λ k d a. le_from d c.args.seq x.seqs.items k (p.0 k d (omega arith) a)) (λ k d a b. gt_from d c.args.seq x.seqs.items k (p.1 k d a b));
      distinct = distinct_insert x.ids.items i c.args.id inv.0.distinct fresh;
    } in
    (rw ((ids_are c).0, (seqs_are c).0) list, (ids_are c).1, (seqs_are c).1)

pub returns-clause-added : goal.returns-clause-added
returns-clause-added c = λ l fresh.
    let x = c.self.inside in
    let i = c.partition_point-place.result in
    let p = point c in (
      refl,
      (λ k. paired ((ids_are c).0 k) ((seqs_are c).0 k))
          ∙ inserted_is x.ids.items x.seqs.items c.args.id c.args.seq i c.self.invariant.0.paired (place_at_most c) p.0 p.1
          ∙ ap (with_snapshot (record { id = c.args.id; seq = c.args.seq })) c.self.view_is,
    )

pub returns-clause-full : goal.returns-clause-full
returns-clause-full c = λ l.
    let x = c.self.inside in
    let n = length_paired x.ids.items x.seqs.items c.self.invariant.0.paired in
    let f = c.if-len-eq-SNAPSHOT_LIMIT.false in
    let e = c.len.ensures in
    absurd (omega (arith, l, n, f, e, x.seqs.ok.0, ap length c.self.view_is))

pub returns-then-len-eq-SNAPSHOT_LIMIT-clause-known : goal.returns-then-len-eq-SNAPSHOT_LIMIT-clause-known
returns-then-len-eq-SNAPSHOT_LIMIT-clause-known c = λ l.
    let x = c.self.inside in
    let n = length_paired x.ids.items x.seqs.items c.self.invariant.0.paired in
    let t = c.if-len-eq-SNAPSHOT_LIMIT.true in
    let e = c.len.ensures in
    absurd (omega (arith, l, n, t, e, x.seqs.ok.0, ap length c.self.view_is))

pub returns-then-is_some-clause-full : goal.returns-then-is_some-clause-full
returns-then-is_some-clause-full c = λ l.
    let x = c.self.inside in
    let n = length_paired x.ids.items x.seqs.items c.self.invariant.0.paired in
    let f = c.if-len-eq-SNAPSHOT_LIMIT.false in
    let e = c.len.ensures in
    absurd (omega (arith, l, n, f, e, x.seqs.ok.0, ap length c.self.view_is))
