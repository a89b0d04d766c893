use Rattle.std.proofs.Common.{◌≡◌, ◌+◌, ◌++◌, [], ◌∷◌, ℕ, List, length, drop, sym, ap, subst, ◌∙◌, arith}
use Rattle.ts_key.specs.Order.{sort_key_of}
use Rattle.data_block.specs.Reading.{IsJoined, IsNextEntry, EndsBefore, item_from}
use Rattle.data_block.specs.Regions.{items_in}
use Rattle.data_block.proofs.Nexts.{gives}
use Rattle.data_block.proofs.Steps.{joined_moved, no_parts, not_joined, the_next, parts_at, read_more}
use Rattle.data_block.proofs.region.take_next.Goals as goal

pub returns-in_default : goal.returns-in_default
returns-in_default c = λ v after h ends.
    no_parts c.args.form (length c.args.x.now.entries.items) c.args.last.now.items (drop c.args.at c.args.region.now) (λ s k u r fit e. c.in_default.ensures s k u r fit (c.split_at.ensures.back ∙ e)) v after h

pub returns-then-not-is_joined : goal.returns-then-not-is_joined
returns-then-not-is_joined c = λ v after h ends.
    let f = c.in-Some.f in
    let count : length c.args.x.now.entries.items ≡ c.len-n.result = omega (arith, c.len-n.ensures, c.args.x.now.entries.ok.0) in
    let refused : IsJoined (length c.args.x.now.entries.items) c.args.last.now.items f → ⊥ = λ j. (let t = c.is_joined.ensures.1 (joined_moved _ _ _ _ f count (sym c.deref.ensures.value) j) in let q = c.if-not-is_joined.true in cc) in
    not_joined c.args.form (length c.args.x.now.entries.items) c.args.last.now.items (drop c.args.at c.args.region.now) f c.in-Some.ensures.0 (sym c.split_at.ensures.back ∙ c.in-Some.ensures.1) refused v after h

pub returns-then-not-is_after : goal.returns-then-not-is_after
returns-then-not-is_after c = λ v after h ends.
    let f = c.in-Some.f in
    let count : c.len-n.result ≡ length c.args.x.now.entries.items = omega (arith, c.len-n.ensures, c.args.x.now.entries.ok.0) in
    let joined : IsJoined (length c.args.x.now.entries.items) c.args.last.now.items f = joined_moved _ _ _ _ f count c.deref.ensures.value (c.is_joined.ensures.0 c.if-not-is_joined.false) in
    let here = c.in-Some-key_at.ensures (length c.args.x.now.entries.items) c.args.last.now.items joined (c.deref-2.ensures.value ∙ c.in_ok-join.ensures) in
    let w = item_from f (c.in-Some-key_at.k, c.in-Some-key_at.kind) in
    let refused : EndsBefore (items_in c.args.region.now c.args.x.now) w.sort_key → ⊥ = λ q. (let t = c.is_after.ensures.1 q in let z = c.if-not-is_after.true in cc) in
    the_next c.args.form (length c.args.x.now.entries.items) c.args.last.now.items (drop c.args.at c.args.region.now) f w (sym c.split_at.ensures.back ∙ c.in-Some.ensures.1) here (items_in c.args.region.now c.args.x.now) refused v after h ends

pub add-requires-clause-image : goal.add-requires-clause-image
add-requires-clause-image c = (parts_at c.args.region.now c.args.at c.in-Some.f c.requires.fits (sym c.split_at.ensures.back ∙ c.in-Some.ensures.1)).within

pub returns : goal.returns
returns c =
    let f = c.in-Some.f in
    let region = c.args.region.now in
    let old = c.args.x.now in
    let e = sym c.split_at.ensures.back ∙ c.in-Some.ensures.1 in
    let count : c.len-n.result ≡ length old.entries.items = omega (arith, c.len-n.ensures, old.entries.ok.0) in
    let joined : IsJoined (length old.entries.items) c.args.last.now.items f = joined_moved _ _ _ _ f count c.deref.ensures.value (c.is_joined.ensures.0 c.if-not-is_joined.false) in
    let here = c.in-Some-key_at.ensures (length old.entries.items) c.args.last.now.items joined (c.deref-2.ensures.value ∙ c.in_ok-join.ensures) in
    let w = item_from f (c.in-Some-key_at.k, c.in-Some-key_at.kind) in
    let next : IsNextEntry c.args.form (length old.entries.items) c.args.last.now.items (drop c.args.at region) w f.rest.now = subst (λ (x : List ℕ). IsNextEntry c.args.form (length old.entries.items) c.args.last.now.items x w f.rest.now) (sym e) here in
    let p = parts_at region c.args.at f c.requires.fits e in
    let items = c.in_ok-add.ensures.items ∙ ap (λ (x : List ℕ). items_in region old ++ (record { sort_key = sort_key_of c.in-Some-key_at.k; kind = c.in-Some-key_at.kind; value = x }) ∷ []) p.value in
    let key = c.in_ok-join.ensures ∙ (gives c.args.form (length old.entries.items) c.args.last.now.items f w f.rest.now c.in-Some.ensures.0 here).key in (
      omega arith,
      read_more c.args.form region c.args.at (c.args.at + 8 + length f.key.now + length f.value.now) old c.add.new.index c.args.last.now.items c.join.new.last.items f.rest.now w
          (record { fits = c.requires.fits; within = c.requires.within; run = c.requires.run; restarts = c.requires.restarts; begins = c.requires.begins; ends = c.requires.ends }) next (c.is_after.ensures.0 c.if-not-is_after.false) p.within p.rest c.in_ok-add.ensures.within items c.in_ok-add.ensures.restarts key c.in_ok-add.ensures.last,
    )
