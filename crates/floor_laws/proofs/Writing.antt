-- What refuses, and what a write that is not refused makes.
use Rattle.std.proofs.Common.{◌≡◌, ℕ, zero, suc, ◌+◌, ◌<◌, ◌≤◌, ◌&&◌, Bool, true, false, List, [], ◌∷◌, ◌++◌, length, Option, Some, None, refl, sym, ap, ◌∙◌, arith, inl, inr, subst}
use Rattle.std.specs.Prelude.{option_map, slice_get, nat_lt, ◌==◌, ⊤, if◌then◌else◌}
use Rattle.std.proofs.lemmas.Bool.{cases_Bool, cases_lt, false≢true, and_parts, or_left, or_cases, ltb-true, lt-ltb, eqb-true}
use Rattle.std.proofs.lemmas.List.{append-nil, append_assoc}
use Rattle.std.proofs.lemmas.List.Elements.{All-push, All-get_or, All-weaker}
use Rattle.std.proofs.lemmas.List.Quantifiers.{all_pairs_push}
use Rattle.ts_key.specs.declared.limits.TheConstants.{SEQUENCE_LIMIT, SNAPSHOT_LIMIT}
use Rattle.ts_key.specs.declared.batch.WriteOp.{WriteOp}
use Rattle.ts_key.specs.declared.numbers.Family.{Family}
use Rattle.ts_key.specs.declared.numbers.Ts.{Ts}
use Rattle.ts_key.specs.declared.version.Version.{Version}
use Rattle.udt_model.specs.declared.place.Place.{Place}
use Rattle.udt_model.specs.declared.reply.Reply.{Reply}
use Rattle.udt_model.specs.declared.reply.Reply.TheVariants.{Below, Fell, Full, Floor, Snapshots, Busy, Unknown, Halted}
use Rattle.udt_model.specs.Versions.{is_newer, is_of, newer, newest_of, of_key, AreWritten, made, version_of}
use Rattle.udt_model.specs.State.{State, FamilyState, Flush, Compaction, family_at, place_at, place_of_family, seqs_of}
use Rattle.udt_model.specs.Acts.Act.{write, raise, flush_start, compact_start}
use Rattle.udt_model.specs.Refusals.{◌or_else◌, ◌otherwise◌, unknown, unknown_family, unknown_place, halt, fell, op_refusal, refused, full, floor_fell, snapshots_full, busy, refusal}
use Rattle.floor_laws.proofs.Members.{In, In-left, In-right, In-append, In-filter}
use Rattle.floor_laws.proofs.Kept.{is_of-from}
use Rattle.floor_laws.proofs.Standing.{Admitted, Rising-add}
use Rattle.floor_laws.proofs.Stating.{rising_of, rising_from}
use Rattle.floor_laws.proofs.Families.{FamilyHolds, family_write}
use Rattle.floor_laws.proofs.States.{written_of}

-- ---- refusals

-- the reply refuses
abbrev pub is_refusal : Reply → Bool
is_refusal (Below op floor) = true
is_refusal (Fell op newest) = true
is_refusal (Full last) = true
is_refusal (Floor floor) = true
is_refusal (Snapshots count) = true
is_refusal (Busy start) = true
is_refusal Unknown = true
is_refusal (Halted since) = true
is_refusal reply = false

abbrev pub Refuses : Option Reply → Type 0
Refuses None = ⊤
Refuses (Some r) = is_refusal r ≡ true

refuses_or : (a b : Option Reply) → Refuses a → Refuses b → Refuses (a or_else b)
refuses_or None b x y = y
refuses_or (Some r) b x y = x

refuses_place : (p : Option Place) → Refuses (unknown_place p)
refuses_place None = refl
refuses_place (Some p) = tt

refuses_unknown : (m : State) (os : List WriteOp) → Refuses (unknown m os)
refuses_unknown m [] = tt
refuses_unknown m (o ∷ os) = refuses_or (unknown_family m o.family) (unknown m os) (refuses_place (place_at m o.family)) (refuses_unknown m os)

refuses_halt : (o : Option ℕ) → Refuses (option_map Halted o)
refuses_halt None = tt
refuses_halt (Some n) = refl

refuses_busy : (o : Option ℕ) → Refuses (busy o)
refuses_busy None = tt
refuses_busy (Some n) = refl

refuses_fell : (k : ℕ) (ts : Ts) (o : Option Version) → Refuses (fell k ts o)
refuses_fell k ts None = tt
refuses_fell k ts (Some v) = elim (cases_Bool (nat_lt ts.0 v.ts.0)) [ inl y ↦ rw y refl | inr y ↦ rw y tt ]

refuses_op : (w : List Version) (k : ℕ) (p : Option Place) (o : WriteOp) → Refuses (op_refusal w k p o)
refuses_op w k None o = refl
refuses_op w k (Some p) o = elim (cases_Bool (nat_lt o.ts.0 p.floor.0)) [ inl y ↦ rw y refl | inr y ↦ rw y (refuses_fell k o.ts (newest_of (of_key w p.family o.key))) ]

refuses_ops : (m : State) (w : List Version) (n k : ℕ) (os : List WriteOp) → Refuses (refused m w n k os)
refuses_ops m w n k [] = tt
refuses_ops m w n k (o ∷ os) = refuses_or (op_refusal w k (place_at m o.family) o) (refused m (w ++ version_of o (n + 1) ∷ []) (n + 1) (k + 1) os) (refuses_op w k (place_at m o.family) o) (refuses_ops m (w ++ version_of o (n + 1) ∷ []) (n + 1) (k + 1) os)

refuses_full : (m : State) (os : List WriteOp) → Refuses (full m os)
refuses_full m os = refuses_if SEQUENCE_LIMIT (m.last.0 + length os) (Full m.last) refl where
  refuses_if : (a b : ℕ) (r : Reply) → is_refusal r ≡ true → Refuses (if nat_lt a b then Some r else None)
  refuses_if a b r e = elim (cases_Bool (nat_lt a b)) [ inl y ↦ rw y e | inr y ↦ rw y tt ]

refuses_floor : (asked : Ts) (p : Option Place) → Refuses (floor_fell asked p)
refuses_floor asked None = refl
refuses_floor asked (Some p) = elim (cases_Bool (nat_lt asked.0 p.floor.0)) [ inl y ↦ rw y refl | inr y ↦ rw y tt ]

refuses_snapshots : (m : State) → Refuses (snapshots_full m)
refuses_snapshots m = elim (cases_Bool (nat_lt (length m.snaps) SNAPSHOT_LIMIT)) [ inl y ↦ rw y tt | inr y ↦ rw y refl ]

-- what is told where nothing refuses
pub told_other : (r : Option Reply) (told reply : Reply) → Refuses r → is_refusal reply ≡ false → reply ≡ (r otherwise told) → (r ≡ None) × (reply ≡ told)
told_other None told reply n f h = (refl, h)
told_other (Some s) told reply n f h = absurd (false≢true (sym f ∙ ap is_refusal h ∙ n))

pub or_none : (a b : Option Reply) → a or_else b ≡ None → (a ≡ None) × (b ≡ None)
or_none None b h = (refl, h)
or_none (Some a) b h = absurd (cc)

pub known_none : (i : Family) (o : Option FamilyState) → unknown_place (option_map (place_of_family i) o) ≡ None → (f : FamilyState) × (o ≡ Some f)
known_none i None h = absurd (cc)
known_none i (Some f) h = (f, refl)

pub refuses_write : (m : State) (ops : List WriteOp) (sync : Bool) → Refuses (refusal m (write ops sync))
refuses_write m ops sync = refuses_or (unknown m ops or_else halt m or_else refused m m.versions m.last.0 1 ops) (full m ops) (refuses_or (unknown m ops or_else halt m) (refused m m.versions m.last.0 1 ops) (refuses_or (unknown m ops) (halt m) (refuses_unknown m ops) (refuses_halt m.halted)) (refuses_ops m m.versions m.last.0 1 ops)) (refuses_full m ops)

pub refuses_raise : (m : State) (i : Family) (floor : Ts) → Refuses (refusal m (raise i floor))
refuses_raise m i floor = refuses_or (unknown_family m i or_else halt m) (floor_fell floor (place_at m i)) (refuses_or (unknown_family m i) (halt m) (refuses_place (place_at m i)) (refuses_halt m.halted)) (refuses_floor floor (place_at m i))

pub refuses_flush_start : (m : State) (i : Family) → Refuses (refusal m (flush_start i))
refuses_flush_start m i = refuses_or (unknown_family m i or_else halt m) (busy (option_map (λ (job : Flush). job.start) m.flush)) (refuses_or (unknown_family m i) (halt m) (refuses_place (place_at m i)) (refuses_halt m.halted)) (refuses_busy (option_map (λ (job : Flush). job.start) m.flush))

pub refuses_compact_start : (m : State) (i : Family) (pick : Bool) → Refuses (refusal m (compact_start i pick))
refuses_compact_start m i pick = refuses_or (unknown_family m i or_else halt m) (busy (option_map (λ (job : Compaction). job.start) m.compaction)) (refuses_or (unknown_family m i) (halt m) (refuses_place (place_at m i)) (refuses_halt m.halted)) (refuses_busy (option_map (λ (job : Compaction). job.start) m.compaction))

pub known_start : (m : State) (i : Family) (b : Option Reply) → (unknown_family m i or_else halt m or_else b) ≡ None → (f : FamilyState) × (family_at m i ≡ Some f)
known_start m i b h = known_none i (family_at m i) (or_none (unknown_family m i) (halt m) (or_none (unknown_family m i or_else halt m) b h).0).0

-- ---- writes

-- no version of the list has a greater timestamp than its newest
abbrev Top : List Version → Option Version → Type 0
Top vs None = (x : Version) → In x vs → ⊥
Top vs (Some v) = (x : Version) → In x vs → x.ts.0 ≤ v.ts.0

newer_top : (y : Version) (ys : List Version) (o : Option Version) → Top ys o → Top (y ∷ ys) (newer (Some y) o)
newer_top y ys None t = λ x i. elim i [ inl q ↦ let e : y.ts.0 ≡ x.ts.0 = ap (λ (z : Version). z.ts.0) q in omega (arith, e) | inr j ↦ absurd (t x j) ]
newer_top y ys (Some b) t =
    elim (cases_Bool (is_newer b y)) [
      | inl n ↦
          let l : y.ts.0 ≤ b.ts.0 = elim (or_cases (nat_lt y.ts.0 b.ts.0) (b.ts.0 == y.ts.0 && nat_lt y.seq.0 b.seq.0) n) [
            | inl a ↦ let k = ltb-true y.ts.0 b.ts.0 a in omega (arith, k)
            | inr a ↦ let k = eqb-true b.ts.0 y.ts.0 (and_parts (b.ts.0 == y.ts.0) (nat_lt y.seq.0 b.seq.0) a).0 in omega (arith, k)
          ] in
          rw n (λ x i. elim i [ inl q ↦ let e : y.ts.0 ≡ x.ts.0 = ap (λ (z : Version). z.ts.0) q in omega (arith, e, l) | inr j ↦ t x j ])
      | inr n ↦
          let l : b.ts.0 ≤ y.ts.0 = elim (cases_lt y.ts.0 b.ts.0) [
            | inl a ↦ absurd (false≢true (sym n ∙ or_left (nat_lt y.ts.0 b.ts.0) (b.ts.0 == y.ts.0 && nat_lt y.seq.0 b.seq.0) (lt-ltb y.ts.0 b.ts.0 a)))
            | inr a ↦ a
          ] in
          rw n (λ x i. elim i [ inl q ↦ let e : y.ts.0 ≡ x.ts.0 = ap (λ (z : Version). z.ts.0) q in omega (arith, e) | inr j ↦ let k = t x j in omega (arith, k, l) ])
    ]

newest_top : (vs : List Version) → Top vs (newest_of vs)
newest_top [] = λ x i. i
newest_top (y ∷ ys) = newer_top y ys (newest_of ys) (newest_top ys)

-- an operation that isn't refused falls below no version of its key
fell_none : (k : ℕ) (ts : Ts) (vs : List Version) (o : Option Version) → Top vs o → fell k ts o ≡ None → (x : Version) → In x vs → x.ts.0 ≤ ts.0
fell_none k ts vs None t h x i = absurd (t x i)
fell_none k ts vs (Some v) t h x i =
    elim (cases_lt ts.0 v.ts.0) [
      | inl l ↦ let y = lt-ltb ts.0 v.ts.0 l in let h2 : ◌≡◌ {A = Option Reply} (Some (Fell k v.ts)) None = rw y at h in absurd (cc)
      | inr l ↦ let a = t x i in omega (arith, a, l)
    ]

op_none : (w : List Version) (k : ℕ) (i : Family) (fo : Option FamilyState) (o : WriteOp) → op_refusal w k (option_map (place_of_family i) fo) o ≡ None → ((f : FamilyState) × (fo ≡ Some f)) × ((x : Version) → In x w → is_of i o.key x ≡ true → x.ts.0 ≤ o.ts.0)
op_none w k i None o h = absurd (cc)
op_none w k i (Some f) o h = (
  (f, refl),
  λ x j y.
      elim (cases_Bool (nat_lt o.ts.0 f.head.floor.0)) [
        | inl a ↦ let h2 : ◌≡◌ {A = Option Reply} (Some (Below k f.head.floor)) None = rw a at h in absurd (cc)
        | inr a ↦
            let h2 : fell k o.ts (newest_of (of_key w i o.key)) ≡ None = rw a at h in
            fell_none k o.ts (of_key w i o.key) (newest_of (of_key w i o.key)) (newest_top (of_key w i o.key)) h2 x (In-filter (is_of i o.key) x w j y)
      ],
)

get_within : {X : Type 0} (xs : List X) (n : ℕ) (x : X) → slice_get xs n ≡ Some x → n < length xs
get_within [] n x h = absurd (cc)
get_within (y ∷ xs) zero x h = omega arith
get_within (y ∷ xs) (suc n) x h = let r = get_within xs n x h in omega (arith, r)

-- one more version
pub written_push : (count last : ℕ) (w : List Version) (v : Version) → v.seq.0 ≡ last + 1 → v.family.0 < count → Admitted w v → AreWritten count last w → AreWritten count (last + 1) (w ++ v ∷ [])
written_push count last w v next fam ad h = record {
  ascending = all_pairs_push (λ (a b : Version). a.seq.0 < b.seq.0) w v h.ascending (λ k d l. let u = All-get_or (λ (z : Version). z.seq.0 ≤ last) w k d l h.bounded in omega (arith, u, next));
  positive = All-push (λ (z : Version). 1 ≤ z.seq.0) w v h.positive (omega (arith, next));
  bounded = All-push (λ (z : Version). z.seq.0 ≤ last + 1) w v (All-weaker (λ (z : Version). z.seq.0 ≤ last) (λ (z : Version). z.seq.0 ≤ last + 1) (λ z l. omega (arith, l)) w h.bounded) (omega (arith, next));
  families = All-push (λ (z : Version). z.family.0 < count) w v h.families fam;
  rising = rising_from (w ++ v ∷ []) (Rising-add w (w ++ v ∷ []) v (record {
    old = λ x i. In-left x w (v ∷ []) i;
    new = In-right v w (v ∷ []) (inl refl);
    only = λ x i. elim (In-append x w (v ∷ []) i) [ inl j ↦ inl j | inr j ↦ elim j [ inl q ↦ inr q | inr b ↦ absurd b ] ];
  }) ad.low ad.over (rising_of w h.rising));
}

abbrev Fams : State → List Version → ℕ → Type 0
Fams m w n = (i : Family) (f : FamilyState) → family_at m i ≡ Some f → FamilyHolds i f.head.form f.head.floor f.through.0 f.tables w n (seqs_of m)

-- operations that aren't refused over these versions
pub write_all : (m : State) (w : List Version) (n k : ℕ) (os : List WriteOp) → refused m w n k os ≡ None → AreWritten (length m.families) n w → Fams m w n → AreWritten (length m.families) (n + length os) (w ++ made n os) × Fams m (w ++ made n os) (n + length os)
write_all m w n k [] r a h = (
  subst (λ z. AreWritten (length m.families) (n + 0) z) (sym (append-nil w)) (subst (λ z. AreWritten (length m.families) z w) (omega arith) a),
  λ i f at. subst (λ z. FamilyHolds i f.head.form f.head.floor f.through.0 f.tables z (n + 0) (seqs_of m)) (sym (append-nil w)) (subst (λ z. FamilyHolds i f.head.form f.head.floor f.through.0 f.tables w z (seqs_of m)) (omega arith) (h i f at)),
)
write_all m w n k (o ∷ os) r a h =
    let v : Version = version_of o (n + 1) in
    let p = or_none (op_refusal w k (place_at m o.family) o) (refused m (w ++ v ∷ []) (n + 1) (k + 1) os) r in
    let ok = op_none w k o.family (family_at m o.family) o p.0 in
    let wr = written_of (length m.families) n w a in
    let ad : Admitted w v = record {
      low = λ x i. let l = wr.bounded x i in omega (arith, l);
      over = λ x i fam key. ok.1 x i (is_of-from o.family o.key x fam key);
    } in
    let a2 = written_push (length m.families) n w v refl (get_within m.families o.family.0 ok.0.0 ok.0.1) ad a in
    let h2 : Fams m (w ++ v ∷ []) (n + 1) = λ i f at. family_write i f.head.form f.head.floor f.through.0 f.tables w n (seqs_of m) v refl wr.bounded ad wr.single (h i f at) in
    let rest = write_all m (w ++ v ∷ []) (n + 1) (k + 1) os p.1 a2 h2 in
    let e : (w ++ v ∷ []) ++ made (n + 1) os ≡ w ++ made n (o ∷ os) = append_assoc w (v ∷ []) (made (n + 1) os) in
    let e2 : n + 1 + length os ≡ n + length (o ∷ os) = omega arith in (
      subst (λ z. AreWritten (length m.families) z (w ++ made n (o ∷ os))) e2 (subst (λ z. AreWritten (length m.families) (n + 1 + length os) z) e rest.0),
      λ i f at. subst (λ z. FamilyHolds i f.head.form f.head.floor f.through.0 f.tables (w ++ made n (o ∷ os)) z (seqs_of m)) e2 (subst (λ z. FamilyHolds i f.head.form f.head.floor f.through.0 f.tables z (n + 1 + length os) (seqs_of m)) e (rest.1 i f at)),
    )

pub not_refused : (m : State) (ops : List WriteOp) (sync : Bool) → refusal m (write ops sync) ≡ None → refused m m.versions m.last.0 1 ops ≡ None
not_refused m ops sync h = (or_none (unknown m ops or_else halt m) (refused m m.versions m.last.0 1 ops) (or_none (unknown m ops or_else halt m or_else refused m m.versions m.last.0 1 ops) (full m ops) h).0).1

pub admitted_written : (m : State) (w : List Version) (n k : ℕ) (os : List WriteOp) → refused m w n k os ≡ None → AreWritten (length m.families) n w → AreWritten (length m.families) (n + length os) (w ++ made n os)
admitted_written m w n k [] r a = subst (λ z. AreWritten (length m.families) (n + 0) z) (sym (append-nil w)) (subst (λ z. AreWritten (length m.families) z w) (omega arith) a)
admitted_written m w n k (o ∷ os) r a =
    let v : Version = version_of o (n + 1) in
    let p = or_none (op_refusal w k (place_at m o.family) o) (refused m (w ++ v ∷ []) (n + 1) (k + 1) os) r in
    let ok = op_none w k o.family (family_at m o.family) o p.0 in
    let wr = written_of (length m.families) n w a in
    let ad : Admitted w v = record {
      low = λ x i. let l = wr.bounded x i in omega (arith, l);
      over = λ x i fam key. ok.1 x i (is_of-from o.family o.key x fam key);
    } in
    let rest = admitted_written m (w ++ v ∷ []) (n + 1) (k + 1) os p.1 (written_push (length m.families) n w v refl (get_within m.families o.family.0 ok.0.0 ok.0.1) ad a) in
    let e : (w ++ v ∷ []) ++ made (n + 1) os ≡ w ++ made n (o ∷ os) = append_assoc w (v ∷ []) (made (n + 1) os) in
    let e2 : n + 1 + length os ≡ n + length (o ∷ os) = omega arith in
    subst (λ z. AreWritten (length m.families) z (w ++ made n (o ∷ os))) e2 (subst (λ z. AreWritten (length m.families) (n + 1 + length os) z) e rest)
