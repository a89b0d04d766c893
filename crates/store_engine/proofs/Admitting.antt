-- Admission over a super version answers as the model does over all writes.
use Rattle.std.proofs.Common.{◌≡◌, ◌⊎◌, ℕ, zero, suc, ◌+◌, ◌≤◌, false, List, [], ◌∷◌, ◌++◌, length, Option, Some, None, refl, sym, ap, ◌∙◌, subst, arith, inl, inr, append_assoc, append-nil}
use Rattle.std.specs.Prelude.{AllPairs, IfSome, Result, Ok, Err, IfErr, IsErrAnd, if◌then◌else◌, nat_lt, option_map, slice_get}
use Rattle.std.specs.Option.{option_or}
use Rattle.std.proofs.lemmas.Bool.{cases_Bool, ltb-false}
use Rattle.ts_key.specs.declared.batch.WriteOp.{WriteOp}
use Rattle.ts_key.specs.declared.limits.TheConstants.{SEQUENCE_LIMIT}
use Rattle.ts_key.specs.declared.numbers.Family.{Family}
use Rattle.ts_key.specs.declared.numbers.Seq.{Seq}
use Rattle.ts_key.specs.declared.numbers.Ts.{Ts}
use Rattle.ts_key.specs.declared.version.Version.{Version}
use Rattle.ts_key.specs.Visible.{newest_ts}
use Rattle.memtable.specs.Memtables.{greater}
use Rattle.udt_model.specs.declared.reply.Reply.{Reply}
use Rattle.udt_model.specs.declared.reply.Reply.TheVariants as replies
use Rattle.udt_model.specs.Acts.Act.{raise, write}
use Rattle.udt_model.specs.Refusals.{◌or_else◌, ◌otherwise◌, fell, floor_fell, full, halt, op_refusal, refusal, refused, unknown, unknown_family}
use Rattle.udt_model.specs.State.{State, family_at, place_at, seqs_of}
use Rattle.udt_model.specs.State.{FamilyState as ModelFamily}
use Rattle.udt_model.specs.Steps.{admitted, raised}
use Rattle.udt_model.specs.Versions.{AreWritten, between, logged, made, newest_of, of_key, version_of}
use Rattle.super_version.specs.Contents.{items_of_family}
use Rattle.super_version.specs.declared.family.FamilyState.{FamilyState}
use Rattle.super_version.specs.declared.version.SuperVersion.{SuperVersion}
use Rattle.floor_laws.specs.Sound.{IsSoundState}
use Rattle.floor_laws.specs.Tables.{contents}
use Rattle.floor_laws.proofs.Families.{FamilyHolds}
use Rattle.floor_laws.proofs.ListLaws.{fell_same}
use Rattle.floor_laws.proofs.Stating.{stands_from}
use Rattle.floor_laws.proofs.States.{holds_of, written_of}
use Rattle.floor_laws.proofs.Writing.{write_all}
use Rattle.store_engine.specs.Admission.{IsInMemory, RefusesRaise, RefusesWrite, as_refusal, fell_fault, full_fault, latest_at, op_fault, ops_fault, raise_fault, told_refusal, unknown_fault, unknown_in, write_fault}
use Rattle.store_engine.specs.Now.{IsNow}
use Rattle.store_engine.specs.declared.fault.EngineFault.{EngineFault}
use Rattle.store_engine.specs.declared.fault.EngineFault.TheVariants.{UnknownFamily, BelowFloor, Fell, SequenceFull, FloorFell, FilesFull, NoMemory, DiskFault}
use Rattle.store_engine.proofs.Shown.{newest_shown}
use Rattle.store_engine.proofs.Stamps.{stamp_of}

-- ---- answers

-- a fault that is handed on
pub handed_on : {A : Type 0} (P : EngineFault → Type 0) (r : Result A EngineFault) (e : EngineFault) → IsErrAnd r (λ y. y ≡ e) → P e → IfErr r P
handed_on P (Ok x) e is h = tt
handed_on P (Err y) e is h = subst P (sym is) h

-- it tells the refusal that the fault is
pub handed_refusal : {A : Type 0} (r : Result A EngineFault) (e : EngineFault) → IsErrAnd r (λ y. y ≡ e) → told_refusal r ≡ as_refusal e
handed_refusal (Ok x) e is = absurd is
handed_refusal (Err y) e is = ap as_refusal is

-- ---- two lists of one length

pub both : {X Y : Type 0} (xs : List X) (ys : List Y) (n : ℕ) → length xs ≡ length ys → ((slice_get xs n ≡ None) × (slice_get ys n ≡ None)) ⊎ ((x : X) × ((y : Y) × ((slice_get xs n ≡ Some x) × (slice_get ys n ≡ Some y))))
both [] [] n e = inl (refl, refl)
both [] (y ∷ ys) n e = absurd (omega (arith, e))
both (x ∷ xs) [] n e = absurd (omega (arith, e))
both (x ∷ xs) (y ∷ ys) zero e = inr (x, (y, (refl, refl)))
both (x ∷ xs) (y ∷ ys) (suc n) e = both xs ys n (omega (arith, e))

-- ---- replies

-- the reply that a fault tells; want of memory is told as such
abbrev reply_of : EngineFault → Reply
reply_of UnknownFamily = replies.Unknown
reply_of (BelowFloor op floor) = replies.Below op floor
reply_of (Fell op newest) = replies.Fell op newest
reply_of (SequenceFull last) = replies.Full last
reply_of (FloorFell floor) = replies.Floor floor
reply_of (FilesFull next) = replies.Files next
reply_of NoMemory = replies.NoMemory
reply_of DiskFault = replies.Fault

abbrev told : Option EngineFault → Option Reply
told o = option_map reply_of o

told_or : (a b : Option EngineFault) → told (option_or a b) ≡ (told a or_else told b)
told_or None b = refl
told_or (Some e) b = refl

or_assoc : (a b c : Option Reply) → ((a or_else b) or_else c) ≡ (a or_else (b or_else c))
or_assoc None b c = refl
or_assoc (Some r) b c = refl

none_after : (a : Option Reply) → (a or_else None) ≡ a
none_after None = refl
none_after (Some r) = refl

-- ---- one operation

fell_told : (k : ℕ) (ts : Ts) (o : Option Version) → fell k ts o ≡ told (fell_fault k ts (stamp_of o))
fell_told k ts None = refl
fell_told k ts (Some v) = elim (cases_Bool (nat_lt ts.0 v.ts.0)) [ inl y ↦ rw y refl | inr y ↦ rw y refl ]

floor_told : (k : ℕ) (o : WriteOp) (floor : Ts) (a : Option Version) (b : Option ℕ) → (floor.0 ≤ o.ts.0 → fell k o.ts a ≡ told (fell_fault k o.ts b))
    → (if nat_lt o.ts.0 floor.0 then Some (replies.Below k floor) else fell k o.ts a) ≡ told (if nat_lt o.ts.0 floor.0 then Some (BelowFloor k floor) else fell_fault k o.ts b)
floor_told k o floor a b h = elim (cases_Bool (nat_lt o.ts.0 floor.0)) [ inl y ↦ rw y refl | inr y ↦ rw y (h (ltb-false o.ts.0 floor.0 y)) ]

logged_more : (n : ℕ) (before : List WriteOp) (o : WriteOp) → logged n (before ++ o ∷ []) ≡ logged n before ++ version_of o (n + length before) ∷ []
logged_more n [] o = ap (λ (k : ℕ). version_of o k ∷ []) (omega arith)
logged_more n (x ∷ xs) o = ap (λ (vs : List Version). version_of x n ∷ vs) (logged_more (n + 1) xs o ∙ ap (λ (k : ℕ). logged (n + 1) xs ++ version_of o k ∷ []) (omega arith))

abbrev Fams : State → List Version → ℕ → Type 0
Fams m w n = (i : Family) (f : ModelFamily) → family_at m i ≡ Some f → FamilyHolds i f.head.form f.head.floor f.through.0 f.tables w n (seqs_of m)

module _ (m : State) (now : SuperVersion) (sound : IsSoundState m) (shows : IsNow now m) where
  -- the writes behind operations, and their last sequence
  abbrev writes : List WriteOp → List Version
  writes before = m.versions ++ made m.last.0 before

  abbrev reached : List WriteOp → ℕ
  reached before = m.last.0 + length before

  -- the operations before were admitted
  record IsBehind (before : List WriteOp) : Type 0 where
    pub written : AreWritten (length m.families) (reached before) (writes before)
    pub families : Fams m (writes before) (reached before)

  begins : IsBehind []
  begins =
      let h = holds_of m sound in
      let w : m.versions ≡ writes [] = sym (append-nil m.versions) in
      let n : m.last.0 ≡ reached [] = omega arith in
      record {
        written = subst (λ (vs : List Version). AreWritten (length m.families) (reached []) vs) w (subst (λ (k : ℕ). AreWritten (length m.families) k m.versions) n h.written);
        families = subst (λ (vs : List Version). Fams m vs (reached [])) w (subst (λ (k : ℕ). Fams m m.versions k) n h.families);
      }

  writes_more : (before : List WriteOp) (o : WriteOp) → writes before ++ version_of o (reached before + 1) ∷ [] ≡ writes (before ++ o ∷ [])
  writes_more before o =
      append_assoc m.versions (made m.last.0 before) (version_of o (reached before + 1) ∷ [])
      ∙ ap (λ (vs : List Version). m.versions ++ vs) (sym (logged_more (m.last.0 + 1) before o ∙ ap (λ (k : ℕ). made m.last.0 before ++ version_of o k ∷ []) (omega arith)))

  reached_more : (before : List WriteOp) (o : WriteOp) → reached before + 1 ≡ reached (before ++ o ∷ [])
  reached_more before o = let l = count_more before o in omega (arith, l) where
    count_more : (xs : List WriteOp) (x : WriteOp) → length (xs ++ x ∷ []) ≡ length xs + 1
    count_more [] x = omega arith
    count_more (y ∷ ys) x = let r = count_more ys x in omega (arith, r)

  goes_on : (before : List WriteOp) (k : ℕ) (o : WriteOp) → op_refusal (writes before) k (place_at m o.family) o ≡ None → IsBehind before → IsBehind (before ++ o ∷ [])
  goes_on before k o ok b =
      let one : refused m (writes before) (reached before) k (o ∷ []) ≡ None = ap (λ (r : Option Reply). r or_else None) ok in
      let r = write_all m (writes before) (reached before) k (o ∷ []) one b.written b.families in
      let w = writes_more before o in
      let n = reached_more before o in
      record {
        written = subst (λ (vs : List Version). AreWritten (length m.families) (reached (before ++ o ∷ [])) vs) w (subst (λ (j : ℕ). AreWritten (length m.families) j (writes before ++ version_of o (reached before + 1) ∷ [])) n r.0);
        families = subst (λ (vs : List Version). Fams m vs (reached (before ++ o ∷ []))) w (subst (λ (j : ℕ). Fams m (writes before ++ version_of o (reached before + 1) ∷ []) j) n r.1);
      }

  -- at or above the floor an operation falls over all writes as it does over the lists
  falls : (before : List WriteOp) (k : ℕ) (o : WriteOp) (f : ModelFamily) (g : FamilyState) → IsBehind before → family_at m o.family ≡ Some f → slice_get now.families o.family.0 ≡ Some g → f.head.floor.0 ≤ o.ts.0
      → fell k o.ts (newest_of (of_key (writes before) o.family o.key)) ≡ told (fell_fault k o.ts (greater (newest_ts (items_of_family g) o.key) (latest_at o.family o.key before)))
  falls before k o f g b of there high =
      let fam = b.families o.family f of in
      let vs = between o.family f.through.0 (reached before) (writes before) ++ contents f.tables in
      let stands = stands_from o.family f.head.form vs (writes before) f.head.floor (seqs_of m) fam.lists in
      let own : AllPairs (λ (x y : Version). x.seq.0 ≡ y.seq.0 → ⊥) (writes before) = λ i j d lt l e. let a = b.written.ascending i j d lt l in omega (arith, a, e) in
      let same = fell_same o.family f.head.form vs (writes before) f.head.floor (seqs_of m) (reached before) o.key o.ts k own b.written.bounded high stands in
      let h = holds_of m sound in
      let is = newest_shown m o.family f g (shows.families o.family f g of there) before o.key (h.families o.family f of).low (written_of (length m.families) m.last.0 m.versions h.written).bounded (reached before) (written_of (length m.families) (reached before) (writes before) b.written).bounded in
      sym same ∙ fell_told k o.ts (newest_of (of_key vs o.family o.key)) ∙ ap (λ (n : Option ℕ). told (fell_fault k o.ts n)) is

  op_told : (before : List WriteOp) (k : ℕ) (o : WriteOp) → IsBehind before → op_refusal (writes before) k (place_at m o.family) o ≡ told (op_fault (slice_get now.families o.family.0) before k o)
  op_told before k o b = elim (both m.families now.families o.family.0 (sym shows.count)) [
    | inl none ↦ let a = none.0 in let c = none.1 in rw (a, c) refl
    | inr some ↦
        let f = some.0 in
        let g = some.1.0 in
        let of : family_at m o.family ≡ Some f = some.1.1.0 in
        let there : slice_get now.families o.family.0 ≡ Some g = some.1.1.1 in
        let floor : g.floor ≡ f.head.floor = (shows.families o.family f g of there).floor in
        let one = floor_told k o f.head.floor (newest_of (of_key (writes before) o.family o.key)) (greater (newest_ts (items_of_family g) o.key) (latest_at o.family o.key before)) (falls before k o f g b of there) in
        let two = subst (λ (z : Ts). (if nat_lt o.ts.0 f.head.floor.0 then Some (replies.Below k f.head.floor) else fell k o.ts (newest_of (of_key (writes before) o.family o.key)))
        ≡ told (if nat_lt o.ts.0 z.0 then Some (BelowFloor k z) else fell_fault k o.ts (greater (newest_ts (items_of_family g) o.key) (latest_at o.family o.key before)))) (sym floor) one in
        rw (of, there) two
  ]

  -- behind the first operation, where the rest is judged so
  first_told : (before : List WriteOp) (k : ℕ) (o : WriteOp) (ops : List WriteOp) (r : Option Reply) (e : Option EngineFault) → op_refusal (writes before) k (place_at m o.family) o ≡ r → r ≡ told e
      → (r ≡ None → refused m (writes (before ++ o ∷ [])) (reached (before ++ o ∷ [])) (k + 1) ops ≡ told (ops_fault now.families (before ++ o ∷ []) (k + 1) ops))
      → (r or_else refused m (writes before ++ version_of o (reached before + 1) ∷ []) (reached before + 1) (k + 1) ops) ≡ told (option_or e (ops_fault now.families (before ++ o ∷ []) (k + 1) ops))
  first_told before k o ops r (Some e) is same rest = ap (λ (z : Option Reply). z or_else refused m (writes before ++ version_of o (reached before + 1) ∷ []) (reached before + 1) (k + 1) ops) same
  first_told before k o ops r None is same rest =
      ap (λ (z : Option Reply). z or_else refused m (writes before ++ version_of o (reached before + 1) ∷ []) (reached before + 1) (k + 1) ops) same
      ∙ ap (λ (vs : List Version). refused m vs (reached before + 1) (k + 1) ops) (writes_more before o)
      ∙ ap (λ (n : ℕ). refused m (writes (before ++ o ∷ [])) n (k + 1) ops) (reached_more before o)
      ∙ rest same

  ops_told : (before : List WriteOp) (k : ℕ) (ops : List WriteOp) → IsBehind before → refused m (writes before) (reached before) k ops ≡ told (ops_fault now.families before k ops)
  ops_told before k [] b = refl
  ops_told before k (o ∷ ops) b =
      let r = op_refusal (writes before) k (place_at m o.family) o in
      first_told before k o ops r (op_fault (slice_get now.families o.family.0) before k o) refl (op_told before k o b) (λ ok. ops_told (before ++ o ∷ []) (k + 1) ops (goes_on before k o ok b))

-- ---- whole writes

unknown_told : (m : State) (now : SuperVersion) → IsNow now m → (ops : List WriteOp) → unknown m ops ≡ told (unknown_in now.families ops)
unknown_told m now shows [] = refl
unknown_told m now shows (o ∷ ops) =
    let rest = unknown_told m now shows ops in
    elim (both m.families now.families o.family.0 (sym shows.count)) [
      | inl none ↦ let a = none.0 in let c = none.1 in rw (a, c) refl
      | inr some ↦ let a = some.1.1.0 in let c = some.1.1.1 in rw (a, c) rest
    ]

full_told : (m : State) (last : Seq) (ops : List WriteOp) → last ≡ m.last → full m ops ≡ told (full_fault last (length ops))
full_told m last ops e = subst (λ (s : Seq). full m ops ≡ told (full_fault s (length ops))) (sym e) (elim (cases_Bool (nat_lt SEQUENCE_LIMIT (m.last.0 + length ops))) [ inl y ↦ rw y refl | inr y ↦ rw y refl ])

pub write_told : (m : State) (now : SuperVersion) (ops : List WriteOp) → IsSoundState m → IsNow now m → m.halted ≡ None → refusal m (write ops false) ≡ told (write_fault now ops)
write_told m now ops sound shows up =
    let a = unknown_told m now shows ops in
    let h : halt m ≡ None = ap (option_map replies.Halted) up in
    let b : refused m m.versions m.last.0 1 ops ≡ told (ops_fault now.families [] 1 ops) =
    ap (λ (vs : List Version). refused m vs m.last.0 1 ops) (sym (append-nil m.versions)) ∙ ap (λ (n : ℕ). refused m (writes m now sound shows []) n 1 ops) (omega arith) ∙ ops_told m now sound shows [] 1 ops (begins m now sound shows) in
    let c = full_told m now.last ops shows.last in
    let u = unknown m ops in
    let r = refused m m.versions m.last.0 1 ops in
    ap (λ (z : Option Reply). ((u or_else z) or_else r) or_else full m ops) h
    ∙ ap (λ (z : Option Reply). (z or_else r) or_else full m ops) (none_after u)
    ∙ or_assoc u r (full m ops)
    ∙ ap (λ (z : Option Reply). z or_else (r or_else full m ops)) a
    ∙ ap (λ (z : Option Reply). told (unknown_in now.families ops) or_else (z or_else full m ops)) b
    ∙ ap (λ (z : Option Reply). told (unknown_in now.families ops) or_else (told (ops_fault now.families [] 1 ops) or_else z)) c
    ∙ ap (λ (z : Option Reply). told (unknown_in now.families ops) or_else z) (sym (told_or (ops_fault now.families [] 1 ops) (full_fault now.last (length ops))))
    ∙ sym (told_or (unknown_in now.families ops) (option_or (ops_fault now.families [] 1 ops) (full_fault now.last (length ops))))

refuses_write : (m : State) (ops : List WriteOp) (e : EngineFault) → reply_of e ≡ admitted m ops → RefusesWrite m ops e
refuses_write m ops UnknownFamily q = ap Some q
refuses_write m ops (BelowFloor op floor) q = ap Some q
refuses_write m ops (Fell op newest) q = ap Some q
refuses_write m ops (SequenceFull last) q = ap Some q
refuses_write m ops (FloorFell floor) q = ap Some q
refuses_write m ops (FilesFull next) q = ap Some q
refuses_write m ops NoMemory q = tt
refuses_write m ops DiskFault q = ap Some q

-- what is judged is what the model answers
pub write_admitted : (m : State) (now : SuperVersion) (ops : List WriteOp) → IsSoundState m → m.halted ≡ None → IsNow now m → write_fault now ops ≡ None → admitted m ops ≡ replies.OkAt (m.last.0 + length ops)
write_admitted m now ops sound up shows none = ap (λ (z : Option Reply). z otherwise replies.OkAt (m.last.0 + length ops)) (write_told m now ops sound shows up ∙ ap told none)

pub write_refused : (m : State) (now : SuperVersion) (ops : List WriteOp) (e : EngineFault) → IsSoundState m → m.halted ≡ None → IsNow now m → write_fault now ops ≡ Some e → RefusesWrite m ops e
write_refused m now ops e sound up shows some = refuses_write m ops e (sym (ap (λ (z : Option Reply). z otherwise replies.OkAt (m.last.0 + length ops)) (write_told m now ops sound shows up ∙ ap told some)))

-- ---- raises

raise_told : (m : State) (now : SuperVersion) (family : Family) (floor : Ts) → IsNow now m → m.halted ≡ None → refusal m (raise family floor) ≡ told (raise_fault (slice_get now.families family.0) floor)
raise_told m now family floor shows up =
    let h : halt m ≡ None = ap (option_map replies.Halted) up in
    ap (λ (z : Option Reply). (unknown_family m family or_else z) or_else floor_fell floor (place_at m family)) h
    ∙ ap (λ (z : Option Reply). z or_else floor_fell floor (place_at m family)) (none_after (unknown_family m family))
    ∙ elim (both m.families now.families family.0 (sym shows.count)) [
      | inl none ↦ let a = none.0 in let c = none.1 in rw (a, c) refl
      | inr some ↦
          let f = some.0 in
          let g = some.1.0 in
          let of : family_at m family ≡ Some f = some.1.1.0 in
          let there : slice_get now.families family.0 ≡ Some g = some.1.1.1 in
          let same : g.floor ≡ f.head.floor = (shows.families family f g of there).floor in
          let one : (if nat_lt floor.0 f.head.floor.0 then Some (replies.Floor f.head.floor) else None) ≡ told (if nat_lt floor.0 f.head.floor.0 then Some (FloorFell f.head.floor) else None) = elim (cases_Bool (nat_lt floor.0 f.head.floor.0)) [ inl y ↦ rw y refl | inr y ↦ rw y refl ] in
          let two = subst (λ (z : Ts). (if nat_lt floor.0 f.head.floor.0 then Some (replies.Floor f.head.floor) else None) ≡ told (if nat_lt floor.0 z.0 then Some (FloorFell z) else None)) (sym same) one in
          rw (of, there) two
    ]

refuses_raise : (m : State) (family : Family) (floor : Ts) (e : EngineFault) → reply_of e ≡ raised m family floor → RefusesRaise m family floor e
refuses_raise m family floor UnknownFamily q = ap Some q
refuses_raise m family floor (BelowFloor op low) q = ap Some q
refuses_raise m family floor (Fell op newest) q = ap Some q
refuses_raise m family floor (SequenceFull last) q = ap Some q
refuses_raise m family floor (FloorFell low) q = ap Some q
refuses_raise m family floor (FilesFull next) q = ap Some q
refuses_raise m family floor NoMemory q = tt
refuses_raise m family floor DiskFault q = ap Some q

pub raise_admitted : (m : State) (now : SuperVersion) (family : Family) (floor : Ts) → m.halted ≡ None → IsNow now m → raise_fault (slice_get now.families family.0) floor ≡ None → raised m family floor ≡ replies.Done
raise_admitted m now family floor up shows none = ap (λ (z : Option Reply). z otherwise replies.Done) (raise_told m now family floor shows up ∙ ap told none)

pub raise_refused : (m : State) (now : SuperVersion) (family : Family) (floor : Ts) (e : EngineFault) → m.halted ≡ None → IsNow now m → raise_fault (slice_get now.families family.0) floor ≡ Some e → RefusesRaise m family floor e
raise_refused m now family floor e up shows some = refuses_raise m family floor e (sym (ap (λ (z : Option Reply). z otherwise replies.Done) (raise_told m now family floor shows up ∙ ap told some)))

-- ---- what is judged is a refusal, and so neither want of memory nor a fault of the disk

abbrev IsRefusal : EngineFault → Type 0
IsRefusal e = as_refusal e ≡ Some e

in_memory : (e : EngineFault) → IsRefusal e → IsInMemory e
in_memory UnknownFamily is = tt
in_memory (BelowFloor op floor) is = tt
in_memory (Fell op newest) is = tt
in_memory (SequenceFull last) is = tt
in_memory (FloorFell floor) is = tt
in_memory (FilesFull next) is = tt
in_memory NoMemory is = tt
in_memory DiskFault is = absurd (cc)

in_or : (a b : Option EngineFault) → IfSome a IsRefusal → IfSome b IsRefusal → IfSome (option_or a b) IsRefusal
in_or None b x y = y
in_or (Some e) b x y = x

unknown_refuses : (families : List FamilyState) (ops : List WriteOp) → IfSome (unknown_in families ops) IsRefusal
unknown_refuses families [] = tt
unknown_refuses families (o ∷ ops) = in_or (unknown_fault (slice_get families o.family.0)) (unknown_in families ops) (one (slice_get families o.family.0)) (unknown_refuses families ops) where
  one : (g : Option FamilyState) → IfSome (unknown_fault g) IsRefusal
  one None = refl
  one (Some g) = tt

fell_refuses : (k : ℕ) (ts : Ts) (n : Option ℕ) → IfSome (fell_fault k ts n) IsRefusal
fell_refuses k ts None = tt
fell_refuses k ts (Some n) = elim (cases_Bool (nat_lt ts.0 n)) [ inl y ↦ rw y refl | inr y ↦ rw y tt ]

op_refuses : (g : Option FamilyState) (before : List WriteOp) (k : ℕ) (o : WriteOp) → IfSome (op_fault g before k o) IsRefusal
op_refuses None before k o = refl
op_refuses (Some g) before k o = elim (cases_Bool (nat_lt o.ts.0 g.floor.0)) [ inl y ↦ rw y refl | inr y ↦ rw y (fell_refuses k o.ts (greater (newest_ts (items_of_family g) o.key) (latest_at o.family o.key before))) ]

ops_refuses : (families : List FamilyState) (before : List WriteOp) (k : ℕ) (ops : List WriteOp) → IfSome (ops_fault families before k ops) IsRefusal
ops_refuses families before k [] = tt
ops_refuses families before k (o ∷ ops) = in_or (op_fault (slice_get families o.family.0) before k o) (ops_fault families (before ++ o ∷ []) (k + 1) ops) (op_refuses (slice_get families o.family.0) before k o) (ops_refuses families (before ++ o ∷ []) (k + 1) ops)

full_refuses : (last : Seq) (count : ℕ) → IfSome (full_fault last count) IsRefusal
full_refuses last count = elim (cases_Bool (nat_lt SEQUENCE_LIMIT (last.0 + count))) [ inl y ↦ rw y refl | inr y ↦ rw y tt ]

pub write_refuses : (now : SuperVersion) (ops : List WriteOp) (e : EngineFault) → write_fault now ops ≡ Some e → IsRefusal e
write_refuses now ops e is = subst (λ (o : Option EngineFault). IfSome o IsRefusal) is
    (in_or (unknown_in now.families ops) (option_or (ops_fault now.families [] 1 ops) (full_fault now.last (length ops))) (unknown_refuses now.families ops)
    (in_or (ops_fault now.families [] 1 ops) (full_fault now.last (length ops)) (ops_refuses now.families [] 1 ops) (full_refuses now.last (length ops))))

pub raise_refuses : (g : Option FamilyState) (floor : Ts) (e : EngineFault) → raise_fault g floor ≡ Some e → IsRefusal e
raise_refuses g floor e is = subst (λ (o : Option EngineFault). IfSome o IsRefusal) is (one g) where
  one : (h : Option FamilyState) → IfSome (raise_fault h floor) IsRefusal
  one None = refl
  one (Some h) = elim (cases_Bool (nat_lt floor.0 h.floor.0)) [ inl y ↦ rw y refl | inr y ↦ rw y tt ]

pub write_in_memory : (now : SuperVersion) (ops : List WriteOp) (e : EngineFault) → write_fault now ops ≡ Some e → IsInMemory e
write_in_memory now ops e is = in_memory e (write_refuses now ops e is)

pub raise_in_memory : (g : Option FamilyState) (floor : Ts) (e : EngineFault) → raise_fault g floor ≡ Some e → IsInMemory e
raise_in_memory g floor e is = in_memory e (raise_refuses g floor e is)
