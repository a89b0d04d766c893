-- The greatest timestamp of several lists, and of operations one after the other.
use Rattle.std.proofs.Common.{◌≡◌, Bor, ℕ, ◌+◌, ◌<◌, ◌≤◌, true, false, List, [], ◌∷◌, ◌++◌, length, get_or, map, max, take, drop, Option, Some, None, refl, sym, ap, ◌∙◌, subst, arith, inl, inr}
use Rattle.std.specs.Prelude.{All, IfSome, nat_lt, option_map, slice_get}
use Rattle.std.specs.List.{flat_map}
use Rattle.std.specs.Option.{is_some, option_copied, option_or}
use Rattle.std.proofs.lemmas.Bool.{cases_Bool, le-ltb, ltb-false, ltb-true}
use Rattle.std.proofs.lemmas.List.{drop_all, drop_more, take_all, take_more}
use Rattle.std.proofs.lemmas.List.Elements.{All-push}
use Rattle.ts_key.specs.declared.batch.WriteOp.{WriteOp}
use Rattle.ts_key.specs.declared.numbers.Family.{Family}
use Rattle.ts_key.specs.declared.numbers.Ts.{Ts}
use Rattle.ts_key.specs.declared.version.Version.{Version}
use Rattle.ts_key.specs.Items.{Item, items_of}
use Rattle.ts_key.specs.Visible.{is_item_of, newest, newest_ts}
use Rattle.sorted_run.specs.Runs.{latest_of}
use Rattle.memtable.specs.Memtables.{greater}
use Rattle.super_version.specs.Contents.{items_of_family}
use Rattle.super_version.proofs.Greatest.{greater-assoc, tested_upto}
use Rattle.super_version.proofs.Lists.{flat_more, inside}
use Rattle.super_version.specs.declared.family.FamilyState.{FamilyState}
use Rattle.store_engine.specs.Admission.{fell_fault, is_on_key, latest_at, latest_stamp, op_fault, ops_fault, stamp_at, unknown_fault, unknown_in, where_above}
use Rattle.store_engine.specs.declared.fault.EngineFault.{EngineFault}
use Rattle.store_engine.specs.declared.fault.EngineFault.TheVariants.{BelowFloor, UnknownFamily}

-- ---- lists

latest-append : (xs ys : List Item) → latest_stamp (xs ++ ys) ≡ max (latest_stamp xs) (latest_stamp ys)
latest-append [] ys = omega arith
latest-append (x ∷ xs) ys = omega (arith, latest-append xs ys)

pub latest_is : (vs : List Version) → latest_of vs ≡ latest_stamp (items_of vs)
latest_is [] = refl
latest_is (v ∷ vs) = ap (max v.ts.0) (latest_is vs)

-- one list more
pub latest_more : {A B : Type 0} (f : A → B) (F : B → List Item) (rs : List A) (i : ℕ) (r : A) (latest next : ℕ) → i < length rs → r ≡ get_or rs i r → latest ≡ latest_stamp (flat_map F (map f (take i rs))) → next ≡ max latest (latest_stamp (F (f r))) → next ≡ latest_stamp (flat_map F (map f (take (i + 1) rs)))
latest_more f F rs i r latest next l is so_far found =
    found ∙ ap (λ (n : ℕ). max n (latest_stamp (F (f r)))) so_far ∙ sym (latest-append (flat_map F (map f (take i rs))) (F (f r))) ∙ ap latest_stamp (sym (flat_more f F rs i r l is))

pub latest_three : (xs ys zs : List Item) (a b c : ℕ) → a ≡ latest_stamp xs → b ≡ latest_stamp ys → c ≡ latest_stamp zs → max (max a b) c ≡ latest_stamp (xs ++ (ys ++ zs))
latest_three xs ys zs a b c p q r = omega (arith, p, q, r, latest-append xs (ys ++ zs), latest-append ys zs)

-- ---- what isn't above

above_none : (ts n : ℕ) (o : Option Item) → n ≤ ts → IfSome o (λ v. v.sort_key.ts ≤ n) → where_above ts (option_map (λ v. v.sort_key.ts) o) ≡ None
above_none ts n None low h = refl
above_none ts n (Some v) low h = let e = le-ltb ts v.sort_key.ts (omega (arith, low, h)) in rw e refl

pub passed_over : (vs : List Item) (key : List ℕ) (ts : ℕ) → latest_stamp vs ≤ ts → None ≡ where_above ts (newest_ts vs key)
passed_over vs key ts low = sym (above_none ts (latest_stamp vs) (newest vs key) low (tested_upto (is_item_of key) vs))

larger : (t a c : ℕ) → nat_lt t a ≡ false → nat_lt t c ≡ true → max a c ≡ c
larger t a c x z = let l = ltb-false t a x in let g = ltb-true t c z in omega (arith, l, g)

neither : (t a c : ℕ) → nat_lt t a ≡ false → nat_lt t c ≡ false → nat_lt t (max a c) ≡ false
neither t a c x z = let l = ltb-false t a x in let g = ltb-false t c z in le-ltb t (max a c) (omega (arith, l, g))

left_out : (k : ℕ) (ts : Ts) (n : ℕ) (b : Option ℕ) → nat_lt ts.0 n ≡ false → fell_fault k ts b ≡ fell_fault k ts (greater (Some n) b)
left_out k ts n None y = rw y refl
left_out k ts n (Some j) y = elim (cases_Bool (nat_lt ts.0 j)) [
  | inl z ↦ let m : max n j ≡ j = larger ts.0 n j y z in ap (λ (i : ℕ). fell_fault k ts (Some i)) (sym m)
  | inr z ↦ let m : nat_lt ts.0 (max n j) ≡ false = neither ts.0 n j y z in rw (m, z) refl
]

-- what is kept above a timestamp tells as much as all of it
pub fell_above : (k : ℕ) (ts : Ts) (a b : Option ℕ) → fell_fault k ts (greater (where_above ts.0 a) b) ≡ fell_fault k ts (greater a b)
fell_above k ts None b = refl
fell_above k ts (Some n) b = elim (cases_Bool (nat_lt ts.0 n)) [
  | inl y ↦ rw y refl
  | inr y ↦
      let e : where_above ts.0 (Some n) ≡ None = rw y refl in
      ap (λ (z : Option ℕ). fell_fault k ts (greater z b)) e ∙ left_out k ts n b y
]

-- ---- one operation

pub below_floor : (f : FamilyState) (before : List WriteOp) (k : ℕ) (o : WriteOp) → nat_lt o.ts.0 f.floor.0 ≡ true → Some (BelowFloor k f.floor) ≡ op_fault (Some f) before k o
below_floor f before k o y = rw y refl

pub from_floor : (f : FamilyState) (before : List WriteOp) (k : ℕ) (o : WriteOp) (newest : Option ℕ) → nat_lt o.ts.0 f.floor.0 ≡ false → newest ≡ greater (where_above o.ts.0 (newest_ts (items_of_family f) o.key)) (latest_at o.family o.key before) → fell_fault k o.ts newest ≡ op_fault (Some f) before k o
from_floor f before k o newest y is = rw y (ap (fell_fault k o.ts) is ∙ fell_above k o.ts (newest_ts (items_of_family f) o.key) (latest_at o.family o.key before))

greater_none : (a : Option ℕ) → greater a None ≡ a
greater_none None = refl
greater_none (Some n) = refl

latest_at-push : (family : Family) (key : List ℕ) (ops : List WriteOp) (o : WriteOp) → latest_at family key (ops ++ o ∷ []) ≡ greater (latest_at family key ops) (stamp_at family key o)
latest_at-push family key [] o = greater_none (stamp_at family key o)
latest_at-push family key (x ∷ xs) o = ap (greater (stamp_at family key x)) (latest_at-push family key xs o) ∙ sym (greater-assoc (stamp_at family key x) (latest_at family key xs) (stamp_at family key o))

take_push : (ops : List WriteOp) (i : ℕ) (o : WriteOp) → i < length ops → o ≡ get_or ops i o → take (i + 1) ops ≡ take i ops ++ o ∷ []
take_push ops i o l is = take_more ops i o l ∙ ap (λ (x : WriteOp). take i ops ++ x ∷ []) (sym is)

drop_push : (ops : List WriteOp) (i : ℕ) (o : WriteOp) → i < length ops → o ≡ get_or ops i o → drop i ops ≡ o ∷ drop (i + 1) ops
drop_push ops i o l is = drop_more ops i o l ∙ ap (λ (x : WriteOp). x ∷ drop (i + 1) ops) (sym is)

-- an operation on the key more, and one that is on another
pub latest_on : (family : Family) (key : List ℕ) (ops : List WriteOp) (i : ℕ) (o : WriteOp) (latest next : Option ℕ) → i < length ops → o ≡ get_or ops i o → is_on_key family key o ≡ true → latest ≡ latest_at family key (take i ops) → next ≡ greater latest (Some o.ts.0) → next ≡ latest_at family key (take (i + 1) ops)
latest_on family key ops i o latest next l is on so_far found =
    let one : stamp_at family key o ≡ Some o.ts.0 = rw on refl in
    found ∙ ap (λ (z : Option ℕ). greater z (Some o.ts.0)) so_far ∙ ap (greater (latest_at family key (take i ops))) (sym one) ∙ sym (latest_at-push family key (take i ops) o) ∙ ap (latest_at family key) (sym (take_push ops i o l is))

pub latest_off : (family : Family) (key : List ℕ) (ops : List WriteOp) (i : ℕ) (o : WriteOp) (latest : Option ℕ) → i < length ops → o ≡ get_or ops i o → is_on_key family key o ≡ false → latest ≡ latest_at family key (take i ops) → latest ≡ latest_at family key (take (i + 1) ops)
latest_off family key ops i o latest l is off so_far =
    let one : stamp_at family key o ≡ None = rw off refl in
    so_far ∙ sym (greater_none (latest_at family key (take i ops))) ∙ ap (greater (latest_at family key (take i ops))) (sym one) ∙ sym (latest_at-push family key (take i ops) o) ∙ ap (latest_at family key) (sym (take_push ops i o l is))

-- what is lent is there
pub there_is : (lent : Option (Bor FamilyState)) (o : Option FamilyState) → option_copied lent ≡ o → is_some lent ≡ true → (f : FamilyState) × (o ≡ Some f)
there_is None o e y = absurd cc
there_is (Some b) o e y = (b.now, sym e)

-- ---- operations one after the other

module _ (families : List FamilyState) (ops : List WriteOp) where
  -- up to the i-th operation none was refused
  abbrev pub OpsFrom : ℕ → Type 0
  OpsFrom i = ops_fault families [] 1 ops ≡ ops_fault families (take i ops) (i + 1) (drop i ops)

  ops_step : (i : ℕ) (o : WriteOp) → i < length ops → o ≡ get_or ops i o → OpsFrom i → ops_fault families [] 1 ops ≡ option_or (op_fault (slice_get families o.family.0) (take i ops) (i + 1) o) (ops_fault families (take (i + 1) ops) (i + 1 + 1) (drop (i + 1) ops))
  ops_step i o l is from =
      from ∙ ap (ops_fault families (take i ops) (i + 1)) (drop_push ops i o l is)
      ∙ ap (λ (before : List WriteOp). option_or (op_fault (slice_get families o.family.0) (take i ops) (i + 1) o) (ops_fault families before (i + 1 + 1) (drop (i + 1) ops))) (sym (take_push ops i o l is))

  pub op_refused : (i : ℕ) (o : WriteOp) (e : EngineFault) → i < length ops → o ≡ get_or ops i o → OpsFrom i → op_fault (slice_get families o.family.0) (take i ops) (i + 1) o ≡ Some e → Some e ≡ ops_fault families [] 1 ops
  op_refused i o e l is from at = sym (ops_step i o l is from ∙ ap (λ (z : Option EngineFault). option_or z (ops_fault families (take (i + 1) ops) (i + 1 + 1) (drop (i + 1) ops))) at)

  pub op_passed : (i : ℕ) (o : WriteOp) → i < length ops → o ≡ get_or ops i o → OpsFrom i → op_fault (slice_get families o.family.0) (take i ops) (i + 1) o ≡ None → OpsFrom (i + 1)
  op_passed i o l is from at = ops_step i o l is from ∙ ap (λ (z : Option EngineFault). option_or z (ops_fault families (take (i + 1) ops) (i + 1 + 1) (drop (i + 1) ops))) at

  pub ops_passed : (i : ℕ) → length ops ≤ i → OpsFrom i → None ≡ ops_fault families [] 1 ops
  ops_passed i l from = sym (from ∙ ap (ops_fault families (take i ops) (i + 1)) (drop_all i ops l))

  -- the families of all operations before the i-th are there
  pub record KnownBefore (i : ℕ) : Type 0 where
    pub rest : unknown_in families ops ≡ unknown_in families (drop i ops)
    pub known : All (λ (o : WriteOp). o.family.0 < length families) (take i ops)

  unknown_step : (i : ℕ) (o : WriteOp) → i < length ops → o ≡ get_or ops i o → KnownBefore i → unknown_in families ops ≡ option_or (unknown_fault (slice_get families o.family.0)) (unknown_in families (drop (i + 1) ops))
  unknown_step i o l is so_far = so_far.rest ∙ ap (unknown_in families) (drop_push ops i o l is)

  pub unknown_here : (i : ℕ) (o : WriteOp) → i < length ops → o ≡ get_or ops i o → KnownBefore i → slice_get families o.family.0 ≡ None → Some UnknownFamily ≡ unknown_in families ops
  unknown_here i o l is so_far none = sym (unknown_step i o l is so_far ∙ ap (λ (z : Option FamilyState). option_or (unknown_fault z) (unknown_in families (drop (i + 1) ops))) none)

  pub known_here : (i : ℕ) (o : WriteOp) (f : FamilyState) → i < length ops → o ≡ get_or ops i o → KnownBefore i → slice_get families o.family.0 ≡ Some f → KnownBefore (i + 1)
  known_here i o f l is so_far some = record {
    rest = unknown_step i o l is so_far ∙ ap (λ (z : Option FamilyState). option_or (unknown_fault z) (unknown_in families (drop (i + 1) ops))) some;
    known = subst (All (λ (x : WriteOp). x.family.0 < length families)) (sym (take_push ops i o l is)) (All-push (λ (x : WriteOp). x.family.0 < length families) (take i ops) o so_far.known (inside o.family.0 families f some));
  }

  pub known_all : (i : ℕ) → length ops ≤ i → KnownBefore i → (None ≡ unknown_in families ops) × All (λ (o : WriteOp). o.family.0 < length families) ops
  known_all i l so_far = (sym (so_far.rest ∙ ap (unknown_in families) (drop_all i ops l)), subst (All (λ (x : WriteOp). x.family.0 < length families)) (take_all i ops l) so_far.known)
