-- The deletes that a collection takes out of a key's run: those at its end.
use Rattle.std.proofs.Common.{◌≡◌, ℕ, ◌≤◌, Bool, true, false, cond, not, ◌&&◌, ◌||◌, List, [], ◌∷◌, ◌++◌, refl, sym, ap, subst, ◌∙◌, ◌⊎◌, inl, inr, arith, append_assoc, eq-eqb}
use Rattle.std.specs.Prelude.{filter, if◌then◌else◌, nat_le, ◌==◌}
use Rattle.std.specs.List.{list_any, AllByRecursion}
use Rattle.std.specs.Str.{bytes_eq}
use Rattle.std.proofs.lemmas.Bool.{cases_Bool, and_parts, leb-true, le-leb}
use Rattle.std.proofs.lemmas.Bool.Decides.{nat_tests}
use Rattle.std.proofs.lemmas.List.Elements.{filter-append}
use Rattle.std.proofs.lemmas.Slice.Eq.{bytes_eq-Decides}
use Rattle.ts_key.specs.declared.numbers.Ts.{Ts}
use Rattle.ts_key.specs.declared.version.Version.{Version}
use Rattle.udt_model.specs.declared.reply.KeySpan.{KeySpan}
use Rattle.udt_model.specs.Versions.{is_newer, is_of, is_put}
use Rattle.udt_model.specs.Orders.{is_in_some}
use Rattle.udt_model.specs.Collecting.{is_put_below, is_useless, without_useless}
use Rattle.history_gc.specs.Pushed.{StandsBefore, MayFollow, AreInOrder}
use Rattle.history_gc.specs.Streaming.{is_old_delete, is_low, trim_on, trim}
use Rattle.history_gc.specs.States.{AllOf, NoneOf}
use Rattle.history_gc.proofs.Kept.{any_append, earlier_newer, later_not_newer, later_ts, next_both, not_newer_itself}

abbrev puts : List Version → Bool
puts vs = list_any (λ u. is_put u.op) vs

pub all_snoc : (k : List ℕ) (ps : List Version) (v : Version) → AllOf k ps → v.key ≡ k → AllOf k (ps ++ v ∷ [])
all_snoc k [] v h e = (e, tt)
all_snoc k (u ∷ us) v h e = (h.0, all_snoc k us v h.1 e)

module _ (f : Ts) (deeper : List KeySpan) where
  abbrev low : Version → Bool
  low = is_low f deeper

  -- ---- puts below a version

  other_key : (u v : Version) → (u.key ≡ v.key → ⊥) → is_put_below v u ≡ false
  other_key u v n =
      elim (cases_Bool (bytes_eq u.key v.key)) [
        | inl y ↦ absurd (n ((bytes_eq-Decides u.key v.key).0 y))
        | inr y ↦ ap (λ b. (is_put u.op && (u.family.0 == v.family.0 && b)) && is_newer v u) y ∙ and_none (is_put u.op) (u.family.0 == v.family.0) (is_newer v u)
      ]
    where
      and_none : (a b c : Bool) → ((a && (b && false)) && c) ≡ false
      and_none true true c = refl
      and_none true false c = refl
      and_none false b c = refl

  none_put : (v : Version) (us : List Version) → NoneOf v.key us → list_any (is_put_below v) us ≡ false
  none_put v [] h = refl
  none_put v (u ∷ us) h = λ i. other_key u v h.0 i || none_put v us h.1 i

  not_below : (u v : Version) → is_newer v u ≡ false → is_put_below v u ≡ false
  not_below u v n = ap (λ b. (is_put u.op && is_of v.family v.key u) && b) n ∙ nothing (is_put u.op && is_of v.family v.key u)
    where
      nothing : (a : Bool) → (a && false) ≡ false
      nothing true = refl
      nothing false = refl

  -- an earlier one of the key isn't below
  none_earlier : (k : List ℕ) (v : Version) (us : List Version) → v.key ≡ k → AllOf k us → MayFollow us v → list_any (is_put_below v) us ≡ false
  none_earlier k v [] e a b = refl
  none_earlier k v (u ∷ us) e a b = λ i. not_below u v (later_not_newer u v (a.0 ∙ sym e) b.0) i || none_earlier k v us e a.1 b.1 i

  -- a later put of the key is below
  puts_later : (k : List ℕ) (v : Version) (us : List Version) → v.key ≡ k → AllOf k us → AllByRecursion (λ w. StandsBefore v w) us → list_any (is_put_below v) us ≡ puts us
  puts_later k v [] e a b = refl
  puts_later k v (u ∷ us) e a b =
      let same : bytes_eq u.key v.key ≡ true = (bytes_eq-Decides u.key v.key).1 (a.0 ∙ sym e) in
      let family : (u.family.0 == v.family.0) ≡ true = eq-eqb u.family.0 v.family.0 (sym b.0.0) in
      let newer : is_newer v u ≡ true = earlier_newer v u (e ∙ sym a.0) b.0 in
      let below : is_put_below v u ≡ is_put u.op = (λ i. (is_put u.op && (family i && same i)) && newer i) ∙ and_true (is_put u.op) in
      λ i. below i || puts_later k v us e a.1 b.1 i
    where
      and_true : (b : Bool) → ((b && true) && true) ≡ b
      and_true true = refl
      and_true false = refl

  -- ---- a run

  abbrev unspent_run : List Version → List Version
  unspent_run [] = []
  unspent_run (v ∷ vs) = if low v && not (puts vs) then unspent_run vs else v ∷ unspent_run vs

  flip : (b : Bool) → not b ≡ true → b ≡ false
  flip true h = sym h
  flip false h = refl

  low_is : (v : Version) → low v ≡ true → (is_put v.op ≡ false) × (v.ts.0 ≤ f.0) × (is_in_some deeper v.key ≡ false)
  low_is v h =
      let a = and_parts (is_old_delete f v) (not (is_in_some deeper v.key)) h in
      let b = and_parts (not (is_put v.op)) (nat_le v.ts.0 f.0) a.0 in
      (flip (is_put v.op) b.0, leb-true v.ts.0 f.0 b.1, flip (is_in_some deeper v.key) a.1)

  low_from : (v : Version) → is_put v.op ≡ false → v.ts.0 ≤ f.0 → is_in_some deeper v.key ≡ false → low v ≡ true
  low_from v p t c = let q : nat_le v.ts.0 f.0 ≡ true = le-leb v.ts.0 f.0 t in (λ i. (not (p i) && q i) && not (c i))

  or_parts : (a b : Bool) → (a || b) ≡ false → (a ≡ false) × (b ≡ false)
  or_parts true b h = absurd cc
  or_parts false b h = (refl, h)

  -- after a low delete without a put behind it nothing stays
  trim_gone : (k : List ℕ) (v : Version) (vs : List Version) → v.key ≡ k → AllOf k vs → AllByRecursion (λ w. StandsBefore v w) vs → low v ≡ true → puts vs ≡ false → trim low vs ≡ []
  trim_gone k v [] e a b h p = refl
  trim_gone k v (u ∷ us) e a b h p =
      let q = or_parts (is_put u.op) (puts us) p in
      let z = low_is v h in
      let t : u.ts.0 ≤ v.ts.0 = later_ts v u (e ∙ sym a.0) b.0 in
      let l : low u ≡ true = low_from u q.0 (let y = z.1 in omega (arith, t, y)) (ap (is_in_some deeper) (a.0 ∙ sym e) ∙ z.2) in
      let r : trim low us ≡ [] = trim_gone k v us e a.1 b.1 h q.1 in
      ap (trim_on low u) r ∙ ap (λ c. if c then [] else u ∷ []) l

  trim_on_stays : (v : Version) (ts : List Version) → (low v ≡ false) ⊎ ((ts ≡ []) → ⊥) → trim_on low v ts ≡ v ∷ ts
  trim_on_stays v [] (inl h) = ap (λ c. if c then [] else v ∷ []) h
  trim_on_stays v [] (inr n) = absurd (n refl)
  trim_on_stays v (x ∷ xs) h = refl

  cons_none : (v : Version) (xs : List Version) → v ∷ xs ≡ [] → ⊥
  cons_none v xs e = cc

  trim_kept : (v : Version) (ts : List Version) → (low v ≡ false) ⊎ ((ts ≡ []) → ⊥) → trim_on low v ts ≡ [] → ⊥
  trim_kept v ts h e = cons_none v ts (sym (trim_on_stays v ts h) ∙ e)

  put_not_low : (v : Version) → is_put v.op ≡ true → low v ≡ false
  put_not_low v p = ap (λ b. (not b && nat_le v.ts.0 f.0) && not (is_in_some deeper v.key)) p

  -- where there is a put something stays
  trim_some : (vs : List Version) → puts vs ≡ true → trim low vs ≡ [] → ⊥
  trim_some [] p e = cc
  trim_some (v ∷ vs) p e =
      elim (cases_Bool (is_put v.op)) [
        | inl y ↦ trim_kept v (trim low vs) (inl (put_not_low v y)) e
        | inr y ↦ trim_kept v (trim low vs) (inr (trim_some vs (sym (ap (λ b. b || puts vs) y) ∙ p))) e
      ]

  run_is : (k : List ℕ) (vs : List Version) → AllOf k vs → AreInOrder vs → unspent_run vs ≡ trim low vs
  run_is k [] a so = refl
  run_is k (v ∷ vs) a so =
      let r = run_is k vs a.1 so.1 in
      elim (cases_Bool (low v)) [
        | inl y ↦ elim (cases_Bool (puts vs)) [
          | inl p ↦ (λ i. if y i && not (p i) then unspent_run vs else v ∷ unspent_run vs) ∙ ap (λ ts. v ∷ ts) r ∙ sym (trim_on_stays v (trim low vs) (inr (trim_some vs p)))
          | inr p ↦
              let g : trim low vs ≡ [] = trim_gone k v vs a.0 a.1 so.0 y p in
              let left : unspent_run (v ∷ vs) ≡ unspent_run vs = (λ i. if y i && not (p i) then unspent_run vs else v ∷ unspent_run vs) in
              left ∙ r ∙ g ∙ sym (ap (trim_on low v) g ∙ ap (λ c. if c then [] else v ∷ []) y)
        ]
        | inr y ↦
            let left : unspent_run (v ∷ vs) ≡ v ∷ unspent_run vs = ap (λ b. if b && not (puts vs) then unspent_run vs else v ∷ unspent_run vs) y in
            left ∙ ap (λ ts. v ∷ ts) r ∙ sym (trim_on_stays v (trim low vs) (inl y))
      ]

  -- ---- several keys

  next_snoc : (ds : List Version) (v : Version) (ws : List Version) → AllByRecursion (λ w. MayFollow ds w) ws → AllByRecursion (λ w. StandsBefore v w) ws → AllByRecursion (λ w. MayFollow (ds ++ v ∷ []) w) ws
  next_snoc ds v [] h l = tt
  next_snoc ds v (w ∷ ws) h l = (next_both ds v w h.0 l.0, next_snoc ds v ws h.1 l.1)

  branch : (v : Version) (b c : Bool) → b ≡ c → (xs ys : List Version) → xs ≡ ys → cond (not b) (v ∷ xs) xs ≡ (if c then ys else v ∷ ys)
  branch v true true e xs ys r = r
  branch v false false e xs ys r = ap (λ zs. v ∷ zs) r
  branch v true false e xs ys r = absurd cc
  branch v false true e xs ys r = absurd cc

  -- the useless ones among all, in a run behind others
  run_of : (k : List ℕ) (es ds vs : List Version) → NoneOf k es → AllOf k ds → AllOf k vs → AreInOrder vs → AllByRecursion (λ v. MayFollow ds v) vs → filter (λ v. not (is_useless (es ++ (ds ++ vs)) f deeper v)) vs ≡ unspent_run vs
  run_of k es ds [] n d a so b = refl
  run_of k es ds (v ∷ vs) n d a so b =
      let none : list_any (is_put_below v) es ≡ false = none_put v es (subst (λ m. NoneOf m es) (sym a.0) n) in
      let early : list_any (is_put_below v) ds ≡ false = none_earlier k v ds a.0 d b.0 in
      let own : is_put_below v v ≡ false = not_below v v (not_newer_itself v) in
      let late = puts_later k v vs a.0 a.1 so.0 in
      let any : list_any (is_put_below v) (es ++ (ds ++ v ∷ vs)) ≡ puts vs =
      any_append (is_put_below v) es (ds ++ v ∷ vs) ∙ ap (λ c. c || list_any (is_put_below v) (ds ++ v ∷ vs)) none
      ∙ any_append (is_put_below v) ds (v ∷ vs) ∙ ap (λ c. c || list_any (is_put_below v) (v ∷ vs)) early
      ∙ ap (λ c. c || list_any (is_put_below v) vs) own ∙ late in
      let spent : is_useless (es ++ (ds ++ v ∷ vs)) f deeper v ≡ (low v && not (puts vs)) = ap (λ c. low v && not c) any in
      let rest : filter (λ x. not (is_useless (es ++ (ds ++ v ∷ vs)) f deeper x)) vs ≡ unspent_run vs =
      ap (λ ws. filter (λ x. not (is_useless (es ++ ws) f deeper x)) vs) (sym (append_assoc ds (v ∷ []) vs))
      ∙ run_of k es (ds ++ v ∷ []) vs n (all_snoc k ds v d a.0) a.1 so.1 (next_snoc ds v vs b.1 so.0) in
      branch v (is_useless (es ++ (ds ++ v ∷ vs)) f deeper v) (low v && not (puts vs)) spent (filter (λ x. not (is_useless (es ++ (ds ++ v ∷ vs)) f deeper x)) vs) (unspent_run vs) rest

  front_same : (es rs vs : List Version) → AllByRecursion (λ v. NoneOf v.key rs) vs → filter (λ v. not (is_useless (es ++ rs) f deeper v)) vs ≡ filter (λ v. not (is_useless es f deeper v)) vs
  front_same es rs [] h = refl
  front_same es rs (v ∷ vs) h =
      let any : list_any (is_put_below v) (es ++ rs) ≡ list_any (is_put_below v) es = any_append (is_put_below v) es rs ∙ ap (λ c. list_any (is_put_below v) es || c) (none_put v rs h.0) ∙ or_false (list_any (is_put_below v) es) in
      (λ i. cond (not (low v && not (any i))) (v ∷ front_same es rs vs h.1 i) (front_same es rs vs h.1 i))
    where
      or_false : (b : Bool) → (b || false) ≡ b
      or_false true = refl
      or_false false = refl

  none_swap : (k : List ℕ) (rs : List Version) → AllOf k rs → (a : List ℕ) → (a ≡ k → ⊥) → NoneOf a rs
  none_swap k [] h a n = tt
  none_swap k (r ∷ rs) h a n = ((λ q. n (sym q ∙ h.0)), none_swap k rs h.1 a n)

  none_all : (k : List ℕ) (rs : List Version) → AllOf k rs → (es : List Version) → NoneOf k es → AllByRecursion (λ v. NoneOf v.key rs) es
  none_all k rs h [] n = tt
  none_all k rs h (a ∷ es) n = (none_swap k rs h a.key n.0, none_all k rs h es n.1)

  free : (rs : List Version) → AllByRecursion (λ v. MayFollow [] v) rs
  free [] = tt
  free (r ∷ rs) = (tt, free rs)

  -- a run behind other keys: the others stay as they were collected, and the run loses its end
  pub useless_more : (k : List ℕ) (es rs : List Version) → NoneOf k es → AllOf k rs → AreInOrder rs → without_useless f deeper (es ++ rs) ≡ without_useless f deeper es ++ trim low rs
  useless_more k es rs n a so =
      filter-append (λ v. not (is_useless (es ++ rs) f deeper v)) es rs
      ∙ ap (λ xs. xs ++ filter (λ v. not (is_useless (es ++ rs) f deeper v)) rs) (front_same es rs es (none_all k rs a es n))
      ∙ ap (λ xs. without_useless f deeper es ++ xs) (run_of k es [] rs n tt a so (free rs) ∙ run_is k rs a so)
