-- Who made the entries of the history, where a seat is joined to another and where one seat is left.
use Rattle.std.proofs.lemmas.Bool.{ltb-true, lt-ltb}
use Rattle.std.proofs.Math.Dec.{ltb}
use Rattle.std.proofs.Common.{◌≡◌, ◌≢◌, ℕ, suc, ◌+◌, ◌<◌, ◌≤◌, eqb, Bool, true, false, cond, List, [], ◌∷◌, ◌++◌, map, length, sym, refl, ap, ◌∙◌, subst, arith, eq-eqb, ne_eqb, append-nil, length-append}
use mathlib.Core.Logic.{dite}
use mathlib.Core.List.{map-append}
use native.Mathlib.Decide.{ℕ_discrete, dec_le}
use Rattle.sv_gate.specs.Histories.{BeginsWithAll, AreLight, numbered, made_entries, own_of, NoneOfSeat, OwnersBelow, inserted, both_by_number, longer, HasSeenPart}
use Rattle.sv_gate.proofs.Histories.{entries_length}
use Rattle.sv_gate.proofs.Keeps.{not_true}

new_owner : (id other k : ℕ) → k ≡ other → cond (eqb k other) id k ≡ id
new_owner id other k e = ap (λ (b : Bool). cond b id k) (eq-eqb k other e)

old_owner : (id other k : ℕ) → k ≢ other → cond (eqb k other) id k ≡ k
old_owner id other k ne = ap (λ (b : Bool). cond b id k) (ne_eqb k other ne)

-- of two beginnings of one list the longer begins with the shorter
pub two_cuts : {A : Type 0} (a b c d : List A) → a ++ b ≡ c ++ d → length a ≤ length c → (m : List A) × (c ≡ a ++ m) × (b ≡ m ++ d)
two_cuts [] b c d e l = (c, refl, e)
two_cuts (x ∷ a) b [] d e l = absurd (omega arith)
two_cuts {A} (x ∷ a) b (y ∷ c) d e l = let same : a ++ b ≡ c ++ d = (cc) in let first : x ≡ y = (cc) in let h = two_cuts a b c d same (omega arith) in (h.0, (λ i. sym first i ∷ h.1 i), h.2)

module _ {E : Type 0} where
  abbrev pub renamed : ℕ → ℕ → List (ℕ × E) → List (ℕ × E)
  renamed id other made = map (λ (x : ℕ × E). (cond (eqb x.0 other) id x.0, x.1)) made

  abbrev NumbersAbove : ℕ → List (ℕ × E) → Type 0
  NumbersAbove m [] = Unit {0}
  NumbersAbove m (x ∷ xs) = (m < x.0) × NumbersAbove m xs

  abbrev pub OwnersAre : ℕ → List (ℕ × E) → Type 0
  OwnersAre id [] = Unit {0}
  OwnersAre id (x ∷ xs) = (x.0 ≡ id) × OwnersAre id xs

  pub renamed_length : (id other : ℕ) (made : List (ℕ × E)) → length (renamed id other made) ≡ length made
  renamed_length id other [] = refl
  renamed_length id other (x ∷ xs) = ap suc (renamed_length id other xs)

  pub renamed_entries : (id other : ℕ) (made : List (ℕ × E)) → made_entries (renamed id other made) ≡ made_entries made
  renamed_entries id other [] = refl
  renamed_entries id other (x ∷ xs) = ap (λ l. x.1 ∷ l) (renamed_entries id other xs)

  own_skip : (j n k : ℕ) (e : E) (xs : List (ℕ × E)) → k ≢ j → own_of j n ((k, e) ∷ xs) ≡ own_of j (n + 1) xs
  own_skip j n k e xs ne = ap (λ (b : Bool). cond b ((n + 1, e) ∷ own_of j (n + 1) xs) (own_of j (n + 1) xs)) (ne_eqb k j ne)

  own_hit : (j n k : ℕ) (e : E) (xs : List (ℕ × E)) → k ≡ j → own_of j n ((k, e) ∷ xs) ≡ (n + 1, e) ∷ own_of j (n + 1) xs
  own_hit j n k e xs is = ap (λ (b : Bool). cond b ((n + 1, e) ∷ own_of j (n + 1) xs) (own_of j (n + 1) xs)) (eq-eqb k j is)

  own_as : (j n k k' : ℕ) (e : E) (xs : List (ℕ × E)) → k ≡ k' → own_of j n ((k, e) ∷ xs) ≡ own_of j n ((k', e) ∷ xs)
  own_as j n k k' e xs is = ap (λ (z : ℕ). own_of j n ((z, e) ∷ xs)) is

  pub own_third : (id other j n : ℕ) (made : List (ℕ × E)) → j ≢ id → j ≢ other → own_of j n (renamed id other made) ≡ own_of j n made
  own_third id other j n [] a b = refl
  own_third id other j n (x ∷ xs) a b = let rest = own_third id other j (n + 1) xs a b in let k : ℕ = cond (eqb x.0 other) id x.0 in dite (ℕ_discrete x.0 other)
      (λ e. own_skip j n k x.1 (renamed id other xs) (λ h. a (sym h ∙ new_owner id other x.0 e)) ∙ (rest ∙ sym (own_skip j n x.0 x.1 xs (λ h. b (sym h ∙ e)))))
      (λ ne. own_as j n k x.0 x.1 (renamed id other xs) (old_owner id other x.0 ne) ∙ ap (λ l. cond (eqb x.0 j) ((n + 1, x.1) ∷ l) l) rest)

  pub none_third : (id other j : ℕ) (made : List (ℕ × E)) → j ≢ id → NoneOfSeat j made → NoneOfSeat j (renamed id other made)
  none_third id other j [] a h = tt
  none_third id other j (x ∷ xs) a h = (dite (ℕ_discrete x.0 other) (λ e g. a (sym g ∙ new_owner id other x.0 e)) (λ ne g. h.0 (sym (old_owner id other x.0 ne) ∙ g)), none_third id other j xs a h.1)

  pub none_spent : (id other : ℕ) (made : List (ℕ × E)) → other ≢ id → NoneOfSeat other (renamed id other made)
  none_spent id other [] a = tt
  none_spent id other (x ∷ xs) a = (dite (ℕ_discrete x.0 other) (λ e g. a (sym g ∙ new_owner id other x.0 e)) (λ ne g. ne (sym (old_owner id other x.0 ne) ∙ g)), none_spent id other xs a)

  pub none_both : (id other : ℕ) (made : List (ℕ × E)) → NoneOfSeat id made → NoneOfSeat other made → NoneOfSeat id (renamed id other made)
  none_both id other [] h g = tt
  none_both id other (x ∷ xs) h g = ((λ e. h.0 (sym (old_owner id other x.0 g.0) ∙ e)), none_both id other xs h.1 g.1)

  pub below_renamed : (id other n : ℕ) (made : List (ℕ × E)) → id < n → OwnersBelow n made → OwnersBelow n (renamed id other made)
  below_renamed id other n [] l h = tt
  below_renamed id other n (x ∷ xs) l h = (dite (ℕ_discrete x.0 other) (λ e. subst (λ (z : ℕ). z < n) (sym (new_owner id other x.0 e)) l) (λ ne. subst (λ (z : ℕ). z < n) (sym (old_owner id other x.0 ne)) h.0), below_renamed id other n xs l h.1)

  own_above : (j n m : ℕ) (made : List (ℕ × E)) → m ≤ n → NumbersAbove m (own_of j n made)
  own_above j n m [] l = tt
  own_above j n m (x ∷ xs) l = let rest = own_above j (n + 1) m xs (omega arith) in
      elim (eqb x.0 j) as (λ b. NumbersAbove m (cond b ((n + 1, x.1) ∷ own_of j (n + 1) xs) (own_of j (n + 1) xs))) [ true ↦ (omega arith, rest) | false ↦ rest ]

  insert_first : (m : ℕ) (e : E) (ys : List (ℕ × E)) → NumbersAbove m ys → inserted (m, e) ys ≡ (m, e) ∷ ys
  insert_first m e [] h = refl
  insert_first m e (y ∷ ys) h = ap (λ (b : Bool). cond b ((m, e) ∷ y ∷ ys) (y ∷ inserted (m, e) ys)) (lt-ltb m y.0 h.0)

  insert_later : (m : ℕ) (e : E) (x : ℕ × E) (ys : List (ℕ × E)) → m < x.0 → inserted x ((m, e) ∷ ys) ≡ (m, e) ∷ inserted x ys
  insert_later m e x ys l = ap (λ (b : Bool). cond b (x ∷ (m, e) ∷ ys) ((m, e) ∷ inserted x ys)) (not_true (ltb x.0 m) (λ h. let z = ltb-true x.0 m h in omega arith))

  merged_head : (m : ℕ) (e : E) (xs ys : List (ℕ × E)) → NumbersAbove m xs → both_by_number xs ((m, e) ∷ ys) ≡ (m, e) ∷ both_by_number xs ys
  merged_head m e [] ys h = refl
  merged_head m e (x ∷ xs) ys h = ap (inserted x) (merged_head m e xs ys h.1) ∙ insert_later m e x (both_by_number xs ys) h.0

  pub own_both : (id other n : ℕ) (made : List (ℕ × E)) → other ≢ id → both_by_number (own_of id n made) (own_of other n made) ≡ own_of id n (renamed id other made)
  own_both id other n [] a = refl
  own_both id other n (x ∷ xs) a = let rest = own_both id other (n + 1) xs a in let k : ℕ = cond (eqb x.0 other) id x.0 in
      let mine : List (ℕ × E) = own_of id (n + 1) xs in let theirs : List (ℕ × E) = own_of other (n + 1) xs in dite (ℕ_discrete x.0 other)
      (λ e. ap (λ l. both_by_number l (own_of other n (x ∷ xs))) (own_skip id n x.0 x.1 xs (λ h. a (sym e ∙ h))) ∙ (ap (both_by_number mine) (own_hit other n x.0 x.1 xs e)
      ∙ (merged_head (n + 1) x.1 mine theirs (own_above id (n + 1) (n + 1) xs (omega arith)) ∙ (ap (λ l. (n + 1, x.1) ∷ l) rest ∙ sym (own_hit id n k x.1 (renamed id other xs) (new_owner id other x.0 e))))))
      (λ ne. ap (both_by_number (own_of id n (x ∷ xs))) (own_skip other n x.0 x.1 xs ne) ∙ (dite (ℕ_discrete x.0 id)
      (λ is. ap (λ l. both_by_number l theirs) (own_hit id n x.0 x.1 xs is) ∙ (ap (inserted (n + 1, x.1)) rest ∙ (insert_first (n + 1) x.1 (own_of id (n + 1) (renamed id other xs)) (own_above id (n + 1) (n + 1) (renamed id other xs) (omega arith))
      ∙ sym (own_hit id n k x.1 (renamed id other xs) (old_owner id other x.0 ne ∙ is)))))
      (λ not. ap (λ l. both_by_number l theirs) (own_skip id n x.0 x.1 xs not) ∙ (rest ∙ sym (own_skip id n k x.1 (renamed id other xs) (λ h. not (sym (old_owner id other x.0 ne) ∙ h)))))))

  none_right : (j : ℕ) (a b : List (ℕ × E)) → NoneOfSeat j (a ++ b) → NoneOfSeat j b
  none_right j [] b h = h
  none_right j (x ∷ a) b h = none_right j a b h.1

  pub below_right : (n : ℕ) (a b : List (ℕ × E)) → OwnersBelow n (a ++ b) → OwnersBelow n b
  below_right n [] b h = h
  below_right n (x ∷ a) b h = below_right n a b h.1

  light_right : (light : E → Type 0) (a b : List (ℕ × E)) → AreLight light (made_entries (a ++ b)) → AreLight light (made_entries b)
  light_right light [] b h = h
  light_right light (x ∷ a) b h = light_right light a b h.1

  longer_left : (xs ys : List E) → length ys ≤ length xs → longer xs ys ≡ xs
  longer_left xs ys l = ap (λ (b : Bool). cond b ys xs) (not_true (ltb (length xs) (length ys)) (λ h. let z = ltb-true (length xs) (length ys) h in omega arith))

  longer_right : (xs ys : List E) → length xs < length ys → longer xs ys ≡ ys
  longer_right xs ys l = ap (λ (b : Bool). cond b ys xs) (lt-ltb (length xs) (length ys) l)

  pub part_third : (light : E → Type 0) (id other j : ℕ) (made : List (ℕ × E)) (seen : List E) (only : Bool) → j ≢ id → HasSeenPart light made j seen only → HasSeenPart light (renamed id other made) j seen only
  part_third light id other j made seen only a p = record {
    front = renamed id other p.front;
    rest = renamed id other p.rest;
    parts = ap (renamed id other) p.parts ∙ map-append (λ (x : ℕ × E). (let r : ℕ × E = (cond (eqb x.0 other) id x.0, x.1) in r)) p.front p.rest;
    is_seen = renamed_entries id other p.front ∙ p.is_seen;
    of_others = none_third id other j p.rest a p.of_others;
    are_light = λ h. subst (AreLight light) (sym (renamed_entries id other p.rest)) (p.are_light h);
  }

  -- the rest of the longer of two beginnings has no entry of either seat
  rest_of : (light : E → Type 0) (id other : ℕ) (made a b : List (ℕ × E)) (seen : List E) (only : Bool) → made ≡ a ++ b → made_entries a ≡ seen → NoneOfSeat id b → NoneOfSeat other b → (only ≡ true → AreLight light (made_entries b))
      → HasSeenPart light (renamed id other made) id seen only
  rest_of light id other made a b seen only e s m t l = record {
    front = renamed id other a;
    rest = renamed id other b;
    parts = ap (renamed id other) e ∙ map-append (λ (x : ℕ × E). (let r : ℕ × E = (cond (eqb x.0 other) id x.0, x.1) in r)) a b;
    is_seen = renamed_entries id other a ∙ s;
    of_others = none_both id other b m t;
    are_light = λ h. subst (AreLight light) (sym (renamed_entries id other b)) (l h);
  }

  pub part_both : (light : E → Type 0) (id other : ℕ) (made : List (ℕ × E)) (seen told : List E) (only only' : Bool) → HasSeenPart light made id seen only → HasSeenPart light made other told only'
      → HasSeenPart light (renamed id other made) id (longer seen told) only
  part_both light id other made seen told only only' p q = dite (dec_le (length told) (length seen))
      (λ le. let h = two_cuts q.front q.rest p.front p.rest (sym q.parts ∙ p.parts) (let x = entries_length p.front in let y = entries_length q.front in let z = ap length p.is_seen in let w = ap length q.is_seen in omega arith) in
      subst (λ (l : List E). HasSeenPart light (renamed id other made) id l only) (sym (longer_left seen told le))
      (rest_of light id other made p.front p.rest seen only p.parts p.is_seen p.of_others (none_right other h.0 p.rest (subst (NoneOfSeat other) h.2 q.of_others)) p.are_light))
      (λ gt. let h = two_cuts p.front p.rest q.front q.rest (sym p.parts ∙ q.parts) (let x = entries_length p.front in let y = entries_length q.front in let z = ap length p.is_seen in let w = ap length q.is_seen in omega arith) in
      subst (λ (l : List E). HasSeenPart light (renamed id other made) id l only) (sym (longer_right seen told (omega arith)))
      (rest_of light id other made q.front q.rest told only q.parts q.is_seen (none_right id h.0 q.rest (subst (NoneOfSeat id) h.2 p.of_others)) q.of_others
      (λ is. light_right light h.0 q.rest (subst (λ (l : List (ℕ × E)). AreLight light (made_entries l)) h.2 (p.are_light is)))))

  pub longer_whole : (light : E → Type 0) (j : ℕ) (made : List (ℕ × E)) (seen told : List E) (only : Bool) → seen ≡ made_entries made → HasSeenPart light made j told only → longer seen told ≡ seen
  longer_whole light j made seen told only is q = longer_left seen told (let x = length-append q.front q.rest in let y = ap length q.parts in let z = ap length q.is_seen in let u = ap length is in let v = entries_length q.front in let w = entries_length made in omega arith)

  -- of two beginnings of one list, the longer begins with each
  pub longer_begins : (log seen told : List E) → BeginsWithAll log (seen ∷ told ∷ []) → BeginsWithAll (longer seen told) (seen ∷ told ∷ [])
  longer_begins log seen told h = dite (dec_le (length told) (length seen))
      (λ le. let m = two_cuts told h.1.0.0 seen h.0.0 (sym h.1.0.1 ∙ h.0.1) le in subst (λ (l : List E). BeginsWithAll l (seen ∷ told ∷ [])) (sym (longer_left seen told le)) (([], sym (append-nil seen)), ((m.0, m.1), tt)))
      (λ gt. let m = two_cuts seen h.0.0 told h.1.0.0 (sym h.0.1 ∙ h.1.0.1) (omega arith) in subst (λ (l : List E). BeginsWithAll l (seen ∷ told ∷ [])) (sym (longer_right seen told (omega arith))) ((m.0, m.1), (([], sym (append-nil told)), tt)))

  pub none_own : (j n : ℕ) (made : List (ℕ × E)) → own_of j n made ≡ [] → NoneOfSeat j made
  none_own j n [] e = tt
  none_own j n (x ∷ xs) e = dite (ℕ_discrete x.0 j) (λ is. let h = sym (own_hit j n x.0 x.1 xs is) ∙ e in absurd (cc)) (λ ne. (ne, none_own j (n + 1) xs (sym (own_skip j n x.0 x.1 xs ne) ∙ e)))

  pub all_of : (id n : ℕ) (made : List (ℕ × E)) → OwnersBelow n made → ((j : ℕ) → j < n → j ≢ id → NoneOfSeat j made) → OwnersAre id made
  all_of id n [] h none = tt
  all_of id n (x ∷ xs) h none = (dite (ℕ_discrete x.0 id) (λ e. e) (λ ne. absurd ((none x.0 h.0 ne).0 refl)), all_of id n xs h.1 (λ j l ne. (none j l ne).1))

  pub own_all : (id n : ℕ) (made : List (ℕ × E)) → OwnersAre id made → own_of id n made ≡ numbered n (made_entries made)
  own_all id n [] h = refl
  own_all id n (x ∷ xs) h = own_hit id n x.0 x.1 xs h.0 ∙ ap (λ l. (n + 1, x.1) ∷ l) (own_all id (n + 1) xs h.1)

  all_right : (id : ℕ) (a b : List (ℕ × E)) → OwnersAre id (a ++ b) → OwnersAre id b
  all_right id [] b h = h
  all_right id (x ∷ a) b h = all_right id a b h.1

  none_left : (id : ℕ) (b : List (ℕ × E)) → OwnersAre id b → NoneOfSeat id b → b ≡ []
  none_left id [] h n = refl
  none_left id (x ∷ b) h n = absurd (n.0 h.0)

  pub seen_all : (light : E → Type 0) (id : ℕ) (made : List (ℕ × E)) (seen : List E) (only : Bool) → OwnersAre id made → HasSeenPart light made id seen only → seen ≡ made_entries made
  seen_all light id made seen only h p = let rest : p.rest ≡ [] = none_left id p.rest (all_right id p.front p.rest (subst (OwnersAre id) p.parts h)) p.of_others in
      sym p.is_seen ∙ sym (ap (λ (l : List (ℕ × E)). made_entries l) (p.parts ∙ (ap (λ l. p.front ++ l) rest ∙ append-nil p.front)))
