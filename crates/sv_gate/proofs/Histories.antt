-- Lists of entries, and what a seat has of them.
use Rattle.std.proofs.Common.{◌≡◌, ◌≢◌, ℕ, suc, ◌+◌, ◌<◌, ◌≤◌, eqb, Bool, true, false, cond, List, [], ◌∷◌, ◌++◌, length, sym, refl, ap, ◌∙◌, subst, arith, eq-eqb, ne_eqb, append_assoc, append-nil}
use mathlib.Core.List.{map-append}
use Rattle.sv_gate.specs.Histories.{Ascends, AreLight, AreLegal, made_entries, own_of, NoneOfSeat, OwnersBelow, HasSeenPart, IsLater, BeginsWithAll}

module _ {E : Type 0} where
  pub entries_snoc : (made : List (ℕ × E)) (k : ℕ) (e : E) → made_entries (made ++ (k, e) ∷ []) ≡ made_entries made ++ e ∷ []
  entries_snoc made k e = map-append (λ (x : ℕ × E). x.1) made ((k, e) ∷ [])

  pub entries_length : (made : List (ℕ × E)) → length (made_entries made) ≡ length made
  entries_length [] = refl
  entries_length (x ∷ xs) = ap suc (entries_length xs)

  pub light_snoc : (light : E → Type 0) (xs : List E) (e : E) → AreLight light xs → light e → AreLight light (xs ++ e ∷ [])
  light_snoc light [] e h l = (l, tt)
  light_snoc light (x ∷ xs) e h l = (h.0, light_snoc light xs e h.1 l)

  pub none_snoc : (j : ℕ) (xs : List (ℕ × E)) (x : ℕ × E) → NoneOfSeat j xs → x.0 ≢ j → NoneOfSeat j (xs ++ x ∷ [])
  none_snoc j [] x h n = (n, tt)
  none_snoc j (y ∷ ys) x h n = (h.0, none_snoc j ys x h.1 n)

  pub below_snoc : (n : ℕ) (xs : List (ℕ × E)) (x : ℕ × E) → OwnersBelow n xs → x.0 < n → OwnersBelow n (xs ++ x ∷ [])
  below_snoc n [] x h l = (l, tt)
  below_snoc n (y ∷ ys) x h l = (h.0, below_snoc n ys x h.1 l)

  pub below_more : (n m : ℕ) (xs : List (ℕ × E)) → n ≤ m → OwnersBelow n xs → OwnersBelow m xs
  below_more n m [] l h = tt
  below_more n m (x ∷ xs) l h = let a = h.0 in (omega arith, below_more n m xs l h.1)

  pub legal_snoc : (follows : List E → E → Type 0) (past xs : List E) (e : E) → AreLegal follows past xs → follows (past ++ xs) e → AreLegal follows past (xs ++ e ∷ [])
  legal_snoc follows past [] e h f = (subst (λ (l : List E). follows l e) (append-nil past) f, tt)
  legal_snoc follows past (x ∷ xs) e h f = (h.0, legal_snoc follows (past ++ x ∷ []) xs e h.1 (subst (λ (l : List E). follows l e) (sym (append_assoc past (x ∷ []) xs)) f))

  pub legal_after : (follows : List E → E → Type 0) (past xs ys : List E) → AreLegal follows past (xs ++ ys) → AreLegal follows (past ++ xs) ys
  legal_after follows past [] ys h = subst (λ (l : List E). AreLegal follows l ys) (sym (append-nil past)) h
  legal_after follows past (x ∷ xs) ys h = subst (λ (l : List E). AreLegal follows l ys) (append_assoc past (x ∷ []) xs) (legal_after follows (past ++ x ∷ []) xs ys h.1)

  own_snoc : (j n k m : ℕ) (e : E) (made : List (ℕ × E)) → m ≡ n + length made + 1 → own_of j n (made ++ (k, e) ∷ []) ≡ own_of j n made ++ cond (eqb k j) ((m, e) ∷ []) []
  own_snoc j n k m e [] is = ap (λ (z : ℕ). cond (eqb k j) ((z, e) ∷ []) []) (omega arith)
  own_snoc j n k m e (x ∷ xs) is = let rest = own_snoc j (n + 1) k m e xs (omega arith) in
      elim (eqb x.0 j) as (λ b. cond b ((n + 1, x.1) ∷ own_of j (n + 1) (xs ++ (k, e) ∷ [])) (own_of j (n + 1) (xs ++ (k, e) ∷ [])) ≡ cond b ((n + 1, x.1) ∷ own_of j (n + 1) xs) (own_of j (n + 1) xs) ++ cond (eqb k j) ((m, e) ∷ []) [])
      [ true ↦ ap (λ l. (n + 1, x.1) ∷ l) rest | false ↦ rest ]

  pub own_mine : (j n : ℕ) (e : E) (made : List (ℕ × E)) → own_of j n (made ++ (j, e) ∷ []) ≡ own_of j n made ++ (n + length made + 1, e) ∷ []
  own_mine j n e made = own_snoc j n j (n + length made + 1) e made refl ∙ ap (λ (b : Bool). own_of j n made ++ cond b ((n + length made + 1, e) ∷ []) []) (eq-eqb j j refl)

  pub own_others : (j n k : ℕ) (e : E) (made : List (ℕ × E)) → k ≢ j → own_of j n (made ++ (k, e) ∷ []) ≡ own_of j n made
  own_others j n k e made other = own_snoc j n k (n + length made + 1) e made refl ∙ (ap (λ (b : Bool). own_of j n made ++ cond b ((n + length made + 1, e) ∷ []) []) (ne_eqb k j other) ∙ append-nil (own_of j n made))

  pub own_none : (j n : ℕ) (made : List (ℕ × E)) → NoneOfSeat j made → own_of j n made ≡ []
  own_none j n [] h = refl
  own_none j n (x ∷ xs) h = ap (λ (b : Bool). cond b ((n + 1, x.1) ∷ own_of j (n + 1) xs) (own_of j (n + 1) xs)) (ne_eqb x.0 j h.0) ∙ own_none j (n + 1) xs h.1

  pub none_below : (j n : ℕ) (made : List (ℕ × E)) → n ≤ j → OwnersBelow n made → NoneOfSeat j made
  none_below j n [] l h = tt
  none_below j n (x ∷ xs) l h = let a = h.0 in ((λ e. omega arith), none_below j n xs l h.1)

  ascends_from : (m n k : ℕ) (xs : List (ℕ × E)) → k ≤ n → Ascends m n xs → Ascends m k xs
  ascends_from m n k [] low h = omega arith
  ascends_from m n k (x ∷ xs) low h = let first = h.0 in (omega arith, h.1)

  -- the entries of a seat have ascending numbers
  pub own_ascends : (j n m : ℕ) (made : List (ℕ × E)) → n + length made ≤ m → Ascends m n (own_of j n made)
  own_ascends j n m [] room = omega arith
  own_ascends j n m (x ∷ xs) room = let rest = own_ascends j (n + 1) m xs (omega arith) in
      elim (eqb x.0 j) as (λ b. Ascends m n (cond b ((n + 1, x.1) ∷ own_of j (n + 1) xs) (own_of j (n + 1) xs))) [ true ↦ (omega arith, rest) | false ↦ ascends_from m (n + 1) n (own_of j (n + 1) xs) (omega arith) rest ]

  own_front : (j n : ℕ) (front rest : List (ℕ × E)) → NoneOfSeat j rest → own_of j n (front ++ rest) ≡ own_of j n front
  own_front j n [] rest none = own_none j n rest none
  own_front j n (x ∷ xs) rest none = let same = own_front j (n + 1) xs rest none in ap (λ (l : List (ℕ × E)). cond (eqb x.0 j) ((n + 1, x.1) ∷ l) l) same

  -- up to the last entry that it has seen
  pub own_in_order : (light : E → Type 0) (made : List (ℕ × E)) (j n : ℕ) (seen : List E) (only : Bool) → HasSeenPart light made j seen only → Ascends (n + length seen) n (own_of j n made)
  own_in_order light made j n seen only p = let same = ap (own_of j n) p.parts ∙ own_front j n p.front p.rest p.of_others in
      subst (Ascends (n + length seen) n) (sym same) (own_ascends j n (n + length seen) p.front (let a = entries_length p.front in let b = ap length p.is_seen in omega arith))

  -- an entry behind the others, with a number above all of theirs
  pub ascends_snoc : (m n k : ℕ) (e : E) (xs : List (ℕ × E)) → m < k → Ascends m n xs → Ascends k n (xs ++ (k, e) ∷ [])
  ascends_snoc m n k e [] above h = (omega arith, omega arith)
  ascends_snoc m n k e (x ∷ xs) above h = (h.0, ascends_snoc m x.0 k e xs above h.1)

  pub whole : (light : E → Type 0) (made : List (ℕ × E)) (j : ℕ) (only : Bool) → HasSeenPart light made j (made_entries made) only
  whole light made j only = record { front = made; rest = []; parts = sym (append-nil made); is_seen = refl; of_others = tt; are_light = λ _. tt }

  -- an entry of another seat, which is light where `only` holds
  pub part_others : (light : E → Type 0) (made : List (ℕ × E)) (j k : ℕ) (e : E) (seen : List E) (only : Bool) → k ≢ j → (only ≡ true → light e) → HasSeenPart light made j seen only → HasSeenPart light (made ++ (k, e) ∷ []) j seen only
  part_others light made j k e seen only other l p = record {
    front = p.front;
    rest = p.rest ++ (k, e) ∷ [];
    parts = ap (λ x. x ++ (k, e) ∷ []) p.parts ∙ append_assoc p.front p.rest ((k, e) ∷ []);
    is_seen = p.is_seen;
    of_others = none_snoc j p.rest (k, e) p.of_others other;
    are_light = λ is. subst (AreLight light) (sym (entries_snoc p.rest k e)) (light_snoc light (made_entries p.rest) e (p.are_light is) (l is));
  }

  pub part_weaker : (light : E → Type 0) (made : List (ℕ × E)) (j : ℕ) (seen : List E) (only : Bool) → HasSeenPart light made j seen only → HasSeenPart light made j seen false
  part_weaker light made j seen only p = record { front = p.front; rest = p.rest; parts = p.parts; is_seen = p.is_seen; of_others = p.of_others; are_light = λ no. absurd (cc) }

  -- what was seen later begins with what was seen before
  pub part_later : (light : E → Type 0) (made : List (ℕ × E)) (j : ℕ) (seen : List E) (only : Bool) → HasSeenPart light made j seen only → IsLater light only seen (made_entries made)
  part_later light made j seen only p = record {
    others = made_entries p.rest;
    is = ap (λ (l : List (ℕ × E)). made_entries l) p.parts ∙ (map-append (λ (x : ℕ × E). x.1) p.front p.rest ∙ ap (λ (l : List E). l ++ made_entries p.rest) p.is_seen);
    are_light = p.are_light;
  }

  -- a commit that shows a list shows it also when light entries follow
  pub stays_all : {C : Type 0} (follows : List E → E → Type 0) (commits : C → List E → Type 0) (light : E → Type 0)
      → ((c : C) (log : List E) (e : E) → commits c log → follows log e → light e → commits c (log ++ e ∷ [])) → (c : C) (xs ys : List E) → commits c xs → AreLegal follows xs ys → AreLight light ys → commits c (xs ++ ys)
  stays_all follows commits light stays c xs [] k h l = subst (commits c) (sym (append-nil xs)) k
  stays_all follows commits light stays c xs (y ∷ ys) k h l = subst (commits c) (append_assoc xs (y ∷ []) ys) (stays_all follows commits light stays c (xs ++ y ∷ []) ys (stays c xs y k h.0 l.0) h.1 l.1)

  pub begin_more : (log others : List E) (ls : List (List E)) (log' : List E) → log' ≡ log ++ others → BeginsWithAll log ls → BeginsWithAll log' ls
  begin_more log others [] log' e h = tt
  begin_more log others (l ∷ ls) log' e h = ((h.0.0 ++ others, e ∙ (ap (λ (x : List E). x ++ others) h.0.1 ∙ append_assoc l h.0.0 others)), begin_more log others ls log' e h.1)
