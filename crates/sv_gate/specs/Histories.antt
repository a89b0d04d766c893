-- Histories of entries, and what a seat made and saw of one.
use Rattle.std.specs.Prelude.{◌≡◌, ◌≢◌, ℕ, ◌+◌, ◌<◌, ◌≤◌, ◌==◌, nat_lt, Bool, true, cond, List, [], ◌∷◌, ◌++◌, map, length, Contains}

module _ {E : Type 0} where
  -- the list begins with what was seen
  abbrev pub StartsWith : List E → List E → Type 0
  StartsWith log seen = (others : List E) × (log ≡ seen ++ others)

  -- it begins with each of these lists
  abbrev pub BeginsWithAll : List E → List (List E) → Type 0
  BeginsWithAll log [] = Unit {0}
  BeginsWithAll log (seen ∷ more) = StartsWith log seen × BeginsWithAll log more

  -- each of these entries is light: a commit shows the same after it
  abbrev pub AreLight : (E → Type 0) → List E → Type 0
  AreLight light [] = Unit {0}
  AreLight light (e ∷ es) = light e × AreLight light es

  -- What is seen now begins with what was seen before. A seat that had the commit meanwhile finds only light entries of
  -- others behind that.
  pub record IsLater (light : E → Type 0) (has_commit : Bool) (before now : List E) : Type 0 where
    pub others : List E
    pub is : now ≡ before ++ others
    pub are_light : has_commit ≡ true → AreLight light others

  -- the numbers ascend, from above n to at most m
  abbrev pub Ascends : ℕ → ℕ → List (ℕ × E) → Type 0
  Ascends m n [] = n ≤ m
  Ascends m n (x ∷ xs) = (n < x.0) × Ascends m x.0 xs

  -- the own list has an entry with this number
  abbrev pub HasNumber : List (ℕ × E) → ℕ → Type 0
  HasNumber own n = (e : E) × Contains own (n, e)

  -- each entry may follow those before it
  abbrev pub AreLegal : (List E → E → Type 0) → List E → List E → Type 0
  AreLegal follows before [] = Unit {0}
  AreLegal follows before (e ∷ es) = follows before e × AreLegal follows (before ++ e ∷ []) es

  -- the entries, each beside its number, of which the first is n + 1
  abbrev pub numbered : ℕ → List E → List (ℕ × E)
  numbered n [] = []
  numbered n (e ∷ es) = (n + 1, e) ∷ numbered (n + 1) es

  -- an entry put among others, by its number
  abbrev pub inserted : ℕ × E → List (ℕ × E) → List (ℕ × E)
  inserted x [] = x ∷ []
  inserted x (y ∷ ys) = cond (nat_lt x.0 y.0) (x ∷ y ∷ ys) (y ∷ inserted x ys)

  -- the entries of both own lists, by number
  abbrev pub both_by_number : List (ℕ × E) → List (ℕ × E) → List (ℕ × E)
  both_by_number [] ys = ys
  both_by_number (x ∷ xs) ys = inserted x (both_by_number xs ys)

  abbrev pub longer : List E → List E → List E
  longer xs ys = cond (nat_lt (length xs) (length ys)) ys xs

-- The rule keeps each entry of the history beside the seat that made it.
module _ {E : Type 0} where
  -- the history
  abbrev pub made_entries : List (ℕ × E) → List E
  made_entries made = map (λ (x : ℕ × E). x.1) made

  -- the entries of the seat j, each beside its number, of which the first is n + 1
  abbrev pub own_of : ℕ → ℕ → List (ℕ × E) → List (ℕ × E)
  own_of j n [] = []
  own_of j n (x ∷ xs) = cond (x.0 == j) ((n + 1, x.1) ∷ own_of j (n + 1) xs) (own_of j (n + 1) xs)

  -- no entry is of the seat j
  abbrev pub NoneOfSeat : ℕ → List (ℕ × E) → Type 0
  NoneOfSeat j [] = Unit {0}
  NoneOfSeat j (x ∷ xs) = (x.0 ≢ j) × NoneOfSeat j xs

  -- each entry is of a seat below n
  abbrev pub OwnersBelow : ℕ → List (ℕ × E) → Type 0
  OwnersBelow n [] = Unit {0}
  OwnersBelow n (x ∷ xs) = (x.0 < n) × OwnersBelow n xs

  -- The history is what the seat j has seen, and then entries of others, which are light where it has the commit.
  pub record HasSeenPart (light : E → Type 0) (made : List (ℕ × E)) (j : ℕ) (seen : List E) (has_commit : Bool) : Type 0 where
    pub front : List (ℕ × E)
    pub rest : List (ℕ × E)
    pub parts : made ≡ front ++ rest
    pub is_seen : made_entries front ≡ seen
    pub of_others : NoneOfSeat j rest
    pub are_light : has_commit ≡ true → AreLight light (made_entries rest)
