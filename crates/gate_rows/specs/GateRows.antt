-- Histories of numbers, for the tests of the gate: which numbers a commit is asked for.
use Rattle.std.specs.Prelude.{◌≡◌, ℕ, Bool, true, false, cond, nat_le, List, [], ◌∷◌, ◌++◌}
use Rattle.std.proofs.Common.{ap}

-- whether a number needs the commit
abbrev pub needs_commit : ℕ → Bool
needs_commit x = nat_le 1000000 x

-- those of a history that need it
abbrev pub committed : List ℕ → List ℕ
committed [] = []
committed (x ∷ xs) = cond (needs_commit x) (x ∷ committed xs) (committed xs)

pub committed_light : (log : List ℕ) (x : ℕ) → needs_commit x ≡ false → committed (log ++ x ∷ []) ≡ committed log
committed_light [] x light = ap (λ (b : Bool). cond b (x ∷ []) []) light
committed_light (y ∷ ys) x light = let rest = committed_light ys x light in ap (λ (l : List ℕ). cond (needs_commit y) (y ∷ l) l) rest

pub committed_heavy : (log : List ℕ) (x : ℕ) → needs_commit x ≡ true → committed (log ++ x ∷ []) ≡ committed log ++ x ∷ []
committed_heavy [] x heavy = ap (λ (b : Bool). cond b (x ∷ []) []) heavy
committed_heavy (y ∷ ys) x heavy = let rest = committed_heavy ys x heavy in
    elim (needs_commit y) as (λ b. cond b (y ∷ committed (ys ++ x ∷ [])) (committed (ys ++ x ∷ [])) ≡ cond b (y ∷ committed ys) (committed ys) ++ x ∷ []) [ true ↦ ap (λ l. y ∷ l) rest | false ↦ rest ]
