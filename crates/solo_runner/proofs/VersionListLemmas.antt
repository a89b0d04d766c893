-- Bounds of the timestamps of versions.
use Rattle.std.proofs.Common.{◌≡◌, ℕ, ◌≤◌, false, List, [], ◌∷◌, Option, Some, None, refl, inl, inr, arith}
use Rattle.std.specs.Prelude.{nat_lt}
use Rattle.std.proofs.lemmas.Bool.{cases_Bool}
use Rattle.std.proofs.lemmas.Bool.Decides.{nat_tests}
use Rattle.std.proofs.lemmas.List.Elements.{All-nil, All-cons, All-head, All-tail, All-filter}
use Rattle.ts_key.specs.declared.numbers.Family.{Family}
use Rattle.ts_key.specs.declared.numbers.Ts.{Ts}
use Rattle.ts_key.specs.declared.version.Version.{Version}
use Rattle.udt_model.specs.Versions.{is_newer, is_of, newer, newest_of, of_key}
use Rattle.solo_runner.specs.VersionLists.{IsBound, above}

-- a later bound is a bound
bound_up : (a b : Ts) (w : List Version) → a.0 ≤ b.0 → IsBound a w → IsBound b w
bound_up a b [] le bound = All-nil (λ (v : Version). v.ts.0 ≤ b.0)
bound_up a b (v ∷ w) le bound =
    let here : v.ts.0 ≤ a.0 = All-head (λ (v : Version). v.ts.0 ≤ a.0) v w bound in
    All-cons (λ (v : Version). v.ts.0 ≤ b.0) v w (omega (arith, here, le)) (bound_up a b w le (All-tail (λ (v : Version). v.ts.0 ≤ a.0) v w bound))

-- nothing is above a bound of both
above_newer : (ts : Ts) (v : Version) (b : Option Version) → v.ts.0 ≤ ts.0 → above ts b ≡ None → above ts (newer (Some v) b) ≡ None
above_newer ts v None here rest = let no : nat_lt ts.0 v.ts.0 ≡ false = grind (arith, nat_tests) in rw no refl
above_newer ts v (Some a) here rest =
    elim (cases_Bool (is_newer a v)) [
      | inl x ↦ rw x rest
      | inr x ↦ let no : nat_lt ts.0 v.ts.0 ≡ false = grind (arith, nat_tests) in rw (x, no) refl
    ]

above_newest : (ts : Ts) (w : List Version) → IsBound ts w → above ts (newest_of w) ≡ None
above_newest ts [] bound = refl
above_newest ts (v ∷ w) bound =
    let p = (λ (v : Version). v.ts.0 ≤ ts.0) in
    above_newer ts v (newest_of w) (All-head p v w bound) (above_newest ts w (All-tail p v w bound))

-- the newest version of a key isn't above a bound of all versions
pub none_above : (latest ts : Ts) (w : List Version) (family : Family) (key : List ℕ) → latest.0 ≤ ts.0 → IsBound latest w → above ts (newest_of (of_key w family key)) ≡ None
none_above latest ts w family key le bound =
    above_newest ts (of_key w family key) (All-filter (is_of family key) (λ (v : Version). v.ts.0 ≤ ts.0) w (bound_up latest ts w le bound))
