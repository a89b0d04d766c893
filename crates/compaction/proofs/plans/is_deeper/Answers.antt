use Rattle.std.proofs.Common.{◌≡◌, ◌+◌, ◌<◌, false, not, ◌&&◌, refl, ap, ◌∙◌, arith, inl, inr}
use Rattle.std.specs.Prelude.{nat_lt, ◌==◌}
use Rattle.std.proofs.lemmas.Bool.{cases_lt, le-ltb, lt-ltb, ne_eqb}
use Rattle.compaction.specs.declared.plans.Choice.{Choice}
use Rattle.compaction.specs.Plans.{Leveled, is_picked}
use Rattle.compaction.proofs.plans.is_deeper.Goals as goal

-- a table below the level that is written isn't picked
not_picked : (c : Choice) (t : Leveled) → c.level + 1 < t.level → is_picked c t ≡ false
not_picked c t l =
    let a : (t.level == c.level) ≡ false = ne_eqb t.level c.level (λ e. omega (arith, l, e)) in
    let b : (t.level == c.level + 1) ≡ false = ne_eqb t.level (c.level + 1) (λ e. omega (arith, l, e)) in
    rw (a, b) refl

deeper_is : (c : Choice) (t : Leveled) → nat_lt (c.level + 1) t.level ≡ (nat_lt (c.level + 1) t.level && not (is_picked c t))
deeper_is c t = elim (cases_lt (c.level + 1) t.level) [
  | inl l ↦ let on = lt-ltb (c.level + 1) t.level l in let n = not_picked c t l in rw (on, n) refl
  | inr g ↦ let off : nat_lt (c.level + 1) t.level ≡ false = le-ltb (c.level + 1) t.level g in rw off refl
]

pub returns : goal.returns
returns c = ap (λ (t : Leveled). nat_lt (c.args.choice.now.level + 1) t.level) c.t.view_is ∙ deeper_is c.args.choice.now c.args.t.now
