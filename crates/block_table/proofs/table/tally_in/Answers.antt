use Rattle.std.proofs.Common.{◌≡◌, ℕ, ◌-◌, List, take, refl, ap, sym, ◌∙◌, arith, length, Some}
use Rattle.ts_key.specs.Items.{Item, shown}
use Rattle.ts_key.specs.Lists.{standing}
use Rattle.block_table.specs.Tallies.{tally_of}
use Rattle.block_table.proofs.Tallying.{take_standing, standing_within, onward_more}
use Rattle.block_table.proofs.table.tally_in.Goals as goal

pub loop-key-init : goal.loop-key-init
loop-key-init c =
    let p = c.in_ok-c.ensures.first in
    record {
      versions = c.in_ok-c.ensures.versions;
      first = omega (arith, p);
      within = omega (arith, p);
      tally = c.new-tally.ensures ∙ ap (λ (n : ℕ). tally_of (take (n - 1) c.args.versions.now)) (sym p);
    }

pub loop-key-preserved : goal.loop-key-preserved
loop-key-preserved c =
    let inv = c.loop-key.invariant in
    let vs = c.args.versions.now in
    let place = c.loop-key.c.place in
    let v = shown (c.in-Some.key, c.in-Some.field-0-1) in
    let at : Some v ≡ standing vs place = c.in-Some.ensures ∙ ap (λ (us : List Item). standing us place) inv.versions in
    let within = standing_within vs place v at in
    let len = ap length inv.versions in
    let next = c.next.ensures.place ∙ onward_more (length c.loop-key.c.block.now) place (omega (arith, len, within.1)) in
    let back : place ≡ c.next.new.self.place - 1 = omega (arith, next) in
    record {
      versions = c.next.ensures.same ∙ inv.versions;
      first = omega (arith, next);
      within = omega (arith, next, within.1);
      tally = c.and-tally.ensures.tally (take (place - 1) vs) v inv.tally refl refl ∙ ap tally_of (sym (take_standing vs place v at)) ∙ ap (λ (n : ℕ). tally_of (take n vs)) back;
    }
