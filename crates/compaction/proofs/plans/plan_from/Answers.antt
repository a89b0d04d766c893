use Rattle.std.proofs.Common.{◌≡◌, ◌+◌, not, ◌&&◌, map, ap, ◌∙◌}
use Rattle.std.specs.Prelude.{filter, nat_lt}
use Rattle.compaction.specs.declared.plans.Choice.{Choice}
use Rattle.compaction.specs.Plans.{Leveled, choice_of, is_picked, ranges_of}
use Rattle.compaction.proofs.plans.plan_from.Goals as goal

pub returns : goal.returns
returns c =
    let ts = c.args.tables.now in
    let chosen : c.in_ok-choice.choice ≡ choice_of ts c.args.level = c.in_ok-choice.ensures in
    let inputs : c.of.result ≡ map (λ (t : Leveled). t.table) (filter (is_picked (choice_of ts c.args.level)) ts) =
    c.of.ensures ∙ c.in_ok-picked_tables.ensures ∙ ap (λ (z : Choice). map (λ (t : Leveled). t.table) (filter (is_picked z) ts)) chosen in
    let deeper : c.of-2.result ≡ ranges_of (filter (λ (t : Leveled). nat_lt (c.args.level + 1) t.level && not (is_picked (choice_of ts c.args.level) t)) ts) =
    c.of-2.ensures ∙ c.in_ok-deeper_ranges.ensures ∙ ap (λ (z : Choice). ranges_of (filter (λ (t : Leveled). nat_lt (z.level + 1) t.level && not (is_picked z t)) ts)) chosen in
    λ i. record { family = c.args.family; inputs = inputs i; level = c.args.level + 1; deeper = deeper i }
