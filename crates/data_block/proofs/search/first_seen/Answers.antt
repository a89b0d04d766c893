use Rattle.std.proofs.Common.{sym, ◌∙◌}
use Rattle.data_block.proofs.Found.{ended, found_at}
use Rattle.data_block.proofs.search.first_seen.Goals as goal

pub returns-then-not-is_of : goal.returns-then-not-is_of
returns-then-not-is_of c =
    ended c.args.keys.now c.args.image.now c.args.entries.now c.loop-e.e-index _ c.args.key.now c.args.t.0 c.args.s.0 _ c.loop-e-test.true c.requires.sorted (c.requires.from c.loop-e.e-index _ c.loop-e-test.true) (sym c.is_of.ensures ∙ c.if-not-is_of.true) c.loop-e.invariant

pub returns-then-is_within : goal.returns-then-is_within
returns-then-is_within c =
    found_at c.args.keys.now c.args.image.now c.args.entries.now c.loop-e.e-index _ c.args.key.now c.args.t.0 c.args.s.0 c.hit.result _ c.loop-e-test.true c.loop-e.invariant (sym c.is_of.ensures ∙ c.if-not-is_of.false) (sym c.is_within.ensures ∙ c.if-is_within.true) c.hit.ensures.ts c.hit.ensures.seq c.hit.ensures.kind c.hit.ensures.value
