use Rattle.std.proofs.Common.{sym, ap, ◌∙◌}
use Rattle.std.specs.Option.{option_copied}
use Rattle.super_version.specs.Changes.{family_with_floor}
use Rattle.super_version.proofs.Frames.{changed, unchanged}
use Rattle.super_version.proofs.Lists.{inside}
use Rattle.super_version.proofs.version.SuperVersion.with_floor.Goals as goal

pub returns-in_default : goal.returns-in_default
returns-in_default c = unchanged c.args.family.0 (family_with_floor c.args.floor) c.args.self.now c.copy.result (sym c.family.ensures ∙ ap option_copied c.in_default.is) c.copy.ensures

pub with_family-requires : goal.with_family-requires
with_family-requires c = inside c.args.family.0 c.args.self.now.families c.in-Some.state.now (sym c.in-Some.ensures)

pub returns : goal.returns
returns c =
    changed c.args.family.0 (family_with_floor c.args.floor) c.args.self.now c.in-Some.state.now c.in_ok-with_floor.field-0 c.with_family.result c.in-Some.ensures
    c.in_ok-with_floor.ensures c.with_family.ensures.last c.with_family.ensures.families
