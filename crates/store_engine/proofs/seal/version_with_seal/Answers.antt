use Rattle.std.proofs.Common.{List, sym, ap, ◌∙◌}
use Rattle.std.specs.Prelude.{slice_get}
use Rattle.std.specs.Option.{option_copied}
use Rattle.super_version.specs.Changes.{family_with_seal}
use Rattle.super_version.specs.declared.family.FamilyState.{FamilyState}
use Rattle.store_engine.proofs.SealedVersion.{changed_there}
use Rattle.store_engine.proofs.seal.version_with_seal.Goals as goal

pub unreachable-requires : goal.unreachable-requires
unreachable-requires c =
    let n = c.args.family.0 in
    changed_there n family_with_seal c.args.now.now.families c.requires
    (ap (λ (l : List FamilyState). slice_get l n) (sym c.in_ok-version.ensures.families) ∙ sym c.family.ensures ∙ ap option_copied c.in_default.is)
