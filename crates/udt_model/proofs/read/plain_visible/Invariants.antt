use Rattle.std.proofs.Common.{◌≡◌, drop}
use Rattle.std.specs.Option.{option_copied}
use Rattle.udt_model.specs.Versions.{newer, visible}
use Rattle.udt_model.proofs.read.plain_visible.Given as goal

abbrev pub invariant-loop-version : goal.invariant-loop-version
invariant-loop-version l = newer (option_copied l.best) (visible (drop l.version-index l.w) l.family l.key l.t l.s) ≡ visible l.w l.family l.key l.t l.s
