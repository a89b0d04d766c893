use Rattle.std.proofs.Common.{◌≡◌, drop}
use Rattle.std.specs.Option.{option_copied}
use Rattle.udt_model.specs.Versions.{newer, newest_of, of_key}
use Rattle.udt_model.proofs.read.plain_newest.Given as goal

abbrev pub invariant-loop-version : goal.invariant-loop-version
invariant-loop-version l = newer (option_copied l.best) (newest_of (of_key (drop l.version-index l.w) l.family l.key)) ≡ newest_of (of_key l.w l.family l.key)
