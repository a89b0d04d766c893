use Rattle.std.proofs.Common.{◌≡◌, map, take}
use Rattle.udt_disk.specs.declared.name.FileName.TheVariants.{Log}
use Rattle.store_engine.proofs.install.names_of_logs.Given as goal

abbrev pub invariant-loop-number : goal.invariant-loop-number
invariant-loop-number l = l.names.items ≡ map Log (take l.number-index l.logs)
