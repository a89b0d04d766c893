use Rattle.std.proofs.Common.{List, sym, subst}
use Rattle.ts_key.specs.declared.version.Version.{Version}
use Rattle.ts_key.specs.Items.{items_of}
use Rattle.ts_key.specs.Lists.{IsOrdered}
use Rattle.sorted_run.proofs.Sorting.{ordered-sorted}
use Rattle.sorted_run.proofs.run.Run.sorted.Goals as goal

pub of-requires : goal.of-requires
of-requires c = subst (λ (l : List Version). IsOrdered (items_of l)) (sym c.in_ok-sorted.ensures) (ordered-sorted c.args.versions.now)
