use Rattle.std.proofs.Common.{◌≡◌, ◌++◌, drop}
use Rattle.std.specs.Prelude.{filter}
use Rattle.udt_model.specs.Collecting.{is_ever_seen, seen_of}
use Rattle.collection_laws.proofs.collect.keep_seen.Given as goal

abbrev pub invariant-loop-v : goal.invariant-loop-v
invariant-loop-v l = l.kept.items ++ filter (is_ever_seen l.versions l.floor l.seqs) (drop l.v-index l.versions) ≡ seen_of l.versions l.floor l.seqs
