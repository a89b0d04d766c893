use Rattle.std.proofs.Common.{refl}
use Rattle.std.proofs.lemmas.Bool.{OnTrue_at}
use Rattle.compaction_rows.specs.Inputs.{first_family}
use Rattle.compaction_rows.proofs.Written.{written_is}
use Rattle.compaction_rows.proofs.tests.tables.written.Goals as goal

pub write_table-result-requires-clause-one_family : goal.write_table-result-requires-clause-one_family
write_table-result-requires-clause-one_family c = λ x. (first_family, OnTrue_at c.if-not-are_of.false c.are_of.ensures)

pub returns-in-Ok-result : goal.returns-in-Ok-result
returns-in-Ok-result c = λ number. written_is _ _ _ _ _ _ c.in-Ok-result.table refl (c.in-Ok-result.ensures first_family (OnTrue_at c.if-not-are_of.false c.are_of.ensures)) number
