use Rattle.udt_model.proofs.Greatest.{sees_the_greatest, has_one_greatest}
use Rattle.udt_model.proofs.definitions.reads_see_the_greatest.Goals as goal

pub returns : goal.returns
returns c = record { greatest = sees_the_greatest; one = has_one_greatest }
