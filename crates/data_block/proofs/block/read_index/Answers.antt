use Rattle.std.proofs.Common.{subst}
use Rattle.data_block.specs.Regions.{ReadsRegion}
use Rattle.data_block.proofs.Images.{stops_there}
use Rattle.data_block.proofs.block.read_index.Goals as goal

pub returns-in-Some-2 : goal.returns-in-Some-2
returns-in-Some-2 c =
    stops_there c.args.form c.args.image.now c.split_at.result.0.now c.in-Some.end c.in-Some-2.at c.in-Some.ensures c.split_at.ensures.front
    (subst (ReadsRegion c.args.form c.split_at.result.0.now c.read_region.new.x) c.in-Some-2.is c.in_ok-at.ensures)
