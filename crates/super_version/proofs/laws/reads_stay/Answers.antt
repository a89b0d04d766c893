use Rattle.super_version.proofs.Seen.{floor_same, seal_same, write_seen}
use Rattle.super_version.proofs.laws.reads_stay.Goals as goal

pub returns : goal.returns
returns c = record { floor = floor_same; seal = seal_same; write = write_seen }
