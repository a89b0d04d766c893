use Rattle.store_engine.specs.Sealing.IsRolled.{edited, unrolled, unsynced}
use Rattle.store_engine.proofs.Rolling.{ready_rolled}
use Rattle.store_engine.proofs.engine.Engine.roll.Goals as goal

pub returns-in-Err : goal.returns-in-Err
returns-in-Err g c = unsynced c.in-Err.fault c.in-Err.ensures

pub returns-in-Err-roll_log : goal.returns-in-Err-roll_log
returns-in-Err-roll_log g c = unrolled c.sync_log.new.self c.in-Err-roll_log.fault c.in-Ok.ensures c.in-Err-roll_log.ensures

pub append_roll-requires-clause-ready : goal.append_roll-requires-clause-ready
append_roll-requires-clause-ready g c κs within =
    ready_rolled g.D.Disk g.D.File.DiskFile c.args.self.now c.sync_log.new.self c.roll_log.new.self c.args.edit.now c.args.older c.requires.next c.requires.adds.0 c.requires.adds.1 c.in-Ok.ensures c.in-Ok-roll_log.ensures

pub returns : goal.returns
returns g c = edited c.sync_log.new.self c.roll_log.new.self c.append_roll.result c.in-Ok.ensures c.in-Ok-roll_log.ensures c.append_roll.ensures
