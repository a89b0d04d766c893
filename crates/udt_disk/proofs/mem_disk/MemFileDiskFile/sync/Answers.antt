use Rattle.udt_disk.proofs.Tries.{synced_follows, synced_durable}
use Rattle.udt_disk.proofs.mem_disk.MemFileDiskFile.sync.Goals as goal

pub returns-clause-durable : goal.returns-clause-durable
returns-clause-durable c = synced_durable c.args.self.now.data _ c.sync.result c.sync.ensures.synced

pub returns-clause-crash : goal.returns-clause-crash
returns-clause-crash c = synced_follows c.args.self.now.data _ c.sync.result c.sync.ensures.tried.nothing c.sync.ensures.synced
