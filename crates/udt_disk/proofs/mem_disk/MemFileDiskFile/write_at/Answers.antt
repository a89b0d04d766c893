use Rattle.std.proofs.Common.{refl}
use Rattle.udt_disk.proofs.Tries.{written_follows, written_elapses}
use Rattle.udt_disk.proofs.mem_disk.MemFileDiskFile.write_at.Goals as goal

pub returns-clause-crash : goal.returns-clause-crash
returns-clause-crash c =
    let made = c.write_at.ensures in
    written_follows c.args.self.now.data _ c.args.at c.args.bytes.now (c.requires refl) c.write_at.result made.tried.nothing made.written

pub returns-clause-time : goal.returns-clause-time
returns-clause-time c =
    let made = c.write_at.ensures in
    written_elapses c.args.self.now.data _ c.args.at c.args.bytes.now (c.requires refl) c.write_at.result made.tried.nothing made.written
