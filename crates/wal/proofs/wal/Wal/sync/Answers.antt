use Rattle.std.proofs.Common.{◌<◌, length, refl}
use Rattle.gate_log.specs.GateLog as gate
use Rattle.wal.proofs.Syncing.{synced, synced_holds, adds_as, some_wait, goes_on_synced}
use Rattle.wal.proofs.wal.Wal.sync.Goals as goal

pub returns-in_err-append-clause-moments : goal.returns-in_err-append-clause-moments
returns-in_err-append-clause-moments g c bs ws holds =
    let wal = c.args.self.now in
    let some : 0 < length wal.waiting.items = some_wait wal.waiting c.is_empty.result c.is_empty.ensures c.if-is_empty.false in
    adds_as g.F.DiskFile wal (gate.log_file c.append.new.self) c.deref.result.now bs ws c.deref.ensures.value holds some c.append.ensures.moments

pub returns-clause-synced : goal.returns-clause-synced
returns-clause-synced g c bs ws shown =
    let wal = c.args.self.now in
    let some : 0 < length wal.waiting.items = some_wait wal.waiting c.is_empty.result c.is_empty.ensures c.if-is_empty.false in
    synced g.F.DiskFile wal _ c.deref.result.now bs ws shown c.deref.ensures.value refl refl c.clear.ensures.items some c.in_ok-append.ensures.appended

pub returns-clause-holds : goal.returns-clause-holds
returns-clause-holds g c bs ws holds =
    let wal = c.args.self.now in
    let some : 0 < length wal.waiting.items = some_wait wal.waiting c.is_empty.result c.is_empty.ensures c.if-is_empty.false in
    synced_holds g.F.DiskFile wal _ c.deref.result.now bs ws holds.shown c.deref.ensures.value refl refl c.clear.ensures.items some c.in_ok-append.ensures.appended

pub returns-clause-durable : goal.returns-clause-durable
returns-clause-durable g c bs ws shown waits =
    let wal = c.args.self.now in
    synced_holds g.F.DiskFile wal _ c.deref.result.now bs ws shown c.deref.ensures.value refl refl c.clear.ensures.items waits c.in_ok-append.ensures.appended

pub returns-clause-moments : goal.returns-clause-moments
returns-clause-moments g c bs ws holds =
    let wal = c.args.self.now in
    let some : 0 < length wal.waiting.items = some_wait wal.waiting c.is_empty.result c.is_empty.ensures c.if-is_empty.false in
    adds_as g.F.DiskFile wal (gate.log_file c.append.new.self) c.deref.result.now bs ws c.deref.ensures.value holds some c.append.ensures.moments

pub returns-clause-goes_on : goal.returns-clause-goes_on
returns-clause-goes_on g c first next =
    let wal = c.args.self.now in
    let some : 0 < length wal.waiting.items = some_wait wal.waiting c.is_empty.result c.is_empty.ensures c.if-is_empty.false in
    goes_on_synced g.F.DiskFile wal _ c.deref.result.now first c.append.ensures.same.told c.deref.ensures.value refl refl c.clear.ensures.items some c.in_ok-append.ensures.appended next
