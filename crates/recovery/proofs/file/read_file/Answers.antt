use Rattle.udt_disk.specs.Crash.{Image}
use Rattle.udt_disk.proofs.Runs.{one_read, read_then}
use Rattle.recovery.proofs.file.read_file.Goals as goal

pub returns-in-Ok-clause-same : goal.returns-in-Ok-clause-same
returns-in-Ok-clause-same g c =
    let f = g.F.DiskFile in
    let file_now = λ (x : _) (image : Image) (left : f.left_since x (f.moment x) image). (g.met.F.DiskFile g.world.𝓛 g.world.𝓜 g.world.𝓡 ((λ s x. x), (λ x. x), (λ x. x), λ x. x)).only_now x image left in
    let l = c.len.ensures in
    let r = c.read_at.ensures in
    let old = c.args.file.now in
    let mid = c.len.new.self in
    let new = c.read_at.new.self in
    read_then f old mid new (one_read f old mid (file_now old) l.seen l.crash l.time l.name l.told l.model) (one_read f mid new (file_now mid) r.seen r.crash r.time r.name r.told r.model)

pub returns-clause-same : goal.returns-clause-same
returns-clause-same g c =
    let f = g.F.DiskFile in
    let file_now = λ (x : _) (image : Image) (left : f.left_since x (f.moment x) image). (g.met.F.DiskFile g.world.𝓛 g.world.𝓜 g.world.𝓡 ((λ s x. x), (λ x. x), (λ x. x), λ x. x)).only_now x image left in
    let l = c.len.ensures in
    let r = c.read_at.ensures in
    let old = c.args.file.now in
    let mid = c.len.new.self in
    let new = c.read_at.new.self in
    read_then f old mid new (one_read f old mid (file_now old) l.seen l.crash l.time l.name l.told l.model) (one_read f mid new (file_now mid) r.seen r.crash r.time r.name r.told r.model)
