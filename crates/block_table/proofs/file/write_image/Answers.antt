use Rattle.std.proofs.Common.{rules, length}
use Rattle.udt_disk.specs.Crash.{Image}
use Rattle.udt_disk.proofs.Runs.{write_and_sync}
use Rattle.block_table.proofs.file.write_image.Goals as goal

pub returns : goal.returns
returns g c =
    let f = g.F.DiskFile in
    let old = c.args.file.now in
    let only_now = λ (image : Image) (left : f.left_since old (f.moment old) image). (g.met.F.DiskFile g.world.𝓛 g.world.𝓜 g.world.𝓡 ((λ s x. x), (λ x. x), (λ x. x), λ x. x)).only_now old image left in
    let s = c.sync.ensures in
    record {
      fits = search rules;
      written = search rules;
      durable = search rules;
      moments = write_and_sync f 0 (length c.args.image.now) old c.write_at.new.self c.sync.new.self only_now c.write_at.ensures.crash c.write_at.ensures.time s.crash s.time;
      cause = search rules;
      same = search rules;
    }
