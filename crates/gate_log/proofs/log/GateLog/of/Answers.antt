use Rattle.std.proofs.Common.{◌≡◌, ◌∙◌, ℕ, List, subst, sym, ap}
use Rattle.std.specs.Prelude.{IsTrue, map, Some}
use Rattle.gate_log.specs.Frames.{IsLog}
use Rattle.gate_log.specs.Reads.{body_of}
use Rattle.gate_log.specs.Outcomes.{IsReading}
use Rattle.gate_log.proofs.Reading.{whole_log, refused_by, placed_by}
use Rattle.gate_log.proofs.log.GateLog.of.Goals as goal

pub returns-in-Ok-clause-read : goal.returns-in-Ok-clause-read
returns-in-Ok-clause-read g c told =
    let r = c.in-Ok in
    whole_log r.frames.items r.end (g.F.DiskFile.seen c.args.file) (r.ensures.front told) (r.ensures.shut told).0 (r.ensures.shut told).1

pub returns-in-Ok-clause-at_rest : goal.returns-in-Ok-clause-at_rest
returns-in-Ok-clause-at_rest g c told durable =
    let f = g.F.DiskFile in
    let r = c.in-Ok in
    let same = c.read_frames.ensures.same in
    let reading : IsReading r.frames.items (f.seen c.args.file) = whole_log r.frames.items r.end (f.seen c.args.file) (r.ensures.front told) (r.ensures.shut told).0 (r.ensures.shut told).1 in
    record {
      logged = record {
        told = subst IsTrue (sym same.told) told;
        file = subst (IsLog (map body_of r.frames.items)) (sym same.seen) reading.log;
        end = (r.ensures.front told).end;
      };
      durable = λ image left. durable image (same.no_more image left) ∙ ap Some (sym same.seen);
    }

pub returns-in-Err-clause-refused : goal.returns-in-Err-clause-refused
returns-in-Err-clause-refused g c told = refused_by c.in-Err.fault (g.F.DiskFile.seen c.args.file) (c.in-Err.ensures.refused told)

pub returns-in-Err-clause-place : goal.returns-in-Err-clause-place
returns-in-Err-clause-place g c told = placed_by c.in-Err.fault (g.F.DiskFile.seen c.args.file) (c.in-Err.ensures.refused told)
