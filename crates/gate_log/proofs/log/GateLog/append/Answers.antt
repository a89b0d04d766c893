use Rattle.std.proofs.Common.{◌≡◌, ℕ, ◌+◌, ◌∷◌, [], List, length, ap, subst, sym, ◌∙◌, arith}
use Rattle.std.specs.Prelude.{IsTrue}
use Rattle.udt_disk.specs.Bytes.{overwritten}
use Rattle.gate_log.specs.Frames.{staged, with_frame}
use Rattle.gate_log.proofs.Bytes.{written_behind, written_gate, length-framed-push, overwritten-before, gate_there}
use Rattle.gate_log.proofs.Steps.{staging, opening, both}
use Rattle.gate_log.proofs.log.GateLog.append.Goals as goal

pub returns-in_err-stage-clause-moments : goal.returns-in_err-stage-clause-moments
returns-in_err-stage-clause-moments g c bodies rest =
    let f = g.F.DiskFile in
    let old = c.args.self.now in
    staging f bodies c.args.frame.now old.end rest.logged.end old.file c.stage.new.file (length c.deref.result.now) rest.logged.file rest.durable c.stage.ensures.moments

pub returns-in_err-open_gate-clause-moments : goal.returns-in_err-open_gate-clause-moments
returns-in_err-open_gate-clause-moments g c bodies rest =
    let f = g.F.DiskFile in
    let old = c.args.self.now in
    let body = c.args.frame.now in
    let mid = c.stage.new.file in
    let laid = c.deref.ensures.value ∙ c.lay_out.ensures.laid in
    let first = staging f bodies body old.end rest.logged.end old.file mid (length c.deref.result.now) rest.logged.file rest.durable c.stage.ensures.moments in
    let written = c.in_ok-stage.ensures.written rest.logged.told in
    let staged_now = written_behind bodies old.end rest.logged.end body (f.seen old.file) (f.seen mid) rest.logged.file (written ∙ ap (overwritten (f.seen old.file) (old.end + 1)) laid) in
    both f bodies body old.end rest.logged.end old.file mid c.open_gate.new.file first
    (opening f bodies body old.end rest.logged.end mid c.open_gate.new.file c.requires.size staged_now c.in_ok-stage.ensures.durable c.open_gate.ensures.moments)

pub returns-clause-appended : goal.returns-clause-appended
returns-clause-appended g c bodies log =
    let f = g.F.DiskFile in
    let old = c.args.self.now in
    let body = c.args.frame.now in
    let mid = c.stage.new.file in
    let new = c.open_gate.new.file in
    let laid = c.deref.ensures.value ∙ c.lay_out.ensures.laid in
    let written = c.in_ok-stage.ensures.written log.told in
    let staged_now = written_behind bodies old.end log.end body (f.seen old.file) (f.seen mid) log.file (written ∙ ap (overwritten (f.seen old.file) (old.end + 1)) laid) in
    let told = subst IsTrue (sym c.stage.ensures.same.told) log.told in
    let opened = c.in_ok-open_gate.ensures.written told in
    record {
      logged = record {
        told = subst IsTrue (sym c.open_gate.ensures.same.told) told;
        file = written_gate bodies old.end log.end body (f.seen mid) (f.seen new) c.requires.size staged_now opened;
        end = omega (arith, log.end, length-framed-push bodies body);
      };
      durable = c.in_ok-open_gate.ensures.durable;
    }

pub returns-clause-moments : goal.returns-clause-moments
returns-clause-moments g c bodies rest =
    let f = g.F.DiskFile in
    let old = c.args.self.now in
    let body = c.args.frame.now in
    let mid = c.stage.new.file in
    let laid = c.deref.ensures.value ∙ c.lay_out.ensures.laid in
    let first = staging f bodies body old.end rest.logged.end old.file mid (length c.deref.result.now) rest.logged.file rest.durable c.stage.ensures.moments in
    let written = c.in_ok-stage.ensures.written rest.logged.told in
    let staged_now = written_behind bodies old.end rest.logged.end body (f.seen old.file) (f.seen mid) rest.logged.file (written ∙ ap (overwritten (f.seen old.file) (old.end + 1)) laid) in
    both f bodies body old.end rest.logged.end old.file mid c.open_gate.new.file first
    (opening f bodies body old.end rest.logged.end mid c.open_gate.new.file c.requires.size staged_now c.in_ok-stage.ensures.durable c.open_gate.ensures.moments)

pub returns-clause-written : goal.returns-clause-written
unfolding with_frame
returns-clause-written g c told =
    let f = g.F.DiskFile in
    let old = c.args.self.now in
    let mid = c.stage.new.file in
    let new = c.open_gate.new.file in
    let body = c.args.frame.now in
    let ready = c.requires.ready told in
    let laid = c.deref.ensures.value ∙ c.lay_out.ensures.laid in
    let behind : f.seen mid ≡ overwritten (f.seen old.file) (old.end + 1) (staged body) = c.in_ok-stage.ensures.written told ∙ ap (overwritten (f.seen old.file) (old.end + 1)) laid in
    let told_then = subst IsTrue (sym c.stage.ensures.same.told) told in
    let opened : f.seen new ≡ overwritten (f.seen mid) old.end (165 ∷ []) = c.in_ok-open_gate.ensures.written told_then in
    opened
    ∙ ap (λ (l : List ℕ). overwritten l old.end (165 ∷ [])) behind
    ∙ overwritten-before old.end 165 (staged body) (f.seen old.file) (gate_there ready.0 old.end (f.seen old.file) ready.1.end ready.1.file)
