use Rattle.std.proofs.Common.{ap, sym, subst}
use Rattle.std.specs.Prelude.{IsTrue}
use Rattle.super_version.specs.Jobs.{MayRefuse}
use Rattle.super_version.specs.declared.jobs.JobCause.{JobCause}
use Rattle.compaction.proofs.Written.{holds_table, refusal_is}
use Rattle.compaction.proofs.run.write_output.Goals as goal

pub returns-in-Ok-clause-holds : goal.returns-in-Ok-clause-holds
returns-in-Ok-clause-holds g c =
    let made = c.in_ok-number.ensures in
    holds_table g.J.File.DiskFile c.requires.0 c.in_ok-number.file c.finish.new.file c.in-Ok.table c.in_ok-number.number c.properties.result.now.count (g.J.JobFiles.is_told c.args.files.now) (g.J.JobFiles.keeps_model c.args.files.now)
    (c.in-Ok.ensures c.requires.0 c.requires.1) (λ h. made.empty (subst IsTrue made.file_told h)) made.name made.fresh made.file_told made.file_model (ap (λ p. p.count) c.properties.ensures)

pub returns-in-Ok-clause-drawn : goal.returns-in-Ok-clause-drawn
returns-in-Ok-clause-drawn g c =
    let made = c.in_ok-number.ensures in
    record { given = made.given; low = made.higher.0; high = made.higher.1; gave = made.gave; others = made.others; faults = made.kept; told = made.told; model = made.model }

pub returns-in-Err-clause-refused : goal.returns-in-Err-clause-refused
returns-in-Err-clause-refused g c =
    let G = g.J.JobFiles in
    let mid = c.next.new.self in
    let end = c.back.new.self in
    subst (λ (why : JobCause). MayRefuse (G.halted end) (G.next_number end) why) (sym c.cause_of.ensures)
    (refusal_is c.in-Err.fault (G.halted mid) (G.halted end) (G.next_number mid) (G.next_number end) c.in_ok-number.number c.in_ok-number.ensures.given c.back.ensures.seen.0 c.back.ensures.seen.1)
