use Rattle.std.proofs.Common.{List, Err, length, map, ap, subst, ◌∙◌}
use Rattle.std.specs.Arc.{arc_value}
use Rattle.ts_key.specs.declared.numbers.Family.{Family}
use Rattle.ts_key.specs.declared.numbers.Seq.{Seq}
use Rattle.ts_key.specs.declared.numbers.Ts.{Ts}
use Rattle.ts_key.specs.declared.version.Form.{Form}
use Rattle.ts_key.specs.declared.version.Version.{Version}
use Rattle.block_table.specs.Contents.{Contents}
use Rattle.block_table.specs.Pushed.{HasPushed, IsWholeTable}
use Rattle.block_table.specs.Writes.{WritesTable}
use Rattle.block_table.specs.declared.fault.TableWriteFault.{TableWriteFault}
use Rattle.block_table.specs.declared.properties.Properties.{Properties}
use Rattle.block_table.specs.declared.writer.TableWriter.{TableWriter}
use Rattle.flush_job.specs.Flushes.{AreFlushable, flush_contents}
use Rattle.flush_job.specs.Walks.{versions_of_all}
use Rattle.flush_job.proofs.Collected.{flush_some, flush_sorted}
use Rattle.flush_job.proofs.flush.run_flush.Goals as goal

whole : (w : TableWriter) (family : Family) (form : Form) (floor : Ts) (seqs : List Seq) (vs : List Version) → AreFlushable family vs
    → HasPushed w (flush_contents family form floor seqs vs) → IsWholeTable w (flush_contents family form floor seqs vs)
whole w family form floor seqs vs all h = record { pushed = h; some = flush_some family form floor seqs vs all.one_family all.own all.some; sorted = flush_sorted form floor seqs vs all.own }

pub finish-requires-clause-whole : goal.finish-requires-clause-whole
finish-requires-clause-whole g c = λ lifetimes outlive.
    let vs = versions_of_all (map arc_value c.args.mems.now) in
    let all = c.requires.flushable in
    (flush_contents all.0 c.args.form c.args.floor c.args.seqs.now vs, whole c.in-Ok.writer all.0 c.args.form c.args.floor c.args.seqs.now vs all.1 (c.in-Ok.ensures all.0 all.1))

pub returns-in-Err-DiskFault : goal.returns-in-Err-DiskFault
returns-in-Err-DiskFault g c = λ family all.
    let vs = versions_of_all (map arc_value c.args.mems.now) in
    let t = flush_contents family c.args.form c.args.floor c.args.seqs.now vs in
    subst (λ (e : TableWriteFault). WritesTable g.F.DiskFile t c.args.file.now c.finish.new.file (Err e)) c.in-Err-DiskFault.field-0-is
    (c.in-Err-DiskFault.ensures t (whole c.in-Ok.writer family c.args.form c.args.floor c.args.seqs.now vs all (c.in-Ok.ensures family all)))

pub returns-in-Err-NoMemory : goal.returns-in-Err-NoMemory
returns-in-Err-NoMemory g c = λ family all.
    let vs = versions_of_all (map arc_value c.args.mems.now) in
    let t = flush_contents family c.args.form c.args.floor c.args.seqs.now vs in
    subst (λ (e : TableWriteFault). WritesTable g.F.DiskFile t c.args.file.now c.finish.new.file (Err e)) c.in-Err-NoMemory.field-0-is
    (c.in-Err-NoMemory.ensures t (whole c.in-Ok.writer family c.args.form c.args.floor c.args.seqs.now vs all (c.in-Ok.ensures family all)))

pub returns : goal.returns
returns g c = λ family all.
    let vs = versions_of_all (map arc_value c.args.mems.now) in
    let t = flush_contents family c.args.form c.args.floor c.args.seqs.now vs in
    let done = c.in-Ok-finish.ensures t (whole c.in-Ok.writer family c.args.form c.args.floor c.args.seqs.now vs all (c.in-Ok.ensures family all)) in
    (done, ap (λ (p : Properties). p.count) c.properties.ensures ∙ ap (λ (u : Contents). length u.items) done.0, c.floor_behind.ensures)
