use Rattle.std.proofs.Common.{◌++◌, List, refl, sym, ap, subst, ◌∙◌}
use Rattle.std.specs.Prelude.{All}
use Rattle.ts_key.specs.StoredKeys.{IsSequence}
use Rattle.ts_key.specs.declared.version.Version.{Version}
use Rattle.udt_model.specs.Collecting.{stripped}
use Rattle.collection_laws.proofs.Storing.{contains_from}
use Rattle.block_table.specs.Contents.{Contents}
use Rattle.block_table.specs.Pushed.{HasPushed}
use Rattle.block_table.specs.declared.writer.TableWriter.{TableWriter}
use Rattle.flush_job.specs.Keeping.{Keeps, all_of, kept_of}
use Rattle.flush_job.specs.Stripping.{AreToldBySequence, ends_in_key}
use Rattle.flush_job.specs.Writing.{and_versions}
use Rattle.flush_job.proofs.Keeping.{gives_none, gives_some, on_ok}
use Rattle.flush_job.proofs.Pushes.{more_versions}
use Rattle.flush_job.proofs.Stripping.{part_all, part_apart, strip_step, stripped_parts}
use Rattle.flush_job.proofs.writing.write_stripped.Goals as goal

pub push_unless-requires-clause-sequences : goal.push_unless-requires-clause-sequences
push_unless-requires-clause-sequences g c =
    let inv = c.loop-of_key.invariant in
    part_all (λ (u : Version). IsSequence u.seq.0) (all_of g.S.Feed c.loop-of_key.kept) inv.state.0 c.loop-of_key.of_key.items inv.state.1.0.among
    (subst (λ (vs : List Version). All (λ (u : Version). IsSequence u.seq.0) vs) (sym inv.all) c.requires.sequences)

pub loop-of_key-preserved : goal.loop-of_key-preserved
loop-of_key-preserved g c =
    let feed = g.S.Feed in
    let inv = c.loop-of_key.invariant in
    let done = inv.state.0 in
    let was = inv.state.1.0 in
    let cut = inv.state.1.1.0 in
    let group = c.loop-of_key.of_key.items in
    let all = all_of feed c.loop-of_key.kept in
    let told = subst AreToldBySequence (sym inv.all) c.requires.own in
    let v = c.in-Some.version in
    let writer = c.push_unless.new.writer in
    let more = gives_some feed c.next.new.self (done ++ group) c.in_ok-version.field-0 v c.in-Some.is (c.in_ok-version.ensures.given (done ++ group) was) in
    let put = c.in_ok-push_unless.ensures in
    let parts = stripped_parts all done group told (λ u i. was.among u (contains_from (done ++ group) u i)) was.in_order cut in
    record {
      form = put.form ∙ inv.form;
      all = c.in_ok-version.ensures.all ∙ inv.all;
      kept = c.in_ok-version.ensures.kept ∙ inv.kept;
      state = strip_step (Keeps feed c.next.new.self)
          (λ (vs : List Version). (t : Contents) → HasPushed c.args.writer.now t → HasPushed c.loop-of_key.writer (and_versions t (stripped vs)))
          (λ (vs : List Version). (t : Contents) → HasPushed c.args.writer.now t → HasPushed writer (and_versions t (stripped vs)))
          done group c.push_unless.new.of_key.items c.push.new.self.items v (ends_in_key group v.key) refl cut more.in_order more
          (λ e. let same = put.same e in (same.0, λ q t h. subst (λ (w : TableWriter). HasPushed w (and_versions t (stripped done))) (sym same.1) (q t h)))
          (λ e. (
            put.none e,
            λ q t h. subst (HasPushed writer) (more_versions t (stripped done) (stripped group) ∙ ap (and_versions t) (sym parts))
                (put.pushed (and_versions t (stripped done)) e (q t h) (part_apart all done group told was.among was.in_order)),
          ))
          c.in_ok-push.ensures.items inv.state.1.1.1;
    }

pub push_stripped-requires-clause-sequences : goal.push_stripped-requires-clause-sequences
push_stripped-requires-clause-sequences g c =
    let inv = c.loop-of_key.invariant in
    part_all (λ (u : Version). IsSequence u.seq.0) (all_of g.S.Feed c.loop-of_key.kept) inv.state.0 c.loop-of_key.of_key.items inv.state.1.0.among
    (subst (λ (vs : List Version). All (λ (u : Version). IsSequence u.seq.0) vs) (sym inv.all) c.requires.sequences)

pub returns : goal.returns
returns g c = λ t h.
    let feed = g.S.Feed in
    let inv = c.loop-of_key.invariant in
    let done = inv.state.0 in
    let was = inv.state.1.0 in
    let group = c.loop-of_key.of_key.items in
    let all = all_of feed c.loop-of_key.kept in
    let told = subst AreToldBySequence (sym inv.all) c.requires.own in
    let new = c.push_stripped.new.writer in
    let parts = stripped_parts all done group told (λ u i. was.among u (contains_from (done ++ group) u i)) was.in_order inv.state.1.1.0 in
    let e = gives_none feed c.next.new.self (done ++ group) c.in_ok-version.field-0 c.in_default.is (c.in_ok-version.ensures.given (done ++ group) was) in
    let kept = e ∙ c.in_ok-version.ensures.kept ∙ inv.kept in
    on_ok c.push_stripped.result _ (HasPushed new (and_versions t (stripped (kept_of feed c.args.kept.now))))
    (λ w. subst (HasPushed new) (more_versions t (stripped done) (stripped group) ∙ ap (and_versions t) (sym parts ∙ ap stripped kept)) w)
    (c.push_stripped.ensures.pushed (and_versions t (stripped done)) (inv.state.1.1.1 t h) (part_apart all done group told was.among was.in_order))
