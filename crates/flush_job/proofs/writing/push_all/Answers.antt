use Rattle.std.proofs.Common.{◌++◌, List, [], ◌∷◌, refl, take, sym, ap, subst, ◌∙◌}
use Rattle.std.proofs.lemmas.List.{take_all, take_more}
use Rattle.std.proofs.lemmas.List.Elements.{All-get_or}
use Rattle.ts_key.specs.StoredKeys.{IsSequence, IsStamp}
use Rattle.ts_key.specs.declared.version.Form.{Form}
use Rattle.ts_key.specs.declared.version.Version.{Version}
use Rattle.block_table.specs.Pushed.{HasPushed}
use Rattle.flush_job.specs.Writing.{and_versions}
use Rattle.flush_job.proofs.Pushes.{no_versions, one_version}
use Rattle.flush_job.proofs.writing.push_all.Goals as goal

pub loop-version-init : goal.loop-version-init
loop-version-init c = record { form = refl; pushed = λ t h. subst (HasPushed c.args.writer.now) (sym (no_versions t)) h }

pub push-requires-clause-stamp : goal.push-requires-clause-stamp
push-requires-clause-stamp c =
    let v = c.version-item.result in
    let form = c.args.writer.now.form in
    let own = subst (λ (u : Version). IsStamp form u.ts.0) (sym c.version-item.is) (All-get_or (λ (u : Version). IsStamp form u.ts.0) c.args.versions.now c.loop-version.version-index v c.loop-version-test.true c.requires.stamps) in
    subst (λ (f : Form). IsStamp f v.ts.0) (sym c.loop-version.invariant.form) own

pub push-requires-clause-sequence : goal.push-requires-clause-sequence
push-requires-clause-sequence c =
    let v = c.version-item.result in
    subst (λ (u : Version). IsSequence u.seq.0) (sym c.version-item.is) (All-get_or (λ (u : Version). IsSequence u.seq.0) c.args.versions.now c.loop-version.version-index v c.loop-version-test.true c.requires.sequences)

pub loop-version-preserved : goal.loop-version-preserved
loop-version-preserved c =
    let vs = c.args.versions.now in
    let i = c.loop-version.version-index in
    let v = c.version-item.result in
    let inv = c.loop-version.invariant in
    let more = take_more vs i v c.loop-version-test.true ∙ ap (λ (u : Version). take i vs ++ u ∷ []) (sym c.version-item.is) in
    record {
      form = c.in_ok-push.ensures.form ∙ inv.form;
      pushed = λ t h.
          subst (HasPushed c.push.new.self) (one_version t (take i vs) v ∙ ap (and_versions t) (sym more)) (c.in_ok-push.ensures.pushed (and_versions t (take i vs)) (inv.pushed t h));
    }

pub returns-clause-pushed : goal.returns-clause-pushed
returns-clause-pushed c = λ t h.
    subst (λ (us : List Version). HasPushed c.loop-version.writer (and_versions t us)) (take_all c.loop-version.version-index c.args.versions.now c.loop-version-test.false) (c.loop-version.invariant.pushed t h)
