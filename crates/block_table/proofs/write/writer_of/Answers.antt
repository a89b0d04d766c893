use Rattle.std.proofs.Common.{◌≡◌, ◌++◌, List, [], ◌∷◌, take, sym, ap, subst, ◌∙◌}
use Rattle.std.proofs.lemmas.List.{take_all, take_more}
use Rattle.std.proofs.lemmas.List.Elements.{All-get_or}
use Rattle.ts_key.specs.Items.{Item, items_of}
use Rattle.ts_key.specs.StoredKeys.{IsStamp, IsSequence}
use Rattle.ts_key.specs.declared.numbers.Family.{Family}
use Rattle.ts_key.specs.declared.version.Form.{Form}
use Rattle.ts_key.specs.declared.version.Version.{Version}
use Rattle.block_table.specs.Pushed.{HasPushed, contents_of}
use Rattle.block_table.proofs.Lists.{items_snoc}
use Rattle.block_table.proofs.write.writer_of.Goals as goal

pub loop-v-init : goal.loop-v-init
loop-v-init c = record {
  form = c.in_ok-w.ensures.form;
  pushed = λ family all.
      let first = All-get_or (λ (v : Version). v.family ≡ family) c.args.versions.now 0 c.index-versions-0.result c.requires.some all in
      subst (λ (f : Family). HasPushed c.in_ok-w.w (contents_of f c.args.form c.args.collected_by [])) first c.in_ok-w.ensures.pushed;
}

pub push-requires-clause-stamp : goal.push-requires-clause-stamp
push-requires-clause-stamp c =
    let v = c.v-item.result in
    let own = subst (λ (u : Version). IsStamp c.args.form u.ts.0) (sym c.v-item.is) (All-get_or (λ (u : Version). IsStamp c.args.form u.ts.0) c.args.versions.now c.loop-v.v-index v c.loop-v-test.true c.requires.stamps) in
    subst (λ (f : Form). IsStamp f v.ts.0) (sym c.loop-v.invariant.form) own

pub push-requires-clause-sequence : goal.push-requires-clause-sequence
push-requires-clause-sequence c =
    let v = c.v-item.result in
    subst (λ (u : Version). IsSequence u.seq.0) (sym c.v-item.is) (All-get_or (λ (u : Version). IsSequence u.seq.0) c.args.versions.now c.loop-v.v-index v c.loop-v-test.true c.requires.sequences)

pub loop-v-preserved : goal.loop-v-preserved
loop-v-preserved c =
    let vs = c.args.versions.now in
    let i = c.loop-v.v-index in
    let v = c.v-item.result in
    let inv = c.loop-v.invariant in
    let more = ap items_of (take_more vs i v c.loop-v-test.true ∙ ap (λ (u : Version). take i vs ++ u ∷ []) (sym c.v-item.is)) ∙ items_snoc (take i vs) v in
    record {
      form = c.in_ok-push.ensures.form ∙ inv.form;
      pushed = λ family all.
          subst (λ (us : List Item). HasPushed c.push.new.self (contents_of family c.args.form c.args.collected_by us)) (sym more)
          (c.in_ok-push.ensures.pushed _ (inv.pushed family all));
    }

pub returns : goal.returns
returns c = λ family all.
    let vs = c.args.versions.now in
    subst (λ (us : List Version). HasPushed c.loop-v.w (contents_of family c.args.form c.args.collected_by (items_of us))) (take_all c.loop-v.v-index vs c.loop-v-test.false) (c.loop-v.invariant.pushed family all)
