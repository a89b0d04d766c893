use Rattle.std.proofs.Common.{◌≡◌, ℕ, ◌+◌, List, ◌++◌, map, take, sym, ap, subst, ◌∙◌, arith}
use Rattle.std.specs.Prelude.{option_map, Option, IfSome, Contains}
use Rattle.std.specs.Arc.{arc_value}
use Rattle.std.proofs.lemmas.List.Elements.{Contains-append_right}
use Rattle.ts_key.specs.declared.version.Version.{Version}
use Rattle.ts_key.specs.Items.{Item, items_of}
use Rattle.ts_key.specs.Visible.{newer_item, is_item_seen, visible_item}
use Rattle.memtable.specs.Memtables.{joined}
use Rattle.memtable.proofs.Bests.{joined_more, tested-append, kept_among}
use Rattle.memtable.proofs.runs.find_in.Goals as goal

pub loop-run-preserved : goal.loop-run-preserved
loop-run-preserved c =
    let rs = c.args.runs.now in
    let key = c.args.key.now in
    let t = c.args.t.0 in
    let s = c.args.s.0 in
    let i = c.loop-run.run-index in
    let run = c.as_ref.result.now in
    let old = joined (map arc_value (take i rs)) in
    let more : joined (map arc_value (take (i + 1) rs)) ≡ old ++ run = joined_more arc_value rs i c.run-item.result (omega arith) c.run-item.is ∙ ap (λ (vs : List Version). old ++ vs) (sym c.as_ref.ensures) in
    record {
      visible = c.newer_in-best.ensures.visible
          ∙ ap (λ (o : Option Item). newer_item o (visible_item (items_of run) key t s)) c.loop-run.invariant.visible
          ∙ sym (tested-append (is_item_seen key t s) old run)
          ∙ ap (λ (l : List Version). visible_item (items_of l) key t s) (sym more);
      among = subst (λ (l : List Version). IfSome c.newer_in-best.result (λ v. Contains l v.now)) (sym more)
          (c.newer_in-best.ensures.among (old ++ run) (kept_among old run c.loop-run.best c.loop-run.invariant.among) (λ v h. Contains-append_right old run v h));
    }
