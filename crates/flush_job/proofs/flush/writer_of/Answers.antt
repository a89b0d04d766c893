use Rattle.std.proofs.Common.{◌≡◌, ◌-◌, None, arith, length, List, [], ◌∷◌, Some, map, sym, ap, subst, ◌∙◌}
use Rattle.std.specs.Prelude.{All}
use Rattle.std.specs.Arc.{arc_value}
use Rattle.ts_key.specs.Items.{items_of}
use Rattle.ts_key.specs.StoredKeys.{IsSequence, IsStamp}
use Rattle.ts_key.specs.declared.numbers.Family.{Family}
use Rattle.ts_key.specs.declared.numbers.Ts.{Ts}
use Rattle.ts_key.specs.declared.version.Form.{Form}
use Rattle.ts_key.specs.declared.version.Form.TheVariants.{Persist}
use Rattle.ts_key.specs.declared.version.Version.{Version}
use Rattle.sorted_run.specs.Sorts.{sorted}
use Rattle.memtable.specs.Memtables.{joined}
use Rattle.memtable.proofs.Sums.{length-sorted}
use Rattle.udt_model.specs.Collecting.{collect}
use Rattle.udt_model.specs.Jobs.{in_form}
use Rattle.collection_laws.specs.Places.{AreStored}
use Rattle.collection_laws.proofs.Storing.{all_from}
use Rattle.history_gc.specs.Pushed.{AreInOrder}
use Rattle.block_table.specs.Pushed.{HasPushed, contents_of}
use Rattle.block_table.specs.declared.writer.TableWriter.{TableWriter}
use Rattle.flush_job.specs.Stripping.{AreToldBySequence}
use Rattle.flush_job.specs.Walks.{Covers, IsSpanOf, passed_at, versions_of_all, walk_place, walked}
use Rattle.flush_job.proofs.Collected.{all_over, kept_all, sorted_in_order, sorted_is_stored, told_sorted}
use Rattle.flush_job.proofs.Walking.{passed_and_left, span_family, span_holds}
use Rattle.flush_job.proofs.flush.writer_of.Goals as goal

pub new-feed-requires-clause-first : goal.new-feed-requires-clause-first
new-feed-requires-clause-first c =
    let vs = versions_of_all (map arc_value c.args.mems.now) in
    c.in_ok-family.ensures.first (subst AreStored (sym c.in_ok-merge.ensures.walked) (sorted_is_stored vs c.requires.1.own))

pub new-feed-requires-clause-in_order : goal.new-feed-requires-clause-in_order
new-feed-requires-clause-in_order c =
    let vs = versions_of_all (map arc_value c.args.mems.now) in
    let same = ap (λ (rs : List (List Version)). sorted (joined rs)) c.in_ok-family.ensures.same ∙ c.in_ok-merge.ensures.walked in
    subst AreInOrder (sym same) (sorted_in_order c.requires.0 vs c.requires.1.one_family c.requires.1.own)

pub write_in_form-requires-clause-fresh : goal.write_in_form-requires-clause-fresh
write_in_form-requires-clause-fresh c =
    let vs = versions_of_all (map arc_value c.args.mems.now) in
    let first = c.in_ok-family.ensures.first (subst AreStored (sym c.in_ok-merge.ensures.walked) (sorted_is_stored vs c.requires.1.own)) in
    let place = ap (λ (m : _). walk_place m.before m.children.items) c.new-feed.ensures ∙ first in
    c.in_ok-kept.ensures.fresh (ap (λ p. passed_at p c.new-feed.result.merge.children.items) place)

pub write_in_form-requires-clause-stamps : goal.write_in_form-requires-clause-stamps
write_in_form-requires-clause-stamps c =
    let vs = versions_of_all (map arc_value c.args.mems.now) in
    let merge = c.new-feed.result.merge in
    let same = ap (λ (m : _). walked m.children.items) c.new-feed.ensures ∙ ap (λ (rs : List (List Version)). sorted (joined rs)) c.in_ok-family.ensures.same ∙ c.in_ok-merge.ensures.walked in
    let all = c.in_ok-kept.ensures.all ∙ passed_and_left (walk_place merge.before merge.children.items - 1) (walked merge.children.items) ∙ same in
    subst (λ (us : List Version). All (λ (v : Version). IsStamp Persist v.ts.0) us) (sym all) (all_over (λ (v : Version). IsStamp Persist v.ts.0) vs c.requires.1.stamps)

pub write_in_form-requires-clause-sequences : goal.write_in_form-requires-clause-sequences
write_in_form-requires-clause-sequences c =
    let vs = versions_of_all (map arc_value c.args.mems.now) in
    let merge = c.new-feed.result.merge in
    let same = ap (λ (m : _). walked m.children.items) c.new-feed.ensures ∙ ap (λ (rs : List (List Version)). sorted (joined rs)) c.in_ok-family.ensures.same ∙ c.in_ok-merge.ensures.walked in
    let all = c.in_ok-kept.ensures.all ∙ passed_and_left (walk_place merge.before merge.children.items - 1) (walked merge.children.items) ∙ same in
    subst (λ (us : List Version). All (λ (v : Version). IsSequence v.seq.0) us) (sym all) (all_over (λ (v : Version). IsSequence v.seq.0) vs c.requires.1.sequences)

pub write_in_form-requires-clause-own : goal.write_in_form-requires-clause-own
write_in_form-requires-clause-own c =
    let vs = versions_of_all (map arc_value c.args.mems.now) in
    let merge = c.new-feed.result.merge in
    let same = ap (λ (m : _). walked m.children.items) c.new-feed.ensures ∙ ap (λ (rs : List (List Version)). sorted (joined rs)) c.in_ok-family.ensures.same ∙ c.in_ok-merge.ensures.walked in
    let all = c.in_ok-kept.ensures.all ∙ passed_and_left (walk_place merge.before merge.children.items - 1) (walked merge.children.items) ∙ same in
    subst AreToldBySequence (sym all) (told_sorted vs c.requires.1.own)

moved : (w : TableWriter) (f g : Family) (form : Form) (floor : Ts) (ks ls : List Version) → f ≡ g → ks ≡ ls → HasPushed w (contents_of f form floor (items_of (in_form form ks))) → HasPushed w (contents_of g form floor (items_of (in_form form ls)))
moved w f g form floor ks ls a b h =
    subst (λ (xs : List Version). HasPushed w (contents_of g form floor (items_of (in_form form xs)))) b
    (subst (λ (x : Family). HasPushed w (contents_of x form floor (items_of (in_form form ks)))) a h)

pub returns : goal.returns
returns c = λ family one.
    let vs = versions_of_all (map arc_value c.args.mems.now) in
    let floor = c.args.floor in
    let seqs = c.args.seqs.now in
    let merge = c.new-feed.result.merge in
    let first = walked c.in_ok-merge.merge.children.items in
    let walks : first ≡ sorted vs = c.in_ok-merge.ensures.walked in
    let found : Family × _ = (c.in-Some.family, c.in-Some.span) in
    let spans : IsSpanOf first (Some found) = subst (IsSpanOf first) c.in-Some.is (c.in_ok-family.ensures.span (subst AreStored (sym walks) (sorted_is_stored vs c.requires.1.own))) in
    let covers : Covers c.in-Some.span (sorted vs) = subst (Covers c.in-Some.span) walks (span_holds first found spans) in
    let of_family = span_family family first found spans (all_from (λ (v : Version). v.family ≡ family) first (subst (λ (us : List Version). All (λ (v : Version). v.family ≡ family) us) (sym walks) (all_over (λ (v : Version). v.family ≡ family) vs one.one_family))) in
    let same = ap (λ (m : _). walked m.children.items) c.new-feed.ensures ∙ ap (λ (rs : List (List Version)). sorted (joined rs)) c.in_ok-family.ensures.same ∙ walks in
    let all = passed_and_left (walk_place merge.before merge.children.items - 1) (walked merge.children.items) ∙ same in
    let kept = c.in_ok-kept.ensures.kept ∙ ap (λ (ys : List Version). collect ys floor seqs (c.in-Some.span ∷ [])) all ∙ kept_all floor seqs vs c.in-Some.span c.requires.1.own covers in
    moved c.write_in_form.new.writer c.in-Some.family family c.args.form floor _ _ of_family kept
    (c.in_ok-write_in_form.ensures (contents_of c.in-Some.family c.args.form floor []) c.in_ok-writer.ensures.pushed)

pub unreachable-requires : goal.unreachable-requires
unreachable-requires c =
    let vs = versions_of_all (map arc_value c.args.mems.now) in
    let first = walked c.in_ok-merge.merge.children.items in
    let walks : first ≡ sorted vs = c.in_ok-merge.ensures.walked in
    let none : IsSpanOf first None = subst (IsSpanOf first) c.in_default.is (c.in_ok-family.ensures.span (subst AreStored (sym walks) (sorted_is_stored vs c.requires.1.own))) in
    let some = c.requires.1.some in
    let all = length-sorted vs in
    let empty : length (sorted vs) ≡ 0 = ap length (sym walks ∙ none) in
    omega (arith, some, all, empty)
