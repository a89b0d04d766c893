use Rattle.std.proofs.Common.{◌≡◌, ◌+◌, List, length, sym, ap, subst, ◌∙◌, arith}
use Rattle.ts_key.specs.declared.version.Version.{Version}
use Rattle.ts_key.specs.Lists.{below, standing}
use Rattle.sorted_run.specs.Sorts.{sorted}
use Rattle.memtable.specs.Memtables.{joined}
use Rattle.collection_laws.specs.Places.{AreStored}
use Rattle.flush_job.specs.Walks.{walk_place, walked}
use Rattle.flush_job.proofs.Walking.{all_is, below_first, last_some, none_first, span_is, walked_length}
use Rattle.flush_job.proofs.run_feed.span_of.Goals as goal

pub returns-in_default-clause-span : goal.returns-in_default-clause-span
returns-in_default-clause-span c = λ stored.
    let ys = walked c.args.merge.now.children.items in
    none_first ys (c.in_default.ensures stored ∙ ap (standing ys) c.requires)

pub returns-in_default-version_at-clause-first : goal.returns-in_default-version_at-clause-first
returns-in_default-version_at-clause-first c = λ stored.
    let ys = walked c.args.merge.now.children.items in
    let end = c.prev.new.self in
    let same : walked end.children.items ≡ ys = ap (λ (rs : List (List Version)). sorted (joined rs)) (c.prev.ensures.over ∙ c.seek_end.ensures.over) in
    let first = c.in-Some.ensures stored ∙ ap (standing ys) c.requires in
    let ended = c.seek_end.ensures.place in
    let back = c.prev.ensures.place in
    let len = walked_length c.args.merge.now.children.items in
    let at : walk_place end.before end.children.items ≡ length ys = omega (arith, ended, back, len) in
    let none = c.in_default-version_at.ensures (subst AreStored (sym same) stored) ∙ ap (standing (walked end.children.items)) at ∙ ap (λ (zs : List Version). standing zs (length ys)) same in
    absurd (last_some ys c.in-Some.first.now first none)

pub returns-in_default-version_at-clause-span : goal.returns-in_default-version_at-clause-span
returns-in_default-version_at-clause-span c = λ stored.
    let ys = walked c.args.merge.now.children.items in
    let end = c.prev.new.self in
    let same : walked end.children.items ≡ ys = ap (λ (rs : List (List Version)). sorted (joined rs)) (c.prev.ensures.over ∙ c.seek_end.ensures.over) in
    let first = c.in-Some.ensures stored ∙ ap (standing ys) c.requires in
    let ended = c.seek_end.ensures.place in
    let back = c.prev.ensures.place in
    let len = walked_length c.args.merge.now.children.items in
    let at : walk_place end.before end.children.items ≡ length ys = omega (arith, ended, back, len) in
    let none = c.in_default-version_at.ensures (subst AreStored (sym same) stored) ∙ ap (standing (walked end.children.items)) at ∙ ap (λ (zs : List Version). standing zs (length ys)) same in
    absurd (last_some ys c.in-Some.first.now first none)

pub returns-clause-first : goal.returns-clause-first
returns-clause-first c = λ stored.
    let cs = c.args.merge.now.children.items in
    let ys = walked cs in
    let first = c.in-Some.ensures stored ∙ ap (standing ys) c.requires in
    let items = c.prev.ensures.same ∙ c.seek_end.ensures.same ∙ all_is cs in
    let z = below_first ys c.in-Some.first.now first stored in
    c.seek.ensures.place ∙ (λ i. below (c.key_ref.ensures i) (items i) + 1) ∙ ap (λ n. n + 1) z

pub returns-clause-span : goal.returns-clause-span
returns-clause-span c = λ stored.
    let ys = walked c.args.merge.now.children.items in
    let end = c.prev.new.self in
    let same : walked end.children.items ≡ ys = ap (λ (rs : List (List Version)). sorted (joined rs)) (c.prev.ensures.over ∙ c.seek_end.ensures.over) in
    let first = c.in-Some.ensures stored ∙ ap (standing ys) c.requires in
    let ended = c.seek_end.ensures.place in
    let back = c.prev.ensures.place in
    let len = walked_length c.args.merge.now.children.items in
    let at : walk_place end.before end.children.items ≡ length ys = omega (arith, ended, back, len) in
    let last = c.in-Some-version_at.ensures (subst AreStored (sym same) stored) ∙ ap (standing (walked end.children.items)) at ∙ ap (λ (zs : List Version). standing zs (length ys)) same in
    span_is ys c.in-Some.first.now c.in-Some-version_at.last.now c.in_ok-copy.field-0 c.in_ok-copy-2.field-0 first last c.in_ok-copy.ensures c.in_ok-copy-2.ensures stored
