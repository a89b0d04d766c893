use Rattle.std.proofs.Common.{◌≡◌, List, refl, map, get_or, sym, subst}
use Rattle.std.specs.Prelude.{All}
use Rattle.std.proofs.lemmas.List.Elements.{All-map}
use Rattle.std.proofs.lemmas.List.Sorted.{All-permutation}
use Rattle.ts_key.specs.StoredKeys.{IsSequence, IsStamp}
use Rattle.ts_key.specs.declared.version.Form.{Form}
use Rattle.ts_key.specs.declared.version.Version.{Version}
use Rattle.udt_model.specs.Collecting.{without_ts}
use Rattle.flush_job.proofs.writing.push_stripped.Goals as goal

pub push_all-requires-clause-stamps : goal.push_all-requires-clause-stamps
push_all-requires-clause-stamps c =
    let old = c.args.versions.now.items in
    let new = c.strip_versions.new.versions.items in
    let form = c.args.writer.now.form in
    let zero = All-permutation (λ (v : Version). v.ts.0 ≡ 0) (map without_ts old) new c.strip_versions.ensures.same (All-map (λ (v : Version). v.ts.0 ≡ 0) without_ts old (λ k d l. refl)) in
    subst (λ (vs : List Version). All (λ (v : Version). IsStamp form v.ts.0) vs) (sym c.deref.ensures.value)
    (λ k d l. subst (λ (f : Form). IsStamp f (get_or new k d).ts.0) (sym c.requires.form) (zero k d l))

pub push_all-requires-clause-sequences : goal.push_all-requires-clause-sequences
push_all-requires-clause-sequences c =
    let old = c.args.versions.now.items in
    let new = c.strip_versions.new.versions.items in
    subst (λ (vs : List Version). All (λ (v : Version). IsSequence v.seq.0) vs) (sym c.deref.ensures.value)
    (All-permutation (λ (v : Version). IsSequence v.seq.0) (map without_ts old) new c.strip_versions.ensures.same
    (All-map (λ (v : Version). IsSequence v.seq.0) without_ts old c.requires.sequences))
