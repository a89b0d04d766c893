use Rattle.std.proofs.Common.{◌≡◌, map, refl, ap, ◌∙◌, subst, []}
use Rattle.std.specs.Prelude.{IfOk, ◌∷◌}
use Rattle.udt_disk.specs.Moments.{OnlyReads, alone, holding}
use Rattle.udt_disk.proofs.Moments.{only_then}
use Rattle.wal.specs.Wals.{wal_file}
use Rattle.manifest_fold.specs.declared.fold.FamilyFold.{FamilyFold}
use Rattle.manifest.specs.Manifest.{manifest_file, manifest_folded}
use Rattle.engine_laws.specs.Joints.{IsNowLast}
use Rattle.solo_store.specs.Stores.{names_of_fold}
use Rattle.solo_store.proofs.Opened.{opened_holds, opened_ready}
use Rattle.solo_store.proofs.store.Store.of.Goals as goal

pub returns-in-Ok-Ok-clause-names : goal.returns-in-Ok-Ok-clause-names
returns-in-Ok-Ok-clause-names g c =
    let d = g.D.Disk in
    let f = g.D.File.DiskFile in
    let last : IsNowLast d f = record {
      disk = λ x n image left. (g.met.D.Disk g.world.𝓛 g.world.𝓜 g.world.𝓡 ((λ s x. x), (λ x. x), (λ x. x), λ x. x)).only_now x n image left;
      file = λ x image left. (g.met.D.File.DiskFile g.world.𝓛 g.world.𝓜 g.world.𝓡 ((λ s x. x), (λ x. x), (λ x. x), λ x. x)).only_now x image left;
    } in
    let fold = c.fold.result.now in
    let slice = c.as_slice.result.now in
    let told : c.in-Ok-Ok.names.items ≡ map (λ (x : FamilyFold). x.name) slice = subst (λ r. IfOk r (λ (ns : _). ns.items ≡ map (λ (x : FamilyFold). x.name) slice)) c.in-Ok-Ok.is-0 c.names_of-names.ensures in
    let names : c.in-Ok-Ok.names.items ≡ names_of_fold (manifest_folded c.args.parts.manifest) = told ∙ (ap (map (λ (x : FamilyFold). x.name)) c.as_slice.ensures ∙ ap names_of_fold c.fold.ensures) in
    names

pub returns-in-Ok-Ok-clause-ready : goal.returns-in-Ok-Ok-clause-ready
returns-in-Ok-Ok-clause-ready g c =
    let d = g.D.Disk in
    let f = g.D.File.DiskFile in
    let last : IsNowLast d f = record {
      disk = λ x n image left. (g.met.D.Disk g.world.𝓛 g.world.𝓜 g.world.𝓡 ((λ s x. x), (λ x. x), (λ x. x), λ x. x)).only_now x n image left;
      file = λ x image left. (g.met.D.File.DiskFile g.world.𝓛 g.world.𝓜 g.world.𝓡 ((λ s x. x), (λ x. x), (λ x. x), λ x. x)).only_now x image left;
    } in
    opened_ready d f c.requires.0 c.args.parts c.requires.1 _ refl refl c.from_parts-engine.ensures.running c.from_parts-engine.ensures.current c.from_parts-engine.ensures.one c.in-Ok-Ok.ensures.ok (returns-in-Ok-Ok-clause-names g c)

pub returns-in-Ok-Ok-clause-holds : goal.returns-in-Ok-Ok-clause-holds
returns-in-Ok-Ok-clause-holds g c old m are told clean stands =
    let d = g.D.Disk in
    let f = g.D.File.DiskFile in
    let last : IsNowLast d f = record {
      disk = λ x n image left. (g.met.D.Disk g.world.𝓛 g.world.𝓜 g.world.𝓡 ((λ s x. x), (λ x. x), (λ x. x), λ x. x)).only_now x n image left;
      file = λ x image left. (g.met.D.File.DiskFile g.world.𝓛 g.world.𝓜 g.world.𝓡 ((λ s x. x), (λ x. x), (λ x. x), λ x. x)).only_now x image left;
    } in
    opened_holds d f old c.args.parts are _ m refl refl c.in-Ok-Ok.ensures.ok (returns-in-Ok-Ok-clause-names g c) told stands (c.from_parts-engine.ensures.holds old m are told clean stands)

pub returns-in_default-clause-closed : goal.returns-in_default-clause-closed
returns-in_default-clause-closed g c old are =
    let d = g.D.Disk in
    let f = g.D.File.DiskFile in
    let last : IsNowLast d f = record {
      disk = λ x n image left. (g.met.D.Disk g.world.𝓛 g.world.𝓜 g.world.𝓡 ((λ s x. x), (λ x. x), (λ x. x), λ x. x)).only_now x n image left;
      file = λ x image left. (g.met.D.File.DiskFile g.world.𝓛 g.world.𝓜 g.world.𝓡 ((λ s x. x), (λ x. x), (λ x. x), λ x. x)).only_now x image left;
    } in
    let files = wal_file c.args.parts.wal ∷ manifest_file c.args.parts.manifest ∷ [] in
    only_then d f (λ n. ⊥) (alone old) (holding c.args.parts.disk files) (alone c.close.result) are.reads
    (subst (λ j. OnlyReads d f j (alone c.close.result)) c.from_parts-engine.ensures.held (c.close.ensures.reads c.from_parts-engine.ensures.one))
