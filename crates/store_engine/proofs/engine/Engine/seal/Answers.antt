use Rattle.std.proofs.Common.{◌≡◌, ◌<◌, ◌≤◌, length, Some, refl, sym, subst, arith, inl, inr}
use Rattle.std.specs.Prelude.{Option, slice_get}
use Rattle.std.proofs.lemmas.Bool.{cases_lt}
use Rattle.memtable.specs.Memtables.{versions_of_memtable}
use Rattle.manifest_fold.specs.declared.limits.TheConstants.{FILE_NUMBER_LIMIT}
use Rattle.super_version.specs.declared.family.FamilyState.{FamilyState}
use Rattle.engine_laws.specs.Joints.{IsNowLast}
use Rattle.store_engine.specs.Now.{versions_held}
use Rattle.store_engine.specs.Sealing.{AnswersSeal}
use Rattle.store_engine.proofs.SealCalls.{active_answers, active_called, active_current, active_holds, active_ran, active_refused, active_tells, full_tells, nothing_tells, still_ran, waiting_holds, waiting_tells}
use Rattle.store_engine.proofs.SealedVersion.{got_within, none_there, some_there}
use Rattle.store_engine.proofs.engine.Engine.seal.Goals as goal

pub returns-in_default-clause-moments : goal.returns-in_default-clause-moments
returns-in_default-clause-moments g c m co h =
    let d = g.D.Disk in
    let f = g.D.File.DiskFile in
    let last : IsNowLast d f = record {
      disk = λ x n image left. (g.met.D.Disk g.world.𝓛 g.world.𝓜 g.world.𝓡 ((λ s x. x), (λ x. x), (λ x. x), λ x. x)).only_now x n image left;
      file = λ x image left. (g.met.D.File.DiskFile g.world.𝓛 g.world.𝓜 g.world.𝓡 ((λ s x. x), (λ x. x), (λ x. x), λ x. x)).only_now x image left;
    } in
    let self = c.args.self.now in
    let now = c.args.now.now in
    let family = c.args.family in
    still_ran d f last self self now m co h refl

pub returns-then-not-has_unflushed-clause-moments : goal.returns-then-not-has_unflushed-clause-moments
returns-then-not-has_unflushed-clause-moments g c m co h =
    let d = g.D.Disk in
    let f = g.D.File.DiskFile in
    let last : IsNowLast d f = record {
      disk = λ x n image left. (g.met.D.Disk g.world.𝓛 g.world.𝓜 g.world.𝓡 ((λ s x. x), (λ x. x), (λ x. x), λ x. x)).only_now x n image left;
      file = λ x image left. (g.met.D.File.DiskFile g.world.𝓛 g.world.𝓜 g.world.𝓡 ((λ s x. x), (λ x. x), (λ x. x), λ x. x)).only_now x image left;
    } in
    let self = c.args.self.now in
    let now = c.args.now.now in
    let family = c.args.family in
    still_ran d f last self self now m co h refl

pub returns-then-self-clause-moments : goal.returns-then-self-clause-moments
returns-then-self-clause-moments g c m co h =
    let d = g.D.Disk in
    let f = g.D.File.DiskFile in
    let last : IsNowLast d f = record {
      disk = λ x n image left. (g.met.D.Disk g.world.𝓛 g.world.𝓜 g.world.𝓡 ((λ s x. x), (λ x. x), (λ x. x), λ x. x)).only_now x n image left;
      file = λ x image left. (g.met.D.File.DiskFile g.world.𝓛 g.world.𝓜 g.world.𝓡 ((λ s x. x), (λ x. x), (λ x. x), λ x. x)).only_now x image left;
    } in
    let self = c.args.self.now in
    let now = c.args.now.now in
    let family = c.args.family in
    still_ran d f last self self now m co h refl

pub returns-then-not-has_versions-clause-moments : goal.returns-then-not-has_versions-clause-moments
returns-then-not-has_versions-clause-moments g c m co h =
    let d = g.D.Disk in
    let f = g.D.File.DiskFile in
    let last : IsNowLast d f = record {
      disk = λ x n image left. (g.met.D.Disk g.world.𝓛 g.world.𝓜 g.world.𝓡 ((λ s x. x), (λ x. x), (λ x. x), λ x. x)).only_now x n image left;
      file = λ x image left. (g.met.D.File.DiskFile g.world.𝓛 g.world.𝓜 g.world.𝓡 ((λ s x. x), (λ x. x), (λ x. x), λ x. x)).only_now x image left;
    } in
    let self = c.args.self.now in
    let now = c.args.now.now in
    let family = c.args.family in
    still_ran d f last self self now m co h refl

pub returns-then-not-has_unflushed-clause-tells : goal.returns-then-not-has_unflushed-clause-tells
returns-then-not-has_unflushed-clause-tells g c m co h idle =
    let d = g.D.Disk in
    let f = g.D.File.DiskFile in
    let last : IsNowLast d f = record {
      disk = λ x n image left. (g.met.D.Disk g.world.𝓛 g.world.𝓜 g.world.𝓡 ((λ s x. x), (λ x. x), (λ x. x), λ x. x)).only_now x n image left;
      file = λ x image left. (g.met.D.File.DiskFile g.world.𝓛 g.world.𝓜 g.world.𝓡 ((λ s x. x), (λ x. x), (λ x. x), λ x. x)).only_now x image left;
    } in
    let self = c.args.self.now in
    let now = c.args.now.now in
    let family = c.args.family in
    let state = c.in-Some.state.now in
    let there : slice_get now.families family.0 ≡ Some state = sym c.in-Some.ensures in
    nothing_tells d f last self now m co family h idle state there (none_there (versions_held state) c.has_unflushed.result c.has_unflushed.ensures c.if-not-has_unflushed.true)

pub returns-then-self-clause-tells : goal.returns-then-self-clause-tells
returns-then-self-clause-tells g c m co h idle =
    let d = g.D.Disk in
    let f = g.D.File.DiskFile in
    let last : IsNowLast d f = record {
      disk = λ x n image left. (g.met.D.Disk g.world.𝓛 g.world.𝓜 g.world.𝓡 ((λ s x. x), (λ x. x), (λ x. x), λ x. x)).only_now x n image left;
      file = λ x image left. (g.met.D.File.DiskFile g.world.𝓛 g.world.𝓜 g.world.𝓡 ((λ s x. x), (λ x. x), (λ x. x), λ x. x)).only_now x image left;
    } in
    let self = c.args.self.now in
    let now = c.args.now.now in
    let family = c.args.family in
    let state = c.in-Some.state.now in
    let there : slice_get now.families family.0 ≡ Some state = sym c.in-Some.ensures in
    full_tells d f last self now m co family h idle state there self.next c.if-self.true (some_there (versions_held state) c.has_unflushed.result c.has_unflushed.ensures c.if-not-has_unflushed.false)

pub returns-then-not-has_versions-clause-tells : goal.returns-then-not-has_versions-clause-tells
returns-then-not-has_versions-clause-tells g c m co h idle =
    let d = g.D.Disk in
    let f = g.D.File.DiskFile in
    let last : IsNowLast d f = record {
      disk = λ x n image left. (g.met.D.Disk g.world.𝓛 g.world.𝓜 g.world.𝓡 ((λ s x. x), (λ x. x), (λ x. x), λ x. x)).only_now x n image left;
      file = λ x image left. (g.met.D.File.DiskFile g.world.𝓛 g.world.𝓜 g.world.𝓡 ((λ s x. x), (λ x. x), (λ x. x), λ x. x)).only_now x image left;
    } in
    let self = c.args.self.now in
    let now = c.args.now.now in
    let family = c.args.family in
    let state = c.in-Some.state.now in
    let there : slice_get now.families family.0 ≡ Some state = sym c.in-Some.ensures in
    waiting_tells d f last self now m co family h idle state there (some_there (versions_held state) c.has_unflushed.result c.has_unflushed.ensures c.if-not-has_unflushed.false)

pub returns-then-not-has_versions-clause-holds : goal.returns-then-not-has_versions-clause-holds
returns-then-not-has_versions-clause-holds g c m co number h idle =
    let d = g.D.Disk in
    let f = g.D.File.DiskFile in
    let last : IsNowLast d f = record {
      disk = λ x n image left. (g.met.D.Disk g.world.𝓛 g.world.𝓜 g.world.𝓡 ((λ s x. x), (λ x. x), (λ x. x), λ x. x)).only_now x n image left;
      file = λ x image left. (g.met.D.File.DiskFile g.world.𝓛 g.world.𝓜 g.world.𝓡 ((λ s x. x), (λ x. x), (λ x. x), λ x. x)).only_now x image left;
    } in
    let self = c.args.self.now in
    let now = c.args.now.now in
    let family = c.args.family in
    let state = c.in-Some.state.now in
    let there : slice_get now.families family.0 ≡ Some state = sym c.in-Some.ensures in
    waiting_holds d f last self now m co family h idle state there number (none_there (versions_of_memtable state.active) c.has_versions.result c.has_versions.ensures c.if-not-has_versions.true) (some_there (versions_held state) c.has_unflushed.result c.has_unflushed.ensures c.if-not-has_unflushed.false)

pub seal_active-requires-clause-known : goal.seal_active-requires-clause-known
seal_active-requires-clause-known g c κs within = got_within c.args.now.now.families c.args.family.0 c.in-Some.state.now (sym c.in-Some.ensures)

pub returns-clause-tells : goal.returns-clause-tells
returns-clause-tells g c m co h idle =
    let d = g.D.Disk in
    let f = g.D.File.DiskFile in
    let last : IsNowLast d f = record {
      disk = λ x n image left. (g.met.D.Disk g.world.𝓛 g.world.𝓜 g.world.𝓡 ((λ s x. x), (λ x. x), (λ x. x), λ x. x)).only_now x n image left;
      file = λ x image left. (g.met.D.File.DiskFile g.world.𝓛 g.world.𝓜 g.world.𝓡 ((λ s x. x), (λ x. x), (λ x. x), λ x. x)).only_now x image left;
    } in
    let self = c.args.self.now in
    let now = c.args.now.now in
    let family = c.args.family in
    let state = c.in-Some.state.now in
    let there : slice_get now.families family.0 ≡ Some state = sym c.in-Some.ensures in
    let new = c.seal_active.new.self in
    let result = c.seal_active.result in
    let sealed = c.seal_active.ensures in
    let low : self.next < FILE_NUMBER_LIMIT = elim (cases_lt self.next FILE_NUMBER_LIMIT) [ inl l ↦ l | inr h ↦ absurd (c.if-self.false (let u = c.requires.running.together.most in omega (arith, h, u))) ] in
    let some : 1 ≤ length (versions_of_memtable state.active) = some_there (versions_of_memtable state.active) c.has_versions.result c.has_versions.ensures c.if-not-has_versions.false in
    active_tells d f last now family self new c.requires.running c.requires.current state there some low m co h result idle sealed

pub returns-clause-holds : goal.returns-clause-holds
returns-clause-holds g c m co number h idle =
    let d = g.D.Disk in
    let f = g.D.File.DiskFile in
    let last : IsNowLast d f = record {
      disk = λ x n image left. (g.met.D.Disk g.world.𝓛 g.world.𝓜 g.world.𝓡 ((λ s x. x), (λ x. x), (λ x. x), λ x. x)).only_now x n image left;
      file = λ x image left. (g.met.D.File.DiskFile g.world.𝓛 g.world.𝓜 g.world.𝓡 ((λ s x. x), (λ x. x), (λ x. x), λ x. x)).only_now x image left;
    } in
    let self = c.args.self.now in
    let now = c.args.now.now in
    let family = c.args.family in
    let state = c.in-Some.state.now in
    let there : slice_get now.families family.0 ≡ Some state = sym c.in-Some.ensures in
    let new = c.seal_active.new.self in
    let result = c.seal_active.result in
    let sealed = c.seal_active.ensures in
    let low : self.next < FILE_NUMBER_LIMIT = elim (cases_lt self.next FILE_NUMBER_LIMIT) [ inl l ↦ l | inr h ↦ absurd (c.if-self.false (let u = c.requires.running.together.most in omega (arith, h, u))) ] in
    let some : 1 ≤ length (versions_of_memtable state.active) = some_there (versions_of_memtable state.active) c.has_versions.result c.has_versions.ensures c.if-not-has_versions.false in
    active_holds d f last now family self new c.requires.running c.requires.current state there some low m co h number result idle sealed

pub returns-clause-moments : goal.returns-clause-moments
returns-clause-moments g c m co h =
    let d = g.D.Disk in
    let f = g.D.File.DiskFile in
    let last : IsNowLast d f = record {
      disk = λ x n image left. (g.met.D.Disk g.world.𝓛 g.world.𝓜 g.world.𝓡 ((λ s x. x), (λ x. x), (λ x. x), λ x. x)).only_now x n image left;
      file = λ x image left. (g.met.D.File.DiskFile g.world.𝓛 g.world.𝓜 g.world.𝓡 ((λ s x. x), (λ x. x), (λ x. x), λ x. x)).only_now x image left;
    } in
    let self = c.args.self.now in
    let now = c.args.now.now in
    let family = c.args.family in
    let state = c.in-Some.state.now in
    let there : slice_get now.families family.0 ≡ Some state = sym c.in-Some.ensures in
    let new = c.seal_active.new.self in
    let result = c.seal_active.result in
    let sealed = c.seal_active.ensures in
    let low : self.next < FILE_NUMBER_LIMIT = elim (cases_lt self.next FILE_NUMBER_LIMIT) [ inl l ↦ l | inr h ↦ absurd (c.if-self.false (let u = c.requires.running.together.most in omega (arith, h, u))) ] in
    let some : 1 ≤ length (versions_of_memtable state.active) = some_there (versions_of_memtable state.active) c.has_versions.result c.has_versions.ensures c.if-not-has_versions.false in
    active_ran d f last now family self new c.requires.running c.requires.current state there some low m co h result sealed

pub returns-clause-refused : goal.returns-clause-refused
returns-clause-refused g c =
    let d = g.D.Disk in
    let f = g.D.File.DiskFile in
    let last : IsNowLast d f = record {
      disk = λ x n image left. (g.met.D.Disk g.world.𝓛 g.world.𝓜 g.world.𝓡 ((λ s x. x), (λ x. x), (λ x. x), λ x. x)).only_now x n image left;
      file = λ x image left. (g.met.D.File.DiskFile g.world.𝓛 g.world.𝓜 g.world.𝓡 ((λ s x. x), (λ x. x), (λ x. x), λ x. x)).only_now x image left;
    } in
    let self = c.args.self.now in
    let now = c.args.now.now in
    let family = c.args.family in
    let state = c.in-Some.state.now in
    let there : slice_get now.families family.0 ≡ Some state = sym c.in-Some.ensures in
    let new = c.seal_active.new.self in
    let result = c.seal_active.result in
    let sealed = c.seal_active.ensures in
    let low : self.next < FILE_NUMBER_LIMIT = elim (cases_lt self.next FILE_NUMBER_LIMIT) [ inl l ↦ l | inr h ↦ absurd (c.if-self.false (let u = c.requires.running.together.most in omega (arith, h, u))) ] in
    let some : 1 ≤ length (versions_of_memtable state.active) = some_there (versions_of_memtable state.active) c.has_versions.result c.has_versions.ensures c.if-not-has_versions.false in
    active_refused d f last now family self new c.requires.running c.requires.current state there some low result sealed

pub returns-clause-current : goal.returns-clause-current
returns-clause-current g c =
    let d = g.D.Disk in
    let f = g.D.File.DiskFile in
    let last : IsNowLast d f = record {
      disk = λ x n image left. (g.met.D.Disk g.world.𝓛 g.world.𝓜 g.world.𝓡 ((λ s x. x), (λ x. x), (λ x. x), λ x. x)).only_now x n image left;
      file = λ x image left. (g.met.D.File.DiskFile g.world.𝓛 g.world.𝓜 g.world.𝓡 ((λ s x. x), (λ x. x), (λ x. x), λ x. x)).only_now x image left;
    } in
    let self = c.args.self.now in
    let now = c.args.now.now in
    let family = c.args.family in
    let state = c.in-Some.state.now in
    let there : slice_get now.families family.0 ≡ Some state = sym c.in-Some.ensures in
    let new = c.seal_active.new.self in
    let result = c.seal_active.result in
    let sealed = c.seal_active.ensures in
    let low : self.next < FILE_NUMBER_LIMIT = elim (cases_lt self.next FILE_NUMBER_LIMIT) [ inl l ↦ l | inr h ↦ absurd (c.if-self.false (let u = c.requires.running.together.most in omega (arith, h, u))) ] in
    let some : 1 ≤ length (versions_of_memtable state.active) = some_there (versions_of_memtable state.active) c.has_versions.result c.has_versions.ensures c.if-not-has_versions.false in
    active_current d f last now family self new c.requires.running c.requires.current state there some low result sealed

pub returns-clause-answers : goal.returns-clause-answers
returns-clause-answers g c =
    let d = g.D.Disk in
    let f = g.D.File.DiskFile in
    let last : IsNowLast d f = record {
      disk = λ x n image left. (g.met.D.Disk g.world.𝓛 g.world.𝓜 g.world.𝓡 ((λ s x. x), (λ x. x), (λ x. x), λ x. x)).only_now x n image left;
      file = λ x image left. (g.met.D.File.DiskFile g.world.𝓛 g.world.𝓜 g.world.𝓡 ((λ s x. x), (λ x. x), (λ x. x), λ x. x)).only_now x image left;
    } in
    let self = c.args.self.now in
    let now = c.args.now.now in
    let family = c.args.family in
    let state = c.in-Some.state.now in
    let there : slice_get now.families family.0 ≡ Some state = sym c.in-Some.ensures in
    let new = c.seal_active.new.self in
    let result = c.seal_active.result in
    let sealed = c.seal_active.ensures in
    let low : self.next < FILE_NUMBER_LIMIT = elim (cases_lt self.next FILE_NUMBER_LIMIT) [ inl l ↦ l | inr h ↦ absurd (c.if-self.false (let u = c.requires.running.together.most in omega (arith, h, u))) ] in
    let some : 1 ≤ length (versions_of_memtable state.active) = some_there (versions_of_memtable state.active) c.has_versions.result c.has_versions.ensures c.if-not-has_versions.false in
    subst (λ (o : Option FamilyState). AnswersSeal o self.next result) (sym there) (active_answers d f last now family self new c.requires.running c.requires.current state there some low result sealed)

pub returns-clause-called : goal.returns-clause-called
returns-clause-called g c =
    let d = g.D.Disk in
    let f = g.D.File.DiskFile in
    let last : IsNowLast d f = record {
      disk = λ x n image left. (g.met.D.Disk g.world.𝓛 g.world.𝓜 g.world.𝓡 ((λ s x. x), (λ x. x), (λ x. x), λ x. x)).only_now x n image left;
      file = λ x image left. (g.met.D.File.DiskFile g.world.𝓛 g.world.𝓜 g.world.𝓡 ((λ s x. x), (λ x. x), (λ x. x), λ x. x)).only_now x image left;
    } in
    let self = c.args.self.now in
    let now = c.args.now.now in
    let family = c.args.family in
    let state = c.in-Some.state.now in
    let there : slice_get now.families family.0 ≡ Some state = sym c.in-Some.ensures in
    let new = c.seal_active.new.self in
    let result = c.seal_active.result in
    let sealed = c.seal_active.ensures in
    let low : self.next < FILE_NUMBER_LIMIT = elim (cases_lt self.next FILE_NUMBER_LIMIT) [ inl l ↦ l | inr h ↦ absurd (c.if-self.false (let u = c.requires.running.together.most in omega (arith, h, u))) ] in
    let some : 1 ≤ length (versions_of_memtable state.active) = some_there (versions_of_memtable state.active) c.has_versions.result c.has_versions.ensures c.if-not-has_versions.false in
    active_called d f last now family self new c.requires.running c.requires.current state there some low result sealed
