use Rattle.std.proofs.Common.{◌+◌, ◌≤◌, [], ◌∷◌, refl, arith, inl, inr}
use Rattle.std.proofs.lemmas.Bool.{cases_lt}
use Rattle.udt_disk.specs.declared.name.FileName.TheVariants.{Table}
use Rattle.manifest_fold.specs.declared.limits.TheConstants.{FILE_NUMBER_LIMIT}
use Rattle.engine_laws.specs.Joints.{IsNowLast}
use Rattle.store_engine.specs.Asides.{IsAside}
use Rattle.store_engine.proofs.JobCalls.{created_touches, made_before, made_job, made_ran}
use Rattle.store_engine.proofs.SealCalls.{still_ran}
use Rattle.store_engine.proofs.engine.Engine.new_job_file.Goals as goal

pub returns-then-self-clause-moments : goal.returns-then-self-clause-moments
returns-then-self-clause-moments g c now m co h =
    let d = g.D.Disk in
    let f = g.D.File.DiskFile in
    let last : IsNowLast d f = record {
      disk = λ x n image left. (g.met.D.Disk g.world.𝓛 g.world.𝓜 g.world.𝓡 ((λ s x. x), (λ x. x), (λ x. x), λ x. x)).only_now x n image left;
      file = λ x image left. (g.met.D.File.DiskFile g.world.𝓛 g.world.𝓜 g.world.𝓡 ((λ s x. x), (λ x. x), (λ x. x), λ x. x)).only_now x image left;
    } in
    let self = c.args.self.now in
    still_ran d f last self self now m co h refl

pub returns-in-Ok-clause-holds : goal.returns-in-Ok-clause-holds
returns-in-Ok-clause-holds g c =
    let d = g.D.Disk in
    let f = g.D.File.DiskFile in
    let last : IsNowLast d f = record {
      disk = λ x n image left. (g.met.D.Disk g.world.𝓛 g.world.𝓜 g.world.𝓡 ((λ s x. x), (λ x. x), (λ x. x), λ x. x)).only_now x n image left;
      file = λ x image left. (g.met.D.File.DiskFile g.world.𝓛 g.world.𝓜 g.world.𝓡 ((λ s x. x), (λ x. x), (λ x. x), λ x. x)).only_now x image left;
    } in
    let self = c.args.self.now in
    let e = c.in-Ok.ensures in
    let n = self.next + 1 in
    let new = record self { disk = c.create.new.self; next = n } in
    let low : self.next ≤ n = omega arith in
    let most : n ≤ FILE_NUMBER_LIMIT = elim (cases_lt self.next FILE_NUMBER_LIMIT) [ inl l ↦ omega (arith, l) | inr h ↦ absurd (c.if-self.false (let u = c.requires.together.most in omega (arith, h, u))) ] in
    let aside : IsAside d (Table self.next ∷ []) (record self { next = n }) new = record { wal = refl; manifest = refl; next = refl; older = refl; failed = refl; touches = created_touches d (Table self.next) self.disk c.create.new.self _ (λ name other. other) e.others e.time e.told e.model } in
    made_before d f last self n low most c.requires new aside

pub returns-in-Ok-clause-moments : goal.returns-in-Ok-clause-moments
returns-in-Ok-clause-moments g c now m co h =
    let d = g.D.Disk in
    let f = g.D.File.DiskFile in
    let last : IsNowLast d f = record {
      disk = λ x n image left. (g.met.D.Disk g.world.𝓛 g.world.𝓜 g.world.𝓡 ((λ s x. x), (λ x. x), (λ x. x), λ x. x)).only_now x n image left;
      file = λ x image left. (g.met.D.File.DiskFile g.world.𝓛 g.world.𝓜 g.world.𝓡 ((λ s x. x), (λ x. x), (λ x. x), λ x. x)).only_now x image left;
    } in
    let self = c.args.self.now in
    let e = c.in-Ok.ensures in
    let n = self.next + 1 in
    let new = record self { disk = c.create.new.self; next = n } in
    let low : self.next ≤ n = omega arith in
    let most : n ≤ FILE_NUMBER_LIMIT = elim (cases_lt self.next FILE_NUMBER_LIMIT) [ inl l ↦ omega (arith, l) | inr h ↦ absurd (c.if-self.false (let u = c.requires.together.most in omega (arith, h, u))) ] in
    let aside : IsAside d (Table self.next ∷ []) (record self { next = n }) new = record { wal = refl; manifest = refl; next = refl; older = refl; failed = refl; touches = created_touches d (Table self.next) self.disk c.create.new.self _ (λ name other. other) e.others e.time e.told e.model } in
    made_ran d f last self n low most c.requires new aside now m co h

pub returns-in-Err-clause-holds : goal.returns-in-Err-clause-holds
returns-in-Err-clause-holds g c =
    let d = g.D.Disk in
    let f = g.D.File.DiskFile in
    let last : IsNowLast d f = record {
      disk = λ x n image left. (g.met.D.Disk g.world.𝓛 g.world.𝓜 g.world.𝓡 ((λ s x. x), (λ x. x), (λ x. x), λ x. x)).only_now x n image left;
      file = λ x image left. (g.met.D.File.DiskFile g.world.𝓛 g.world.𝓜 g.world.𝓡 ((λ s x. x), (λ x. x), (λ x. x), λ x. x)).only_now x image left;
    } in
    let self = c.args.self.now in
    let e = c.in-Err.ensures in
    let n = self.next in
    let new = record self { disk = c.create.new.self } in
    let low : self.next ≤ n = omega arith in
    let most = c.requires.together.most in
    let aside : IsAside d (Table self.next ∷ []) (record self { next = n }) new = record { wal = refl; manifest = refl; next = refl; older = refl; failed = refl; touches = created_touches d (Table self.next) self.disk c.create.new.self _ (λ name other. tt) e.others e.time e.told e.model } in
    made_before d f last self n low most c.requires new aside

pub returns-in-Err-clause-moments : goal.returns-in-Err-clause-moments
returns-in-Err-clause-moments g c now m co h =
    let d = g.D.Disk in
    let f = g.D.File.DiskFile in
    let last : IsNowLast d f = record {
      disk = λ x n image left. (g.met.D.Disk g.world.𝓛 g.world.𝓜 g.world.𝓡 ((λ s x. x), (λ x. x), (λ x. x), λ x. x)).only_now x n image left;
      file = λ x image left. (g.met.D.File.DiskFile g.world.𝓛 g.world.𝓜 g.world.𝓡 ((λ s x. x), (λ x. x), (λ x. x), λ x. x)).only_now x image left;
    } in
    let self = c.args.self.now in
    let e = c.in-Err.ensures in
    let n = self.next in
    let new = record self { disk = c.create.new.self } in
    let low : self.next ≤ n = omega arith in
    let most = c.requires.together.most in
    let aside : IsAside d (Table self.next ∷ []) (record self { next = n }) new = record { wal = refl; manifest = refl; next = refl; older = refl; failed = refl; touches = created_touches d (Table self.next) self.disk c.create.new.self _ (λ name other. tt) e.others e.time e.told e.model } in
    made_ran d f last self n low most c.requires new aside now m co h

pub returns-in-Ok-clause-made : goal.returns-in-Ok-clause-made
returns-in-Ok-clause-made g c =
    let d = g.D.Disk in
    let f = g.D.File.DiskFile in
    let last : IsNowLast d f = record {
      disk = λ x n image left. (g.met.D.Disk g.world.𝓛 g.world.𝓜 g.world.𝓡 ((λ s x. x), (λ x. x), (λ x. x), λ x. x)).only_now x n image left;
      file = λ x image left. (g.met.D.File.DiskFile g.world.𝓛 g.world.𝓜 g.world.𝓡 ((λ s x. x), (λ x. x), (λ x. x), λ x. x)).only_now x image left;
    } in
    let self = c.args.self.now in
    let e = c.in-Ok.ensures in
    let n = self.next + 1 in
    let new = record self { disk = c.create.new.self; next = n } in
    let low : self.next ≤ n = omega arith in
    let most : n ≤ FILE_NUMBER_LIMIT = elim (cases_lt self.next FILE_NUMBER_LIMIT) [ inl l ↦ omega (arith, l) | inr h ↦ absurd (c.if-self.false (let u = c.requires.together.most in omega (arith, h, u))) ] in
    let aside : IsAside d (Table self.next ∷ []) (record self { next = n }) new = record { wal = refl; manifest = refl; next = refl; older = refl; failed = refl; touches = created_touches d (Table self.next) self.disk c.create.new.self _ (λ name other. other) e.others e.time e.told e.model } in
    record {
      number_is = refl;
      job = made_job d f last self n low most c.requires new aside (omega arith);
      name = e.name;
      empty = e.empty;
      leaves = e.crash;
      fresh = e.fresh;
      told = e.file_told;
      model = e.file_model;
    }
