use Rattle.std.proofs.Common.{inl, refl, sym, ◌∙◌, subst}
use Rattle.std.specs.Prelude.{IsTrue}
use Rattle.udt_disk.specs.declared.name.FileName.TheVariants.{Made}
use Rattle.udt_disk.proofs.Moments.{leaves_all}
use Rattle.manifest.specs.Folders.{Means}
use Rattle.manifest.specs.Folders.Meaning.{no_store}
use Rattle.recovery.specs.Making.{IsNewStore, IsNoneOrNew}
use Rattle.recovery.proofs.NewStores.{unmade_behind, behind_look, files_step, leaves, leaves_behind, still_none, still_none_left, on_err, look_keeps, keeps_behind}
use Rattle.recovery.proofs.making.make_store.Goals as goal

pub returns-in_err-find_none-clause-moments : goal.returns-in_err-find_none-clause-moments
returns-in_err-find_none-clause-moments g c unmade =
    behind_look g.D.Disk g.D.File.DiskFile c.args.disk.now c.find_none.new.disk unmade c.find_none.ensures.looks c.args.head.now.families

pub returns-in-Ok-clause-moments : goal.returns-in-Ok-clause-moments
returns-in-Ok-clause-moments g c unmade =
    files_step g.D.Disk g.D.File.DiskFile c.args.disk.now c.find_none.new.disk unmade c.find_none.ensures.looks c.args.head.now.families c.make_files.new.disk c.make_files.ensures.moments

pub returns-in-Ok-clause-stopped_crash : goal.returns-in-Ok-clause-stopped_crash
returns-in-Ok-clause-stopped_crash g c unmade =
    let d = g.D.Disk in
    let f = g.D.File.DiskFile in
    let families = c.args.head.now.families in
    leaves_behind d f (IsNoneOrNew families) c.args.disk.now c.make_files.new.disk (files_step d f c.args.disk.now c.find_none.new.disk unmade c.find_none.ensures.looks families c.make_files.new.disk c.make_files.ensures.moments)

pub returns-in-Ok-clause-durable : goal.returns-in-Ok-clause-durable
returns-in-Ok-clause-durable g c unmade =
    let d = g.D.Disk in
    let f = g.D.File.DiskFile in
    leaves d f (IsNewStore c.args.head.now.families) c.make_files.new.disk
    (c.in-Ok.ensures.durable (unmade_behind d f c.args.disk.now c.find_none.new.disk unmade c.find_none.ensures.looks))

pub returns-in-Err-DiskFault-clause-moments : goal.returns-in-Err-DiskFault-clause-moments
returns-in-Err-DiskFault-clause-moments g c unmade =
    files_step g.D.Disk g.D.File.DiskFile c.args.disk.now c.find_none.new.disk unmade c.find_none.ensures.looks c.args.head.now.families c.make_files.new.disk c.make_files.ensures.moments

pub returns-in-Err-DiskFault-clause-stopped_crash : goal.returns-in-Err-DiskFault-clause-stopped_crash
returns-in-Err-DiskFault-clause-stopped_crash g c unmade =
    let d = g.D.Disk in
    let f = g.D.File.DiskFile in
    let families = c.args.head.now.families in
    leaves_behind d f (IsNoneOrNew families) c.args.disk.now c.make_files.new.disk (files_step d f c.args.disk.now c.find_none.new.disk unmade c.find_none.ensures.looks families c.make_files.new.disk c.make_files.ensures.moments)

pub returns-in-Err-NoMemory-clause-moments : goal.returns-in-Err-NoMemory-clause-moments
returns-in-Err-NoMemory-clause-moments g c unmade =
    files_step g.D.Disk g.D.File.DiskFile c.args.disk.now c.find_none.new.disk unmade c.find_none.ensures.looks c.args.head.now.families c.make_files.new.disk c.make_files.ensures.moments

pub returns-in-Err-NoMemory-clause-stopped_crash : goal.returns-in-Err-NoMemory-clause-stopped_crash
returns-in-Err-NoMemory-clause-stopped_crash g c unmade =
    let d = g.D.Disk in
    let f = g.D.File.DiskFile in
    let families = c.args.head.now.families in
    leaves_behind d f (IsNoneOrNew families) c.args.disk.now c.make_files.new.disk (files_step d f c.args.disk.now c.find_none.new.disk unmade c.find_none.ensures.looks families c.make_files.new.disk c.make_files.ensures.moments)

pub returns-in_err-find_none-clause-stopped : goal.returns-in_err-find_none-clause-stopped
returns-in_err-find_none-clause-stopped g c =
    let d = g.D.Disk in
    let f = g.D.File.DiskFile in
    let old = c.args.disk.now in
    let mid = c.find_none.new.disk in
    let look = c.find_none.ensures.looks in
    on_err c.from_residual.result (IsTrue (d.is_told old) → Means (d.stands old) no_store → IsNoneOrNew c.args.head.now.families (d.stands mid)) (λ told none. inl (still_none d f old mid told none look))

pub returns-in_err-find_none-clause-no_memory : goal.returns-in_err-find_none-clause-no_memory
returns-in_err-find_none-clause-no_memory g c is told none =
    let d = g.D.Disk in
    let f = g.D.File.DiskFile in
    let old = c.args.disk.now in
    let mid = c.find_none.new.disk in
    let look = c.find_none.ensures.looks in
    still_none d f old mid told none look

pub returns-in_err-find_none-clause-stopped_crash : goal.returns-in_err-find_none-clause-stopped_crash
returns-in_err-find_none-clause-stopped_crash g c unmade folder left =
    let d = g.D.Disk in
    let f = g.D.File.DiskFile in
    let old = c.args.disk.now in
    let mid = c.find_none.new.disk in
    let look = c.find_none.ensures.looks in
    inl (still_none_left d f old mid unmade look folder left)

pub returns-in_err-find_none-clause-no_memory_crash : goal.returns-in_err-find_none-clause-no_memory_crash
returns-in_err-find_none-clause-no_memory_crash g c is unmade folder left =
    let d = g.D.Disk in
    let f = g.D.File.DiskFile in
    let old = c.args.disk.now in
    let mid = c.find_none.new.disk in
    let look = c.find_none.ensures.looks in
    still_none_left d f old mid unmade look folder left

pub returns-in-Err-DiskFault-clause-stopped : goal.returns-in-Err-DiskFault-clause-stopped
returns-in-Err-DiskFault-clause-stopped g c told none =
    let d = g.D.Disk in
    let f = g.D.File.DiskFile in
    let old = c.args.disk.now in
    let mid = c.find_none.new.disk in
    let look = c.find_none.ensures.looks in
    let e = rw c.in-Err-DiskFault.field-0-is at c.in-Err-DiskFault.ensures in
    e.stopped (subst IsTrue (sym look.told) told) (still_none d f old mid told none look)

pub returns-in-Err-NoMemory-clause-stopped : goal.returns-in-Err-NoMemory-clause-stopped
returns-in-Err-NoMemory-clause-stopped g c told none =
    let d = g.D.Disk in
    let f = g.D.File.DiskFile in
    let old = c.args.disk.now in
    let mid = c.find_none.new.disk in
    let look = c.find_none.ensures.looks in
    let e = rw c.in-Err-NoMemory.field-0-is at c.in-Err-NoMemory.ensures in
    e.stopped (subst IsTrue (sym look.told) told) (still_none d f old mid told none look)

pub returns-in-Err-NoMemory-clause-no_memory : goal.returns-in-Err-NoMemory-clause-no_memory
returns-in-Err-NoMemory-clause-no_memory g c is told none =
    let d = g.D.Disk in
    let f = g.D.File.DiskFile in
    let old = c.args.disk.now in
    let mid = c.find_none.new.disk in
    let look = c.find_none.ensures.looks in
    let e = rw c.in-Err-NoMemory.field-0-is at c.in-Err-NoMemory.ensures in
    e.no_memory refl ∙ still_none d f old mid told none look

pub returns-in-Err-NoMemory-clause-no_memory_crash : goal.returns-in-Err-NoMemory-clause-no_memory_crash
returns-in-Err-NoMemory-clause-no_memory_crash g c is unmade folder left =
    let d = g.D.Disk in
    let f = g.D.File.DiskFile in
    let old = c.args.disk.now in
    let mid = c.find_none.new.disk in
    let look = c.find_none.ensures.looks in
    let e = rw c.in-Err-NoMemory.field-0-is at c.in-Err-NoMemory.ensures in
    unmade.made (folder Made) (leaves_all d f old mid look Made (folder Made) (e.no_memory_crash refl (folder Made) (left Made)))

pub returns-in_err-find_none-clause-unmade : goal.returns-in_err-find_none-clause-unmade
returns-in_err-find_none-clause-unmade g c is unmade = unmade_behind g.D.Disk g.D.File.DiskFile c.args.disk.now c.find_none.new.disk unmade c.find_none.ensures.looks

pub returns-in-Err-NoMemory-clause-unmade : goal.returns-in-Err-NoMemory-clause-unmade
returns-in-Err-NoMemory-clause-unmade g c is unmade =
    let e = rw c.in-Err-NoMemory.field-0-is at c.in-Err-NoMemory.ensures in
    e.unmade refl (unmade_behind g.D.Disk g.D.File.DiskFile c.args.disk.now c.find_none.new.disk unmade c.find_none.ensures.looks)

pub returns-in_err-find_none-clause-others : goal.returns-in_err-find_none-clause-others
returns-in_err-find_none-clause-others g c told = look_keeps g.D.Disk g.D.File.DiskFile c.args.disk.now c.find_none.new.disk c.find_none.ensures.looks told

pub returns-in-Ok-clause-others : goal.returns-in-Ok-clause-others
returns-in-Ok-clause-others g c told = keeps_behind g.D.Disk g.D.File.DiskFile c.args.disk.now c.find_none.new.disk c.make_files.new.disk c.find_none.ensures.looks told c.make_files.ensures.touches

pub returns-in-Err-DiskFault-clause-others : goal.returns-in-Err-DiskFault-clause-others
returns-in-Err-DiskFault-clause-others g c told = keeps_behind g.D.Disk g.D.File.DiskFile c.args.disk.now c.find_none.new.disk c.make_files.new.disk c.find_none.ensures.looks told c.make_files.ensures.touches

pub returns-in-Err-NoMemory-clause-others : goal.returns-in-Err-NoMemory-clause-others
returns-in-Err-NoMemory-clause-others g c told = keeps_behind g.D.Disk g.D.File.DiskFile c.args.disk.now c.find_none.new.disk c.make_files.new.disk c.find_none.ensures.looks told c.make_files.ensures.touches
