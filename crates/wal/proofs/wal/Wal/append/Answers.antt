use Rattle.std.proofs.Common.{◌≡◌, ◌≤◌, ◌&&◌, ◌==◌, length, refl, ap, arith}
use Rattle.wal.proofs.Appends.{fits_frame, logged_batch, cut_back}
use Rattle.wal.proofs.Waiting.{appended, appended_holds, goes_on_appended, goes_on_kept}
use Rattle.wal.specs.declared.numbered.Numbered.{Numbered}
use Rattle.wal.proofs.wal.Wal.append.Goals as goal

pub invariant_of-self-clause-fits : goal.invariant_of-self-clause-fits
invariant_of-self-clause-fits g c =
    let wal = c.args.self.now in
    let n : Numbered = record { first = c.args.first; batch = c.args.batch.now } in
    let few : length c.sizes.result.now ≤ 16 = omega (arith, ap length c.sizes.ensures.sizes, c.sizes.ensures.valid.within) in
    fits_frame c.sizes.result.now (wal.is_fresh && (length wal.waiting.items == 0)) n wal.waiting.items c.lay_out.new.waiting.items few c.in-Ok.ensures.valid.within c.in-Ok.ensures.short c.requires.room c.in-Ok.ensures.written

pub returns-in-Ok-clause-waits : goal.returns-in-Ok-clause-waits
returns-in-Ok-clause-waits g c bs ws shown =
    let wal = c.args.self.now in
    let n : Numbered = record { first = c.args.first; batch = c.args.batch.now } in
    let few : length wal.sizes ≤ 16 = omega (arith, ap length c.sizes.ensures.sizes, c.sizes.ensures.valid.within) in
    let allowed = logged_batch (length wal.sizes) c.args.first.0 c.args.batch.now c.in-Ok.ensures.valid c.in-Ok.ensures.short c.requires.families c.requires.first c.requires.last in
    appended g.F.DiskFile wal _ n c.sizes.result.now c.sizes.ensures.sizes c.lay_out.ensures.kept refl refl few c.in-Ok.ensures.written allowed c.requires.next bs ws shown

pub returns-in-Ok-clause-holds : goal.returns-in-Ok-clause-holds
returns-in-Ok-clause-holds g c bs ws holds =
    let wal = c.args.self.now in
    let n : Numbered = record { first = c.args.first; batch = c.args.batch.now } in
    let few : length wal.sizes ≤ 16 = omega (arith, ap length c.sizes.ensures.sizes, c.sizes.ensures.valid.within) in
    let allowed = logged_batch (length wal.sizes) c.args.first.0 c.args.batch.now c.in-Ok.ensures.valid c.in-Ok.ensures.short c.requires.families c.requires.first c.requires.last in
    appended_holds g.F.DiskFile wal _ n c.sizes.result.now c.sizes.ensures.sizes c.lay_out.ensures.kept refl refl few c.in-Ok.ensures.written allowed c.requires.next bs ws holds

pub returns-in-Ok-clause-goes_on : goal.returns-in-Ok-clause-goes_on
returns-in-Ok-clause-goes_on g c =
    let wal = c.args.self.now in
    let n : Numbered = record { first = c.args.first; batch = c.args.batch.now } in
    let few : length wal.sizes ≤ 16 = omega (arith, ap length c.sizes.ensures.sizes, c.sizes.ensures.valid.within) in
    let allowed = logged_batch (length wal.sizes) c.args.first.0 c.args.batch.now c.in-Ok.ensures.valid c.in-Ok.ensures.short c.requires.families c.requires.first c.requires.last in
    goes_on_appended g.F.DiskFile wal _ n c.sizes.result.now c.sizes.ensures.sizes c.lay_out.ensures.kept refl refl few c.in-Ok.ensures.written allowed c.requires.next

pub returns-in-Err-clause-err_goes_on : goal.returns-in-Err-clause-err_goes_on
returns-in-Err-clause-err_goes_on g c =
    let wal = c.args.self.now in
    let len : c.len-before.result ≡ length wal.waiting.items = omega (arith, c.len-before.ensures, wal.waiting.ok.0) in
    goes_on_kept g.F.DiskFile wal _ c.args.first.0 c.lay_out.ensures.kept refl refl (cut_back wal.waiting.items c.lay_out.new.waiting.items c.truncate.new.self.items c.len-before.result c.lay_out.ensures.extends len c.truncate.ensures.items) c.requires.next
