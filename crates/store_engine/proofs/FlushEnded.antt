-- The install of a flush, clause by clause, from what its steps left.
use Rattle.std.proofs.Common.{◌≡◌, ◌⊎◌, ℕ, zero, suc, ◌<◌, ◌≤◌, max, false, List, [], ◌∷◌, length, map, take, Result, Ok, Err, Some, refl, sym, ap, ◌∙◌, subst, arith, inl, inr}
use Rattle.std.specs.Prelude.{IfErr, IfOk, slice_get}
use Rattle.std.specs.Arc.{arc_value}
use Rattle.std.proofs.lemmas.Bool.{false≢true}
use Rattle.ts_key.specs.declared.numbers.Family.{Family}
use Rattle.ts_key.specs.declared.numbers.Seq.{Seq}
use Rattle.ts_key.specs.declared.numbers.Ts.{Ts}
use Rattle.udt_disk.specs.declared.file.DiskFile as file
use Rattle.udt_disk.specs.declared.disk.Disk as disk
use Rattle.udt_disk.specs.declared.name.FileName.TheVariants.{Log}
use Rattle.udt_disk.proofs.Joints.{ran_more}
use Rattle.manifest_edit.specs.declared.edit.Edit.{Edit}
use Rattle.manifest_fold.specs.declared.fold.Folded.{Folded}
use Rattle.manifest_fold.specs.Folds.{IsAccepted, fold_with, is_live}
use Rattle.manifest.specs.Manifest.{manifest_folded}
use Rattle.udt_model.specs.declared.reply.Reply.{Reply}
use Rattle.udt_model.specs.Acts.Act.{flush_end}
use Rattle.udt_model.specs.State.{Flush, State}
use Rattle.udt_model.specs.Crashes.{Course, IsOutcome, IsOutcomeUnder}
use Rattle.super_version.specs.Changes.{ChangesFamily, family_with_flush}
use Rattle.super_version.specs.declared.family.FamilyState.{FamilyState}
use Rattle.super_version.specs.declared.jobs.TableOut.{TableOut}
use Rattle.super_version.specs.declared.version.SuperVersion.{SuperVersion}
use Rattle.engine_laws.specs.Joints.{IsNowLast}
use Rattle.engine_laws.specs.Standing.{StandsForSome}
use Rattle.recovery.specs.Tables.{ReadsAsTable}
use Rattle.recovery.specs.Versions.{FitsFold}
use Rattle.store_engine.specs.Calls.{RanUnder, Tells}
use Rattle.store_engine.specs.Engines.{HoldsAsBefore, HoldsNow, IsCurrent, IsRunning, held}
use Rattle.store_engine.specs.Installing.{EndsFlushBy, IsFlushEnded, IsFlushInstall, IsFlushInstalled, IsInstallCalled, IsInstallRemoval, IsInstalled, MayInstall, after_flush_end, course_after_flush_end, flush_end_reply, floor_over_now, floor_with, live_with}
use Rattle.store_engine.specs.Installing.IsFlushEnded.{ended, refused, stopped}
use Rattle.store_engine.specs.Replies.{is_disk_fault}
use Rattle.store_engine.specs.declared.engine.Engine.{Engine}
use Rattle.store_engine.specs.declared.fault.EngineFault.{EngineFault}
use Rattle.store_engine.specs.declared.fault.EngineFault.TheVariants.{DiskFault, NoMemory}
use Rattle.store_engine.specs.declared.install.FlushEnd.{FlushEnd}
use Rattle.store_engine.specs.declared.install.Install.{Install}
use Rattle.store_engine.proofs.Answering.{disk_disk, disk_tells, none_tells}
use Rattle.store_engine.proofs.FlushEdits.{flush_accepted, flushed_fits, fold_there, one_stays}
use Rattle.store_engine.proofs.GivenBack.{back_before, back_ran}
use Rattle.store_engine.proofs.InstallCalls.{fold_new, gone_or_rose, installed_called, installed_current, refused_called, unedited_called, unsynced_called}
use Rattle.store_engine.proofs.Installed.{edited_under, end_fails, end_told, installed_now, removed_under, synced_under}
use Rattle.store_engine.proofs.JobNumbers.{flushed_live}

pub get_there : {X : Type 0} (xs : List X) (n : ℕ) → n < length xs → (x : X) × (slice_get xs n ≡ Some x)
get_there [] n low = absurd (omega (arith, low))
get_there (x ∷ xs) zero low = (x, refl)
get_there (x ∷ xs) (suc n) low = get_there xs n (omega (arith, low))

-- the floor of a flush isn't below that of its family
pub over_floor : (now : SuperVersion) (family : Family) (floor : Ts) (g : FamilyState) → slice_get now.families family.0 ≡ Some g → g.floor.0 ≤ (floor_over_now now family floor).0
over_floor now family floor g here = let e : (floor_over_now now family floor).0 ≡ max g.floor.0 floor.0 = ap (λ o. (floor_with o floor).0) here in omega (arith, e)

module _ {D F : Type 0} (d : disk.Ghosts D F) (f : file.Ghosts F) (now_last : IsNowLast d f) (old new : Engine D F f) (now : SuperVersion) (family : Family) (gone : ℕ) (through : Seq) (number : ℕ) (given : F) (out : TableOut)
    (running : IsRunning old) (current : IsCurrent old now) (may : MayInstall f old now family through number given) where
  abbrev floor : Ts
  floor = floor_over_now now family out.floor

  abbrev the_end : FlushEnd
  the_end = record { family = family; gone = gone; through = through; number = number; floor = floor }

  abbrev fold : Folded
  fold = manifest_folded old.manifest

  there : (g : FamilyState) × (slice_get now.families family.0 ≡ Some g)
  there = get_there now.families family.0 may.known

  abbrev state : FamilyState
  state = there.0

  rises : state.floor.0 ≤ floor.0
  rises = over_floor now family out.floor state there.1

  abbrev Ended : {A : Type 0} → (A → SuperVersion) → Result A EngineFault → Type 0
  Ended value result = IsFlushEnded d f value now the_end out.table given old new result

  -- ---- the edit

  module _ (install : Install) (made : IsFlushInstall old now the_end out.table install) where
    some : made.count < length fold.logs
    some = one_stays fold now current.fits family floor through number made.count old.next state there.1 running.together.well made.are_gone.one running.together.more running.together.most rises (may.from state there.1) may.to may.unused.given may.unused.free

    edit_accepted : IsAccepted fold install.edit
    edit_accepted = subst (IsAccepted fold) (sym made.edit)
        (flush_accepted fold now current.fits family floor through number made.count old.next state there.1 running.together.well made.are_gone.one running.together.more running.together.most rises (may.from state there.1) may.to may.unused.given may.unused.free)

    edit_fits : FitsFold (fold_with fold install.edit) (arc_value install.next)
    edit_fits = subst (λ e. FitsFold (fold_with fold e) (arc_value install.next)) (sym made.edit)
        (flushed_fits fold now current.fits family floor through number made.count old.next state there.1 running.together.well made.are_gone.one running.together.more running.together.most rises (may.from state there.1) may.to may.unused.given may.unused.free
        (arc_value install.next) gone (live_with number out.table) made.changes)

    names_are : install.gone.items ≡ map Log install.edit.drop_logs
    names_are = made.gone ∙ sym (ap (λ (e : Edit). map Log e.drop_logs) made.edit)

    others_live : (n : ℕ) → (n ≡ number → ⊥) → is_live (fold_with fold install.edit).families n ≡ is_live fold.families n
    others_live n other =
        let r = fold_there fold now current.fits family floor through number made.count old.next state there.1 running.together.well made.are_gone.one running.together.more running.together.most rises (may.from state there.1) may.to may.unused.given may.unused.free in
        subst (λ e. is_live (fold_with fold e).families n ≡ is_live fold.families n) (sym made.edit) (flushed_live fold now.last old.next (take made.count fold.logs) family r.0 floor through number r.1 n other)

  -- ---- the fault

  stopped_fault : (install : Install) (back : Engine D F f) (fault : EngineFault) → IsInstalled d f install back new (Err fault) → fault ≡ DiskFault
  stopped_fault install back fault ran = elim ran [ inl synced ↦ synced.fault | inr r ↦ r.2.fault ]

  pub ended_fault : {A : Type 0} (value : A → SuperVersion) (result : Result A EngineFault) → Ended value result → IfErr result (λ fault. (fault ≡ NoMemory) ⊎ (fault ≡ DiskFault))
  ended_fault value result (ended install mid back next made kept given_back ran is) = tt
  ended_fault value result (refused edit mid fault kept given_back) = inl kept.fault
  ended_fault value result (stopped install mid back fault made kept given_back ran) = inr (stopped_fault install back fault ran)

  -- ---- what it shows

  pub ended_shown : {A : Type 0} (value : A → SuperVersion) (result : Result A EngineFault) → Ended value result → IfOk result (λ next. ChangesFamily family.0 (family_with_flush gone through floor (live_with number out.table)) now (value next))
  ended_shown value result (refused edit mid fault kept given_back) = tt
  ended_shown value result (stopped install mid back fault made kept given_back ran) = tt
  ended_shown value result (ended install mid back next made kept given_back ran is) = subst (ChangesFamily family.0 (family_with_flush gone through floor (live_with number out.table)) now) (sym is) made.changes

  pub ended_current : {A : Type 0} (value : A → SuperVersion) (result : Result A EngineFault) → Ended value result → IfOk result (λ next. IsCurrent new (value next))
  ended_current value result (refused edit mid fault kept given_back) = tt
  ended_current value result (stopped install mid back fault made kept given_back ran) = tt
  ended_current value result (ended install mid back next made kept given_back (two, three, synced, edited, removed) is) =
      subst (IsCurrent new) (sym is)
      (installed_current d f now_last old mid back install.edit (Ok tt) number given kept given_back two three new synced edited install.gone.items (names_are install made) removed (edit_accepted install made) running.together.well may.name (others_live install made)
      now (arc_value install.next) (edit_fits install made) made.changes.last current)

  pub ended_installed : {A : Type 0} (value : A → SuperVersion) (result : Result A EngineFault) → Ended value result → IfOk result (λ next. IsFlushInstalled d f now family floor through number given old new (value next))
  ended_installed value result (refused edit mid fault kept given_back) = tt
  ended_installed value result (stopped install mid back fault made kept given_back ran) = tt
  ended_installed value result (ended install mid back next made kept given_back (two, three, synced, edited, removed) is) =
      subst (IsFlushInstalled d f now family floor through number given old new) (sym is) (record {
        count = made.count;
        are_gone = made.are_gone;
        fold = fold_new d f now_last old mid back install.edit (Ok tt) number given kept given_back two three new synced edited install.gone.items (names_are install made) removed (edit_accepted install made) running.together.well may.name (others_live install made) ∙ ap (fold_with fold) made.edit;
        removed = subst (λ names. IsInstallRemoval d f names given old new) made.gone
            (gone_or_rose d f now_last old mid back install.edit (Ok tt) number given kept given_back two three new synced edited install.gone.items (names_are install made) removed (edit_accepted install made) running.together.well may.name (others_live install made));
      })

  pub ended_called : {A : Type 0} (value : A → SuperVersion) (result : Result A EngineFault) → Ended value result → IsInstallCalled d f number given old new result
  ended_called value result (refused edit mid fault kept given_back) = refused_called d f now_last old mid new edit (Err fault) number given kept given_back fault kept.fault
  ended_called value result (stopped install mid back fault made kept given_back (inl synced)) = unsynced_called d f now_last old mid back install.edit (Ok tt) number given kept given_back new fault synced
  ended_called value result (stopped install mid back fault made kept given_back (inr (two, synced, edited))) = unedited_called d f now_last old mid back install.edit (Ok tt) number given kept given_back two new fault synced edited
  ended_called value result (ended install mid back next made kept given_back (two, three, synced, edited, removed) is) =
      installed_called d f now_last old mid back install.edit (Ok tt) number given kept given_back two three new synced edited install.gone.items (names_are install made) removed (edit_accepted install made) running.together.well may.name (others_live install made) next

  -- ---- a refused one

  pub ended_refused : {A : Type 0} (value : A → SuperVersion) (result : Result A EngineFault) → Ended value result → IfErr result (λ fault. is_disk_fault fault ≡ false → HoldsAsBefore d f old new)
  ended_refused value result (ended install mid back next made kept given_back ran is) = tt
  ended_refused value result (refused edit mid fault kept given_back) = λ not. back_before d f now_last old mid new edit (Err fault) given kept given_back number may.name may.unused
  ended_refused value result (stopped install mid back fault made kept given_back ran) = λ not. absurd (false≢true (sym not ∙ disk_disk fault (stopped_fault install back fault ran)))

  -- ---- the model's state

  module _ (m : State) (c : Course) (event : ℕ) (job : Flush) (h : HoldsNow d f old now m c) (by : EndsFlushBy f m now job family gone through number given out) where
    abbrev reply : Reply
    reply = flush_end_reply now family number out

    pub ended_tells : {A : Type 0} (value : A → SuperVersion) (result : Result A EngineFault) → Ended value result → Tells m (flush_end family job.start) reply result
    ended_tells value result (refused edit mid fault kept given_back) = none_tells m (flush_end family job.start) fault kept.fault
    ended_tells value result (stopped install mid back fault made kept given_back ran) =
        disk_tells m (flush_end family job.start) fault (stopped_fault install back fault ran) (end_fails d f old now m c event job family gone through number given out h by may.unused state there.1)
    ended_tells value result (ended install mid back next made kept given_back ran is) = end_told d f old now m c event job family gone through number given out h by may.unused state there.1

    pub ended_now : {A : Type 0} (value : A → SuperVersion) (result : Result A EngineFault) → Ended value result
        → IfOk result (λ next. HoldsNow d f new (value next) (after_flush_end m event family job reply) (course_after_flush_end m event c family job reply))
    ended_now value result (refused edit mid fault kept given_back) = tt
    ended_now value result (stopped install mid back fault made kept given_back ran) = tt
    ended_now value result (ended install mid back next made kept given_back (two, three, synced, edited, removed) is) =
        subst (λ v. HoldsNow d f new v (after_flush_end m event family job reply) (course_after_flush_end m event c family job reply)) (sym is)
        (installed_now d f old now m c event job family gone through number given out h by may.unused state there.1 running current (arc_value install.next) install.edit made.count made.are_gone made.changes made.edit (some install made)
        now_last mid back kept given_back may.name two three new synced edited install.gone.items (names_are install made) removed)

    pub ended_ran : {A : Type 0} (value : A → SuperVersion) (result : Result A EngineFault) → Ended value result → RanUnder d f m c event (flush_end family job.start) old new
    ended_ran value result (refused edit mid fault kept given_back) =
        ran_more d f (λ folder. StandsForSome ReadsAsTable folder (IsOutcome m c)) (λ folder. StandsForSome ReadsAsTable folder (IsOutcomeUnder m c event (flush_end family job.start))) (λ folder o. (o.0, o.1, inl o.2)) (held old) (held new)
        (back_ran d f now_last old mid new edit (Err fault) given kept given_back number may.name may.unused m c h.says h.waiting h.holds h.engine_of)
    ended_ran value result (stopped install mid back fault made kept given_back (inl synced)) =
        synced_under d f old now m c event job family gone through number given out h by may.unused state there.1 running current (arc_value install.next) install.edit made.count made.are_gone made.changes made.edit (some install made)
        now_last mid back kept given_back may.name new (Err fault) synced
    ended_ran value result (stopped install mid back fault made kept given_back (inr (two, synced, edited))) =
        edited_under d f old now m c event job family gone through number given out h by may.unused state there.1 running current (arc_value install.next) install.edit made.count made.are_gone made.changes made.edit (some install made)
        now_last mid back kept given_back may.name two new synced (Err fault) edited
    ended_ran value result (ended install mid back next made kept given_back (two, three, synced, edited, removed) is) =
        removed_under d f old now m c event job family gone through number given out h by may.unused state there.1 running current (arc_value install.next) install.edit made.count made.are_gone made.changes made.edit (some install made)
        now_last mid back kept given_back may.name two three new synced edited install.gone.items (names_are install made) removed
