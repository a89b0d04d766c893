-- The end of a write: its batch waits, or was synced.
use Rattle.std.proofs.Common.{◌≡◌, ◌⊎◌, ℕ, ◌+◌, ◌<◌, ◌≤◌, Bool, true, false, List, length, Result, Ok, Err, refl, sym, ap, ◌∙◌, subst, arith, inl, inr}
use Rattle.std.specs.Prelude.{IfErr, IsOk, OnOk}
use Rattle.std.proofs.lemmas.Bool.{cases_lt}
use Rattle.ts_key.specs.declared.batch.WriteOp.{WriteOp}
use Rattle.ts_key.specs.declared.limits.TheConstants.{SEQUENCE_LIMIT}
use Rattle.udt_disk.specs.Causes.{HasCause}
use Rattle.udt_disk.specs.declared.file.DiskFile as file
use Rattle.udt_disk.specs.declared.disk.Disk as disk
use Rattle.wal.specs.declared.numbered.Numbered.{Numbered}
use Rattle.wal.specs.declared.wal.TheConstants.{PENDING_LIMIT}
use Rattle.wal.specs.Sequences.{sequence_after}
use Rattle.wal.specs.Wals.{MayGoOn, waiting_with, wal_pending, wal_waiting}
use Rattle.udt_model.specs.declared.reply.Reply.TheVariants.{OkAt}
use Rattle.udt_model.specs.State.{State}
use Rattle.udt_model.specs.Acts.Act.{write}
use Rattle.udt_model.specs.Steps.{IsReplyTo}
use Rattle.udt_model.specs.Crashes.{Course}
use Rattle.manifest.specs.Manifest.{manifest_folded}
use Rattle.super_version.specs.declared.version.SuperVersion.{SuperVersion}
use Rattle.super_version.specs.Writes.{AddsBatch}
use Rattle.engine_laws.specs.Joints.{IsNowLast}
use Rattle.engine_laws.specs.Laws.{after_write, course_after_write}
use Rattle.engine_laws.specs.Engine.{next_batch}
use Rattle.recovery.specs.Versions.{FitsFold}
use Rattle.store_engine.specs.Calls.{RanUnder, is_disk_failure}
use Rattle.store_engine.specs.Engines.{HoldsNow, IsCurrent, IsRunning, engine_faults, has_failed, held}
use Rattle.store_engine.specs.Now.{IsNow}
use Rattle.store_engine.specs.Steps.{IsAdded, IsLogSynced, IsSameFolder}
use Rattle.store_engine.specs.Together.{AreTogether}
use Rattle.store_engine.specs.declared.engine.Engine.{Engine}
use Rattle.store_engine.specs.declared.fault.EngineFault.{EngineFault}
use Rattle.store_engine.specs.declared.fault.EngineFault.TheVariants.{DiskFault}
use Rattle.store_engine.proofs.Answering.{folder_on, ok_on}
use Rattle.store_engine.proofs.Current.{written_fits}
use Rattle.store_engine.proofs.Synced.{synced_cause, synced_folder, synced_goes}
use Rattle.store_engine.proofs.Written.{added_faults, added_folder, appended_held, next_is, sync_ran, synced_now, waits_now, waits_ran}

none_of : {before now : ℕ} (result : Result (Unit {0}) EngineFault) → IsOk result → now ≡ before → HasCause before now result
none_of (Ok u) is same = record { later = omega (arith, same); failed = tt; kept = same }
none_of (Err e) is same = absurd (cc)

no_fault : (result : Result (Unit {0}) EngineFault) → IsOk result → IfErr result (λ fault. fault ≡ DiskFault)
no_fault (Ok u) is = tt
no_fault (Err e) is = absurd (cc)

not_failed : (result : Result (Unit {0}) EngineFault) → IsOk result → false ≡ is_disk_failure result
not_failed (Ok u) is = refl
not_failed (Err e) is = absurd (cc)

-- the log is due to be synced, or not
pub is_due : (sync : Bool) (pending : ℕ) → ((sync ≡ true) ⊎ (PENDING_LIMIT ≤ pending)) ⊎ ((sync ≡ false) × (pending < PENDING_LIMIT))
is_due true pending = inl (inl refl)
is_due false pending = elim (cases_lt pending PENDING_LIMIT) [ inl low ↦ inr (refl, low) | inr high ↦ inl (inr high) ]

module _ {D F : Type 0} (d : disk.Ghosts D F) (f : file.Ghosts F) (now_last : IsNowLast d f) where
  module _ (old mid new : Engine D F f) (now : SuperVersion) (ops : List WriteOp) (sync : Bool) (added : IsAdded f (record { first = record { 0 = now.last.0 + 1 }; batch = ops }) old mid (Ok tt)) (together : AreTogether old.manifest old.wal old.next)
      (result : Result (Unit {0}) EngineFault) (due : (sync ≡ true) ⊎ (PENDING_LIMIT ≤ wal_pending mid.wal) → IsLogSynced f mid new result) (waits : sync ≡ false → wal_pending mid.wal < PENDING_LIMIT → IsOk result × (new ≡ mid)) where
    abbrev b : Numbered
    b = record { first = record { 0 = now.last.0 + 1 }; batch = ops }

    -- the log was synced, or the batch waits
    either : IsLogSynced f mid new result ⊎ ((sync ≡ false) × (wal_pending mid.wal < PENDING_LIMIT) × IsOk result × (new ≡ mid))
    either = elim (is_due sync (wal_pending mid.wal)) [
      | inl is ↦ inl (due is)
      | inr isn't ↦ let w = waits isn't.0 isn't.1 in inr (isn't.0, isn't.1, w.0, w.1)
    ]

    module _ (m : State) (c : Course) (number : ℕ) (h : HoldsNow d f old now m c) (told : (asked : Bool) → IsReplyTo m (write ops asked) (OkAt (m.last.0 + length ops))) where
      next_added : IsAdded f (next_batch m ops) old mid (Ok tt)
      next_added = subst (λ z. IsAdded f z old mid (Ok tt)) (next_is d f now_last now m ops h.shows) added

      pub end_ran : RanUnder d f m c number (write ops sync) old new
      end_ran = elim either [
        | inl synced ↦ sync_ran d f now_last m c number ops old mid now h next_added together added.running.together sync (told sync) new result synced
        | inr waited ↦ subst (λ e. RanUnder d f m c number (write ops sync) old e) (sym waited.3) (waits_ran d f now_last m c number ops old mid now h next_added together added.running.together sync (told sync))
      ]

      pub end_now : (next : SuperVersion) → IsNow next (after_write m number ops sync) → OnOk result (HoldsNow d f new next (after_write m number ops sync) (course_after_write m number c ops sync))
      end_now next shows = elim either [
        | inl synced ↦ synced_now d f now_last m c number ops old mid now h next_added together added.running.together new result synced (told false) sync (told sync) next shows
        | inr waited ↦
            let P : Bool → Engine D F f → Type 0 = λ s e. HoldsNow d f e next (after_write m number ops s) (course_after_write m number c ops s) in
            let here : P false mid = waits_now d f now_last m c number ops old mid now h next_added together added.running.together (told false) next (subst (λ s. IsNow next (after_write m number ops s)) waited.0 shows) in
            ok_on result (P sync new) (subst (λ s. P s new) (sym waited.0) (subst (λ e. P false e) (sym waited.3) here))
      ]

    -- ---- whether or not the disk tells what it holds

    pub end_current : (next : SuperVersion) → AddsBatch ops now next → now.last.0 + length ops ≤ SEQUENCE_LIMIT → IsCurrent old now → OnOk result (IsCurrent new next)
    end_current next adds room current =
        let fits : FitsFold (manifest_folded mid.manifest) next = subst (λ m. FitsFold (manifest_folded m) next) (sym added.manifest) (written_fits (manifest_folded old.manifest) ops now next adds room current.fits) in
        let at : sequence_after b ≡ next.last.0 + 1 = let e = adds.last in omega (arith, e) in
        let goes : MayGoOn f mid.wal (next.last.0 + 1) = subst (MayGoOn f mid.wal) at added.goes_on in
        elim either [
          | inl synced ↦ synced_goes d f now_last mid new result synced next fits goes
          | inr waited ↦ ok_on result (IsCurrent new next) (subst (λ e. IsCurrent e next) (sym waited.3) (record { fits = fits; goes_on = goes; room = waited.1 }))
        ]

    pub end_running : OnOk result (IsRunning new)
    end_running = elim either [
      | inl synced ↦ synced.running
      | inr waited ↦ ok_on result (IsRunning new) (subst (λ e. IsRunning e) (sym waited.3) added.running)
    ]

    pub end_waits : sync ≡ false → length (waiting_with old.wal b) < PENDING_LIMIT → held new ≡ held old
    end_waits not low =
        let bytes = added.bytes in
        let pending : wal_pending mid.wal < PENDING_LIMIT = let e = ap length bytes in omega (arith, e, low) in
        let w = waits not pending in
        ap (λ e. held e) w.1 ∙ appended_held d f now_last old mid b (Ok tt) added

    pub end_bytes : sync ≡ false → length (waiting_with old.wal b) < PENDING_LIMIT → wal_waiting new.wal ≡ waiting_with old.wal b
    end_bytes not low =
        let bytes = added.bytes in
        let pending : wal_pending mid.wal < PENDING_LIMIT = let e = ap length bytes in omega (arith, e, low) in
        let w = waits not pending in
        ap (λ (e : Engine D F f). wal_waiting e.wal) w.1 ∙ added.bytes

    pub end_synced : (sync ≡ true) ⊎ (PENDING_LIMIT ≤ length (waiting_with old.wal b)) → OnOk result (wal_pending new.wal ≡ 0)
    end_synced is =
        let bytes = added.bytes in
        let e : wal_pending mid.wal ≡ length (waiting_with old.wal b) = ap length bytes in
        (due (elim is [ inl asked ↦ inl asked | inr high ↦ inr (omega (arith, e, high)) ])).pending

    pub end_cause : HasCause (engine_faults d f old) (engine_faults d f new) result
    end_cause = elim either [
      | inl synced ↦ subst (λ n. HasCause n (engine_faults d f new) result) (added_faults d f now_last old mid b (Ok tt) added) (synced_cause d f now_last mid new result synced)
      | inr waited ↦ none_of result waited.2 (ap (λ e. engine_faults d f e) waited.3 ∙ added_faults d f now_last old mid b (Ok tt) added)
    ]

    pub end_folder : IsSameFolder f old new
    end_folder = elim either [
      | inl synced ↦ folder_on f old mid new (added_folder d f now_last old mid b (Ok tt) added) (synced_folder d f now_last mid new result synced)
      | inr waited ↦ subst (λ e. IsSameFolder f old e) (sym waited.3) (added_folder d f now_last old mid b (Ok tt) added)
    ]

    pub end_next : new.next ≡ old.next
    end_next = elim either [
      | inl synced ↦ synced.next ∙ added.next
      | inr waited ↦ ap (λ (e : Engine D F f). e.next) waited.3 ∙ added.next
    ]

    pub end_older : new.older ≡ old.older
    end_older = elim either [
      | inl synced ↦ synced.older ∙ added.older
      | inr waited ↦ ap (λ (e : Engine D F f). e.older) waited.3 ∙ added.older
    ]

    pub end_manifest : new.manifest ≡ old.manifest
    end_manifest = elim either [
      | inl synced ↦ synced.manifest ∙ added.manifest
      | inr waited ↦ ap (λ (e : Engine D F f). e.manifest) waited.3 ∙ added.manifest
    ]

    pub end_fault : IfErr result (λ fault. fault ≡ DiskFault)
    end_fault = elim either [
      | inl synced ↦ synced.fault
      | inr waited ↦ no_fault result waited.2
    ]

    pub end_failed : has_failed new ≡ is_disk_failure result
    end_failed = elim either [
      | inl synced ↦ synced.failed
      | inr waited ↦ ap (λ e. has_failed e) waited.3 ∙ added.running.runs ∙ not_failed result waited.2
    ]
