-- A batch that was added to the log: what the engine holds behind it.
use Rattle.std.proofs.Common.{◌≡◌, ℕ, ◌+◌, ◌<◌, Bool, true, false, List, [], ◌∷◌, ◌++◌, length, Result, Ok, Err, refl, sym, ap, ◌∙◌, subst, arith, inl}
use Rattle.std.specs.Prelude.{All, OnErr, OnOk}
use Rattle.std.proofs.lemmas.List.{length-map}
use Rattle.ts_key.specs.declared.batch.WriteOp.{WriteOp}
use Rattle.udt_disk.specs.Causes.{plus_faults}
use Rattle.udt_disk.specs.Joint.{Folder, Ran}
use Rattle.udt_disk.specs.Joint.Ran.{rests}
use Rattle.udt_disk.specs.Runs.{Leaves}
use Rattle.udt_disk.specs.declared.file.DiskFile as file
use Rattle.udt_disk.specs.declared.disk.Disk as disk
use Rattle.udt_disk.specs.declared.name.FileName.TheVariants.{Log}
use Rattle.wal.specs.declared.numbered.Numbered.{Numbered}
use Rattle.wal.specs.Records.{IsLoggedBatch}
use Rattle.wal.specs.Replays.{IsBeforeOrAfter}
use Rattle.wal.specs.Wals as log
use Rattle.wal.specs.Wals.{MayGoOn, wal_file, wal_pending, wal_sizes}
use Rattle.udt_model.specs.declared.reply.Reply.TheVariants.{OkAt}
use Rattle.udt_model.specs.State.{State}
use Rattle.udt_model.specs.Acts.Act.{write}
use Rattle.udt_model.specs.Steps.{IsReplyTo}
use Rattle.udt_model.specs.Crashes.{Course, IsOutcomeUnder}
use Rattle.manifest.specs.Folds.{sizes_of}
use Rattle.manifest.specs.Manifest.{FoldRests, manifest_file, manifest_folded}
use Rattle.super_version.specs.declared.version.SuperVersion.{SuperVersion}
use Rattle.engine_laws.specs.Joints.{IsNowLast}
use Rattle.engine_laws.specs.JointLaws.{RestIn}
use Rattle.engine_laws.specs.Laws.{after_write, course_after_write}
use Rattle.engine_laws.specs.Standing.{Says, StandsForSome}
use Rattle.engine_laws.specs.Engine.{HoldsState, newest_log_of, next_batch, with_batches}
use Rattle.engine_laws.proofs.Joined.{newest_rests, now_leaves, ran_write}
use Rattle.engine_laws.proofs.Syncing.{sync_unasked, write_synced, write_waits}
use Rattle.floor_laws.proofs.Members.{All-In, In-right}
use Rattle.recovery.specs.Tables.{ReadsAsTable}
use Rattle.recovery.specs.Versions.{FitsFold}
use Rattle.store_engine.specs.Engines.{HoldsAsBefore, HoldsNow, IsEngineOf, engine_faults, held}
use Rattle.store_engine.specs.Now.{IsNow}
use Rattle.store_engine.specs.Steps.{IsAdded, IsLogSynced, IsSameFolder}
use Rattle.store_engine.specs.Together.{AreTogether}
use Rattle.store_engine.specs.declared.engine.Engine.{Engine}
use Rattle.store_engine.specs.declared.fault.EngineFault.{EngineFault}
use Rattle.store_engine.specs.Older.{CoversOlder}
use Rattle.store_engine.proofs.Covering.{covers_synced}
use Rattle.store_engine.proofs.Answering.{on_ok}
use Rattle.store_engine.proofs.Files.{first_ran, same_joint}
use Rattle.store_engine.proofs.Together.{named_on}
use Rattle.store_engine.proofs.Synced.{log_is, sizes_are, synced_held, synced_of}

module _ {D F : Type 0} (d : disk.Ghosts D F) (f : file.Ghosts F) (now_last : IsNowLast d f) where
  module _ (old mid : Engine D F f) (b : Numbered) (result : Result (Unit {0}) EngineFault) (added : IsAdded f b old mid result) where
    pub appended_held : held mid ≡ held old
    appended_held = same_joint mid.disk old.disk (wal_file mid.wal) (wal_file old.wal) (manifest_file mid.manifest) (manifest_file old.manifest) added.disk added.file (ap (λ m. manifest_file m) added.manifest)

    pub added_of : (s : Says) (waiting more : List Numbered) → IsEngineOf d f old s waiting → log.Holds f mid.wal (s.logs (newest_log_of s)) more → IsEngineOf d f mid s more
    added_of s waiting more of holds =
        let told : d.is_told mid.disk ≡ d.is_told old.disk = ap d.is_told added.disk in
        let model : d.keeps_model mid.disk ≡ d.keeps_model old.disk = ap d.keeps_model added.disk in
        record {
          rests = subst (λ j. RestIn d f ReadsAsTable j (f.name (manifest_file mid.manifest)) s) (sym appended_held) (subst (λ m. RestIn d f ReadsAsTable (held old) (f.name (manifest_file m)) s) (sym added.manifest) of.rests);
          fold = ap manifest_folded added.manifest ∙ of.fold;
          edits = subst (FoldRests f) (sym added.manifest) of.edits;
          log = holds;
          one = record {
            named = named_on f old.manifest mid.manifest old.wal mid.wal (ap (λ m. f.name (manifest_file m)) added.manifest) (ap f.name added.file) of.one.named;
            wal_told = ap f.is_told added.file ∙ of.one.wal_told ∙ sym told;
            wal_model = ap f.keeps_model added.file ∙ of.one.wal_model ∙ sym model;
            manifest_told = ap (λ m. f.is_told (manifest_file m)) added.manifest ∙ of.one.manifest_told ∙ sym told;
            manifest_model = ap (λ m. f.keeps_model (manifest_file m)) added.manifest ∙ of.one.manifest_model ∙ sym model;
          };
        }

    pub added_faults : engine_faults d f mid ≡ engine_faults d f old
    added_faults = ap (λ k. plus_faults (plus_faults (d.faults k) (f.faults (wal_file mid.wal))) (f.faults (manifest_file mid.manifest))) added.disk
        ∙ ap (λ w. plus_faults (plus_faults (d.faults old.disk) (f.faults w)) (f.faults (manifest_file mid.manifest))) added.file
        ∙ ap (λ m. plus_faults (plus_faults (d.faults old.disk) (f.faults (wal_file old.wal))) (f.faults (manifest_file m))) added.manifest

    pub added_folder : IsSameFolder f old mid
    added_folder = record {
      disk = added.disk;
      wal = record { name = ap f.name added.file; told = ap f.is_told added.file; model = ap f.keeps_model added.file };
      manifest = record { name = ap (λ m. f.name (manifest_file m)) added.manifest; told = ap (λ m. f.is_told (manifest_file m)) added.manifest; model = ap (λ m. f.keeps_model (manifest_file m)) added.manifest };
    }

    -- where memory ran out it holds what it held
    pub unadded : OnErr result (HoldsAsBefore d f old mid)
    unadded = elim result as (λ r. ((bs ws : List Numbered) → log.Holds f old.wal bs ws → OnErr r (log.Holds f mid.wal bs ws)) → ((n : ℕ) → MayGoOn f old.wal n → OnErr r (MayGoOn f mid.wal n)) → OnErr r (wal_pending mid.wal ≡ wal_pending old.wal) → OnErr r (HoldsAsBefore d f old mid)) [
      | Ok u ↦ λ holds goes pending. tt
      | Err e ↦ λ holds goes pending. record {
        current = λ now cur. record {
          fits = subst (λ m. FitsFold (manifest_folded m) now) (sym added.manifest) cur.fits;
          goes_on = goes (now.last.0 + 1) cur.goes_on;
          room = let k = pending in let r = cur.room in omega (arith, k, r);
        };
        holds = λ now m c h. record {
          says = h.says;
          waiting = h.waiting;
          engine_of = added_of h.says h.waiting h.waiting h.engine_of (holds (h.says.logs (newest_log_of h.says)) h.waiting h.engine_of.log);
          holds = h.holds;
          shows = h.shows;
          used = subst (λ k. All (λ n. n < k) m.used) (sym added.next) h.used;
          covers = subst (λ o. CoversOlder o h.says) (sym added.older) h.covers;
          runs = h.runs;
          unfailed = h.unfailed;
        };
        running = λ k. added.running;
      }
    ] added.err_holds added.err_goes_on added.err_pending

  module _ (old mid : Engine D F f) (b : Numbered) (added : IsAdded f b old mid (Ok tt)) where
    pub appended_of : (s : Says) (waiting : List Numbered) → IsEngineOf d f old s waiting → IsEngineOf d f mid s (waiting ++ b ∷ [])
    appended_of s waiting of = added_of old mid b (Ok tt) added s waiting (waiting ++ b ∷ []) of (added.holds (s.logs (newest_log_of s)) waiting of.log)

    -- it may stand in the log
    pub appended_fits : (s : Says) (waiting : List Numbered) → IsEngineOf d f old s waiting → AreTogether old.manifest old.wal old.next → IsLoggedBatch (length s.fold.families) b
    appended_fits s waiting of together =
        let k : length (wal_sizes mid.wal) ≡ length s.fold.families = ap length (added.sizes ∙ sizes_are d f now_last old s waiting of together) ∙ simp length-map in
        subst (λ n. IsLoggedBatch n b) k (All-In (IsLoggedBatch (length (wal_sizes mid.wal))) (waiting ++ b ∷ []) b (added.holds (s.logs (newest_log_of s)) waiting of.log).shown.allowed (In-right b waiting (b ∷ []) (inl refl)))

  -- the batch that follows the last sequence of the version is the model's next one
  pub next_is : (now : SuperVersion) (m : State) (ops : List WriteOp) → IsNow now m → (let b : Numbered = record { first = record { 0 = now.last.0 + 1 }; batch = ops } in b) ≡ next_batch m ops
  next_is now m ops shows = ap (λ (k : ℕ). (let b : Numbered = record { first = record { 0 = k + 1 }; batch = ops } in b)) (ap (λ q. q.0) shows.last)

  module _ (m : State) (c : Course) (number : ℕ) (ops : List WriteOp) (old mid : Engine D F f) (now : SuperVersion) (h : HoldsNow d f old now m c) (added : IsAdded f (next_batch m ops) old mid (Ok tt)) (together : AreTogether old.manifest old.wal old.next) (together_mid : AreTogether mid.manifest mid.wal mid.next) where
    abbrev more : List Numbered
    more = h.waiting ++ next_batch m ops ∷ []

    fits : IsLoggedBatch (length h.says.fold.families) (next_batch m ops)
    fits = appended_fits old mid (next_batch m ops) added h.says h.waiting h.engine_of together

    of_mid : IsEngineOf d f mid h.says more
    of_mid = appended_of old mid (next_batch m ops) added h.says h.waiting h.engine_of

    used_mid : All (λ n. n < mid.next) m.used
    used_mid = subst (λ k. All (λ n. n < k) m.used) (sym added.next) h.used

    -- it waits
    pub waits_now : IsReplyTo m (write ops false) (OkAt (m.last.0 + length ops)) → (next : SuperVersion) → IsNow next (after_write m number ops false) → HoldsNow d f mid next (after_write m number ops false) (course_after_write m number c ops false)
    waits_now told next shows = record {
      says = h.says;
      waiting = more;
      engine_of = of_mid;
      holds = write_waits m c h.says h.waiting number ops (m.last.0 + length ops) h.holds told fits refl;
      shows = shows;
      used = used_mid;
      covers = subst (λ o. CoversOlder o h.says) (sym added.older) h.covers;
      runs = h.runs;
      unfailed = h.unfailed;
    }

    module _ (sync : Bool) (told : IsReplyTo m (write ops sync) (OkAt (m.last.0 + length ops))) where
      -- no call was made on the disk
      pub waits_ran : Ran d f (λ folder. StandsForSome ReadsAsTable folder (IsOutcomeUnder m c number (write ops sync))) (held old) (held mid)
      waits_ran = subst (λ j. Ran d f (λ folder. StandsForSome ReadsAsTable folder (IsOutcomeUnder m c number (write ops sync))) (held old) j) (sym (appended_held old mid (next_batch m ops) (Ok tt) added))
          (rests (λ folder image. let left = now_leaves d f now_last ReadsAsTable (f.name (manifest_file old.manifest)) m c h.says h.waiting (held old) h.holds h.engine_of.rests folder image in (left.0, left.1, inl left.2)))

      module _ (new : Engine D F f) (result : Result (Unit {0}) EngineFault) (synced : IsLogSynced f mid new result) where
        leaves : Leaves f (wal_file mid.wal) (wal_file new.wal) (IsBeforeOrAfter (sizes_of h.says.fold) (h.says.logs (newest_log_of h.says)) more)
        leaves = subst (λ sizes. Leaves f (wal_file mid.wal) (wal_file new.wal) (IsBeforeOrAfter sizes (h.says.logs (newest_log_of h.says)) more))
            (sizes_are d f now_last mid h.says more of_mid together_mid) (synced.moments (h.says.logs (newest_log_of h.says)) more of_mid.log)

        -- while it was synced a crash left an outcome under the write
        pub sync_ran : Ran d f (λ folder. StandsForSome ReadsAsTable folder (IsOutcomeUnder m c number (write ops sync))) (held old) (held new)
        sync_ran =
            let name = f.name (manifest_file mid.manifest) in
            let a = wal_file mid.wal in
            let b = wal_file new.wal in
            let k = manifest_file mid.manifest in
            let P : Folder → Type 0 = λ folder. StandsForSome ReadsAsTable folder (IsOutcomeUnder m c number (write ops sync)) in
            let newest = newest_rests d f now_last ReadsAsTable name h.says (held mid) h.holds.well of_mid.rests in
            let at : f.name a ≡ Log (newest_log_of h.says) = log_is d f now_last mid h.says more of_mid together_mid in
            let ran = ran_write d f now_last ReadsAsTable name of_mid.one.named.of_manifest m c h.says h.waiting number ops sync mid.disk (a ∷ k ∷ []) (b ∷ k ∷ []) a b h.holds told fits of_mid.rests (first_ran f a b k synced.same.name) at newest leaves in
            subst (λ j. Ran d f P j (held new)) (appended_held old mid (next_batch m ops) (Ok tt) added) (subst (λ j. Ran d f P (held mid) j) (sym (synced_held d f now_last mid new result synced)) ran)

  -- it is on the disk, with all that waited, whether or not that was asked for
  module _ (m : State) (c : Course) (number : ℕ) (ops : List WriteOp) (s : Says) (waiting : List Numbered) (h : HoldsState m c s waiting) (fits : IsLoggedBatch (length s.fold.families) (next_batch m ops)) where
    pub written_holds : (sync : Bool) → IsReplyTo m (write ops sync) (OkAt (m.last.0 + length ops)) → HoldsState (after_write m number ops sync) (course_after_write m number c ops sync) (with_batches s (waiting ++ next_batch m ops ∷ [])) []
    written_holds true told = write_synced m c s waiting number ops (m.last.0 + length ops) h told fits refl
    written_holds false told =
        sync_unasked (after_write m number ops false) (course_after_write m number c ops false) s (waiting ++ next_batch m ops ∷ []) (write_waits m c s waiting number ops (m.last.0 + length ops) h told fits refl)

  module _ (m : State) (c : Course) (number : ℕ) (ops : List WriteOp) (old mid : Engine D F f) (now : SuperVersion) (h : HoldsNow d f old now m c) (added : IsAdded f (next_batch m ops) old mid (Ok tt)) (together : AreTogether old.manifest old.wal old.next) (together_mid : AreTogether mid.manifest mid.wal mid.next)
      (new : Engine D F f) (result : Result (Unit {0}) EngineFault) (synced : IsLogSynced f mid new result) where
    pub synced_now : (told : IsReplyTo m (write ops false) (OkAt (m.last.0 + length ops))) (sync : Bool) → IsReplyTo m (write ops sync) (OkAt (m.last.0 + length ops)) → (next : SuperVersion) → IsNow next (after_write m number ops sync)
        → OnOk result (HoldsNow d f new next (after_write m number ops sync) (course_after_write m number c ops sync))
    synced_now told sync asked next shows =
        let b = next_batch m ops in
        let s = h.says in
        let more = h.waiting ++ b ∷ [] in
        let fits = appended_fits old mid b added s h.waiting h.engine_of together in
        let waits = write_waits m c s h.waiting number ops (m.last.0 + length ops) h.holds told fits refl in
        let of = appended_of old mid b added s h.waiting h.engine_of in
        on_ok result (IsEngineOf d f new (with_batches s more) []) (HoldsNow d f new next (after_write m number ops sync) (course_after_write m number c ops sync))
        (λ of_new. record {
          says = with_batches s more;
          waiting = [];
          engine_of = of_new;
          holds = written_holds m c number ops s h.waiting h.holds fits sync asked;
          shows = shows;
          used = subst (λ k. All (λ n. n < k) m.used) (sym (synced.next ∙ added.next)) h.used;
          covers = covers_synced old.older new.older s more (synced.older ∙ added.older) h.covers;
          runs = h.runs;
          unfailed = h.unfailed;
        })
        (synced_of d f now_last mid new result synced (after_write m number ops false) (course_after_write m number c ops false) s more waits of together_mid)
