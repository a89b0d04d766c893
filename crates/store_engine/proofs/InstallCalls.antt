-- What an install leaves, whether or not the disk tells what it holds.
use Rattle.std.proofs.Common.{◌≡◌, ◌⊎◌, ℕ, ◌+◌, ◌-◌, ◌^◌, ◌<◌, ◌≤◌, min, List, [], ◌∷◌, drop, length, map, take, Result, Ok, Err, sym, ap, ◌∙◌, subst, arith, inl, inr}
use Rattle.std.specs.Prelude.{◌≢◌, Contains}
use Rattle.std.proofs.lemmas.Bool.{false≢true}
use Rattle.std.proofs.lemmas.List.{take-append-drop}
use Rattle.udt_disk.specs.Causes.{HasCause, IsCause, Rose, plus_faults}
use Rattle.udt_disk.specs.Runs.{IsSameFile}
use Rattle.udt_disk.specs.Touches.{Touches}
use Rattle.udt_disk.specs.declared.file.DiskFile as file
use Rattle.udt_disk.specs.declared.disk.Disk as disk
use Rattle.udt_disk.specs.declared.name.FileName.{FileName}
use Rattle.udt_disk.specs.declared.name.FileName.TheVariants.{Log}
use Rattle.udt_disk.proofs.TouchLemmas.{touches_more, touches_then}
use Rattle.wal.specs.Wals.{MayGoOn, wal_file, wal_pending}
use Rattle.manifest_edit.specs.declared.edit.Edit.{Edit}
use Rattle.manifest_fold.specs.declared.fold.Folded.{Folded}
use Rattle.manifest_fold.specs.Folds.{IsAccepted, fold_with, is_live}
use Rattle.manifest.specs.Manifest.{manifest_file, manifest_folded}
use Rattle.super_version.specs.declared.version.SuperVersion.{SuperVersion}
use Rattle.floor_laws.proofs.Members.{In, In-contains, In-left, contains_In, map-In}
use Rattle.engine_laws.specs.Joints.{IsNowLast}
use Rattle.engine_laws.specs.Manifests.{IsWell}
use Rattle.engine_laws.proofs.Folding.{dropped_dead}
use Rattle.recovery.specs.Versions.{FitsFold}
use Rattle.udt_disk.specs.Crash.{NoMore}
use Rattle.udt_disk.specs.declared.name.FileName.TheVariants.{Table}
use Rattle.store_engine.specs.Asides.{AreAbsent}
use Rattle.store_engine.proofs.JobNumbers.{jobs_kept}
use Rattle.store_engine.specs.Engines.{IsCurrent, IsOneFolder, IsRunning, engine_faults, has_failed}
use Rattle.store_engine.specs.Asides.{AreRemoved, IsGivenBack}
use Rattle.store_engine.specs.Installing.{IsDropped, IsInstallCalled}
use Rattle.store_engine.specs.Replies.{is_disk_fault}
use Rattle.store_engine.specs.Steps.{IsEdited, IsLogSynced, IsSameFolder, ReservesEdit}
use Rattle.store_engine.specs.declared.engine.Engine.{Engine}
use Rattle.store_engine.specs.declared.fault.EngineFault.{EngineFault}
use Rattle.store_engine.specs.declared.fault.EngineFault.TheVariants.{DiskFault, NoMemory}
use Rattle.store_engine.proofs.Answering.{disk_disk, none_disk, one_stays}
use Rattle.store_engine.proofs.Aside.{aside_one, aside_running}
use Rattle.store_engine.proofs.Counts.{cause_third}
use Rattle.store_engine.proofs.GivenBack.{back_current, back_faults, back_fold, back_running}
use Rattle.store_engine.proofs.Raising.{kept_folder}
use Rattle.store_engine.proofs.Synced.{synced_cause, synced_folder}

only_given : {X : Type 0} (x y : X) → Contains (x ∷ []) y → y ≡ x
only_given x y i = elim (contains_In (x ∷ []) y i) [ inl q ↦ sym q | inr none ↦ absurd none ]

rises_first : (most a b w k : ℕ) → min (a + 1) most ≤ b → min (min (min (a + w) most + k) most + 1) most ≤ min (min (b + w) most + k) most
rises_first most a b w k rose = omega arith

rose_over : (most n k : ℕ) → min (min n most + 1) most ≤ k → min n most ≤ k
rose_over most n k rose = omega arith

module _ {D F : Type 0} (d : disk.Ghosts D F) (f : file.Ghosts F) (now_last : IsNowLast d f) where
  -- from the one engine to the other only the file that was given back was touched beside those that are held
  pub record IsLed (given : F) (old new : Engine D F f) : Type 0 where
    pub wal : IsSameFile f (wal_file old.wal) (wal_file new.wal)
    pub manifest : IsSameFile f (manifest_file old.manifest) (manifest_file new.manifest)
    pub touches : Touches d (λ name. name ≡ f.name given) old.disk new.disk
    pub one : IsOneFolder d f old → IsOneFolder d f new
    pub given_back : NoMore (f.may_leave given) (d.may_leave new.disk (f.name given))
    pub next : new.next ≡ old.next
    pub older : new.older ≡ old.older

  led_on : (given : F) (old mid new : Engine D F f) → IsLed given old mid → IsSameFolder f mid new → new.next ≡ mid.next → new.older ≡ mid.older → IsLed given old new
  led_on given old mid new led same next older = record {
    wal = record { name = same.wal.name ∙ led.wal.name; told = same.wal.told ∙ led.wal.told; model = same.wal.model ∙ led.wal.model };
    manifest = record { name = same.manifest.name ∙ led.manifest.name; told = same.manifest.told ∙ led.manifest.told; model = same.manifest.model ∙ led.manifest.model };
    touches = subst (Touches d (λ name. name ≡ f.name given) old.disk) (sym same.disk) led.touches;
    one = λ one. one_stays d f mid new same (led.one one);
    given_back = subst (λ x. NoMore (f.may_leave given) (d.may_leave x (f.name given))) (sym same.disk) led.given_back;
    next = next ∙ led.next;
    older = older ∙ led.older;
  }

  module _ (old mid back : Engine D F f) (edit : Edit) (ended : Result (Unit {0}) EngineFault) (number : ℕ) (given : F) (kept : ReservesEdit f edit old mid ended) (given_back : IsGivenBack d f given mid back) where
    same_mid : IsSameFolder f old mid
    same_mid = kept_folder d f now_last old mid edit ended kept

    led_back : IsLed given old back
    led_back = record {
      wal = record { name = ap (λ w. f.name (wal_file w)) given_back.aside.wal ∙ same_mid.wal.name; told = ap (λ w. f.is_told (wal_file w)) given_back.aside.wal ∙ same_mid.wal.told; model = ap (λ w. f.keeps_model (wal_file w)) given_back.aside.wal ∙ same_mid.wal.model };
      manifest = record { name = ap (λ k. f.name (manifest_file k)) given_back.aside.manifest ∙ same_mid.manifest.name; told = ap (λ k. f.is_told (manifest_file k)) given_back.aside.manifest ∙ same_mid.manifest.told; model = ap (λ k. f.keeps_model (manifest_file k)) given_back.aside.manifest ∙ same_mid.manifest.model };
      touches = subst (λ x. Touches d (λ name. name ≡ f.name given) x back.disk) same_mid.disk
          (touches_more d (Contains (f.name given ∷ [])) (λ name. name ≡ f.name given) mid.disk back.disk (λ name i. only_given (f.name given) name i) given_back.aside.touches);
      one = λ one. aside_one d f now_last (f.name given ∷ []) mid back given_back.aside (one_stays d f old mid same_mid one);
      given_back = given_back.crash;
      next = given_back.aside.next ∙ kept.next;
      older = given_back.aside.older ∙ kept.older;
    }

    fold_back : manifest_folded back.manifest ≡ manifest_folded old.manifest
    fold_back = back_fold d f now_last old mid back edit ended given kept given_back

    back_runs : IsRunning back
    back_runs = back_running d f now_last old mid back edit ended given kept given_back

    counted_back : engine_faults d f back ≡ plus_faults (engine_faults d f old) (f.faults given)
    counted_back = back_faults d f now_last old mid back edit ended given kept given_back

    touches_any : (new : Engine D F f) → IsLed given old new → Touches d (λ name. (name ≡ f.name given) ⊎ IsDropped (manifest_folded old.manifest).logs (manifest_folded new.manifest).logs name) old.disk new.disk
    touches_any new led = touches_more d (λ name. name ≡ f.name given) (λ name. (name ≡ f.name given) ⊎ IsDropped (manifest_folded old.manifest).logs (manifest_folded new.manifest).logs name) old.disk new.disk (λ name is. inl is) led.touches

    -- memory ran out
    pub refused_called : {A : Type 0} (fault : EngineFault) → fault ≡ NoMemory → IsInstallCalled {A = A} d f number given old back (Err fault)
    refused_called fault is = record {
      wal = led_back.wal;
      manifest = led_back.manifest;
      touches = touches_any back led_back;
      one = led_back.one;
      given_back = led_back.given_back;
      next = led_back.next;
      older = led_back.older;
      jobs = λ n other. jobs_kept f old back led_back.next fold_back n;
      untouched = λ not. (given_back.aside.wal ∙ kept.wal, ap (λ k. manifest_file k) given_back.aside.manifest ∙ kept.file);
      running = λ not. back_runs;
      failed = back_runs.runs ∙ sym (none_disk fault is);
      counted = subst (λ b. IsCause b (plus_faults (engine_faults d f old) (f.faults given)) (engine_faults d f back)) (sym (none_disk fault is)) counted_back;
      pending = tt;
    }

    -- the disk failed, with these faults
    failed_called : {A : Type 0} (fault : EngineFault) (new : Engine D F f) → fault ≡ DiskFault → IsLed given old new → manifest_folded new.manifest ≡ manifest_folded old.manifest → has_failed new ≡ is_disk_fault fault → Rose (engine_faults d f back) (engine_faults d f new) → IsInstallCalled {A = A} d f number given old new (Err fault)
    failed_called fault new is led fold failed rose = record {
      wal = led.wal;
      manifest = led.manifest;
      touches = touches_any new led;
      one = led.one;
      given_back = led.given_back;
      next = led.next;
      older = led.older;
      jobs = λ n other. jobs_kept f old new led.next fold n;
      untouched = λ not. absurd (false≢true (sym not ∙ disk_disk fault is));
      running = λ not. absurd (false≢true (sym not ∙ disk_disk fault is));
      failed = failed;
      counted = subst (λ b. IsCause b (plus_faults (engine_faults d f old) (f.faults given)) (engine_faults d f new)) (sym (disk_disk fault is)) (subst (λ n. Rose n (engine_faults d f new)) counted_back rose);
      pending = tt;
    }

    led_synced : (two : Engine D F f) (first : Result (Unit {0}) EngineFault) → IsLogSynced f back two first → IsLed given old two
    led_synced two first synced = led_on given old back two led_back (synced_folder d f now_last back two first synced) synced.next synced.older

    pub unsynced_called : {A : Type 0} (two : Engine D F f) (fault : EngineFault) → IsLogSynced f back two (Err fault) → IsInstallCalled {A = A} d f number given old two (Err fault)
    unsynced_called two fault synced = failed_called fault two synced.fault (led_synced two (Err fault) synced) (ap (λ k. manifest_folded k) synced.manifest ∙ fold_back) synced.failed (synced_cause d f now_last back two (Err fault) synced).failed

    module _ (two three : Engine D F f) (synced : IsLogSynced f back two (Ok tt)) (second : Result (Unit {0}) EngineFault) (edited : IsEdited f edit two three second) where
      led_edited : IsLed given old three
      led_edited = led_on given old two three (led_synced two (Ok tt) synced) (record {
        disk = edited.disk;
        wal = record { name = ap (λ w. f.name (wal_file w)) edited.wal; told = ap (λ w. f.is_told (wal_file w)) edited.wal; model = ap (λ w. f.keeps_model (wal_file w)) edited.wal };
        manifest = edited.same;
      }) edited.next edited.older

      edited_cause : HasCause (engine_faults d f back) (engine_faults d f three) second
      edited_cause =
          let a = plus_faults (d.faults two.disk) (f.faults (wal_file two.wal)) in
          let cause = cause_third a (f.faults (manifest_file two.manifest)) (f.faults (manifest_file three.manifest)) second edited.cause in
          let same : plus_faults a (f.faults (manifest_file three.manifest)) ≡ engine_faults d f three =
          ap (λ k. plus_faults (plus_faults (d.faults k) (f.faults (wal_file two.wal))) (f.faults (manifest_file three.manifest))) (sym edited.disk)
          ∙ ap (λ w. plus_faults (plus_faults (d.faults three.disk) (f.faults (wal_file w))) (f.faults (manifest_file three.manifest))) (sym edited.wal) in
          let before : engine_faults d f two ≡ engine_faults d f back = (synced_cause d f now_last back two (Ok tt) synced).kept in
          subst (λ n. HasCause n (engine_faults d f three) second) before (subst (λ n. HasCause (engine_faults d f two) n second) same cause)

      pub fold_two : manifest_folded two.manifest ≡ manifest_folded old.manifest
      fold_two = ap (λ k. manifest_folded k) synced.manifest ∙ fold_back

    pub unedited_called : {A : Type 0} (two three : Engine D F f) (fault : EngineFault) → IsLogSynced f back two (Ok tt) → IsEdited f edit two three (Err fault) → IsInstallCalled {A = A} d f number given old three (Err fault)
    unedited_called two three fault synced edited =
        failed_called fault three edited.fault (led_edited two three synced (Err fault) edited) (edited.unchanged ∙ fold_two two three synced (Err fault) edited) edited.failed (edited_cause two three synced (Err fault) edited).failed

    -- ---- all went well

    module _ (two three new : Engine D F f) (synced : IsLogSynced f back two (Ok tt)) (edited : IsEdited f edit two three (Ok tt)) (names : List FileName) (names_are : names ≡ map Log edit.drop_logs) (removed : AreRemoved d names three new)
        (accepted : IsAccepted (manifest_folded old.manifest) edit) (well : IsWell (manifest_folded old.manifest)) (named : f.name given ≡ Table number)
        (others_live : (n : ℕ) → n ≢ number → is_live (fold_with (manifest_folded old.manifest) edit).families n ≡ is_live (manifest_folded old.manifest).families n) where
      pub fold_new : manifest_folded new.manifest ≡ fold_with (manifest_folded old.manifest) edit
      fold_new = ap (λ k. manifest_folded k) removed.aside.manifest ∙ edited.fold ∙ ap (λ z. fold_with z edit) (fold_two two three synced (Ok tt) edited)

      drops_live : (n : ℕ) → In n edit.drop_logs → In n (manifest_folded old.manifest).logs
      drops_live n i = front (length edit.drop_logs) (manifest_folded old.manifest).logs (subst (In n) accepted.logs.oldest i) where
        front : (k : ℕ) (ns : List ℕ) → In n (take k ns) → In n ns
        front k ns j = subst (In n) (take-append-drop k ns) (In-left n (take k ns) (drop k ns) j)

      dropped_name : (name : FileName) → Contains names name → IsDropped (manifest_folded old.manifest).logs (manifest_folded new.manifest).logs name
      dropped_name name i =
          let r = map-In Log name edit.drop_logs (contains_In (map Log edit.drop_logs) name (subst (λ ns. Contains ns name) names_are i)) in (
            r.0,
            sym r.2,
            In-contains (manifest_folded old.manifest).logs r.0 (drops_live r.0 r.1),
            λ live. dropped_dead (manifest_folded old.manifest) edit r.0 accepted well r.1 (contains_In (fold_with (manifest_folded old.manifest) edit).logs r.0 (subst (λ fold. Contains fold.logs r.0) fold_new live)),
          )

      new_running : IsRunning new
      new_running = aside_running d f now_last names three new removed.aside edited.running

      pending_none : wal_pending new.wal ≡ 0
      pending_none = ap (λ w. wal_pending w) removed.aside.wal ∙ ap (λ w. wal_pending w) edited.wal ∙ synced.pending

      faults_three : engine_faults d f three ≡ plus_faults (engine_faults d f old) (f.faults given)
      faults_three = (edited_cause two three synced (Ok tt) edited).kept ∙ counted_back

      faults_with : plus_faults (plus_faults (d.faults new.disk) (f.faults (wal_file three.wal))) (f.faults (manifest_file three.manifest)) ≡ engine_faults d f new
      faults_with =
          ap (λ w. plus_faults (plus_faults (d.faults new.disk) (f.faults (wal_file w))) (f.faults (manifest_file three.manifest))) (sym removed.aside.wal)
          ∙ ap (λ k. plus_faults (plus_faults (d.faults new.disk) (f.faults (wal_file new.wal))) (f.faults (manifest_file k))) (sym removed.aside.manifest)

      -- the dropped logs are gone and no fault was met, or a remove failed
      pub gone_or_rose : (AreAbsent d names new.disk × (engine_faults d f new ≡ plus_faults (engine_faults d f old) (f.faults given))) ⊎ Rose (plus_faults (engine_faults d f old) (f.faults given)) (engine_faults d f new)
      gone_or_rose = elim removed.gone [
        | inl all ↦ inl (all.0, sym faults_with ∙ ap (λ n. plus_faults (plus_faults n (f.faults (wal_file three.wal))) (f.faults (manifest_file three.manifest))) all.1 ∙ faults_three)
        | inr rose ↦ inr (subst (λ n. Rose n (engine_faults d f new)) faults_three (subst (Rose (engine_faults d f three)) faults_with
            (rises_first (2 ^ 64 - 1) (d.faults three.disk) (d.faults new.disk) (f.faults (wal_file three.wal)) (f.faults (manifest_file three.manifest)) rose)))
      ]

      counted_new : plus_faults (engine_faults d f old) (f.faults given) ≤ engine_faults d f new
      counted_new = elim gone_or_rose [
        | inl all ↦ let e = all.1 in omega (arith, e)
        | inr rose ↦ rose_over (2 ^ 64 - 1) (engine_faults d f old + f.faults given) (engine_faults d f new) rose
      ]

      given_apart : ¬ Contains names (f.name given)
      given_apart i =
          let r = map-In Log (f.name given) edit.drop_logs (contains_In (map Log edit.drop_logs) (f.name given) (subst (λ ns. Contains ns (f.name given)) names_are i)) in
          let e = r.2 ∙ named in
          cc

      pub installed_called : {A : Type 0} (value : A) → IsInstallCalled d f number given old new (Ok value)
      installed_called value =
          let led = led_edited two three synced (Ok tt) edited in
          let Any : FileName → Type 0 = λ name. (name ≡ f.name given) ⊎ IsDropped (manifest_folded old.manifest).logs (manifest_folded new.manifest).logs name in
          record {
            wal = record { name = ap (λ w. f.name (wal_file w)) removed.aside.wal ∙ led.wal.name; told = ap (λ w. f.is_told (wal_file w)) removed.aside.wal ∙ led.wal.told; model = ap (λ w. f.keeps_model (wal_file w)) removed.aside.wal ∙ led.wal.model };
            manifest = record { name = ap (λ k. f.name (manifest_file k)) removed.aside.manifest ∙ led.manifest.name; told = ap (λ k. f.is_told (manifest_file k)) removed.aside.manifest ∙ led.manifest.told; model = ap (λ k. f.keeps_model (manifest_file k)) removed.aside.manifest ∙ led.manifest.model };
            touches = touches_then d Any old.disk three.disk new.disk (touches_more d (λ name. name ≡ f.name given) Any old.disk three.disk (λ name is. inl is) led.touches)
                (touches_more d (Contains names) Any three.disk new.disk (λ name i. inr (dropped_name name i)) removed.aside.touches);
            one = λ one. aside_one d f now_last names three new removed.aside (led.one one);
            given_back = λ image left. led.given_back image (removed.aside.touches.no_more (f.name given) image given_apart left);
            next = removed.aside.next ∙ led.next;
            older = removed.aside.older ∙ led.older;
            jobs = λ n other. λ job. record {
              given = subst (λ k. n < k) (sym (removed.aside.next ∙ led.next)) job.given;
              free = ap (λ (fold : Folded). is_live fold.families n) fold_new ∙ others_live n other ∙ job.free;
            };
            untouched = tt;
            running = λ not. new_running;
            failed = new_running.runs;
            counted = counted_new;
            pending = pending_none;
          }

      pub installed_current : (now next : SuperVersion) → FitsFold (fold_with (manifest_folded old.manifest) edit) next → next.last ≡ now.last → IsCurrent old now → IsCurrent new next
      installed_current now next fits last current =
          let back_goes = (back_current d f now_last old mid back edit ended given kept given_back now current).goes_on in
          let goes : MayGoOn f two.wal (next.last.0 + 1) = subst (λ q. MayGoOn f two.wal (q.0 + 1)) (sym last) (synced.goes_on (now.last.0 + 1) back_goes) in
          record {
            fits = subst (λ z. FitsFold z next) (sym fold_new) fits;
            goes_on = subst (λ w. MayGoOn f w (next.last.0 + 1)) (sym (removed.aside.wal ∙ edited.wal)) goes;
            room = let e = pending_none in omega (arith, e);
          }
