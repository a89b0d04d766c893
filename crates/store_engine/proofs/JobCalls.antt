-- The files of jobs: what the engine holds when one was made, and when one was given back.
use Rattle.std.proofs.Common.{◌≡◌, ◌≢◌, ℕ, ◌-◌, ◌^◌, ◌<◌, ◌≤◌, false, List, [], ◌∷◌, Result, sym, ap, ◌∙◌, subst, arith, inl}
use Rattle.std.specs.Prelude.{Contains}
use Rattle.std.proofs.lemmas.Bool.{false_from_ne_true}
use Rattle.udt_disk.specs.Causes.{HasCause, plus_faults}
use Rattle.udt_disk.specs.Folder.{FolderElapses, OthersStay}
use Rattle.udt_disk.specs.Touches.{Touches}
use Rattle.udt_disk.specs.declared.file.DiskFile as file
use Rattle.udt_disk.specs.declared.disk.Disk as disk
use Rattle.udt_disk.specs.declared.name.FileName.{FileName}
use Rattle.udt_disk.specs.declared.name.FileName.TheVariants.{Table}
use Rattle.udt_disk.proofs.Joints.{ran_more}
use Rattle.udt_disk.proofs.TouchLemmas.{touches_more, touches_one}
use Rattle.wal.specs.Wals.{wal_file}
use Rattle.udt_model.specs.State.{State}
use Rattle.udt_model.specs.Crashes.{Course, IsOutcome}
use Rattle.manifest_fold.specs.declared.fold.Folded.{Folded}
use Rattle.manifest_fold.specs.declared.limits.TheConstants.{FILE_NUMBER_LIMIT}
use Rattle.manifest_fold.specs.Folds.{is_live}
use Rattle.manifest.specs.Manifest.{manifest_file, manifest_folded}
use Rattle.super_version.specs.declared.version.SuperVersion.{SuperVersion}
use Rattle.floor_laws.proofs.Members.{All-In, All-from, In-contains}
use Rattle.engine_laws.specs.Installs.{roll_edit}
use Rattle.engine_laws.specs.Joints.{IsNowLast}
use Rattle.engine_laws.specs.Manifests.{IsWell}
use Rattle.engine_laws.specs.Moves.{AreDead}
use Rattle.engine_laws.specs.Standing.{FolderSays, StandsForSome}
use Rattle.engine_laws.proofs.Folding.{live_known}
use Rattle.engine_laws.proofs.Places.{In-get}
use Rattle.engine_laws.proofs.Resting.{stands_rest}
use Rattle.recovery.specs.Tables.{ReadsAsTable}
use Rattle.store_engine.specs.Asides.{IsAside, IsGivenBack}
use Rattle.store_engine.specs.Calls.{RanOn}
use Rattle.store_engine.specs.Engines.{HoldsAsBefore, HoldsNow, IsCurrent, IsOneFolder, IsRunning, engine_faults, held}
use Rattle.store_engine.specs.JobCalls.{IsDeadTable, IsDiscarded}
use Rattle.store_engine.specs.Jobs.{IsJobNumber}
use Rattle.store_engine.specs.declared.engine.Engine.{Engine}
use Rattle.store_engine.proofs.Aside.{aside_current, aside_now, aside_one, aside_ran, aside_running, table_dead}
use Rattle.store_engine.proofs.Counts.{cause_left, more_faults}

-- the number of the next file is that of no live table
pub next_free : (fold : Folded) (n : ℕ) → IsWell fold → fold.next_file ≤ n → is_live fold.families n ≡ false
next_free fold n well most = false_from_ne_true (is_live fold.families n) (λ y.
    let r = live_known fold (roll_edit fold.last n) fold.families n y in
    let k = In-get fold.families r.0 r.1 in
    let low = well.tables (record { 0 = k.0 }) r.0 r.2.0 (record { family = k.1; table = In-contains r.0.tables r.2.0 r.2.1 }) in
    let is = r.2.2 in
    omega (arith, low, is, most))

-- a call under one name
pub created_touches : {D F : Type 0} (d : disk.Ghosts D F) (name : FileName) (old new : D) (Bounded : FileName → Type 0) → ((n : FileName) → n ≢ name → Bounded n) → OthersStay name (d.stands old) (d.stands new) (d.may_leave old) (d.may_leave new)
    → FolderElapses Bounded (d.moment old) (d.moment new) (d.left_since old) (d.left_since new) (d.may_leave new) → d.is_told new ≡ d.is_told old → d.keeps_model new ≡ d.keeps_model old → Touches d (Contains (name ∷ [])) old new
created_touches d name old new Bounded bounded others time told model =
    touches_more d (λ n. n ≡ name) (Contains (name ∷ [])) old new (λ n is. In-contains (name ∷ []) n (inl (sym is))) (touches_one d Bounded name old new bounded others time told model)

module _ {D F : Type 0} (d : disk.Ghosts D F) (f : file.Ghosts F) (now_last : IsNowLast d f) where
  -- ---- under names that aren't live

  module _ (names : List FileName) (old new : Engine D F f) (aside : IsAside d names old new) where
    -- at each moment a crash leaves only folders that stand for outcomes
    pub aside_outcomes : AreDead (f.name (manifest_file old.manifest)) (manifest_folded old.manifest) (Contains names) → (now : SuperVersion) (m : State) (c : Course) → HoldsNow d f old now m c → RanOn d f m c old new
    aside_outcomes dead now m c h =
        ran_more d f (λ folder. FolderSays ReadsAsTable folder h.says) (λ folder. StandsForSome ReadsAsTable folder (IsOutcome m c)) (λ folder r. stands_rest ReadsAsTable folder m c h.says h.waiting h.holds r) (held old) (held new)
        (aside_ran d f now_last names old new aside dead h.says h.waiting h.engine_of)

    pub aside_before : AreDead (f.name (manifest_file old.manifest)) (manifest_folded old.manifest) (Contains names) → HoldsAsBefore d f old new
    aside_before dead = record {
      current = λ now current. aside_current d f now_last names old new aside now current;
      holds = λ now m c h. aside_now d f now_last names old new aside dead now m c h;
      running = λ r. aside_running d f now_last names old new aside r;
    }

  -- ---- a file that was given back

  module _ (old new : Engine D F f) (given : F) (back : IsGivenBack d f given old new) where
    pub discards : IsDiscarded d f given old new
    discards = record {
      one = aside_one d f now_last (f.name given ∷ []) old new back.aside;
      jobs = λ n job. record {
        given = let e = back.aside.next in let l = job.given in omega (arith, e, l);
        free = ap (λ k. is_live (manifest_folded k).families n) back.aside.manifest ∙ job.free;
      };
      counted =
          let x = d.faults old.disk in
          let w = f.faults (wal_file old.wal) in
          let k = f.faults (manifest_file old.manifest) in
          ap (λ n. plus_faults (plus_faults n (f.faults (wal_file new.wal))) (f.faults (manifest_file new.manifest))) back.faults
          ∙ ap (λ z. plus_faults (plus_faults (plus_faults x (f.faults given)) (f.faults (wal_file z))) (f.faults (manifest_file new.manifest))) back.aside.wal
          ∙ ap (λ z. plus_faults (plus_faults (plus_faults x (f.faults given)) w) (f.faults (manifest_file z))) back.aside.manifest
          ∙ more_faults (2 ^ 64 - 1) x w k (f.faults given);
    }

    module _ (table : IsDeadTable f old given) where
      given_dead : AreDead (f.name (manifest_file old.manifest)) (manifest_folded old.manifest) (Contains (f.name given ∷ []))
      given_dead = subst (λ n. AreDead (f.name (manifest_file old.manifest)) (manifest_folded old.manifest) (Contains (n ∷ []))) (sym table.1)
          (table_dead (f.name (manifest_file old.manifest)) (manifest_folded old.manifest) table.0 table.2)

      pub discards_before : HoldsAsBefore d f old new
      discards_before = aside_before (f.name given ∷ []) old new back.aside given_dead

      pub discards_ran : (now : SuperVersion) (m : State) (c : Course) → HoldsNow d f old now m c → RanOn d f m c old new
      discards_ran now m c h = aside_outcomes (f.name given ∷ []) old new back.aside given_dead now m c h

  -- ---- a file that was made, under a number that may be taken then

  module _ (old : Engine D F f) (n : ℕ) (low : old.next ≤ n) (most : n ≤ FILE_NUMBER_LIMIT) where
    abbrev mid : Engine D F f
    mid = record old { next = n }

    mid_running : IsRunning old → IsRunning mid
    mid_running r = record {
      together = record {
        well = r.together.well;
        name = r.together.name;
        sizes = r.together.sizes;
        edits = r.together.edits;
        log = r.together.log;
        more = let u = r.together.more in omega (arith, u, low);
        most = most;
      };
      runs = r.runs;
    }

    mid_current : (now : SuperVersion) → IsCurrent old now → IsCurrent mid now
    mid_current now current = record { fits = current.fits; goes_on = current.goes_on; room = current.room }

    mid_one : IsOneFolder d f old → IsOneFolder d f mid
    mid_one one = record {
      named = one.named;
      wal_told = one.wal_told;
      wal_model = one.wal_model;
      manifest_told = one.manifest_told;
      manifest_model = one.manifest_model;
    }

    mid_now : (now : SuperVersion) (m : State) (c : Course) → HoldsNow d f old now m c → HoldsNow d f mid now m c
    mid_now now m c h = record {
      says = h.says;
      waiting = h.waiting;
      engine_of = record { rests = h.engine_of.rests; fold = h.engine_of.fold; edits = h.engine_of.edits; log = h.engine_of.log; one = mid_one h.engine_of.one };
      holds = h.holds;
      shows = h.shows;
      used = All-from (λ k. k < n) m.used (λ k i. let l = All-In (λ j. j < old.next) m.used k h.used i in omega (arith, l, low));
      covers = h.covers;
      runs = h.runs;
      unfailed = h.unfailed;
    }

    module _ (run : IsRunning old) (new : Engine D F f) (aside : IsAside d (Table old.next ∷ []) mid new) where
      abbrev names : List FileName
      names = Table old.next ∷ []

      dead : AreDead (f.name (manifest_file old.manifest)) (manifest_folded old.manifest) (Contains names)
      dead = table_dead (f.name (manifest_file old.manifest)) (manifest_folded old.manifest) old.next (next_free (manifest_folded old.manifest) old.next run.together.well run.together.more)

      pub made_before : HoldsAsBefore d f old new
      made_before = record {
        current = λ now current. aside_current d f now_last names mid new aside now (mid_current now current);
        holds = λ now m c h. aside_now d f now_last names mid new aside dead now m c (mid_now now m c h);
        running = λ r. aside_running d f now_last names mid new aside (mid_running r);
      }

      pub made_ran : (now : SuperVersion) (m : State) (c : Course) → HoldsNow d f old now m c → RanOn d f m c old new
      made_ran now m c h = aside_outcomes names mid new aside dead now m c (mid_now now m c h)

      pub made_one : IsOneFolder d f old → IsOneFolder d f new
      made_one one = aside_one d f now_last names mid new aside (mid_one one)

      pub made_jobs : (k : ℕ) → IsJobNumber old k → IsJobNumber new k
      made_jobs k job = record {
        given = let e = aside.next in let l = job.given in omega (arith, e, l, low);
        free = ap (λ x. is_live (manifest_folded x).families k) aside.manifest ∙ job.free;
      }

      -- the number is one of a job, where the next is above it
      pub made_job : old.next < n → IsJobNumber new old.next
      made_job above = record {
        given = let e = aside.next in omega (arith, e, above);
        free = ap (λ x. is_live (manifest_folded x).families old.next) aside.manifest ∙ next_free (manifest_folded old.manifest) old.next run.together.well run.together.more;
      }

      pub made_cause : {A E : Type 0} (result : Result A E) → HasCause (d.faults old.disk) (d.faults new.disk) result → HasCause (engine_faults d f old) (engine_faults d f new) result
      made_cause result cause =
          let w = f.faults (wal_file old.wal) in
          let k = f.faults (manifest_file old.manifest) in
          let same : engine_faults d f new ≡ plus_faults (plus_faults (d.faults new.disk) w) k =
          ap (λ z. plus_faults (plus_faults (d.faults new.disk) (f.faults (wal_file z))) (f.faults (manifest_file new.manifest))) aside.wal
          ∙ ap (λ z. plus_faults (plus_faults (d.faults new.disk) w) (f.faults (manifest_file z))) aside.manifest in
          subst (λ n. HasCause (engine_faults d f old) n result) (sym same)
          (cause_left k (plus_faults (d.faults old.disk) w) (plus_faults (d.faults new.disk) w) result (cause_left w (d.faults old.disk) (d.faults new.disk) result cause))
