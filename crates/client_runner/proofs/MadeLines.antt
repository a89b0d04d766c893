-- Lines that a store has made, and what the folder that took its files back stands for.
use Rattle.std.proofs.Common.{◌≡◌, ◌≢◌, ℕ, List, [], refl, sym, ap, ◌∙◌, subst}
use Rattle.std.specs.Prelude.{map, Some, None, IsTrue}
use Rattle.udt_disk.specs.Crash.{Image}
use Rattle.udt_disk.specs.Joint.{Folder}
use Rattle.udt_disk.specs.declared.name.FileName.{FileName}
use Rattle.udt_disk.specs.declared.name.FileName.TheVariants.{Log}
use Rattle.udt_disk.specs.declared.file.DiskFile as file
use Rattle.udt_disk.specs.declared.disk.Disk as disk
use Rattle.ts_key.specs.declared.numbers.Seq.{Seq}
use Rattle.ts_key.specs.declared.version.Version.{Version}
use Rattle.udt_model.specs.declared.line.FamilyHead.{FamilyHead}
use Rattle.udt_model.specs.declared.line.Line.{Line}
use Rattle.udt_model.specs.State.{State, unflushed}
use Rattle.udt_model.specs.Histories.{Point, start, Leads}
use Rattle.udt_model.specs.Crashes.{Course, IsOutcome, course_start, course_behind, settled}
use Rattle.udt_disk.specs.Runs.{IsSameFile}
use Rattle.wal.specs.declared.numbered.Numbered.{Numbered}
use Rattle.wal.specs.declared.wal.Wal.{Wal}
use Rattle.wal.specs.Replays.{ReadsAs}
use Rattle.wal.specs.Wals.{Holds, wal_file, wal_sizes}
use Rattle.head_manifest.specs.declared.fold.Folded.{Folded}
use Rattle.head_manifest.specs.Manifest.{manifest_file}
use Rattle.udt_disk.specs.Moments.{alone, holding, OnlyReads}
use Rattle.client_runner.specs.Left.{MayBeLeft, status_of_lines}
use Rattle.solo_runner.specs.LoggedStores.{store_state, wal_of}
use Rattle.udt_disk.specs.Moments.{IsClean}
use Rattle.plain_recovery.specs.Opening.{IsOpened}
use Rattle.client_runner.specs.Runs.{files_of, state_of_parts}
use Rattle.solo_runner.specs.Sessions.{KeepsCourse, log_faults}
use Rattle.solo_runner.specs.Solo.{AreSoundUnless}
use Rattle.plain_recovery.specs.Stores.{FolderStands, sizes_of}
use Rattle.plain_recovery.specs.Stores as stores
use Rattle.plain_recovery.specs.declared.opening.Parts.{Parts}
use Rattle.solo_runner.specs.declared.logged.LoggedStore.{LoggedStore}
use Rattle.client_runner.specs.declared.status.Status.TheVariants as statuses
use Rattle.solo_runner.proofs.KeepingLemmas.{all_synced, opens_kept}
use Rattle.solo_runner.proofs.VersionLemmas.{settled_state}
use Rattle.client_runner.proofs.SyncLemmas.{Settles}
use Rattle.client_runner.proofs.LiveLog.{stands_so, means_last}
use Rattle.client_runner.proofs.Closing.{IsClosed, closed_stands, closed_leaves}

abbrev with_state : List FamilyHead → List Version → Seq → State
with_state heads versions last = unflushed heads versions last None

module _ {D F : Type 0} (d : disk.Ghosts D F) (f : file.Ghosts F) where
  -- the store has made these lines from the state m on
  pub record HasMade (first now : LoggedStore F f) (m : State) (lines : List Line) (end : Point) : Type 0 where
    pub legal : Leads (start m) lines end
    pub state_is : end.state ≡ store_state now
    pub settled : Settles m lines end
    pub first_is : store_state first ≡ m
    pub kept : (fold : Folded) → KeepsCourse f first fold (course_start (store_state first)) → KeepsCourse f now fold (course_behind (start (store_state first)) (course_start (store_state first)) lines)
    pub sound : AreSoundUnless (log_faults f first) (log_faults f now) lines
    pub same : IsSameFile f (wal_file (wal_of first)) (wal_file (wal_of now))

  -- the parts say what the manifest and the log say
  pub parts_say : (opened : D) (parts : Parts D F f) → (o : IsOpened d f opened parts) → state_of_parts parts ≡ stores.state_of o.fold o.batches
  parts_say opened parts o =
      let m : State = stores.state_of o.fold o.batches in
      let heads : List FamilyHead = map stores.head_of o.fold.families in
      ap (λ (heads : List FamilyHead). with_state heads parts.versions.items parts.last) o.heads ∙ ap (λ (versions : List Version). with_state heads versions parts.last) o.versions ∙ ap (with_state heads m.versions) o.last

  -- at the opening the log keeps the history that begins there
  opened_keeps : (opened : D) (parts : Parts D F f) (first : LoggedStore F f) → IsClean d opened → (o : IsOpened d f opened parts) → store_state first ≡ state_of_parts parts → wal_of first ≡ parts.wal
      → KeepsCourse f first o.fold (course_start (store_state first))
  opened_keeps opened parts first clean o state wal =
      let is : store_state first ≡ stores.state_of o.fold o.batches = state ∙ parts_say opened parts o in
      let sizes : wal_sizes (wal_of first) ≡ sizes_of o.fold = ap wal_sizes wal ∙ o.sizes in
      let holds : Holds f (wal_of first) o.batches [] = subst (λ (w : Wal F f). Holds f w o.batches []) (sym wal) (o.rests clean) in
      (means_last (d.stands opened) o.fold o.means, sym sizes, opens_kept f o.fold (wal_of first) o.batches (store_state first) holds sizes is)

  -- and it does so behind the lines
  made_keeps : (opened : D) (parts : Parts D F f) (first now : LoggedStore F f) (lines : List Line) (end : Point) → IsClean d opened → (o : IsOpened d f opened parts) → wal_of first ≡ parts.wal
      → HasMade first now (state_of_parts parts) lines end → KeepsCourse f now o.fold (course_behind (start (state_of_parts parts)) (course_start (state_of_parts parts)) lines)
  made_keeps opened parts first now lines end clean o wal made =
      subst (λ (m : State). KeepsCourse f now o.fold (course_behind (start m) (course_start m) lines)) made.first_is (made.kept o.fold (opened_keeps opened parts first clean o made.first_is wal))

  -- a log that holds batches reads as them
  holds_reads : (fold : Folded) (wal : Wal F f) (batches : List Numbered) → sizes_of fold ≡ wal_sizes wal → Holds f wal batches [] → ReadsAs (sizes_of fold) batches (Some (f.seen (wal_file wal)))
  holds_reads fold wal batches sizes holds =
      subst (λ (s : List ℕ). ReadsAs s batches (Some (f.seen (wal_file wal)))) (sym sizes) (record { bodies = holds.shown.bodies; log = holds.shown.logged.file; held = holds.shown.held })

  pub made_name : (opened : D) (parts : Parts D F f) (first now : LoggedStore F f) → (o : IsOpened d f opened parts) → wal_of first ≡ parts.wal → IsSameFile f (wal_file (wal_of first)) (wal_file (wal_of now))
      → f.name (wal_file (wal_of now)) ≡ Log o.number
  made_name opened parts first now o wal same = same.name ∙ ap (λ (w : Wal F f). f.name (wal_file w)) wal ∙ o.name

  -- the names of both files are apart
  made_apart : (opened : D) (parts : Parts D F f) (log : F) → (o : IsOpened d f opened parts) → f.name log ≡ Log o.number → f.name (manifest_file parts.manifest) ≢ f.name log
  made_apart opened parts log o named is = o.apart (is ∙ named ∙ sym o.name)

  -- each folder that a crash may leave stands for an outcome
  pub crash_left : (opened new : D) (parts : Parts D F f) (first now : LoggedStore F f) (lines : List Line) (end : Point) → IsClean d opened → (o : IsOpened d f opened parts) → OnlyReads d f (alone opened) (holding parts.disk (files_of parts))
      → wal_of first ≡ parts.wal → HasMade first now (state_of_parts parts) lines end → IsClosed d f parts.disk new (wal_file (wal_of now)) (manifest_file parts.manifest) → (folder : Folder) → MayBeLeft (d.may_leave new) folder
      → (left : State) × FolderStands folder left × IsOutcome end.state (course_behind (start (state_of_parts parts)) (course_start (state_of_parts parts)) lines) left
  crash_left opened new parts first now lines end clean o reads wal made closed folder left =
      let log : F = wal_file (wal_of now) in
      let c : Course = course_behind (start (state_of_parts parts)) (course_start (state_of_parts parts)) lines in
      let named = made_name opened parts first now o wal made.same in
      let image : Image = folder (Log o.number) in
      let leaves : f.may_leave log image =
      closed.log_leaves (made_apart opened parts log o named) image (subst (λ (k : FileName). d.may_leave new k image) (sym named) (left (Log o.number))) in
      let kept = made_keeps opened parts first now lines end clean o wal made in
      let r = kept.2.outcomes image leaves in
      let same = closed_leaves d f opened new parts log clean o reads named closed folder left in
      let m : State = stores.state_of o.fold r.batches in
      (m, stands_so o.number (d.stands opened) folder o.fold r.batches m same o.means o.live r.reads refl, subst (λ (s : State). IsOutcome s c m) (sym made.state_is) r.outcome)

  -- where no line tells a fault the folder stands for the end
  pub whole_left : (opened new : D) (parts : Parts D F f) (first now : LoggedStore F f) (lines : List Line) (end : Point) → IsTrue (d.is_told opened) → IsClean d opened → (o : IsOpened d f opened parts)
      → OnlyReads d f (alone opened) (holding parts.disk (files_of parts)) → d.is_told parts.disk ≡ d.is_told opened → f.is_told (wal_file parts.wal) ≡ d.is_told opened → f.is_told (manifest_file parts.manifest) ≡ d.is_told opened
      → wal_of first ≡ parts.wal → HasMade first now (state_of_parts parts) lines end → IsClosed d f parts.disk new (wal_file (wal_of now)) (manifest_file parts.manifest)
      → status_of_lines lines ≡ statuses.Done → FolderStands (d.stands new) (settled end.state)
  whole_left opened new parts first now lines end told clean o reads told_disk told_wal told_manifest wal made closed done =
      let log : F = wal_file (wal_of now) in
      let c : Course = course_behind (start (state_of_parts parts)) (course_start (state_of_parts parts)) lines in
      let named = made_name opened parts first now o wal made.same in
      let kept = made_keeps opened parts first now lines end clean o wal made in
      let both = made.settled done in
      let works : (store_state now).halted ≡ None = ap (λ (s : State). s.halted) (sym made.state_is) ∙ both.0 in
      let all : c.synced ≡ (store_state now).last.0 = both.1 ∙ ap (λ (s : State). s.last.0) made.state_is in
      let is = all_synced f o.fold (wal_of now) (store_state now) c kept.0 kept.2 works all in
      let told_log : f.is_told log ≡ d.is_told opened = made.same.told ∙ ap (λ (w : Wal F f). f.is_told (wal_file w)) wal ∙ told_wal in
      let stands : d.stands new (Log o.number) ≡ Some (f.seen log) =
      ap (d.stands new) (sym named) ∙ closed.log_stands (subst IsTrue (sym told_disk) told) (subst IsTrue (sym told_log) told) (made_apart opened parts log o named) in
      let held : ReadsAs (sizes_of o.fold) is.0 (d.stands new (Log o.number)) = subst (λ (image : Image). ReadsAs (sizes_of o.fold) is.0 image) (sym stands) (holds_reads o.fold (wal_of now) is.0 kept.1 is.1) in
      let same = closed_stands d f opened new parts log told o reads told_disk told_manifest named closed in
      stands_so o.number (d.stands opened) (d.stands new) o.fold is.0 (settled end.state) same o.means o.live held (ap settled (made.state_is ∙ is.2) ∙ settled_state o.fold is.0)

  -- and so does each that a crash may leave
  pub whole_crash : (opened new : D) (parts : Parts D F f) (first now : LoggedStore F f) (lines : List Line) (end : Point) → IsClean d opened → (o : IsOpened d f opened parts) → OnlyReads d f (alone opened) (holding parts.disk (files_of parts))
      → wal_of first ≡ parts.wal → HasMade first now (state_of_parts parts) lines end → IsClosed d f parts.disk new (wal_file (wal_of now)) (manifest_file parts.manifest)
      → status_of_lines lines ≡ statuses.Done → (folder : Folder) → MayBeLeft (d.may_leave new) folder → FolderStands folder (settled end.state)
  whole_crash opened new parts first now lines end clean o reads wal made closed done folder left =
      let log : F = wal_file (wal_of now) in
      let c : Course = course_behind (start (state_of_parts parts)) (course_start (state_of_parts parts)) lines in
      let named = made_name opened parts first now o wal made.same in
      let kept = made_keeps opened parts first now lines end clean o wal made in
      let both = made.settled done in
      let works : (store_state now).halted ≡ None = ap (λ (s : State). s.halted) (sym made.state_is) ∙ both.0 in
      let all : c.synced ≡ (store_state now).last.0 = both.1 ∙ ap (λ (s : State). s.last.0) made.state_is in
      let is = all_synced f o.fold (wal_of now) (store_state now) c kept.0 kept.2 works all in
      let image : Image = folder (Log o.number) in
      let leaves : f.may_leave log image =
      closed.log_leaves (made_apart opened parts log o named) image (subst (λ (k : FileName). d.may_leave new k image) (sym named) (left (Log o.number))) in
      let held : ReadsAs (sizes_of o.fold) is.0 image = subst (ReadsAs (sizes_of o.fold) is.0) (sym (is.1.durable image leaves)) (holds_reads o.fold (wal_of now) is.0 kept.1 is.1) in
      let same = closed_leaves d f opened new parts log clean o reads named closed folder left in
      stands_so o.number (d.stands opened) folder o.fold is.0 (settled end.state) same o.means o.live held (ap settled (made.state_is ∙ is.2) ∙ settled_state o.fold is.0)
