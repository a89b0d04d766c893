-- The parts of an opening together.
use Rattle.std.proofs.Common.{◌≡◌, ◌≢◌, ℕ, ◌-◌, ◌≤◌, ◌==◌, List, [], ◌∷◌, length, map, max, Some, None, refl, sym, ap, ◌∙◌, subst, arith, inl, inr, ⊎_elim}
use Rattle.std.proofs.lemmas.Bool.{cases_Bool}
use Rattle.std.proofs.lemmas.List.{length-map}
use Rattle.ts_key.specs.declared.numbers.Seq.{Seq}
use Rattle.ts_key.specs.declared.version.Version.{Version}
use Rattle.udt_disk.specs.Crash.{Image}
use Rattle.udt_disk.specs.Joint.{Folder, IsFree, IsHeld}
use Rattle.udt_disk.specs.Moments.{IsClean, holding}
use Rattle.udt_disk.specs.Touches.{Touches}
use Rattle.udt_disk.specs.declared.file.DiskFile as file
use Rattle.udt_disk.specs.declared.disk.Disk as disk
use Rattle.udt_disk.specs.declared.name.FileName.{FileName}
use Rattle.udt_disk.specs.declared.name.FileName.TheVariants.{Manifest0, Manifest1, Log, Table}
use Rattle.wal.specs.declared.numbered.Numbered.{Numbered}
use Rattle.wal.specs.declared.wal.Wal.{Wal}
use Rattle.wal.specs.Replays.{ReadsAs}
use Rattle.wal.specs.Sequences.{next_sequence}
use Rattle.manifest_fold.specs.declared.fold.Folded.{Folded}
use Rattle.manifest_fold.specs.Bodies.{LeadAll}
use Rattle.manifest_fold.specs.Folds.{newest_log}
use Rattle.manifest.specs.Folds.{IsManifest, IsManifestFold, family_fold, fold_of, sizes_of}
use Rattle.manifest.specs.Making.{IsReadName}
use Rattle.manifest.specs.Folders.{IsManifestName, Means, chosen_by}
use Rattle.manifest.specs.Folders.Meaning.{store}
use Rattle.super_version.specs.declared.version.SuperVersion.{SuperVersion}
use Rattle.engine_laws.specs.Logs.{batches_of, last_over, versions_of}
use Rattle.engine_laws.specs.Manifests.{IsWell}
use Rattle.engine_laws.specs.Moves.{IsLiveName}
use Rattle.engine_laws.proofs.Folding.{families_length}
use Rattle.engine_laws.proofs.Opened.{manifest_well}
use Rattle.recovery.specs.Opening.{AreLiveClean, IsShown, IsUsable, RefusesFiles, RefusesOpening}
use Rattle.recovery.specs.Versions.{ShowsVersion}
use Rattle.recovery.specs.Places.{AreOpened, HasPlaces, IsTableName, RefusesTables}
use Rattle.recovery.specs.Replayed.{AreInLine, IsLogName, IsNewestLog, RefusesLogs, above_through}
use Rattle.recovery.specs.Tables.{AreTablesInOrder}
use Rattle.recovery.specs.declared.fault.OpenFault.{OpenFault}
use Rattle.recovery.specs.declared.fault.OpenFault.TheVariants.{NoStore, BadManifest, MissingTable, BadTable, BadLog, DiskFault, NoMemory}
use Rattle.recovery.specs.declared.gathered.Gathered.{Gathered}
use Rattle.recovery.specs.declared.tables.Opened.{Opened}
use Rattle.recovery.proofs.Judging.{next_last}

-- ---- refusals

pub tables_files : (fold : Folded) (folder : Folder) (e : OpenFault) → RefusesTables fold folder e → RefusesFiles fold folder e
tables_files fold folder NoStore refused = refused
tables_files fold folder (BadManifest at) refused = refused
tables_files fold folder (MissingTable n) refused = refused
tables_files fold folder (BadTable n) refused = refused
tables_files fold folder (BadLog n at) refused = absurd refused
tables_files fold folder DiskFault refused = tt
tables_files fold folder NoMemory refused = tt

pub logs_files : (fold : Folded) (folder : Folder) → AreTablesInOrder fold folder → (e : OpenFault) → RefusesLogs fold folder e → RefusesFiles fold folder e
logs_files fold folder order NoStore refused = refused
logs_files fold folder order (BadManifest at) refused = refused
logs_files fold folder order (MissingTable n) refused = absurd refused
logs_files fold folder order (BadTable n) refused = absurd refused
logs_files fold folder order (BadLog n at) refused = record { tables = order; why = refused }
logs_files fold folder order DiskFault refused = tt
logs_files fold folder order NoMemory refused = tt

pub files_opening : (fold : Folded) (folder : Folder) → Means folder (store fold) → (e : OpenFault) → RefusesFiles fold folder e → RefusesOpening folder e
files_opening fold folder means NoStore refused = absurd refused
files_opening fold folder means (BadManifest at) refused = absurd refused
files_opening fold folder means (MissingTable n) refused = (fold, means, refused)
files_opening fold folder means (BadTable n) refused = (fold, means, refused)
files_opening fold folder means (BadLog n at) refused = (fold, means, refused)
files_opening fold folder means DiskFault refused = tt
files_opening fold folder means NoMemory refused = tt

-- ---- what is shown

pub last_of_next : (last : ℕ) (batches : List Numbered) (n : ℕ) → Some n ≡ next_sequence batches → max last (n - 1) ≡ last_over last batches
last_of_next last batches n is = ap (max last) (next_last 0 batches n (sym is))

pub last_of_none : (last : ℕ) (batches : List Numbered) → None ≡ next_sequence batches → last ≡ last_over last batches
last_of_none last [] is = omega arith
last_of_none last (b ∷ batches) is = absurd (some_here b batches is)
  where
    some_here : (b : Numbered) (batches : List Numbered) → None ≡ next_sequence (b ∷ batches) → ⊥
    some_here b [] is = cc
    some_here b (x ∷ batches) is = some_here x batches is

pub shown_from : (folder : Folder) (fold : Folded) (opened : List Opened) (g : Gathered) (last : Seq) (version : SuperVersion) → AreOpened folder fold opened → (line : AreInLine fold folder g) → ShowsVersion fold opened g.versions.items last version
    → ((batches : List Numbered) → g.next ≡ next_sequence batches → last.0 ≡ last_over fold.last.0 batches) → IsShown folder fold version
shown_from folder fold opened g last version tables line shows is_last =
    let logs = line.gathered.logs in
    let batches = batches_of logs fold.logs in
    let last_is : last ≡ record { 0 = last_over fold.last.0 batches } = ap (λ (n : ℕ). (let s : Seq = record { 0 = n } in s)) (is_last batches line.gathered.next) in
    record {
      opened = opened;
      tables = tables;
      logs = logs;
      read = line.gathered.read;
      sequence = line.sequence;
      behind = line.behind;
      shows = subst (λ (s : Seq). ShowsVersion fold opened (above_through fold.families (versions_of batches)) s version) last_is (subst (λ (w : List Version). ShowsVersion fold opened w last version) line.gathered.versions shows);
    }

-- ---- folds

all_families : (start end : Folded) (bodies : List (List ℕ)) → LeadAll start bodies end → length end.families ≡ length start.families
all_families start end [] lead = ap (λ (z : Folded). length z.families) lead
all_families start end (body ∷ bodies) lead =
    let k = families_length start lead.1.edit lead.1.edit.family lead.1.accepted.part in
    all_families lead.0 end bodies lead.2 ∙ ap (λ (z : Folded). length z.families) lead.1.is ∙ k

places_of : (fold : Folded) → IsWell fold → HasPlaces fold
places_of fold well = record {
  rising = λ family f there. well.ascending family f there;
  apart = λ p q live other same. well.apart p.family q.family live.0 other.0 p.table q.table live.1 other.1 same;
  levels = λ p live. (let upto : p.table.level ≤ 6 = well.levels p.family live.0 p.table live.1 in omega (arith, upto));
}

-- a store can be opened of the fold of each manifest
pub usable_from : (fold : Folded) → IsManifestFold fold → IsUsable fold
usable_from fold (bodies, means) = usable_of bodies fold means
  where
    usable_of : (bodies : List (List ℕ)) (fold : Folded) → IsManifest bodies fold → IsUsable fold
    usable_of [] fold means = absurd means
    usable_of (body ∷ bodies) fold means =
        let well = manifest_well (body ∷ bodies) fold means in
        let heads : length (map family_fold means.0) ≡ length means.0 = simp length-map in
        let count = all_families (fold_of means.0) fold bodies means.2 in
        record { some = omega (arith, count, heads, means.1.new.some); few = omega (arith, count, heads, means.1.new.few); logs = well.some; ascending = well.sorted; places = places_of fold well; last = well.last }

-- ---- names

-- the chosen manifest is live
pub chosen_is_live : (current : Image) (fold : Folded) → IsLiveName (chosen_by current) fold (chosen_by current)
chosen_is_live None fold = refl
chosen_is_live (Some []) fold = refl
chosen_is_live (Some (byte ∷ bytes)) fold = elim (cases_Bool (byte == 165)) [ inl y ↦ rw y refl | inr y ↦ rw y refl ]

log_isn't_read : (number : ℕ) → ¬ IsReadName (Log number)
log_isn't_read number (inl (inl (inl is))) = cc
log_isn't_read number (inl (inl (inr is))) = cc
log_isn't_read number (inl (inr is)) = cc
log_isn't_read number (inr is) = cc

table_isn't_read : (number : ℕ) → ¬ IsReadName (Table number)
table_isn't_read number (inl (inl (inl is))) = cc
table_isn't_read number (inl (inl (inr is))) = cc
table_isn't_read number (inl (inr is)) = cc
table_isn't_read number (inr is) = cc

manifest_isn't_table : (n : FileName) (number : ℕ) → IsManifestName n → n ≢ Table number
manifest_isn't_table n number (inl zero) is = let same : Manifest0 ≡ Table number = sym zero ∙ is in cc
manifest_isn't_table n number (inr one) is = let same : Manifest1 ≡ Table number = sym one ∙ is in cc

manifest_isn't_log : (n : FileName) (number : ℕ) → IsManifestName n → n ≢ Log number
manifest_isn't_log n number (inl zero) is = let same : Manifest0 ≡ Log number = sym zero ∙ is in cc
manifest_isn't_log n number (inr one) is = let same : Manifest1 ≡ Log number = sym one ∙ is in cc

module _ {F : Type 0} where
  -- a file among one
  pub only_held : (a z : F) → IsHeld (a ∷ []) z → a ≡ z
  only_held a z held = ⊎_elim (λ is. is) (λ none. absurd none) held

-- where a crash leaves nothing else under any name, so it is under live names
pub clean_live : {D F : Type 0} (d : disk.Ghosts D F) (disk : D) (fold : Folded) → IsClean d disk → AreLiveClean d disk fold
clean_live d disk fold clean n c live left = clean n c left

module _ {D F : Type 0} (d : disk.Ghosts D F) (f : file.Ghosts F) where
  -- no table and no log is held beside the manifest
  pub tables_free : (disk : D) (m : F) → IsManifestName (f.name m) → (n : FileName) → IsTableName n → IsFree d f (holding disk (m ∷ [])) n
  tables_free disk m either n table x held is = manifest_isn't_table (f.name m) table.0 either (ap f.name (only_held m x held) ∙ sym is ∙ table.1)

  pub logs_free : (disk : D) (m : F) → IsManifestName (f.name m) → (n : FileName) → IsLogName n → IsFree d f (holding disk (m ∷ [])) n
  logs_free disk m either n log x held is = manifest_isn't_log (f.name m) log.0 either (ap f.name (only_held m x held) ∙ sym is ∙ log.1)

  module _ (old mid : D) (touches : Touches d IsReadName old mid) where
    pub tables_same : (n : ℕ) → d.stands old (Table n) ≡ d.stands mid (Table n)
    tables_same n = sym (touches.same (Table n) (table_isn't_read n))

    pub logs_same : (n : ℕ) → d.stands old (Log n) ≡ d.stands mid (Log n)
    logs_same n = sym (touches.same (Log n) (log_isn't_read n))

    -- the newest log is as it was before the manifest was read
    pub newest_touched : (fold : Folded) (wal : Wal F f) → IsNewestLog d f mid fold wal → IsNewestLog d f old fold wal
    newest_touched fold wal newest =
        let n = newest_log fold.logs in
        let r = newest.replayed in
        record {
          batches = newest.batches;
          replayed = record {
            held = subst (ReadsAs (sizes_of fold) newest.batches) (sym (logs_same n)) r.held;
            sequence = r.sequence;
            shown = r.shown;
            rests = λ clean. r.rests (λ c left. clean c (touches.no_more (Log n) c (log_isn't_read n) left) ∙ logs_same n);
          };
        }
