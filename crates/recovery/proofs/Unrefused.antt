-- A folder that stands for a state isn't refused.
use Rattle.std.proofs.Common.{◌≡◌, ◌≢◌, ℕ, ◌≤◌, List, [], ◌∷◌, ◌++◌, length, Option, Some, None, refl, sym, ap, ◌∙◌, subst, arith, inl, inr, ⊎_elim, append_assoc}
use Rattle.std.specs.Prelude.{Contains, nat_le, slice_get}
use Rattle.std.proofs.lemmas.Bool.{leb-true}
use Rattle.std.proofs.lemmas.List.{length-map}
use Rattle.ts_key.specs.declared.numbers.Family.{Family}
use Rattle.ts_key.specs.declared.numbers.Ts.{Ts}
use Rattle.ts_key.specs.declared.version.Form.{Form}
use Rattle.ts_key.specs.declared.version.Form.TheVariants.{Persist, Strip}
use Rattle.ts_key.specs.declared.version.Version.{Version}
use Rattle.udt_disk.specs.Crash.{Image}
use Rattle.udt_disk.specs.Joint.{Folder}
use Rattle.udt_disk.specs.declared.name.FileName.TheVariants.{Log, Table}
use Rattle.udt_model.specs.Standing.{HasSource, IsVersionImage}
use Rattle.udt_model.specs.State.{FamilyState, LiveTable, State, family_at}
use Rattle.udt_model.specs.Orders.{meets, span_of}
use Rattle.udt_model.specs.Versions.{up_to}
use Rattle.wal.specs.declared.numbered.Numbered.{Numbered}
use Rattle.wal.specs.Replays.{ReadsAs}
use Rattle.wal.specs.Sequences.{GoesOn, IsInSequence, sequence_after}
use Rattle.wal.proofs.Logs.{log_holds_one}
use Rattle.manifest_edit.specs.declared.edit.TableAt.{TableAt}
use Rattle.manifest_fold.specs.declared.fold.FamilyFold.{FamilyFold}
use Rattle.manifest_fold.specs.declared.fold.Folded.{Folded}
use Rattle.manifest.specs.Files.{HasFold}
use Rattle.manifest.specs.Folders.{Means, chosen}
use Rattle.manifest.specs.Folders.Meaning.{bad_at, store}
use Rattle.manifest.specs.Folds.{IsManifestFold, sizes_of}
use Rattle.manifest.proofs.Meanings.{means_once}
use Rattle.floor_laws.specs.Sound.{AreSoundTables}
use Rattle.floor_laws.specs.Tables.{contents}
use Rattle.floor_laws.proofs.Members.{All-In, All-from, In, In-contains, In-left, In-map, In-right, contains_In, filter-In}
use Rattle.engine_laws.specs.Logs.{batches_of, last_of}
use Rattle.engine_laws.specs.Manifests.{IsLive}
use Rattle.engine_laws.specs.Standing.{FolderStands, TableReads, TableSays, family_said, live_batches, table_of}
use Rattle.engine_laws.proofs.Batches.{batches_append, batches_same}
use Rattle.engine_laws.proofs.Places.{map-get}
use Rattle.recovery.specs.Fault.{IsStop}
use Rattle.recovery.specs.Laws.{NoneRefused}
use Rattle.recovery.specs.Opening.{RefusesOpening}
use Rattle.recovery.specs.Refusals.{AreReplayed, IsAhead, IsBadLog, IsBadLogFile, IsBadTable, IsFirstBadLog, IsFirstGap, IsMissingTable}
use Rattle.recovery.specs.Tables.{AreTablesInOrder, IsApart, IsTableFlushed, ReadsAsTable}
use Rattle.recovery.specs.declared.fault.OpenFault.{OpenFault}
use Rattle.recovery.specs.declared.fault.OpenFault.TheVariants.{NoStore, BadManifest, MissingTable, BadTable, BadLog, DiskFault, NoMemory}
use Rattle.recovery.proofs.Accounts.{one_said}
use Rattle.recovery.proofs.Openings.{usable_from}

-- ---- small facts

pub goes_front : (next : Option ℕ) (a b : List Numbered) → GoesOn next (a ++ b) → GoesOn next a
goes_front next [] b goes = tt
goes_front next (x ∷ a) b goes = (goes.0, goes_front (Some (sequence_after x)) a b goes.1)

contents_In : (tables : List LiveTable) (t : LiveTable) (v : Version) → In t tables → In v t.versions → In v (contents tables)
contents_In [] t v held within = absurd held
contents_In (x ∷ tables) t v (inl same) within = In-left v x.versions (contents tables) (subst (λ (z : LiveTable). In v z.versions) (sym same) within)
contents_In (x ∷ tables) t v (inr there) within = In-right v x.versions (contents tables) (contents_In tables t v there within)

-- an image has the sequence of its source
image_seq : (form : Form) (floor : Ts) (v w : Version) → IsVersionImage form floor v w → v.seq.0 ≡ w.seq.0
image_seq Persist floor v w is = ap (λ (z : Version). z.seq.0) is
image_seq Strip floor v w (inl is) = ap (λ (z : Version). z.seq.0) is
image_seq Strip floor v w (inr (below, is)) = ap (λ (z : Version). z.seq.0) is

one_table : (image : Image) (a b : TableSays) → TableReads ReadsAsTable image a → TableReads ReadsAsTable image b → a ≡ b
one_table None a b p q = absurd p
one_table (Some bytes) a b p q = one_said bytes a b p q

pub no_table : (image : Image) (says : TableSays) → TableReads ReadsAsTable image says → image ≡ None → ⊥
no_table None says reads none = reads
no_table (Some bytes) says reads none = cc

pub one_log : (sizes : List ℕ) (a b : List Numbered) (image : Image) → length sizes ≤ 16 → ReadsAs sizes a image → ReadsAs sizes b image → a ≡ b
one_log sizes a b None few p q = absurd p
one_log sizes a b (Some bytes) few p q = log_holds_one sizes a b bytes few p q

no_bad_log : (sizes : List ℕ) (batches : List Numbered) (image : Image) (at : ℕ) → ReadsAs sizes batches image → IsBadLogFile sizes image at → ⊥
no_bad_log sizes batches None at reads bad = reads
no_bad_log sizes batches (Some bytes) at reads bad = bad.1 batches reads

pub is_fold : (image : Image) (fold : Folded) → HasFold image fold → IsManifestFold fold
is_fold None fold has = absurd has
is_fold (Some bytes) fold has = (has.0, has.2)

pub store_once : (a b : Folded) → store a ≡ store b → a ≡ b
store_once a b is = cc

-- ---- a folder that stands

module _ (folder : Folder) (m : State) (h : FolderStands ReadsAsTable folder m) where
  said_family : (family : Family) (f : FamilyFold) → slice_get h.says.fold.families family.0 ≡ Some f → family_at m family ≡ Some (family_said h.says.tables f)
  said_family family f there =
      subst (λ (fs : List FamilyState). slice_get fs family.0 ≡ Some (family_said h.says.tables f)) (sym h.stands.families) (map-get (family_said h.says.tables) h.says.fold.families family.0 f there)

  sound_tables : (family : Family) (f : FamilyFold) → slice_get h.says.fold.families family.0 ≡ Some f → AreSoundTables m family (family_said h.says.tables f)
  sound_tables family f there = (h.stands.sound.families family (family_said h.says.tables f) (said_family family f there)).tables

  live_in : (f : FamilyFold) (t : TableAt) → Contains f.tables t → In (table_of h.says.tables t) (family_said h.says.tables f).tables
  live_in f t held = In-map (table_of h.says.tables) t f.tables (contains_In f.tables t held)

  is_flushed : (family : Family) (f : FamilyFold) (t : TableAt) → IsLive h.says.fold family f t → IsTableFlushed f (h.says.tables t.number)
  is_flushed family f t live = All-from (λ (v : Version). v.seq.0 ≤ f.through.0) (h.says.tables t.number).versions (λ v within.
      let tables = (family_said h.says.tables f).tables in
      let source = All-In (HasSource family f.form f.floor (up_to f.through.0 m.versions)) (contents tables) v (sound_tables family f live.family).stand.images (contents_In tables (table_of h.says.tables t) v (live_in f t live.table) within) in
      let upto = (filter-In (λ (z : Version). nat_le z.seq.0 f.through.0) source.0 m.versions (contains_In (up_to f.through.0 m.versions) source.0 source.1)).1 in
      omega (arith, image_seq f.form f.floor v source.0 source.3, leb-true source.0.seq.0 f.through.0 upto))

  is_apart : (family : Family) (f : FamilyFold) (t : TableAt) → IsLive h.says.fold family f t → IsApart f folder t (h.says.tables t.number)
  is_apart family f t live u other held less level deep reads =
      let said = h.reads.tables family f u (record { family = live.family; table = held }) in
      let same = one_table (folder (Table u.number)) other (h.says.tables u.number) reads said in
      let tables = (family_said h.says.tables f).tables in
      let apart : u.number ≢ t.number = λ is. absurd (omega (arith, less, is)) in
      ap (λ (z : TableSays). meets (span_of z.versions) (span_of (h.says.tables t.number).versions)) same
      ∙ (sound_tables family f live.family).ordered.spread (table_of h.says.tables u) (table_of h.says.tables t) (In-contains tables (table_of h.says.tables u) (live_in f u held)) (In-contains tables (table_of h.says.tables t) (live_in f t live.table)) level (omega (arith, level, deep)) apart

  in_order_all : AreTablesInOrder h.says.fold folder
  in_order_all family f t live = record {
    says = h.says.tables t.number;
    reads = h.reads.tables family f t live;
    fits = h.stands.fits family f t live;
    flushed = is_flushed family f t live;
    apart = is_apart family f t live;
  }

  few_sizes : length (sizes_of h.says.fold) ≤ 16
  few_sizes =
      let count : length (sizes_of h.says.fold) ≡ length h.says.fold.families = simp length-map in
      let usable = usable_from h.says.fold (is_fold (folder (chosen folder)) h.says.fold h.reads.means.1) in
      omega (arith, count, usable.few)

  logs_said : (logs : ℕ → List Numbered) → AreReplayed (sizes_of h.says.fold) folder logs h.says.fold.logs → batches_of logs h.says.fold.logs ≡ live_batches h.says
  logs_said logs read = batches_same h.says.logs logs h.says.fold.logs (λ n held.
      one_log (sizes_of h.says.fold) (logs n) (h.says.logs n) (folder (Log n)) few_sizes (read n (In-contains h.says.fold.logs n held)) (h.reads.logs n (In-contains h.says.fold.logs n held)))

  no_gap : (logs : ℕ → List Numbered) (n : ℕ) → AreReplayed (sizes_of h.says.fold) folder logs h.says.fold.logs → IsFirstGap logs h.says.fold.logs n → ⊥
  no_gap logs n read first =
      let all : IsInSequence (batches_of logs h.says.fold.logs) = subst IsInSequence (sym (logs_said logs read)) h.stands.sequence in
      let parts : batches_of logs h.says.fold.logs ≡ batches_of logs (first.before ++ n ∷ []) ++ batches_of logs first.after =
      ap (batches_of logs) (first.is ∙ sym (append_assoc first.before (n ∷ []) first.after)) ∙ batches_append logs (first.before ++ n ∷ []) first.after in
      first.gap (goes_front None (batches_of logs (first.before ++ n ∷ [])) (batches_of logs first.after) (subst IsInSequence parts all))

  not_ahead : (logs : ℕ → List Numbered) (n : ℕ) → AreReplayed (sizes_of h.says.fold) folder logs h.says.fold.logs → IsAhead h.says.fold logs n → ⊥
  not_ahead logs n read ahead = ahead.ahead (subst (λ (b : List Numbered). h.says.fold.last.0 ≤ last_of h.says.fold.last.0 b) (sym (logs_said logs read)) h.stands.behind)

  -- ---- each refusal

  no_missing : (n : ℕ) → IsMissingTable h.says.fold folder n → ⊥
  no_missing n missing =
      no_table (folder (Table n)) (h.says.tables missing.table.number)
      (subst (λ (k : ℕ). TableReads ReadsAsTable (folder (Table k)) (h.says.tables missing.table.number)) missing.number (h.reads.tables missing.family missing.f missing.table missing.reached.live)) missing.missing

  no_bad_table : (n : ℕ) → IsBadTable h.says.fold folder n → ⊥
  no_bad_table n bad = bad.bad (in_order_all bad.family bad.f bad.table bad.reached.live)

  no_first : (n at : ℕ) → IsFirstBadLog h.says.fold folder n at → ⊥
  no_first n at first =
      let held : Contains h.says.fold.logs n = In-contains h.says.fold.logs n (subst (In n) (sym first.is) (In-right n first.before (n ∷ first.after) (inl refl))) in
      no_bad_log (sizes_of h.says.fold) (h.says.logs n) (folder (Log n)) at (h.reads.logs n held) first.bad

  no_bad : (n at : ℕ) → IsBadLog h.says.fold folder n at → ⊥
  no_bad n at bad = ⊎_elim (no_first n at) (λ refused. ⊎_elim (no_gap refused.logs n refused.read) (not_ahead refused.logs n refused.read) refused.why) bad.why

  of_fold : (fold : Folded) → Means folder (store fold) → fold ≡ h.says.fold
  of_fold fold means = store_once fold h.says.fold (means_once folder (store fold) (store h.says.fold) means h.reads.means)

  not_refused : (e : OpenFault) → RefusesOpening folder e → IsStop e
  not_refused NoStore means = h.reads.means.0 means
  not_refused (BadManifest at) means = let same : bad_at at ≡ store h.says.fold = means_once folder (bad_at at) (store h.says.fold) means h.reads.means in cc
  not_refused (MissingTable n) (fold, means, refused) = no_missing n (subst (λ (z : Folded). IsMissingTable z folder n) (of_fold fold means) refused)
  not_refused (BadTable n) (fold, means, refused) = no_bad_table n (subst (λ (z : Folded). IsBadTable z folder n) (of_fold fold means) refused)
  not_refused (BadLog n at) (fold, means, refused) = no_bad n at (subst (λ (z : Folded). IsBadLog z folder n at) (of_fold fold means) refused)
  not_refused DiskFault means = tt
  not_refused NoMemory means = tt

pub none_refused : NoneRefused
none_refused folder m e stands refused = not_refused folder m stands e refused
