-- What an engine that was just made of an opening's parts holds.
use Rattle.std.proofs.Common.{◌≡◌, ℕ, ◌+◌, ◌<◌, ◌≤◌, List, [], ◌∷◌, ◌++◌, length, map, Some, None, refl, sym, ap, ◌∙◌, subst, arith, inl, inr}
use Rattle.std.specs.Prelude.{All, IsTrue, flat_map}
use Rattle.std.proofs.lemmas.List.{append-nil, length-map}
use Rattle.std.proofs.lemmas.List.Elements.{All-head, All-tail}
use Rattle.ts_key.specs.declared.numbers.Seq.{Seq}
use Rattle.udt_disk.specs.Crash.{Image}
use Rattle.udt_disk.specs.Moments.{MayLeave, holding}
use Rattle.udt_disk.specs.declared.file.DiskFile as file
use Rattle.udt_disk.specs.declared.disk.Disk as disk
use Rattle.udt_disk.specs.declared.name.FileName.{FileName}
use Rattle.udt_disk.specs.declared.name.FileName.TheVariants.{Current, Log, Made, Table}
use Rattle.wal.specs.declared.numbered.Numbered.{Numbered}
use Rattle.wal.specs.Records.{IsLoggedBatch}
use Rattle.wal.specs.Replays.{ReadsAs}
use Rattle.wal.specs.Sequences.{IsNextSequence, next_sequence, sequence_after}
use Rattle.wal.specs.Wals as log
use Rattle.wal.specs.Wals.{IsWalOf, MayGoOn, wal_file}
use Rattle.wal.proofs.Logs.{log_holds_one}
use Rattle.udt_model.specs.Crashes.{course_start}
use Rattle.udt_model.specs.State.{FamilyState, LiveTable, State, numbers_of}
use Rattle.manifest_edit.specs.declared.edit.TableAt.{TableAt}
use Rattle.manifest_fold.specs.declared.fold.Folded.{Folded}
use Rattle.manifest_fold.specs.Folds.{newest_log}
use Rattle.manifest.specs.Files.{HasFold}
use Rattle.manifest.specs.Folders.{IsManifestName, chosen, chosen_by}
use Rattle.manifest.specs.Folds.{sizes_of}
use Rattle.manifest.specs.Manifest.{FoldRests, manifest_file, manifest_folded}
use Rattle.engine_laws.specs.JointLaws.{RestIn}
use Rattle.engine_laws.specs.Logs.{batches_of, last_of}
use Rattle.engine_laws.specs.Manifests.{IsWell}
use Rattle.engine_laws.specs.Moves.{IsLiveName}
use Rattle.engine_laws.specs.Standing.{FolderStands, Says, TableReads, TableSays, family_said, families_said, table_of}
use Rattle.engine_laws.specs.Engine.{HoldsState, newest_log_of}
use Rattle.engine_laws.proofs.Ascending.{newest_of as newest_in, rising_sorted}
use Rattle.engine_laws.proofs.Batches.{all_right, batches_append, last_append, last_over_is}
use Rattle.engine_laws.proofs.Editing.{newest_live}
use Rattle.engine_laws.proofs.Opened.{manifest_well, reads_logged}
use Rattle.engine_laws.proofs.Places.{In-get}
use Rattle.floor_laws.proofs.Members.{All-from, In, In-append, In-contains, map-In}
use Rattle.recovery.specs.Laws.{account_of}
use Rattle.recovery.specs.Opening.{AreLiveClean}
use Rattle.recovery.specs.Tables.{ReadsAsTable}
use Rattle.recovery.specs.declared.opening.Parts.{Parts}
use Rattle.recovery.proofs.Accounts.{opened_reads, opened_states}
use Rattle.recovery.proofs.Judging.{next_last}
use Rattle.recovery.proofs.Openings.{usable_from}
use Rattle.store_engine.specs.Engines.{HoldsNow, IsEngineOf, IsOneFolder}
use Rattle.store_engine.specs.Parts.{ArePartsOf}
use Rattle.store_engine.specs.Together.{AreNamed, AreTogether}
use Rattle.store_engine.specs.declared.engine.Engine.{Engine}
use Rattle.store_engine.proofs.Covering.{covers_opened}
use Rattle.store_engine.proofs.NowOpened.{now_opened}
use Rattle.store_engine.proofs.Together.{named_on}

-- ---- sequences

some_next : (b : Numbered) (bs : List Numbered) → (n : ℕ) × (next_sequence (b ∷ bs) ≡ Some n)
some_next b [] = (sequence_after b, refl)
some_next b (c ∷ bs) = some_next c bs

next_high : (k : ℕ) (b : Numbered) (bs : List Numbered) (n : ℕ) → All (IsLoggedBatch k) (b ∷ bs) → next_sequence (b ∷ bs) ≡ Some n → 1 ≤ n
next_high k b [] n logged is =
    let one = All-head (IsLoggedBatch k) b [] logged in
    let same : sequence_after b ≡ n = cc in
    let low = one.first in
    omega (arith, same, low)
next_high k b (c ∷ bs) n logged is = next_high k c bs n (All-tail (IsLoggedBatch k) b (c ∷ bs) logged) is

-- behind the last sequence of logs may follow what goes on behind the last of them
next_behind : (k fl : ℕ) (older bs : List Numbered) → All (IsLoggedBatch k) bs → IsNextSequence (next_sequence bs) (last_of fl (older ++ bs) + 1)
next_behind k fl older [] logged = tt
next_behind k fl older (b ∷ bs) logged =
    let n = some_next b bs in
    let last = next_last (last_of fl older) (b ∷ bs) n.0 n.1 in
    let more = last_append fl older (b ∷ bs) in
    let low = next_high k b bs n.0 logged n.1 in
    let at : last_of fl (older ++ b ∷ bs) + 1 ≡ n.0 = omega (arith, last, more, low) in
    subst (λ o. IsNextSequence o (last_of fl (older ++ b ∷ bs) + 1)) (sym n.1) at

same_read : (sizes : List ℕ) (a b : List Numbered) (image : Image) → length sizes ≤ 16 → ReadsAs sizes a image → ReadsAs sizes b image → a ≡ b
same_read sizes a b None few one other = absurd one
same_read sizes a b (Some bytes) few one other = log_holds_one sizes a b bytes few one other

-- ---- numbers

numbers_low : (n : ℕ) (families : List FamilyState) → ((f : FamilyState) → In f families → (k : ℕ) → In k (numbers_of f.tables) → k < n) → (k : ℕ) → In k (flat_map (λ (f : FamilyState). numbers_of f.tables) families) → k < n
numbers_low n [] each k held = absurd held
numbers_low n (f ∷ families) each k held = elim (In-append k (numbers_of f.tables) (flat_map (λ (g : FamilyState). numbers_of g.tables) families) held) [
  | inl here ↦ each f (inl refl) k here
  | inr there ↦ numbers_low n families (λ g on. each g (inr on)) k there
]

numbers_said : (tables : ℕ → TableSays) (k : ℕ) (ts : List TableAt) → In k (numbers_of (map (table_of tables) ts)) → (t : TableAt) × In t ts × (t.number ≡ k)
numbers_said tables k ts held =
    let a = map-In (λ (z : LiveTable). z.number) k (map (table_of tables) ts) held in
    let b = map-In (table_of tables) a.0 ts a.1 in
    (b.0, b.1, ap (λ (z : LiveTable). z.number) b.2 ∙ a.2)

-- the live tables of a well fold have numbers below the next
said_low : (tables : ℕ → TableSays) (fold : Folded) → IsWell fold → (k : ℕ) → In k (flat_map (λ (f : FamilyState). numbers_of f.tables) (families_said tables fold)) → k < fold.next_file
said_low tables fold well k held = numbers_low fold.next_file (families_said tables fold) (λ f on k here.
    let of = map-In (family_said tables) f fold.families on in
    let at = In-get fold.families of.0 of.1 in
    let same : In k (numbers_of (family_said tables of.0).tables) = subst (λ (g : FamilyState). In k (numbers_of g.tables)) (sym of.2) here in
    let t = numbers_said tables k of.0.tables same in
    subst (λ j. j < fold.next_file) t.2 (well.tables (record { 0 = at.0 }) of.0 t.0 (record { family = at.1; table = In-contains of.0.tables t.0 t.1 }))) k held

-- ---- names

-- a manifest's name is live under itself
own_live : (n : FileName) (fold : Folded) → IsManifestName n → IsLiveName n fold n
own_live n fold either = elim either [
  | inl is ↦ subst (λ k. IsLiveName k fold k) (sym is) refl
  | inr is ↦ subst (λ k. IsLiveName k fold k) (sym is) refl
]

module _ {D F : Type 0} (d : disk.Ghosts D F) (f : file.Ghosts F) (old : D) (parts : Parts D F f) (are : ArePartsOf d f old parts) where
  abbrev fold : Folded
  fold = manifest_folded parts.manifest

  well : IsWell fold
  well = manifest_well are.folds.0 fold are.folds.1

  few : length (sizes_of fold) ≤ 16
  few = let k = (usable_from fold are.folds).few in let e : length (sizes_of fold) ≡ length fold.families = simp length-map in omega (arith, k, e)

  pub parts_named : AreNamed parts.manifest parts.wal
  parts_named = record { of_manifest = are.manifest_name; of_log = (newest_log fold.logs, are.wal_name) }

  -- the log of the parts holds what the account says of the newest
  newest_same : (told : IsTrue (d.is_told old)) → (are.opened told).wal.batches ≡ (are.opened told).shown.logs (newest_log fold.logs)
  newest_same told =
      let o = are.opened told in
      same_read (sizes_of fold) o.wal.batches (o.shown.logs (newest_log fold.logs)) (d.stands old (Log (newest_log fold.logs))) few o.wal.replayed.held (o.shown.read (newest_log fold.logs) (newest_live fold well))

  pub parts_together : (next : ℕ) → next ≡ fold.next_file → AreTogether parts.manifest parts.wal next
  parts_together next is = record {
    well = well;
    name = are.wal_name;
    sizes = are.sizes;
    edits = are.ready;
    log = λ told. let o = are.opened (subst IsTrue are.wal_told told) in (o.wal.batches, [], o.wal.replayed.shown);
    more = let e = is in omega (arith, e);
    most = let e = is in let l = well.next in omega (arith, e, l);
  }

  -- all batches of the live logs may stand there, and the last sequence of the version is theirs
  parts_logged : (told : IsTrue (d.is_told old)) → All (IsLoggedBatch (length fold.families)) (batches_of (are.opened told).shown.logs fold.logs)
  parts_logged told =
      let o = are.opened told in
      reads_logged ReadsAsTable (d.stands old) (account_of fold o.shown) (opened_reads (d.stands old) fold parts.version o.means o.shown)

  parts_last : (told : IsTrue (d.is_told old)) → parts.version.last.0 ≡ last_of fold.last.0 (batches_of (are.opened told).shown.logs fold.logs)
  parts_last told =
      let o = are.opened told in
      ap (λ (q : Seq). q.0) o.shown.shows.sequence ∙ last_over_is fold.last.0 (batches_of o.shown.logs fold.logs) o.shown.behind

  pub parts_go_on : MayGoOn f parts.wal (parts.version.last.0 + 1)
  parts_go_on told =
      let o = are.opened (subst IsTrue are.wal_told told) in
      let logs = o.shown.logs in
      let top = newest_in fold.logs well.some (rising_sorted fold.logs well.sorted) in
      let n = newest_log fold.logs in
      let older = batches_of logs top.older in
      let live = batches_of logs fold.logs in
      let is : live ≡ older ++ o.wal.batches = ap (batches_of logs) top.is ∙ batches_append logs top.older (n ∷ []) ∙ ap (λ z. older ++ z) (append-nil (logs n) ∙ sym (newest_same (subst IsTrue are.wal_told told))) in
      let all = parts_logged (subst IsTrue are.wal_told told) in
      let logged = all_right (length fold.families) older o.wal.batches (subst (λ z. All (IsLoggedBatch (length fold.families)) z) is all) in
      let last : parts.version.last.0 ≡ last_of fold.last.0 (older ++ o.wal.batches) = parts_last (subst IsTrue are.wal_told told) ∙ ap (last_of fold.last.0) is in
      let next = next_behind (length fold.families) fold.last.0 older o.wal.batches logged in
      (o.wal.batches, [], o.wal.replayed.shown, subst (λ bs. IsNextSequence (next_sequence bs) (parts.version.last.0 + 1)) (sym (append-nil o.wal.batches)) (subst (λ k. IsNextSequence (next_sequence o.wal.batches) (k + 1)) (sym last) next))

  pub parts_one : (engine : Engine D F f) → engine.disk ≡ parts.disk → engine.manifest ≡ parts.manifest → engine.wal ≡ parts.wal → IsOneFolder d f engine
  parts_one engine disk manifest wal =
      let told : d.is_told engine.disk ≡ d.is_told old = ap d.is_told disk ∙ are.reads.told in
      let model : d.keeps_model engine.disk ≡ d.keeps_model old = ap d.keeps_model disk ∙ are.reads.model in
      record {
        named = named_on f parts.manifest engine.manifest parts.wal engine.wal (ap (λ m. f.name (manifest_file m)) manifest) (ap (λ w. f.name (wal_file w)) wal) parts_named;
        wal_told = ap (λ w. f.is_told (wal_file w)) wal ∙ are.wal_told ∙ sym told;
        wal_model = ap (λ w. f.keeps_model (wal_file w)) wal ∙ are.wal_model ∙ sym model;
        manifest_told = ap (λ m. f.is_told (manifest_file m)) manifest ∙ are.manifest_told ∙ sym told;
        manifest_model = ap (λ m. f.keeps_model (manifest_file m)) manifest ∙ are.manifest_model ∙ sym model;
      }

  -- ---- what it holds, where the disk tells and a crash left nothing else under live names

  module _ (told : IsTrue (d.is_told old)) (clean : AreLiveClean d old fold) where
    abbrev says : Says
    says = account_of fold (are.opened told).shown

    abbrev files : List F
    files = wal_file parts.wal ∷ manifest_file parts.manifest ∷ []

    stands_there : (n : FileName) (c : Image) → IsLiveName (chosen (d.stands old)) fold n → MayLeave d f (holding parts.disk files) n c → c ≡ d.stands old n
    stands_there n c live left = clean n c live ((are.reads.no_more n c (λ none. none) left).free (λ x none. absurd none))

    -- the name of the manifest is live
    manifest_live : IsLiveName (chosen (d.stands old)) fold (f.name (manifest_file parts.manifest))
    manifest_live = subst (λ k. IsLiveName k fold (f.name (manifest_file parts.manifest))) (are.opened told).manifest_name (own_live (f.name (manifest_file parts.manifest)) fold are.manifest_name)

    parts_rest : RestIn d f ReadsAsTable (holding parts.disk files) (f.name (manifest_file parts.manifest)) says
    parts_rest =
        let o = are.opened told in
        let r = opened_reads (d.stands old) fold parts.version o.means o.shown in
        record {
          chosen = record {
            made = λ c left none. o.means.0 (sym (stands_there Made c tt left) ∙ none);
            chooses = λ c left. ap chosen_by (stands_there Current c tt left) ∙ sym o.manifest_name;
          };
          manifests = λ c left. subst (λ i. HasFold i fold) (sym (stands_there (f.name (manifest_file parts.manifest)) c manifest_live left)) (subst (λ n. HasFold (d.stands old n) fold) (sym o.manifest_name) o.means.1);
          logs = λ n i c left. subst (λ z. ReadsAs (sizes_of fold) (says.logs n) z) (sym (stands_there (Log n) c i left)) (r.logs n i);
          tables = λ i g t live c left. subst (λ z. TableReads ReadsAsTable z (says.tables t.number)) (sym (stands_there (Table t.number) c (i, g, t, live, refl) left)) (r.tables i g t live);
        }

    parts_log : log.Holds f parts.wal (says.logs (newest_log fold.logs)) []
    parts_log =
        let o = are.opened told in
        subst (λ bs. log.Holds f parts.wal bs []) (newest_same told) (o.wal.replayed.rests (λ c left. clean (Log (newest_log fold.logs)) c (newest_live fold well) left))

    pub parts_now : (engine : Engine D F f) → engine.disk ≡ parts.disk → engine.manifest ≡ parts.manifest → engine.wal ≡ parts.wal → fold.next_file ≤ engine.next → engine.older.rolled.items ≡ [] → engine.older.opened ≡ parts.version.last → (m : State) → FolderStands ReadsAsTable (d.stands old) m → HoldsNow d f engine parts.version m (course_start m)
    parts_now engine disk manifest wal more rolled opened m stands =
        let o = are.opened told in
        let h : HoldsState m (course_start m) says [] = opened_states (d.stands old) fold parts.version m o.means o.shown stands in
        let settled = stands.stands.settled in
        let of_parts : IsEngineOf d f engine says [] = record {
          rests = subst (λ x. RestIn d f ReadsAsTable (holding x (wal_file engine.wal ∷ manifest_file engine.manifest ∷ [])) (f.name (manifest_file engine.manifest)) says) (sym disk)
              (subst (λ w. RestIn d f ReadsAsTable (holding parts.disk (wal_file w ∷ manifest_file engine.manifest ∷ [])) (f.name (manifest_file engine.manifest)) says) (sym wal)
              (subst (λ k. RestIn d f ReadsAsTable (holding parts.disk (wal_file parts.wal ∷ manifest_file k ∷ [])) (f.name (manifest_file k)) says) (sym manifest) parts_rest));
          fold = ap manifest_folded manifest;
          edits = subst (FoldRests f) (sym manifest) (o.manifest_rests clean);
          log = subst (λ w. log.Holds f w (says.logs (newest_log_of says)) []) (sym wal) parts_log;
          one = parts_one engine disk manifest wal;
        } in
        record {
          says = says;
          waiting = [];
          engine_of = of_parts;
          holds = h;
          shows = now_opened (d.stands old) fold parts.version m (course_start m) o.shown o.shown.tables.places.ascending (sym (ap (λ (q : State). q.flush) settled)) h;
          used = subst (λ ns. All (λ n. n < engine.next) ns) (ap (λ (q : State). q.used) settled) (subst (λ fs. All (λ n. n < engine.next) (flat_map (λ (g : FamilyState). numbers_of g.tables) fs)) (sym h.families)
              (All-from (λ n. n < engine.next) (flat_map (λ (g : FamilyState). numbers_of g.tables) (families_said says.tables fold)) (λ n held. let l = said_low says.tables fold well n held in omega (arith, l, more))));
          covers = covers_opened engine.older says parts.version.last.0 rolled (ap (λ (q : Seq). q.0) opened) (parts_last told) o.shown.sequence (parts_logged told);
          runs = sym (ap (λ (q : State). q.halted) settled);
          unfailed = refl;
        }
