-- The manifest and the log of an engine stay together.
use Rattle.std.proofs.Common.{◌≡◌, ℕ, zero, suc, ◌-◌, ◌≤◌, List, [], ◌∷◌, ◌++◌, length, drop, refl, sym, ap, ◌∙◌, subst, arith}
use Rattle.std.specs.Prelude.{IsTrue, slice_index}
use Rattle.std.proofs.lemmas.List.{append-nil, length-drop}
use Rattle.udt_disk.specs.declared.file.DiskFile as file
use Rattle.udt_disk.specs.declared.name.FileName.TheVariants.{Log}
use Rattle.wal.specs.declared.wal.Wal.{Wal}
use Rattle.wal.specs.declared.numbered.Numbered.{Numbered}
use Rattle.wal.specs.Wals.{IsWalOf, IsWalReady, MayGoOn, wal_file, wal_sizes}
use Rattle.manifest_edit.specs.declared.edit.Edit.{Edit}
use Rattle.manifest_fold.specs.declared.fold.Folded.{Folded}
use Rattle.manifest_fold.specs.Folds.{IsAccepted, fold_with, newest_log}
use Rattle.manifest.specs.declared.manifest.Manifest.{Manifest}
use Rattle.manifest.specs.Folders.{IsManifestName}
use Rattle.manifest.specs.Folds.{sizes_of}
use Rattle.manifest.specs.Manifest.{IsManifestReady, manifest_file, manifest_folded}
use Rattle.engine_laws.specs.Manifests.{IsWell}
use Rattle.engine_laws.proofs.Editing.{sizes_stay}
use Rattle.engine_laws.proofs.Folding.{edit_well}
use Rattle.recovery.specs.Replayed.{IsLogName}
use Rattle.store_engine.specs.Together.{AreNamed, AreTogether}

newest_behind : (n : ℕ) (ns : List ℕ) → 1 ≤ length ns → newest_log ns ≡ newest_log (n ∷ ns)
newest_behind n [] some = absurd (omega (arith, some))
newest_behind n (k ∷ ns) some =
    let a : length (k ∷ ns) - 1 ≡ length ns = omega arith in
    let b : length (n ∷ k ∷ ns) - 1 ≡ suc (length ns) = omega arith in
    ap (slice_index (k ∷ ns)) a ∙ sym (ap (slice_index (n ∷ k ∷ ns)) b)

pub newest_drop : (n : ℕ) (ns : List ℕ) → 1 ≤ length (drop n ns) → newest_log (drop n ns) ≡ newest_log ns
newest_drop zero ns some = refl
newest_drop (suc n) [] some = refl
newest_drop (suc n) (k ∷ ns) some =
    let l = length-drop n ns in
    newest_drop n ns some ∙ newest_behind k ns (omega (arith, l, some))

-- an edit that adds no log leaves the newest
pub newest_stays : (fold : Folded) (edit : Edit) → edit.add_logs ≡ [] → 1 ≤ length (fold_with fold edit).logs → newest_log (fold_with fold edit).logs ≡ newest_log fold.logs
newest_stays fold edit add some =
    let front = drop (length edit.drop_logs) fold.logs in
    let is : (fold_with fold edit).logs ≡ front = ap (λ z. front ++ z) add ∙ append-nil front in
    ap newest_log is ∙ newest_drop (length edit.drop_logs) fold.logs (subst (λ z. 1 ≤ length z) is some)

module _ {F : Type 0} (f : file.Ghosts F) where
  pub named_on : (manifest other : Manifest F f) (wal ran : Wal F f) → f.name (manifest_file other) ≡ f.name (manifest_file manifest) → f.name (wal_file ran) ≡ f.name (wal_file wal) → AreNamed manifest wal → AreNamed other ran
  named_on manifest other wal ran one two named = record { of_manifest = subst IsManifestName (sym one) named.of_manifest; of_log = subst IsLogName (sym two) named.of_log }

  -- the log was synced or has a batch more
  pub together_log : (manifest : Manifest F f) (wal ran : Wal F f) (next : ℕ) → AreTogether manifest wal next → f.name (wal_file ran) ≡ f.name (wal_file wal) → wal_sizes ran ≡ wal_sizes wal → IsWalReady f ran → AreTogether manifest ran next
  together_log manifest wal ran next together name sizes ready = record {
    well = together.well;
    name = name ∙ together.name;
    sizes = sizes ∙ together.sizes;
    edits = together.edits;
    log = ready;
    more = together.more;
    most = together.most;
  }

  -- the manifest was made ready
  pub together_reserved : (manifest other : Manifest F f) (wal : Wal F f) (next : ℕ) → AreTogether manifest wal next → manifest_folded other ≡ manifest_folded manifest → IsManifestReady f other → AreTogether other wal next
  together_reserved manifest other wal next together is ready = record {
    well = subst IsWell (sym is) together.well;
    name = together.name ∙ ap (λ fold. Log (newest_log fold.logs)) (sym is);
    sizes = together.sizes ∙ ap sizes_of (sym is);
    edits = ready;
    log = together.log;
    more = subst (λ fold. fold.next_file ≤ next) (sym is) together.more;
    most = together.most;
  }

  -- or has an edit more that adds no log
  pub together_edited : (manifest other : Manifest F f) (wal : Wal F f) (next : ℕ) (edit : Edit) → AreTogether manifest wal next → IsAccepted (manifest_folded manifest) edit → edit.add_logs ≡ [] → edit.next_file ≤ next
      → manifest_folded other ≡ fold_with (manifest_folded manifest) edit → IsManifestReady f other → AreTogether other wal next
  together_edited manifest other wal next edit together accepted add low is ready =
      let fold = manifest_folded manifest in
      record {
        well = subst IsWell (sym is) (edit_well fold edit accepted together.well);
        name = together.name ∙ ap Log (sym (newest_stays fold edit add accepted.logs.one)) ∙ ap (λ z. Log (newest_log z.logs)) (sym is);
        sizes = together.sizes ∙ sym (sizes_stay fold edit accepted) ∙ ap sizes_of (sym is);
        edits = ready;
        log = together.log;
        more = subst (λ z. z.next_file ≤ next) (sym is) low;
        most = together.most;
      }

  -- a log goes on to show batches
  pub ready_more : (wal ran : Wal F f) (b : Numbered) → f.is_told (wal_file ran) ≡ f.is_told (wal_file wal) → IsWalReady f wal → ((batches waiting : List Numbered) → IsWalOf f wal batches waiting → IsWalOf f ran batches (waiting ++ b ∷ [])) → IsWalReady f ran
  ready_more wal ran b told ready step is_told =
      let r = ready (subst IsTrue told is_told) in
      (r.0, r.1 ++ b ∷ [], step r.0 r.1 r.2)

  pub ready_synced : (wal ran : Wal F f) → f.is_told (wal_file ran) ≡ f.is_told (wal_file wal) → IsWalReady f wal → ((batches waiting : List Numbered) → IsWalOf f wal batches waiting → IsWalOf f ran (batches ++ waiting) []) → IsWalReady f ran
  ready_synced wal ran told ready step is_told =
      let r = ready (subst IsTrue told is_told) in
      (r.0 ++ r.1, [], step r.0 r.1 r.2)

  -- where memory ran out it shows what it showed
  pub go_on_still : (wal ran : Wal F f) (first : ℕ) → f.is_told (wal_file ran) ≡ f.is_told (wal_file wal) → ((batches waiting : List Numbered) → IsWalOf f wal batches waiting → IsWalOf f ran batches waiting) → MayGoOn f wal first → MayGoOn f ran first
  go_on_still wal ran first told step goes is_told =
      let r = goes (subst IsTrue told is_told) in
      (r.0, r.1, step r.0 r.1 r.2, r.3)

  pub ready_still : (wal ran : Wal F f) → f.is_told (wal_file ran) ≡ f.is_told (wal_file wal) → ((batches waiting : List Numbered) → IsWalOf f wal batches waiting → IsWalOf f ran batches waiting) → IsWalReady f wal → IsWalReady f ran
  ready_still wal ran told step ready is_told =
      let r = ready (subst IsTrue told is_told) in
      (r.0, r.1, step r.0 r.1 r.2)
