-- The steps of the engine, name by name.
use Rattle.std.proofs.Common.{◌≡◌, ◌≢◌, ◌⊎◌, ℕ, ◌==◌, true, false, List, [], ◌∷◌, ◌++◌, Option, Some, None, refl, sym, ap, ◌∙◌, subst, inl, inr}
use Rattle.std.specs.Prelude.{Contains, slice_get}
use Rattle.std.proofs.lemmas.Bool.{cases_Bool, eqb-true, eq-eqb, false_from_ne_true, false≢true}
use Rattle.ts_key.specs.declared.numbers.Family.{Family}
use Rattle.udt_disk.specs.Crash.{Image}
use Rattle.udt_disk.specs.Joint.{Folder}
use Rattle.udt_disk.specs.declared.name.FileName.{FileName}
use Rattle.udt_disk.specs.declared.name.FileName.TheVariants.{Current, Made, Log, Table}
use Rattle.wal.specs.declared.numbered.Numbered.{Numbered}
use Rattle.wal.specs.Replays.{ReadsAs}
use Rattle.udt_model.specs.State.{State}
use Rattle.udt_model.specs.Crashes.{Course, IsOutcome}
use Rattle.manifest_edit.specs.declared.edit.TableAt.{TableAt}
use Rattle.manifest_edit.specs.declared.edit.FamilyEdit.{FamilyEdit}
use Rattle.manifest_edit.specs.declared.edit.Edit.{Edit}
use Rattle.manifest_fold.specs.declared.fold.FamilyFold.{FamilyFold}
use Rattle.manifest_fold.specs.declared.fold.Folded.{Folded}
use Rattle.manifest_fold.specs.Folds.{IsAccepted, IsPart, families_with, fold_with}
use Rattle.manifest.specs.Files.{HasFold}
use Rattle.manifest.specs.Folders.Meaning.{store}
use Rattle.manifest.specs.Folders.{Means, IsManifestName, chosen, chosen_by}
use Rattle.manifest.specs.Folds.{sizes_of}
use Rattle.floor_laws.proofs.Members.{In, In-contains, contains_In}
use Rattle.engine_laws.specs.Manifests.{IsLive}
use Rattle.engine_laws.specs.Standing.{FolderStands, Grammar, FolderSays, Says, TableReads}
use Rattle.engine_laws.specs.Engine.{HoldsState, SameLive, newest_log_of, with_batches, with_edit}
use Rattle.engine_laws.specs.Moves.{Appending, AreDead, AreImages, Chosen, Images, IsLiveName, IsEditReady, IsSafe, LogRests, ManifestRests, Rests, TableRests, Syncing, TouchesOne, TouchesOnly, added_tables}
use Rattle.engine_laws.proofs.Folding.{In_live, logs_In, table_from}
use Rattle.engine_laws.proofs.Editing.{sizes_stay}
use Rattle.engine_laws.proofs.Resting.{stands_rest}

not_made : (n : FileName) → IsManifestName n → Made ≢ n
not_made n a q = elim a [ inl e ↦ let r = q ∙ e in cc | inr e ↦ let r = q ∙ e in cc ]

not_current : (n : FileName) → IsManifestName n → Current ≢ n
not_current n a q = elim a [ inl e ↦ let r = q ∙ e in cc | inr e ↦ let r = q ∙ e in cc ]

not_log : (n : FileName) (k : ℕ) → IsManifestName n → Log k ≢ n
not_log n k a q = elim a [ inl e ↦ let r = q ∙ e in cc | inr e ↦ let r = q ∙ e in cc ]

not_table : (n : FileName) (k : ℕ) → IsManifestName n → Table k ≢ n
not_table n k a q = elim a [ inl e ↦ let r = q ∙ e in cc | inr e ↦ let r = q ∙ e in cc ]

own : (n : FileName) (fold : Folded) → IsManifestName n → IsLiveName n fold n
own n fold a = elim a [ inl e ↦ subst (λ z. IsLiveName z fold z) (sym e) refl | inr e ↦ subst (λ z. IsLiveName z fold z) (sym e) refl ]

pub log_same : (n k : ℕ) → Log n ≡ Log k → n ≡ k
log_same n k q = cc

-- ---- what is read where the files rest

-- the manifest that is chosen
chosen_is : (images : Images) (manifest : FileName) (folder : Folder) → Chosen images manifest → AreImages images folder → chosen folder ≡ manifest
chosen_is images manifest folder h left = h.chooses (folder Current) (left Current)

means_of : (images : Images) (manifest : FileName) (folder : Folder) (fold : Folded) → Chosen images manifest → AreImages images folder → HasFold (folder manifest) fold → Means folder (store fold)
means_of images manifest folder fold h left has = (
  h.made (folder Made) (left Made),
  subst (λ z. HasFold (folder z) fold) (sym (chosen_is images manifest folder h left)) has,
)

pub rest_reads : (g : Grammar) (images : Images) (manifest : FileName) (s : Says) (folder : Folder) → Rests g images manifest s → AreImages images folder → FolderSays g folder s
rest_reads g images manifest s folder h left = record {
  means = means_of images manifest folder s.fold h.chosen left (h.manifests (folder manifest) (left manifest));
  logs = λ n i. h.logs n i (folder (Log n)) (left (Log n));
  tables = λ i f t l. h.tables i f t l (folder (Table t.number)) (left (Table t.number));
}

-- between two calls
pub rest_safe : (g : Grammar) (images : Images) (manifest : FileName) (m : State) (c : Course) (s : Says) (waiting : List Numbered) → HoldsState m c s waiting → Rests g images manifest s → IsSafe g images (IsOutcome m c)
rest_safe g images manifest m c s waiting h r folder left = stands_rest g folder m c s waiting h (rest_reads g images manifest s folder r left)

-- ---- a file that isn't live

-- a step on names that aren't live changes nothing of what rests
pub not_live : (g : Grammar) (old new : Images) (manifest : FileName) (T : FileName → Type 0) (s : Says) → IsManifestName manifest → AreDead manifest s.fold T → TouchesOnly T old new → Rests g old manifest s → Rests g new manifest s
not_live g old new manifest T s is dead t r = record {
  chosen = record {
    made = λ c a. r.chosen.made c (t Made (λ q. dead Made q tt) c a);
    chooses = λ c a. r.chosen.chooses c (t Current (λ q. dead Current q tt) c a);
  };
  manifests = λ c a. r.manifests c (t manifest (λ q. dead manifest q (own manifest s.fold is)) c a);
  logs = λ n i c a. r.logs n i c (t (Log n) (λ q. dead (Log n) q i) c a);
  tables = λ i f x l c a. r.tables i f x l c (t (Table x.number) (λ q. dead (Table x.number) q (i, f, x, l, refl)) c a);
}

-- ---- a sync of the newest log

pub other_log : (s : Says) (waiting : List Numbered) (k : ℕ) → (k ≡ newest_log_of s → ⊥) → (with_batches s waiting).logs k ≡ s.logs k
other_log s waiting k ne = let e : (k == newest_log_of s) ≡ false = false_from_ne_true (k == newest_log_of s) (λ y. ne (eqb-true k (newest_log_of s) y)) in rw e refl

pub newest_log_is : (s : Says) (waiting : List Numbered) → (with_batches s waiting).logs (newest_log_of s) ≡ s.logs (newest_log_of s) ++ waiting
newest_log_is s waiting = let e : (newest_log_of s == newest_log_of s) ≡ true = eq-eqb (newest_log_of s) (newest_log_of s) refl in rw e refl

module _ (g : Grammar) (old new : Images) (manifest : FileName) (is : IsManifestName manifest) (s : Says) (waiting : List Numbered) (r : Rests g old manifest s) where
  abbrev newest : ℕ
  newest = newest_log_of s

  chosen_stays : (name : FileName) → TouchesOne name old new → Made ≢ name → Current ≢ name → Chosen new manifest
  chosen_stays name t a b = record { made = λ c u. r.chosen.made c (t Made a c u); chooses = λ c u. r.chosen.chooses c (t Current b c u) }

  syncing_logs : Syncing s waiting old new → (k : ℕ) → (c : Image) → new (Log k) c → Contains s.fold.logs k → (k ≡ newest → ⊥) → ReadsAs (sizes_of s.fold) (s.logs k) c
  syncing_logs y k c u i ne = r.logs k i c (y.touches (Log k) (λ q. ne (log_same k newest q)) c u)

  -- at each moment of it the files say what they said, or that all that waited is on the disk
  pub syncing_reads : Syncing s waiting old new → (folder : Folder) → AreImages new folder → FolderSays g folder s ⊎ FolderSays g folder (with_batches s waiting)
  syncing_reads y folder left =
      let ch = chosen_stays (Log newest) y.touches (λ q. cc) (λ q. cc) in
      let means : Means folder (store s.fold) = means_of new manifest folder s.fold ch left (r.manifests (folder manifest) (y.touches manifest (λ q. not_log manifest newest is (sym q)) (folder manifest) (left manifest))) in
      let tables : (i : Family) (f : FamilyFold) (t : TableAt) → IsLive s.fold i f t → TableReads g (folder (Table t.number)) (s.tables t.number) =
      λ i f t l. r.tables i f t l (folder (Table t.number)) (y.touches (Table t.number) (λ q. cc) (folder (Table t.number)) (left (Table t.number))) in
      elim (y.either (folder (Log newest)) (left (Log newest))) [
        | inl a ↦ inl (record {
          means = means;
          logs = λ k i. elim (cases_Bool (k == newest)) [
            | inl e ↦ subst (λ z. ReadsAs (sizes_of s.fold) (s.logs z) (folder (Log z))) (sym (eqb-true k newest e)) a
            | inr e ↦ syncing_logs y k (folder (Log k)) (left (Log k)) i (λ q. false≢true (sym e ∙ eq-eqb k newest q))
          ];
          tables = tables;
        })
        | inr a ↦ inr (record {
          means = means;
          logs = λ k i. elim (cases_Bool (k == newest)) [
            | inl e ↦ subst (λ z. ReadsAs (sizes_of s.fold) ((with_batches s waiting).logs z) (folder (Log z))) (sym (eqb-true k newest e)) (subst (λ z. ReadsAs (sizes_of s.fold) z (folder (Log newest))) (sym (newest_log_is s waiting)) a)
            | inr e ↦
                let ne : k ≡ newest → ⊥ = λ q. false≢true (sym e ∙ eq-eqb k newest q) in
                subst (λ z. ReadsAs (sizes_of s.fold) z (folder (Log k))) (sym (other_log s waiting k ne)) (syncing_logs y k (folder (Log k)) (left (Log k)) i ne)
          ];
          tables = tables;
        })
      ]

  -- after Ok only the latter
  pub synced_rests : Syncing s waiting old new → LogRests new (with_batches s waiting) newest → Rests g new manifest (with_batches s waiting)
  synced_rests y done = record {
    chosen = chosen_stays (Log newest) y.touches (λ q. cc) (λ q. cc);
    manifests = λ c u. r.manifests c (y.touches manifest (λ q. not_log manifest newest is (sym q)) c u);
    logs = λ k i c u. elim (cases_Bool (k == newest)) [
      | inl e ↦ subst (λ z. LogRests new (with_batches s waiting) z) (sym (eqb-true k newest e)) done c u
      | inr e ↦
          let ne : k ≡ newest → ⊥ = λ q. false≢true (sym e ∙ eq-eqb k newest q) in
          subst (λ z. ReadsAs (sizes_of s.fold) z c) (sym (other_log s waiting k ne)) (syncing_logs y k c u i ne)
    ];
    tables = λ i f t l c u. r.tables i f t l c (y.touches (Table t.number) (λ q. cc) c u);
  }

-- ---- an append to the manifest

module _ (g : Grammar) (old new : Images) (manifest : FileName) (is : IsManifestName manifest) (s : Says) (edit : Edit) (accepted : IsAccepted s.fold edit) (r : Rests g old manifest s) where
  stays_chosen : TouchesOne manifest old new → Chosen new manifest
  stays_chosen t = record { made = λ c u. r.chosen.made c (t Made (not_made manifest is) c u); chooses = λ c u. r.chosen.chooses c (t Current (not_current manifest is) c u) }

  sizes : sizes_of (fold_with s.fold edit) ≡ sizes_of s.fold
  sizes = sizes_stay s.fold edit accepted

  -- at each moment of it the files say what they said, or that the edit is there
  pub appending_reads : IsEditReady g old s edit → Appending manifest s edit old new → (folder : Folder) → AreImages new folder → FolderSays g folder s ⊎ FolderSays g folder (with_edit s edit)
  appending_reads ready a folder left =
      let ch = stays_chosen a.touches in
      elim (a.either (folder manifest) (left manifest)) [
        | inl b ↦ inl (record {
          means = means_of new manifest folder s.fold ch left b;
          logs = λ n i. r.logs n i (folder (Log n)) (a.touches (Log n) (not_log manifest n is) (folder (Log n)) (left (Log n)));
          tables = λ i f t l. r.tables i f t l (folder (Table t.number)) (a.touches (Table t.number) (not_table manifest t.number is) (folder (Table t.number)) (left (Table t.number)));
        })
        | inr b ↦ inr (record {
          means = means_of new manifest folder (fold_with s.fold edit) ch left b;
          logs = λ n i. subst (λ z. ReadsAs z (s.logs n) (folder (Log n))) (sym sizes) (ready.logs n i (folder (Log n)) (a.touches (Log n) (not_log manifest n is) (folder (Log n)) (left (Log n))));
          tables = λ i f t l. ready.tables i f t l (folder (Table t.number)) (a.touches (Table t.number) (not_table manifest t.number is) (folder (Table t.number)) (left (Table t.number)));
        })
      ]

  -- after Ok only the latter
  pub appended_rests : IsEditReady g old s edit → Appending manifest s edit old new → ManifestRests new manifest (fold_with s.fold edit) → Rests g new manifest (with_edit s edit)
  appended_rests ready a done = record {
    chosen = stays_chosen a.touches;
    manifests = done;
    logs = λ n i c u. subst (λ z. ReadsAs z (s.logs n) c) (sym sizes) (ready.logs n i c (a.touches (Log n) (not_log manifest n is) c u));
    tables = λ i f t l c u. ready.tables i f t l c (a.touches (Table t.number) (not_table manifest t.number is) c u);
  }

-- ---- accounts that agree on what is live

pub same_rests : (g : Grammar) (images : Images) (manifest : FileName) (s other : Says) → SameLive s other → Rests g images manifest s → Rests g images manifest other
same_rests g images manifest s other h r = record {
  chosen = r.chosen;
  manifests = subst (ManifestRests images manifest) (sym h.fold) r.manifests;
  logs = λ n i c u.
      let j : Contains s.fold.logs n = subst (λ (z : Folded). Contains z.logs n) h.fold i in
      subst (λ z. ReadsAs (sizes_of z) (other.logs n) c) (sym h.fold) (subst (λ z. ReadsAs (sizes_of s.fold) z c) (sym (h.logs n j)) (r.logs n j c u));
  tables = λ i f t l c u.
      let k : IsLive s.fold i f t = subst (λ z. IsLive z i f t) h.fold l in
      subst (λ z. TableReads g c z) (sym (h.tables i f t k)) (r.tables i f t k c u);
}

-- ---- the law of files that aren't live, over bytes

chosen-own : (c : Image) (fold : Folded) → IsLiveName (chosen_by c) fold (chosen_by c)
chosen-own None fold = refl
chosen-own (Some []) fold = refl
chosen-own (Some (byte ∷ bytes)) fold = elim (cases_Bool (byte == 165)) [ inl y ↦ rw y refl | inr y ↦ rw y refl ]

pub other_reads : (g : Grammar) (folder other : Folder) (s : Says) → ((n : FileName) → IsLiveName (chosen folder) s.fold n → other n ≡ folder n) → FolderSays g folder s → FolderSays g other s
other_reads g folder other s same r =
    let current : chosen other ≡ chosen folder = ap chosen_by (same Current tt) in
    record {
      means = (
        (λ q. r.means.0 (sym (same Made tt) ∙ q)),
        subst (λ z. HasFold (other z) s.fold) (sym current) (subst (λ z. HasFold z s.fold) (sym (same (chosen folder) (chosen-own (folder Current) s.fold))) r.means.1),
      );
      logs = λ n i. subst (λ z. ReadsAs (sizes_of s.fold) (s.logs n) z) (sym (same (Log n) i)) (r.logs n i);
      tables = λ i f t l. subst (λ z. TableReads g z (s.tables t.number)) (sym (same (Table t.number) (i, f, t, l, refl))) (r.tables i f t l);
    }

pub other_stands : (g : Grammar) (folder other : Folder) (m : State) (h : FolderStands g folder m) → ((n : FileName) → IsLiveName (chosen folder) h.says.fold n → other n ≡ folder n) → FolderStands g other m
other_stands g folder other m h same = record { says = h.says; reads = other_reads g folder other h.says same h.reads; stands = h.stands }

-- ---- what is live with an edit

-- a table that is live with an edit was live, or the edit adds it
edit_tables : (fold : Folded) (edit : Edit) (o : Option FamilyEdit) (i : Family) (f : FamilyFold) (t : TableAt) → IsPart fold.families edit o → slice_get (families_with fold.families o) i.0 ≡ Some f → In t f.tables → ((x : FamilyFold) × IsLive fold i x t) ⊎ In t (added_tables o)
edit_tables fold edit None i f t p q j = inl (f, In_live fold i f t q j)
edit_tables fold edit (Some e) i f t p q j = elim (table_from fold edit e p.0 i f t p.1 q j) [ inl x ↦ inl (x.0, x.1) | inr x ↦ inr x.1 ]

pub edit_ready : (g : Grammar) (images : Images) (manifest : FileName) (s : Says) (edit : Edit) → IsAccepted s.fold edit → Rests g images manifest s
    → ((n : ℕ) → Contains edit.add_logs n → LogRests images s n) → ((t : TableAt) → Contains (added_tables edit.family) t → TableRests g images s t.number) → IsEditReady g images s edit
edit_ready g images manifest s edit a r logs tables = record {
  logs = λ n i. elim (logs_In s.fold edit n (contains_In (fold_with s.fold edit).logs n i)) [
    | inl j ↦ r.logs n (In-contains s.fold.logs n j)
    | inr j ↦ logs n (In-contains edit.add_logs n j)
  ];
  tables = λ i f t l. elim (edit_tables s.fold edit edit.family i f t a.part l.family (contains_In f.tables t l.table)) [
    | inl x ↦ r.tables i x.0 t x.1
    | inr x ↦ tables t (In-contains (added_tables edit.family) t x)
  ];
}
