-- The calls of the engine: at each moment each folder that a crash may leave stands for an outcome.
use Rattle.std.proofs.Common.{◌≡◌, ◌⊎◌, ℕ, ◌+◌, Bool, List, [], ◌∷◌, ◌++◌, length, refl, sym, ap, ◌∙◌, subst, inl, inr}
use Rattle.std.specs.Prelude.{IsTrue}
use Rattle.std.proofs.lemmas.List.Elements.{Contains-append_left, Contains-push}
use Rattle.ts_key.specs.declared.batch.WriteOp.{WriteOp}
use Rattle.udt_disk.specs.Joint.{Folder}
use Rattle.udt_disk.specs.declared.name.FileName.{FileName}
use Rattle.wal.specs.declared.numbered.Numbered.{Numbered}
use Rattle.wal.specs.Records.{IsLoggedBatch}
use Rattle.udt_model.specs.declared.reply.Reply.{Reply}
use Rattle.udt_model.specs.declared.reply.Reply.TheVariants.{OkAt}
use Rattle.udt_model.specs.State.{State}
use Rattle.udt_model.specs.Acts.{Act}
use Rattle.udt_model.specs.Acts.Act.{write}
use Rattle.udt_model.specs.Steps.{IsReplyTo, IsTold, after, is_running}
use Rattle.udt_model.specs.Crashes.{Course, IsChanged, IsOutcome, IsOutcomeUnder, cut_at, is_change, settled}
use Rattle.manifest_edit.specs.declared.edit.Edit.{Edit}
use Rattle.manifest.specs.Folders.{IsManifestName}
use Rattle.floor_laws.proofs.Told.{told_of}
use Rattle.engine_laws.specs.Standing.{Grammar, FolderSays, Says, StandsForSome}
use Rattle.engine_laws.specs.Engine.{AreSameKept, HoldsState, IsOnCourse, IsOutcomeOr, MayEdit, durable_last, next_batch, with_batches, with_edit}
use Rattle.engine_laws.specs.Moves.{Appending, Images, IsEditReady, IsSafe, Rests, Syncing}
use Rattle.engine_laws.proofs.Resting.{stands_rest, whole_outcome, whole_stands}
use Rattle.engine_laws.proofs.Syncing.{sync_stands, write_holds_on}
use Rattle.engine_laws.proofs.Editing.{edit_stands}
use Rattle.engine_laws.proofs.Moving.{appending_reads, syncing_reads}

-- the newest log is synced, or was
pub stands_sync : (g : Grammar) (folder : Folder) (m : State) (c : Course) (s : Says) (waiting : List Numbered) → HoldsState m c s waiting → FolderSays g folder s ⊎ FolderSays g folder (with_batches s waiting) → StandsForSome g folder (IsOutcome m c)
stands_sync g folder m c s waiting h (inl r) = stands_rest g folder m c s waiting h r
stands_sync g folder m c s waiting h (inr r) = (settled m, record { says = with_batches s waiting; reads = r; stands = sync_stands m c s waiting h }, whole_outcome m c s waiting h)

-- a state that an act leads to is an outcome under it
pub changed : (m : State) (number : ℕ) (act : Act) (reply : Reply) → IsTold m act reply → IsTrue (is_change act reply) → IsTrue (is_running m act) → IsChanged m number act (settled (after m number act reply))
changed m number act reply told change runs = (reply, told, change, refl, runs)

-- the newest log is synced under a write, or was
pub stands_write : (g : Grammar) (folder : Folder) (m : State) (c : Course) (s : Says) (waiting : List Numbered) (number : ℕ) (ops : List WriteOp) (sync : Bool) → HoldsState m c s waiting
    → IsReplyTo m (write ops sync) (OkAt (m.last.0 + length ops)) → IsLoggedBatch (length s.fold.families) (next_batch m ops)
    → FolderSays g folder s ⊎ FolderSays g folder (with_batches s (waiting ++ next_batch m ops ∷ [])) → StandsForSome g folder (IsOutcomeUnder m c number (write ops sync))
stands_write g folder m c s waiting number ops sync h r fits (inl x) = let k = stands_rest g folder m c s waiting h x in (k.0, k.1, inl k.2)
stands_write g folder m c s waiting number ops sync h r fits (inr x) =
    let last = m.last.0 + length ops in
    let reply : Reply = OkAt last in
    let next = after m number (write ops sync) reply in
    let c0 : Course = record c { ends = c.ends ++ last ∷ [] } in
    let on : IsOnCourse next c0 (durable_last s) = record {
      here = Contains-append_left c.ends (last ∷ []) (durable_last s) h.course.here;
      all = Contains-push c.ends last;
      synced = h.course.synced;
      sound = record { synced = h.course.sound.synced; failing = h.course.sound.failing };
    } in
    let k : HoldsState next c0 s (waiting ++ next_batch m ops ∷ []) = write_holds_on m c s waiting h number ops sync last r fits refl c0 on in
    let told = told_of m (write ops sync) reply r (λ e. absurd (cc)) (λ b. b) in
    (settled next, record { says = with_batches s (waiting ++ next_batch m ops ∷ []); reads = x; stands = sync_stands next c0 s (waiting ++ next_batch m ops ∷ []) k }, inr (changed m number (write ops sync) reply told refl r.running))

-- an edit is appended, or was, where nothing waits
pub stands_edit : (g : Grammar) (folder : Folder) (m : State) (c : Course) (s : Says) (edit : Edit) (next : State) → HoldsState m c s [] → MayEdit m s edit next → FolderSays g folder s ⊎ FolderSays g folder (with_edit s edit) → StandsForSome g folder (IsOutcomeOr m c next)
stands_edit g folder m c s edit next h e (inl r) = (settled m, record { says = s; reads = r; stands = whole_stands m c s h }, inl (whole_outcome m c s [] h))
stands_edit g folder m c s edit next h e (inr r) = (settled next, record { says = with_edit s edit; reads = r; stands = edit_stands m c s edit next h e }, inr refl)

-- what an edit may leave is an outcome under the act that it is of
pub under_act : (m : State) (c : Course) (number : ℕ) (act : Act) (reply : Reply) (left : State) → IsTold m act reply → IsTrue (is_change act reply) → IsTrue (is_running m act) → IsOutcomeOr m c (after m number act reply) left → IsOutcomeUnder m c number act left
under_act m c number act reply left told change runs (inl o) = inl o
under_act m c number act reply left told change runs (inr e) = inr (reply, told, change, e, runs)

-- states that say the same of what is kept are cut alike
pub same_cut : (m n : State) (end : ℕ) → AreSameKept m n → cut_at n end ≡ cut_at m end
same_cut m n end k =
    ap (λ z. let r : State = cut_at (record n { families = z }) end in r) k.families
    ∙ ap (λ z. let r : State = cut_at (record n { families = m.families; versions = z }) end in r) k.versions

pub same_settled : (m n : State) → AreSameKept m n → settled n ≡ settled m
same_settled m n k =
    ap (λ z. let r : State = settled (record n { families = z }) in r) k.families
    ∙ ap (λ z. let r : State = settled (record n { families = m.families; versions = z }) in r) k.versions
    ∙ ap (λ z. let r : State = settled (record n { families = m.families; versions = m.versions; last = z }) in r) k.last

-- where the next state says the same, it is an outcome of the state before
pub under_none : (m : State) (c : Course) (s : Says) (next left : State) → HoldsState m c s [] → AreSameKept m next → IsOutcomeOr m c next left → IsOutcome m c left
under_none m c s next left h k (inl o) = o
under_none m c s next left h k (inr e) = subst (IsOutcome m c) (sym (e ∙ same_settled m next k)) (whole_outcome m c s [] h)

-- ---- the same for all folders that a crash may leave

module _ (g : Grammar) (old new : Images) (manifest : FileName) (is : IsManifestName manifest) (m : State) (c : Course) (s : Says) (r : Rests g old manifest s) where
  pub sync_safe : (waiting : List Numbered) → HoldsState m c s waiting → Syncing s waiting old new → IsSafe g new (IsOutcome m c)
  sync_safe waiting h y folder left = stands_sync g folder m c s waiting h (syncing_reads g old new manifest is s waiting r y folder left)

  pub write_safe : (waiting : List Numbered) (number : ℕ) (ops : List WriteOp) (sync : Bool) → HoldsState m c s waiting → IsReplyTo m (write ops sync) (OkAt (m.last.0 + length ops)) → IsLoggedBatch (length s.fold.families) (next_batch m ops)
      → Syncing s (waiting ++ next_batch m ops ∷ []) old new → IsSafe g new (IsOutcomeUnder m c number (write ops sync))
  write_safe waiting number ops sync h told fits y folder left = stands_write g folder m c s waiting number ops sync h told fits (syncing_reads g old new manifest is s (waiting ++ next_batch m ops ∷ []) r y folder left)

  pub edit_safe : (edit : Edit) (next : State) → HoldsState m c s [] → (e : MayEdit m s edit next) → IsEditReady g old s edit → Appending manifest s edit old new → IsSafe g new (IsOutcomeOr m c next)
  edit_safe edit next h e ready a folder left = stands_edit g folder m c s edit next h e (appending_reads g old new manifest is s edit e.leads.accepted r ready a folder left)
