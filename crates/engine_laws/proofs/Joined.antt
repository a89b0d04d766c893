-- The laws over a disk and the files of it that an engine holds: its manifest, its newest log, and whatever else.
use Rattle.std.proofs.Common.{◌≡◌, ◌≢◌, ◌⊎◌, ℕ, ◌+◌, List, [], ◌∷◌, ◌++◌, length, Bool, refl, sym, ap, ◌∙◌, subst, inl, inr}
use Rattle.ts_key.specs.declared.batch.WriteOp.{WriteOp}
use Rattle.udt_disk.specs.Crash.{Image, NoMore}
use Rattle.udt_disk.specs.Joint.{Folder, IsBetween, IsFree, IsImage, Joint, LeavesNow, Ran}
use Rattle.udt_disk.specs.Joint.Ran.{rests, then_to}
use Rattle.udt_disk.specs.Moments.{AsAtBut, MayLeave, holding}
use Rattle.udt_disk.specs.Runs.{Leaves}
use Rattle.udt_disk.specs.Touches.{Touches}
use Rattle.udt_disk.specs.declared.name.FileName.{FileName}
use Rattle.udt_disk.specs.declared.name.FileName.TheVariants.{Log}
use Rattle.udt_disk.specs.declared.file.DiskFile as file
use Rattle.udt_disk.specs.declared.disk.Disk as disk
use Rattle.udt_disk.proofs.Joints.{ran_more}
use Rattle.udt_disk.proofs.Moments.{image_leaves}
use Rattle.udt_disk.proofs.Names.{same_or_other}
use Rattle.wal.specs.declared.numbered.Numbered.{Numbered}
use Rattle.wal.specs.Records.{IsLoggedBatch}
use Rattle.wal.specs.Replays.{IsBeforeOrAfter, ReadsAs}
use Rattle.udt_model.specs.declared.reply.Reply.TheVariants.{OkAt}
use Rattle.udt_model.specs.State.{State}
use Rattle.udt_model.specs.Acts.Act.{write}
use Rattle.udt_model.specs.Steps.{IsReplyTo}
use Rattle.udt_model.specs.Crashes.{Course, IsOutcome, IsOutcomeUnder}
use Rattle.manifest_edit.specs.declared.edit.Edit.{Edit}
use Rattle.manifest_fold.specs.Folds.{fold_with}
use Rattle.manifest.specs.Files.{HasFold}
use Rattle.manifest.specs.Folders.{IsManifestName}
use Rattle.manifest.specs.Folds.{sizes_of}
use Rattle.engine_laws.specs.Manifests.{IsWell}
use Rattle.engine_laws.specs.Standing.{Grammar, FolderSays, Says, StandsForSome}
use Rattle.engine_laws.specs.Engine.{HoldsState, IsOutcomeOr, MayEdit, newest_log_of, next_batch, with_batches, with_edit}
use Rattle.engine_laws.specs.Moves.{Appending, AreDead, AreImages, Images, IsEditReady, Rests, Syncing}
use Rattle.engine_laws.specs.Joints.{IsNowLast, OneRan}
use Rattle.engine_laws.proofs.Editing.{newest_live}
use Rattle.engine_laws.proofs.Moving.{appended_rests, newest_log_is, not_live, rest_reads, rest_safe, synced_rests}
use Rattle.engine_laws.proofs.Calls.{edit_safe, sync_safe, write_safe}

-- what may be left while the file of a name runs: an image that has P under it, and else what was left
abbrev pub While : FileName → (Image → Type 0) → Images → Images
While name P old n c = ((n ≡ name) → P c) × ((n ≢ name) → old n c)

module _ {D F : Type 0} (d : disk.Ghosts D F) (f : file.Ghosts F) (now_last : IsNowLast d f) where
  -- ---- a run of one file

  module _ (x : D) (before after : List F) (a b : F) (P : Image → Type 0) (one : OneRan f before after a b) where
    one_free : (n : FileName) → IsFree d f (holding x before) n → IsFree d f (holding x after) n
    one_free n out y held e = elim (one.back y held) [ inl q ↦ out a one.held (e ∙ ap f.name (sym q) ∙ one.name) | inr k ↦ out y k e ]

    -- under every other name a crash leaves what it might have left
    pub one_touches : (n : FileName) (c : Image) → n ≢ f.name a → MayLeave d f (holding x after) n c → MayLeave d f (holding x before) n c
    one_touches n c ne left = record {
      held = λ y held is. elim (one.stay y held) [ inl q ↦ absurd (ne (sym is ∙ ap f.name (sym q))) | inr k ↦ left.held y k is ];
      free = λ out. left.free (one_free n out);
    }

    one_between : Leaves f a b P → (folder : Folder) → IsBetween d f (holding x before) (holding x after) folder → AreImages (While (f.name a) P (MayLeave d f (holding x before))) folder
    one_between run folder image n = (
      (λ e. run.each (folder n) (subst (λ z. f.left_since b (f.moment a) (folder z)) (sym e) (image.held a b one.held one.ran one.name))),
      λ ne. record {
        held = λ y held is. elim (one.stay y held) [
          | inl q ↦ absurd (ne (sym is ∙ ap f.name (sym q)))
          | inr k ↦ now_last.file y (folder n) (subst (λ z. f.left_since y (f.moment y) (folder z)) is (image.held y y held k refl))
        ];
        free = λ out. now_last.disk x n (folder n) (image.others n out (one_free n out));
      },
    )

    one_after : Leaves f a b P → (folder : Folder) → IsImage d f (holding x after) folder → AreImages (While (f.name a) P (MayLeave d f (holding x before))) folder
    one_after run folder image n =
        let left = image_leaves d f (holding x after) folder image n in
        ((λ e. run.now (folder n) (left.held b one.ran (one.name ∙ sym e))), λ ne. one_touches n (folder n) ne left)

    pub one_ran : (Q : Folder → Type 0) → Leaves f a b P → ((c : Image) → MayLeave d f (holding x before) (f.name a) c → P c)
        → ((folder : Folder) → AreImages (While (f.name a) P (MayLeave d f (holding x before))) folder → Q folder) → Ran d f Q (holding x before) (holding x after)
    one_ran Q run start has =
        then_to (holding x before) (holding x after)
        (rests (λ folder image. has folder (λ n. let left = image_leaves d f (holding x before) folder image n in ((λ e. start (folder n) (subst (λ z. MayLeave d f (holding x before) z (folder n)) e left)), λ ne. left))))
        (λ folder image. has folder (one_between run folder image))
        (λ folder image. has folder (one_after run folder image))

    -- under the name of the file that ran it is the file that may leave something
    pub one_only : (c : Image) → MayLeave d f (holding x after) (f.name a) c → f.may_leave b c
    one_only c left = left.held b one.ran one.name

  -- ---- the newest log

  module _ (g : Grammar) (manifest : FileName) (is : IsManifestName manifest) (s : Says) (waiting : List Numbered) (x : D) (before after : List F) (wal ran : F) (one : OneRan f before after wal ran) (log : f.name wal ≡ Log (newest_log_of s)) (newest : (c : Image) → MayLeave d f (holding x before) (Log (newest_log_of s)) c → ReadsAs (sizes_of s.fold) (s.logs (newest_log_of s)) c) where
    abbrev SyncImage : Image → Type 0
    SyncImage = IsBeforeOrAfter (sizes_of s.fold) (s.logs (newest_log_of s)) waiting

    sync_start : (c : Image) → MayLeave d f (holding x before) (f.name wal) c → SyncImage c
    sync_start c left = inl (newest c (subst (λ z. MayLeave d f (holding x before) z c) log left))

    syncing : Syncing s waiting (MayLeave d f (holding x before)) (While (f.name wal) SyncImage (MayLeave d f (holding x before)))
    syncing = record { touches = λ n ne c w. w.1 (λ e. ne (e ∙ log)); either = λ c w. w.0 (sym log) }

    pub sync_rests : Rests g (MayLeave d f (holding x before)) manifest s → ((c : Image) → f.may_leave ran c → ReadsAs (sizes_of s.fold) (s.logs (newest_log_of s) ++ waiting) c) → Rests g (MayLeave d f (holding x after)) manifest (with_batches s waiting)
    sync_rests r done =
        let read : (c : Image) → MayLeave d f (holding x after) (Log (newest_log_of s)) c → ReadsAs (sizes_of s.fold) (s.logs (newest_log_of s) ++ waiting) c = λ c left. done c (one_only x before after wal ran SyncImage one c (subst (λ z. MayLeave d f (holding x after) z c) (sym log) left)) in
        let y : Syncing s waiting (MayLeave d f (holding x before)) (MayLeave d f (holding x after)) = record { touches = λ n ne c left. one_touches x before after wal ran SyncImage one n c (λ e. ne (e ∙ log)) left; either = λ c left. inr (read c left) } in
        synced_rests g (MayLeave d f (holding x before)) (MayLeave d f (holding x after)) manifest is s waiting r y (λ c left. subst (λ z. ReadsAs (sizes_of s.fold) z c) (sym (newest_log_is s waiting)) (read c left))

    -- a sync: at each moment each folder that a crash may leave stands for an outcome
    pub ran_sync : (m : State) (c : Course) → HoldsState m c s waiting → Rests g (MayLeave d f (holding x before)) manifest s → Leaves f wal ran SyncImage → Ran d f (λ folder. StandsForSome g folder (IsOutcome m c)) (holding x before) (holding x after)
    ran_sync m c h r run =
        one_ran x before after wal ran SyncImage one (λ folder. StandsForSome g folder (IsOutcome m c)) run sync_start
        (sync_safe g (MayLeave d f (holding x before)) (While (f.name wal) SyncImage (MayLeave d f (holding x before))) manifest is m c s r waiting h syncing)

  -- the same under a write
  pub ran_write : (g : Grammar) (manifest : FileName) (is : IsManifestName manifest) (m : State) (c : Course) (s : Says) (waiting : List Numbered) (number : ℕ) (ops : List WriteOp) (sync : Bool) (x : D) (before after : List F) (wal ran : F)
      → HoldsState m c s waiting → IsReplyTo m (write ops sync) (OkAt (m.last.0 + length ops)) → IsLoggedBatch (length s.fold.families) (next_batch m ops) → Rests g (MayLeave d f (holding x before)) manifest s
      → OneRan f before after wal ran → f.name wal ≡ Log (newest_log_of s) → ((i : Image) → MayLeave d f (holding x before) (Log (newest_log_of s)) i → ReadsAs (sizes_of s.fold) (s.logs (newest_log_of s)) i)
      → Leaves f wal ran (IsBeforeOrAfter (sizes_of s.fold) (s.logs (newest_log_of s)) (waiting ++ next_batch m ops ∷ []))
      → Ran d f (λ folder. StandsForSome g folder (IsOutcomeUnder m c number (write ops sync))) (holding x before) (holding x after)
  ran_write g manifest is m c s waiting number ops sync x before after wal ran h told fits r one log newest run =
      let more = waiting ++ next_batch m ops ∷ [] in
      let P = IsBeforeOrAfter (sizes_of s.fold) (s.logs (newest_log_of s)) more in
      one_ran x before after wal ran P one (λ folder. StandsForSome g folder (IsOutcomeUnder m c number (write ops sync))) run (sync_start g manifest is s more x before after wal ran one log newest)
      (write_safe g (MayLeave d f (holding x before)) (While (f.name wal) P (MayLeave d f (holding x before))) manifest is m c s r waiting number ops sync h told fits (syncing g manifest is s more x before after wal ran one log newest))

  -- ---- the manifest

  module _ (g : Grammar) (manifest : FileName) (is : IsManifestName manifest) (m next : State) (c : Course) (s : Says) (edit : Edit) (x : D) (before after : List F) (file ran : F) (one : OneRan f before after file ran) (named : f.name file ≡ manifest) (may : MayEdit m s edit next)
      (r : Rests g (MayLeave d f (holding x before)) manifest s) (ready : IsEditReady g (MayLeave d f (holding x before)) s edit) where
    abbrev EditImage : Image → Type 0
    EditImage i = HasFold i s.fold ⊎ HasFold i (fold_with s.fold edit)

    pub edit_rests : ((i : Image) → f.may_leave ran i → HasFold i (fold_with s.fold edit)) → Rests g (MayLeave d f (holding x after)) manifest (with_edit s edit)
    edit_rests done =
        let read : (i : Image) → MayLeave d f (holding x after) manifest i → HasFold i (fold_with s.fold edit) = λ i left. done i (one_only x before after file ran EditImage one i (subst (λ z. MayLeave d f (holding x after) z i) (sym named) left)) in
        let a : Appending manifest s edit (MayLeave d f (holding x before)) (MayLeave d f (holding x after)) = record { touches = λ n ne i left. one_touches x before after file ran EditImage one n i (λ e. ne (e ∙ named)) left; either = λ i left. inr (read i left) } in
        appended_rests g (MayLeave d f (holding x before)) (MayLeave d f (holding x after)) manifest is s edit may.leads.accepted r ready a read

    -- an append of an edit
    pub ran_edit : HoldsState m c s [] → Leaves f file ran EditImage → Ran d f (λ folder. StandsForSome g folder (IsOutcomeOr m c next)) (holding x before) (holding x after)
    ran_edit h run =
        let now = MayLeave d f (holding x before) in
        let a : Appending manifest s edit now (While (f.name file) EditImage now) = record { touches = λ n ne i w. w.1 (λ e. ne (e ∙ named)); either = λ i w. w.0 (sym named) } in
        one_ran x before after file ran EditImage one (λ folder. StandsForSome g folder (IsOutcomeOr m c next)) run
        (λ i left. inl (r.manifests i (subst (λ z. now z i) named left)))
        (edit_safe g now (While (f.name file) EditImage now) manifest is m c s r edit next h may ready a)

  -- ---- calls on names that aren't live, whatever files are held

  pub dead_reads : (g : Grammar) (manifest : FileName) (is : IsManifestName manifest) (s : Says) (T : FileName → Type 0) (old new : Joint D F) → Rests g (MayLeave d f old) manifest s → AreDead manifest s.fold T → Ran d f (AsAtBut d f T old) old new → Ran d f (λ folder. FolderSays g folder s) old new
  dead_reads g manifest is s T old new r dead run =
      ran_more d f (AsAtBut d f T old) (λ folder. FolderSays g folder s)
      (λ folder each. let images : Images = λ n c. ¬ T n → MayLeave d f old n c in rest_reads g images manifest s folder (not_live g (MayLeave d f old) images manifest T s is dead (λ n ne c left. left ne) r) each)
      old new run

  pub dead_rests : (g : Grammar) (manifest : FileName) (is : IsManifestName manifest) (s : Says) (T : FileName → Type 0) (old new : Joint D F) → Rests g (MayLeave d f old) manifest s → AreDead manifest s.fold T
      → ((n : FileName) (c : Image) → ¬ T n → MayLeave d f new n c → MayLeave d f old n c) → Rests g (MayLeave d f new) manifest s
  dead_rests g manifest is s T old new r dead no_more = not_live g (MayLeave d f old) (MayLeave d f new) manifest T s is dead (λ n ne c left. no_more n c ne left) r

  -- between two calls
  pub now_leaves : (g : Grammar) (manifest : FileName) (m : State) (c : Course) (s : Says) (waiting : List Numbered) (j : Joint D F) → HoldsState m c s waiting → Rests g (MayLeave d f j) manifest s → LeavesNow d f (λ folder. StandsForSome g folder (IsOutcome m c)) j
  now_leaves g manifest m c s waiting j h r folder image = rest_safe g (MayLeave d f j) manifest m c s waiting h r folder (image_leaves d f j folder image)

  -- what rests of the newest log
  pub newest_rests : (g : Grammar) (manifest : FileName) (s : Says) (j : Joint D F) → IsWell s.fold → Rests g (MayLeave d f j) manifest s → (c : Image) → MayLeave d f j (Log (newest_log_of s)) c → ReadsAs (sizes_of s.fold) (s.logs (newest_log_of s)) c
  newest_rests g manifest s j w r c left = r.logs (newest_log_of s) (newest_live s.fold w) c left

  -- a roll leaves nothing new but under the name of the new log
  pub roll_leaves : (x y : D) (files : List F) (old new : F) (number : ℕ) → f.name new ≡ Log number → IsFree d f (holding x files) (f.name old) → Touches d (λ n. (n ≡ Log number) ⊎ (n ≡ f.name old)) x y → NoMore (f.may_leave old) (d.may_leave y (f.name old))
      → (n : FileName) (c : Image) → (n ≡ Log number → ⊥) → MayLeave d f (holding y (new ∷ files)) n c → MayLeave d f (holding x (old ∷ files)) n c
  roll_leaves x y files old new number name apart touches given n c ne left =
      let other : n ≢ f.name new = λ e. ne (e ∙ name) in
      elim (same_or_other (f.name old) n) [
        | inl e ↦
            let out : IsFree d f (holding y (new ∷ files)) n = λ z held is. elim held [ inl q ↦ other (is ∙ ap f.name (sym q)) | inr k ↦ apart z k (sym e ∙ is) ] in
            let here : f.may_leave old c = given c (subst (λ z. d.may_leave y z c) e (left.free out)) in
            record {
              held = λ z held is. elim held [ inl q ↦ subst (λ w. f.may_leave w c) q here | inr k ↦ absurd (apart z k (sym (is ∙ e))) ];
              free = λ none. absurd (none old (inl refl) e);
            }
        | inr b ↦ record {
          held = λ z held is. elim held [ inl q ↦ absurd (b (sym is ∙ ap f.name (sym q))) | inr k ↦ left.held z (inr k) is ];
          free = λ out. touches.no_more n c (λ t. elim t [ inl a ↦ ne a | inr a ↦ b a ]) (left.free (λ z held is. elim held [ inl q ↦ other (is ∙ ap f.name (sym q)) | inr k ↦ out z (inr k) is ]));
        }
      ]
