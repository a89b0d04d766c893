-- A whole call that makes an edit, as one run.
use Rattle.std.proofs.Common.{ℕ, List, [], inl, inr}
use Rattle.std.specs.Prelude.{Contains, IsTrue}
use Rattle.udt_disk.specs.Joint.{Folder, Ran}
use Rattle.udt_disk.specs.Moments.{holding}
use Rattle.udt_disk.specs.declared.name.FileName.{FileName}
use Rattle.udt_disk.specs.declared.file.DiskFile as file
use Rattle.udt_disk.specs.declared.disk.Disk as disk
use Rattle.udt_disk.proofs.Joints.{ran_more, ran_on}
use Rattle.wal.specs.declared.numbered.Numbered.{Numbered}
use Rattle.udt_model.specs.declared.reply.Reply.{Reply}
use Rattle.udt_model.specs.State.{State}
use Rattle.udt_model.specs.Acts.{Act}
use Rattle.udt_model.specs.Steps.{IsTold, after, is_running}
use Rattle.udt_model.specs.Crashes.{Course, IsOutcome, IsOutcomeUnder, is_change, settled}
use Rattle.manifest_edit.specs.declared.edit.Edit.{Edit}
use Rattle.manifest.specs.Folders.{IsManifestName}
use Rattle.engine_laws.specs.Standing.{Grammar, FolderSays, Says, StandsForSome}
use Rattle.engine_laws.specs.Engine.{HoldsState, IsOutcomeOr, MayEdit, with_batches, with_edit}
use Rattle.engine_laws.specs.Joints.{IsNowLast}
use Rattle.engine_laws.specs.JointLaws.{EditCall, RestIn}
use Rattle.engine_laws.proofs.Resting.{stands_rest}
use Rattle.engine_laws.proofs.Syncing.{sync_unasked}
use Rattle.engine_laws.proofs.Editing.{edit_stands}
use Rattle.engine_laws.proofs.Calls.{changed, under_act}
use Rattle.engine_laws.proofs.Joined.{dead_reads, dead_rests, edit_rests, newest_rests, ran_edit, ran_sync, sync_rests}

module _ {D F : Type 0} (d : disk.Ghosts D F) (f : file.Ghosts F) (now_last : IsNowLast d f) (g : Grammar) where
  pub call_ran : (manifest : FileName) (m : State) (c : Course) (s : Says) (waiting : List Numbered) (number : ℕ) (act : Act) (reply : Reply) (edit : Edit) (x y z : D) (start synced made appended done : List F)
      → IsManifestName manifest → HoldsState m c s waiting → RestIn d f g (holding x start) manifest s → IsTold m act reply → IsTrue (is_change act reply) → IsTrue (is_running m act)
      → MayEdit m (with_batches s waiting) edit (after m number act reply) → EditCall d f g manifest s waiting edit x y z start synced made appended done
      → Ran d f (λ folder. StandsForSome g folder (IsOutcomeUnder m c number act)) (holding x start) (holding z done) × RestIn d f g (holding z done) manifest (with_edit (with_batches s waiting) edit)
  call_ran manifest m c s waiting number act reply edit x y z start synced made appended done is h r told change runs may k =
      let s1 = with_batches s waiting in
      let next = after m number act reply in
      let P : Folder → Type 0 = λ folder. StandsForSome g folder (IsOutcomeUnder m c number act) in
      let h1 : HoldsState m c s1 [] = sync_unasked m c s waiting h in
      let newest = newest_rests d f now_last g manifest s (holding x start) h.well r in
      let r1 : RestIn d f g (holding x synced) manifest s1 = sync_rests d f now_last g manifest is s waiting x start synced k.wal k.wal_after k.log.one k.log.name newest r k.all_synced in
      let r2 : RestIn d f g (holding y made) manifest s1 = dead_rests d f now_last g manifest is s1 (Contains k.new) (holding x synced) (holding y made) r1 k.new_dead k.makes.no_more in
      let r3 : RestIn d f g (holding y appended) manifest (with_edit s1 edit) = edit_rests d f now_last g manifest is m next c s1 edit y made appended k.old k.old_after k.file.one k.file.name may r2 k.ready k.all_appended in
      let r4 : RestIn d f g (holding z done) manifest (with_edit s1 edit) = dead_rests d f now_last g manifest is (with_edit s1 edit) (Contains k.gone) (holding y appended) (holding z done) r3 k.gone_dead k.removes.no_more in
      let before : (folder : Folder) → StandsForSome g folder (IsOutcome m c) → P folder = λ folder o. (o.0, o.1, inl o.2) in
      let one = ran_more d f (λ folder. StandsForSome g folder (IsOutcome m c)) P before (holding x start) (holding x synced) (ran_sync d f now_last g manifest is s waiting x start synced k.wal k.wal_after k.log.one k.log.name newest m c h r k.syncs) in
      let two = ran_more d f (λ folder. FolderSays g folder s1) P (λ folder a. before folder (stands_rest g folder m c s1 [] h1 a)) (holding x synced) (holding y made) (dead_reads d f now_last g manifest is s1 (Contains k.new) (holding x synced) (holding y made) r1 k.new_dead k.makes.run) in
      let three = ran_more d f (λ folder. StandsForSome g folder (IsOutcomeOr m c next)) P (λ folder o. (o.0, o.1, under_act m c number act reply o.0 told change runs o.2)) (holding y made) (holding y appended)
      (ran_edit d f now_last g manifest is m next c s1 edit y made appended k.old k.old_after k.file.one k.file.name may r2 k.ready h1 k.appends) in
      let four = ran_more d f (λ folder. FolderSays g folder (with_edit s1 edit)) P (λ folder a. (settled next, record { says = with_edit s1 edit; reads = a; stands = edit_stands m c s1 edit next h1 may }, inr (changed m number act reply told change runs)))
      (holding y appended) (holding z done) (dead_reads d f now_last g manifest is (with_edit s1 edit) (Contains k.gone) (holding y appended) (holding z done) r3 k.gone_dead k.removes.run) in
      (ran_on d f P (holding x start) (holding y appended) (holding z done) (ran_on d f P (holding x start) (holding y made) (holding y appended) (ran_on d f P (holding x start) (holding x synced) (holding y made) one two) three) four, r4)
