-- The files of an engine that is closed.
use Rattle.std.proofs.Common.{◌≡◌, List, [], ◌∷◌, sym, ◌∙◌, subst}
use Rattle.udt_disk.specs.Joint.{LeavesNow}
use Rattle.udt_disk.specs.Moments.{MayLeave, OnlyReads, alone, holding}
use Rattle.udt_disk.specs.declared.file.DiskFile as file
use Rattle.udt_disk.specs.declared.disk.Disk as disk
use Rattle.udt_disk.proofs.Moments.{Giving, image_leaves, only_then, return_step}
use Rattle.wal.specs.declared.numbered.Numbered.{Numbered}
use Rattle.wal.specs.Wals.{wal_pending, wal_waiting}
use Rattle.wal.proofs.Appends.{waits_none}
use Rattle.udt_model.specs.State.{State}
use Rattle.udt_model.specs.Crashes.{Course, settled}
use Rattle.super_version.specs.declared.version.SuperVersion.{SuperVersion}
use Rattle.manifest.specs.Folders.{IsManifestName}
use Rattle.manifest.specs.Manifest.{manifest_file}
use Rattle.engine_laws.specs.Joints.{IsNowLast}
use Rattle.engine_laws.specs.JointLaws.{RestIn}
use Rattle.engine_laws.specs.Standing.{FolderSays, FolderStands, Says}
use Rattle.engine_laws.specs.Engine.{HoldsState}
use Rattle.engine_laws.proofs.Joined.{dead_rests, now_leaves}
use Rattle.engine_laws.proofs.Moving.{rest_reads}
use Rattle.engine_laws.proofs.Resting.{whole_stands}
use Rattle.recovery.specs.Replayed.{IsLogName}
use Rattle.recovery.specs.Tables.{ReadsAsTable}
use Rattle.recovery.proofs.Openings.{logs_free}
use Rattle.store_engine.specs.Calls.{LeavesOutcomes}
use Rattle.store_engine.specs.Engines.{HoldsNow, IsEngineOf, held}
use Rattle.store_engine.specs.declared.engine.Engine.{Engine}

module _ {D F : Type 0} (d : disk.Ghosts D F) (f : file.Ghosts F) (now_last : IsNowLast d f) where
  -- a log and a manifest are given back
  pub both_back : (x y z : D) (w m : F) → Giving d f x y w → Giving d f y z m → f.is_told w ≡ d.is_told x → f.is_told m ≡ d.is_told x → IsLogName (f.name w) → IsManifestName (f.name m) → OnlyReads d f (holding x (w ∷ m ∷ [])) (alone z)
  both_back x y z w m first second wal_told manifest_told log either =
      let one = return_step d f now_last.disk now_last.file (m ∷ []) x y w first wal_told (λ k there is. logs_free d f x m either (f.name w) log k there is) in
      only_then d f (λ n. ⊥) (holding x (w ∷ m ∷ [])) (holding y (m ∷ [])) (alone z) one
      (return_step d f now_last.disk now_last.file [] y z m second (manifest_told ∙ sym one.told) (λ k none. absurd none))

  -- what rested on the disk and in the files rests on the disk alone
  closed_rests : (engine : Engine D F f) (z : D) (s : Says) (waiting : List Numbered) → IsEngineOf d f engine s waiting → OnlyReads d f (held engine) (alone z) → RestIn d f ReadsAsTable (alone z) (f.name (manifest_file engine.manifest)) s
  closed_rests engine z s waiting of only =
      let name = f.name (manifest_file engine.manifest) in
      dead_rests d f now_last ReadsAsTable name of.one.named.of_manifest s (λ n. ⊥) (held engine) (alone z) of.rests (λ n none. absurd none) only.no_more

  -- a crash leaves what it might have left
  pub closed_leaves : (engine : Engine D F f) (z : D) (now : SuperVersion) (m : State) (c : Course) → HoldsNow d f engine now m c → OnlyReads d f (held engine) (alone z) → LeavesOutcomes d f m c (alone z)
  closed_leaves engine z now m c h only =
      now_leaves d f now_last ReadsAsTable (f.name (manifest_file engine.manifest)) m c h.says h.waiting (alone z) h.holds (closed_rests engine z h.says h.waiting h.engine_of only)

  -- all that reached the disk
  pub closed_reaches : (engine : Engine D F f) (z : D) (s : Says) (waiting : List Numbered) → IsEngineOf d f engine s waiting → OnlyReads d f (held engine) (alone z) → LeavesNow d f (λ folder. FolderSays ReadsAsTable folder s) (alone z)
  closed_reaches engine z s waiting of only folder image =
      rest_reads ReadsAsTable (MayLeave d f (alone z)) (f.name (manifest_file engine.manifest)) s folder (closed_rests engine z s waiting of only) (image_leaves d f (alone z) folder image)

  -- and that is all there is, where nothing waits
  pub closed_whole : (engine : Engine D F f) (z : D) (now : SuperVersion) (m : State) (c : Course) → HoldsNow d f engine now m c → wal_pending engine.wal ≡ 0 → OnlyReads d f (held engine) (alone z)
      → LeavesNow d f (λ folder. FolderStands ReadsAsTable folder (settled m)) (alone z)
  closed_whole engine z now m c h none only folder image =
      let w = h.engine_of.log.shown in
      let empty : h.waiting ≡ [] = waits_none engine.wal.sizes engine.wal.is_fresh h.waiting (wal_waiting engine.wal) none w.waits in
      record {
        says = h.says;
        reads = closed_reaches engine z h.says h.waiting h.engine_of only folder image;
        stands = whole_stands m c h.says (subst (HoldsState m c h.says) empty h.holds);
      }
