-- What a crash leaves between and behind the calls of engines.
use Rattle.std.proofs.Common.{ℕ, inl}
use Rattle.std.specs.Prelude.{◌≡◌, IsTrue, None}
use Rattle.udt_disk.specs.Joint.{Joint}
use Rattle.udt_disk.specs.Moments.{OnlyReads, alone}
use Rattle.udt_disk.specs.declared.file.DiskFile as file
use Rattle.udt_disk.specs.declared.disk.Disk as disk
use Rattle.udt_disk.proofs.Joints.{ran_stands}
use Rattle.udt_disk.proofs.Moments.{now_reads}
use Rattle.udt_model.specs.declared.reply.Reply.{Reply}
use Rattle.udt_model.specs.declared.reply.Reply.TheVariants.{Fault}
use Rattle.udt_model.specs.State.{State}
use Rattle.udt_model.specs.Acts.{Act}
use Rattle.udt_model.specs.Steps.{after}
use Rattle.udt_model.specs.Crashes.{Course, IsOutcome, IsOutcomeUnder, course_after}
use Rattle.manifest.specs.Manifest.{manifest_file}
use Rattle.super_version.specs.declared.version.SuperVersion.{SuperVersion}
use Rattle.engine_laws.specs.Joints.{IsNowLast}
use Rattle.engine_laws.specs.Standing.{StandsForSome}
use Rattle.engine_laws.proofs.Acting.{fault_keeps}
use Rattle.engine_laws.proofs.Joined.{now_leaves}
use Rattle.recovery.specs.Tables.{ReadsAsTable}
use Rattle.store_engine.specs.Calls.{LeavesOutcomes, RanOn, RanUnder}
use Rattle.store_engine.specs.Engines.{HoldsNow, held}
use Rattle.store_engine.specs.Laws.{is_beside}
use Rattle.store_engine.specs.declared.engine.Engine.{Engine}
use Rattle.store_engine.proofs.Besides.{outcome_beside}

module _ {D F : Type 0} (d : disk.Ghosts D F) (f : file.Ghosts F) (now_last : IsNowLast d f) where
  pub between_leave : (engine : Engine D F f) (now : SuperVersion) (m : State) (c : Course) → HoldsNow d f engine now m c → LeavesOutcomes d f m c (held engine)
  between_leave engine now m c h = now_leaves d f now_last ReadsAsTable (f.name (manifest_file engine.manifest)) m c h.says h.waiting (held engine) h.holds h.engine_of.rests

  pub failed_leave : (old new : Engine D F f) (m : State) (c : Course) (number : ℕ) (act : Act) → c.failing ≡ None → RanUnder d f m c number act old new → LeavesOutcomes d f (after m number act Fault) (course_after m number c act Fault) (held new)
  failed_leave old new m c number act none ran folder image =
      let left = ran_stands d f (λ folder. StandsForSome ReadsAsTable folder (IsOutcomeUnder m c number act)) (held old) (held new) ran folder image in
      (left.0, left.1, fault_keeps m c number act left.0 none left.2)

  pub failed_sync_leave : (old new : Engine D F f) (m : State) (c : Course) (number : ℕ) (act : Act) → c.failing ≡ None → RanOn d f m c old new → LeavesOutcomes d f (after m number act Fault) (course_after m number c act Fault) (held new)
  failed_sync_leave old new m c number act none ran folder image =
      let left = ran_stands d f (λ folder. StandsForSome ReadsAsTable folder (IsOutcome m c)) (held old) (held new) ran folder image in
      (left.0, left.1, fault_keeps m c number act left.0 none (inl left.2))

  pub beside_leave : (j : Joint D F) (m : State) (c : Course) (number : ℕ) (act : Act) (reply : Reply) → IsTrue (is_beside act reply) → LeavesOutcomes d f m c j → LeavesOutcomes d f (after m number act reply) (course_after m number c act reply) j
  beside_leave j m c number act reply is leaves folder image =
      let left = leaves folder image in
      (left.0, left.1, outcome_beside m c number act reply is left.0 left.2)

  pub closed_leave : (engine : Engine D F f) (closed : D) (m : State) (c : Course) → OnlyReads d f (held engine) (alone closed) → LeavesOutcomes d f m c (held engine) → LeavesOutcomes d f m c (alone closed)
  closed_leave engine closed m c only leaves = now_reads d f (λ folder. StandsForSome ReadsAsTable folder (IsOutcome m c)) (held engine) (alone closed) leaves only
