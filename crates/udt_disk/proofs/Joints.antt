-- Joint runs.
use Rattle.std.proofs.Common.{refl}
use Rattle.udt_disk.specs.Crash.{Image}
use Rattle.udt_disk.specs.Joint.{Folder, Joint, IsHeld, IsBetween, LeavesNow, Ran}
use Rattle.udt_disk.specs.Joint.Ran.{rests, then_to}
use Rattle.udt_disk.specs.declared.file.DiskFile as file
use Rattle.udt_disk.specs.declared.disk.Disk as disk

module _ {D F : Type 0} (d : disk.Ghosts D F) (f : file.Ghosts F) (P : Folder → Type 0) where
  -- a run ends where the next may begin
  pub ran_stands : (old new : Joint D F) → Ran d f P old new → LeavesNow d f P new
  ran_stands old new (rests here) = here
  ran_stands old new (then_to mid k so_far between here) = here

  -- one run after another
  pub ran_on : (a b c : Joint D F) → Ran d f P a b → Ran d f P b c → Ran d f P a c
  ran_on a b c first (rests here) = first
  ran_on a b c first (then_to mid k so_far between here) = then_to mid c (ran_on a b mid first so_far) between here

  -- what has P has Q
  pub ran_more : (Q : Folder → Type 0) → ((folder : Folder) → P folder → Q folder) → (a b : Joint D F) → Ran d f P a b → Ran d f Q a b
  ran_more Q more a b (rests here) = rests (λ folder image. more folder (here folder image))
  ran_more Q more a b (then_to mid k so_far between here) = then_to mid b (ran_more Q more a mid so_far) (λ folder image. more folder (between folder image)) (λ folder image. more folder (here folder image))

  -- a file that is held and rests leaves what it may leave
  pub still : ((x : F) (c : Image) → f.left_since x (f.moment x) c → f.may_leave x c) → (j k : Joint D F) (x : F) → IsHeld j.files x → IsHeld k.files x → (folder : Folder) → IsBetween d f j k folder → f.may_leave x (folder (f.name x))
  still only_now j k x before after folder image = only_now x (folder (f.name x)) (image.held x x before after refl)
