-- Runs that open files, read them and give them back.
use Rattle.std.proofs.Common.{◌≡◌, [], refl}
use Rattle.std.specs.Prelude.{IsTrue}
use Rattle.udt_disk.specs.Crash.{Image}
use Rattle.udt_disk.specs.Joint.Ran.{rests}
use Rattle.udt_disk.specs.Moments.{OnlyReads, alone, holding}
use Rattle.udt_disk.specs.Runs.{IsOnlyRead}
use Rattle.udt_disk.specs.Touches.{Touches}
use Rattle.udt_disk.specs.declared.name.FileName.{FileName}
use Rattle.udt_disk.specs.declared.file.DiskFile as file
use Rattle.udt_disk.specs.declared.disk.Disk as disk
use Rattle.udt_disk.proofs.Moments.{Opening, Giving, disk_step, image_leaves, look_step, only_then, stands_all}
use Rattle.recovery.specs.Looks.{Looks}

module _ {D F : Type 0} (d : disk.Ghosts D F) (f : file.Ghosts F) where
  -- no call
  pub looks_none : (T : FileName → Type 0) (x : D) → Looks d f T x x
  looks_none T x others free = record {
    stands = λ told n c apart under. under;
    no_more = λ n c apart left. left;
    run = rests (λ folder image n apart. image_leaves d f (holding x others) folder image n);
    told = refl;
    model = refl;
  }

  -- one run after another
  pub looks_then : (T : FileName → Type 0) (x y z : D) → Looks d f T x y → Looks d f T y z → Looks d f T x z
  looks_then T x y z first second others free = only_then d f (λ n. ⊥) (holding x others) (holding y others) (holding z others) (first others free) (second others free)

  -- the same of more names
  pub looks_more : (T U : FileName → Type 0) (x y : D) → ((n : FileName) → T n → U n) → Looks d f T x y → Looks d f U x y
  looks_more T U x y more looks others free = looks others (λ n is. free n (more n is))

  module _ (T : FileName → Type 0) (x y : D) (looks : Looks d f T x y) where
    looks_alone : OnlyReads d f (alone x) (alone y)
    looks_alone = looks [] (λ n is z held. absurd held)

    pub looks_told : d.is_told y ≡ d.is_told x
    looks_told = looks_alone.told

    pub looks_model : d.keeps_model y ≡ d.keeps_model x
    looks_model = looks_alone.model

    -- what stands there is as it was
    pub looks_stands : IsTrue (d.is_told x) → (n : FileName) → d.stands y n ≡ d.stands x n
    looks_stands told n = stands_all d f x y looks_alone told n

    pub looks_folder : IsTrue (d.is_told x) → d.stands y ≡ d.stands x
    looks_folder told = λ i n. looks_stands told n i

  module _ (disk_now : (x : D) (n : FileName) (c : Image) → d.left_since x (d.moment x) n c → d.may_leave x n c) (file_now : (x : F) (c : Image) → f.left_since x (f.moment x) c → f.may_leave x c) where
    -- no file was given
    pub looks_nothing : (T : FileName → Type 0) (x y : D) → Touches d (λ n. ⊥) x y → Looks d f T x y
    looks_nothing T x y touches others free = disk_step d f disk_now file_now others (λ n. ⊥) x y touches

    -- one was opened, read, and given back
    pub looks_one : (name : FileName) (x y z : D) (a b : F) → Opening d f name x y a → IsOnlyRead f a b → Giving d f y z b → Looks d f (λ n. n ≡ name) x z
    looks_one name x y z a b opening only giving others free = look_step d f disk_now file_now others name x y z a b opening only giving (free name refl)
