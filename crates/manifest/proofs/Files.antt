-- An answer that failed holds no file; what emptying a file leaves.
use Rattle.std.proofs.Common.{◌≡◌, [], true, false, Option, Result, Ok, Err, refl}
use Rattle.std.specs.Prelude.{IsErr, Some, None, is_some}
use Rattle.std.proofs.lemmas.Bool.{false≢true}
use Rattle.udt_disk.specs.Crash.{Image}
use Rattle.udt_disk.specs.declared.file.DiskFile.{Ghosts}
use Rattle.manifest.specs.declared.manifest.Manifest.{Manifest}
use Rattle.manifest.specs.Making.{emptied}
use Rattle.manifest.specs.Manifest.{files_made, files_read}

module _ {F : Type 0} {g : Ghosts F} where
  pub none_made : {E : Type 0} (r : Result (Manifest F g) E) → IsErr r → files_made r ≡ []
  none_made (Ok m) err = absurd (false≢true err)
  none_made (Err e) err = refl

  pub none_read : {E : Type 0} (r : Result (Option (Manifest F g)) E) → IsErr r → files_read r ≡ []
  none_read (Ok o) err = absurd (false≢true err)
  none_read (Err e) err = refl

-- a file that is there is emptied, and one that isn't stays missing
pub emptied_some : (image : Image) → is_some image ≡ true → emptied image ≡ Some []
emptied_some None is = cc
emptied_some (Some bytes) is = refl

pub emptied_none : (image : Image) → is_some image ≡ false → emptied image ≡ image
emptied_none None is = refl
emptied_none (Some bytes) is = cc

pub missing : (image : Image) → is_some image ≡ false → image ≡ None
missing None is = refl
missing (Some bytes) is = cc
