-- What a crash may leave of one file, and how time goes on.
use Rattle.std.specs.Prelude.{◌≡◌, ◌⊎◌, ℕ, ◌≤◌, List, [], ◌∷◌, ⊤, Option, Some, None}
use Rattle.udt_disk.specs.Bytes.{Torn}

-- a file after a crash: its bytes, or None where it is missing
abbrev pub Image : Type 0
Image = Option (List ℕ)

-- what a write of n bytes at an offset makes of an image: a missing file stays missing
abbrev pub Tears : ℕ → ℕ → Image → Image → Type 0
Tears at n None None = ⊤
Tears at n None (Some new) = ⊥
Tears at n (Some old) None = ⊥
Tears at n (Some old) (Some new) = Torn at n old new

-- what may be there of a file that was created or emptied and not synced: it may be missing where it might have been
-- before, and hold any bytes where there might have been a file
abbrev pub Created : (Image → Type 0) → Image → Type 0
Created old None = old None
Created old (Some []) = ⊤
Created old (Some (byte ∷ bytes)) = (before : List ℕ) × old (Some before)

-- each new image is an old image after a step
abbrev pub ComeBy : (Image → Image → Type 0) → (Image → Type 0) → (Image → Type 0) → Type 0
ComeBy step old new = (c : Image) → new c → (d : Image) × old d × step d c

-- no image is new
abbrev pub NoMore : (Image → Type 0) → (Image → Type 0) → Type 0
NoMore old new = (c : Image) → new c → old c

-- a crash leaves these bytes and nothing else
abbrev pub Only : List ℕ → (Image → Type 0) → Type 0
Only bytes images = (c : Image) → images c → c ≡ Some bytes

-- Time goes on: a crash since t might have left what it might have left before, or what it may leave now.
pub record Elapses (before now : ℕ) (past since : ℕ → Image → Type 0) (may_leave : Image → Type 0) : Type 0 where
  pub later : before ≤ now
  pub nothing_else : (t : ℕ) (c : Image) → t ≤ before → since t c → past t c ⊎ may_leave c
  pub keeps : (t : ℕ) (c : Image) → t ≤ before → past t c → since t c
