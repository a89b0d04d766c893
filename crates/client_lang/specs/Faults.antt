-- Why a file isn't read.
use Rattle.std.specs.Prelude.{◌≡◌, ◌⊎◌, ℕ, ◌<◌, ◌≤◌, List, length}
use Rattle.client_lang.specs.declared.grammar.lines.ReadFault.{ReadFault}
use Rattle.client_lang.specs.declared.grammar.lines.ReadFault.TheVariants.{BadLine, TooMany, TooLong, NoMemory}
use Rattle.client_lang.specs.Grammar.{IsBadLine, IsTooMany, lines_of}
use Rattle.client_lang.specs.declared.grammar.lines.TheConstants.{FILE_LIMIT}

-- the bytes are no command file, for this fault: they are too many, or a first line is no command or one too many
abbrev pub Refuses : List ℕ → ReadFault → Type 0
Refuses bytes TooLong = FILE_LIMIT < length bytes
Refuses bytes (BadLine n) = (length bytes ≤ FILE_LIMIT) × IsBadLine (lines_of bytes) n
Refuses bytes (TooMany n) = (length bytes ≤ FILE_LIMIT) × IsTooMany (lines_of bytes) n
Refuses bytes NoMemory = ⊥

-- reading these bytes may end so: for their fault, or for want of memory
abbrev pub IsReadFault : List ℕ → ReadFault → Type 0
IsReadFault bytes fault = Refuses bytes fault ⊎ (fault ≡ NoMemory)
