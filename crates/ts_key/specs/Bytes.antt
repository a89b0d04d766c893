-- Why bytes are no key or no value.
use Rattle.std.specs.Prelude.{◌≡◌, ℕ, ◌<◌, ◌≤◌, List, length}
use Rattle.ts_key.specs.declared.bytes.BytesFault.{BytesFault}
use Rattle.ts_key.specs.declared.bytes.BytesFault.TheVariants.{TooLong, NoMemory}

-- bytes under this limit may be refused so: past it with their length, within it for want of memory
abbrev pub IsBytesFault : ℕ → List ℕ → BytesFault → Type 0
IsBytesFault limit bytes (TooLong len) = (limit < length bytes) × (len ≡ length bytes)
IsBytesFault limit bytes NoMemory = length bytes ≤ limit
