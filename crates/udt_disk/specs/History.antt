-- What a crash may leave of a file in memory, read off what a read gives now and its calls, the newest first. Each write
-- notes the bytes that it wrote over.
use Rattle.std.specs.Prelude.{◌≡◌, ◌⊎◌, ℕ, ◌+◌, ◌≤◌, Bool, true, false, List, [], ◌∷◌, ◌++◌, length, take, drop, Some, None, IsTrue}
use Rattle.std.proofs.Common.{refl, inl, inr, arith}
use Rattle.udt_disk.specs.Crash.{Image, Tears}
use Rattle.udt_disk.specs.declared.history.FileCall.{FileCall}
use Rattle.udt_disk.specs.declared.history.FileCall.TheVariants.{Wrote, Synced}

-- the bytes before count bytes were written at an offset, over these
abbrev pub undone : List ℕ → ℕ → ℕ → List ℕ → List ℕ
undone now at count over = take at now ++ over ++ drop (at + count) now

-- what a read gave before a call
abbrev pub before_call : List ℕ → FileCall → List ℕ
before_call now (Wrote at count over) = undone now at count over.items
before_call now Synced = now

-- some call was a sync
abbrev pub is_synced : List FileCall → Bool
is_synced [] = false
is_synced (Wrote at count over ∷ earlier) = is_synced earlier
is_synced (Synced ∷ earlier) = true

-- before the first call: what a read gives, and nothing or any bytes where the file was created or emptied
abbrev pub First : Bool → Bool → List ℕ → Image → Type 0
First may_miss may_differ now None = IsTrue may_miss
First may_miss may_differ now (Some bytes) = (bytes ≡ now) ⊎ IsTrue may_differ

-- what a crash may leave: what a read gives, or what the writes since the last sync may have left
abbrev pub CallsLeave : Bool → Bool → List ℕ → List FileCall → Image → Type 0
CallsLeave may_miss may_differ now [] c = First may_miss may_differ now c
CallsLeave may_miss may_differ now (Wrote at count over ∷ earlier) c = (c ≡ Some now) ⊎ ((d : Image) × CallsLeave may_miss may_differ (undone now at count over.items) earlier d × Tears at count d c)
CallsLeave may_miss may_differ now (Synced ∷ earlier) c = c ≡ Some now

-- what a crash after at least t calls might have left
abbrev pub LeftSince : Bool → Bool → List ℕ → List FileCall → ℕ → Image → Type 0
LeftSince may_miss may_differ now [] t c = First may_miss may_differ now c
LeftSince may_miss may_differ now (call ∷ earlier) t c = CallsLeave may_miss may_differ now (call ∷ earlier) c ⊎ ((t ≤ length earlier) × LeftSince may_miss may_differ (before_call now call) earlier t c)

-- what a read gives is one of the images
pub stays_now : (miss differ : Bool) (now : List ℕ) (calls : List FileCall) → CallsLeave miss differ now calls (Some now)
stays_now miss differ now [] = inl refl
stays_now miss differ now (Wrote at count over ∷ earlier) = inl refl
stays_now miss differ now (Synced ∷ earlier) = refl

pub counts_since : (miss differ : Bool) (now : List ℕ) (calls : List FileCall) (t : ℕ) (c : Image) → CallsLeave miss differ now calls c → LeftSince miss differ now calls t c
counts_since miss differ now [] t c left = left
counts_since miss differ now (call ∷ earlier) t c left = inl left

pub only_since : (miss differ : Bool) (now : List ℕ) (calls : List FileCall) (c : Image) → LeftSince miss differ now calls (length calls) c → CallsLeave miss differ now calls c
only_since miss differ now [] c left = left
only_since miss differ now (call ∷ earlier) c (inl left) = left
only_since miss differ now (call ∷ earlier) c (inr past) = absurd (omega (arith, past.0))
