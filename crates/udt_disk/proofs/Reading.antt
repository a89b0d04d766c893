-- What a copy of the front of the bytes that are left consumes.
use Rattle.std.proofs.Common.{◌≡◌, ℕ, ◌+◌, ◌<◌, List, [], ◌++◌, length, take, drop, min, sym, arith, length-drop}
use Rattle.std.proofs.lemmas.List.{take-append-drop, drop-drop, drop_all}

pub consumed : (n at : ℕ) (bytes into : List ℕ) → take n into ≡ take n (drop at bytes) → drop at bytes ≡ take n into ++ drop (at + n) bytes
consumed n at bytes into e = rw (e, ← drop-drop n at bytes) (sym (take-append-drop n (drop at bytes)))

pub at_end : (n at : ℕ) (bytes into : List ℕ) → n ≡ min (length (drop at bytes)) (length into) → n ≡ 0 → 0 < length into → drop (at + n) bytes ≡ []
at_end n at bytes into e none room = drop_all (at + n) bytes (omega (arith, length-drop at bytes))
