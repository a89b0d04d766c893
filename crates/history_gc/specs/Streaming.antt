-- Which versions a collection keeps, decided one by one in the stored order.
use Rattle.std.specs.Prelude.{ℕ, Bool, false, not, ◌==◌, nat_lt, nat_le, ◌&&◌, ◌||◌, if◌then◌else◌, List, [], ◌∷◌, Option, Some, None, max, min}
use Rattle.std.specs.List.{list_any}
use Rattle.std.specs.Str.{bytes_eq}
use Rattle.ts_key.specs.declared.numbers.Seq.{Seq}
use Rattle.ts_key.specs.declared.numbers.Ts.{Ts}
use Rattle.ts_key.specs.declared.version.Version.{Version}
use Rattle.udt_model.specs.declared.reply.KeySpan.{KeySpan}
use Rattle.udt_model.specs.Versions.{is_put}
use Rattle.udt_model.specs.Orders.{is_in_some}
use Rattle.udt_model.specs.Collecting.{seen_of, without_useless}

-- Of the versions so far: the last key, the last class of timestamps, and the least sequence in that key and class. All
-- timestamps up to the floor are one class, each one above it is a class of its own.
pub record Last : Type 0 where
  pub key : List ℕ
  pub class : ℕ
  pub least : ℕ

abbrev pub class_of : Ts → Version → ℕ
class_of floor v = max v.ts.0 floor.0

abbrev pub is_in_last_class : Ts → Option Last → Version → Bool
is_in_last_class floor None v = false
is_in_last_class floor (Some l) v = bytes_eq l.key v.key && l.class == class_of floor v

abbrev pub least_sequence : Option Last → ℕ
least_sequence None = 0
least_sequence (Some l) = l.least

abbrev pub next_last : Ts → Option Last → Version → Last
next_last floor o v = record { key = v.key; class = class_of floor v; least = if is_in_last_class floor o v then min (least_sequence o) v.seq.0 else v.seq.0 }

-- a snapshot of this sequence sees the version of sequence seq, and none of those from least on
abbrev pub is_snapshot_between : ℕ → ℕ → Seq → Bool
is_snapshot_between seq least s = nat_le seq s.0 && nat_lt s.0 least

-- the first of a class is kept; another one where a snapshot sees it and none of the ones before it
abbrev pub is_kept : Ts → List Seq → Option Last → Version → Bool
is_kept floor seqs o v = not (is_in_last_class floor o v) || list_any (is_snapshot_between v.seq.0 (least_sequence o)) seqs

abbrev pub kept_from : Ts → List Seq → Option Last → List Version → List Version
kept_from floor seqs o [] = []
kept_from floor seqs o (v ∷ vs) = if is_kept floor seqs o v then v ∷ kept_from floor seqs (Some (next_last floor o v)) vs else kept_from floor seqs (Some (next_last floor o v)) vs

-- ---- deletes at the end of a key's run

-- a delete up to the floor
abbrev pub is_old_delete : Ts → Version → Bool
is_old_delete floor v = not (is_put v.op) && nat_le v.ts.0 floor.0

-- and its key lies in no deeper span
abbrev pub is_low : Ts → List KeySpan → Version → Bool
is_low floor deeper v = is_old_delete floor v && not (is_in_some deeper v.key)

-- a list without the ones at its end that pass a test
abbrev pub trim_on : (Version → Bool) → Version → List Version → List Version
trim_on p v [] = if p v then [] else v ∷ []
trim_on p v (x ∷ xs) = v ∷ x ∷ xs

abbrev pub trim : (Version → Bool) → List Version → List Version
trim p [] = []
trim p (v ∷ vs) = trim_on p v (trim p vs)

-- the last of a list passes a test
abbrev pub ends_so : (Version → Bool) → List Version → Bool
ends_so p [] = false
ends_so p (v ∷ []) = p v
ends_so p (v ∷ w ∷ vs) = ends_so p (w ∷ vs)

-- what a collection keeps of versions that stand in the stored order
abbrev pub kept_versions : Ts → List Seq → List KeySpan → List Version → List Version
kept_versions floor seqs deeper vs = without_useless floor deeper (seen_of vs floor seqs)
