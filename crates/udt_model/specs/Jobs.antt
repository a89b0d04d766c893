-- What jobs take and make: plans of compactions, and what the ends of jobs say.
use Rattle.std.specs.Prelude.{ℕ, max, nat_lt, nat_le, ◌==◌, Bool, true, false, not, ◌&&◌, ◌||◌, IsTrue, List, [], ◌∷◌, length, map, filter, flat_map, take, drop, Option, Some, None}
use Rattle.std.specs.Str.{bytes_eq}
use Rattle.std.specs.List.{list_any, list_all}
use Rattle.ts_key.specs.declared.numbers.Family.{Family}
use Rattle.ts_key.specs.declared.numbers.Ts.{Ts}
use Rattle.ts_key.specs.declared.version.Form.{Form}
use Rattle.ts_key.specs.declared.version.Form.TheVariants.{Persist, Strip}
use Rattle.ts_key.specs.declared.version.Version.{Version}
use Rattle.udt_model.specs.declared.reply.KeySpan.{KeySpan}
use Rattle.udt_model.specs.declared.reply.Piece.{Piece}
use Rattle.udt_model.specs.Versions.{between}
use Rattle.udt_model.specs.Orders.{meets, hull_with, span_of}
use Rattle.udt_model.specs.Collecting.{collect, collect_all, cutoff, stripped}
use Rattle.udt_model.specs.State.{State, LiveTable, Flush, Compaction, floor_at, form_at, numbers_of, tables_of, through_at}

-- the number is in the list
abbrev pub has_number : List ℕ → ℕ → Bool
has_number ns n = list_any (λ o. o == n) ns

-- no table has had one of these numbers, and no two of them are equal
abbrev pub are_new : List ℕ → List ℕ → Bool
are_new used [] = true
are_new used (n ∷ ns) = not (has_number used n) && are_new (n ∷ used) ns

-- ---- flushes

-- the versions of a family that are in no table
abbrev pub unflushed_of : State → Family → List Version
unflushed_of m family = between family (through_at m family).0 m.last.0 m.versions

-- the versions that a flush takes
abbrev pub flush_taken : State → Flush → List Version
flush_taken m job = between job.family (through_at m job.family).0 job.through.0 m.versions

-- versions as a table of the form keeps them
abbrev pub in_form : Form → List Version → List Version
in_form Persist vs = vs
in_form Strip vs = stripped vs

-- the versions of the table that a flush makes
abbrev pub flush_kept : State → Flush → List Version
flush_kept m job = in_form (form_at m job.family) (collect_all (flush_taken m job) job.floor job.seqs)

-- a family that strips its timestamps can't be read below them any more
abbrev pub floor_over : Form → Ts → List Version → Ts
floor_over Persist floor vs = floor
floor_over Strip floor vs = record { 0 = max floor.0 (cutoff vs) }

-- the floor that a flush leaves
abbrev pub flush_floor : State → Flush → Ts
flush_floor m job = floor_over (form_at m job.family) (floor_at m job.family) (flush_taken m job)

-- ---- plans of compactions

abbrev pub is_input : List ℕ → LiveTable → Bool
is_input inputs t = has_number inputs t.number

abbrev pub spans_of : List LiveTable → List KeySpan
spans_of tables = map (λ t. span_of t.versions) tables

-- the tables that lie below the output level and aren't inputs
abbrev pub deeper_of : State → Family → List ℕ → ℕ → List KeySpan
deeper_of m family inputs level = spans_of (filter (λ t. nat_lt level t.level && not (is_input inputs t)) (tables_of m family))

abbrev pub is_ascending : List ℕ → Bool
is_ascending [] = true
is_ascending (n ∷ []) = true
is_ascending (n ∷ o ∷ ns) = nat_lt n o && is_ascending (o ∷ ns)

-- the first number is below the second, and the second below the third, or the other way round
abbrev pub is_amid : ℕ → ℕ → ℕ → Bool
is_amid a b c = (nat_lt a b && nat_lt b c) || (nat_lt c b && nat_lt b a)

-- a table has to be flush_taken in with an input where it stands on the output level or on one between, or where both stand on level 0
abbrev pub goes_with : ℕ → LiveTable → LiveTable → Bool
goes_with level input t = t.level == level || is_amid input.level t.level level || (input.level == 0 && t.level == 0)

-- the hull of the keys of tables; where there is none, the span of the empty key
abbrev pub hull_of : List LiveTable → KeySpan
hull_of [] = span_of []
hull_of (t ∷ ts) = hull_with (span_of t.versions) (spans_of ts)

-- the table meets the hull of the inputs and has to be flush_taken in with one of them
abbrev pub is_wanted : ℕ → List LiveTable → LiveTable → Bool
is_wanted level inputs t = meets (span_of t.versions) (hull_of inputs) && list_any (λ input. goes_with level input t) inputs

-- the live tables of a family that are inputs
abbrev pub inputs_of : State → Family → List ℕ → List LiveTable
inputs_of m family inputs = filter (is_input inputs) (tables_of m family)

-- The inputs are ascending numbers of live tables of the family, at least one, the output level is 1 to 6, and each table that has to
-- be flush_taken in is an input.
pub record IsClosed (m : State) (family : Family) (inputs : List ℕ) (level : ℕ) : Type 0 where
  pub some : IsTrue (nat_lt 0 (length inputs))
  pub ascending : IsTrue (is_ascending inputs)
  pub live : IsTrue (list_all (has_number (numbers_of (tables_of m family))) inputs)
  pub level_is : IsTrue (nat_le 1 level && nat_le level 6)
  pub taken_in : IsTrue (list_all (λ t. is_input inputs t || not (is_wanted level (inputs_of m family inputs) t)) (tables_of m family))

-- the tables of a family on level 0
abbrev pub level0_of : State → Family → List LiveTable
level0_of m family = filter (λ t. t.level == 0) (tables_of m family)

-- ---- ends of compactions

-- the versions of the inputs of a compaction
abbrev pub inputs_hold : State → Compaction → List Version
inputs_hold m job = flat_map (λ t. t.versions) (inputs_of m job.family job.inputs)

-- the versions of the tables that a compaction makes
abbrev pub compaction_kept : State → Compaction → List Version
compaction_kept m job = collect (inputs_hold m job) job.floor job.seqs job.deeper

-- the first key of the second list isn't the last one of the first
abbrev pub is_cut : List Version → List Version → Bool
is_cut [] back = true
is_cut front [] = true
is_cut (v ∷ []) (w ∷ ws) = not (bytes_eq v.key w.key)
is_cut (v ∷ w ∷ vs) (x ∷ xs) = is_cut (w ∷ vs) (x ∷ xs)

-- the pieces part the versions in order, each has some, and no key is cut
abbrev pub are_parts : List Version → List Piece → Bool
are_parts vs [] = length vs == 0
are_parts vs (p ∷ ps) = nat_lt 0 p.count && nat_le p.count (length vs) && is_cut (take p.count vs) (drop p.count vs) && are_parts (drop p.count vs) ps

-- the tables that pieces make of the versions
abbrev pub tables_from : ℕ → List Version → List Piece → List LiveTable
tables_from level vs [] = []
tables_from level vs (p ∷ ps) = record { number = p.table; level = level; versions = take p.count vs } ∷ tables_from level (drop p.count vs) ps

abbrev pub numbers_of_pieces : List Piece → List ℕ
numbers_of_pieces ps = map (λ p. p.table) ps

-- ---- running jobs

-- the job of this start and family runs
abbrev pub runs_flush : Option Flush → Family → ℕ → Bool
runs_flush None family start = false
runs_flush (Some job) family start = job.start == start && job.family.0 == family.0

abbrev pub runs_compaction : Option Compaction → Family → ℕ → Bool
runs_compaction None family start = false
runs_compaction (Some job) family start = job.start == start && job.family.0 == family.0
