-- What a collector knows of the versions that were pushed.
use Rattle.std.specs.Prelude.{◌≡◌, ℕ, ◌≤◌, Bool, true, false, List, [], ◌∷◌, ◌++◌, length, filter, Option, Some, None}
use Rattle.std.specs.List.{AllByRecursion}
use Rattle.std.specs.Str.{bytes_eq}
use Rattle.ts_key.specs.declared.numbers.Seq.{Seq}
use Rattle.ts_key.specs.declared.numbers.Ts.{Ts}
use Rattle.ts_key.specs.declared.version.Version.{Version}
use Rattle.udt_model.specs.declared.reply.KeySpan.{KeySpan}
use Rattle.udt_model.specs.Collecting.{seen_of}
use Rattle.history_gc.specs.Pushed.{AreInOrder, MayFollow, of_last_key, of_other_keys}
use Rattle.history_gc.specs.Streaming.{Last, next_last, kept_versions}

-- what is decided and not yet given, what is kept of the last key, and what is remembered of it
pub record CollectorState : Type 0 where
  pub ready : List Version
  pub run : List Version
  pub last : Option Last

abbrev pub is_key : Option Last → Version → Bool
is_key None v = false
is_key (Some l) v = bytes_eq l.key v.key

-- what is remembered after several versions
abbrev pub last_after : Ts → Option Last → List Version → Option Last
last_after floor o [] = o
last_after floor o (v ∷ vs) = last_after floor (Some (next_last floor o v)) vs

abbrev pub AllOf : List ℕ → List Version → Type 0
AllOf k vs = AllByRecursion (λ v. v.key ≡ k) vs

abbrev pub NoneOf : List ℕ → List Version → Type 0
NoneOf k vs = AllByRecursion (λ v. v.key ≡ k → ⊥) vs

-- After the versions ps were pushed and qs were given: these and the ready ones are what is kept of all keys but the last,
-- and the run is what may be kept of the last.
pub record AccountsFor (floor : Ts) (seqs : List Seq) (deeper : List KeySpan) (st : CollectorState) (ps qs : List Version) : Type 0 where
  pub sorted : AreInOrder ps
  pub last : last_after floor None ps ≡ st.last
  pub out : qs ++ st.ready ≡ kept_versions floor seqs deeper (of_other_keys ps)
  pub kept : seen_of ps floor seqs ≡ seen_of (of_other_keys ps) floor seqs ++ st.run
  pub key : List ℕ
  pub of_run : AllOf key st.run
  pub of_old : NoneOf key (seen_of (of_other_keys ps) floor seqs)
  pub sorted_run : AreInOrder st.run
  pub others : (v : Version) → MayFollow ps v → is_key st.last v ≡ false → NoneOf v.key ps
  pub same : (v : Version) → MayFollow ps v → is_key st.last v ≡ true → v.key ≡ key
  pub bound : length st.run ≤ length (filter (is_key st.last) ps)
