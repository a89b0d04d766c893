-- When a list of versions answers every read for another one.
use Rattle.std.specs.Prelude.{◌≡◌, ◌⊎◌, ◌≢◌, ◌<◌, ◌≤◌, ℕ, List, All, AllPairs, Contains, Option, Some, None, ⊤}
use Rattle.ts_key.specs.declared.numbers.Family.{Family}
use Rattle.ts_key.specs.declared.numbers.Ts.{Ts}
use Rattle.ts_key.specs.declared.numbers.Seq.{Seq}
use Rattle.ts_key.specs.declared.version.Form.{Form}
use Rattle.ts_key.specs.declared.version.Form.TheVariants.{Persist, Strip}
use Rattle.ts_key.specs.declared.version.Op.TheVariants.{Del}
use Rattle.ts_key.specs.declared.version.Version.{Version}
use Rattle.udt_model.specs.Versions.{AreRising, visible}
use Rattle.udt_model.specs.Collecting.{without_ts}

-- v is w, or, in a family that strips its timestamps, w without its timestamp, which is below the floor
abbrev pub IsVersionImage : Form → Ts → Version → Version → Type 0
IsVersionImage Persist floor v w = v ≡ w
IsVersionImage Strip floor v w = (v ≡ w) ⊎ ((w.ts.0 < floor.0) × (v ≡ without_ts w))

-- it is the image of a version of this family in the list
abbrev pub HasSource : Family → Form → Ts → List Version → Version → Type 0
HasSource family form floor w v = (source : Version) × Contains w source × (source.family ≡ family) × IsVersionImage form floor v source

-- what one list sees, and what the other: both nothing; an image; or nothing for a delete up to the floor
abbrev pub AreAlike : Form → Ts → Option Version → Option Version → Type 0
AreAlike form floor None None = ⊤
AreAlike form floor None (Some v) = ⊥
AreAlike form floor (Some w) None = (w.op ≡ Del) × (w.ts.0 ≤ floor.0)
AreAlike form floor (Some w) (Some v) = IsVersionImage form floor v w

-- the sequence of a snapshot, or one that no version is above
abbrev pub IsSight : List Version → List Seq → Seq → Type 0
IsSight w seqs s = Contains seqs s ⊎ All (λ (v : Version). v.seq.0 ≤ s.0) w

-- The versions vs of a family stand for its versions in w: they are images of some, no two of one sequence, their timestamps rise as
-- those of w do, and at and above the floor each read sees the same, with every snapshot and without.
pub record Stands (family : Family) (form : Form) (vs w : List Version) (floor : Ts) (seqs : List Seq) : Type 0 where
  pub images : All (HasSource family form floor w) vs
  pub apart : AllPairs (λ (a b : Version). a.seq.0 ≢ b.seq.0) vs
  pub rising : AreRising vs
  pub alike : (key : List ℕ) (t : Ts) (s : Seq) → floor.0 ≤ t.0 → IsSight w seqs s → AreAlike form floor (visible w family key t s) (visible vs family key t s)

-- Images of versions whose timestamps rise: theirs rise too, in form Persist, and in form Strip where all are 0.
abbrev pub ImagesRise : Type 0
ImagesRise = (family : Family) (form : Form) (floor : Ts) (w vs : List Version)
    → AreRising w → All (HasSource family form floor w) vs → (form ≡ Strip → All (λ (v : Version). v.ts.0 ≡ 0) vs) → AreRising vs
