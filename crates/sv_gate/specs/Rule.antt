-- What holds of a gate's table between any two steps: one legal history for all threads.
-- The words are the commit's lock, the front's lock and the height. The slots are the front's and the commit's.
use Rattle.std.specs.Prelude.{◌≡◌, ◌≢◌, ℕ, ◌+◌, ◌^◌, ◌<◌, ◌≤◌, true, false, List, [], ◌∷◌, length}
use mathlib.Core.Option.{some}
use mathlib.Core.Option as maybe
use lib.ListN.{get_elem?}
use Rattle.atomic_table.specs.Table.{State}
use Rattle.sv_gate.specs.declared.shown.Origin.{Origin}
use Rattle.sv_gate.specs.declared.rule.Content.{Content}
use Rattle.sv_gate.specs.declared.rule.Content.TheVariants.{Front, Commit}
use Rattle.sv_gate.specs.declared.rule.Knowledge.{Knowledge}
use Rattle.sv_gate.specs.Histories.{BeginsWithAll, AreLegal, made_entries, own_of, OwnersBelow, HasSeenPart}

-- The history, each entry beside the seat that made it; the words of the two locks, 0 where they are free; and the seats
-- that have them.
pub record Account (E : Type 0) : Type 0 where
  pub made : List (ℕ × E)
  pub commit_lock : ℕ
  pub front_lock : ℕ
  pub committer : ℕ
  pub holder : ℕ

module _ {F C E : Type 0} where
  abbrev pub weigh : List (Knowledge F C E) → ℕ
  weigh [] = 0
  weigh (k ∷ ks) = k.weight + weigh ks

  -- What the seat j knows is true: of the history, and of the locks.
  pub record KnowsTruly (light : E → Type 0) (o : Origin F C) (now : Account E) (j : ℕ) (k : Knowledge F C E) : Type 0 where
    pub own : k.own ≡ own_of j o.height now.made
    pub part : HasSeenPart light now.made j k.seen k.has_commit
    pub heard : BeginsWithAll (made_entries now.made) k.heard
    pub front : k.has_front ≡ true → (j ≡ now.holder) × (now.front_lock ≢ 0) × (k.seen ≡ made_entries now.made)
    pub commit : k.has_commit ≡ true → (j ≡ now.committer) × (now.commit_lock ≢ 0)
    pub has_room : k.has_room ≡ true → (k.has_commit ≡ true) × (o.height + length now.made < 2 ^ 63)
    pub idle : k.weight ≡ 0 → (k.own ≡ []) × (k.has_front ≡ false) × (k.has_commit ≡ false)

  module _ (follows : Origin F C → List E → E → Type 0) (fronts : Origin F C → F → List E → Type 0) (commits : Origin F C → C → List E → Type 0) (light : E → Type 0) where
    -- The history is legal, and each seat knows what is true of it. A slot is at home where its lock is free, and shows the
    -- history there; else a seat has it. All seats together have the whole weight.
    pub record IsAccount (o : Origin F C) (now : Account E) (front commit : maybe.Option (Content F C)) (seats : List (Knowledge F C E)) : Type 0 where
      pub room : o.height + length now.made ≤ 2 ^ 63
      pub legal : AreLegal (follows o) [] (made_entries now.made)
      pub front_home : now.front_lock ≡ 0 → (f : F) × (front ≡ some (Front f)) × fronts o f (made_entries now.made)
      pub commit_home : now.commit_lock ≡ 0 → (c : C) × (commit ≡ some (Commit c)) × commits o c (made_entries now.made)
      pub front_out : now.front_lock ≢ 0 → (k : Knowledge F C E) × (get_elem? seats now.holder ≡ some k) × (k.has_front ≡ true)
      pub commit_out : now.commit_lock ≢ 0 → (k : Knowledge F C E) × (get_elem? seats now.committer ≡ some k) × (k.has_commit ≡ true)
      pub each : (j : ℕ) (k : Knowledge F C E) → get_elem? seats j ≡ some k → KnowsTruly light o now j k
      pub owners : OwnersBelow (length seats) now.made
      pub weights : weigh seats ≡ o.seats

    pub record IsOneHistory (o : Origin F C) (s : State (Content F C) (Knowledge F C E)) : Type 0 where
      pub now : Account E
      pub front : maybe.Option (Content F C)
      pub commit : maybe.Option (Content F C)
      pub words : s.words ≡ now.commit_lock ∷ now.front_lock ∷ (o.height + length now.made) ∷ []
      pub homes : s.homes ≡ front ∷ commit ∷ []
      pub stands : IsAccount o now front commit s.views
