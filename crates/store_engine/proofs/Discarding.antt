-- The file of a table that no outcome has live is given back: what a crash leaves, also of a failed engine.
use Rattle.std.proofs.Common.{◌≡◌, ◌≢◌, ◌⊎◌, ℕ, List, [], ◌∷◌, map, refl, sym, subst, inl, inr}
use Rattle.std.specs.Prelude.{Contains, IsTrue}
use Rattle.std.specs.List.{flat_map}
use Rattle.udt_disk.specs.Crash.{Image}
use Rattle.udt_disk.specs.Joint.{Folder, IsImage}
use Rattle.udt_disk.specs.Moments.{AsAtBut, OnlyTouches}
use Rattle.udt_disk.specs.declared.file.DiskFile as file
use Rattle.udt_disk.specs.declared.disk.Disk as disk
use Rattle.udt_disk.specs.declared.name.FileName.{FileName}
use Rattle.udt_disk.specs.declared.name.FileName.TheVariants.{Table}
use Rattle.udt_disk.proofs.Joints.{ran_more}
use Rattle.udt_disk.proofs.Names.{same_or_other}
use Rattle.udt_model.specs.State.{FamilyState, LiveTable, State, live_numbers, numbers_of}
use Rattle.udt_model.specs.Crashes.{Course, IsOutcome}
use Rattle.manifest_edit.specs.declared.edit.TableAt.{TableAt}
use Rattle.manifest_fold.specs.declared.fold.FamilyFold.{FamilyFold}
use Rattle.manifest.specs.Folders.{chosen}
use Rattle.floor_laws.proofs.Members.{In, In-contains, In-left, In-map, In-right, contains_In}
use Rattle.engine_laws.specs.Joints.{IsNowLast}
use Rattle.engine_laws.specs.Moves.{IsLiveName, IsLiveTable}
use Rattle.engine_laws.specs.Standing.{FolderStands, StandsForSome, TableSays, family_said, table_of}
use Rattle.engine_laws.proofs.Folding.{live_In}
use Rattle.engine_laws.proofs.Moving.{other_stands}
use Rattle.engine_laws.proofs.Places.{get-In}
use Rattle.recovery.specs.Tables.{ReadsAsTable}
use Rattle.store_engine.specs.Asides.{IsGivenBack}
use Rattle.store_engine.specs.Calls.{LeavesOutcomes, RanOn}
use Rattle.store_engine.specs.Engines.{IsOneFolder, held}
use Rattle.store_engine.specs.declared.engine.Engine.{Engine}
use Rattle.store_engine.proofs.Aside.{aside_only}
use Rattle.store_engine.proofs.GivenBack.{table_apart}

-- ---- the one image or the other

abbrev pick : {P Q : Type 0} → P ⊎ Q → Image → Image → Image
pick (inl p) one other = one
pick (inr q) one other = other

picks_one : {P Q : Type 0} (o : P ⊎ Q) (one other : Image) → (Q → ⊥) → pick o one other ≡ one
picks_one (inl p) one other never = refl
picks_one (inr q) one other never = absurd (never q)

picks_other : {P Q : Type 0} (o : P ⊎ Q) (one other : Image) → (P → ⊥) → pick o one other ≡ other
picks_other (inl p) one other never = absurd (never p)
picks_other (inr q) one other never = refl

-- ---- a table that is live in a folder is one of the state's

listed : (tables : ℕ → TableSays) (fs : List FamilyFold) (f : FamilyFold) (t : TableAt) → In f fs → In t f.tables → In t.number (flat_map (λ (h : FamilyState). numbers_of h.tables) (map (family_said tables) fs))
listed tables [] f t i j = absurd i
listed tables (g ∷ fs) f t (inl q) j =
    In-left t.number (numbers_of (map (table_of tables) g.tables)) (flat_map (λ (h : FamilyState). numbers_of h.tables) (map (family_said tables) fs))
    (In-map (λ (x : LiveTable). x.number) (table_of tables t) (map (table_of tables) g.tables) (In-map (table_of tables) t g.tables (subst (λ (z : FamilyFold). In t z.tables) (sym q) j)))
listed tables (g ∷ fs) f t (inr i) j =
    In-right t.number (numbers_of (map (table_of tables) g.tables)) (flat_map (λ (h : FamilyState). numbers_of h.tables) (map (family_said tables) fs)) (listed tables fs f t i j)

live_listed : (folder : Folder) (left : State) (stands : FolderStands ReadsAsTable folder left) (number : ℕ) → IsLiveTable stands.says.fold number → Contains (live_numbers left) number
live_listed folder left stands number live =
    let fold = stands.says.fold in
    let i = listed stands.says.tables fold.families live.1 live.2 (get-In fold.families live.0.0 live.1 live.3.family) (live_In fold live.0 live.1 live.2 live.3) in
    subst (λ n. Contains (live_numbers left) n) live.4
    (subst (λ (fs : List FamilyState). Contains (flat_map (λ (h : FamilyState). numbers_of h.tables) fs) live.2.number) (sym stands.stands.families)
    (In-contains (flat_map (λ (h : FamilyState). numbers_of h.tables) (map (family_said stands.says.tables) fold.families)) live.2.number i))

module _ {D F : Type 0} (d : disk.Ghosts D F) (f : file.Ghosts F) (now_last : IsNowLast d f) (stays : (x : D) (n : FileName) → IsTrue (d.keeps_model x) → d.may_leave x n (d.stands x n)) where
  module _ (old new : Engine D F f) (given : F) (number : ℕ) (back : IsGivenBack d f given old new) (named : f.name given ≡ Table number) (one : IsOneFolder d f old) (model : IsTrue (d.keeps_model old.disk)) where
    -- the folder with what stands under the name in it
    abbrev before : Folder → Folder
    before folder = λ n. pick (same_or_other (Table number) n) (d.stands old.disk n) (folder n)

    elsewhere : (folder : Folder) (n : FileName) → n ≢ Table number → before folder n ≡ folder n
    elsewhere folder n apart = picks_other (same_or_other (Table number) n) (d.stands old.disk n) (folder n) apart

    here : (folder : Folder) (n : FileName) → n ≡ Table number → before folder n ≡ d.stands old.disk n
    here folder n is = picks_one (same_or_other (Table number) n) (d.stands old.disk n) (folder n) (λ apart. apart is)

    untouched : (n : FileName) → n ≢ Table number → ¬ Contains (Table number ∷ []) n
    untouched n apart i = elim (contains_In (Table number ∷ []) n i) [ inl q ↦ apart (sym q) | inr none ↦ absurd none ]

    image_before : (folder : Folder) → AsAtBut d f (Contains (Table number ∷ [])) (held old) folder → IsImage d f (held old) (before folder)
    image_before folder at_start = record {
      held = λ x i.
          let apart : f.name x ≢ Table number = λ q. table_apart d f now_last old number one.named x i (sym q) in
          subst (λ c. f.may_leave x c) (sym (elsewhere folder (f.name x) apart)) ((at_start (f.name x) (untouched (f.name x) apart)).held x i refl);
      others = λ n free. elim (same_or_other (Table number) n) [
        | inl is ↦ subst (λ c. d.may_leave old.disk n c) (sym (here folder n is)) (stays old.disk n model)
        | inr apart ↦ subst (λ c. d.may_leave old.disk n c) (sym (elsewhere folder n apart)) ((at_start n (untouched n apart)).free free)
      ];
    }

    touches : OnlyTouches d f (Contains (Table number ∷ [])) (held old) (held new)
    touches = subst (λ n. OnlyTouches d f (Contains (n ∷ [])) (held old) (held new)) named (aside_only d f now_last (f.name given ∷ []) old new back.aside)

    pub discard_leaves : (m : State) (c : Course) → ((left : State) → IsOutcome m c left → ¬ Contains (live_numbers left) number) → LeavesOutcomes d f m c (held old) → RanOn d f m c old new
    discard_leaves m c dead leaves =
        ran_more d f (AsAtBut d f (Contains (Table number ∷ [])) (held old)) (λ folder. StandsForSome ReadsAsTable folder (IsOutcome m c)) (λ folder at_start.
        let left = leaves (before folder) (image_before folder at_start) in (
          left.0,
          other_stands ReadsAsTable (before folder) folder left.0 left.1 (λ n live. sym (elsewhere folder n (λ is. dead left.0 left.2
              (live_listed (before folder) left.0 left.1 number (subst (IsLiveName (chosen (before folder)) left.1.says.fold) is live))))),
          left.2,
        )) (held old) (held new) touches.run
