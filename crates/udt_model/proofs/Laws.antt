-- Laws of the definitions.
use Rattle.std.proofs.Common.{arith, ◌≡◌, ◌≢◌, ℕ, zero, suc, ◌+◌, ◌<◌, true, false, not, List, [], ◌∷◌, ◌++◌, length, map, Option, Some, None, refl, sym, ap, ◌∙◌, subst, inl, inr}
use Rattle.std.specs.Prelude.{All, AllPairs, Contains, filter, flat_map, option_map, slice_get, slice_index_or}
use Rattle.std.specs.Str.{bytes_eq}
use Rattle.std.proofs.lemmas.Bool.{cases_Bool}
use Rattle.ts_key.specs.declared.numbers.Family.{Family}
use Rattle.ts_key.specs.declared.numbers.Ts.{Ts}
use Rattle.ts_key.specs.declared.numbers.Seq.{Seq}
use Rattle.ts_key.specs.declared.version.Form.TheVariants.{Persist, Strip}
use Rattle.ts_key.specs.declared.version.Version.{Version}
use Rattle.udt_model.specs.declared.line.FamilyHead.{FamilyHead}
use Rattle.udt_model.specs.declared.line.Line.{Line}
use Rattle.udt_model.specs.declared.reply.KeySpan.{KeySpan}
use Rattle.udt_model.specs.declared.place.Place.{Place}
use Rattle.udt_model.specs.Versions.{AreRising, visible}
use Rattle.udt_model.specs.Orders.{is_in_some, stored}
use Rattle.udt_model.specs.Collecting.{collect, collect_all, is_useless, seen_of}
use Rattle.udt_model.specs.Standing.{AreAlike, HasSource, ImagesRise, Stands}
use Rattle.udt_model.specs.State.{State, FamilyState, family_of, family_or, heads_of, numbers_of, place_at, place_from, place_of_family, unflushed, unflushed_family}
use Rattle.udt_model.specs.Crashes.{settled}
use Rattle.udt_model.specs.declared.event.Event.{Event}
use Rattle.udt_model.specs.declared.event.Event.TheVariants.{Snap, Release}
use Rattle.udt_model.specs.declared.reply.Reply.{Reply}
use Rattle.udt_model.specs.Names.{Names, SnapName, given_snap, names_after, snap_names, snaps_behind}
use Rattle.udt_model.specs.Histories.{Leads, Point, behind}

-- ---- collecting

-- a key that lies deeper keeps its deletes
pub deeper_stays : (kept : List Version) (floor : Ts) (deeper : List KeySpan) (v : Version) → is_in_some deeper v.key ≡ true → is_useless kept floor deeper v ≡ false
deeper_stays kept floor deeper v inside = grind (arith)

all_stay : (kept : List Version) (floor : Ts) (deeper : List KeySpan) → ((v : Version) → is_in_some deeper v.key ≡ true) → (vs : List Version) → filter (λ v. not (is_useless kept floor deeper v)) vs ≡ vs
all_stay kept floor deeper everywhere [] = refl
all_stay kept floor deeper everywhere (v ∷ vs) =
    let stays : not (is_useless kept floor deeper v) ≡ true = ap not (deeper_stays kept floor deeper v (everywhere v)) in
    rw (stays, all_stay kept floor deeper everywhere vs) refl

-- with spans that hold every key a compaction keeps what a flush keeps
pub collect_everywhere : (vs : List Version) (floor : Ts) (seqs : List Seq) (deeper : List KeySpan) → ((v : Version) → is_in_some deeper v.key ≡ true) → collect vs floor seqs deeper ≡ collect_all vs floor seqs
collect_everywhere vs floor seqs deeper everywhere = ap stored (all_stay (seen_of vs floor seqs) floor deeper everywhere (seen_of vs floor seqs))

-- ---- families by name and by number

abbrev numbered : ℕ → Family
numbered n = record { 0 = n }

abbrev heads : List FamilyState → List FamilyHead
heads families = map (λ f. f.head) families

-- the family of a name stands at its place, as it is found there by name
pub record Found (n : ℕ) (families : List FamilyState) (name : List ℕ) : Type 0 where
  pub at : ℕ
  pub family : family_or (n + length (heads families)) (place_from n (heads families) name) ≡ numbered (n + at)
  pub place : option_map (place_of_family (numbered (n + at))) (slice_get families at) ≡ place_from n (heads families) name

found : (n : ℕ) (families : List FamilyState) (name : List ℕ) → Found n families name
found n [] name = record { at = 0; family = refl; place = refl }
found n (f ∷ families) name =
    let here : n + 0 ≡ n = omega arith in
    elim (cases_Bool (bytes_eq f.head.name name)) [
      | inl x ↦ record { at = 0; family = rw x (ap numbered (sym here)); place = rw x (ap (λ (k : ℕ). let p : Option Place = Some (place_of_family (numbered k) f) in p) here) }
      | inr x ↦
          let more = found (n + 1) families name in
          let next : n + 1 + more.at ≡ n + suc more.at = omega arith in
          let size : n + length (heads (f ∷ families)) ≡ n + 1 + length (heads families) = omega arith in
          record {
            at = suc more.at;
            family = rw x (ap (λ (k : ℕ). family_or k (place_from (n + 1) (heads families) name)) size ∙ more.family ∙ ap numbered next);
            place = rw x (ap (λ (k : ℕ). option_map (place_of_family (numbered k)) (slice_get families more.at)) (sym next) ∙ more.place);
          }
    ]

-- the place of the family of a name is that of the name
pub place_of_name : (m : State) (name : List ℕ) → place_at m (family_of (heads_of m) name) ≡ place_from 0 (heads_of m) name
place_of_name m name =
    let it = found 0 m.families name in
    let size : 0 + length (heads_of m) ≡ length (heads_of m) = omega arith in
    let at : 0 + it.at ≡ it.at = omega arith in
    let family : family_of (heads_of m) name ≡ numbered it.at = ap (λ (k : ℕ). family_or k (place_from 0 (heads_of m) name)) (sym size) ∙ it.family ∙ ap numbered at in
    ap (place_at m) family ∙ ap (λ (k : ℕ). option_map (place_of_family (numbered k)) (slice_get m.families it.at)) (sym at) ∙ it.place

-- the heads of families without tables
pub heads_unflushed : (families : List FamilyHead) → map (λ (f : FamilyState). f.head) (map unflushed_family families) ≡ families
heads_unflushed [] = refl
heads_unflushed (head ∷ families) = ap (λ (rest : List FamilyHead). head ∷ rest) (heads_unflushed families)

-- and no number of a table
pub none_live : (families : List FamilyHead) → flat_map (λ (f : FamilyState). numbers_of f.tables) (map unflushed_family families) ≡ []
none_live [] = refl
none_live (head ∷ families) = none_live families

-- a store without tables is as an opening gives it
pub settled_unflushed : (families : List FamilyHead) (versions : List Version) (last : Seq) (halted : Option ℕ) → settled (unflushed families versions last halted) ≡ unflushed families versions last None
settled_unflushed families versions last halted = ap (λ (used : List ℕ). let m : State = record (unflushed families versions last None) { used = used } in m) (none_live families)

-- ---- standing

same_image : (w : List Version) (floor : Ts) (family : Family) (a : Option Version) → AreAlike Persist floor a a
same_image w floor family None = tt
same_image w floor family (Some v) = refl

-- the versions of one family stand for themselves, where their sequences differ and their timestamps rise
pub stands_itself : (family : Family) (w : List Version) (floor : Ts) (seqs : List Seq) → All (λ (v : Version). v.family ≡ family) w → AllPairs (λ (a b : Version). a.seq.0 ≢ b.seq.0) w → AreRising w → Stands family Persist w w floor seqs
stands_itself family w floor seqs own apart rising = record {
  images = λ k d within. (slice_index_or w k d, (k, within, inside w k d within), own k d within, refl);
  apart = apart;
  rising = rising;
  alike = λ key t s above sight. same_image w floor family (visible w family key t s);
}
  where
    inside : (w : List Version) (k : ℕ) (d : Version) → k < length w → slice_index_or w k (slice_index_or w k d) ≡ slice_index_or w k d
    inside [] k d within = refl
    inside (v ∷ vs) zero d within = refl
    inside (v ∷ vs) (suc k) d within = let less : k < length vs = omega (arith, within) in inside vs k d less

module _ (family : Family) (floor : Ts) (w vs : List Version) (images : All (HasSource family Persist floor w) vs) where
  -- what stands for itself is in the other list
  itself : (v : Version) → Contains vs v → Contains w v
  itself v c =
      let source : HasSource family Persist floor w v = subst (HasSource family Persist floor w) c.2 (images c.0 v c.1) in
      subst (Contains w) (sym source.3) source.1

-- images rise as what they stand for
pub images_rise : ImagesRise
images_rise family Persist floor w vs rising images flat a b x y same less = rising a b (itself family floor w vs images a x) (itself family floor w vs images b y) same less
images_rise family Strip floor w vs rising images flat a b x y same less =
    let zero_ts : a.ts.0 ≡ 0 = subst (λ (v : Version). v.ts.0 ≡ 0) x.2 (flat refl x.0 a x.1) in
    omega (arith, zero_ts)

-- ---- names

module _ (T : Type 0) (name_of : T → List ℕ) (name : List ℕ) where
  -- names that are given up leave both lists
  pub names_left : (xs : List T) → map name_of (filter (λ x. not (bytes_eq (name_of x) name)) xs) ≡ filter (λ n. not (bytes_eq n name)) (map name_of xs)
  names_left [] = refl
  names_left (x ∷ xs) =
      elim (cases_Bool (bytes_eq (name_of x) name)) [
        | inl e ↦ rw e (names_left xs)
        | inr e ↦ rw e (ap (λ (ns : List (List ℕ)). name_of x ∷ ns) (names_left xs))
      ]

pub snaps_pushed : (bs : List SnapName) (b : SnapName) → map (λ (b : SnapName). b.name) (bs ++ b ∷ []) ≡ map (λ (b : SnapName). b.name) bs ++ b.name ∷ []
snaps_pushed [] b = refl
snaps_pushed (x ∷ bs) b = ap (λ (ns : List (List ℕ)). x.name ∷ ns) (snaps_pushed bs b)

-- the names in use go by the events alone, whatever the replies
pub snaps_by_event : (m : State) (number : ℕ) (names : Names) (event : Event) (reply : Reply) → snap_names (names_after m number names event reply) ≡ snaps_behind (snap_names names) event
snaps_by_event m number names (Snap name) reply = snaps_pushed names.snaps (record { name = name; event = given_snap number reply })
snaps_by_event m number names (Release name) reply = names_left SnapName (λ b. b.name) name names.snaps
snaps_by_event m number names event reply = refl

-- ---- histories

-- what leads on from where others led
pub leads_on : (a b c : Point) (xs ys : List Line) → Leads a xs b → Leads b ys c → Leads a (xs ++ ys) c
leads_on a b c [] ys front back = subst (λ (p : Point). Leads p ys c) front back
leads_on a b c (x ∷ xs) ys front back = (front.0, leads_on (behind a x) b c xs ys front.1 back)
