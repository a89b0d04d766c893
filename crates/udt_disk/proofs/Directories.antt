-- What a change of one entry makes of a folder.
use Rattle.std.proofs.Common.{◌≡◌, ◌≢◌, ◌⊎◌, ⊎_elim, inl, inr, ℕ, ◌<◌, ◌≤◌, refl, sym, ◌∙◌, ap, subst, arith, Option, Some, None, option_map}
use Rattle.std.specs.Prelude.{IfSome, IfNone}
use Rattle.udt_disk.specs.Crash.{Image}
use Rattle.udt_disk.specs.Tree.{entry_named, place_in_entry, early, Changed}
use Rattle.udt_disk.specs.Crashed.{image_before, synced_before}
use Rattle.udt_disk.specs.Files.{place_stands, PlaceLeaves, without_home, removed, file_at}
use Rattle.udt_disk.specs.Late.{late_since}
use Rattle.udt_disk.specs.Directory.{Put, Moved, Removed, Same, long, since, place_named}
use Rattle.udt_disk.specs.declared.name.FileName.{FileName}
use Rattle.udt_disk.specs.declared.mem_file.FileData.{FileData}
use Rattle.udt_disk.specs.declared.tree.Entry.{Entry}
use Rattle.udt_disk.specs.declared.tree.Place.{Place}
use Rattle.udt_disk.specs.declared.tree.Place.TheVariants.{Home, Out, Gone, Missing}
use Rattle.udt_disk.specs.declared.tree.Tree.{Tree}
use Rattle.udt_disk.specs.declared.directory.Directory.{Directory}
use Rattle.udt_disk.proofs.Names.{same_or_other}

-- one change after another of the same name
pub changed_twice : (a b : FileName) (x y : Option Entry) (old mid new : Tree) → a ≡ b → Changed a x old mid → Changed b y mid new → Changed b y old new
changed_twice a b x y old mid new same first second = record {
  there = second.there;
  others = λ n other. second.others n other ∙ first.others n (subst (λ (m : FileName). n ≢ m) (sym same) other);
}

pub named : (a b : FileName) (x : Option Entry) (old new : Tree) → a ≡ b → Changed a x old new → Changed b x old new
named a b x old new same changed = subst (λ (m : FileName). Changed m x old new) same changed

module _ (name : FileName) (x : Option Entry) (old new : Tree) (changed : Changed name x old new) where
  early_by : (n : FileName) → early x ≡ early (entry_named old name) → (n ≡ name) ⊎ (n ≢ name) → early (entry_named new n) ≡ early (entry_named old n)
  early_by n same (inl is) = ap (λ (m : FileName). early (entry_named new m)) is ∙ ap early changed.there ∙ same ∙ ap (λ (m : FileName). early (entry_named old m)) (sym is)
  early_by n same (inr other) = ap early (changed.others n other)

  pub early_same : early x ≡ early (entry_named old name) → (n : FileName) → early (entry_named new n) ≡ early (entry_named old n)
  early_same same n = early_by n same (same_or_other name n)

  counted_by : (returns : ℕ) (n : FileName) → early x ≤ returns → early (entry_named old n) ≤ returns → (n ≡ name) ⊎ (n ≢ name) → early (entry_named new n) ≤ returns
  counted_by returns n here before (inl is) = subst (λ (k : ℕ). k ≤ returns) (sym (ap (λ (m : FileName). early (entry_named new m)) is ∙ ap early changed.there)) here
  counted_by returns n here before (inr other) = subst (λ (k : ℕ). k ≤ returns) (sym (ap early (changed.others n other))) before

  -- the count stays above all
  pub still_counted : (before after : ℕ) → before ≤ after → early x ≤ after → ((n : FileName) → early (entry_named old n) ≤ before) → (n : FileName) → early (entry_named new n) ≤ after
  still_counted before after more here all n = counted_by after n here (omega (arith, more, all n)) (same_or_other name n)

module _ (name : FileName) (old new : Directory) (returns : new.returns ≡ old.returns) (late : new.late ≡ old.late) where
  same_long : long new ≡ long old
  same_long = rw (returns, late) refl

  same_since : ((n : FileName) → early (entry_named new.tree n) ≡ early (entry_named old.tree n)) → (n : FileName) → since new n ≡ since old n
  same_since same n = rw (returns, late, same n) refl

  module _ (e : Entry) (changed : Changed name (Some e) old.tree new.tree) (same : e.since ≡ early (entry_named old.tree name)) where
    pub moves : (place : Place) → e.place ≡ place → Moved name place old new
    moves place is = record {
      there = ap place_in_entry changed.there ∙ ap Some is;
      others = λ n other. ap place_in_entry (changed.others n other);
      same_long = same_long;
      same_since = same_since (early_same name (Some e) old.tree new.tree changed same);
    }

    place_back : (p : Place) (c : Image) → PlaceLeaves (Some (removed p)) c → (c ≡ None) ⊎ PlaceLeaves (Some p) c
    place_back (Home f) c left = left
    place_back Out c left = inr left
    place_back (Gone f) c left = inr left
    place_back Missing c left = inr left

    place_keeps : (p : Place) (c : Image) → PlaceLeaves (Some p) c → PlaceLeaves (Some (removed p)) c
    place_keeps (Home f) c left = inr left
    place_keeps Out c left = left
    place_keeps (Gone f) c left = left
    place_keeps Missing c left = left

    none_removed : (p : Place) → place_stands (Some (removed p)) ≡ None
    none_removed (Home f) = refl
    none_removed Out = refl
    none_removed (Gone f) = refl
    none_removed Missing = refl

    pub removes : (was : Entry) → entry_named old.tree name ≡ Some was → e.place ≡ removed was.place → Removed name old new
    removes was stood is =
        let at : place_in_entry (entry_named new.tree name) ≡ Some (removed was.place) = ap place_in_entry changed.there ∙ ap Some is in
        record {
          gone = ap place_stands at ∙ none_removed was.place;
          back = λ c left. subst (λ (p : Option Place). (c ≡ None) ⊎ PlaceLeaves p c) (sym (ap place_in_entry stood)) (place_back was.place c (subst (λ (p : Option Place). PlaceLeaves p c) at left));
          keeps = λ c left. subst (λ (p : Option Place). PlaceLeaves p c) (sym at) (place_keeps was.place c (subst (λ (p : Option Place). PlaceLeaves p c) (ap place_in_entry stood) left));
          others = λ n other. ap place_in_entry (changed.others n other);
          same_long = same_long;
          same_since = same_since (early_same name (Some e) old.tree new.tree changed same);
        }

    still_there : (p : Place) → file_at p ≡ None → without_home p ≡ p
    still_there (Home f) none = cc
    still_there Out none = refl
    still_there (Gone f) none = refl
    still_there Missing none = refl

    same_by : (n : FileName) (was : Entry) → entry_named old.tree name ≡ Some was → e.place ≡ was.place → (n ≡ name) ⊎ (n ≢ name) → place_in_entry (entry_named new.tree n) ≡ place_in_entry (entry_named old.tree n)
    same_by n was stood is (inl here) = ap (λ (m : FileName). place_in_entry (entry_named new.tree m)) here ∙ ap place_in_entry changed.there ∙ ap Some is ∙ sym (ap place_in_entry stood) ∙ ap (λ (m : FileName). place_in_entry (entry_named old.tree m)) (sym here)
    same_by n was stood is (inr other) = ap place_in_entry (changed.others n other)

    -- without a file nothing changed
    pub stays : (was : Entry) → entry_named old.tree name ≡ Some was → e.place ≡ without_home was.place → file_at was.place ≡ None → Same old new
    stays was stood is none = record {
      all = λ n. same_by n was stood (is ∙ still_there was.place none) (same_or_other name n);
      same_long = same_long;
      same_since = same_since (early_same name (Some e) old.tree new.tree changed same);
    }

-- what comes back stays where an entry gets another place
pub back_same : (name : FileName) (old new : Tree) (e e' : Entry) → Changed name (Some e') old new → entry_named old name ≡ Some e → e'.before ≡ e.before → (n : FileName) → image_before (entry_named new n) ≡ image_before (entry_named old n)
back_same name old new e e' changed was same n =
    ⊎_elim
    (λ is. ap (λ (m : FileName). image_before (entry_named new m)) is ∙ ap image_before changed.there ∙ ap synced_before same ∙ sym (ap image_before was) ∙ ap (λ (m : FileName). image_before (entry_named old m)) (sym is))
    (λ other. ap image_before (changed.others n other))
    (same_or_other name n)

-- the place of a file that is there
pub home_at : (p : Place) (f : FileData) → file_at p ≡ Some f → p ≡ Home f
home_at (Home g) f is = cc
home_at Out f is = cc
home_at (Gone g) f is = cc
home_at Missing f is = cc

-- a file that is given back
pub puts_back : (name : FileName) (place : Place) (old new : Directory) (e : Entry) → Changed name (Some e) old.tree new.tree → e.place ≡ place → long old < long new
    → late_since new.late new.returns e.since name ≡ long new → ((n : FileName) (first : ℕ) → n ≢ name → late_since new.late new.returns first n ≡ late_since old.late old.returns first n) → Put name place old new
puts_back name place old new e changed is later here others = record {
  there = ap place_in_entry changed.there ∙ ap Some is;
  others = λ n other. ap place_in_entry (changed.others n other);
  later = later;
  put = ap (λ (k : ℕ). late_since new.late new.returns k name) (ap early changed.there) ∙ here;
  put_others = λ n other. ap (λ (k : ℕ). late_since new.late new.returns k n) (ap early (changed.others n other)) ∙ others n (early (entry_named old.tree n)) other;
}

-- an entry that was taken and put back otherwise
pub set_back : (name : FileName) (p e e' : Entry) (old mid new : Tree) (r s : Option Entry) → p.name ≡ name → r ≡ Some e → r ≡ entry_named old p.name → e'.name ≡ p.name → Changed p.name (option_map (λ _. p) r) old mid
    → s ≡ entry_named mid e'.name → Changed e'.name (option_map (λ _. e') s) mid new → Changed name (Some e') old new × (entry_named old name ≡ Some e)
set_back name p e e' old mid new r s is was stood same first found second =
    let back : e'.name ≡ name = same ∙ is in
    let mid_is : s ≡ Some p = found ∙ ap (entry_named mid) same ∙ first.there ∙ ap (option_map (λ _. p)) was in
    let set : Changed name (Some e') mid new = named e'.name name (Some e') mid new back (subst (λ (x : Option Entry). Changed e'.name (option_map (λ _. e') x) mid new) mid_is second) in
    (changed_twice p.name name (option_map (λ _. p) r) (Some e') old mid new is first set, ap (entry_named old) (sym is) ∙ sym stood ∙ was)

module _ (name : FileName) (old new : Directory) (returns : new.returns ≡ old.returns) (late : new.late ≡ old.late) (e e' : Entry) (changed : Changed name (Some e') old.tree new.tree) (was : entry_named old.tree name ≡ Some e) (is : e' ≡ record e { place = without_home e.place }) where
  same_early : e'.since ≡ early (entry_named old.tree name)
  same_early = ap (λ (x : Entry). x.since) is ∙ sym (ap early was)

  pub takes : (file : Option FileData) → file ≡ file_at e.place → IfSome file (λ f. (place_named old name ≡ Some (Home f)) × Moved name Out old new)
  takes None taken = tt
  takes (Some f) taken =
      let home : e.place ≡ Home f = home_at e.place f (sym taken) in
      (ap place_in_entry was ∙ ap Some home, moves name old new returns late e' changed same_early Out (ap (λ (x : Entry). x.place) is ∙ ap without_home home))

  pub leaves_all : (file : Option FileData) → file ≡ file_at e.place → IfNone file (Same old new)
  leaves_all None taken = stays name old new returns late e' changed same_early e was (ap (λ (x : Entry). x.place) is) (sym taken)
  leaves_all (Some f) taken = tt
