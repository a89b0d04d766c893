-- Faults of the parts of an opening as faults of the whole.
use Rattle.std.proofs.Common.{◌≡◌, inl, inr, ⊎_elim, ℕ, ◌<◌, List, length, take, get_or, map, Some, None, refl, sym, subst, arith}
use Rattle.udt_disk.specs.Crash.{Image}
use Rattle.udt_disk.specs.Joint.{Folder}
use Rattle.udt_disk.specs.declared.name.FileName.TheVariants.{Table}
use Rattle.manifest_fold.specs.declared.fold.FamilyFold.{FamilyFold}
use Rattle.manifest_fold.specs.declared.fold.Folded.{Folded}
use Rattle.block_table.specs.Contents.{Contents}
use Rattle.block_table.specs.Held.{Held}
use Rattle.block_table.specs.Tables.{IsTable}
use Rattle.engine_laws.specs.Manifests.{IsLive}
use Rattle.recovery.specs.Fault.{IsStop}
use Rattle.recovery.specs.Meeting.{IsFirstFault}
use Rattle.recovery.specs.Places.{AreLivePlaces, HoldsTable, IsFitting, IsTableIn, RefusesPlace, RefusesReading, RefusesTables, number_at, table_place_of}
use Rattle.recovery.specs.declared.fault.OpenFault.{OpenFault}
use Rattle.recovery.specs.declared.fault.OpenFault.TheVariants.{NoStore, BadManifest, MissingTable, BadTable, BadLog, DiskFault, NoMemory}
use Rattle.recovery.specs.declared.live.TablePlace.{TablePlace}
use Rattle.recovery.specs.declared.tables.Opened.{Opened}
use Rattle.recovery.proofs.Placed.{AreInOrderAt, EachOpened, below_in_order, clash_refused, none_clash, not_in_order}

-- ---- stops

pub stop_reading : (image : Image) (n : ℕ) (e : OpenFault) → IsStop e → RefusesReading image n e
stop_reading image n NoStore stop = stop
stop_reading image n (BadManifest at) stop = stop
stop_reading image n (MissingTable k) stop = absurd stop
stop_reading image n (BadTable k) stop = absurd stop
stop_reading image n (BadLog k at) stop = stop
stop_reading image n DiskFault stop = tt
stop_reading image n NoMemory stop = tt

pub missing_reading : (image : Image) (n : ℕ) → None ≡ image → RefusesReading image n (MissingTable n)
missing_reading image n is = (refl, sym is)

pub bad_reading : (image : Image) (bytes : List ℕ) (n : ℕ) → Some bytes ≡ image → ((t : Contents) → IsTable t bytes → ⊥) → RefusesReading image n (BadTable n)
bad_reading None bytes n is none = absurd cc
bad_reading (Some others) bytes n is none = let same : others ≡ bytes = cc in (refl, (λ missing. cc), λ t holds. none t (subst (IsTable t) same holds))

-- ---- one table

pub reading_place : (folder : Folder) (f : FamilyFold) (p : TablePlace) (e : OpenFault) → RefusesReading (folder (Table (number_at p))) (number_at p) e → RefusesPlace folder f p e
reading_place folder f p NoStore refused = refused
reading_place folder f p (BadManifest at) refused = refused
reading_place folder f p (MissingTable k) refused = (refused.0, subst (λ (n : ℕ). folder (Table n) ≡ None) (sym refused.0) refused.1)
reading_place folder f p (BadTable k) refused = (
  refused.0,
  (λ missing. refused.1 (subst (λ (n : ℕ). folder (Table n) ≡ None) refused.0 missing)),
  λ t holds fitting. refused.2 t (subst (λ (n : ℕ). HoldsTable (folder (Table n)) t) refused.0 holds),
)
reading_place folder f p (BadLog k at) refused = refused
reading_place folder f p DiskFault refused = tt
reading_place folder f p NoMemory refused = tt

-- a table that was read is the only one of its file
pub refused_here : (image : Image) (held : Held) (f : FamilyFold) (p : TablePlace) → IsTableIn image held → (IsFitting p.family f held.contents → ⊥) → (t : Contents) → HoldsTable image t → IsFitting p.family f t → ⊥
refused_here None held f p stood refused t holds fitting = absurd holds
refused_here (Some bytes) held f p stood refused t holds fitting =
    let same : bytes ≡ held.image = (let is = stood.stood in cc) in
    let one : t ≡ held.contents = stood.table.only t (subst (IsTable t) same holds) in
    refused (subst (IsFitting p.family f) one fitting)

pub there_from : (image : Image) (held : Held) → IsTableIn image held → image ≡ None → ⊥
there_from image held stood missing = let is = stood.stood in cc

-- ---- all tables

pub place_tables : (folder : Folder) (fold : Folded) (places : List TablePlace) (live : AreLivePlaces fold places) (i : ℕ) (within : i < length places) (p : TablePlace) (at : p ≡ get_or places i p)
    (opened : List Opened) (are : map table_place_of opened ≡ take i places) (each : EachOpened folder fold opened) (order : AreInOrderAt folder fold (take i places)) (f : FamilyFold) → IsLive fold p.family f p.table
    → (e : OpenFault) → RefusesPlace folder f p e → RefusesTables fold folder e
place_tables folder fold places live i within p at opened are each order f islive NoStore refused = refused
place_tables folder fold places live i within p at opened are each order f islive (BadManifest offset) refused = refused
place_tables folder fold places live i within p at opened are each order f islive (MissingTable k) refused = record {
  family = p.family;
  f = f;
  table = p.table;
  number = sym refused.0;
  reached = record { live = islive; below = below_in_order folder fold places live i within p at opened are each order };
  missing = refused.1;
}
place_tables folder fold places live i within p at opened are each order f islive (BadTable k) refused = record {
  family = p.family;
  f = f;
  table = p.table;
  number = sym refused.0;
  reached = record { live = islive; below = below_in_order folder fold places live i within p at opened are each order };
  there = refused.1;
  bad = not_in_order folder p.family f p.table k refused.0 refused.2;
}
place_tables folder fold places live i within p at opened are each order f islive (BadLog k offset) refused = refused
place_tables folder fold places live i within p at opened are each order f islive DiskFault refused = tt
place_tables folder fold places live i within p at opened are each order f islive NoMemory refused = tt

pub stop_tables : (folder : Folder) (fold : Folded) (e : OpenFault) → IsStop e → RefusesTables fold folder e
stop_tables folder fold NoStore stop = stop
stop_tables folder fold (BadManifest at) stop = stop
stop_tables folder fold (MissingTable k) stop = absurd stop
stop_tables folder fold (BadTable k) stop = absurd stop
stop_tables folder fold (BadLog k at) stop = stop
stop_tables folder fold DiskFault stop = tt
stop_tables folder fold NoMemory stop = tt

-- what is told where the table at this place isn't opened
pub first_tables : (folder : Folder) (fold : Folded) (places : List TablePlace) (live : AreLivePlaces fold places) (i : ℕ) (within : i < length places) (p : TablePlace) (at : p ≡ get_or places i p)
    (opened : List Opened) (are : map table_place_of opened ≡ take i places) (each : EachOpened folder fold opened) (f : FamilyFold) → IsLive fold p.family f p.table
    → (fault e : OpenFault) → RefusesPlace folder f p fault → IsFirstFault (length fold.families) opened fault e → RefusesTables fold folder e
first_tables folder fold places live i within p at opened are each f islive fault e refused (inl itself) =
    subst (RefusesTables fold folder) (sym itself.0) (⊎_elim (λ stop. stop_tables folder fold fault stop)
    (λ none. place_tables folder fold places live i within p at opened are each (none_clash folder fold places live i (omega (arith, within)) opened are each none) f islive fault refused) itself.1)
first_tables folder fold places live i within p at opened are each f islive fault e refused (inr (inl earlier)) =
    subst (RefusesTables fold folder) (sym earlier.1) (clash_refused folder fold places live i (omega (arith, within)) opened are each earlier.0 earlier.2)
first_tables folder fold places live i within p at opened are each f islive fault e refused (inr (inr memory)) = subst (RefusesTables fold folder) (sym memory) tt
