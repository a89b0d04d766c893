-- What a version has in common with the manifest, whether or not the disk tells what it holds.
use Rattle.std.proofs.Common.{◌≡◌, ℕ, ◌+◌, ◌-◌, ◌≤◌, List, max, Option, Some, sym, ap, subst, arith}
use Rattle.ts_key.specs.declared.limits.TheConstants.{SEQUENCE_LIMIT}
use Rattle.ts_key.specs.declared.numbers.Seq.{Seq}
use Rattle.ts_key.specs.declared.version.Version.{Version}
use Rattle.manifest_fold.specs.declared.fold.Folded.{Folded}
use Rattle.super_version.specs.declared.version.SuperVersion.{SuperVersion}
use Rattle.recovery.specs.Replayed.{IsNextWithin}
use Rattle.recovery.specs.Versions.{FitsFold, ShowsVersion}
use Rattle.recovery.specs.declared.tables.Opened.{Opened}

pub fits_from : (fold : Folded) (opened : List Opened) (w : List Version) (last : Seq) (version : SuperVersion) → ShowsVersion fold opened w last version → fold.last.0 ≤ last.0 → last.0 ≤ SEQUENCE_LIMIT → FitsFold fold version
fits_from fold opened w last version shows low high =
    let is : version.last.0 ≡ last.0 = ap (λ (s : Seq). s.0) shows.sequence in
    record {
      last = subst (λ (n : ℕ). fold.last.0 ≤ n) (sym is) low;
      within = subst (λ (n : ℕ). n ≤ SEQUENCE_LIMIT) (sym is) high;
      all = shows.families.all;
      each = λ i f state there here. let e = shows.families.each i f state there here in record { form = e.form; floor = e.floor; through = e.through };
    }

-- where the sequence that comes next is within, so is the last one
pub last_within : (last n : ℕ) (next : Option ℕ) → next ≡ Some n → IsNextWithin next → last ≤ SEQUENCE_LIMIT → max last (n - 1) ≤ SEQUENCE_LIMIT
last_within last n next is within low =
    let w : n ≤ SEQUENCE_LIMIT + 1 = subst IsNextWithin is within in
    omega (arith, w, low)
