-- The faults of writes and raises: none is a want of files.
use Rattle.std.proofs.Common.{◌≡◌, ℕ, ◌+◌, Bool, false, true, List, [], ◌∷◌, ◌++◌, length, Option, Some, None, refl, sym, ap, ◌∙◌, inl, inr}
use Rattle.std.specs.Option.{option_or}
use Rattle.std.specs.Prelude.{nat_lt, slice_get}
use Rattle.std.proofs.lemmas.Bool.{cases_Bool, false≢true}
use Rattle.ts_key.specs.declared.batch.WriteOp.{WriteOp}
use Rattle.ts_key.specs.declared.limits.TheConstants.{SEQUENCE_LIMIT}
use Rattle.ts_key.specs.declared.numbers.Seq.{Seq}
use Rattle.ts_key.specs.declared.numbers.Ts.{Ts}
use Rattle.ts_key.specs.Visible.{newest_ts}
use Rattle.memtable.specs.Memtables.{greater}
use Rattle.super_version.specs.Contents.{items_of_family}
use Rattle.super_version.specs.declared.family.FamilyState.{FamilyState}
use Rattle.super_version.specs.declared.version.SuperVersion.{SuperVersion}
use Rattle.store_engine.specs.Admission.{as_refusal, fell_fault, full_fault, latest_at, op_fault, ops_fault, raise_fault, unknown_fault, unknown_in, write_fault}
use Rattle.store_engine.specs.declared.fault.EngineFault.{EngineFault}
use Rattle.store_engine.specs.declared.fault.EngineFault.TheVariants as faults

-- a refusal tells that
abbrev tells_files : Option EngineFault → Bool
tells_files (Some (faults.FilesFull n)) = true
tells_files o = false

or_files : (a b : Option EngineFault) → tells_files a ≡ false → tells_files b ≡ false → tells_files (option_or a b) ≡ false
or_files None b x y = y
or_files (Some a) b x y = x

unknown_files : (families : List FamilyState) (os : List WriteOp) → tells_files (unknown_in families os) ≡ false
unknown_files families [] = refl
unknown_files families (o ∷ os) = or_files (unknown_fault (slice_get families o.family.0)) (unknown_in families os) (one (slice_get families o.family.0)) (unknown_files families os)
  where
    one : (o : Option FamilyState) → tells_files (unknown_fault o) ≡ false
    one None = refl
    one (Some g) = refl

fell_files : (k : ℕ) (ts : Ts) (o : Option ℕ) → tells_files (fell_fault k ts o) ≡ false
fell_files k ts None = refl
fell_files k ts (Some n) = elim (cases_Bool (nat_lt ts.0 n)) [ inl y ↦ rw y refl | inr y ↦ rw y refl ]

op_files : (o : Option FamilyState) (before : List WriteOp) (k : ℕ) (op : WriteOp) → tells_files (op_fault o before k op) ≡ false
op_files None before k op = refl
op_files (Some g) before k op = elim (cases_Bool (nat_lt op.ts.0 g.floor.0)) [
  | inl y ↦ rw y refl
  | inr y ↦ let fell = fell_files k op.ts (greater (newest_ts (items_of_family g) op.key) (latest_at op.family op.key before)) in rw y fell
]

ops_files : (families : List FamilyState) (before : List WriteOp) (k : ℕ) (os : List WriteOp) → tells_files (ops_fault families before k os) ≡ false
ops_files families before k [] = refl
ops_files families before k (o ∷ os) = or_files (op_fault (slice_get families o.family.0) before k o) (ops_fault families (before ++ o ∷ []) (k + 1) os) (op_files (slice_get families o.family.0) before k o) (ops_files families (before ++ o ∷ []) (k + 1) os)

full_files : (last : Seq) (count : ℕ) → tells_files (full_fault last count) ≡ false
full_files last count = elim (cases_Bool (nat_lt SEQUENCE_LIMIT (last.0 + count))) [ inl y ↦ rw y refl | inr y ↦ rw y refl ]

files_refused : (fault : EngineFault) (o : Option EngineFault) (n : ℕ) → tells_files o ≡ false → as_refusal fault ≡ o → fault ≡ faults.FilesFull n → ⊥
files_refused fault o n none is e = false≢true (sym none ∙ (ap tells_files (sym is) ∙ ap (λ (x : EngineFault). tells_files (as_refusal x)) e))

pub write_files : (now : SuperVersion) (ops : List WriteOp) (fault : EngineFault) (n : ℕ) → as_refusal fault ≡ write_fault now ops → fault ≡ faults.FilesFull n → ⊥
write_files now ops fault n is = files_refused fault (write_fault now ops) n
    (or_files (unknown_in now.families ops) (option_or (ops_fault now.families [] 1 ops) (full_fault now.last (length ops))) (unknown_files now.families ops)
    (or_files (ops_fault now.families [] 1 ops) (full_fault now.last (length ops)) (ops_files now.families [] 1 ops) (full_files now.last (length ops)))) is

raise_none : (o : Option FamilyState) (floor : Ts) → tells_files (raise_fault o floor) ≡ false
raise_none None floor = refl
raise_none (Some g) floor = elim (cases_Bool (nat_lt floor.0 g.floor.0)) [ inl y ↦ rw y refl | inr y ↦ rw y refl ]

pub raise_files : (o : Option FamilyState) (floor : Ts) (fault : EngineFault) (n : ℕ) → as_refusal fault ≡ raise_fault o floor → fault ≡ faults.FilesFull n → ⊥
raise_files o floor fault n is = files_refused fault (raise_fault o floor) n (raise_none o floor) is
