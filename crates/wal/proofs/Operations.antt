-- Operations, and their values, are known by their bytes; and where a reader of one stops, none is spelled.
use Rattle.std.proofs.Common.{◌≡◌, ◌≢◌, ℕ, ◌^◌, ◌<◌, ◌≤◌, List, ◌++◌, length, refl, sym, ap, ◌∙◌, arith, subst}
use Rattle.std.proofs.lemmas.List.{length-append, append_assoc}
use Rattle.ts_key.specs.Numbers.{number_bytes}
use Rattle.wal.specs.Records.{kind_code, value_bytes, op_bytes, IsShortValue, IsLoggedOp}
use Rattle.wal.specs.Heads.{op_head_bytes, IsAllowedOpHead, FitsOpHead}
use Rattle.ts_key.specs.Reading.{SpellsNone}
use Rattle.ts_key.proofs.NumberBytes.{number_bytes-unique, length-number_bytes}
use Rattle.wal.proofs.Fronts.{fronts_same, short_front}
use Rattle.wal.proofs.Heads.{length-op_head, op_head_same}
use Rattle.wal.specs.declared.head.OpHead.{OpHead}
use Rattle.ts_key.specs.declared.batch.WriteOp.{WriteOp}
use Rattle.ts_key.specs.declared.version.Op.{Op}
use Rattle.ts_key.specs.declared.version.Op.TheVariants.{Put, Del}

-- a value's length and bytes
abbrev pub long_value : List ℕ → List ℕ
long_value value = number_bytes 4 (length value) ++ value

abbrev pub IsValue : List ℕ → Type 0
IsValue value = length value ≤ 65536

-- a number of four bytes, and this value behind it
value_behind : (n : ℕ) (mid value rest : List ℕ) → n < 2 ^ 32 → length value ≤ 65536 → number_bytes 4 n ++ mid ≡ long_value value ++ rest → (n ≡ length value) × (mid ≡ value ++ rest)
value_behind n mid value rest fits short is =
    number_bytes-unique 4 n (length value) mid (value ++ rest) (omega arith) (omega arith) (is ∙ append_assoc (number_bytes 4 (length value)) value rest)

pub value_short : (old : List ℕ) → length old < 4 → SpellsNone long_value IsValue old
value_short old short =
    short_front long_value IsValue 4 old (λ value _. omega (arith, length-append (number_bytes 4 (length value)) value, length-number_bytes 4 (length value))) short

pub value_too_long : (n : ℕ) (front mid old : List ℕ) → front ≡ number_bytes 4 n → old ≡ front ++ mid → n < 2 ^ 32 → 65536 < n → SpellsNone long_value IsValue old
value_too_long n front mid old number whole fits long value rest short is =
    let same = value_behind n mid value rest fits short (ap (λ (xs : List ℕ). xs ++ mid) (sym number) ∙ sym whole ∙ is) in
    omega (arith, same.0)

pub value_cut : (n : ℕ) (front mid old : List ℕ) → front ≡ number_bytes 4 n → old ≡ front ++ mid → n < 2 ^ 32 → length mid < n → SpellsNone long_value IsValue old
value_cut n front mid old number whole fits cut value rest short is =
    let same = value_behind n mid value rest fits short (ap (λ (xs : List ℕ). xs ++ mid) (sym number) ∙ sym whole ∙ is) in
    omega (arith, same.0, ap length same.1, length-append value rest)

pub key_short : (n : ℕ) (old : List ℕ) → length old < n → SpellsNone (λ (key : List ℕ). key) (λ (key : List ℕ). length key ≡ n) old
key_short n old short = short_front (λ (key : List ℕ). key) (λ (key : List ℕ). length key ≡ n) n old (λ key len. omega arith) short

-- a put's value
pub change_none : (kind : ℕ) (old : List ℕ) → kind ≢ 0 → SpellsNone long_value IsValue old → SpellsNone value_bytes (λ (op : Op). (kind_code op ≡ kind) × IsShortValue op) old
change_none kind old put none (Put value) rest allowed is = none value rest allowed.1 is
change_none kind old put none Del rest allowed is = put (sym allowed.0)

-- the head of an operation
abbrev pub op_head_of : WriteOp → OpHead
op_head_of op = record { family = op.family.0; kind = kind_code op.op; ts = op.ts.0; key_len = length op.key }

pub op_head_short : (families : ℕ) (old : List ℕ) → length old < 15 → SpellsNone op_head_bytes (IsAllowedOpHead families) old
op_head_short families old short =
    short_front op_head_bytes (IsAllowedOpHead families) 15 old (λ head _. omega (arith, length-op_head head)) short

op_head_fits : (families : ℕ) → families ≤ 16 → (head : OpHead) → IsAllowedOpHead families head → FitsOpHead head
op_head_fits families few head allowed = record {
  family = omega (arith, allowed.family);
  stamp = omega (arith, allowed.stamp);
  key = omega (arith, allowed.key);
}

pub op_head_refused : (families : ℕ) (head : OpHead) (front mid old : List ℕ) → families ≤ 16 → FitsOpHead head → front ≡ op_head_bytes head → old ≡ front ++ mid → (IsAllowedOpHead families head → ⊥) → SpellsNone op_head_bytes (IsAllowedOpHead families) old
op_head_refused families head front mid old few fits spelled whole refused other rest allowed is =
    let same = op_head_same head other mid rest fits (op_head_fits families few other allowed) (ap (λ (xs : List ℕ). xs ++ mid) (sym spelled) ∙ sym whole ∙ is) in
    refused (subst (IsAllowedOpHead families) (sym same.0) allowed)

op_head_allowed : (families : ℕ) (op : WriteOp) → IsLoggedOp families op → IsAllowedOpHead families (op_head_of op)
op_head_allowed families op logged = record {
  family = logged.family;
  kind = kind_small op.op;
  stamp = logged.stamp;
  key = logged.key;
}
  where
    kind_small : (op : Op) → kind_code op ≤ 1
    kind_small (Put value) = omega arith
    kind_small Del = omega arith

-- the bytes of an operation, and others, from its head on
op_apart : (op : WriteOp) (rest : List ℕ) → op_bytes op ++ rest ≡ op_head_bytes (op_head_of op) ++ (op.key ++ (value_bytes op.op ++ rest))
op_apart op rest =
    append_assoc (op_head_bytes (op_head_of op)) (op.key ++ value_bytes op.op) rest ∙ ap (λ (xs : List ℕ). op_head_bytes (op_head_of op) ++ xs) (append_assoc op.key (value_bytes op.op) rest)

pub op_without_head : (families : ℕ) (old : List ℕ) → SpellsNone op_head_bytes (IsAllowedOpHead families) old → SpellsNone op_bytes (IsLoggedOp families) old
op_without_head families old none op rest logged is =
    none (op_head_of op) (op.key ++ (value_bytes op.op ++ rest)) (op_head_allowed families op logged) (is ∙ op_apart op rest)

-- what stands behind an operation's head
behind_op_head : (families : ℕ) (head : OpHead) (mid old : List ℕ) → families ≤ 16 → IsAllowedOpHead families head → old ≡ op_head_bytes head ++ mid → (op : WriteOp) (rest : List ℕ) → IsLoggedOp families op → old ≡ op_bytes op ++ rest → (head ≡ op_head_of op) × (mid ≡ op.key ++ (value_bytes op.op ++ rest))
behind_op_head families head mid old few allowed whole op rest logged is =
    op_head_same head (op_head_of op) mid (op.key ++ (value_bytes op.op ++ rest)) (op_head_fits families few head allowed) (op_head_fits families few (op_head_of op) (op_head_allowed families op logged)) (sym whole ∙ is ∙ op_apart op rest)

pub op_without_key : (families : ℕ) (head : OpHead) (mid old : List ℕ) → families ≤ 16 → IsAllowedOpHead families head → old ≡ op_head_bytes head ++ mid → SpellsNone (λ (key : List ℕ). key) (λ (key : List ℕ). length key ≡ head.key_len) mid → SpellsNone op_bytes (IsLoggedOp families) old
op_without_key families head mid old few allowed whole none op rest logged is =
    let same = behind_op_head families head mid old few allowed whole op rest logged is in
    none op.key (value_bytes op.op ++ rest) (sym (ap (λ (h : OpHead). h.key_len) same.0)) same.1

pub op_without_value : (families : ℕ) (head : OpHead) (key mid behind old : List ℕ) → families ≤ 16 → IsAllowedOpHead families head → old ≡ op_head_bytes head ++ mid → length key ≡ head.key_len → mid ≡ key ++ behind → SpellsNone value_bytes (λ (op : Op). (kind_code op ≡ head.kind) × IsShortValue op) behind → SpellsNone op_bytes (IsLoggedOp families) old
op_without_value families head key mid behind old few allowed whole len keyed none op rest logged is =
    let same = behind_op_head families head mid old few allowed whole op rest logged is in
    let parts = fronts_same key op.key behind (value_bytes op.op ++ rest) (len ∙ ap (λ (h : OpHead). h.key_len) same.0) (sym keyed ∙ same.1) in
    none op.op rest (sym (ap (λ (h : OpHead). h.kind) same.0), logged.value) parts.1

-- what an operation does is known by its kind and its bytes
change_same : (a b : Op) (r s : List ℕ) → IsShortValue a → IsShortValue b → kind_code a ≡ kind_code b → value_bytes a ++ r ≡ value_bytes b ++ s → (a ≡ b) × (r ≡ s)
change_same (Put a) (Put b) r s short_a short_b kind is =
    let lens = value_behind (length a) (a ++ r) b s (omega arith) short_b (sym (append_assoc (number_bytes 4 (length a)) a r) ∙ is) in
    let same = fronts_same a b r s lens.0 lens.1 in
    (ap Put same.0, same.1)
change_same (Put a) Del r s short_a short_b kind is = absurd (omega arith)
change_same Del (Put b) r s short_a short_b kind is = absurd (omega arith)
change_same Del Del r s short_a short_b kind is = (refl, is)

same_op : (a b : WriteOp) → a.family.0 ≡ b.family.0 → a.key ≡ b.key → a.ts.0 ≡ b.ts.0 → a.op ≡ b.op → a ≡ b
same_op a b family key ts op =
    ap (λ (n : ℕ). let f : WriteOp = record { family = record { 0 = n }; key = a.key; ts = a.ts; op = a.op } in f) family
    ∙ ap (λ (k : List ℕ). let f : WriteOp = record { family = b.family; key = k; ts = a.ts; op = a.op } in f) key
    ∙ ap (λ (n : ℕ). let f : WriteOp = record { family = b.family; key = b.key; ts = record { 0 = n }; op = a.op } in f) ts
    ∙ ap (λ (o : Op). let f : WriteOp = record { family = b.family; key = b.key; ts = b.ts; op = o } in f) op

pub op_same : (families : ℕ) → families ≤ 16 → (a b : WriteOp) (r s : List ℕ) → IsLoggedOp families a → IsLoggedOp families b → op_bytes a ++ r ≡ op_bytes b ++ s → (a ≡ b) × (r ≡ s)
op_same families few a b r s logged_a logged_b is =
    let heads = behind_op_head families (op_head_of a) (a.key ++ (value_bytes a.op ++ r)) (op_bytes a ++ r) few (op_head_allowed families a logged_a) (op_apart a r) b s logged_b is in
    let keys = fronts_same a.key b.key (value_bytes a.op ++ r) (value_bytes b.op ++ s) (ap (λ (h : OpHead). h.key_len) heads.0) heads.1 in
    let ops = change_same a.op b.op r s logged_a.value logged_b.value (ap (λ (h : OpHead). h.kind) heads.0) keys.1 in
    (same_op a b (ap (λ (h : OpHead). h.family) heads.0) keys.0 (ap (λ (h : OpHead). h.ts) heads.0) ops.0, ops.1)
