-- Batches are known by their bytes; and where a reader of one stops, none is spelled.
use Rattle.std.proofs.Common.{◌≡◌, ℕ, ◌<◌, ◌≤◌, List, ◌++◌, length, sym, ap, ◌∙◌, arith, subst}
use Rattle.std.specs.Prelude.{All}
use Rattle.std.specs.List.{flat_map}
use Rattle.std.proofs.lemmas.List.{length-append, append_assoc}
use Rattle.std.proofs.lemmas.List.Elements.{All-weaker}
use Rattle.wal.specs.Records.{batch_bytes, op_bytes, IsLoggedOp, IsLoggedBatch}
use Rattle.wal.specs.Heads.{batch_head_bytes, IsAllowedBatchHead, FitsBatchHead}
use Rattle.ts_key.specs.Reading.{SpellsNone}
use Rattle.wal.proofs.Fronts.{fronts_same, short_front, lists_same}
use Rattle.wal.proofs.Heads.{length-batch_head, batch_head_same}
use Rattle.wal.proofs.Operations.{op_same}
use Rattle.wal.specs.declared.head.BatchHead.{BatchHead}
use Rattle.wal.specs.declared.numbered.Numbered.{Numbered}
use Rattle.ts_key.specs.Batches.{IsBatch, IsStamped}
use Rattle.ts_key.specs.declared.batch.WriteOp.{WriteOp}

-- the head of a batch
abbrev pub batch_head_of : Numbered → BatchHead
batch_head_of numbered = record { first = numbered.first.0; count = length numbered.batch }

pub batch_head_short : (old : List ℕ) → length old < 10 → SpellsNone batch_head_bytes IsAllowedBatchHead old
batch_head_short old short =
    short_front batch_head_bytes IsAllowedBatchHead 10 old (λ head _. omega (arith, length-batch_head head)) short

pub batch_head_none : (front mid old : List ℕ) → length front ≡ 10 → old ≡ front ++ mid → ((head : BatchHead) → front ≡ batch_head_bytes head → ⊥) → SpellsNone batch_head_bytes IsAllowedBatchHead old
batch_head_none front mid old len whole none head rest allowed is =
    none head (fronts_same front (batch_head_bytes head) mid rest (len ∙ sym (length-batch_head head)) (sym whole ∙ is)).0

batch_head_fits : (head : BatchHead) → IsAllowedBatchHead head → FitsBatchHead head
batch_head_fits head allowed = record { first = omega (arith, allowed.last) }

pub batch_head_refused : (head : BatchHead) (front mid old : List ℕ) → FitsBatchHead head → front ≡ batch_head_bytes head → old ≡ front ++ mid → (IsAllowedBatchHead head → ⊥) → SpellsNone batch_head_bytes IsAllowedBatchHead old
batch_head_refused head front mid old fits spelled whole refused other rest allowed is =
    let same = batch_head_same head other mid rest fits (batch_head_fits other allowed) (ap (λ (xs : List ℕ). xs ++ mid) (sym spelled) ∙ sym whole ∙ is) in
    refused (subst IsAllowedBatchHead (sym same.0) allowed)

batch_head_allowed : (families : ℕ) (numbered : Numbered) → IsLoggedBatch families numbered → IsAllowedBatchHead (batch_head_of numbered)
batch_head_allowed families numbered logged = record {
  some = logged.some;
  within = logged.within;
  first = logged.first;
  last = logged.last;
}

batch_apart : (numbered : Numbered) (rest : List ℕ) → batch_bytes numbered ++ rest ≡ batch_head_bytes (batch_head_of numbered) ++ (flat_map op_bytes numbered.batch ++ rest)
batch_apart numbered rest = append_assoc (batch_head_bytes (batch_head_of numbered)) (flat_map op_bytes numbered.batch) rest

pub batch_without_head : (families : ℕ) (old : List ℕ) → SpellsNone batch_head_bytes IsAllowedBatchHead old → SpellsNone batch_bytes (IsLoggedBatch families) old
batch_without_head families old none numbered rest logged is =
    none (batch_head_of numbered) (flat_map op_bytes numbered.batch ++ rest) (batch_head_allowed families numbered logged) (is ∙ batch_apart numbered rest)

-- what stands behind a batch's head
behind_batch_head : (families : ℕ) (head : BatchHead) (mid old : List ℕ) → IsAllowedBatchHead head → old ≡ batch_head_bytes head ++ mid → (numbered : Numbered) (rest : List ℕ) → IsLoggedBatch families numbered → old ≡ batch_bytes numbered ++ rest → (head ≡ batch_head_of numbered) × (mid ≡ flat_map op_bytes numbered.batch ++ rest)
behind_batch_head families head mid old allowed whole numbered rest logged is =
    batch_head_same head (batch_head_of numbered) mid (flat_map op_bytes numbered.batch ++ rest) (batch_head_fits head allowed) (batch_head_fits (batch_head_of numbered) (batch_head_allowed families numbered logged)) (sym whole ∙ is ∙ batch_apart numbered rest)

pub batch_without_ops : (families : ℕ) (head : BatchHead) (mid old : List ℕ) → IsAllowedBatchHead head → old ≡ batch_head_bytes head ++ mid → SpellsNone (flat_map op_bytes) (λ (ops : List WriteOp). (length ops ≡ head.count) × All (IsLoggedOp families) ops) mid → SpellsNone batch_bytes (IsLoggedBatch families) old
batch_without_ops families head mid old allowed whole none numbered rest logged is =
    let same = behind_batch_head families head mid old allowed whole numbered rest logged is in
    none numbered.batch rest (sym (ap (λ (h : BatchHead). h.count) same.0), logged.ops) same.1

same_numbered : (a b : Numbered) → a.first.0 ≡ b.first.0 → a.batch ≡ b.batch → a ≡ b
same_numbered a b first batch =
    ap (λ (n : ℕ). let f : Numbered = record { first = record { 0 = n }; batch = a.batch } in f) first
    ∙ ap (λ (ops : List WriteOp). let f : Numbered = record { first = b.first; batch = ops } in f) batch

pub batch_same : (families : ℕ) → families ≤ 16 → (a b : Numbered) (r s : List ℕ) → IsLoggedBatch families a → IsLoggedBatch families b → batch_bytes a ++ r ≡ batch_bytes b ++ s → (a ≡ b) × (r ≡ s)
batch_same families few a b r s logged_a logged_b is =
    let heads = behind_batch_head families (batch_head_of a) (flat_map op_bytes a.batch ++ r) (batch_bytes a ++ r) (batch_head_allowed families a logged_a) (batch_apart a r) b s logged_b is in
    let ops = lists_same op_bytes (IsLoggedOp families) (op_same families few) a.batch b.batch r s logged_a.ops logged_b.ops (ap (λ (h : BatchHead). h.count) heads.0) heads.1 in
    (same_numbered a b (ap (λ (h : BatchHead). h.first) heads.0) ops.0, ops.1)

-- operations that may stand in a log, as many as a head says, are a batch
pub ops_are_batch : (families : ℕ) (head : BatchHead) (ops : List WriteOp) → IsAllowedBatchHead head → length ops ≡ head.count → All (IsLoggedOp families) ops → IsBatch ops
ops_are_batch families head ops allowed count logged = record {
  some = omega (arith, allowed.some);
  within = omega (arith, allowed.within);
  stamped = All-weaker (IsLoggedOp families) IsStamped (λ op is. is.stamp) ops logged;
}

-- every batch has bytes
pub batch_some : (numbered : Numbered) → 1 ≤ length (batch_bytes numbered)
batch_some numbered =
    omega (arith, length-append (batch_head_bytes (batch_head_of numbered)) (flat_map op_bytes numbered.batch), length-batch_head (batch_head_of numbered))
