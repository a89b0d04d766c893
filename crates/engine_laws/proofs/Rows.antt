-- Worked rows: two families, a write into both, and a flush of one of them, from a new store on, by the laws.
use Rattle.std.proofs.Common.{◌≡◌, ℕ, ◌<◌, ◌≤◌, false, List, [], ◌∷◌, Some, codes, refl, subst, inl, inr, arith}
use Rattle.std.specs.Prelude.{slice_get}
use Rattle.std.proofs.lemmas.List.Elements.{All-nil}
use Rattle.ts_key.specs.declared.batch.WriteOp.{WriteOp}
use Rattle.ts_key.specs.declared.numbers.Family.{Family}
use Rattle.ts_key.specs.declared.version.Form.TheVariants.{Persist}
use Rattle.ts_key.specs.declared.version.Op.TheVariants.{Put}
use Rattle.ts_key.specs.declared.version.Version.{Version}
use Rattle.wal.specs.declared.numbered.Numbered.{Numbered}
use Rattle.wal.specs.Records.{IsLoggedBatch, IsLoggedOp}
use Rattle.udt_model.specs.declared.line.FamilyHead.{FamilyHead}
use Rattle.udt_model.specs.declared.reply.Reply.TheVariants.{OkAt, Table}
use Rattle.udt_model.specs.State.{Flush, State}
use Rattle.udt_model.specs.Acts.Act.{flush_end, flush_start, write}
use Rattle.udt_model.specs.Steps.{after}
use Rattle.udt_model.specs.Reads.{read}
use Rattle.udt_model.specs.declared.reply.Stamp.TheVariants.{At}
use Rattle.udt_model.specs.declared.read.Answer.TheVariants.{Found}
use Rattle.udt_model.specs.declared.read.ModelRead.TheVariants.{Told}
use Rattle.udt_model.specs.Crashes.{Course, course_after, course_start, settled}
use Rattle.manifest_edit.specs.declared.edit.Edit.{Edit}
use Rattle.manifest.specs.Folds.{family_fold}
use Rattle.floor_laws.proofs.Members.{In-contains, contains_In, All-from}
use Rattle.engine_laws.specs.Logs.{versions_of}
use Rattle.engine_laws.specs.Standing.{Says, StandsFor, TableSays, family_said, fresh_says, new_state}
use Rattle.engine_laws.specs.Engine.{HoldsState, MayEdit, next_batch, with_batches, with_edit}
use Rattle.engine_laws.specs.Installs.{EndsFlush, LogsMayGo, flush_edit, roll_edit}
use Rattle.engine_laws.proofs.Acting.{act_holds, seal_holds}
use Rattle.engine_laws.proofs.Folding.{head_well}
use Rattle.engine_laws.proofs.Installing.{flush_may}
use Rattle.engine_laws.proofs.Opened.{new_stands, stands_holds}
use Rattle.engine_laws.proofs.Resting.{whole_stands}
use Rattle.engine_laws.proofs.Syncing.{sync_unasked, write_waits}

abbrev d : Family
d = record { 0 = 0 }

abbrev e : Family
e = record { 0 = 1 }

abbrev head : List ℕ → FamilyHead
head name = record { name = name; form = Persist; floor = record { 0 = 0 } }

abbrev heads : List FamilyHead
heads = head (codes "d") ∷ head (codes "e") ∷ []

-- `put d a 1 x`, `put e b 1 y`
abbrev ops : List WriteOp
ops = record { family = d; key = codes "a"; ts = record { 0 = 1 }; op = Put (codes "x") } ∷ record { family = e; key = codes "b"; ts = record { 0 = 1 }; op = Put (codes "y") } ∷ []

-- table 3 will hold the version of e
abbrev says_e : TableSays
says_e = record { family = e; form = Persist; collected_by = record { 0 = 0 }; versions = record { family = e; key = codes "b"; ts = record { 0 = 1 }; seq = record { 0 = 2 }; op = Put (codes "y") } ∷ [] }

-- ---- a new store

abbrev m0 : State
m0 = new_state heads

abbrev s0 : Says
s0 = fresh_says heads (λ n. says_e)

pub held0 : HoldsState m0 (course_start m0) s0 []
held0 = stands_holds m0 s0 (head_well heads) (All-nil (IsLoggedBatch 2)) (new_stands heads (λ n. says_e))

-- ---- the write waits

logged : IsLoggedBatch 2 (next_batch m0 ops)
logged = record {
  some = omega arith;
  within = omega arith;
  ops = All-from (IsLoggedOp 2) ops (λ o i. elim i [
    | inl q ↦ subst (IsLoggedOp 2) q (record { family = omega arith; stamp = omega arith; key = omega arith; value = omega arith })
    | inr j ↦ elim j [ inl q ↦ subst (IsLoggedOp 2) q (record { family = omega arith; stamp = omega arith; key = omega arith; value = omega arith }) | inr b ↦ absurd b ]
  ]);
  first = omega arith;
  last = omega arith;
}

abbrev m1 : State
m1 = after m0 1 (write ops false) (OkAt 2)

abbrev c1 : Course
c1 = course_after m0 1 (course_start m0) (write ops false) (OkAt 2)

abbrev batch : Numbered
batch = next_batch m0 ops

pub held1 : HoldsState m1 c1 s0 (batch ∷ [])
held1 = write_waits m0 (course_start m0) s0 [] 1 ops 2 held0 (record { running = refl; is = inl refl }) logged refl

-- ---- the seal of e: the write is on the disk, and log 2 is live

abbrev m2 : State
m2 = after m1 2 (flush_start e) (OkAt 2)

abbrev c2 : Course
c2 = course_after m1 2 c1 (flush_start e) (OkAt 2)

abbrev s2 : Says
s2 = with_edit (with_batches s0 (batch ∷ [])) (roll_edit m1.last 2)

pub held2 : HoldsState m2 c2 s2 []
held2 = seal_holds m1 c1 s0 (batch ∷ []) 2 e 2 held1 (record { running = refl; is = inl refl }) (omega arith) (omega arith) refl

pub logs2 : s2.fold.logs ≡ 1 ∷ 2 ∷ []
logs2 = refl

-- ---- the flush of e into table 3

abbrev job : Flush
job = record { start = 2; family = e; through = record { 0 = 2 }; floor = record { 0 = 0 }; seqs = [] }

abbrev m3 : State
m3 = after m2 3 (flush_end e 2) (Table 3 1 (record { 0 = 0 }))

abbrev s2b : Says
s2b = with_batches s2 []

held2b : HoldsState m2 c2 s2b []
held2b = sync_unasked m2 c2 s2 [] held2

ends : EndsFlush m2 s2b job 2 3 1 (record { 0 = 0 }) (family_fold (head (codes "e"))) 4
ends = record {
  runs = refl;
  told = record { running = refl; is = inl (refl, (refl, refl, refl)) };
  there = refl;
  holds = refl;
  fits = record { family = refl; form = refl; collected = omega arith };
  file = record { more = omega arith; most = omega arith; used = All-nil (λ n. n < 4) };
  below = omega arith;
}

-- no log is dropped
abbrev flushing : Edit
flushing = flush_edit m2.last 4 [] e (record { 0 = 0 }) (record { 0 = 2 }) 3

flush_may_be_made : MayEdit m2 s2b flushing m3
flush_may_be_made =
    flush_may m2 c2 s2b 3 2 3 1 4 (record { 0 = 0 }) job (family_fold (head (codes "e"))) held2b ends.runs ends.told ends.there ends.holds ends.fits ends.file ends.below
    [] (1 ∷ 2 ∷ []) (λ n. 0) refl (omega arith) (λ n v i j. absurd (contains_In [] n i)) (λ n i f j q. absurd (contains_In [] n j))

abbrev s3 : Says
s3 = with_edit s2b flushing

pub held3 : HoldsState m3 (course_after m2 3 c2 (flush_end e 2) (Table 3 1 (record { 0 = 0 }))) s3 []
held3 = act_holds m2 c2 s2 [] 3 (flush_end e 2) (Table 3 1 (record { 0 = 0 })) flushing held2 ends.told refl refl flush_may_be_made

-- e has table 3, and both logs are live
pub tables3 : slice_get m3.families 1 ≡ Some (record { head = head (codes "e"); through = record { 0 = 2 }; tables = record { number = 3; level = 0; versions = says_e.versions } ∷ [] })
tables3 = refl

pub logs3 : s3.fold.logs ≡ 1 ∷ 2 ∷ []
logs3 = refl

-- log 1 may not go: family d has its version there, and nowhere else
abbrev version_d : Version
version_d = record { family = d; key = codes "a"; ts = record { 0 = 1 }; seq = record { 0 = 1 }; op = Put (codes "x") }

pub log_1_stays : LogsMayGo s2b m3 (1 ∷ []) → ⊥
log_1_stays g =
    let covered : 1 ≤ g.upto 1 = g.covers 1 version_d (In-contains (1 ∷ []) 1 (inl refl)) (In-contains (versions_of (s2b.logs 1)) version_d (inl refl)) in
    elim (g.drops 1 d (family_said s2b.tables (family_fold (head (codes "d")))) (In-contains (1 ∷ []) 1 (inl refl)) refl) [
      | inl low ↦ omega (arith, low, covered)
      | inr none ↦ cc
    ]

-- what is opened of these files has both versions: the one by log 1, the other by table 3
pub both_there : StandsFor s3 (settled m3)
both_there = whole_stands m3 (course_after m2 3 c2 (flush_end e 2) (Table 3 1 (record { 0 = 0 }))) s3 held3

pub d_is_found : read m3.versions (record { 0 = 0 }) d (codes "a") (record { 0 = 5 }) m3.last ≡ Told (Found (codes "x") (At (record { 0 = 1 })))
d_is_found = refl
