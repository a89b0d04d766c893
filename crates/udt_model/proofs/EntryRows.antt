-- Entries of the threads' history: which count as steps, and which counts go with a fault.
use Rattle.std.proofs.Common.{arith, ◌≡◌, ◌-◌, ◌^◌, true, false, [], ◌∷◌, codes, None, refl, inl, inr}
use Rattle.ts_key.specs.declared.version.Form.TheVariants.{Persist}
use Rattle.ts_key.specs.declared.version.Op.TheVariants as ops
use Rattle.ts_key.specs.declared.version.Version.{Version}
use Rattle.udt_model.specs.declared.reply.Reply.TheVariants as replies
use Rattle.udt_model.specs.State.{State, unflushed}
use Rattle.udt_model.specs.Acts.{Act}
use Rattle.udt_model.specs.Entries.{Counts, HasRisen, IsEntry, is_start_of}
use Rattle.udt_model.specs.Entries.Entry.{says, works}
use Rattle.udt_model.proofs.Samples.{head}

-- a count that stands at its end counts as risen, and any other one that stands doesn't
pub at_the_end : HasRisen replies.Fault (2 ^ 64 - 1) (2 ^ 64 - 1)
at_the_end = omega arith

pub not_standing : HasRisen replies.Fault 5 5 → ⊥
not_standing h = omega (arith, h)

abbrev one_snapshot : State
one_snapshot = record (unflushed (head (codes "d") Persist 0 ∷ []) [] (record { 0 = 0 }) None) { snaps = record { event = 1; seq = record { 0 = 0 } } ∷ [] }

abbrev counts : Counts
counts = record { faults = 0; files = 2 }

-- a view is given up without an entry
pub no_unpin : IsEntry one_snapshot counts (says Act.unpin replies.Done) → ⊥
no_unpin h = grind (arith)

pub released : IsEntry one_snapshot counts (says (Act.release 1) replies.Done)
released = (refl, record { running = refl; is = inl refl })

-- no snapshot was registered by this event
pub not_registered : IsEntry one_snapshot counts (says (Act.release 2) replies.Done) → ⊥
not_registered h = grind (arith)

-- a release stands with its snapshot, and with nothing else of that number
pub with_snapshot : is_start_of (Act.release 1) (says Act.make_snapshot (replies.OkAt 0)) ≡ true
with_snapshot = refl

pub not_with_view : is_start_of (Act.release 1) (says Act.pin replies.Done) ≡ false
not_with_view = refl

-- ---- files

abbrev a_put : Version
a_put = record { family = record { 0 = 0 }; key = codes "a"; ts = record { 0 = 5 }; seq = record { 0 = 1 }; op = ops.Put (codes "v") }

abbrev unflushed_one : State
unflushed_one = unflushed (head (codes "d") Persist 0 ∷ []) (a_put ∷ []) (record { 0 = 1 }) None

abbrev no_file_left : Counts
no_file_left = record { faults = 0; files = 2 ^ 63 }

abbrev flush : Act
flush = Act.flush_start (record { 0 = 0 })

-- where a version wants a file and none is left, that is told
pub told_full : IsEntry unflushed_one no_file_left (works flush (replies.Files (2 ^ 63)) no_file_left)
told_full = record {
  takes = refl;
  legal = record { running = refl; is = inr (inr (refl, refl, refl)) };
  faults = omega arith;
  files = omega arith;
  risen = tt;
  run_out = refl;
  file = tt;
  within = omega arith;
}

-- and no fault of the disk
pub not_fault_first : IsEntry unflushed_one no_file_left (works flush replies.Fault (record { faults = 1; files = 2 ^ 63 })) → ⊥
not_fault_first h = let file = h.file (omega arith) in omega (arith, file)

-- where nothing wants a file the disk may fail
pub fault_of_nothing : IsEntry (unflushed (head (codes "d") Persist 0 ∷ []) [] (record { 0 = 0 }) None) no_file_left (works flush replies.Fault (record { faults = 1; files = 2 ^ 63 }))
fault_of_nothing = record {
  takes = refl;
  legal = record { running = refl; is = inr (inl (refl, refl, refl)) };
  faults = omega arith;
  files = omega arith;
  risen = omega arith;
  run_out = tt;
  file = λ some. absurd (omega (arith, some));
  within = omega arith;
}

-- no file has a number above the limit
pub not_above : IsEntry unflushed_one no_file_left (works flush (replies.OkAt 1) (record { faults = 0; files = 2 ^ 64 })) → ⊥
not_above h = let within = h.within in omega (arith, within)
