use Rattle.std.proofs.Common.{◌≡◌, ◌<◌, ℕ, length}
use Rattle.std.specs.Prelude.{IsTrue}
use Rattle.compaction.specs.Drawing.{AreHeld, AreOutputsNumbered}
use Rattle.compaction.proofs.run.give_back.Given as goal

abbrev pub invariant-loop-out : goal.invariant-loop-out
invariant-loop-out g l = record {
  held : AreHeld g.J.JobFiles g.J.File.DiskFile l.files l.outs.items;
  numbered : (low : ℕ) → AreOutputsNumbered low (g.J.JobFiles.above l.initial.files) l.initial.outs.items → (high : ℕ) × AreOutputsNumbered low high l.outs.items;
  others : (low n : ℕ) → AreOutputsNumbered low (g.J.JobFiles.above l.initial.files) l.initial.outs.items → n < low → IsTrue (g.J.JobFiles.gave l.initial.files n) → IsTrue (g.J.JobFiles.gave l.files n);
  faults : g.J.JobFiles.faults l.files ≡ g.J.JobFiles.faults l.initial.files;
  halted : g.J.JobFiles.halted l.files ≡ g.J.JobFiles.halted l.initial.files;
  next : g.J.JobFiles.next_number l.files ≡ g.J.JobFiles.next_number l.initial.files;
  above : g.J.JobFiles.above l.files ≡ g.J.JobFiles.above l.initial.files;
  told : g.J.JobFiles.is_told l.files ≡ g.J.JobFiles.is_told l.initial.files;
  model : g.J.JobFiles.keeps_model l.files ≡ g.J.JobFiles.keeps_model l.initial.files;
}

abbrev pub decreases-loop-out : goal.decreases-loop-out
decreases-loop-out g l = length l.outs.items
