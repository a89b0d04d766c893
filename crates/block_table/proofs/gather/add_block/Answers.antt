use Rattle.std.proofs.Common.{◌≡◌, ◌+◌, ◌-◌, ℕ, length, drop, refl, ap, ◌∙◌, arith, length-drop}
use Rattle.std.specs.List.{slice_range}
use Rattle.std.proofs.lemmas.List.{length-take}
use Rattle.data_block.proofs.Faulting.{faults_right}
use Rattle.block_table.specs.declared.handle.BlockHandle.{BlockHandle}
use Rattle.block_table.proofs.BlockCuts.{passes, is_there}
use Rattle.block_table.proofs.gather.add_block.Goals as goal

pub returns-then-not-is_here-clause-added : goal.returns-then-not-is_here-clause-added
returns-then-not-is_here-clause-added c = λ vs b.
    let len = ap (λ (k : BlockHandle). k.length) b.handle in
    let in_end = b.within in
    let t = c.is_here.ensures.1 (ap (λ (k : BlockHandle). k.offset) b.handle, omega arith) in
    let q = c.if-not-is_here.true in
    cc

pub returns-in-Err-Bad-clause-added : goal.returns-in-Err-Bad-clause-added
returns-in-Err-Bad-clause-added c = λ vs b.
    let fault = (rw c.in-Err-Bad.field-0-is at c.in-Err-Bad.ensures.added) in
    let h = c.args.h.now in
    let old = c.args.g.now in
    let len = ap (λ (k : BlockHandle). k.length) b.handle in
    faults_right c.args.form (slice_range old.image c.args.at (c.args.at + h.length)) _ fault.0 vs b.is_block (ap (λ (n : ℕ). slice_range old.image c.args.at (c.args.at + n)) len ∙ b.there)

pub returns-then-not-is_cut_rightly-clause-added : goal.returns-then-not-is_cut_rightly-clause-added
returns-then-not-is_cut_rightly-clause-added c = λ vs b.
    let h = c.args.h.now in
    let old = c.args.g.now in
    let a = c.in-Ok.ensures.added in
    let r = passes c.args.form old.image old.items h c.args.at c.args.end (c.args.at + h.length) c.args.is_last c.in-Ok.cut a.vs a.is_block a.spelled a.extent refl vs b in
    let t = c.is_cut_rightly.ensures.1 r in
    let q = c.if-not-is_cut_rightly.true in
    cc

pub returns-clause-added : goal.returns-clause-added
returns-clause-added c =
    let h = c.args.h.now in
    let old = c.args.g.now in
    let at = c.args.at in
    let to = c.args.at + h.length in
    let a = c.in-Ok.ensures.added in
    let i = c.is_here.ensures.0 c.if-not-is_here.false in
    let k = c.is_cut_rightly.ensures.0 c.if-not-is_cut_rightly.false in
    let fits = c.requires.within in
    let size : length (slice_range old.image at to) ≡ h.length = length-take (to - at) (drop at old.image) ∙ omega (arith, length-drop at old.image, i.1) in
    record {
      vs = a.vs;
      is_at = is_there c.args.form old.image old.items h at c.args.end to c.args.is_last c.in-Ok.cut a.vs a.is_block a.spelled a.extent refl i.0 size i.1 k;
      ends = omega (arith, size, ap length a.spelled);
      behind = a.behind;
    }
