use Rattle.std.proofs.Common.{sym, ap, ◌∙◌, length, arith}
use Rattle.snapshot_list.specs.Registered.{registered_seqs}
use Rattle.snapshot_list.proofs.Snapshots.{length_paired, seqs_paired}
use Rattle.snapshot_list.proofs.Snaps.seqs.Goals as goal

pub returns-clause-seqs : goal.returns-clause-seqs
returns-clause-seqs c =
    let x = c.self.inside in
    c.deref.ensures.value ∙ sym (seqs_paired x.ids.items x.seqs.items c.self.invariant.0.paired) ∙ ap registered_seqs c.self.view_is

pub returns-clause-within : goal.returns-clause-within
returns-clause-within c =
    let x = c.self.inside in
    let n = length_paired x.ids.items x.seqs.items c.self.invariant.0.paired in
    let l = c.self.invariant.0.within in
    omega (arith, n, l, ap length c.self.view_is)
