use Rattle.std.proofs.Common.{subst, ◌∙◌}
use Rattle.compaction.specs.Drawing.{AreHeld, AreOutputsNumbered}
use Rattle.compaction.proofs.Drawn.{front_numbered, held_front, held_last, lower_given, none_more}
use Rattle.compaction.proofs.run.give_back.Goals as goal

pub back-requires : goal.back-requires
back-requires g c =
    let o = c.in-Some.out in
    let held = subst (AreHeld g.J.JobFiles g.J.File.DiskFile c.loop-out.files) c.in-Some.ensures.items c.loop-out.invariant.held in
    let h = (held_last g.J.JobFiles g.J.File.DiskFile c.loop-out.files c.pop.new.self.items o held).1 in
    (o.number, h.name, h.gave)

pub loop-out-preserved : goal.loop-out-preserved
loop-out-preserved g c =
    let G = g.J.JobFiles in
    let D = g.J.File.DiskFile in
    let inv = c.loop-out.invariant in
    let files = c.loop-out.files in
    let next = c.back.new.self in
    let front = c.pop.new.self.items in
    let o = c.in-Some.out in
    let held = subst (AreHeld G D files) c.in-Some.ensures.items inv.held in
    let h = (held_last G D files front o held).1 in
    let back = c.back.ensures in
    let low0 = c.requires.numbered.0 in
    let n0 = inv.numbered low0 c.requires.numbered.1 in
    record {
      held = held_front G D files next low0 n0.0 front o held (subst (AreOutputsNumbered low0 n0.0) c.in-Some.ensures.items n0.1) back.others;
      numbered = λ low a.
          let n = inv.numbered low a in
          (o.number, front_numbered G D files next low n.0 front o held (subst (AreOutputsNumbered low n.0) c.in-Some.ensures.items n.1) back.others);
      others = λ low n a lt y.
          let m = inv.numbered low a in
          lower_given G D files next low m.0 front o held (subst (AreOutputsNumbered low m.0) c.in-Some.ensures.items m.1) back.others n lt (inv.others low n a lt y);
      faults = none_more (G.faults files) (G.faults next) (D.faults o.file) h.faults back.faults back.later ∙ inv.faults;
      halted = back.seen.0 ∙ inv.halted;
      next = back.seen.1 ∙ inv.next;
      above = back.still ∙ inv.above;
      told = back.told ∙ inv.told;
      model = back.model ∙ inv.model;
    }
