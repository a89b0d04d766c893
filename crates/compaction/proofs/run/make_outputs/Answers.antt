use Rattle.std.proofs.Common.{◌≡◌, Bool, [], ◌∷◌, ◌++◌, Option, sym, ap, subst, ◌∙◌}
use Rattle.ts_key.specs.declared.version.Version.{Version}
use Rattle.compaction.specs.Drawing.{AreHeld, AreOutputsNumbered}
use Rattle.compaction.specs.Made.{HoldsOutput}
use Rattle.compaction.proofs.Drawn.{gives_back, goes_on, held_on, numbered_wider}
use Rattle.compaction.proofs.Outputs.{Making, making_more}
use Rattle.compaction.proofs.run.make_outputs.Goals as goal

pub loop-next-preserved : goal.loop-next-preserved
loop-next-preserved g c =
    let G = g.J.JobFiles in
    let D = g.J.File.DiskFile in
    let inv = c.loop-next.invariant in
    let start = c.args.files.now in
    let files = c.loop-next.files in
    let next = c.make_output.new.files in
    let told = G.is_told start in
    let model = G.keeps_model start in
    let v = c.in-Some.version in
    let o = c.in-Ok.output in
    let outs = c.loop-next.outs.items in
    let m = subst (λ (n : Option Version). Making g.S.Feed G D c.args.family c.args.form c.args.floor told model c.loop-next.kept start files outs n) c.in-Some.is inv.making in
    let made = c.in-Ok.ensures in
    let holds = subst (λ (b : Bool). HoldsOutput D told b o) m.goes.model (subst (λ (b : Bool). HoldsOutput D b (G.keeps_model files) o) m.goes.told made.holds) in
    let pushed : c.push_reserved.new.self.items ≡ outs ++ o ∷ [] = c.push_reserved.ensures.items ∙ ap (λ l. l ++ o ∷ []) c.reserve.ensures.items in
    record {
      all = made.all ∙ inv.all;
      kept = made.collected ∙ inv.kept;
      making = subst (λ l. Making g.S.Feed G D c.args.family c.args.form c.args.floor told model c.make_output.new.kept start next l c.in-Ok.more) (sym pushed)
          (making_more g.S.Feed G D c.args.family c.args.form c.args.floor told model c.loop-next.kept c.make_output.new.kept start files next outs v o c.in-Ok.more m (made.next m.given m.gives) holds made.drawn made.goes);
    }

pub give_back-requires-in-Err-clause-held : goal.give_back-requires-in-Err-clause-held
give_back-requires-in-Err-clause-held g c = λ x y.
    let G = g.J.JobFiles in
    let D = g.J.File.DiskFile in
    let m = c.loop-next.invariant.making in
    let files = c.loop-next.files in
    let next = c.make_output.new.files in
    subst (AreHeld G D next) (sym c.reserve.ensures.items) (held_on G D files next (G.above c.args.files.now) (G.above files) c.loop-next.outs.items m.numbered c.in-Err.ensures.goes.others m.held)

pub give_back-requires-in-Err-clause-numbered : goal.give_back-requires-in-Err-clause-numbered
give_back-requires-in-Err-clause-numbered g c = λ x y.
    let G = g.J.JobFiles in
    let m = c.loop-next.invariant.making in
    let start = G.above c.args.files.now in
    let next = G.above c.make_output.new.files in
    (start, subst (AreOutputsNumbered start next) (sym c.reserve.ensures.items) (numbered_wider start (G.above c.loop-next.files) next c.loop-next.outs.items c.in-Err.ensures.goes.still m.numbered))

pub returns-in-Err-clause-goes : goal.returns-in-Err-clause-goes
returns-in-Err-clause-goes g c =
    let G = g.J.JobFiles in
    let D = g.J.File.DiskFile in
    let m = c.loop-next.invariant.making in
    let start = c.args.files.now in
    let files = c.loop-next.files in
    let next = c.make_output.new.files in
    let more = c.in-Err.ensures.goes in
    let numbered = subst (AreOutputsNumbered (G.above start) (G.above next)) (sym c.reserve.ensures.items) (numbered_wider (G.above start) (G.above files) (G.above next) c.loop-next.outs.items more.still m.numbered) in
    let back = c.give_back-in-Err.ensures in
    gives_back G D start next c.give_back-in-Err.new.files (goes_on G D start files next m.goes more) back.above (λ n l y. back.others (G.above start) n numbered l y) back.told back.model
