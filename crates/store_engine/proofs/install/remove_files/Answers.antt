use Rattle.std.proofs.Common.{take, sym, subst}
use Rattle.std.specs.Prelude.{Contains}
use Rattle.std.proofs.lemmas.List.{take_all, take_more}
use Rattle.std.proofs.lemmas.List.Elements.{Contains-get_or}
use Rattle.udt_disk.proofs.TouchLemmas.{touches_more, touches_one, touches_then}
use Rattle.store_engine.specs.Asides.{IsRemoval}
use Rattle.store_engine.proofs.Removing.{removal_then}
use Rattle.store_engine.proofs.install.remove_files.Goals as goal

pub loop-name-preserved : goal.loop-name-preserved
loop-name-preserved g c =
    let d = g.D.Disk in
    let names = c.args.names.now in
    let i = c.loop-name.name-index in
    let e = c.remove.ensures in
    let before = c.loop-name.invariant in
    let one = touches_one d _ _ c.loop-name.disk c.remove.new.self (λ n free. tt) e.others e.time e.told e.model in
    record {
      touches = touches_then d (Contains names) c.args.disk.now c.loop-name.disk c.remove.new.self before.touches
          (touches_more d _ (Contains names) c.loop-name.disk c.remove.new.self (λ n is. subst (Contains names) (sym is) (Contains-get_or names i _ c.loop-name-test.true)) one);
      gone = subst (λ ns. IsRemoval d ns c.args.disk.now c.remove.new.self) (sym (take_more names i _ c.loop-name-test.true))
          (removal_then d c.args.disk.now c.loop-name.disk c.remove.new.self (take i names) _ c.remove.result e.gone e.others e.cause e.told before.gone);
    }

pub returns-clause-gone : goal.returns-clause-gone
returns-clause-gone g c =
    let names = c.args.names.now in
    subst (λ ns. IsRemoval g.D.Disk ns c.args.disk.now c.loop-name.disk) (take_all c.loop-name.name-index names c.loop-name-test.false) c.loop-name.invariant.gone
