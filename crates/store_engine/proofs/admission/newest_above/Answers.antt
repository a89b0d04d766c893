use Rattle.std.proofs.Common.{◌≤◌, arith}
use Rattle.super_version.specs.Contents.{items_of_family}
use Rattle.store_engine.specs.Admission.{latest_stamp}
use Rattle.store_engine.proofs.Latests.{passed_over}
use Rattle.store_engine.proofs.admission.newest_above.Goals as goal

pub returns-then-latest_in-ts : goal.returns-then-latest_in-ts
returns-then-latest_in-ts c =
    let vs = items_of_family c.args.state.now in
    let low : latest_stamp vs ≤ c.args.ts.0 = grind (arith, c.latest_in.ensures, c.if-latest_in-ts.true) in
    passed_over vs c.args.key.now c.args.ts.0 low
