use Rattle.std.proofs.Common.{◌≡◌, true, false, [], ◌∷◌, ◌++◌, ◌∙◌, arith}
use Rattle.flush_job.specs.Keeping.{all_of}
use Rattle.flush_job.proofs.Keeping.{alike_collection, finished_is, gives_finished, keeps, working_from, working_is}
use Rattle.flush_job.proofs.kept.Kept.next.Goals as goal

pub returns-in-Some-clause-given : goal.returns-in-Some-clause-given
returns-in-Some-clause-given g c = λ given h.
    let feed = g.S.Feed in
    let k = c.loop-self.self in
    let ps = feed.taken k.feed in
    let e : k.ended ≡ false = c.loop-self-test.true in
    let was = c.loop-self.invariant.given given h in
    let got = c.in-Some.ensures.collected ps given (working_is k.ended k.collector ps (feed.coming k.feed) given e was.working) in
    keeps feed (record { feed = k.feed; collector = c.pop.new.self; ended = k.ended }) (given ++ c.in-Some.version ∷ []) (g.met.S.Feed.in_order k.feed)
    (working_from k.ended c.pop.new.self ps (feed.coming k.feed) (given ++ c.in-Some.version ∷ []) e got.collected)

pub loop-self-preserved : goal.loop-self-preserved
loop-self-preserved g c =
    let feed = g.S.Feed in
    let k = c.loop-self.self in
    let ps = feed.taken k.feed in
    let inv = c.loop-self.invariant in
    let pulled = c.in_ok-pull.ensures in
    let e : k.ended ≡ false = c.loop-self-test.true in
    let less = pulled.left in
    let same = c.in_default.ensures.held in
    let before = inv.left in
    record {
      given = λ given h.
          let was = inv.given given h in
          let got = c.in_default.ensures.collected ps given (working_is k.ended k.collector ps (feed.coming k.feed) given e was.working) in
          pulled.pulled e given (keeps feed (record { feed = k.feed; collector = c.pop.new.self; ended = k.ended }) given (g.met.S.Feed.in_order k.feed)
          (working_from k.ended c.pop.new.self ps (feed.coming k.feed) given e got.collected));
      all = pulled.all ∙ inv.all;
      kept = pulled.kept ∙ alike_collection k.collector c.pop.new.self c.pop.ensures.alike (all_of feed k) ∙ inv.kept;
      left = omega (arith, less, same, before);
    }

pub returns-clause-given : goal.returns-clause-given
returns-clause-given g c = λ given h.
    let feed = g.S.Feed in
    let k = c.loop-self.self in
    let ps = feed.taken k.feed in
    let e : k.ended ≡ true = c.loop-self-test.false in
    let was = c.loop-self.invariant.given given h in
    let f = finished_is k.ended k.collector ps (feed.coming k.feed) given e was.working in
    gives_finished feed (record { feed = k.feed; collector = c.pop-2.new.self; ended = k.ended }) given c.pop-2.result (g.met.S.Feed.in_order k.feed) e f.1
    (c.pop-2.ensures.finished ps given f.0)
