use Rattle.std.proofs.Common.{true, List, sym, subst}
use Rattle.ts_key.specs.declared.version.Version.{Version}
use Rattle.history_gc.specs.Pushed.{MayFollow}
use Rattle.history_gc.specs.Collecting.{HasCollected, HasFinished}
use Rattle.flush_job.specs.Keeping.{Keeps}
use Rattle.flush_job.specs.declared.kept.Kept.{Kept}
use Rattle.flush_job.proofs.Keeping.{keeps, may_follow, on_ok, takes_none, takes_some, working_from, working_is}
use Rattle.flush_job.proofs.kept.Kept.pull.Goals as goal

pub returns-in_default-clause-pulled : goal.returns-in_default-clause-pulled
returns-in_default-clause-pulled g c = λ ended given h.
    let feed = g.S.Feed in
    let old = c.args.self.now in
    let ps = feed.taken old.feed in
    let t = takes_none feed.taken feed.coming old.feed c.next.new.self c.in_ok-version.field-0 c.in_default.is c.in_ok-version.ensures in
    let done = c.finish.ensures.finished ps given (working_is old.ended old.collector ps (feed.coming old.feed) given ended h.working) in
    keeps feed (record { feed = c.next.new.self; collector = c.finish.new.self; ended = true }) given (g.met.S.Feed.in_order c.next.new.self)
    (subst (λ (ps : List Version). HasFinished c.finish.new.self ps given) (sym t.2) done, t.1)

pub returns-clause-pulled : goal.returns-clause-pulled
returns-clause-pulled g c = λ ended given h.
    let feed = g.S.Feed in
    let old = c.args.self.now in
    let ps = feed.taken old.feed in
    let v = c.in-Some.version in
    let new = c.next.new.self in
    let t = takes_some feed.taken feed.coming old.feed new c.in_ok-version.field-0 v c.in-Some.is c.in_ok-version.ensures in
    let next : MayFollow ps v = may_follow ps (feed.taken new) v t.1 (g.met.S.Feed.in_order new) in
    let put = c.push.ensures.collected ps given (working_is old.ended old.collector ps (feed.coming old.feed) given ended h.working) next in
    let k : Kept g.row.S.Denot = record { feed = new; collector = c.push.new.collector; ended = old.ended } in
    on_ok c.push.result _ (Keeps feed k given)
    (λ w. keeps feed k given (g.met.S.Feed.in_order new) (working_from old.ended c.push.new.collector (feed.taken new) (feed.coming new) given ended
    (subst (λ (qs : List Version). HasCollected c.push.new.collector qs given) (sym t.1) w))) put
