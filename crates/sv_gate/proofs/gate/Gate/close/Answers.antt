use Rattle.std.proofs.Common.{◌≡◌, ◌∙◌, ap, subst, sym}
use mathlib.Core.Option.{some-injective}
use lib.ListN.{get_elem?}
use Rattle.sv_gate.proofs.Weights.{closes}
use Rattle.sv_gate.proofs.gate.Gate.close.Goals as goal

pub unreachable-requires : goal.unreachable-requires
unreachable-requires g c = let seat = c.args.seat in
    let end = closes g.F.Shown.follows g.F.Shown.front_shows g.F.Shown.commit_shows g.F.Shown.is_light c.args.self.table.shared.key seat.inner.id seat.inner.me.0 _ _ c.close_with-closed.ensures.values.2 seat.lives c.requires.whole c.requires.empty.no_front c.requires.empty.no_commit in
    c.in_default.not-Front end.0 (some-injective _ _ (sym c.take-front.ensures.value ∙ end.2))

pub unreachable-requires-in_default-commit : goal.unreachable-requires-in_default-commit
unreachable-requires-in_default-commit g c = let seat = c.args.seat in
    let end = closes g.F.Shown.follows g.F.Shown.front_shows g.F.Shown.commit_shows g.F.Shown.is_light c.args.self.table.shared.key seat.inner.id seat.inner.me.0 _ _ c.close_with-closed.ensures.values.2 seat.lives c.requires.whole c.requires.empty.no_front c.requires.empty.no_commit in
    let second = sym (ap (λ l. get_elem? l 1) c.take-front.ensures.others.0) ∙ c.take-commit.ensures.value in
    c.in_default-commit.not-Commit end.1 (some-injective _ _ (sym second ∙ end.3))

pub returns-clause-front : goal.returns-clause-front
returns-clause-front g c = let seat = c.args.seat in
    let end = closes g.F.Shown.follows g.F.Shown.front_shows g.F.Shown.commit_shows g.F.Shown.is_light c.args.self.table.shared.key seat.inner.id seat.inner.me.0 _ _ c.close_with-closed.ensures.values.2 seat.lives c.requires.whole c.requires.empty.no_front c.requires.empty.no_commit in
    let is : end.0 ≡ c.in-Front.front = cc (sym end.2 ∙ c.take-front.ensures.value, c.in-Front.is) in subst (λ (f : g.row.F.Denot). g.F.Shown.front_shows c.args.self.table.shared.key f seat.inner.me.0.seen) is end.4

pub returns-clause-commit : goal.returns-clause-commit
returns-clause-commit g c = let seat = c.args.seat in
    let end = closes g.F.Shown.follows g.F.Shown.front_shows g.F.Shown.commit_shows g.F.Shown.is_light c.args.self.table.shared.key seat.inner.id seat.inner.me.0 _ _ c.close_with-closed.ensures.values.2 seat.lives c.requires.whole c.requires.empty.no_front c.requires.empty.no_commit in
    let second = sym (ap (λ l. get_elem? l 1) c.take-front.ensures.others.0) ∙ c.take-commit.ensures.value in
    let is : end.1 ≡ c.in-Commit.commit = cc (sym end.3 ∙ second, c.in-Commit.is) in subst (λ (f : g.row.C.Denot). g.F.Shown.commit_shows c.args.self.table.shared.key f seat.inner.me.0.seen) is end.5

pub returns-clause-legal : goal.returns-clause-legal
returns-clause-legal g c = let seat = c.args.seat in
    let end = closes g.F.Shown.follows g.F.Shown.front_shows g.F.Shown.commit_shows g.F.Shown.is_light c.args.self.table.shared.key seat.inner.id seat.inner.me.0 _ _ c.close_with-closed.ensures.values.2 seat.lives c.requires.whole c.requires.empty.no_front c.requires.empty.no_commit in
    end.6

pub returns-clause-own : goal.returns-clause-own
returns-clause-own g c = let seat = c.args.seat in
    let end = closes g.F.Shown.follows g.F.Shown.front_shows g.F.Shown.commit_shows g.F.Shown.is_light c.args.self.table.shared.key seat.inner.id seat.inner.me.0 _ _ c.close_with-closed.ensures.values.2 seat.lives c.requires.whole c.requires.empty.no_front c.requires.empty.no_commit in
    end.7

pub returns-clause-room : goal.returns-clause-room
returns-clause-room g c = let seat = c.args.seat in
    let end = closes g.F.Shown.follows g.F.Shown.front_shows g.F.Shown.commit_shows g.F.Shown.is_light c.args.self.table.shared.key seat.inner.id seat.inner.me.0 _ _ c.close_with-closed.ensures.values.2 seat.lives c.requires.whole c.requires.empty.no_front c.requires.empty.no_commit in
    rw c.requires.gate.same_base end.8
