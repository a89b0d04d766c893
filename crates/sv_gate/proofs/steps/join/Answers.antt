use Rattle.std.proofs.Common.{rules, ◌∷◌, [], List, ap, subst, arith}
use Rattle.sv_gate.specs.Histories.{BeginsWithAll}
use Rattle.sv_gate.proofs.Owners.{longer_begins}
use Rattle.sv_gate.proofs.Weights.{joins, learns}
use Rattle.sv_gate.proofs.steps.join.Goals as goal

pub join_seat-requires : goal.join_seat-requires
join_seat-requires g c = (
  search rules,
  search rules,
  search rules,
  search rules,
  joins g.F.Shown.follows g.F.Shown.front_shows g.F.Shown.commit_shows g.F.Shown.is_light c.args.shared.now.key c.args.seat.now.id c.args.seat.now.me.0 c.args.other.id c.args.other.me.0 c.requires.live.0 c.requires.empty.0 c.requires.empty.1,
)

pub load-requires : goal.load-requires
load-requires g c = let same = ap (λ m. m.0) c.join_seat.ensures.2 in let live = c.requires.live.0 in (
  search rules,
  search rules,
  learns g.F.Shown.follows g.F.Shown.front_shows g.F.Shown.commit_shows g.F.Shown.is_light c.args.shared.now.key _ c.join_seat.new.seat.id c.join_seat.new.seat.me
      (rw same c.requires.table.0.same_origin) (rw same c.requires.table.0.same_base) (rw same (omega arith)),
)

pub returns-clause-seen : goal.returns-clause-seen
returns-clause-seen g c = let v = c.args.seat.now.me.0 in let w = c.args.other.me.0 in let same = c.join_seat.ensures.2 in let told = c.load.ensures in
    let all : BeginsWithAll told.2.1.0 (v.seen ∷ w.seen ∷ []) = subst (λ (l : List (List g.row.F-Entry.Denot)). BeginsWithAll told.2.1.0 l) (ap (λ m. m.0.heard) same) told.2.1.1 in
    rw (ap (λ m. m.0.seen) told.2.0) (rw (ap (λ m. m.0.seen) same) (longer_begins told.2.1.0 v.seen w.seen all))

pub returns-clause-weight : goal.returns-clause-weight
returns-clause-weight g c = let told = c.load.ensures in let same = ap (λ m. m.0) c.join_seat.ensures.2 in
    rw (ap (λ m. m.0.weight) told.2.0) (told.2.3 c.args.shared.now.key (rw same c.requires.table.0.same_origin))

pub returns-clause-order : goal.returns-clause-order
returns-clause-order g c = let told = c.load.ensures in rw (ap (λ m. m.0) told.2.0) told.2.2
