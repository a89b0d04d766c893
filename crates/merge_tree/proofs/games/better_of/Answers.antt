use Rattle.merge_cursor.specs.Sides.{sides}
use Rattle.merge_tree.proofs.Wins.{earlier_better, later_better}
use Rattle.merge_tree.proofs.games.better_of.Goals as goal

pub returns-then-is_lower_at : goal.returns-then-is_lower_at
returns-then-is_lower_at g c = later_better (sides g.C.Placed.items g.C.Placed.place c.args.cursors.now) c.args.a c.args.b c.requires.order c.if-is_lower_at.ensures

pub returns-else-is_lower_at : goal.returns-else-is_lower_at
returns-else-is_lower_at g c = earlier_better (sides g.C.Placed.items g.C.Placed.place c.args.cursors.now) c.args.a c.args.b c.requires.order c.if-is_lower_at.ensures
