use Rattle.std.proofs.Common.{take}
use Rattle.std.specs.List.{flat_map}
use Rattle.client_lang.proofs.Pushing.{Pushed}
use Rattle.client_lang.specs.Print.{print_head}
use Rattle.client_lang.proofs.print.push_heads.Given as goal

abbrev pub invariant-loop-head : goal.invariant-loop-head
invariant-loop-head l = Pushed l.initial.out l.out (flat_map print_head (take l.head-index l.heads))
