use Rattle.floor_core.proofs.Pins.{fresh_is_sound}
use Rattle.floor_core.proofs.machine.Core.fresh.Goals as goal

pub returns-clause-sound : goal.returns-clause-sound
returns-clause-sound c = fresh_is_sound c.in_ok-core.core c.args.forms.items c.in_ok-core.ensures
