use Rattle.floor_laws.proofs.Views.{shows_lines, shows_entries}
use Rattle.floor_laws.proofs.views_show_their_pin.Goals as goal

pub returns : goal.returns
returns c = record { lines = shows_lines; entries = shows_entries }
