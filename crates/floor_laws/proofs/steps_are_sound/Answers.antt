use Rattle.floor_laws.proofs.Reopening.{sound_reads}
use Rattle.floor_laws.proofs.Histories.{sound_lines, sound_entries}
use Rattle.floor_laws.proofs.Told.{sound_after}
use Rattle.floor_laws.proofs.steps_are_sound.Goals as goal

pub returns : goal.returns
returns c = record { step = sound_after; lines = sound_lines; entries = sound_entries; reads = sound_reads }
