use Rattle.floor_core.proofs.Pins.{fresh_sound, gets_answer, opened_sound, pinned_gets_answer, sound_all}
use Rattle.floor_core.proofs.laws.core_is_safe.Goals as goal

pub returns : goal.returns
returns c = record { fresh = fresh_sound; opened = opened_sound; sound = sound_all; gets = gets_answer; pinned = pinned_gets_answer }
