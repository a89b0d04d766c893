use Rattle.manifest.proofs.Meanings.{sound_fronts}
use Rattle.manifest.proofs.laws.fronts_are_manifests.Goals as goal

pub returns : goal.returns
returns c = sound_fronts
