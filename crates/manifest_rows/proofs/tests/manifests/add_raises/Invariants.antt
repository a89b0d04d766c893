use Rattle.manifest.specs.Manifest.{IsManifestReady}
use Rattle.manifest_rows.proofs.tests.manifests.add_raises.Given as goal

abbrev pub invariant-loop-floor : goal.invariant-loop-floor
invariant-loop-floor l = IsManifestReady _ l.manifest
