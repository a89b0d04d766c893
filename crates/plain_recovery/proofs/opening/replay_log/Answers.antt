use Rattle.std.proofs.Common.{◌≡◌, ℕ, Bool, List, true, map, ap, sym, ◌∙◌, subst}
use Rattle.std.specs.Prelude.{All}
use Rattle.head_manifest.specs.declared.fold.FamilyFold.{FamilyFold}
use Rattle.udt_disk.specs.Causes.{IsCause}
use Rattle.wal.specs.Replays.{IsReplayFault}
use Rattle.wal.specs.Sequences.{IsNumberedWithin}
use Rattle.wal.proofs.Bodies.{holds_within}
use Rattle.plain_recovery.specs.Stores.{sizes_of}
use Rattle.plain_recovery.proofs.opening.replay_log.Goals as goal

pub returns-in-Err-clause-refused : goal.returns-in-Err-clause-refused
returns-in-Err-clause-refused g c told =
    let sizes : c.in-Ok.sizes ≡ sizes_of c.args.fold.now = c.in-Ok.ensures ∙ ap (map (λ (f : FamilyFold). 8)) c.as_slice.ensures in
    let bytes : List ℕ = g.F.DiskFile.seen c.args.file in
    c.log_fault.ensures.refused (sizes_of c.args.fold.now) c.args.number bytes (subst (λ (s : List ℕ). IsReplayFault s c.args.number bytes c.in-Err.fault) sizes (c.in-Err.ensures.refused told))

pub returns-in-Err-clause-cause : goal.returns-in-Err-clause-cause
returns-in-Err-clause-cause g c =
    subst (λ (b : Bool). IsCause b (g.F.DiskFile.faults c.args.file) (g.F.DiskFile.faults c.in-Err.file)) (sym c.log_fault.ensures.cause) c.in-Err.ensures.cause
