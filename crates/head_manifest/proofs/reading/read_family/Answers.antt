use Rattle.std.proofs.Common.{◌≡◌, false}
use Rattle.ts_key.specs.Names.{is_name}
use Rattle.head_manifest.proofs.Spellings.{no_family}
use Rattle.head_manifest.proofs.reading.read_family.Goals as goal

pub returns-in-Err-Bad : goal.returns-in-Err-Bad
returns-in-Err-Bad c =
    let bad : is_name c.in-Some.name.now ≡ false = rw c.in-Err-Bad.field-0-is at c.in-Err-Bad.ensures.refused in
    no_family c.args.bytes.now c.in-Some.name.now c.in-Some.rest.now c.in-Some.ensures.found (λ named. cc)
