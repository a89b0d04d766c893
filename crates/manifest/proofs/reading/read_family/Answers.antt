use Rattle.std.proofs.Common.{◌≡◌, false}
use Rattle.ts_key.specs.Names.{is_name}
use Rattle.manifest.proofs.Spellings.{no_family, no_form}
use Rattle.manifest.proofs.reading.read_family.Goals as goal

pub returns-in_default-form_of : goal.returns-in_default-form_of
returns-in_default-form_of c =
    let none = rw c.in_default-form_of.is at c.form_of.ensures in
    no_form c.args.bytes.now c.in-Some.name.now c.in-Some.rest.now c.in-Some.code c.in-Some.ensures.found none

pub returns-in-Err-Bad : goal.returns-in-Err-Bad
returns-in-Err-Bad c =
    let bad : is_name c.in-Some.name.now ≡ false = rw c.in-Err-Bad.field-0-is at c.in-Err-Bad.ensures.refused in
    no_family c.args.bytes.now c.in-Some.name.now c.in-Some.rest.now c.in-Some.code c.in-Some.ensures.found (λ named. cc)
