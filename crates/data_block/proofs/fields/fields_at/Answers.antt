use Rattle.std.proofs.Common.{sym, subst}
use Rattle.data_block.specs.Fields.{ReadsFields}
use Rattle.data_block.proofs.Fielded.{Read, none_1, none_2, none_3, none_4, none_5}
use Rattle.data_block.proofs.fields.fields_at.Goals as goal

pub returns-in_err-shared : goal.returns-in_err-shared
returns-in_err-shared c = subst (ReadsFields c.args.bytes.now) (sym c.from_residual.ensures) (none_1 c.args.bytes.now c.in_err-shared.ensures)

pub returns-in_err-key_len : goal.returns-in_err-key_len
returns-in_err-key_len c = subst (ReadsFields c.args.bytes.now) (sym c.from_residual-in_err-key_len.ensures) (none_2 c.args.bytes.now c.in_ok-shared.rest.now c.in_ok-shared.shared c.in_ok-shared.ensures.0 c.in_ok-shared.ensures.1 c.in_err-key_len.ensures)

pub returns-in_err-value_len : goal.returns-in_err-value_len
returns-in_err-value_len c =
    let a = c.in_ok-shared.ensures in
    let b = c.in_ok-key_len.ensures in
    subst (ReadsFields c.args.bytes.now) (sym c.from_residual-in_err-value_len.ensures) (none_3 c.args.bytes.now c.in_ok-shared.rest.now c.in_ok-key_len.rest.now c.in_ok-shared.shared c.in_ok-key_len.key_len a.0 a.1 b.0 b.1 c.in_err-value_len.ensures)

pub returns-in_err-key : goal.returns-in_err-key
returns-in_err-key c =
    let a = c.in_ok-shared.ensures in
    let b = c.in_ok-key_len.ensures in
    let d = c.in_ok-value_len.ensures in
    let h : Read c.args.bytes.now c.in_ok-value_len.rest.now c.in_ok-shared.shared c.in_ok-key_len.key_len c.in_ok-value_len.value_len = record { r1 = c.in_ok-shared.rest.now; r2 = c.in_ok-key_len.rest.now; one = a.1; two = b.1; three = d.1; x = a.0; n = b.0; m = d.0 } in
    subst (ReadsFields c.args.bytes.now) (sym c.from_residual-in_err-key.ensures) (none_4 c.args.bytes.now c.in_ok-value_len.rest.now c.in_ok-shared.shared c.in_ok-key_len.key_len c.in_ok-value_len.value_len h c.in_err-key.ensures)

pub returns-in_err-value : goal.returns-in_err-value
returns-in_err-value c =
    let a = c.in_ok-shared.ensures in
    let b = c.in_ok-key_len.ensures in
    let d = c.in_ok-value_len.ensures in
    let e = c.in_ok-key.ensures in
    let h : Read c.args.bytes.now c.in_ok-value_len.rest.now c.in_ok-shared.shared c.in_ok-key_len.key_len c.in_ok-value_len.value_len = record { r1 = c.in_ok-shared.rest.now; r2 = c.in_ok-key_len.rest.now; one = a.1; two = b.1; three = d.1; x = a.0; n = b.0; m = d.0 } in
    subst (ReadsFields c.args.bytes.now) (sym c.from_residual-in_err-value.ensures) (none_5 c.args.bytes.now c.in_ok-value_len.rest.now c.in_ok-key.rest.now c.in_ok-key.key.now c.in_ok-shared.shared c.in_ok-key_len.key_len c.in_ok-value_len.value_len h e.0 e.1 c.in_err-value.ensures)
