use Rattle.std.proofs.Common.{◌++◌, [], ◌∷◌, sym, ap, subst, ◌∙◌, arith}
use Rattle.data_block.specs.Written.{Written, HasWritten}
use Rattle.block_table.proofs.Pushing.{closed_none, closed_last}
use Rattle.block_table.proofs.writer.TableWriter.closed.Goals as goal

pub returns-then-w-eq0 : goal.returns-then-w-eq0
returns-then-w-eq0 c = λ t h some. (h.done, closed_none c.args.self t h some c.if-w-eq0.true)

pub returns : goal.returns
returns c = λ t h some.
    let os = h.open_items in
    let n = h.behind.versions in
    let one = c.if-w-eq0.false in
    let form-is = ap (λ (b : Written). b.form) c.in_ok-block.ensures.taken ∙ h.is_open.form_is in
    let written = subst (λ (b : Written). HasWritten b os) (sym c.in_ok-block.ensures.taken) h.is_open.written in
    let closed = c.in_ok-close.ensures.closed t h.done os (c.in_ok-block.ensures.kept t h.done os h.behind) (record { form_is = form-is; written = written }) in
    (h.done ++ os ∷ [], closed_last c.close.new.self t h.done os h.each h.room (omega (arith, n, one)) closed)
