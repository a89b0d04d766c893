use Rattle.std.proofs.Common.{◌≡◌, ◌==◌, length, sym, ap, ◌∙◌, subst}
use Rattle.wal.specs.Sequences.{next_sequence, GoesOn}
use Rattle.wal.proofs.BodyReading.{adds_fault, adds_none, adds_out_of_sequence, adds_all, first_is_empty}
use Rattle.wal.proofs.frames.add_body.Goals as goal

pub returns-in_err-here : goal.returns-in_err-here
returns-in_err-here c bodies held =
    let first : c.is_empty.result ≡ (length c.args.batches.now.items == 0) = first_is_empty c.args.batches.now c.is_empty.result c.is_empty.ensures in
    adds_fault c.args.sizes.now bodies c.args.body.now c.args.batches.now.items c.from_residual.result c.in_err-here.field-0.0 c.from_residual.ensures.1
    (adds_none c.args.sizes.now bodies c.args.batches.now.items c.args.body.now c.is_empty.result c.in_err-here.field-0.0 c.in_err-here.ensures.few held first c.in_err-here.ensures.read)

pub returns-then-not-goes_on : goal.returns-then-not-goes_on
returns-then-not-goes_on c bodies held =
    let first : c.is_empty.result ≡ (length c.args.batches.now.items == 0) = first_is_empty c.args.batches.now c.is_empty.result c.is_empty.ensures in
    let next : c.next_sequence.result ≡ next_sequence c.args.batches.now.items = c.next_sequence.ensures ∙ ap next_sequence c.deref.ensures.value in
    adds_out_of_sequence c.args.sizes.now bodies c.args.batches.now.items c.in_ok-here.here.items c.args.body.now c.is_empty.result c.next_sequence.result c.in_ok-here.ensures.few held first c.in_ok-here.ensures.read next
    (λ goes. c.if-not-goes_on.ensures.no (subst (GoesOn c.next_sequence.result) (sym c.deref-2.ensures.value) goes))

pub returns : goal.returns
returns c bodies held =
    let first : c.is_empty.result ≡ (length c.args.batches.now.items == 0) = first_is_empty c.args.batches.now c.is_empty.result c.is_empty.ensures in
    let next : c.next_sequence.result ≡ next_sequence c.args.batches.now.items = c.next_sequence.ensures ∙ ap next_sequence c.deref.ensures.value in
    adds_all c.args.sizes.now bodies c.args.batches.now.items c.in_ok-here.here.items c.append.new.self.items c.args.body.now c.is_empty.result c.next_sequence.result held first c.in_ok-here.ensures.read next
    (subst (GoesOn c.next_sequence.result) c.deref-2.ensures.value c.if-not-goes_on.ensures.yes) c.in_ok-append.ensures.items
