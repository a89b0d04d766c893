use Rattle.std.proofs.Common.{◌∷◌, arith}
use Rattle.std.proofs.lemmas.List.{take_all}
use Rattle.std.proofs.lemmas.List.Folds.{flat_map-map}
use Rattle.client_lang.specs.Words.{word_text}
use Rattle.client_lang.proofs.Pushing.{none, done, failed, each_more, each_stops}
use Rattle.client_lang.proofs.print.push_followed.Goals as goal

pub loop-word-init : goal.loop-word-init
loop-word-init c = none c.args.out.now

pub returns-in_err-push_next : goal.returns-in_err-push_next
returns-in_err-push_next c =
    let err = c.from_residual.ensures.0 in
    let answered = failed c.push_next.ensures c.in_err-push_next.was err in
    rw (flat_map-map (λ w. 32 ∷ w) word_text c.args.rest.now) (each_stops (λ w. 32 ∷ word_text w) c.args.rest.now c.loop-word.word-index _ c.loop-word-test.true err c.loop-word.invariant answered)

pub loop-word-preserved : goal.loop-word-preserved
loop-word-preserved c =
    let answered = done c.push_next.ensures c.in_ok-push_next.was in
    each_more (λ w. 32 ∷ word_text w) c.args.rest.now c.loop-word.word-index _ c.loop-word-test.true c.loop-word.invariant answered

pub returns : goal.returns
returns c = let all = take_all c.loop-word.word-index c.args.rest.now (omega arith) in rw (flat_map-map (λ w. 32 ∷ w) word_text c.args.rest.now) (rw all at c.loop-word.invariant)
