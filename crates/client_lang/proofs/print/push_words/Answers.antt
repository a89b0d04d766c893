use Rattle.std.proofs.Common.{◌∷◌, []}
use Rattle.client_lang.specs.Words.{word_text}
use Rattle.client_lang.proofs.Pushing.{as_text, done, failed, then, stops}
use Rattle.client_lang.proofs.Texts.{line_none, line_cons}
use Rattle.client_lang.proofs.print.push_words.Goals as goal
use Rattle.client_lang.proofs.print.push_words.Goals.{in_default, in-len1-up+in_ok-push_word+in_ok-push_followed}

pub returns-in_err-push_followed : goal.returns-in_err-push_followed
returns-in_err-push_followed c =
    let err = c.from_residual-in_err-push_followed.ensures.0 in
    let first = done c.push_word.ensures c.in_ok-push_word.was in
    let answered = failed c.push_followed.ensures c.in_err-push_followed.was err in
    as_text (stops (10 ∷ []) err (then first answered)) (line_cons word_text c.args.words.now _ c.in-len1-up.len_at_least)

pub returns : goal.returns
returns c =
    elim c.if-words-lt1.branch [
      | in_default w ↦ rw (line_none word_text c.args.words.now w.in_default.len_below) (rw w.out-is at c.push_line_feed.ensures)
      | in-len1-up+in_ok-push_word+in_ok-push_followed w ↦
          let first = done w.push_word.ensures w.in_ok-push_word.was in
          let others = done w.push_followed.ensures w.in_ok-push_followed.was in
          as_text (then (then first others) (rw w.out-is at c.push_line_feed.ensures)) (line_cons word_text c.args.words.now _ w.in-len1-up.len_at_least)
    ]
