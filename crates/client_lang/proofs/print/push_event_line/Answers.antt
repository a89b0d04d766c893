use Rattle.std.proofs.Common.{◌∷◌, [], codes}
use Rattle.client_lang.specs.Words.{followed}
use Rattle.client_lang.specs.Print.{mark_word, who_word, event_words, reply_words}
use Rattle.client_lang.proofs.Pushing.{as_text, done, failed, stops, then}
use Rattle.client_lang.proofs.Texts.{line_parts}
use Rattle.client_lang.proofs.print.push_event_line.Goals as goal

pub returns-in_err-push_event : goal.returns-in_err-push_event
returns-in_err-push_event c =
    let err = c.from_residual-in_err-push_event.ensures.0 in
    let mark = done c.push_word.ensures c.in_ok-push_word.was in
    let who = done c.push_next.ensures c.in_ok-push_next.was in
    let event = failed c.push_event.ensures c.in_err-push_event.was err in
    let line = c.args.line.now in
    let parts = line_parts (mark_word line.mark) (who_word line.who) (codes "=") (event_words line.event) (reply_words line.reply) in
    as_text (stops (10 ∷ []) err (stops (followed (reply_words line.reply)) err (stops (32 ∷ codes "=") err (then (then mark who) event)))) parts

pub returns-in_err-push_next-2 : goal.returns-in_err-push_next-2
returns-in_err-push_next-2 c =
    let err = c.from_residual-in_err-push_next-2.ensures.0 in
    let mark = done c.push_word.ensures c.in_ok-push_word.was in
    let who = done c.push_next.ensures c.in_ok-push_next.was in
    let event = done c.push_event.ensures c.in_ok-push_event.was in
    let sign = failed c.push_next-2.ensures c.in_err-push_next-2.was err in
    let line = c.args.line.now in
    let parts = line_parts (mark_word line.mark) (who_word line.who) (codes "=") (event_words line.event) (reply_words line.reply) in
    as_text (stops (10 ∷ []) err (stops (followed (reply_words line.reply)) err (then (then (then mark who) event) sign))) parts

pub returns-in_err-push_reply : goal.returns-in_err-push_reply
returns-in_err-push_reply c =
    let err = c.from_residual-in_err-push_reply.ensures.0 in
    let mark = done c.push_word.ensures c.in_ok-push_word.was in
    let who = done c.push_next.ensures c.in_ok-push_next.was in
    let event = done c.push_event.ensures c.in_ok-push_event.was in
    let sign = done c.push_next-2.ensures c.in_ok-push_next-2.was in
    let reply = failed c.push_reply.ensures c.in_err-push_reply.was err in
    let line = c.args.line.now in
    let parts = line_parts (mark_word line.mark) (who_word line.who) (codes "=") (event_words line.event) (reply_words line.reply) in
    as_text (stops (10 ∷ []) err (then (then (then (then mark who) event) sign) reply)) parts

pub returns : goal.returns
returns c =
    let mark = done c.push_word.ensures c.in_ok-push_word.was in
    let who = done c.push_next.ensures c.in_ok-push_next.was in
    let event = done c.push_event.ensures c.in_ok-push_event.was in
    let sign = done c.push_next-2.ensures c.in_ok-push_next-2.was in
    let reply = done c.push_reply.ensures c.in_ok-push_reply.was in
    let line = c.args.line.now in
    let parts = line_parts (mark_word line.mark) (who_word line.who) (codes "=") (event_words line.event) (reply_words line.reply) in
    as_text (then (then (then (then (then mark who) event) sign) reply) c.push_line_feed.ensures) parts
