use Rattle.std.proofs.Common.{◌≡◌, refl, ◌∙◌, ap}
use Rattle.client_lang.specs.Print.{print_header}
use Rattle.solo_runner.specs.Solo.{HasRun}
use Rattle.solo_runner.specs.Transcripts.{fresh}
use Rattle.client_runner.proofs.Transcribing.{transcribed}
use Rattle.client_runner.proofs.top.transcribe.Goals as goal
use Rattle.udt_model.specs.State.{heads_of}

pub returns : goal.returns
returns c =
    let is : c.new-store.result ≡ fresh = rw (c.new-store.ensures, c.in_ok-fresh_heads.ensures) refl in
    let run : HasRun fresh c.args.commands.items c.run-lines.result.lines.items c.run-lines.new.store c.run-lines.result.last = rw is at c.run-lines.ensures.run in
    let heads : c.deref.result.now ≡ (heads_of fresh) = c.deref.ensures.value ∙ c.in_ok-heads.ensures in
    transcribed c.args.commands.items c.run-lines.result.lines.items c.in_ok-header.header.items c.run-lines.new.store c.run-lines.result.last c.ready_of.result run c.run-lines.ensures.sound
    (c.in_ok-header.ensures ∙ ap (print_header 0) heads) c.ready_of.ensures.header c.ready_of.ensures.lines c.ready_of.ensures.room
