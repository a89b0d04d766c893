use Rattle.client_lang.proofs.ReadWords.{made_of_hex}
use Rattle.client_lang.proofs.grammar.words.read_value.Goals as goal

pub returns-in-Some : goal.returns-in-Some
returns-in-Some c =
    let h = rw c.in-Some.is at c.in_ok-bytes.ensures.bytes in
    made_of_hex _ c.args.word.now c.deref.result.now c.value_of-in-Some.result (rw c.deref.ensures.value h) c.value_of-in-Some.ensures.value c.value_of-in-Some.ensures.none
