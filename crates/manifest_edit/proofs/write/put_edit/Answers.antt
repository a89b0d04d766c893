use Rattle.std.proofs.Common.{[], ◌∷◌}
use Rattle.std.proofs.lemmas.Result.{on_ok_weaker}
use Rattle.ts_key.specs.Numbers.{number_bytes}
use Rattle.manifest_edit.specs.Edits.{numbers_text, part_text}
use Rattle.manifest_edit.proofs.Writing.{six_written}
use Rattle.manifest_edit.proofs.write.put_edit.Goals as goal

pub returns-clause-written : goal.returns-clause-written
returns-clause-written c =
    let e = c.args.edit.now in
    on_ok_weaker c.put_part.result
    (six_written c.args.out.now.items c.put_u8.new.out.items c.put_number_items.new.out.items c.put_number_items-2.new.out.items c.put_word.new.out.items c.put_word-2.new.out.items c.put_part.new.out.items
    (2 ∷ []) (numbers_text e.add_logs) (numbers_text e.drop_logs) (number_bytes 8 e.next_file) (number_bytes 8 e.last.0) (part_text e.family)
    c.in_ok-put_u8.ensures.written c.in_ok-put_number_items.ensures.written c.in_ok-put_number_items-2.ensures.written c.in_ok-put_word.ensures.written c.in_ok-put_word-2.ensures.written)
    c.put_part.ensures.written

pub returns-clause-sized : goal.returns-clause-sized
returns-clause-sized c =
    on_ok_weaker c.put_part.result
    (λ last. record { added = c.in_ok-put_number_items.ensures.sized; dropped = c.in_ok-put_number_items-2.ensures.sized; next = c.in_ok-put_word.ensures.sized; last = c.in_ok-put_word-2.ensures.sized; part = last })
    c.put_part.ensures.sized
