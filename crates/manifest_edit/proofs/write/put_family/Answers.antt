use Rattle.std.proofs.lemmas.Result.{on_ok_weaker}
use Rattle.ts_key.specs.Numbers.{number_bytes}
use Rattle.manifest_edit.specs.Edits.{counted_text, table_text}
use Rattle.manifest_edit.proofs.Writing.{five_written}
use Rattle.manifest_edit.proofs.write.put_family.Goals as goal

pub returns-clause-written : goal.returns-clause-written
returns-clause-written c =
    let e = c.args.family.now in
    on_ok_weaker c.put_number_items.result
    (five_written c.args.out.now.items c.put_family_number.new.out.items c.put_word.new.out.items c.put_word-2.new.out.items c.put_table_items.new.out.items c.put_number_items.new.out.items
    (number_bytes 4 e.family.0) (number_bytes 8 e.floor.0) (number_bytes 8 e.through.0) (counted_text table_text e.add) (counted_text (number_bytes 8) e.remove)
    c.in_ok-put_family_number.ensures.written c.in_ok-put_word.ensures.written c.in_ok-put_word-2.ensures.written c.in_ok-put_table_items.ensures.written)
    c.put_number_items.ensures.written

pub returns-clause-sized : goal.returns-clause-sized
returns-clause-sized c =
    on_ok_weaker c.put_number_items.result
    (λ last. record { family = c.in_ok-put_family_number.ensures.sized; floor = c.in_ok-put_word.ensures.sized; through = c.in_ok-put_word-2.ensures.sized; added = c.in_ok-put_table_items.ensures.sized; removed = last })
    c.put_number_items.ensures.sized
