use Rattle.std.proofs.Common.{◌≡◌, drop, ap, sym, ◌∙◌, length, min, take}
use Rattle.udt_disk.proofs.Reading.{consumed, at_end}
use Rattle.udt_disk.proofs.memory.MemSourceSource.read.Goals as goal

pub returns-clause-bytes : goal.returns-clause-bytes
returns-clause-bytes c =
    let s = c.self.inside in
    let n = c.copy_front-count.result in
    let into = c.copy_front-count.new.into in
    let rest : c.split_at.result.1.now ≡ drop s.at s.bytes.items = c.split_at.ensures.back ∙ ap (drop s.at) c.deref.ensures.value in
    let count : n ≡ min (length (drop s.at s.bytes.items)) (length into) = c.copy_front-count.ensures.count ∙ ap (λ xs. min (length xs) (length into)) rest in
    (sym (ap (λ r. r.left) c.self.view_is) ∙ consumed n s.at s.bytes.items into (c.copy_front-count.ensures.front ∙ ap (take n) rest), at_end n s.at s.bytes.items into count)
