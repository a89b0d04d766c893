use Rattle.std.proofs.Common.{◌≡◌, ℕ, ◌-◌, ◌%◌, ◌/◌, List, length, take, drop, ap, sym, ◌∙◌, arith}
use Rattle.byteorder.specs.Endian.{little_number}
use Rattle.ts_key.specs.StoredKeys.{tail_len, stamp_number}
use Rattle.ts_key.proofs.StoredKeys.{too_short, too_long, late, unnumbered, unkind, is_spelled}
use Rattle.ts_key.proofs.stored_key.decode_key_as.Goals as goal

abbrev front_at : (bytes key : List ℕ) (tail t : ℕ) → key ≡ take (length bytes - tail) bytes → tail ≡ t → key ≡ take (length bytes - t) bytes
front_at bytes key tail t e h = e ∙ ap (λ (n : ℕ). take (length bytes - n) bytes) h

abbrev back_at : (bytes rest : List ℕ) (tail t : ℕ) → rest ≡ drop (length bytes - tail) bytes → tail ≡ t → rest ≡ drop (length bytes - t) bytes
back_at bytes rest tail t e h = e ∙ ap (λ (n : ℕ). drop (length bytes - n) bytes) h

trailer_at : (rest last : List ℕ) (tail t trailer : ℕ) → trailer ≡ little_number 8 last → last ≡ drop (tail - 8) rest → tail ≡ t → trailer ≡ little_number 8 (drop (t - 8) rest)
trailer_at rest last tail t trailer e g h = e ∙ ap (little_number 8) g ∙ ap (λ (n : ℕ). little_number 8 (drop (n - 8) rest)) h

trailer_in : (bytes rest : List ℕ) (t trailer : ℕ) → trailer ≡ little_number 8 (drop (t - 8) rest) → rest ≡ drop (length bytes - t) bytes → little_number 8 (drop (t - 8) (drop (length bytes - t) bytes)) ≡ trailer
trailer_in bytes rest t trailer e h = sym (e ∙ ap (λ (x : List ℕ). little_number 8 (drop (t - 8) x)) h)

pub returns-then-bytes-tail : goal.returns-then-bytes-tail
returns-then-bytes-tail c = too_short c.args.form c.args.bytes.now (omega arith)

pub returns-then-at-gt-KEY_LIMIT : goal.returns-then-at-gt-KEY_LIMIT
returns-then-at-gt-KEY_LIMIT c = too_long c.args.form c.args.bytes.now (omega arith)

pub returns-then-ts-gt-STAMP_LIMIT : goal.returns-then-ts-gt-STAMP_LIMIT
returns-then-ts-gt-STAMP_LIMIT c =
    let rest = back_at c.args.bytes.now c.split_at.result.1.now c.tail_len-tail.result (tail_len c.args.form) c.split_at.ensures.back c.tail_len-tail.ensures.value in
    let same : c.stamp_of-ts.result ≡ stamp_number c.args.form (drop (length c.args.bytes.now - tail_len c.args.form) c.args.bytes.now) = c.stamp_of-ts.ensures ∙ ap (stamp_number c.args.form) rest in
    late c.args.form c.args.bytes.now (omega (arith, same))

pub returns-then-seq-eq0 : goal.returns-then-seq-eq0
returns-then-seq-eq0 c =
    let rest = back_at c.args.bytes.now c.split_at.result.1.now c.tail_len-tail.result (tail_len c.args.form) c.split_at.ensures.back c.tail_len-tail.ensures.value in
    let trailer = trailer_at c.split_at.result.1.now c.split_at-2.result.1.now c.tail_len-tail.result (tail_len c.args.form) c.read_u64-trailer.result c.read_u64-trailer.ensures c.split_at-2.ensures.back c.tail_len-tail.ensures.value in
    unnumbered c.args.form c.args.bytes.now (ap (λ (n : ℕ). n / 256) (trailer_in c.args.bytes.now c.split_at.result.1.now (tail_len c.args.form) c.read_u64-trailer.result trailer rest) ∙ c.if-seq-eq0.true)

pub returns-in-Some : goal.returns-in-Some
returns-in-Some c =
    let rest = back_at c.args.bytes.now c.split_at.result.1.now c.tail_len-tail.result (tail_len c.args.form) c.split_at.ensures.back c.tail_len-tail.ensures.value in
    let key = front_at c.args.bytes.now c.split_at.result.0.now c.tail_len-tail.result (tail_len c.args.form) c.split_at.ensures.front c.tail_len-tail.ensures.value in
    let trailer = trailer_at c.split_at.result.1.now c.split_at-2.result.1.now c.tail_len-tail.result (tail_len c.args.form) c.read_u64-trailer.result c.read_u64-trailer.ensures c.split_at-2.ensures.back c.tail_len-tail.ensures.value in
    is_spelled c.args.form c.args.bytes.now c.split_at.result.0.now c.split_at.result.1.now c.stamp_of-ts.result c.read_u64-trailer.result c.in-Some.kind (λ i. omega (arith, c.type_inv.bytes i))
    (omega arith) (omega arith) key rest c.stamp_of-ts.ensures (omega arith) trailer c.if-seq-eq0.false c.in-Some.ensures

pub returns-in-None : goal.returns-in-None
returns-in-None c =
    let rest = back_at c.args.bytes.now c.split_at.result.1.now c.tail_len-tail.result (tail_len c.args.form) c.split_at.ensures.back c.tail_len-tail.ensures.value in
    let trailer = trailer_at c.split_at.result.1.now c.split_at-2.result.1.now c.tail_len-tail.result (tail_len c.args.form) c.read_u64-trailer.result c.read_u64-trailer.ensures c.split_at-2.ensures.back c.tail_len-tail.ensures.value in
    let same = trailer_in c.args.bytes.now c.split_at.result.1.now (tail_len c.args.form) c.read_u64-trailer.result trailer rest in
    unkind c.args.form c.args.bytes.now (λ k h. c.in-None.ensures k (h ∙ ap (λ (n : ℕ). n % 256) same))
