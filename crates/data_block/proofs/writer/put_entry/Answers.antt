use Rattle.std.proofs.Common.{◌≡◌, ℕ, ◌-◌, List, ◌++◌, length, ap, subst, ◌∙◌, append_assoc}
use Rattle.std.specs.Prelude.{OnOk}
use Rattle.ts_key.specs.Numbers.{number_bytes}
use Rattle.data_block.proofs.writer.put_entry.Goals as goal

regrouped : (o a b c d e : List ℕ) → ((((o ++ a) ++ b) ++ c) ++ d) ++ e ≡ o ++ ((((a ++ b) ++ c) ++ d) ++ e)
regrouped o a b c d e = simp append_assoc

pub returns-clause-written : goal.returns-clause-written
returns-clause-written c =
    let shared = number_bytes 2 c.args.shared in
    let unshared = number_bytes 2 (length c.args.key.now - c.args.shared) in
    let size = number_bytes 4 (length c.args.value.now) in
    let two = c.in_ok-put_u16-2.ensures.written ∙ ap (λ (x : List ℕ). x ++ unshared) c.in_ok-put_u16.ensures.written in
    let three = c.in_ok-put_u32.ensures.written ∙ ap (λ (x : List ℕ). x ++ size) two in
    let four = c.in_ok-put_bytes.ensures.written ∙ (λ i. three i ++ c.split_at.ensures.back i) in
    let whole = ap (λ (x : List ℕ). x ++ c.args.value.now) four ∙ regrouped c.args.out.now.items shared unshared size _ c.args.value.now in
    let Written : List ℕ → Type 0 = λ x. OnOk c.put_bytes-2.result (c.put_bytes-2.new.out.items ≡ x) in
    subst Written whole c.put_bytes-2.ensures.written
