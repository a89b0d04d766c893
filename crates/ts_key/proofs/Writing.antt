-- Writers, one after another.
use Rattle.std.proofs.Common.{ℕ, List, ◌++◌, ap, ◌∙◌}
use Rattle.std.proofs.lemmas.List.{append_assoc}
use Rattle.ts_key.specs.Writing.{Extends}

pub extends_on : {old mid new : List ℕ} → Extends mid new → Extends old mid → Extends old new
extends_on {old = old} b a = record {
  more = a.more ++ b.more;
  is = b.is ∙ ap (λ (xs : List ℕ). xs ++ b.more) a.is ∙ append_assoc old a.more b.more;
}
