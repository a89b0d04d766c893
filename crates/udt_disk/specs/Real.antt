-- What tells nothing.
use Rattle.std.specs.Prelude.{false, IsTrue}
use Rattle.std.proofs.lemmas.Bool.{false≢true}

pub not_told : {A : Type 0} → IsTrue false → A
not_told told = absurd (false≢true told)
