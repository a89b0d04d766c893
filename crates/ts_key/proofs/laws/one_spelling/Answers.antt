use Rattle.ts_key.proofs.StoredKeys.{one_spelling}
use Rattle.ts_key.proofs.laws.one_spelling.Goals as goal

pub returns : goal.returns
returns c = one_spelling
