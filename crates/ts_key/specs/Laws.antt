-- Laws of stored keys.
use Rattle.std.specs.Prelude.{◌≡◌}
use Rattle.ts_key.specs.declared.version.Form.{Form}
use Rattle.ts_key.specs.declared.version.Kind.{Kind}
use Rattle.ts_key.specs.Order.{SortKey}
use Rattle.ts_key.specs.StoredKeys.{stored_key, IsStored}

-- two stored keys with the same bytes are the same
abbrev pub OneSpelling : Type 0
OneSpelling = (form : Form) (k l : SortKey) (a b : Kind) → IsStored form k → IsStored form l → stored_key form k a ≡ stored_key form l b → (k ≡ l) × (a ≡ b)
