-- That two forms are one has at most one proof.
use Rattle.std.specs.Prelude.{◌≡◌, ℕ, zero, suc, refl}
use Rattle.std.specs.Coded.{Coded, Coded-set, code_by, coded_ℕ}
use Rattle.ts_key.specs.declared.version.Form.{Form}
use Rattle.ts_key.specs.declared.version.Form.TheVariants.{Persist, Strip}

abbrev form_at : ℕ → Form
form_at zero = Persist
form_at (suc n) = Strip

abbrev form_code : Form → ℕ
form_code Persist = 0
form_code Strip = 1

form_back : (a : Form) → form_at (form_code a) ≡ a
form_back Persist = refl
form_back Strip = refl

coded_form : Coded Form
coded_form = code_by ℕ coded_ℕ form_code form_at form_back

pub form_prop : (a b : Form) → IsProp (a ≡ b)
form_prop a b = Coded-set coded_form a b
