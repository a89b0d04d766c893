-- What stands at the ends of properties.
use Rattle.std.proofs.Common.{◌≡◌, ℕ, ◌+◌, ◌-◌, ◌^◌, ◌<◌, ◌≤◌, List, [], ◌∷◌, ◌++◌, length, take, drop, get_or, refl, sym, ap, ◌∙◌, arith, length-append, append_assoc}
use Rattle.std.proofs.lemmas.List.{append-nil, take_at, drop_at}
use Rattle.ts_key.specs.Numbers.{number_bytes}
use Rattle.ts_key.proofs.NumberBytes.{length-number_bytes, number_bytes-unique}
use Rattle.ts_key.specs.declared.version.Form.{Form}
use Rattle.ts_key.specs.declared.version.Form.TheVariants.{Persist, Strip}
use Rattle.block_table.specs.declared.properties.Properties.{Properties}
use Rattle.block_table.specs.Tables.{form_number, properties_range, properties_numbers, properties_front, properties}

pub number_once : (n x y : ℕ) → x < 256 ^ n → y < 256 ^ n → number_bytes n x ≡ number_bytes n y → x ≡ y
number_once n x y a b e = (number_bytes-unique n x y [] [] a b (append-nil (number_bytes n x) ∙ e ∙ sym (append-nil (number_bytes n y)))).0

pub form_once : (a b : Form) → form_number a ≡ form_number b → a ≡ b
form_once Persist Persist e = refl
form_once Strip Strip e = refl
form_once Persist Strip e = absurd (omega (arith, e))
form_once Strip Persist e = absurd (omega (arith, e))

pub form_small : (a : Form) (n : ℕ) → form_number a ≡ n → n < 2
form_small Persist n e = omega (arith, e)
form_small Strip n e = omega (arith, e)

regroup : (f a r s : List ℕ) (x : ℕ) → f ++ x ∷ [] ++ a ++ r ++ s ≡ f ++ (x ∷ (a ++ (r ++ s)))
regroup f a r s x = simp append_assoc

-- the ends of the bytes of properties
pub record Ended (bytes : List ℕ) (p : Properties) : Type 0 where
  pub enough : 13 ≤ length bytes
  pub family : take 4 bytes ≡ number_bytes 4 p.family.0
  pub form : get_or (drop 4 bytes) 0 0 ≡ form_number p.form
  pub collected_by : drop (length bytes - 8) bytes ≡ number_bytes 8 p.collected_by.0

pub ended : (bytes : List ℕ) (p : Properties) → bytes ≡ properties p → Ended bytes p
unfolding properties_front
ended bytes p e =
    let f = number_bytes 4 p.family.0 in
    let x = form_number p.form in
    let by = number_bytes 8 p.collected_by.0 in
    let count = number_bytes 8 p.count in
    let more = count ++ (properties_range p ++ properties_numbers p) in
    let front : properties_front p ≡ f ++ (x ∷ more) = regroup f count (properties_range p) (properties_numbers p) x in
    let whole : bytes ≡ (f ++ (x ∷ more)) ++ by = e ∙ ap (λ (xs : List ℕ). xs ++ by) front in
    let grouped : bytes ≡ f ++ (x ∷ (more ++ by)) = whole ∙ append_assoc f (x ∷ more) by in
    let len : length bytes ≡ length (f ++ (x ∷ more)) + 8 = ap length whole ∙ length-append (f ++ (x ∷ more)) by ∙ ap (λ (n : ℕ). length (f ++ (x ∷ more)) + n) (length-number_bytes 8 p.collected_by.0) in
    let f4 : length f ≡ 4 = length-number_bytes 4 p.family.0 in
    let flen : length (f ++ (x ∷ more)) ≡ 5 + length more = length-append f (x ∷ more) ∙ omega (arith, f4) in
    let back : length (f ++ (x ∷ more)) ≡ length bytes - 8 = omega (arith, len) in
    let dropped : drop 4 bytes ≡ x ∷ (more ++ by) = ap (drop 4) grouped ∙ drop_at f (x ∷ (more ++ by)) 4 f4 in
    record {
      enough = omega (arith, len, flen);
      family = ap (take 4) grouped ∙ take_at f (x ∷ (more ++ by)) 4 f4;
      form = ap (λ (xs : List ℕ). get_or xs 0 0) dropped;
      collected_by = ap (drop (length bytes - 8)) whole ∙ drop_at (f ++ (x ∷ more)) by (length bytes - 8) back;
    }
