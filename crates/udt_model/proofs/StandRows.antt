-- Versions that don't stand for a list.
use Rattle.std.proofs.Common.{arith, ◌≡◌, ℕ, List, [], ◌∷◌, codes, refl, sym, ap, ◌∙◌}
use Rattle.ts_key.specs.declared.numbers.Family.{Family}
use Rattle.ts_key.specs.declared.version.Op.TheVariants as ops
use Rattle.ts_key.specs.declared.version.Form.TheVariants.{Persist}
use Rattle.ts_key.specs.declared.version.Version.{Version}
use Rattle.udt_model.specs.Standing.{Stands}

abbrev number : ℕ → Family
number n = record { 0 = n }

abbrev put : ℕ → ℕ → ℕ → Version
put family ts seq = record { family = number family; key = codes "a"; ts = record { 0 = ts }; seq = record { 0 = seq }; op = ops.Put (codes "v") }

-- the timestamps of a key fall
pub not_fallen : (w : List Version) → Stands (number 0) Persist (put 0 9 1 ∷ put 0 5 2 ∷ []) w (record { 0 = 0 }) [] → ⊥
not_fallen w h = let falls = h.rising (put 0 9 1) (put 0 5 2) (0, omega arith, refl) (1, omega arith, refl) refl (omega arith) in omega (arith, falls)

-- it is of another family
pub not_another : (w : List Version) → Stands (number 0) Persist (put 1 5 1 ∷ []) w (record { 0 = 0 }) [] → ⊥
not_another w h =
    let source = h.images 0 (put 1 5 1) (omega arith) in
    let family : 0 ≡ 1 = ap (λ (f : Family). f.0) (sym source.2 ∙ sym (ap (λ (v : Version). v.family) source.3)) in
    omega (arith, family)
