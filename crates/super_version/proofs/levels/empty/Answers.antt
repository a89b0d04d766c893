use Rattle.std.proofs.Common.{◌≡◌, ℕ, zero, suc, ◌+◌, ◌<◌, List, [], ◌∷◌, ◌++◌, length, map, take, refl, sym, ap, ◌∙◌, arith}
use Rattle.std.specs.Arc.{arc_value}
use Rattle.std.proofs.lemmas.List.{length_push, map-append}
use Rattle.super_version.specs.Live.{Live}
use Rattle.super_version.specs.Changes.{no_levels}
use Rattle.super_version.proofs.levels.empty.Goals as goal

levels_more : (n : ℕ) → n < 7 → take n no_levels ++ [] ∷ [] ≡ take (n + 1) no_levels
levels_more zero l = refl
levels_more (suc zero) l = refl
levels_more (suc (suc zero)) l = refl
levels_more (suc (suc (suc zero))) l = refl
levels_more (suc (suc (suc (suc zero)))) l = refl
levels_more (suc (suc (suc (suc (suc zero))))) l = refl
levels_more (suc (suc (suc (suc (suc (suc zero)))))) l = refl
levels_more (suc (suc (suc (suc (suc (suc (suc n))))))) l = absurd (omega arith)

pub loop-alloc-preserved : goal.loop-alloc-preserved
loop-alloc-preserved c =
    let old = c.loop-alloc.levels.items in
    let item = c.in_ok-new.field-0 in
    let items : c.push.new.self.items ≡ old ++ item ∷ [] = c.in_ok-push.ensures.items in
    let more : length c.push.new.self.items ≡ length old + 1 = ap length items ∙ length_push old item in
    let below : length old < 7 = omega (arith, c.loop-alloc.levels.ok.0) in
    let level : arc_value item ≡ [] = c.in_ok-new.ensures.ok ∙ c.in_ok-level.ensures in
    record {
      few = omega (arith, more, below);
      none =
          ap (map arc_value) items
          ∙ map-append arc_value old (item ∷ [])
          ∙ ap (λ (l : List (List Live)). l ++ arc_value item ∷ []) c.loop-alloc.invariant.none
          ∙ ap (λ (l : List Live). take (length old) no_levels ++ l ∷ []) level
          ∙ levels_more (length old) below
          ∙ ap (λ (n : ℕ). take n no_levels) (sym more);
    }
