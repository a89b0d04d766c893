-- How many bytes levels may have, and plans of all tables.
use Rattle.std.proofs.Common.{◌≡◌, ℕ, zero, suc, ◌+◌, ◌-◌, ◌*◌, ◌^◌, ◌≤◌, Bool, true, false, not, ◌&&◌, List, [], ◌∷◌, length, map, refl, sym, ap, ◌∙◌, arith}
use Rattle.std.specs.Prelude.{◌==◌, nat_lt, filter, Some}
use Rattle.ts_key.specs.declared.numbers.Family.{Family}
use Rattle.udt_model.specs.declared.reply.KeySpan.{KeySpan}
use Rattle.super_version.specs.Live.{Live}
use Rattle.compaction.specs.declared.sizes.TheConstants.{LEVEL1_BYTES, LOWEST_LEVEL}
use Rattle.compaction.specs.Plans.{Leveled, every, ranges_of, whole_of}

-- ten times as many a level further down
pub limit_next : (below limit : ℕ) → 1 ≤ below → below ≤ 5 → limit ≡ LEVEL1_BYTES * 10 ^ (below - 1) → limit * 10 ≡ LEVEL1_BYTES * 10 ^ (below + 1 - 1)
limit_next zero limit l h e = absurd (omega (arith, l))
limit_next (suc zero) limit l h e = omega (arith, e)
limit_next (suc (suc zero)) limit l h e = omega (arith, e)
limit_next (suc (suc (suc zero))) limit l h e = omega (arith, e)
limit_next (suc (suc (suc (suc zero)))) limit l h e = omega (arith, e)
limit_next (suc (suc (suc (suc (suc zero))))) limit l h e = omega (arith, e)
limit_next (suc (suc (suc (suc (suc (suc n)))))) limit l h e = absurd (omega (arith, h))

every_in : (us : List Leveled) → filter every us ≡ us
every_in [] = refl
every_in (u ∷ us) = ap (λ l. u ∷ l) (every_in us)

and_none : (b : Bool) → (b && false) ≡ false
and_none true = refl
and_none false = refl

none_deeper : (us : List Leveled) → filter (λ t. nat_lt LOWEST_LEVEL t.level && not (every t)) us ≡ []
none_deeper [] = refl
none_deeper (u ∷ us) = let e : (nat_lt LOWEST_LEVEL u.level && not (every u)) ≡ false = and_none (nat_lt LOWEST_LEVEL u.level) in rw e (none_deeper us)

pub whole_some : (family : Family) (us : List Leveled) (inputs : List Live) (deeper : List KeySpan) (b : Bool) → b ≡ (length us == 0) → b ≡ false → inputs ≡ map (λ t. t.table) us → deeper ≡ []
    → Some (record { family = family; inputs = inputs; level = LOWEST_LEVEL; deeper = deeper }) ≡ whole_of family us
whole_some family [] inputs deeper b e f i d = let k : true ≡ false = sym e ∙ f in cc
whole_some family (u ∷ us) inputs deeper b e f i d =
    let takes : inputs ≡ map (λ (t : Leveled). t.table) (filter every (u ∷ us)) = i ∙ ap (map (λ (t : Leveled). t.table)) (sym (every_in (u ∷ us))) in
    let below : deeper ≡ ranges_of (filter (λ t. nat_lt LOWEST_LEVEL t.level && not (every t)) (u ∷ us)) = d ∙ ap ranges_of (sym (none_deeper (u ∷ us))) in
    λ k. Some (record { family = family; inputs = takes k; level = LOWEST_LEVEL; deeper = below k })
