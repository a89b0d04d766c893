use Rattle.std.proofs.Common.{◌≡◌, ℕ, ◌+◌, ◌≤◌, min, max, drop, sym, ap, ◌∙◌, arith}
use Rattle.std.proofs.lemmas.Bool.Decides.{nat_tests}
use Rattle.std.proofs.lemmas.List.{at_drop_more, at_drop_all}
use Rattle.ts_key.specs.declared.version.Version.{Version}
use Rattle.udt_model.specs.Collecting as collecting
use Rattle.strip.proofs.cutoff.Goals as goal

begins : (n m : ℕ) → min (max 0 n) m ≡ min n m
begins n m = grind (arith, nat_tests)

-- one version further
goes_on : (old t rest most new : ℕ) → new ≡ max (min (t + 1) most) old → min (max new rest) most ≡ min (max old (max (t + 1) rest)) most
goes_on old t rest most new e = grind (arith, nat_tests)

stays_within : (old t most new : ℕ) → new ≡ max (min (t + 1) most) old → old ≤ most → new ≤ most
stays_within old t most new e l = grind (arith, nat_tests)

ends : (old most : ℕ) → old ≤ most → old ≡ min (max old 0) most
ends old most l = grind (arith, nat_tests)

pub loop-version-init : goal.loop-version-init
loop-version-init c = record { within = omega arith; rest = begins (collecting.cutoff c.args.versions.now) 18446744073709551615 }

pub loop-version-preserved : goal.loop-version-preserved
loop-version-preserved c =
    let xs = c.args.versions.now in
    let i = c.loop-version.version-index in
    let v = c.version-item.result in
    let left = collecting.cutoff (drop (i + 1) xs) in
    let next : collecting.cutoff (drop i xs) ≡ max (v.ts.0 + 1) left =
    at_drop_more collecting.cutoff xs i v c.loop-version-test.true ∙ ap (λ (w : Version). max (w.ts.0 + 1) left) (sym c.version-item.is) in
    let new : c.max-cutoff.result ≡ max (min (v.ts.0 + 1) 18446744073709551615) c.loop-version.cutoff = c.max-cutoff.ensures ∙ ap (λ n. max n c.loop-version.cutoff) c.saturating_add.ensures in
    record {
      within = stays_within c.loop-version.cutoff v.ts.0 18446744073709551615 c.max-cutoff.result new c.loop-version.invariant.within;
      rest = goes_on c.loop-version.cutoff v.ts.0 left 18446744073709551615 c.max-cutoff.result new
          ∙ ap (λ n. min (max c.loop-version.cutoff n) 18446744073709551615) (sym next) ∙ c.loop-version.invariant.rest;
    }

pub returns : goal.returns
returns c =
    ends c.loop-version.cutoff 18446744073709551615 c.loop-version.invariant.within
    ∙ ap (λ n. min (max c.loop-version.cutoff n) 18446744073709551615) (sym (at_drop_all collecting.cutoff c.args.versions.now c.loop-version.version-index c.loop-version-test.false))
    ∙ c.loop-version.invariant.rest
