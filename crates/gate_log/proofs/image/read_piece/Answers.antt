use Rattle.std.proofs.Common.{◌≡◌, ◌≤◌, ◌<◌, ℕ, List, ◌++◌, length, take, drop, sym, ap, ◌∙◌, subst, rules, arith}
use Rattle.std.proofs.lemmas.List.{take_at}
use Rattle.gate_log.specs.Fronts.{IsFrontOf}
use Rattle.gate_log.proofs.Fronts.{front_more, front_last}
use Rattle.gate_log.proofs.image.read_piece.Goals as goal

pub returns-in-Ok-extend_from_slice-clause-front : goal.returns-in-Ok-extend_from_slice-clause-front
returns-in-Ok-extend_from_slice-clause-front g c told =
    let all = g.F.DiskFile.seen c.args.file.now in
    let old = c.args.front.now.bytes.items in
    let into = c.read_at.new.into in
    let n = c.in-Ok.count in
    let wide : length c.deref_mut.result.now ≡ 1048576 = ap length c.deref_mut.ensures.value ∙ c.args.front.now.size in
    let here : c.len.result ≡ length old = search rules in
    let read : take n into ≡ take 1048576 (drop (length old) all) = c.in-Ok.ensures.read told ∙ ap (λ (k : ℕ). take k (drop c.len.result all)) wide ∙ ap (λ (k : ℕ). take 1048576 (drop k all)) here in
    let room : length into ≡ c.args.front.now.piece.len = omega (arith, wide, c.read_at.auto.into, c.args.front.now.size, c.args.front.now.piece.ok.0) in
    let filled : c.deref.result.now ≡ into = c.deref.ensures.value ∙ take_at into (drop (length into) c.args.front.now.piece.items) c.args.front.now.piece.len room in
    let is : c.extend_from_slice.new.self.items ≡ old ++ take n into = c.in-Ok-extend_from_slice.ensures.items ∙ ap (λ (l : List ℕ). old ++ take n l) filled in
    subst (λ (l : List ℕ). IsFrontOf l all) (sym is) (front_more old into all n 1048576 (c.requires told) read)

pub returns-in-Ok-extend_from_slice-clause-last : goal.returns-in-Ok-extend_from_slice-clause-last
returns-in-Ok-extend_from_slice-clause-last g c fewer told =
    let all = g.F.DiskFile.seen c.args.file.now in
    let old = c.args.front.now.bytes.items in
    let into = c.read_at.new.into in
    let n = c.in-Ok.count in
    let wide : length c.deref_mut.result.now ≡ 1048576 = ap length c.deref_mut.ensures.value ∙ c.args.front.now.size in
    let here : c.len.result ≡ length old = search rules in
    let read : take n into ≡ take 1048576 (drop (length old) all) = c.in-Ok.ensures.read told ∙ ap (λ (k : ℕ). take k (drop c.len.result all)) wide ∙ ap (λ (k : ℕ). take 1048576 (drop k all)) here in
    let room : length into ≡ c.args.front.now.piece.len = omega (arith, wide, c.read_at.auto.into, c.args.front.now.size, c.args.front.now.piece.ok.0) in
    let filled : c.deref.result.now ≡ into = c.deref.ensures.value ∙ take_at into (drop (length into) c.args.front.now.piece.items) c.args.front.now.piece.len room in
    let is : c.extend_from_slice.new.self.items ≡ old ++ take n into = c.in-Ok-extend_from_slice.ensures.items ∙ ap (λ (l : List ℕ). old ++ take n l) filled in
    let within : n ≤ length into = omega (arith, c.in-Ok.ensures.bound, wide, c.read_at.auto.into) in
    let less : n < 1048576 = grind (arith, c.in-Ok.ensures.bound, wide) in
    is ∙ front_last old into all n 1048576 (c.requires told) read within less
