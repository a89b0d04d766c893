use Rattle.std.proofs.Common.{◌≡◌, ◌++◌, ◌≤◌, List, ℕ, length, take, All, sym, ap, subst, ◌∙◌, arith}
use Rattle.std.specs.Prelude.{map}
use Rattle.std.proofs.lemmas.List.{take_all}
use Rattle.data_block.specs.declared.index.Entry.{Entry}
use Rattle.data_block.specs.Index.{items_at, IsWithin}
use Rattle.data_block.proofs.Rebased.{rebased, gathered_items, within_all}
use Rattle.data_block.proofs.gather.append.Goals as goal

pub returns-clause-within : goal.returns-clause-within
returns-clause-within c =
    let inv = c.loop-e.invariant in
    let x = c.args.x.now in
    let all = within_all c.args.keys.now.items x.keys.items c.args.image.now c.args.region.now c.args.from c.args.entries.now.items x.entries.items c.loop-e.e-index c.requires.before c.requires.within c.requires.inside in
    let es : c.loop-e.entries.items ≡ c.args.entries.now.items ++ map (rebased (length c.args.keys.now.items) c.args.from) (take c.loop-e.e-index x.entries.items) = inv.pushed ∙ ap (λ (b : ℕ). c.args.entries.now.items ++ map (rebased b c.args.from) (take c.loop-e.e-index x.entries.items)) inv.base in
    subst (λ (ks : List ℕ). All (IsWithin ks c.args.image.now) c.loop-e.entries.items) (sym inv.keys)
    (subst (λ (fs : List Entry). All (IsWithin (c.args.keys.now.items ++ x.keys.items) c.args.image.now) fs) (sym es) all)

pub returns-clause-items : goal.returns-clause-items
returns-clause-items c =
    let inv = c.loop-e.invariant in
    let x = c.args.x.now in
    let end : length x.entries.items ≤ c.loop-e.e-index = omega (arith, ap length inv.source, c.loop-e-test.false) in
    let es : c.loop-e.entries.items ≡ c.args.entries.now.items ++ map (rebased (length c.args.keys.now.items) c.args.from) x.entries.items = inv.pushed ∙ (λ i. c.args.entries.now.items ++ map (rebased (inv.base i) c.args.from) (take_all c.loop-e.e-index x.entries.items end i)) in
    (λ i. items_at (inv.keys i) c.args.image.now (es i))
    ∙ gathered_items c.args.keys.now.items x.keys.items c.args.image.now c.args.region.now c.args.from c.args.entries.now.items x.entries.items c.requires.before c.requires.within c.requires.there

pub returns-in_err-push-clause-within : goal.returns-in_err-push-clause-within
returns-in_err-push-clause-within c =
    let inv = c.loop-e.invariant in
    let x = c.args.x.now in
    let all = within_all c.args.keys.now.items x.keys.items c.args.image.now c.args.region.now c.args.from c.args.entries.now.items x.entries.items c.loop-e.e-index c.requires.before c.requires.within c.requires.inside in
    let es : c.push.new.self.items ≡ c.args.entries.now.items ++ map (rebased (length c.args.keys.now.items) c.args.from) (take c.loop-e.e-index x.entries.items) = c.in_err-push.ensures.items ∙ inv.pushed ∙ ap (λ (b : ℕ). c.args.entries.now.items ++ map (rebased b c.args.from) (take c.loop-e.e-index x.entries.items)) inv.base in
    subst (λ (ks : List ℕ). All (IsWithin ks c.args.image.now) c.push.new.self.items) (sym inv.keys)
    (subst (λ (fs : List Entry). All (IsWithin (c.args.keys.now.items ++ x.keys.items) c.args.image.now) fs) (sym es) all)
