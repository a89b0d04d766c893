use Rattle.std.proofs.Common.{◌≡◌, ◌≤◌, ◌+◌, ◌++◌, ◌⊎◌, List, [], ◌∷◌, length, drop, true, false, sym, ap, ◌∙◌, inl, inr, arith}
use Rattle.ts_key.specs.declared.version.Version.{Version}
use Rattle.sorted_run.specs.Sorts.{is_sorted_before, sorted}
use Rattle.sorted_run.proofs.Finds.{at_same}
use Rattle.sorted_run.proofs.Sorting.{merges_left, merges_right, merges_end}
use Rattle.sorted_run.proofs.merging.merged.Goals as goal
use Rattle.sorted_run.proofs.merging.merged.Goals.{then-loop-i-test+else-j-b, else-loop-i-test}

pub loop-i-preserved-then-is_before : goal.loop-i-preserved-then-is_before
loop-i-preserved-then-is_before c =
    let a = c.args.a.now in
    let b = c.args.b.now in
    let i = c.loop-i.i in
    let j = c.loop-i.j in
    let out = c.loop-i.out.items in
    let v = c.index-a-i.result in
    let w = c.index-b-j.result in
    let pushed : c.in_ok-copy.field-0 ≡ w = c.in_ok-copy.ensures ∙ at_same b j c.index-b-j-then-is_before.result w (omega arith) c.index-b-j-then-is_before.is c.index-b-j.is in
    let less : is_sorted_before w v ≡ true = sym c.is_before.ensures ∙ c.if-is_before.true in
    record {
      i_in = c.loop-i.invariant.i_in;
      j_in = omega arith;
      so_far = ap (λ (l : List Version). l ++ sorted (drop i a ++ drop (j + 1) b)) (c.in_ok-push.ensures.items ∙ ap (λ (u : Version). out ++ u ∷ []) pushed)
          ∙ merges_right a b out (sorted (a ++ b)) i j v w c.requires.a_order c.requires.b_order (omega arith) (omega arith) c.index-a-i.is c.index-b-j.is c.loop-i.invariant.so_far less;
    }

pub loop-i-preserved : goal.loop-i-preserved
loop-i-preserved c =
    let a = c.args.a.now in
    let b = c.args.b.now in
    let i = c.loop-i.i in
    let j = c.loop-i.j in
    let out = c.loop-i.out.items in
    let v = c.index-a-i.result in
    let w = c.index-b-j.result in
    let pushed : c.in_ok-copy-2.field-0 ≡ v = c.in_ok-copy-2.ensures ∙ at_same a i c.index-a-i-else-is_before.result v (omega arith) c.index-a-i-else-is_before.is c.index-a-i.is in
    let upto : is_sorted_before w v ≡ false = sym c.is_before.ensures ∙ c.if-is_before.false in
    record {
      i_in = omega arith;
      j_in = c.loop-i.invariant.j_in;
      so_far = ap (λ (l : List Version). l ++ sorted (drop (i + 1) a ++ drop j b)) (c.in_ok-push-2.ensures.items ∙ ap (λ (u : Version). out ++ u ∷ []) pushed)
          ∙ merges_left a b out (sorted (a ++ b)) i j v w c.requires.a_order c.requires.b_order (omega arith) (omega arith) c.index-a-i.is c.index-b-j.is c.loop-i.invariant.so_far upto;
    }

pub returns : goal.returns
returns c =
    let a = c.args.a.now in
    let b = c.args.b.now in
    let i = c.loop-i.i in
    let j = c.loop-i.j in
    let out = c.loop-i.out.items in
    let ends : (length a ≤ i) ⊎ (length b ≤ j) = elim c.loop-i-test.branch [ then-loop-i-test+else-j-b w ↦ inr (omega arith) | else-loop-i-test w ↦ inl (omega arith) ] in
    let first : c.copy_all.new.out.items ≡ out ++ c.split_at.result.1.now = c.in_ok-copy_all.ensures in
    let second : c.copy_all-2.new.out.items ≡ c.copy_all.new.out.items ++ c.split_at-2.result.1.now = c.in_ok-copy_all-2.ensures in
    second
    ∙ ap (λ (l : List Version). l ++ c.split_at-2.result.1.now) (first ∙ ap (λ (l : List Version). out ++ l) c.split_at.ensures.back)
    ∙ ap (λ (l : List Version). (out ++ drop i a) ++ l) c.split_at-2.ensures.back
    ∙ merges_end a b out (sorted (a ++ b)) i j c.requires.a_order c.requires.b_order ends c.loop-i.invariant.so_far
