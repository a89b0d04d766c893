use Rattle.std.proofs.Common.{◌≡◌, ◌*◌, ◌≤◌, ◌∷◌, [], length, arith, refl, ap, ◌∙◌, sym, subst, length-append}
use Rattle.std.specs.List.{flat_map, AllByRecursion}
use Rattle.std.proofs.lemmas.List.{take_all}
use Rattle.data_block.proofs.Written.{all_snoc}
use Rattle.block_table.specs.Tables.{handle_bytes}
use Rattle.block_table.specs.Indexes.{IsHandle}
use Rattle.block_table.proofs.Handles.{index_short, index_split, length-handles_bytes, index_there, handles_read}
use Rattle.block_table.proofs.index.read_index.Goals as goal

pub returns-then-bytes-lt4 : goal.returns-then-bytes-lt4
returns-then-bytes-lt4 c = λ hs are e. let l = index_short c.args.bytes.now hs e in omega arith

pub returns-then-rest-wanted : goal.returns-then-rest-wanted
returns-then-rest-wanted c = λ hs are e.
    let few = are.count in
    let s = index_split c.args.bytes.now c.split_at.result.0.now c.split_at.result.1.now c.u32_of-count.result hs c.split_at.ensures.by_index.0 c.u32_of-count.ensures (omega arith) few e in
    omega (arith, length-handles_bytes hs, ap length s.1, s.0)

pub loop-i-preserved : goal.loop-i-preserved
loop-i-preserved c =
    let inv = c.loop-i.invariant in
    let hs = c.loop-i.handles.items in
    let h = c.handle_of-h.result in
    let pushed = c.in_ok-push.ensures.items in
    record {
      count = ap length pushed ∙ length-append hs (h ∷ []) ∙ omega (arith, inv.count);
      each = subst (AllByRecursion IsHandle) (sym pushed) (all_snoc IsHandle hs h inv.each c.handle_of-h.ensures.fits);
      spelled = ap (flat_map handle_bytes) pushed ∙ handles_read c.split_at.result.1.now _ c.loop-i.i hs h inv.spelled refl c.handle_of-h.ensures.spelled;
    }

pub returns : goal.returns
returns c =
    let inv = c.loop-i.invariant in
    let hs = c.loop-i.handles.items in
    let rest = c.split_at.result.1.now in
    let count : length hs ≡ c.u32_of-count.result = omega (arith, inv.count) in
    let most : length rest ≤ c.loop-i.i * 20 = omega arith in
    (record { each = inv.each; count = omega (arith, count) }, index_there c.args.bytes.now c.split_at.result.0.now rest c.u32_of-count.result hs c.split_at.ensures.by_index.0 c.u32_of-count.ensures count (sym (inv.spelled ∙ take_all (c.loop-i.i * 20) rest most)))
