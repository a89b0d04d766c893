use Rattle.std.proofs.Common.{arith}
use Rattle.block_table.proofs.Footers.{Split, footed, parted, long}
use Rattle.block_table.proofs.parts.parts_of.Goals as goal

pub returns-then-image-lt-FOOTER_LEN-clause-parts : goal.returns-then-image-lt-FOOTER_LEN-clause-parts
returns-then-image-lt-FOOTER_LEN-clause-parts c = λ b i p e. let l = long c.args.image.now b i p e in omega arith

pub returns-then-not-is_magic-clause-parts : goal.returns-then-not-is_magic-clause-parts
returns-then-not-is_magic-clause-parts c = λ b i p e.
    let h : Split c.args.image.now c.split_at.result.0.now c.split_at.result.1.now c.split_at-2.result.0.now c.split_at-2.result.1.now c.split_at-3.result.0.now c.split_at-3.result.1.now c.u64_of-index_at.result c.u64_of-properties_at.result = record {
      whole = c.split_at.ensures.by_index.0;
      size = omega arith;
      cut_first = c.split_at-2.ensures.by_index.0;
      cut_second = c.split_at-3.ensures.by_index.0;
      index_at = c.u64_of-index_at.ensures;
      properties_at = c.u64_of-properties_at.ensures;
      small_index = omega arith;
      small_properties = omega arith;
      small = omega arith;
    } in
    let f = footed _ _ _ _ _ _ _ _ _ b i p h e in
    let t = c.is_magic.ensures.1 f.magic_is in
    let q = c.if-not-is_magic.true in
    cc

pub returns-then-index_at-properties_at-clause-parts : goal.returns-then-index_at-properties_at-clause-parts
returns-then-index_at-properties_at-clause-parts c = λ b i p e.
    let h : Split c.args.image.now c.split_at.result.0.now c.split_at.result.1.now c.split_at-2.result.0.now c.split_at-2.result.1.now c.split_at-3.result.0.now c.split_at-3.result.1.now c.u64_of-index_at.result c.u64_of-properties_at.result = record {
      whole = c.split_at.ensures.by_index.0;
      size = omega arith;
      cut_first = c.split_at-2.ensures.by_index.0;
      cut_second = c.split_at-3.ensures.by_index.0;
      index_at = c.u64_of-index_at.ensures;
      properties_at = c.u64_of-properties_at.ensures;
      small_index = omega arith;
      small_properties = omega arith;
      small = omega arith;
    } in
    let f = footed _ _ _ _ _ _ _ _ _ b i p h e in
    omega (arith, f.index_at, f.properties_at)

pub returns-then-properties_at-front_len-clause-parts : goal.returns-then-properties_at-front_len-clause-parts
returns-then-properties_at-front_len-clause-parts c = λ b i p e.
    let h : Split c.args.image.now c.split_at.result.0.now c.split_at.result.1.now c.split_at-2.result.0.now c.split_at-2.result.1.now c.split_at-3.result.0.now c.split_at-3.result.1.now c.u64_of-index_at.result c.u64_of-properties_at.result = record {
      whole = c.split_at.ensures.by_index.0;
      size = omega arith;
      cut_first = c.split_at-2.ensures.by_index.0;
      cut_second = c.split_at-3.ensures.by_index.0;
      index_at = c.u64_of-index_at.ensures;
      properties_at = c.u64_of-properties_at.ensures;
      small_index = omega arith;
      small_properties = omega arith;
      small = omega arith;
    } in
    let f = footed _ _ _ _ _ _ _ _ _ b i p h e in
    omega (arith, f.properties_at, f.long_front)

pub returns-clause-parts : goal.returns-clause-parts
returns-clause-parts c =
    let h : Split c.args.image.now c.split_at.result.0.now c.split_at.result.1.now c.split_at-2.result.0.now c.split_at-2.result.1.now c.split_at-3.result.0.now c.split_at-3.result.1.now c.u64_of-index_at.result c.u64_of-properties_at.result = record {
      whole = c.split_at.ensures.by_index.0;
      size = omega arith;
      cut_first = c.split_at-2.ensures.by_index.0;
      cut_second = c.split_at-3.ensures.by_index.0;
      index_at = c.u64_of-index_at.ensures;
      properties_at = c.u64_of-properties_at.ensures;
      small_index = omega arith;
      small_properties = omega arith;
      small = omega arith;
    } in
    parted _ _ _ _ _ _ _ c.split_at-4.result.0.now c.split_at-4.result.1.now c.split_at-5.result.0.now c.split_at-5.result.1.now _ _ h (c.is_magic.ensures.0 c.if-not-is_magic.false) c.split_at-4.ensures.by_index.0 c.split_at-4.ensures.front_len c.split_at-5.ensures.by_index.0 c.split_at-5.ensures.front_len
