use Rattle.std.proofs.Common.{◌≡◌, take}
use Rattle.std.specs.Prelude.{All}
use Rattle.ts_key.specs.Items.{items_of}
use Rattle.ts_key.specs.declared.numbers.Family.{Family}
use Rattle.block_table.specs.Pushed.{HasPushed, contents_of}
use Rattle.block_table.proofs.write.writer_of.Given as goal

abbrev pub invariant-loop-v : goal.invariant-loop-v
invariant-loop-v l = record {
  form : l.w.form ≡ l.fn.form;
  pushed : (family : Family) → All (λ v. v.family ≡ family) l.versions → HasPushed l.w (contents_of family l.fn.form l.fn.collected_by (items_of (take l.v-index l.versions)));
}
