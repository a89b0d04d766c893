use Rattle.std.proofs.Common.{◌≡◌, length, Some, sym, ap, ◌∙◌, arith}
use Rattle.ts_key.specs.Lists.{standing}
use Rattle.block_table.specs.Contents.{first_key, last_user_key}
use Rattle.block_table.proofs.Tallying.{first_standing, last_standing, some_standing}
use Rattle.block_table.proofs.table.properties_in.Goals as goal

pub returns : goal.returns
returns c =
    let vs = c.args.versions.now in
    let some = c.requires in
    let tally = c.in_ok-tally.ensures in
    let own = c.in_ok-c.ensures in
    let one = some_standing vs 1 (omega arith) (omega arith) in
    let all = some_standing vs (length vs) (omega arith) (omega arith) in
    let first : Some one.0 ≡ standing c.in_ok-c.c.block.now c.in_ok-c.c.place = one.1 ∙ (λ i. standing (sym own.versions i) (sym own.first i)) in
    let end = c.seek_end.ensures.place in
    let back = c.prev.ensures.place in
    let at : length vs ≡ c.prev.new.self.place = omega (arith, end, back, ap length own.versions) in
    let are = c.prev.ensures.same ∙ c.seek_end.ensures.same ∙ own.versions in
    let last : Some all.0 ≡ standing c.prev.new.self.block.now c.prev.new.self.place = all.1 ∙ (λ i. standing (sym are i) (at i)) in
    let least : c.in_ok-least.least ≡ first_key vs = c.in_ok-least.ensures one.0 first ∙ first_standing vs one.0 one.1 in
    let greatest : c.in_ok-greatest.greatest ≡ last_user_key vs = c.in_ok-greatest.ensures all.0 last ∙ last_standing vs all.0 all.1 in
    λ i. record {
      family = c.args.head.now.family;
      form = c.args.head.now.form;
      count = (tally i).count;
      least = least i;
      greatest = greatest i;
      least_seq = (tally i).least_seq;
      greatest_seq = (tally i).greatest_seq;
      greatest_ts = (tally i).greatest_ts;
      collected_by = c.args.head.now.collected_by;
    }
