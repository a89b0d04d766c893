use Rattle.std.proofs.Common.{◌≡◌, Some, sym, ap, ◌∙◌}
use Rattle.std.specs.Option.{option_copied}
use Rattle.super_version.specs.declared.family.FamilyState.{FamilyState}
use Rattle.super_version.specs.Contents.{items_of_family}
use Rattle.udt_model.specs.Scans.{Range}
use Rattle.ts_iterator.specs.Rests.{in_order_of}
use Rattle.ts_iterator.specs.Rows.{least_key, range_rows}
use Rattle.ts_iterator.proofs.Whole.{whole_rows}
use Rattle.ts_iterator.proofs.scan.Scan.new.Goals as goal

the_state : (f g : FamilyState) → Some f ≡ Some g → f ≡ g
the_state f g e = cc

pub returns-clause-rows : goal.returns-clause-rows
returns-clause-rows c = λ f e.
    let range : Range = record { low = option_copied c.args.low; high = option_copied c.args.high } in
    let is = the_state c.in-Some.state.now f (c.in-Some.ensures ∙ e) in
    c.in_ok-way.ensures
    ∙ ap (in_order_of c.args.forward)
    (ap (λ (g : FamilyState). range_rows (items_of_family g) g.floor (least_key range.low) range.high c.args.t.0 c.args.s.0) is
    ∙ sym (whole_rows c.args.family f.floor (items_of_family f) c.args.t c.args.s range))
