use Rattle.std.proofs.Common.{[], refl}
use Rattle.manifest_rows.proofs.tests.edits_on_disk.new_edits.Goals as goal

pub returns-in-Ok-append : goal.returns-in-Ok-append
returns-in-Ok-append c told =
    let start = c.in_ok-start.start in
    let empty = c.in-Ok.ensures.at_rest told in
    let rest = c.in-Ok-append.ensures.appended [] (c.reserve.ensures.logged [] empty.logged) in
    (_, start, c.of.ensures.shows _ start [] rest.logged refl)
