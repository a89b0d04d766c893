use Rattle.flush_job.specs.Walks.{walk_place}
use Rattle.std.specs.Option.{option_copied}
use Rattle.flush_job.proofs.Walking.{cursor_version, no_version}
use Rattle.flush_job.proofs.run_feed.version_at.Goals as goal

pub returns-in-None : goal.returns-in-None
returns-in-None c = λ stored.
    let merge = c.args.merge.now in
    no_version merge.children.items (walk_place merge.before merge.children.items) c.in-None.ensures.stands

pub returns-in-Some : goal.returns-in-Some
returns-in-Some c = λ stored.
    let merge = c.args.merge.now in
    cursor_version merge.children.items merge.lowest c.in-Some.cursor.now (walk_place merge.before merge.children.items) (option_copied c.version.result) stored
    c.in-Some.ensures.lowest c.in-Some.ensures.stands c.version.ensures
