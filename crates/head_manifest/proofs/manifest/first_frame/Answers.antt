use Rattle.std.proofs.Common.{◌≡◌, [], ◌∷◌, ap, ◌∙◌}
use Rattle.head_manifest.proofs.Makes.{first_written}
use Rattle.head_manifest.proofs.manifest.first_frame.Goals as goal

pub returns-in-Ok-append-clause-at_rest : goal.returns-in-Ok-append-clause-at_rest
returns-in-Ok-append-clause-at_rest g c told =
    let made = c.in_ok-log.ensures.at_rest told in
    c.in-Ok-append.ensures.appended [] (c.in-Ok.ensures.logged [] made.logged)

pub returns-in-Ok-append-clause-written : goal.returns-in-Ok-append-clause-written
returns-in-Ok-append-clause-written g c told =
    let f = g.F.DiskFile in
    let made = c.in_ok-log.log in
    let ready = c.reserve.new.self in
    let new = c.append.new.self in
    let rest = c.in_ok-log.ensures.at_rest told in
    let logged = c.in-Ok.ensures.logged [] rest.logged in
    let empty : f.seen ready.file ≡ 90 ∷ [] = ap f.seen c.reserve.ensures.file ∙ c.in_ok-log.ensures.written told in
    first_written ready.end (f.seen ready.file) (f.seen new.file) c.args.body.now logged.end empty (c.in-Ok-append.ensures.written logged.told)
