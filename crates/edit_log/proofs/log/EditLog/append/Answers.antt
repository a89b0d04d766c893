use Rattle.std.proofs.Common.{◌≡◌, ℕ, List, subst}
use Rattle.gate_log.specs.Frames.{with_frame}
use Rattle.edit_log.proofs.Changes.{none_prepared, prepared_one, prepared_fold, prepared_body, prepared_room, prepared_text, with_edit, ready_with, edit_moments, ready_log}
use Rattle.edit_log.proofs.log.EditLog.append.Goals as goal

pub unreachable-requires : goal.unreachable-requires
unreachable-requires g c = none_prepared g.F.DiskFile c.args.self.now c.args.edit.now c.take.result c.take.ensures.value c.in_default.not-Some c.requires.reserved

pub append-requires-clause-size : goal.append-requires-clause-size
append-requires-clause-size g c lifetimes live =
    let old = c.args.self.now in
    let next = prepared_one g.F.DiskFile old c.args.edit.now c.take.result c.in-Some.next c.take.ensures.value c.in-Some.is c.requires.reserved in
    prepared_body g.F.DiskFile old c.args.edit.now c.in-Some.next c.deref.result.now next c.deref.ensures.value

pub append-requires-clause-room : goal.append-requires-clause-room
append-requires-clause-room g c lifetimes live =
    let old = c.args.self.now in
    let next = prepared_one g.F.DiskFile old c.args.edit.now c.take.result c.in-Some.next c.take.ensures.value c.in-Some.is c.requires.reserved in
    prepared_room g.F.DiskFile old c.args.edit.now c.in-Some.next c.deref.result.now next c.deref.ensures.value

pub append-requires-clause-ready : goal.append-requires-clause-ready
append-requires-clause-ready g c lifetimes live = ready_log g.F.DiskFile c.args.self.now c.requires.ready

pub returns-in_err-append-clause-moments : goal.returns-in_err-append-clause-moments
returns-in_err-append-clause-moments g c head start rest =
    let old = c.args.self.now in
    let next = prepared_one g.F.DiskFile old c.args.edit.now c.take.result c.in-Some.next c.take.ensures.value c.in-Some.is c.requires.reserved in
    edit_moments g.F.DiskFile old c.args.edit.now c.in-Some.next c.deref.result.now next c.deref.ensures.value _ head start c.requires.accepted c.append.ensures.moments rest

pub returns-clause-appended : goal.returns-clause-appended
returns-clause-appended g c head start shows =
    let old = c.args.self.now in
    let next = prepared_one g.F.DiskFile old c.args.edit.now c.take.result c.in-Some.next c.take.ensures.value c.in-Some.is c.requires.reserved in
    with_edit g.F.DiskFile old c.args.edit.now c.in-Some.next c.deref.result.now next c.deref.ensures.value _ head start c.requires.accepted
    (prepared_fold g.F.DiskFile old c.args.edit.now c.in-Some.next c.deref.result.now next c.deref.ensures.value) c.in_ok-append.ensures.appended shows

pub returns-clause-fold : goal.returns-clause-fold
returns-clause-fold g c =
    let old = c.args.self.now in
    let next = prepared_one g.F.DiskFile old c.args.edit.now c.take.result c.in-Some.next c.take.ensures.value c.in-Some.is c.requires.reserved in
    prepared_fold g.F.DiskFile old c.args.edit.now c.in-Some.next c.deref.result.now next c.deref.ensures.value

pub returns-clause-moments : goal.returns-clause-moments
returns-clause-moments g c head start rest =
    let old = c.args.self.now in
    let next = prepared_one g.F.DiskFile old c.args.edit.now c.take.result c.in-Some.next c.take.ensures.value c.in-Some.is c.requires.reserved in
    edit_moments g.F.DiskFile old c.args.edit.now c.in-Some.next c.deref.result.now next c.deref.ensures.value _ head start c.requires.accepted c.append.ensures.moments rest

pub returns-clause-written : goal.returns-clause-written
returns-clause-written g c told =
    let f = g.F.DiskFile in
    let old = c.args.self.now in
    let next = prepared_one f old c.args.edit.now c.take.result c.in-Some.next c.take.ensures.value c.in-Some.is c.requires.reserved in
    let text = prepared_text f old c.args.edit.now c.in-Some.next c.deref.result.now next c.deref.ensures.value in
    subst (λ (body : List ℕ). f.seen c.append.new.self.file ≡ with_frame (f.seen old.log.file) old.log.end body) text (c.in_ok-append.ensures.written told)

pub returns-clause-still_ready : goal.returns-clause-still_ready
returns-clause-still_ready g c =
    let old = c.args.self.now in
    let next = prepared_one g.F.DiskFile old c.args.edit.now c.take.result c.in-Some.next c.take.ensures.value c.in-Some.is c.requires.reserved in
    ready_with g.F.DiskFile old c.args.edit.now c.in-Some.next c.deref.result.now next c.deref.ensures.value _ c.requires.accepted
    (prepared_fold g.F.DiskFile old c.args.edit.now c.in-Some.next c.deref.result.now next c.deref.ensures.value) c.in_ok-append.ensures.appended c.append.ensures.same.told c.requires.ready
