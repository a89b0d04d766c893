use Rattle.std.proofs.Common.{◌≡◌, ◌+◌, ◌∙◌, length, ap, sym}
use Rattle.solo_runner.specs.Named.{accepted_unless}
use Rattle.solo_runner.proofs.Adding.{reply_found, refusal_leaves, refusal_sound}
use Rattle.solo_runner.proofs.store.PlainStore.write.Goals as goal

pub returns-in-Some-clause-reply : goal.returns-in-Some-clause-reply
returns-in-Some-clause-reply c =
    let m = c.args.self.now in
    ap (accepted_unless (m.last.0 + length c.args.ops.now)) (sym c.in-Some.is)
    ∙ reply_found m c.args.ops.now c.in_ok-refusal.field-0 c.admit.ensures.works c.in_ok-refusal.ensures.refusal

pub returns-in-Some-clause-ok : goal.returns-in-Some-clause-ok
returns-in-Some-clause-ok c = λ sync number.
    let same : c.admit.new.self ≡ c.args.self.now = rw c.in-Some.is at c.in_ok-refusal.ensures.ok in
    same ∙ sym (refusal_leaves c.args.self.now number c.args.ops.now sync c.in-Some.refusal (rw c.in-Some.is at c.in_ok-refusal.ensures.built))

pub returns-in-Some-clause-sound : goal.returns-in-Some-clause-sound
returns-in-Some-clause-sound c = refusal_sound c.in-Some.refusal (rw c.in-Some.is at c.in_ok-refusal.ensures.built)

pub returns-in-None-clause-reply : goal.returns-in-None-clause-reply
returns-in-None-clause-reply c =
    let m = c.args.self.now in
    let told = c.in_ok-refusal.ensures in
    let last : c.admit.new.self.last.0 ≡ m.last.0 = ap (λ s. s.last.0) (rw c.in-None.is at told.ok) in
    rw (c.number.ensures.reply, last)
    (ap (accepted_unless (m.last.0 + length c.args.ops.now)) (sym c.in-None.is)
    ∙ reply_found m c.args.ops.now c.in_ok-refusal.field-0 c.admit.ensures.works told.refusal)
