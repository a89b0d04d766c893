use Rattle.std.proofs.Common.{sym, ap, ◌∙◌, inl, inr}
use Rattle.udt_model.specs.Steps.{reply_of_read}
use Rattle.engine_laws.specs.Joints.{IsNowLast}
use Rattle.solo_store.proofs.Events.{get_absent, get_found}
use Rattle.solo_store.proofs.store.Store.get.Goals as goal

pub returns-in-None : goal.returns-in-None
returns-in-None g c number =
    let d = g.D.Disk in
    let f = g.D.File.DiskFile in
    let last : IsNowLast d f = record {
      disk = λ x n image left. (g.met.D.Disk g.world.𝓛 g.world.𝓜 g.world.𝓡 ((λ s x. x), (λ x. x), (λ x. x), λ x. x)).only_now x n image left;
      file = λ x image left. (g.met.D.File.DiskFile g.world.𝓛 g.world.𝓜 g.world.𝓡 ((λ s x. x), (λ x. x), (λ x. x), λ x. x)).only_now x image left;
    } in
    get_absent d f last c.args.self.now c.requires number c.args.family.now c.as_ref-now.result.now c.family_of-family.result c.as_ref-now.ensures c.family_of-family.ensures c.args.key.now c.args.t c.in-None.ensures

pub returns-in-Some : goal.returns-in-Some
returns-in-Some g c number =
    let d = g.D.Disk in
    let f = g.D.File.DiskFile in
    let last : IsNowLast d f = record {
      disk = λ x n image left. (g.met.D.Disk g.world.𝓛 g.world.𝓜 g.world.𝓡 ((λ s x. x), (λ x. x), (λ x. x), λ x. x)).only_now x n image left;
      file = λ x image left. (g.met.D.File.DiskFile g.world.𝓛 g.world.𝓜 g.world.𝓡 ((λ s x. x), (λ x. x), (λ x. x), λ x. x)).only_now x image left;
    } in
    let got = rw c.bytes.ensures.bytes at (c.get.ensures c.in-Some.field-0.now (sym c.in-Some.ensures)) in
    get_found d f last c.args.self.now c.requires number c.args.family.now c.as_ref-now.result.now c.family_of-family.result c.as_ref-now.ensures c.family_of-family.ensures c.args.key.now c.args.t
    c.in-Some.field-0.now c.reply_of_read.result c.in-Some.ensures
    (elim c.reply_of_read.ensures [ inl told ↦ inl (told ∙ ap reply_of_read got) | inr want ↦ inr want ])
