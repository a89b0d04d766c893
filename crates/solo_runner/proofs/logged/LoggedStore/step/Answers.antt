use Rattle.std.proofs.Common.{◌≡◌, ap, sym, ◌∙◌, subst}
use Rattle.udt_model.specs.declared.event.Event.{Event}
use Rattle.udt_model.specs.declared.event.Event.TheVariants.{Get}
use Rattle.client_lang.specs.Print.{IsBuilt}
use Rattle.solo_runner.specs.LoggedStores.{IsStep, store_state, wal_of}
use Rattle.solo_runner.proofs.StepLemmas.{no_snapshot}
use Rattle.solo_runner.proofs.logged.LoggedStore.step.Goals as goal

pub returns-in-Get : goal.returns-in-Get
returns-in-Get g c =
    let s = c.args.self.now in
    let none = no_snapshot c.in-Get.family c.in-Get.key c.in-Get.t c.in-Get.snap (subst IsBuilt c.in-Get.is c.requires.built) in
    let event : c.args.event.now ≡ Get c.in-Get.family c.in-Get.key c.in-Get.t _ = c.in-Get.is ∙ ap (Get c.in-Get.family c.in-Get.key c.in-Get.t) none in
    subst (λ (e : Event). IsStep g.F.DiskFile (wal_of s) (wal_of s) (store_state s) (store_state s) c.args.number e c.get.result) (sym event) (c.get.ensures c.args.number)
