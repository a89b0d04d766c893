use Rattle.std.proofs.Common.{sym, ◌∙◌}
use Rattle.std.proofs.lemmas.Bool.{false≢true}
use Rattle.udt_disk.proofs.Births.{birth_at_home, birth_at_gone, unsynced}
use Rattle.udt_disk.proofs.tree.Place.birth.Goals.{then-file, else-file}
use Rattle.udt_disk.proofs.tree.Place.birth.Goals as goal

pub returns-after-file-clause-leaves : goal.returns-after-file-clause-leaves
returns-after-file-clause-leaves c =
    let f = c.in-Home.file in
    birth_at_home c.args.self.now f c.if-file.result c.in-Home.is (λ m. elim c.if-file.branch [
      | then-file w ↦ (sym f.synced ∙ unsynced f.was_synced (sym w.result-is ∙ m), w.if-file.true)
      | else-file w ↦ absurd (false≢true (sym w.if-file.false ∙ (sym w.result-is ∙ m)))
    ])

pub returns-in-Gone-clause-leaves : goal.returns-in-Gone-clause-leaves
returns-in-Gone-clause-leaves c = birth_at_gone c.args.self.now c.in-Gone.file c.in-Gone.is
