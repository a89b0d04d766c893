use Rattle.std.proofs.Common.{refl, rules}
use Rattle.client_runner.specs.Commands.{IsInitCommand, IsRunCommand, IsTryCommand}
use Rattle.client_runner.specs.Works.IsWork.{gives_up, inits, runs, tries}
use Rattle.client_runner.proofs.EndLemmas.{end_more, gave_up, stays_elsewhere}
use Rattle.client_runner.proofs.top.plain.Goals as goal

pub returns-in_default-clause-ends : goal.returns-in_default-clause-ends
returns-in_default-clause-ends g c = gave_up _ _ _ (gives_up c.in_default.ensures.no_memory refl refl (λ path. record { stands = refl; no_more = λ n image left. left }))

pub returns-in-Some-Try-clause-ends : goal.returns-in-Some-Try-clause-ends
returns-in-Some-Try-clause-ends g c =
    let t : IsTryCommand c.args.words.now c.in-Some-Try.path.now = search rules in
    end_more _ _ (λ status text w. tries c.in-Some-Try.path.now t w) _ _ _ _ c.try_file.ensures.ends

pub returns-in-Some-Init-clause-ends : goal.returns-in-Some-Init-clause-ends
returns-in-Some-Init-clause-ends g c =
    let i : IsInitCommand c.args.words.now c.in-Some-Init.folder.now c.in-Some-Init.head.families = search rules in
    end_more _ _ (λ status text w. inits c.in-Some-Init.folder.now c.in-Some-Init.head.families i w) _ _ _ _ c.init.ensures.ends

pub returns-in-Some-Run-clause-ends : goal.returns-in-Some-Run-clause-ends
returns-in-Some-Run-clause-ends g c =
    let r : IsRunCommand c.args.words.now c.in-Some-Run.folder.now c.in-Some-Run.file.now = search rules in
    end_more _ _ (λ status text w. runs c.in-Some-Run.folder.now c.in-Some-Run.file.now r w) _ _ _ _ c.run_file.ensures.ends

pub returns-in-Some-Run-clause-others : goal.returns-in-Some-Run-clause-others
returns-in-Some-Run-clause-others g c =
    let r : IsRunCommand c.args.words.now c.in-Some-Run.folder.now c.in-Some-Run.file.now = search rules in
    stays_elsewhere c.args.words.now c.in-Some-Run.folder.now c.in-Some-Run.file.now _ _ r c.run_file.ensures.others
