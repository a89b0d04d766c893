use Rattle.std.proofs.lemmas.Result.{err_from_is_err_and}
use Rattle.client_lang.specs.Print.{print_line}
use Rattle.client_runner.proofs.OutputLemmas.{front_more}
use Rattle.client_runner.proofs.output.write_line.Goals as goal

pub returns-in_err-flush_chunk-clause-front : goal.returns-in_err-flush_chunk-clause-front
returns-in_err-flush_chunk-clause-front g c =
    let p = err_from_is_err_and c.from_residual.result c.from_residual.ensures.1 in
    rw p.1 (front_more _ _ c.args.buffer.now.items (print_line c.args.line.now) c.in_err-flush_chunk.ensures.front)
