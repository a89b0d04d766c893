use Rattle.client_lang.proofs.BadLines.{built_file, only_file, only_memory, told_fault}
use Rattle.client_lang.proofs.Stamped.{stamped_file}
use Rattle.client_lang.proofs.grammar.lines.read_client.Goals as goal

pub returns-clause-only : goal.returns-clause-only
returns-clause-only c = only_file (λ v. v.items) c.args.bytes.now c.read_lines.result c.read_lines.ensures.read

pub returns-clause-built : goal.returns-clause-built
returns-clause-built c = built_file (λ v. v.items) c.args.bytes.now c.read_lines.result c.read_lines.ensures.read

pub returns-clause-stamped : goal.returns-clause-stamped
returns-clause-stamped c = stamped_file (λ v. v.items) c.args.bytes.now c.read_lines.result c.read_lines.ensures.read

pub returns-clause-accepted : goal.returns-clause-accepted
returns-clause-accepted c = λ commands h. only_memory c.args.bytes.now commands c.read_lines.result h c.read_lines.ensures.refused

pub returns-clause-told : goal.returns-clause-told
returns-clause-told c = λ fault h. told_fault (λ v. v.items) c.args.bytes.now fault c.read_lines.result h c.read_lines.ensures.read c.read_lines.ensures.refused
