use Rattle.std.proofs.Common.{◌+◌, List, [], ◌∷◌, ◌++◌, sym, ap, ◌∙◌, arith}
use Rattle.ts_key.specs.declared.version.Version.{Version}
use Rattle.udt_model.specs.Versions.{version_of}
use Rattle.super_version.specs.Writes.{of_family}
use Rattle.super_version.proofs.Written.{own_more}
use Rattle.super_version.proofs.writing.versions_of.Goals as goal

pub loop-i-preserved : goal.loop-i-preserved
loop-i-preserved c =
    let family = c.args.family in
    let i = c.loop-i.i in
    let op = c.index-ops-i.result in
    c.in_ok-add_own.ensures
    ∙ ap (λ (vs : List Version). vs ++ of_family family (version_of op (c.args.first + i) ∷ [])) c.loop-i.invariant
    ∙ sym (own_more family c.args.ops.now c.args.first i op (omega arith) c.index-ops-i.is)
