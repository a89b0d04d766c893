use Rattle.std.proofs.Common.{List, sym, subst, ◌∙◌}
use Rattle.std.specs.Prelude.{Contains}
use Rattle.ts_key.specs.StoredKeys.{IsSequence, IsStamp}
use Rattle.ts_key.specs.declared.version.Form.{Form}
use Rattle.ts_key.specs.declared.version.Version.{Version}
use Rattle.flush_job.specs.Keeping.{all_of}
use Rattle.flush_job.proofs.Keeping.{at_contained, gives_some, last_among}
use Rattle.flush_job.proofs.writing.write_kept.Goals as goal

pub push-requires-clause-stamp : goal.push-requires-clause-stamp
push-requires-clause-stamp g c =
    let inv = c.loop-version.invariant in
    let v = c.in-Some.version in
    let form = c.args.writer.now.form in
    let more = gives_some g.S.Feed c.next.new.self inv.state.0 c.in_ok-version.field-0 v c.in-Some.is (c.in_ok-version.ensures.given inv.state.0 inv.state.1.0) in
    let among = subst (λ (vs : List Version). Contains vs v) (c.in_ok-version.ensures.all ∙ inv.all) (last_among g.S.Feed c.next.new.self inv.state.0 v more) in
    subst (λ (f : Form). IsStamp f v.ts.0) (sym inv.form) (at_contained (λ (u : Version). IsStamp form u.ts.0) (all_of g.S.Feed c.args.kept.now) v c.requires.stamps among)

pub push-requires-clause-sequence : goal.push-requires-clause-sequence
push-requires-clause-sequence g c =
    let inv = c.loop-version.invariant in
    let v = c.in-Some.version in
    let more = gives_some g.S.Feed c.next.new.self inv.state.0 c.in_ok-version.field-0 v c.in-Some.is (c.in_ok-version.ensures.given inv.state.0 inv.state.1.0) in
    let among = subst (λ (vs : List Version). Contains vs v) (c.in_ok-version.ensures.all ∙ inv.all) (last_among g.S.Feed c.next.new.self inv.state.0 v more) in
    at_contained (λ (u : Version). IsSequence u.seq.0) (all_of g.S.Feed c.args.kept.now) v c.requires.sequences among
