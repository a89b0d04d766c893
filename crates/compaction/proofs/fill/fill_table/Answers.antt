use Rattle.std.proofs.Common.{◌≡◌, ◌≢◌, ◌⊎◌, ◌<◌, ◌++◌, List, [], ◌∷◌, refl, sym, subst, ◌∙◌, arith}
use Rattle.std.specs.Prelude.{Contains, IfSome, Option, Some, None}
use Rattle.ts_key.specs.StoredKeys.{IsSequence, IsStamp}
use Rattle.ts_key.specs.declared.version.Form.{Form}
use Rattle.ts_key.specs.declared.version.Version.{Version}
use Rattle.ts_key.specs.Items.{items_of}
use Rattle.block_table.specs.Pushed.{contents_of}
use Rattle.flush_job.specs.Keeping.{all_of, left_of}
use Rattle.flush_job.proofs.Keeping.{at_contained, gives_some, last_among}
use Rattle.compaction.specs.Made.{FillsTable, LeavesRoom}
use Rattle.compaction.proofs.Growing.{begins, ends_none, ends_some, gives_end, grows, when_false, when_true}
use Rattle.compaction.proofs.fill.fill_table.Goals as goal

some_of : (P : Version → Type 0) (o : Option Version) (v : Version) → o ≡ Some v → IfSome o P → P v
some_of P None v e h = absurd (cc)
some_of P (Some w) v e h = let k : w ≡ v = cc in subst P k h

pub push-requires-clause-stamp : goal.push-requires-clause-stamp
push-requires-clause-stamp g c =
    let form = c.args.form in
    let v = c.args.first in
    let among = last_among g.S.Feed c.args.kept.now c.requires.given.0 v c.requires.given.1 in
    subst (λ (f : Form). IsStamp f v.ts.0) (sym c.in_ok-writer.ensures.form) (at_contained (λ (u : Version). IsStamp form u.ts.0) (all_of g.S.Feed c.args.kept.now) v c.requires.stamps among)

pub push-requires-clause-sequence : goal.push-requires-clause-sequence
push-requires-clause-sequence g c =
    let v = c.args.first in
    let among = last_among g.S.Feed c.args.kept.now c.requires.given.0 v c.requires.given.1 in
    at_contained (λ (u : Version). IsSequence u.seq.0) (all_of g.S.Feed c.args.kept.now) v c.requires.sequences among

pub loop-last-init : goal.loop-last-init
loop-last-init g c = record {
  form = c.in_ok-push.ensures.form ∙ c.in_ok-writer.ensures.form;
  all = refl;
  kept = refl;
  left = omega arith;
  state = λ given h. begins g.S.Feed c.args.family c.args.form c.args.floor c.args.kept.now c.push.new.self given c.args.first h (c.in_ok-push.ensures.pushed (contents_of c.args.family c.args.form c.args.floor []) c.in_ok-writer.ensures.pushed);
}

pub push-requires-in-Some-clause-stamp : goal.push-requires-in-Some-clause-stamp
push-requires-in-Some-clause-stamp g c =
    let inv = c.loop-last.invariant in
    let v = c.in-Some.version in
    let form = c.args.form in
    let st = inv.state c.requires.given.0 c.requires.given.1 in
    let so_far = c.requires.given.0 ++ (st.front ++ c.loop-last.last ∷ []) in
    let more = gives_some g.S.Feed c.next.new.self so_far _ v c.in-Some.is (c.in_ok-version.ensures.given so_far st.keeps) in
    let among = subst (λ (vs : List Version). Contains vs v) (c.in_ok-version.ensures.all ∙ inv.all) (last_among g.S.Feed c.next.new.self so_far v more) in
    subst (λ (f : Form). IsStamp f v.ts.0) (sym inv.form) (at_contained (λ (u : Version). IsStamp form u.ts.0) (all_of g.S.Feed c.args.kept.now) v c.requires.stamps among)

pub push-requires-in-Some-clause-sequence : goal.push-requires-in-Some-clause-sequence
push-requires-in-Some-clause-sequence g c =
    let inv = c.loop-last.invariant in
    let v = c.in-Some.version in
    let st = inv.state c.requires.given.0 c.requires.given.1 in
    let so_far = c.requires.given.0 ++ (st.front ++ c.loop-last.last ∷ []) in
    let more = gives_some g.S.Feed c.next.new.self so_far _ v c.in-Some.is (c.in_ok-version.ensures.given so_far st.keeps) in
    let among = subst (λ (vs : List Version). Contains vs v) (c.in_ok-version.ensures.all ∙ inv.all) (last_among g.S.Feed c.next.new.self so_far v more) in
    at_contained (λ (u : Version). IsSequence u.seq.0) (all_of g.S.Feed c.args.kept.now) v c.requires.sequences among

pub loop-last-preserved : goal.loop-last-preserved
loop-last-preserved g c =
    let inv = c.loop-last.invariant in
    let v = c.in-Some.version in
    let old = c.loop-last.kept in
    let new = c.next.new.self in
    let last = c.loop-last.last in
    let family = c.args.family in
    let form = c.args.form in
    let floor = c.args.floor in
    let less : left_of g.S.Feed new < left_of g.S.Feed old = some_of (λ u. left_of g.S.Feed new < left_of g.S.Feed old) _ v c.in-Some.is c.in_ok-version.ensures.fewer in
    let upto = inv.left in
    record {
      form = c.in_ok-push-2.ensures.form ∙ inv.form;
      all = c.in_ok-version.ensures.all ∙ inv.all;
      kept = c.in_ok-version.ensures.kept ∙ inv.kept;
      left = omega (arith, less, upto);
      state = λ given h.
          let st = inv.state given h in
          let own = st.front ++ last ∷ [] in
          let t = contents_of family form floor (items_of own) in
          let keeps = gives_some g.S.Feed new (given ++ own) _ v c.in-Some.is (c.in_ok-version.ensures.given (given ++ own) st.keeps) in
          grows g.S.Feed family form floor old c.loop-last.writer given c.args.first last st new c.push-in-Some.new.self v keeps (c.in_ok-push-2.ensures.pushed t st.pushed)
          (when_false c.ends_before.result (FillsTable t × (last.key ≢ v.key)) (LeavesRoom t ⊎ (last.key ≡ v.key)) c.if-ends_before.false (c.ends_before.ensures t st.pushed));
    }

pub returns-then-ends_before-clause-filled : goal.returns-then-ends_before-clause-filled
returns-then-ends_before-clause-filled g c = λ given h.
    let v = c.in-Some.version in
    let new = c.next.new.self in
    let last = c.loop-last.last in
    let family = c.args.family in
    let form = c.args.form in
    let floor = c.args.floor in
    let st = c.loop-last.invariant.state given h in
    let own = st.front ++ last ∷ [] in
    let t = contents_of family form floor (items_of own) in
    let keeps = gives_some g.S.Feed new (given ++ own) _ v c.in-Some.is (c.in_ok-version.ensures.given (given ++ own) st.keeps) in
    let full = when_true c.ends_before.result (FillsTable t × (last.key ≢ v.key)) (LeavesRoom t ⊎ (last.key ≡ v.key)) c.if-ends_before.true (c.ends_before.ensures t st.pushed) in
    ends_some g.S.Feed family form floor c.loop-last.kept c.loop-last.writer given c.args.first last st new v keeps full.0 full.1

pub returns-clause-filled : goal.returns-clause-filled
returns-clause-filled g c = λ given h.
    let new = c.next.new.self in
    let last = c.loop-last.last in
    let st = c.loop-last.invariant.state given h in
    let so_far = given ++ (st.front ++ last ∷ []) in
    ends_none g.S.Feed c.args.family c.args.form c.args.floor c.loop-last.kept c.loop-last.writer given c.args.first last st new
    (gives_end g.S.Feed new so_far _ c.in_default.is (c.in_ok-version.ensures.given so_far st.keeps))
