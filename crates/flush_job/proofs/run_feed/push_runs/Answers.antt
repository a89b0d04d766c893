use Rattle.std.proofs.Common.{◌≡◌, ◌++◌, List, [], ◌∷◌, take, ap, subst, sym, ◌∙◌, append_assoc}
use Rattle.std.specs.Prelude.{All}
use Rattle.std.proofs.lemmas.List.Elements.{All-append}
use Rattle.ts_key.specs.declared.version.Version.{Version}
use Rattle.merge_cursor.specs.declared.slice.SliceCursor.{SliceCursor}
use Rattle.flush_job.specs.Walks.{runs_of}
use Rattle.flush_job.proofs.Walking.{one_first, run_got, runs_more}
use Rattle.flush_job.proofs.run_feed.push_runs.Goals as goal

pub loop-index-preserved : goal.loop-index-preserved
loop-index-preserved c =
    let items = c.loop-index.cursors.items in
    let inv = c.loop-index.invariant in
    let cursor = c.new.result in
    let pushed : c.push.new.self.items ≡ items ++ cursor ∷ [] = c.in_ok-push.ensures.items in
    let old = runs_of c.args.cursors.now.items in
    let rs = c.args.mem.now.runs in
    let i = c.loop-index.index in
    let run : cursor.versions.now ≡ c.in-Some.run'.now = c.new.ensures.versions ∙ c.versions.ensures.versions in
    record {
      first = subst (All (λ (k : SliceCursor). k.place ≡ 1)) (sym pushed) (All-append (λ (k : SliceCursor). k.place ≡ 1) items (cursor ∷ []) inv.first (one_first cursor c.new.ensures.first));
      runs = ap runs_of pushed ∙ runs_more items (cursor ∷ [])
          ∙ ap (λ (r : List Version). runs_of items ++ r ∷ []) run
          ∙ ap (λ (ls : List (List Version)). ls ++ c.in-Some.run'.now ∷ []) inv.runs
          ∙ append_assoc old (take i rs) (c.in-Some.run'.now ∷ [])
          ∙ ap (λ (ls : List (List Version)). old ++ ls) (sym (run_got rs i c.in-Some.run'.now c.in-Some.ensures));
    }
