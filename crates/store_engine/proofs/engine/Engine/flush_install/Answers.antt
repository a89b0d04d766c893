use Rattle.std.proofs.Common.{◌≡◌, List, ℕ, map, take, sym, subst, ap, ◌∙◌}
use Rattle.udt_disk.specs.declared.name.FileName.TheVariants.{Log}
use Rattle.manifest_fold.specs.declared.fold.Folded.{Folded}
use Rattle.manifest.specs.Manifest.{manifest_folded}
use Rattle.block_table.specs.Held.{Held}
use Rattle.super_version.specs.Changes.{ChangesFamily, family_with_flush}
use Rattle.super_version.specs.declared.family.FamilyState.{FamilyState}
use Rattle.super_version.specs.declared.version.SuperVersion.{SuperVersion}
use Rattle.engine_laws.specs.Installs.{flush_edit}
use Rattle.store_engine.specs.Dropping.{AreGone}
use Rattle.store_engine.specs.Installing.{live_with}
use Rattle.store_engine.proofs.engine.Engine.flush_install.Goals as goal

pub returns : goal.returns
returns g c =
    let self = c.args.self.now in
    let now = c.args.now.now in
    let end = c.args.end in
    let next = c.in_ok-next.next in
    let count = c.count_gone-count.result in
    let logs = c.as_slice-logs.result.now in
    let logs_are : logs ≡ (manifest_folded self.manifest).logs = c.as_slice-logs.ensures ∙ ap (λ (z : Folded). z.logs) c.fold.ensures in
    let Changes : Held → SuperVersion → Type 0 = λ table. ChangesFamily end.family.0 (family_with_flush end.gone end.through end.floor (live_with end.number table)) now in
    record {
      changes = subst (Changes c.args.table) (sym c.in_ok-new-2.ensures.ok) (subst (λ (table : Held). Changes table next) c.in_ok-new.ensures.ok c.in_ok-next.ensures);
      count = count;
      are_gone = subst (λ (v : SuperVersion). AreGone v.families self.older (manifest_folded self.manifest).logs count) (sym c.in_ok-new-2.ensures.ok)
          (subst (λ (ns : List ℕ). AreGone next.families self.older ns count) logs_are (subst (λ (fs : List FamilyState). AreGone fs self.older logs count) c.as_slice.ensures c.count_gone-count.ensures));
      edit = c.in_ok-edit.ensures ∙ ap (λ (ns : List ℕ). flush_edit now.last self.next (take count ns) end.family end.floor end.through end.number) logs_are;
      gone = c.in_ok-gone.ensures ∙ ap (λ (ns : List ℕ). map Log (take count ns)) logs_are;
    }
