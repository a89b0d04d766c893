-- The versions that a flush takes, and the table that it makes of them.
use Rattle.std.proofs.Common.{◌≡◌, ℕ, zero, suc, ◌+◌, ◌<◌, ◌≤◌, ◌==◌, false, List, [], ◌∷◌, length, map, drop, Option, Some, refl, sym, ap, ◌∙◌, subst, arith, inl, inr}
use Rattle.std.specs.Prelude.{All, Contains, IsTrue, ◌&&◌, nat_le, nat_lt, slice_get}
use Rattle.std.specs.List.Sorted.{IsPermutation}
use Rattle.std.proofs.lemmas.Bool.{eqb-true}
use Rattle.std.proofs.lemmas.List.{append-nil, length-map}
use Rattle.std.proofs.lemmas.List.Sorted.{Contains-permutation, IsPermutation-sym}
use Rattle.ts_key.specs.declared.numbers.Family.{Family}
use Rattle.ts_key.specs.declared.numbers.Seq.{Seq}
use Rattle.ts_key.specs.declared.numbers.Ts.{Ts}
use Rattle.ts_key.specs.declared.version.Form.{Form}
use Rattle.ts_key.specs.declared.version.Form.TheVariants.{Persist, Strip}
use Rattle.ts_key.specs.declared.version.Version.{Version}
use Rattle.ts_key.specs.Items.{item_of, items_of}
use Rattle.memtable.specs.Memtables.{versions_of_memtable}
use Rattle.udt_disk.specs.Bytes.{overwritten}
use Rattle.udt_disk.specs.Crash.{Only}
use Rattle.udt_disk.specs.declared.file.DiskFile as file
use Rattle.udt_model.specs.Collecting.{collect_all, without_ts}
use Rattle.udt_model.specs.Jobs.{are_new, flush_kept, flush_taken, floor_over, has_number, in_form}
use Rattle.udt_model.specs.State.{Flush, State, form_at, form_of, through_at, through_of}
use Rattle.udt_model.specs.Versions.{between}
use Rattle.block_table.specs.Contents.{Contents}
use Rattle.block_table.specs.Tables.{IsTable}
use Rattle.super_version.specs.Contents.{version_of_item}
use Rattle.super_version.specs.declared.family.FamilyState.{FamilyState}
use Rattle.super_version.specs.declared.jobs.TableOut.{TableOut}
use Rattle.super_version.specs.declared.version.SuperVersion.{SuperVersion}
use Rattle.flush_job.specs.Walks.{versions_of_all}
use Rattle.floor_laws.specs.Lists.{AreSame, HaveOwnSequences}
use Rattle.floor_laws.specs.Sound.{IsSoundState}
use Rattle.floor_laws.proofs.Counts.{Distinct, count-filter, distinct_pairs}
use Rattle.floor_laws.proofs.Families.{In-between, between-In}
use Rattle.floor_laws.proofs.Kept.{collect-In, collect_all_is, everywhere, stored-In}
use Rattle.floor_laws.proofs.ListLaws.{floor_by_versions, flush_by_versions}
use Rattle.floor_laws.proofs.Members.{All-In, All-from, In, In-append, In-contains, In-right, contains_In, map-In, none-any}
use Rattle.floor_laws.proofs.States.{FlushIs, holds_of, some_same, written_of}
use Rattle.store_engine.specs.Installing.{EndsFlushBy, live_with}
use Rattle.store_engine.specs.Now.{FitsFamily, IsNow, versions_held}
use Rattle.solo_store.specs.Flushing.{WritesFlush, sealed_in, sealed_of}
use Rattle.solo_store.specs.Stores.{job_of}
use Rattle.solo_store.specs.declared.store.RunningFlush.{RunningFlush}
use Rattle.solo_store.proofs.Shown.{version_back}

-- ---- what is sealed is what the flush takes

module _ (m : State) (now : SuperVersion) (job : Flush) (g : FamilyState) (shows : IsNow now m) (sound : IsSoundState m) (runs : m.flush ≡ Some job) (at : slice_get now.families job.family.0 ≡ Some g) where
  abbrev sealed : List Version
  sealed = versions_of_all g.sealed

  abbrev active : List Version
  active = versions_of_memtable g.active

  flushing : FlushIs m (Some job)
  flushing = subst (FlushIs m) runs (holds_of m sound).flush

  low_is : (through_at m job.family) ≡ flushing.0.through
  low_is = ap through_of flushing.1

  abbrev unflushed : List Version
  unflushed = between job.family flushing.0.through.0 m.last.0 m.versions

  memory_is : IsPermutation unflushed (versions_held g)
  memory_is = (shows.families job.family flushing.0 g flushing.1 at).holds

  taken_one : (v : Version) → In v sealed → In v (flush_taken m job)
  taken_one v j =
      let held = In-right v active sealed j in
      let free = contains_In unflushed v (Contains-permutation (versions_held g) unflushed v (IsPermutation-sym unflushed (versions_held g) memory_is) (In-contains (versions_held g) v held)) in
      let b = between-In job.family flushing.0.through.0 m.last.0 m.versions v free in
      In-between job.family (through_at m job.family).0 job.through.0 m.versions v b.0 b.1 (subst (λ (s : Seq). s.0 < v.seq.0) (sym low_is) b.2) ((shows.flush job g runs at).taken v (In-contains sealed v j))

  sealed_one : (v : Version) → In v (flush_taken m job) → In v sealed
  sealed_one v j =
      let b = between-In job.family (through_at m job.family).0 job.through.0 m.versions v j in
      let most = b.3 in
      let to = flushing.2.to in
      let free = In-between job.family flushing.0.through.0 m.last.0 m.versions v b.0 b.1 (subst (λ (s : Seq). s.0 < v.seq.0) low_is b.2) (omega (arith, most, to)) in
      let held = contains_In (versions_held g) v (Contains-permutation unflushed (versions_held g) v memory_is (In-contains unflushed v free)) in
      elim (In-append v active sealed held) [
        | inl a ↦ let above = (shows.flush job g runs at).later v (In-contains active v a) in absurd (omega (arith, above, most))
        | inr s ↦ s
      ]

  sealed_same : AreSame sealed (flush_taken m job)
  sealed_same = record {
    to = All-from (Contains (flush_taken m job)) sealed (λ v j. In-contains (flush_taken m job) v (taken_one v j));
    from = All-from (Contains sealed) (flush_taken m job) (λ v j. In-contains sealed v (sealed_one v j));
  }

  taken_own : HaveOwnSequences (flush_taken m job)
  taken_own =
      let all = (written_of _ m.last.0 m.versions (holds_of m sound).written).distinct in
      let distinct : Distinct (flush_taken m job) = λ q.
      let a = all q in
      let b = count-filter q (λ v. v.family.0 == job.family.0 && nat_lt (through_at m job.family).0 v.seq.0 && nat_le v.seq.0 job.through.0) m.versions in
      omega (arith, a, b)
      in
      distinct_pairs (flush_taken m job) distinct

  form_is : form_at m job.family ≡ g.form
  form_is = ap form_of flushing.1 ∙ sym (shows.families job.family flushing.0 g flushing.1 at).form

  pub kept_is : HaveOwnSequences sealed → in_form g.form (collect_all sealed job.floor job.seqs) ≡ flush_kept m job
  kept_is own = flush_by_versions g.form sealed (flush_taken m job) job.floor job.seqs sealed_same own taken_own ∙ ap (λ (form : Form). in_form form (collect_all (flush_taken m job) job.floor job.seqs)) (sym form_is)

  pub floor_is : floor_over g.form job.floor sealed ≡ floor_over (form_at m job.family) job.floor (flush_taken m job)
  floor_is = floor_by_versions g.form sealed (flush_taken m job) job.floor sealed_same ∙ ap (λ (form : Form). floor_over form job.floor (flush_taken m job)) (sym form_is)

  pub floor_within : job.floor.0 ≤ g.floor.0
  floor_within = let a = flushing.2.floor in let b = ap (λ (t : Ts). t.0) (shows.families job.family flushing.0 g flushing.1 at).floor in omega (arith, a, b)

-- ---- the items of a table

flushed_family : (family : Family) (form : Form) (p : List Version) (floor : Ts) (ss : List Seq) → All (λ (v : Version). v.family ≡ family) p → (v : Version) → In v (in_form form (collect_all p floor ss)) → v.family ≡ family
flushed_family family Persist p floor ss all v j = All-In (λ (u : Version). u.family ≡ family) p v all (collect-In p floor ss everywhere v (subst (λ (z : List Version). In v z) (sym (collect_all_is p floor ss)) j))
flushed_family family Strip p floor ss all v j =
    let x = map-In without_ts v (collect_all p floor ss) (stored-In v (map without_ts (collect_all p floor ss)) j) in
    let own = All-In (λ (u : Version). u.family ≡ family) p x.0 all (collect-In p floor ss everywhere x.0 (subst (λ (z : List Version). In x.0 z) (sym (collect_all_is p floor ss)) x.1)) in
    sym (ap (λ (u : Version). u.family) x.2) ∙ own

items_back : (family : Family) (vs : List Version) → ((v : Version) → In v vs → v.family ≡ family) → map (version_of_item family) (items_of vs) ≡ vs
items_back family [] own = refl
items_back family (v ∷ vs) own =
    ap (λ (u : Version). u ∷ map (version_of_item family) (items_of vs)) (version_back family v (own v (inl refl)))
    ∙ ap (λ (us : List Version). v ∷ us) (items_back family vs (λ u j. own u (inr j)))

-- ---- numbers, and bytes

new_number : (used : List ℕ) (n : ℕ) → All (λ k. k < n) used → IsTrue (are_new used (n ∷ []))
new_number used n below =
    let none : has_number used n ≡ false = none-any (λ o. o == n) used (λ k j is. let l = All-In (λ o. o < n) used k below j in let e = eqb-true k n is in absurd (omega (arith, l, e))) in
    rw none refl

abbrev no_bytes : List ℕ
no_bytes = []

drop_none : (n : ℕ) → drop n no_bytes ≡ no_bytes
drop_none zero = refl
drop_none (suc n) = refl

whole : (bytes : List ℕ) → overwritten [] 0 bytes ≡ bytes
whole bytes = let none = drop_none (0 + length bytes) in rw none (append-nil bytes)

-- ---- how the flush ends

pub ends_by : {F : Type 0} (f : file.Ghosts F) (m : State) (now : SuperVersion) (flush : RunningFlush) (before given : F) (out : TableOut) (number gone : ℕ)
    → IsNow now m → IsSoundState m → m.flush ≡ Some (job_of flush) → All (λ k. k < number) m.used → gone ≡ length (sealed_in now flush.family) → IsTrue (f.is_told before) → f.seen before ≡ []
    → WritesFlush f now flush before given out → EndsFlushBy f m now (job_of flush) flush.family gone flush.through number given out
ends_by f m now flush before given out number gone shows sound runs used gone_is told empty writes =
    let job = job_of flush in
    let g = writes.state in
    let vs = versions_of_all g.sealed in
    let wrote = writes.flushes.0 in
    let contents = wrote.0 in
    let synced = wrote.2 in
    let own = writes.flushable.own in
    let kept = kept_is m now job g shows sound runs writes.at own in
    let vs_kept = in_form g.form (collect_all vs flush.floor []) in
    record {
      runs = runs;
      of_family = refl;
      up_to = refl;
      all_sealed = λ h at. gone_is ∙ ap (λ (o : Option FamilyState). length (sealed_of o)) at;
      fresh = new_number m.used number used;
      file = record {
        told = subst IsTrue (sym synced.same.told) told;
        rests = subst (λ (bytes : List ℕ). Only bytes (f.may_leave given)) (synced.written told ∙ (ap (λ (old : List ℕ). overwritten old 0 out.table.image) empty ∙ whole out.table.image)) synced.durable;
        is = subst (λ (t : Contents). IsTable t out.table.image) (sym contents) wrote.1;
        short = let fits = synced.fits in omega (arith, fits);
      };
      own = ap (λ (t : Contents). t.family) contents;
      fits = λ h at.
          let same : g ≡ h = some_same g h (sym writes.at ∙ at) in
          let fit : FitsFamily g.form g.floor (live_with number out.table) = record {
            form_is = ap (λ (t : Contents). t.form) contents;
            collected = let a = ap (λ (t : Contents). t.collected_by) contents in let b = floor_within m now job g shows sound runs writes.at in omega (arith, a, b);
          } in
          subst (λ (x : FamilyState). FitsFamily x.form x.floor (live_with number out.table)) same fit;
      holds = ap (λ (t : Contents). map (version_of_item flush.family) t.items) contents ∙ (items_back flush.family vs_kept (flushed_family flush.family g.form vs flush.floor [] writes.flushable.one_family) ∙ kept);
      kept = writes.flushes.1 ∙ (length-map vs_kept item_of ∙ ap length kept);
      floor = writes.flushes.2 ∙ floor_is m now job g shows sound runs writes.at;
    }
