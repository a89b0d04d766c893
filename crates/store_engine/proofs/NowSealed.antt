-- A super version with a family sealed shows the state in which a flush of it runs.
use Rattle.std.proofs.Common.{◌≡◌, ℕ, ◌≤◌, false, List, [], length, Some, None, refl, sym, ap, ◌∙◌, subst, arith, inl, inr}
use Rattle.std.specs.Prelude.{Contains, if◌then◌else◌, ◌==◌, slice_get}
use Rattle.std.specs.List.{flat_map}
use Rattle.std.specs.List.Sorted.{IsPermutation}
use Rattle.std.proofs.lemmas.Bool.{lt-ltb, ne_eqb}
use Rattle.std.proofs.lemmas.List.Sorted.{Contains-permutation, IsPermutation-sym, length_permutation}
use Rattle.ts_key.specs.declared.numbers.Family.{Family}
use Rattle.ts_key.specs.declared.version.Version.{Version}
use Rattle.memtable.specs.Memtables.{versions_of_memtable}
use Rattle.udt_model.specs.declared.reply.Reply.{Reply}
use Rattle.udt_model.specs.declared.reply.Reply.TheVariants as replies
use Rattle.udt_model.specs.Acts.Act.{flush_start}
use Rattle.udt_model.specs.Jobs.{unflushed_of}
use Rattle.udt_model.specs.Refusals.{refusal, ◌otherwise◌}
use Rattle.udt_model.specs.State.{Flush, State, family_at, through_of}
use Rattle.udt_model.specs.State.{FamilyState as ModelFamily}
use Rattle.udt_model.specs.Steps.{IsReplyTo, after, file_limit, flush_started}
use Rattle.udt_model.specs.Versions.{between}
use Rattle.super_version.specs.Changes.{ChangesFamily, family_with_seal}
use Rattle.super_version.specs.declared.family.FamilyState.{FamilyState}
use Rattle.super_version.specs.declared.version.SuperVersion.{SuperVersion}
use Rattle.floor_laws.proofs.Families.{between-In}
use Rattle.floor_laws.proofs.Members.{In-contains, In-right, contains_In}
use Rattle.store_engine.specs.Now.{IsBeingFlushed, IsFamilyNow, IsNow, versions_held}
use Rattle.store_engine.proofs.Admitting.{both}
use Rattle.store_engine.proofs.Current.{get_changed, length_changed}
use Rattle.store_engine.proofs.NowRaised.{same_or_not}

-- ---- the model's answer

module _ (m : State) (family : Family) (runs : m.halted ≡ None) (idle : m.flush ≡ None) where
  none_known : family_at m family ≡ None → refusal m (flush_start family) ≡ Some replies.Unknown
  none_known there = rw there refl

  known_none : (f : ModelFamily) → family_at m family ≡ Some f → refusal m (flush_start family) ≡ None
  known_none f there = rw (there, runs, idle) refl

  pub seal_unknown : family_at m family ≡ None → IsReplyTo m (flush_start family) replies.Unknown
  seal_unknown there = record { running = refl; is = inl (sym (ap (λ r. r otherwise (if length (unflushed_of m family) == 0 then replies.Nothing else replies.OkAt m.last.0)) (none_known there))) }

  module _ (f : ModelFamily) (there : family_at m family ≡ Some f) where
    abbrev told : Reply
    told = if length (unflushed_of m family) == 0 then replies.Nothing else replies.OkAt m.last.0

    started : flush_started m family ≡ told
    started = ap (λ r. r otherwise told) (known_none f there)

    pub seal_nothing : length (unflushed_of m family) ≡ 0 → IsReplyTo m (flush_start family) replies.Nothing
    seal_nothing none = record { running = refl; is = inl (sym (started ∙ ap (λ n. if n == 0 then replies.Nothing else replies.OkAt m.last.0) none)) }

    pub seal_some : 1 ≤ length (unflushed_of m family) → IsReplyTo m (flush_start family) (replies.OkAt m.last.0)
    seal_some some =
        let ne : (length (unflushed_of m family) == 0) ≡ false = ne_eqb (length (unflushed_of m family)) 0 (λ e. omega (arith, e, some)) in
        record { running = refl; is = inl (sym (started ∙ ap (λ b. if b then replies.Nothing else replies.OkAt m.last.0) ne)) }

    pub seal_full : 1 ≤ length (unflushed_of m family) → IsReplyTo m (flush_start family) (replies.Files file_limit)
    seal_full some = record { running = refl; is = inr (inr (refl, known_none f there, lt-ltb 0 (length (unflushed_of m family)) some)) }

    pub seal_fails : IsReplyTo m (flush_start family) replies.Fault
    seal_fails = record { running = refl; is = inr (inl (refl, refl, known_none f there)) }

-- ---- what the version shows

some_is : {X : Type 0} {x y : X} → Some x ≡ Some y → x ≡ y
some_is e = cc

family_sealed : (i : Family) (unflushed : List Version) (f : ModelFamily) (g : FamilyState) → IsFamilyNow i unflushed f g → IsFamilyNow i unflushed f (family_with_seal g)
family_sealed i unflushed f g s = record {
  form = s.form;
  floor = s.floor;
  through = s.through;
  number = record { active = s.number.active; sealed = (s.number.active, s.number.sealed); tables = s.number.tables };
  holds = s.holds;
  tables = s.tables;
  levels = s.levels;
  order = s.order;
  fit = s.fit;
}

module _ (now : SuperVersion) (m : State) (shows : IsNow now m) where
  -- the family is in both
  pub seal_there : (family : Family) (g : FamilyState) → slice_get now.families family.0 ≡ Some g → (f : ModelFamily) × (family_at m family ≡ Some f)
  seal_there family g there = elim (both m.families now.families family.0 (sym shows.count)) [
    | inl none ↦ absurd (let e = sym there ∙ none.1 in cc)
    | inr some ↦ (some.0, some.1.1.0)
  ]

  pub seal_not_there : (family : Family) → slice_get now.families family.0 ≡ None → family_at m family ≡ None
  seal_not_there family there = elim (both m.families now.families family.0 (sym shows.count)) [
    | inl none ↦ none.0
    | inr some ↦ absurd (let e = sym there ∙ some.1.1.1 in cc)
  ]

  module _ (family : Family) (g : FamilyState) (there : slice_get now.families family.0 ≡ Some g) where
    abbrev f : ModelFamily
    f = (seal_there family g there).0

    of : family_at m family ≡ Some f
    of = (seal_there family g there).1

    held_is : IsPermutation (unflushed_of m family) (versions_held g)
    held_is = subst (λ o. IsPermutation (between family (through_of o).0 m.last.0 m.versions) (versions_held g)) (sym of) (shows.families family f g of there).holds

    pub held_count : length (versions_held g) ≡ length (unflushed_of m family)
    held_count = length_permutation (unflushed_of m family) (versions_held g) held_is

    -- all that the family has in memory was written up to the last sequence
    pub held_low : (v : Version) → Contains (versions_held g) v → v.seq.0 ≤ m.last.0
    held_low v i =
        let j = Contains-permutation (versions_held g) (unflushed_of m family) v (IsPermutation-sym (unflushed_of m family) (versions_held g) held_is) i in
        (between-In family (through_of (family_at m family)).0 m.last.0 m.versions v (contains_In (unflushed_of m family) v j)).3

  -- the flush that starts takes what is sealed then, where the active memtable is empty
  begins : (family : Family) (number : ℕ) (g h : FamilyState) (job : Flush) → slice_get now.families family.0 ≡ Some g → (after m number (flush_start family) (replies.OkAt m.last.0)).flush ≡ Some job
      → versions_of_memtable h.active ≡ [] → ((v : Version) → Contains (flat_map versions_of_memtable h.sealed) v → Contains (versions_held g) v) → IsBeingFlushed job h
  begins family number g h job there is empty within =
      let last : m.last ≡ job.through = ap (λ (j : Flush). j.through) (some_is is) in
      record {
        taken = λ v i. subst (λ q. v.seq.0 ≤ q.0) last (held_low family g there v (within v i));
        later = λ v i. absurd (contains_In [] v (subst (λ vs. Contains vs v) empty i));
      }

  pub now_waiting : (family : Family) (number : ℕ) (g : FamilyState) → slice_get now.families family.0 ≡ Some g → versions_of_memtable g.active ≡ [] → IsNow now (after m number (flush_start family) (replies.OkAt m.last.0))
  now_waiting family number g there empty = record {
    last = shows.last;
    count = shows.count;
    families = shows.families;
    flush = λ job h is at.
        let own : family.0 ≡ job.family.0 = ap (λ (j : Flush). j.family.0) (some_is is) in
        let same : g ≡ h = some_is (sym there ∙ ap (slice_get now.families) own ∙ at) in
        subst (IsBeingFlushed job) same (begins family number g g job there is empty (λ v i. In-contains (versions_held g) v (In-right v (versions_of_memtable g.active) (flat_map versions_of_memtable g.sealed) (contains_In (flat_map versions_of_memtable g.sealed) v i))));
  }

  pub now_sealed : (version : SuperVersion) (family : Family) (number : ℕ) → ChangesFamily family.0 family_with_seal now version → IsNow version (after m number (flush_start family) (replies.OkAt m.last.0))
  now_sealed version family number changes = record {
    last = changes.last ∙ shows.last;
    count = ap length changes.families ∙ length_changed family.0 family_with_seal now.families ∙ shows.count;
    families = λ i f g of there.
        let o = get_changed family.0 i.0 family_with_seal now.families g (subst (λ l. slice_get l i.0 ≡ Some g) changes.families there) in
        let s = shows.families i f o.0 of o.1 in
        elim (same_or_not i.0 family.0) [
          | inl e ↦ subst (IsFamilyNow i (between i f.through.0 m.last.0 m.versions) f) (sym (o.2.0 e)) (family_sealed i (between i f.through.0 m.last.0 m.versions) f o.0 s)
          | inr n ↦ subst (IsFamilyNow i (between i f.through.0 m.last.0 m.versions) f) (sym (o.2.1 n)) s
        ];
    flush = λ job h is at.
        let own : family.0 ≡ job.family.0 = ap (λ (j : Flush). j.family.0) (some_is is) in
        let o = get_changed family.0 job.family.0 family_with_seal now.families h (subst (λ l. slice_get l job.family.0 ≡ Some h) changes.families at) in
        let there : slice_get now.families family.0 ≡ Some o.0 = ap (slice_get now.families) own ∙ o.1 in
        subst (IsBeingFlushed job) (sym (o.2.0 (sym own))) (begins family number o.0 (family_with_seal o.0) job there is refl (λ v i. i));
  }
