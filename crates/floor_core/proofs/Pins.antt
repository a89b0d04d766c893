-- The core stays sound, and a view shows what there was at its pin.
use Rattle.std.proofs.Common.{◌≡◌, ℕ, zero, suc, ◌+◌, ◌<◌, ◌≤◌, Bool, true, false, ◌&&◌, cond, List, [], ◌∷◌, ◌++◌, length, map, Option, Some, None, refl, sym, ap, subst, ◌∙◌, inl, inr, arith}
use Rattle.std.specs.Prelude.{All, AllPairs, find, flat_map, is_some, nat_le, ◌==◌, if◌then◌else◌, option_map, slice_get, unwrap_or}
use Rattle.std.specs.List.{filter}
use Rattle.std.proofs.lemmas.Bool.{cases_Bool, le-leb, leb-true, lt-leb}
use Rattle.std.proofs.lemmas.Bool.Decides.{nat_tests}
use Rattle.std.proofs.lemmas.List.Elements.{filter-append, All-append, All-cons, All-nil}
use Rattle.std.proofs.lemmas.List.{append-nil}
use Rattle.ts_key.specs.declared.batch.WriteOp.{WriteOp}
use Rattle.ts_key.specs.declared.numbers.Family.{Family}
use Rattle.ts_key.specs.declared.numbers.Ts.{Ts}
use Rattle.ts_key.specs.declared.numbers.Seq.{Seq}
use Rattle.ts_key.specs.declared.version.Form.{Form}
use Rattle.ts_key.specs.declared.version.Version.{Version}
use Rattle.udt_model.specs.declared.reply.Piece.{Piece}
use Rattle.udt_model.specs.Versions.{AreWritten, made, up_to}
use Rattle.udt_model.specs.Reads.{read}
use Rattle.udt_model.specs.Standing.{IsSight, Stands}
use Rattle.udt_model.specs.Running.{IsSince}
use Rattle.udt_model.specs.State.{State, FamilyState, Snap, Flush, Compaction, family_at, numbers_of, seqs_of, sight, unflushed_family}
use Rattle.udt_model.specs.Steps.{with_compaction}
use Rattle.floor_laws.specs.Sound.{IsSoundState, lists_of}
use Rattle.floor_laws.proofs.Members.{In, In-contains, In-map, All-In, All-from, filter-In, filter_none, filter_every}
use Rattle.floor_laws.proofs.ListLaws.{read_same}
use Rattle.floor_laws.proofs.Taking.{logged_above}
use Rattle.floor_laws.proofs.Reopening.{find-In, sound_fresh, sound_opened, sound_reads}
use Rattle.floor_core.specs.declared.event.CoreEvent.{CoreEvent}
use Rattle.floor_core.specs.declared.event.CoreEvent.TheVariants.{Write, Get, Pin, PinnedGet, FlushEnd, CompactEnd}
use Rattle.floor_core.specs.declared.event.CoreReply.{CoreReply}
use Rattle.floor_core.specs.declared.event.CoreReply.TheVariants as replies
use Rattle.floor_core.specs.Cores.{CoreState, PinnedFamily, PinnedView, fresh_core, new_head, with_live_numbers}
use Rattle.floor_core.specs.Machine.{behind_event, effect, flush_ended, has_family, has_snapshot, is_accepted, kept_families, kept_family, pin_of, pinned_too, read_kept, read_lists, read_pin, sight_from, store_behind, told, view_now}
use Rattle.floor_core.specs.Runs.{AreNumbered, IsOpenedCore, IsSoFar, IsSoundCore, IsSoundView, behind_all, got_at_pin, got_from_writes, read_first, read_to_pin, read_writes, told_from_writes}
use Rattle.floor_core.proofs.Legal.{sound_behind}
use Rattle.floor_core.proofs.Numbering.{numbered_behind, snaps_behind, used_behind}

-- ---- what stays of a list

-- the versions up to a sequence stay, and the last sequence doesn't fall
record Grown (s : ℕ) (m n : State) : Type 0 where
  pub same : up_to s n.versions ≡ up_to s m.versions
  pub rises : m.last.0 ≤ n.last.0

grown_same : (s : ℕ) (m : State) → Grown s m m
grown_same s m = record { same = refl; rises = omega arith }

grown_flush : (s : ℕ) (m : State) (o : Option Flush) (table : ℕ) → Grown s m (flush_ended m o table)
grown_flush s m None table = grown_same s m
grown_flush s m (Some job) table = record { same = refl; rises = omega arith }

grown_compaction : (s : ℕ) (m : State) (o : Option Compaction) (pieces : List Piece) → Grown s m (with_compaction m o pieces)
grown_compaction s m None pieces = grown_same s m
grown_compaction s m (Some job) pieces = record { same = refl; rises = omega arith }

grown_write : (s : ℕ) (m : State) (ops : List WriteOp) → s ≤ m.last.0 → up_to s (m.versions ++ made m.last.0 ops) ≡ up_to s m.versions
grown_write s m ops le =
    let p : Version → Bool = λ (v : Version). nat_le v.seq.0 s in
    filter-append p m.versions (made m.last.0 ops)
    ∙ ap (λ z. filter p m.versions ++ z) (filter_none p (made m.last.0 ops) (λ v j. let l = logged_above (m.last.0 + 1) ops v j in lt-leb v.seq.0 s (omega (arith, l, le))))
    ∙ append-nil (filter p m.versions)

grown_effect : (s : ℕ) (m : State) (number : ℕ) (event : CoreEvent) → s ≤ m.last.0 → Grown s m (effect m number event)
grown_effect s m number (Write batch) le = record { same = grown_write s m batch le; rises = omega arith }
grown_effect s m number (FlushEnd table) le = grown_flush s m m.flush table
grown_effect s m number (CompactEnd pieces) le = grown_compaction s m m.compaction pieces
grown_effect s m number event le = record { same = refl; rises = omega arith }

grown_behind : (s : ℕ) (c : CoreState) (event : CoreEvent) → s ≤ c.store.last.0 → Grown s c.store (store_behind c event)
grown_behind s c event le =
    let next = effect c.store (c.events + 1) event in
    let g = grown_effect s c.store (c.events + 1) event le in
    let P : Bool → Type 0 = λ b. Grown s c.store (if b then with_live_numbers next else c.store) in
    elim (cases_Bool (is_accepted c event)) [
      | inl y ↦ subst P (sym y) (record { same = g.same; rises = g.rises })
      | inr y ↦ subst P (sym y) (grown_same s c.store)
    ]

list_stays : (s : ℕ) (c : CoreState) (es : List CoreEvent) → s ≤ c.store.last.0 → up_to s (behind_all c es).store.versions ≡ up_to s c.store.versions
list_stays s c [] le = refl
list_stays s c (e ∷ es) le =
    let g = grown_behind s c e le in
    list_stays s (behind_event c e) es (let l = g.rises in omega (arith, l, le)) ∙ g.same

-- ---- the list up to a pin

first_whole : (m : State) → IsSoundState m → up_to m.last.0 m.versions ≡ m.versions
first_whole m h = filter_every (λ (v : Version). nat_le v.seq.0 m.last.0) m.versions (λ v i. le-leb v.seq.0 m.last.0 (All-In (λ (z : Version). z.seq.0 ≤ m.last.0) m.versions v h.written.bounded i))

-- ---- what a pin keeps

kept_at : (m : State) (n : ℕ) (fs : List FamilyState) (k : ℕ) → slice_get (kept_families m n fs) k ≡ option_map (kept_family m (record { 0 = n + k })) (slice_get fs k)
kept_at m n [] k = refl
kept_at m n (f ∷ fs) zero = let e : n ≡ n + zero = omega arith in ap (λ z. Some (kept_family m (record { 0 = z }) f)) e
kept_at m n (f ∷ fs) (suc k) = let e : (n + 1) + k ≡ n + suc k = omega arith in kept_at m (n + 1) fs k ∙ ap (λ z. option_map (kept_family m (record { 0 = z })) (slice_get fs k)) e

-- the family that the view keeps is the one of the state
kept_is : (m : State) (number : ℕ) (i : Family) → slice_get (view_now m number).families i.0 ≡ option_map (kept_family m i) (family_at m i)
kept_is m number i = let e : 0 + i.0 ≡ i.0 = omega arith in kept_at m 0 m.families i.0 ∙ ap (λ z. option_map (kept_family m (record { 0 = z })) (slice_get m.families i.0)) e

kept_stands : (m : State) (i : Family) (o : Option FamilyState) (g : PinnedFamily) → family_at m i ≡ o → option_map (kept_family m i) o ≡ Some g → IsSoundState m → Stands i g.form g.versions (up_to m.last.0 m.versions) g.floor (seqs_of m)
kept_stands m i None g at e h = absurd (cc)
kept_stands m i (Some f) g at e h =
    let s : Stands i f.head.form (lists_of m i f) (up_to m.last.0 m.versions) f.head.floor (seqs_of m) = subst (λ w. Stands i f.head.form (lists_of m i f) w f.head.floor (seqs_of m)) (sym (first_whole m h)) (h.families i f at).lists in
    subst (λ (z : PinnedFamily). Stands i z.form z.versions (up_to m.last.0 m.versions) z.floor (seqs_of m)) (some_is (kept_family m i f) g e) s where
      some_is : (a b : PinnedFamily) → Some a ≡ Some b → a ≡ b
      some_is a b e = cc

sound_now : (m : State) (number : ℕ) → IsSoundState m → IsSoundView m (view_now m number)
sound_now m number h = record {
  families = λ i g at. kept_stands m i (family_at m i) g refl (sym (kept_is m number i) ∙ at) h;
  last = omega arith;
  snaps = All-from (IsSince (seqs_of m) m.last) m.snaps (λ s i. inl (In-contains (seqs_of m) s.seq (In-map (λ (z : Snap). z.seq) s m.snaps i)));
}

-- ---- it stays sound

view_behind : (c : CoreState) (e : CoreEvent) (v : PinnedView) → IsSoundView c.store v → IsSoundView (store_behind c e) v
view_behind c e v h =
    let g = grown_behind v.last.0 c e h.last in
    let le = h.last in
    let up = g.rises in
    record {
      families = λ i f at. subst (λ w. Stands i f.form f.versions w f.floor v.seqs) (sym g.same) (h.families i f at);
      last = omega (arith, le, up);
      snaps = snaps_behind (IsSince v.seqs v.last) c e h.snaps (inr le);
    }

views_behind : (c : CoreState) (e : CoreEvent) → IsSoundState (store_behind c e) → IsSoundState c.store → All (IsSoundView c.store) c.pins → All (IsSoundView (store_behind c e)) (pinned_too c e)
views_behind c Pin now old h =
    let P : PinnedView → Type 0 = IsSoundView (store_behind c Pin) in
    let v : PinnedView = view_now c.store (c.events + 1) in
    All-append P c.pins (v ∷ []) (All-from P c.pins (λ z i. view_behind c Pin z (All-In (IsSoundView c.store) c.pins z h i))) (All-cons P v [] (view_behind c Pin v (sound_now c.store (c.events + 1) old)) (All-nil P))
views_behind c e now old h = All-from (IsSoundView (store_behind c e)) c.pins (λ z i. view_behind c e z (All-In (IsSoundView c.store) c.pins z h i))

-- ---- soundness

pub sound_all : (c : CoreState) (es : List CoreEvent) → IsSoundCore c → IsSoundCore (behind_all c es)
sound_all c [] h = h
sound_all c (e ∷ es) h =
    let store = sound_behind c e h.store in
    sound_all (behind_event c e) es (record { store = store; used = used_behind c e h.used; numbers = numbered_behind c e h.numbers; views = views_behind c e store h.store h.views })

none_written : (count : ℕ) → AreWritten count 0 []
none_written count = record {
  ascending = λ i j d l m. absurd (omega (arith, m));
  positive = All-nil (λ (v : Version). 1 ≤ v.seq.0);
  bounded = All-nil (λ (v : Version). v.seq.0 ≤ 0);
  families = All-nil (λ (v : Version). v.family.0 < count);
  rising = λ a b i. absurd (omega (arith, i.1));
}

pub no_live : (forms : List Form) → [] ≡ flat_map (λ (f : FamilyState). numbers_of f.tables) (map unflushed_family (map new_head forms))
no_live [] = refl
no_live (form ∷ forms) = no_live forms

-- nothing is numbered that isn't there
none_numbered : (c : CoreState) → c.store.snaps ≡ [] → c.store.flush ≡ None → c.store.compaction ≡ None → c.store.halted ≡ None → c.pins ≡ [] → AreNumbered c
none_numbered c snaps flush compaction halted pins = record {
  snaps = subst (λ z. All (λ (s : Snap). s.event ≤ c.events) z) (sym snaps) (All-nil (λ (s : Snap). s.event ≤ c.events));
  snaps_ascend = subst (λ z. AllPairs (λ (a b : Snap). a.event < b.event) z) (sym snaps) (λ i j d l m. absurd (omega (arith, m)));
  views = subst (λ z. All (λ (v : PinnedView). v.number ≤ c.events) z) (sym pins) (All-nil (λ (v : PinnedView). v.number ≤ c.events));
  views_ascend = subst (λ z. AllPairs (λ (a b : PinnedView). a.number < b.number) z) (sym pins) (λ i j d l m. absurd (omega (arith, m)));
  flush = subst (λ z. IsSoFar c.events (option_map (λ (job : Flush). job.start) z)) (sym flush) tt;
  compaction = subst (λ z. IsSoFar c.events (option_map (λ (job : Compaction). job.start) z)) (sym compaction) tt;
  halted = subst (λ z. IsSoFar c.events z) (sym halted) tt;
}

pub fresh_sound : (forms : List Form) → IsSoundCore (fresh_core forms)
fresh_sound forms = record {
  store = sound_fresh (map new_head forms) [] (record { 0 = 0 }) None (none_written (length (map new_head forms)));
  used = no_live forms;
  numbers = none_numbered (fresh_core forms) refl refl refl refl refl;
  views = All-nil (IsSoundView (fresh_core forms).store);
}

pub opened_sound : (c : CoreState) → IsOpenedCore c → IsSoundCore c
opened_sound c h = record {
  store = sound_opened c.store h.store;
  used = h.used;
  numbers = none_numbered c h.store.snaps h.store.flush h.store.compaction h.halted h.pins;
  views = subst (λ z. All (IsSoundView c.store) z) (sym h.pins) (All-nil (IsSoundView c.store));
}

-- ---- gets

reads_same : (m : State) (i : Family) (o : Option FamilyState) (key : List ℕ) (t : Ts) (snap : Option ℕ) → family_at m i ≡ o → IsSoundState m → read_lists m i o key t (sight m snap) ≡ read_writes m i o key t (sight m snap)
reads_same m i None key t snap e h = refl
reads_same m i (Some f) key t snap e h = ap replies.Read (sound_reads m i f key t snap h e)

pub gets_answer : (c : CoreState) (es : List CoreEvent) (i : Family) (key : List ℕ) (t : Ts) (snap : Option ℕ) → IsSoundCore c → told (behind_all c es) (Get i key t snap) ≡ got_from_writes (behind_all c es) i key t snap
gets_answer c es i key t snap h =
    let d = behind_all c es in
    ap (λ z. if is_some (family_at d.store i) && has_snapshot d.store snap then z else replies.Refused) (reads_same d.store i (family_at d.store i) key t snap refl (sound_all c es h).store)

-- ---- views stay

pub find_kept : {X : Type 0} (p : X → Bool) (xs ys : List X) (v : X) → find p xs ≡ Some v → find p (xs ++ ys) ≡ Some v
find_kept p [] ys v h = absurd (cc)
find_kept p (x ∷ xs) ys v h = on (p x) (find_kept p xs ys v) h
  where
    on : (b : Bool) → (find p xs ≡ Some v → find p (xs ++ ys) ≡ Some v) → cond b (Some x) (find p xs) ≡ Some v → cond b (Some x) (find p (xs ++ ys)) ≡ Some v
    on true rest h = h
    on false rest h = rest h

pub find_last : {X : Type 0} (p : X → Bool) (xs : List X) (v : X) → ((x : X) → In x xs → p x ≡ false) → p v ≡ true → find p (xs ++ v ∷ []) ≡ Some v
find_last p [] v none y = ap (λ b. cond b (Some v) None) y
find_last p (x ∷ xs) v none y = ap (λ b. cond b (Some x) (find p (xs ++ v ∷ []))) (none x (inl refl)) ∙ find_last p xs v (λ z i. none z (inr i)) y

view_kept : (c : CoreState) (event : CoreEvent) (p : PinnedView → Bool) (v : PinnedView) → find p c.pins ≡ Some v → find p (pinned_too c event) ≡ Some v
view_kept c Pin p v h = find_kept p c.pins (view_now c.store (c.events + 1) ∷ []) v h
view_kept c event p v h = h

view_stays : (c : CoreState) (es : List CoreEvent) (p : PinnedView → Bool) (v : PinnedView) → find p c.pins ≡ Some v → find p (behind_all c es).pins ≡ Some v
view_stays c [] p v h = h
view_stays c (e ∷ es) p v h = view_stays (behind_event c e) es p v (view_kept c e p v h)

pub not_equal : (a n : ℕ) → a ≤ n → (a == (n + 1)) ≡ false
not_equal a n h = grind (arith, nat_tests)

pub equal : (n : ℕ) → (n == n) ≡ true
equal n = grind (arith, nat_tests)

view_made : (c : CoreState) → IsSoundCore c → find (λ (v : PinnedView). v.number == (c.events + 1)) (behind_event c Pin).pins ≡ Some (view_now c.store (c.events + 1))
view_made c h = find_last (λ (v : PinnedView). v.number == (c.events + 1)) c.pins (view_now c.store (c.events + 1)) (λ x i. not_equal x.number c.events (All-In (λ (z : PinnedView). z.number ≤ c.events) c.pins x h.numbers.views i)) (equal (c.events + 1))

find_In : (p : PinnedView → Bool) (xs : List PinnedView) (v : PinnedView) → find p xs ≡ Some v → In v xs
find_In p [] v h = absurd (cc)
find_In p (x ∷ xs) v h =
    elim (cases_Bool (p x)) [
      | inl e ↦ let h2 : Some x ≡ Some v = rw e at h in inl (cc)
      | inr e ↦ let h2 : find p xs ≡ Some v = rw e at h in inr (find_In p xs v h2)
    ]

up_to_all : (w : List Version) (last s : ℕ) → last ≤ s → All (λ (v : Version). v.seq.0 ≤ s) (up_to last w)
up_to_all w last s le = All-from (λ (v : Version). v.seq.0 ≤ s) (up_to last w) (λ v i. let l = leb-true v.seq.0 last (filter-In (λ (z : Version). nat_le z.seq.0 last) v w i).1 in omega (arith, l, le))

-- ---- pinned gets

sight_found : (w : List Version) (v : PinnedView) (o : Option Snap) → ((s : Snap) → o ≡ Some s → IsSince v.seqs v.last s) → IsSight (up_to v.last.0 w) v.seqs (unwrap_or (option_map (λ (s : Snap). s.seq) o) v.last)
sight_found w v None h = inr (up_to_all w v.last.0 v.last.0 (omega arith))
sight_found w v (Some s) h = elim (h s refl) [ inl i ↦ inl i | inr le ↦ inr (up_to_all w v.last.0 s.seq.0 le) ]

sight_in : (m : State) (v : PinnedView) (snap : Option ℕ) → IsSoundView m v → IsSight (up_to v.last.0 m.versions) v.seqs (sight_from m v.last snap)
sight_in m v None h = inr (up_to_all m.versions v.last.0 v.last.0 (omega arith))
sight_in m v (Some event) h = sight_found m.versions v (find (λ (s : Snap). s.event == event) m.snaps) (λ s e. All-In (IsSince v.seqs v.last) m.snaps s h.snaps (find-In (λ (z : Snap). z.event == event) m.snaps s e))

-- a read of what a view keeps answers as one of the list up to its pin
kept_reads : (m : State) (v : PinnedView) (i : Family) (g : PinnedFamily) (key : List ℕ) (t : Ts) (snap : Option ℕ) → IsSoundView m v → slice_get v.families i.0 ≡ Some g
    → read g.versions g.floor i key t (sight_from m v.last snap) ≡ read (up_to v.last.0 m.versions) g.floor i key t (sight_from m v.last snap)
kept_reads m v i g key t snap h at = read_same i g.form g.versions (up_to v.last.0 m.versions) g.floor v.seqs key t (sight_from m v.last snap) (h.families i g at) (sight_in m v snap h)

kept_first : (m : State) (v : PinnedView) (i : Family) (o : Option PinnedFamily) (key : List ℕ) (t : Ts) (snap : Option ℕ) → IsSoundView m v → slice_get v.families i.0 ≡ o
    → read_kept i o key t (sight_from m v.last snap) ≡ read_first m v i o key t (sight_from m v.last snap)
kept_first m v i None key t snap h at = refl
kept_first m v i (Some g) key t snap h at = ap replies.Read (kept_reads m v i g key t snap h at)

pin_first : (m : State) (o : Option PinnedView) (i : Family) (key : List ℕ) (t : Ts) (snap : Option ℕ) → ((v : PinnedView) → o ≡ Some v → IsSoundView m v) → read_pin m o i key t snap ≡ read_to_pin m o i key t snap
pin_first m None i key t snap h = refl
pin_first m (Some v) i key t snap h = kept_first m v i (slice_get v.families i.0) key t snap (h v refl) refl

pinned_same : (at now : State) (number : ℕ) (i : Family) (o : Option FamilyState) (key : List ℕ) (t : Ts) (snap : Option ℕ)
    → family_at at i ≡ o → up_to at.last.0 now.versions ≡ at.versions → IsSoundView now (view_now at number)
    → (if is_some (option_map (kept_family at i) o) && has_snapshot now snap then read_kept i (option_map (kept_family at i) o) key t (sight_from now at.last snap) else replies.Refused)
    ≡ (if is_some o && has_snapshot now snap then read_writes at i o key t (sight_from now at.last snap) else replies.Refused)
pinned_same at now number i None key t snap is list h = refl
pinned_same at now number i (Some f) key t snap is list h =
    let g : PinnedFamily = kept_family at i f in
    let s : Seq = sight_from now at.last snap in
    let there : slice_get (view_now at number).families i.0 ≡ Some g = kept_is at number i ∙ ap (option_map (kept_family at i)) is in
    let r : read g.versions g.floor i key t s ≡ read at.versions g.floor i key t s = kept_reads now (view_now at number) i g key t snap h there ∙ ap (λ w. read w g.floor i key t s) list in
    ap (λ z. if has_snapshot now snap then replies.Read z else replies.Refused) r

pub pinned_gets_answer : (c : CoreState) (es : List CoreEvent) (i : Family) (key : List ℕ) (t : Ts) (snap : Option ℕ) → IsSoundCore c
    → told (behind_all (behind_event c Pin) es) (PinnedGet (c.events + 1) i key t snap) ≡ got_at_pin c.store (behind_all (behind_event c Pin) es).store i key t snap
pinned_gets_answer c es i key t snap h =
    let d = behind_all (behind_event c Pin) es in
    let v : PinnedView = view_now c.store (c.events + 1) in
    let s : Seq = sight_from d.store c.store.last snap in
    let found : pin_of d (c.events + 1) ≡ Some v = view_stays (behind_event c Pin) es (λ (z : PinnedView). z.number == (c.events + 1)) v (view_made c h) in
    let list : up_to c.store.last.0 d.store.versions ≡ c.store.versions = list_stays c.store.last.0 (behind_event c Pin) es (omega arith) ∙ first_whole c.store h.store in
    let sound : IsSoundView d.store v = All-In (IsSoundView d.store) d.pins v (sound_all c (Pin ∷ es) h).views (find_In (λ (z : PinnedView). z.number == (c.events + 1)) d.pins v found) in
    ap (λ o. if has_family o i && has_snapshot d.store snap then read_pin d.store o i key t snap else replies.Refused) found
    ∙ ap (λ o. if is_some o && has_snapshot d.store snap then read_kept i o key t s else replies.Refused) (kept_is c.store (c.events + 1) i)
    ∙ pinned_same c.store d.store (c.events + 1) i (family_at c.store i) key t snap refl list sound

-- ---- replies

pub reads_answer : (c : CoreState) (e : CoreEvent) → IsSoundCore c → told c e ≡ told_from_writes c e
reads_answer c (Get i key t snap) h = gets_answer c [] i key t snap h
reads_answer c (PinnedGet pin i key t snap) h =
    let sound : (v : PinnedView) → pin_of c pin ≡ Some v → IsSoundView c.store v = λ v e. All-In (IsSoundView c.store) c.pins v h.views (find_In (λ (z : PinnedView). z.number == pin) c.pins v e) in
    ap (λ z. if has_family (pin_of c pin) i && has_snapshot c.store snap then z else replies.Refused) (pin_first c.store (pin_of c pin) i key t snap sound)
reads_answer c e h = refl

-- ---- a step of the core in code

pub fresh_is_sound : (core : CoreState) (forms : List Form) → core ≡ fresh_core forms → IsSoundCore core
fresh_is_sound core forms e = subst IsSoundCore (sym e) (fresh_sound forms)

pub step_is_sound : (before behind : CoreState) (event : CoreEvent) → behind ≡ behind_event before event → IsSoundCore before → IsSoundCore behind
step_is_sound before behind event e h = subst IsSoundCore (sym e) (sound_all before (event ∷ []) h)

pub step_reads : (before : CoreState) (event : CoreEvent) (reply : CoreReply) → reply ≡ told before event → IsSoundCore before → reply ≡ told_from_writes before event
step_reads before event reply e h = e ∙ reads_answer before event h
