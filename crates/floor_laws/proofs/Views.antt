-- A view shows the state at its pin.
use Rattle.std.proofs.Common.{◌≡◌, ◌⊎◌, ℕ, zero, suc, ◌+◌, ◌≤◌, Bool, false, List, [], ◌∷◌, ◌++◌, length, map, Option, Some, None, refl, sym, ap, ◌∙◌, arith, inl, inr, subst}
use Rattle.std.specs.Prelude.{find, if◌then◌else◌, nat_le, not, option_map, slice_get, unwrap_or, ◌==◌}
use Rattle.std.specs.List.{filter}
use Rattle.std.proofs.lemmas.Bool.{cases_Bool, and_parts, le-leb, lt-leb}
use Rattle.std.proofs.lemmas.List.Elements.{filter-append}
use Rattle.std.proofs.lemmas.List.{append-nil}
use Rattle.ts_key.specs.declared.batch.WriteOp.{WriteOp}
use Rattle.ts_key.specs.declared.numbers.Family.{Family}
use Rattle.ts_key.specs.declared.numbers.Ts.{Ts}
use Rattle.ts_key.specs.declared.numbers.Seq.{Seq}
use Rattle.ts_key.specs.declared.version.Version.{Version}
use Rattle.udt_model.specs.declared.event.Event.{Event}
use Rattle.udt_model.specs.declared.line.Line.{Line}
use Rattle.udt_model.specs.declared.reply.Piece.{Piece}
use Rattle.udt_model.specs.declared.reply.Reply.{Reply}
use Rattle.udt_model.specs.declared.reply.Reply.TheVariants.{Done, OkAt, Table, Inputs, Kept, DroppedFault, DroppedMemory, DroppedFiles, Halted, Fault}
use Rattle.udt_model.specs.Versions.{made, up_to}
use Rattle.udt_model.specs.Reads.{read}
use Rattle.udt_model.specs.Standing.{IsSight}
use Rattle.udt_model.specs.State.{State, FamilyState, Snap, Flush, Compaction, changed_at, family_at, floors_of, heads_of, place_at, place_of_family, seqs_of, sight, with_floor, with_floors}
use Rattle.udt_model.specs.Acts.{Act}
use Rattle.udt_model.specs.Acts.Act.{write, raise, make_snapshot, release, flush_start, flush_end, compact_start, compact_end}
use Rattle.udt_model.specs.Refusals.{refusal, ◌otherwise◌}
use Rattle.udt_model.specs.Steps.{IsReplyTo, after as after_act, got, reply_of_read, with_compaction, with_flush, without_job}
use Rattle.udt_model.specs.Names.{Names, View, act_of, given_view}
use Rattle.udt_model.specs.Lines.{IsReply, IsReplyOr, after_event, after_or, is_numbered, is_read, is_step, steps_with}
use Rattle.udt_model.specs.Histories.{Leads, Point, behind}
use Rattle.udt_model.specs.Entries.{AreEntries, Counts, Entry, IsEntry, after_entry, counts_after}
use Rattle.udt_model.specs.Entries.Entry.{reads, says, works}
use Rattle.floor_laws.specs.Sound.{IsSoundState, lists_of}
use Rattle.floor_laws.specs.Views.{GetsFromLists, ShowsPin, view_state}
use Rattle.floor_laws.specs.Laws.{state_behind}
use Rattle.floor_laws.proofs.Members.{In, In-contains, All-In, All-from, In-append, In-map, filter-In, filter_every, filter_none}
use Rattle.floor_laws.proofs.ListLaws.{read_same}
use Rattle.floor_laws.proofs.States.{SinceHolds, length-changed, some_same}
use Rattle.floor_laws.proofs.Writing.{refuses_write, told_other}
use Rattle.floor_laws.proofs.Told.{told_of}
use Rattle.floor_laws.proofs.Taking.{logged_above}
use Rattle.floor_laws.proofs.Reopening.{find-In}
use Rattle.floor_laws.proofs.Histories.{seen_same}

-- ---- what stays of a state in those that follow

-- Of a state with these versions, last sequence, snapshots and families: its versions up to the earlier last sequence are the earlier
-- ones, and each snapshot is an earlier one or sees all of them.
record Later (at : State) (versions : List Version) (last : Seq) (snaps : List Snap) (families : List FamilyState) : Type 0 where
  pub old : up_to at.last.0 versions ≡ at.versions
  pub rises : at.last.0 ≤ last.0
  pub since : SinceHolds (seqs_of at) at.last.0 snaps
  pub count : length families ≡ length at.families

abbrev IsLater : State → State → Type 0
IsLater at m = Later at m.versions m.last m.snaps m.families

later_same : (m : State) → IsSoundState m → IsLater m m
later_same m h = record {
  old = filter_every (λ (v : Version). nat_le v.seq.0 m.last.0) m.versions (λ v i. le-leb v.seq.0 m.last.0 (All-In (λ (z : Version). z.seq.0 ≤ m.last.0) m.versions v h.written.bounded i));
  rises = omega arith;
  since = λ s i. inl (In-map (λ (z : Snap). z.seq) s m.snaps i);
  count = refl;
}

later_without : (at m : State) (act : Act) → IsLater at m → IsLater at (without_job m act)
later_without at m (flush_end i start) k = k
later_without at m (compact_end i start) k = k
later_without at m act k = k

later_write : (at m : State) (ops : List WriteOp) (n : ℕ) → n ≡ m.last.0 + length ops → IsLater at m → Later at (m.versions ++ made m.last.0 ops) (record { 0 = n }) m.snaps m.families
later_write at m ops n e k =
    let p : Version → Bool = λ (v : Version). nat_le v.seq.0 at.last.0 in
    let le = k.rises in
    record {
      old = filter-append p m.versions (made m.last.0 ops)
          ∙ ap (λ z. filter p m.versions ++ z) (filter_none p (made m.last.0 ops) (λ v j. let l = logged_above (m.last.0 + 1) ops v j in lt-leb v.seq.0 at.last.0 (omega (arith, l, le))))
          ∙ append-nil (filter p m.versions)
          ∙ k.old;
      rises = omega (arith, le, e);
      since = k.since;
      count = k.count;
    }

later_told : (at m : State) (ops : List WriteOp) (last : ℕ) → OkAt last ≡ (refusal m (write ops false) otherwise OkAt (m.last.0 + length ops)) → IsLater at m → Later at (m.versions ++ made m.last.0 ops) (record { 0 = last }) m.snaps m.families
later_told at m ops last told k =
    let r = told_other (refusal m (write ops false)) (OkAt (m.last.0 + length ops)) (OkAt last) (refuses_write m ops false) refl told in
    later_write at m ops last (number_same last (m.last.0 + length ops) r.1) k where
      number_same : (a b : ℕ) → OkAt a ≡ OkAt b → a ≡ b
      number_same a b h = cc

later_snapshot : (at m : State) (number : ℕ) → IsLater at m → Later at m.versions m.last (m.snaps ++ record { event = number; seq = m.last } ∷ []) m.families
later_snapshot at m number k = record {
  old = k.old;
  rises = k.rises;
  since = λ s i. elim (In-append s m.snaps (record { event = number; seq = m.last } ∷ []) i) [
    | inl j ↦ k.since s j
    | inr j ↦ elim j [ inl q ↦ inr (subst (λ (z : Snap). at.last.0 ≤ z.seq.0) q k.rises) | inr b ↦ absurd b ]
  ];
  count = k.count;
}

later_release : (at m : State) (event : ℕ) → IsLater at m → Later at m.versions m.last (filter (λ (s : Snap). not (s.event == event)) m.snaps) m.families
later_release at m event k = record { old = k.old; rises = k.rises; since = λ s i. k.since s (filter-In (λ (z : Snap). not (z.event == event)) s m.snaps i).0; count = k.count }

later_family : (at m : State) (n : ℕ) (change : FamilyState → FamilyState) → IsLater at m → Later at m.versions m.last m.snaps (changed_at n change m.families)
later_family at m n change k = record { old = k.old; rises = k.rises; since = k.since; count = length-changed m.families n change ∙ k.count }

later_flush : (at m : State) (o : Option Flush) (table : ℕ) (floor : Ts) → IsLater at m → IsLater at (with_flush m o table floor)
later_flush at m None table floor k = k
later_flush at m (Some job) table floor k = record { old = k.old; rises = k.rises; since = k.since; count = length-changed m.families job.family.0 _ ∙ k.count }

later_compaction : (at m : State) (o : Option Compaction) (pieces : List Piece) → IsLater at m → IsLater at (with_compaction m o pieces)
later_compaction at m None pieces k = k
later_compaction at m (Some job) pieces k = record { old = k.old; rises = k.rises; since = k.since; count = length-changed m.families job.family.0 _ ∙ k.count }

later_step : (at m : State) (number : ℕ) (act : Act) (reply : Reply) → IsReplyTo m act reply → IsLater at m → IsLater at (after_act m number act reply)
later_step at m number act Fault r k = later_without at m act k
later_step at m number act (Halted since) r k = later_without at m act k
later_step at m number act DroppedFault r k = later_without at m act k
later_step at m number act DroppedMemory r k = later_without at m act k
later_step at m number act (DroppedFiles next) r k = later_without at m act k
later_step at m number (write ops sync) (OkAt last) r k = later_told at m ops last (told_of m (write ops sync) (OkAt last) r (λ e. absurd (cc)) (λ b. b)) k
later_step at m number (raise i floor) Done r k = later_family at m i.0 (with_floor floor) k
later_step at m number make_snapshot (OkAt seq) r k = later_snapshot at m number k
later_step at m number (release event) Done r k = later_release at m event k
later_step at m number (flush_start i) (OkAt through) r k = k
later_step at m number (flush_end i start) (Table table kept floor) r k = later_flush at m m.flush table floor k
later_step at m number (compact_start i pick) (Inputs inputs level) r k = k
later_step at m number (compact_end i start) (Kept kept pieces) r k = later_compaction at m m.compaction pieces k
later_step at m number act reply r k = k

-- ---- along lines and entries

later_or : (at m : State) (height number : ℕ) (event : Event) (o : Option Act) (reply : Reply) → IsLater at m → IsReplyOr height m event o reply → IsLater at (after_or m number o reply)
later_or at m height number event None reply k r = k
later_or at m height number event (Some act) reply k (inl r) = later_step at m number act reply r k
later_or at m height number event (Some act) reply k (inr r) = elim r.1 [
  | inl want ↦ subst (λ z. IsLater at (after_act m number act z)) (sym want.0) k
  | inr long ↦ subst (λ z. IsLater at (after_act m number act z)) (sym long.0) k
]

later_line : (at m : State) (height number : ℕ) (names : Names) (event : Event) (reply : Reply) → IsLater at m → IsReply height m names event reply → IsLater at (after_event m number names event reply)
later_line at m height number names event reply k r =
    let o = act_of (heads_of m) names event in
    elim (cases_Bool (is_step event reply)) [
      | inl y ↦
          let e = seen_same m names event (and_parts (is_numbered event) (steps_with (is_read event) reply) y).0 in
          let s : IsReplyOr height m event o reply = subst (λ z. IsReplyOr height z event o reply) e r in
          subst (λ (b : Bool). IsLater at (if b then after_or m number o reply else m)) (sym y) (later_or at m height number event o reply k s)
      | inr y ↦ subst (λ (b : Bool). IsLater at (if b then after_or m number o reply else m)) (sym y) k
    ]

later_lines : (at : State) (old : Point) (lines : List Line) (new : Point) → IsLater at old.state → Leads old lines new → IsLater at new.state
later_lines at old [] new k l = subst (λ (p : Point). IsLater at p.state) (sym l) k
later_lines at old (line ∷ lines) new k l =
    later_lines at (behind old line) lines new (later_line at old.state old.height (old.number + 1) (old.names line.who) line.event line.reply k l.0.reply) l.1

later_entry : (at m : State) (counts : Counts) (number : ℕ) (entry : Entry) → IsLater at m → IsEntry m counts entry → IsLater at (after_entry m number entry)
later_entry at m counts number (reads act) k r = k
later_entry at m counts number (says act reply) k r = later_step at m number act reply r.1 k
later_entry at m counts number (works act reply new) k r = later_step at m number act reply r.legal k

later_entries : (at m : State) (counts : Counts) (number : ℕ) (entries : List Entry) → IsLater at m → AreEntries m counts number entries → IsLater at (state_behind m number entries)
later_entries at m counts number [] k r = k
later_entries at m counts number (e ∷ es) k r = later_entries at (after_entry m (number + 1) e) (counts_after counts e) (number + 1) es (later_entry at m counts (number + 1) e k r.0) r.1

-- ---- what a view shows

places_kept : (i : Family) (earlier later : List FamilyState) (n : ℕ) → length later ≡ length earlier → option_map (place_of_family i) (slice_get (with_floors (map (λ (f : FamilyState). f.head.floor) earlier) later) n) ≡ option_map (place_of_family i) (slice_get earlier n)
places_kept i [] [] n e = refl
places_kept i [] (f ∷ fs) n e = absurd (omega (arith, e))
places_kept i (f ∷ fs) [] n e = absurd (omega (arith, e))
places_kept i (f ∷ fs) (g ∷ gs) zero e = refl
places_kept i (f ∷ fs) (g ∷ gs) (suc n) e = places_kept i fs gs n (omega (arith, e))

sight_found : (at : State) (o : Option Snap) → IsSoundState at → ((s : Snap) → o ≡ Some s → In s.seq (seqs_of at) ⊎ (at.last.0 ≤ s.seq.0)) → IsSight at.versions (seqs_of at) (unwrap_or (option_map (λ (s : Snap). s.seq) o) at.last)
sight_found at None h since = inr h.written.bounded
sight_found at (Some s) h since = elim (since s refl) [
  | inl i ↦ inl (In-contains (seqs_of at) s.seq i)
  | inr le ↦ inr (All-from (λ (v : Version). v.seq.0 ≤ s.seq.0) at.versions (λ v i. let l = All-In (λ (z : Version). z.seq.0 ≤ at.last.0) at.versions v h.written.bounded i in omega (arith, l, le)))
]

abbrev view_at : State → ℕ → View
view_at at number = record { number = number; last = at.last; floors = floors_of at }

sight_shown : (at now : State) (number : ℕ) (snap : Option ℕ) → IsSoundState at → IsLater at now → IsSight at.versions (seqs_of at) (sight (view_state now (view_at at number)) snap)
sight_shown at now number None h k = inr h.written.bounded
sight_shown at now number (Some event) h k = sight_found at (find (λ (s : Snap). s.event == event) now.snaps) h (λ s e. k.since s (find-In (λ (z : Snap). z.event == event) now.snaps s e))

gets_shown : (at now : State) (number : ℕ) (i : Family) (f : FamilyState) (key : List ℕ) (t : Ts) (snap : Option ℕ) → IsSoundState at → IsLater at now → family_at at i ≡ Some f → GetsFromLists at (view_state now (view_at at number)) i f key t snap
gets_shown at now number i f key t snap h k is =
    let p : State = view_state now (view_at at number) in
    let s : Seq = sight p snap in
    let place : place_at p i ≡ Some (place_of_family i f) = places_kept i at.families now.families i.0 k.count ∙ ap (option_map (place_of_family i)) is in
    ap (λ z. got p z key t s) place
    ∙ ap (λ z. reply_of_read (read z f.head.floor i key t s)) k.old
    ∙ sym (ap reply_of_read (read_same i f.head.form (lists_of at i f) at.versions f.head.floor (seqs_of at) key t s (h.families i f is).lists (sight_shown at now number snap h k)))

shows : (at now : State) (number : ℕ) (view : View) → IsSoundState at → IsLater at now → given_view at number Done ≡ Some view → ShowsPin at now view
shows at now number view h k e = subst (λ (z : View). ShowsPin at now z) (some_same (view_at at number) view e) (record {
  versions = k.old;
  last = refl;
  places = λ i. places_kept i at.families now.families i.0 k.count;
  gets = λ i f key t snap is. gets_shown at now number i f key t snap h k is;
})

pub shows_lines : (old : Point) (lines : List Line) (new : Point) (number : ℕ) (view : View) → IsSoundState old.state → Leads old lines new → given_view old.state number Done ≡ Some view → ShowsPin old.state new.state view
shows_lines old lines new number view h l e = shows old.state new.state number view h (later_lines old.state old lines new (later_same old.state h) l) e

pub shows_entries : (m : State) (counts : Counts) (number : ℕ) (entries : List Entry) (pin : ℕ) (view : View) → IsSoundState m → AreEntries m counts number entries → given_view m pin Done ≡ Some view → ShowsPin m (state_behind m number entries) view
shows_entries m counts number entries pin view h r e = shows m (state_behind m number entries) pin view h (later_entries m m counts number entries (later_same m h) r) e
