-- A batch that waits, and a sync of all that waits.
use Rattle.std.proofs.Common.{◌≡◌, ℕ, ◌+◌, ◌<◌, ◌≤◌, ◌==◌, true, false, List, [], ◌∷◌, ◌++◌, length, Some, refl, sym, ap, ◌∙◌, subst, arith}
use Rattle.std.specs.Prelude.{All, Bool, if◌then◌else◌, nat_le}
use Rattle.std.proofs.lemmas.Bool.{lt-leb, eqb-true, eq-eqb, false_from_ne_true}
use Rattle.std.proofs.lemmas.List.{append-nil, append_assoc}
use Rattle.std.proofs.lemmas.List.Elements.{filter-append, Contains-append_left, Contains-push, All-push}
use Rattle.ts_key.specs.declared.batch.WriteOp.{WriteOp}
use Rattle.ts_key.specs.declared.version.Version.{Version}
use Rattle.wal.specs.declared.numbered.Numbered.{Numbered}
use Rattle.wal.specs.Records.{IsLoggedBatch}
use Rattle.wal.specs.Sequences.{GoesOn, IsInSequence}
use Rattle.udt_model.specs.declared.reply.Reply.TheVariants.{OkAt, Done}
use Rattle.udt_model.specs.Versions.{made, up_to}
use Rattle.udt_model.specs.State.{State}
use Rattle.udt_model.specs.Acts.Act.{write, sync_all}
use Rattle.udt_model.specs.Steps.{IsReplyTo, after}
use Rattle.udt_model.specs.Crashes.{Course, course_after, cut_at, settled}
use Rattle.floor_laws.proofs.Members.{In, filter_none}
use Rattle.floor_laws.proofs.Told.{sound_after}
use Rattle.floor_laws.proofs.Courses.{course_sound}
use Rattle.engine_laws.specs.Logs.{above, is_above_through, versions_of, last_of, last_over, batches_of}
use Rattle.engine_laws.specs.Standing.{Says, StandsFor, live_batches}
use Rattle.engine_laws.specs.Engine.{durable_last, newest_log_of, with_batches, next_batch, HoldsState, IsOnCourse}
use Rattle.engine_laws.proofs.Batches.{last_over_is, last_append, logged-In, versions_append, goes_more, sequence_more, batches_append, batches_same, all_right}
use Rattle.engine_laws.proofs.Ascending.{Newest, newest_of as newest_in, rising_sorted}
use Rattle.engine_laws.proofs.Resting.{front_logged, durable_is, all_behind, whole_is, waiting_last, last_low, synced_low, whole_stands}

-- batches behind those of the last of some logs
pub batches_behind : (logs : ℕ → List Numbered) (older : List ℕ) (newest : ℕ) (ws : List Numbered) → ((n : ℕ) → In n older → n < newest) → batches_of (λ k. if k == newest then logs k ++ ws else logs k) (older ++ newest ∷ []) ≡ batches_of logs (older ++ newest ∷ []) ++ ws
batches_behind logs older newest ws low =
    let other : ℕ → List Numbered = λ k. if k == newest then logs k ++ ws else logs k in
    let here : (newest == newest) ≡ true = eq-eqb newest newest refl in
    let front : batches_of other older ≡ batches_of logs older = batches_same logs other older (λ n i.
    let l = low n i in
    let no : (n == newest) ≡ false = false_from_ne_true (n == newest) (λ y. let e = eqb-true n newest y in omega (arith, l, e)) in
    rw no refl) in
    let last : other newest ≡ logs newest ++ ws = rw here refl in
    batches_append other older (newest ∷ [])
    ∙ ap (λ z. z ++ batches_of other (newest ∷ [])) front
    ∙ ap (λ z. batches_of logs older ++ z) (append-nil (other newest) ∙ last ∙ ap (λ z. z ++ ws) (sym (append-nil (logs newest))))
    ∙ sym (append_assoc (batches_of logs older) (batches_of logs (newest ∷ [])) ws)
    ∙ ap (λ z. z ++ ws) (sym (batches_append logs older (newest ∷ [])))

module _ (m : State) (c : Course) (s : Says) (waiting : List Numbered) (h : HoldsState m c s waiting) where
  abbrev pub synced_says : Says
  synced_says = with_batches s waiting

  pub newest_log_is : Newest s.fold.logs
  newest_log_is = newest_in s.fold.logs h.well.some (rising_sorted s.fold.logs h.well.sorted)

  pub sync_batches : live_batches synced_says ≡ live_batches s ++ waiting
  sync_batches =
      let n = newest_log_is in
      ap (batches_of synced_says.logs) n.is
      ∙ batches_behind s.logs n.older (newest_log_of s) waiting n.above
      ∙ ap (λ z. batches_of s.logs z ++ waiting) (sym n.is)

  pub sync_all_batches : live_batches synced_says ++ [] ≡ live_batches s ++ waiting
  sync_all_batches = append-nil (live_batches synced_says) ∙ sync_batches

  pub sync_last : durable_last synced_says ≡ m.last.0
  sync_last = ap (last_over s.fold.last.0) sync_batches ∙ sym h.last

  -- after a sync all that was written is on the disk, on whatever course
  pub sync_holds_on : (d : Course) → IsOnCourse m d m.last.0 → HoldsState m d synced_says []
  sync_holds_on d on = record {
    families = h.families;
    unflushed = λ i f e. h.unflushed i f e ∙ ap (λ z. above i f.through.0 (versions_of z)) (sym sync_all_batches);
    last = h.last ∙ ap (last_over s.fold.last.0) (sym sync_all_batches);
    within = h.within;
    sequence = subst IsInSequence (sym sync_batches) (sequence_more (length s.fold.families) s.fold.last.0 (live_batches s) waiting (front_logged m c s waiting h) h.sequence (subst (λ z. GoesOn (Some (z + 1)) waiting) (durable_is m c s waiting h) h.goes_on));
    goes_on = tt;
    logged = subst (λ z. All (IsLoggedBatch (length s.fold.families)) z) (sym sync_all_batches) h.logged;
    behind = subst (λ z. s.fold.last.0 ≤ last_of s.fold.last.0 z) (sym sync_batches) (all_behind m c s waiting h);
    fits = h.fits;
    well = h.well;
    sound = h.sound;
    course = subst (IsOnCourse m d) (sym sync_last) on;
  }

  -- a sync that nobody asked for leaves the course as it is
  pub sync_unasked : HoldsState m c synced_says []
  sync_unasked = sync_holds_on c (record {
    here = h.course.all;
    all = h.course.all;
    synced = synced_low m c s waiting h;
    sound = h.course.sound;
  })

  -- and one that was asked for brings it forward
  pub sync_holds : (number : ℕ) → IsReplyTo m sync_all Done → HoldsState (after m number sync_all Done) (course_after m number c sync_all Done) synced_says []
  sync_holds number r = sync_holds_on (course_after m number c sync_all Done) (record {
    here = h.course.all;
    all = h.course.all;
    synced = omega arith;
    sound = course_sound m c number sync_all Done h.sound h.course.sound r;
  })

  -- and what the files say then stands for all of the state
  pub sync_stands : StandsFor synced_says (settled m)
  sync_stands = whole_stands m c synced_says sync_unasked

-- ---- a write

module _ (m : State) (c : Course) (s : Says) (waiting : List Numbered) (h : HoldsState m c s waiting) (number : ℕ) (ops : List WriteOp) (sync : Bool) (last : ℕ) (told : IsReplyTo m (write ops sync) (OkAt last)) (fits : IsLoggedBatch (length s.fold.families) (next_batch m ops)) (up : last ≡ m.last.0 + length ops) where
  abbrev pub next : State
  next = after m number (write ops sync) (OkAt last)

  abbrev pub behind_waiting : List Numbered
  behind_waiting = waiting ++ next_batch m ops ∷ []

  new_above : (v : Version) → In v (made m.last.0 ops) → (m.last.0 < v.seq.0) × (v.seq.0 ≤ m.last.0 + length ops)
  new_above v i = let r = logged-In (m.last.0 + 1) ops v i in (omega (arith, r.0), omega (arith, r.1))

  all_more : live_batches s ++ behind_waiting ≡ (live_batches s ++ waiting) ++ next_batch m ops ∷ []
  all_more = sym (append_assoc (live_batches s) waiting (next_batch m ops ∷ []))

  last_more_of : last_of s.fold.last.0 (live_batches s ++ behind_waiting) ≡ last
  last_more_of =
      let some = fits.some in
      let step : last_of m.last.0 (next_batch m ops ∷ []) ≡ last = omega (arith, some, up) in
      ap (last_of s.fold.last.0) all_more
      ∙ last_append s.fold.last.0 (live_batches s ++ waiting) (next_batch m ops ∷ [])
      ∙ ap (λ z. last_of z (next_batch m ops ∷ [])) (sym (whole_is m c s waiting h))
      ∙ step

  last_more : last_over s.fold.last.0 (live_batches s ++ behind_waiting) ≡ last
  last_more =
      let a = all_behind m c s waiting h in
      let k = whole_is m c s waiting h in
      let e = last_more_of in
      last_over_is s.fold.last.0 (live_batches s ++ behind_waiting) (omega (arith, a, k, e, up)) ∙ e

  -- the write waits, on a course that is synced no further
  pub write_holds_on : (d : Course) → IsOnCourse next d (durable_last s) → HoldsState next d s behind_waiting
  write_holds_on d on = record {
    families = h.families;
    unflushed = λ i f e.
        filter-append (is_above_through i f.through.0) m.versions (made m.last.0 ops)
        ∙ ap (λ z. z ++ above i f.through.0 (made m.last.0 ops)) (h.unflushed i f e)
        ∙ sym (filter-append (is_above_through i f.through.0) (versions_of (live_batches s ++ waiting)) (made m.last.0 ops))
        ∙ ap (above i f.through.0) (ap (λ z. versions_of (live_batches s ++ waiting) ++ z) (sym (append-nil (made m.last.0 ops))) ∙ sym (versions_append (live_batches s ++ waiting) (next_batch m ops ∷ [])) ∙ ap versions_of (sym all_more));
    last = sym last_more;
    within = let a = fits.last in omega (arith, a, up);
    sequence = h.sequence;
    goes_on =
        let e : last_of (durable_last s) waiting ≡ m.last.0 = sym (waiting_last m c s waiting h) in
        goes_more (length s.fold.families) (durable_last s) waiting (next_batch m ops ∷ []) (all_right (length s.fold.families) (live_batches s) waiting h.logged) h.goes_on
        (omega (arith, e), tt);
    logged = subst (λ z. All (IsLoggedBatch (length s.fold.families)) z) (sym all_more) (All-push (IsLoggedBatch (length s.fold.families)) (live_batches s ++ waiting) (next_batch m ops) h.logged fits);
    behind = h.behind;
    fits = h.fits;
    well = h.well;
    sound = sound_after m number (write ops sync) (OkAt last) h.sound told;
    course = on;
  }

  -- what the disk has by then is what it had of the state before
  pub write_cut : cut_at next (durable_last s) ≡ cut_at m (durable_last s)
  write_cut =
      let end = durable_last s in
      let low = last_low m c s waiting h in
      ap (λ z. settled (record m { versions = z; last = record { 0 = end } }))
      (filter-append (λ (v : Version). nat_le v.seq.0 end) m.versions (made m.last.0 ops)
      ∙ ap (λ z. up_to end m.versions ++ z) (filter_none (λ (v : Version). nat_le v.seq.0 end) (made m.last.0 ops) (λ v i. let r = new_above v i in lt-leb v.seq.0 end (omega (arith, r.0, low))))
      ∙ append-nil (up_to end m.versions))

-- an unsynced write waits
pub write_waits : (m : State) (c : Course) (s : Says) (waiting : List Numbered) (number : ℕ) (ops : List WriteOp) (last : ℕ) → HoldsState m c s waiting → IsReplyTo m (write ops false) (OkAt last) → IsLoggedBatch (length s.fold.families) (next_batch m ops) → last ≡ m.last.0 + length ops
    → HoldsState (after m number (write ops false) (OkAt last)) (course_after m number c (write ops false) (OkAt last)) s (waiting ++ next_batch m ops ∷ [])
write_waits m c s waiting number ops last h told fits up =
    write_holds_on m c s waiting h number ops false last told fits up (course_after m number c (write ops false) (OkAt last)) (record {
      here = Contains-append_left c.ends (last ∷ []) (durable_last s) h.course.here;
      all = Contains-push c.ends last;
      synced = h.course.synced;
      sound = course_sound m c number (write ops false) (OkAt last) h.sound h.course.sound told;
    })

-- a synced one is on the disk with all that waited
pub write_synced : (m : State) (c : Course) (s : Says) (waiting : List Numbered) (number : ℕ) (ops : List WriteOp) (last : ℕ) → HoldsState m c s waiting → IsReplyTo m (write ops true) (OkAt last) → IsLoggedBatch (length s.fold.families) (next_batch m ops) → last ≡ m.last.0 + length ops
    → HoldsState (after m number (write ops true) (OkAt last)) (course_after m number c (write ops true) (OkAt last)) (with_batches s (waiting ++ next_batch m ops ∷ [])) []
write_synced m c s waiting number ops last h told fits up =
    let next = after m number (write ops true) (OkAt last) in
    -- the course as it was, with one end more
    let c0 : Course = record c { ends = c.ends ++ last ∷ [] } in
    let on0 : IsOnCourse next c0 (durable_last s) = record {
      here = Contains-append_left c.ends (last ∷ []) (durable_last s) h.course.here;
      all = Contains-push c.ends last;
      synced = h.course.synced;
      sound = record { synced = h.course.sound.synced; failing = h.course.sound.failing };
    } in
    let k : HoldsState next c0 s (waiting ++ next_batch m ops ∷ []) = write_holds_on m c s waiting h number ops true last told fits up c0 on0 in
    sync_holds_on next c0 s (waiting ++ next_batch m ops ∷ []) k (course_after m number c (write ops true) (OkAt last)) (record {
      here = Contains-push c.ends last;
      all = Contains-push c.ends last;
      synced = omega arith;
      sound = course_sound m c number (write ops true) (OkAt last) h.sound h.course.sound told;
    })
