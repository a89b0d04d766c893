-- How a log keeps the history of its store, from call to call.
use Rattle.std.proofs.Common.{◌≡◌, ◌⊎◌, inl, inr, ⊎_elim, ℕ, ◌+◌, ◌≤◌, Bool, true, false, List, [], ◌∷◌, ◌++◌, length, map, refl, sym, ap, ◌∙◌, subst, arith}
use Rattle.std.proofs.Common.{Option, Some, None}
use Rattle.std.specs.Prelude.{Contains, Ok, Err, if◌then◌else◌}
use Rattle.std.proofs.lemmas.Option.{none-some}
use Rattle.std.proofs.lemmas.List.{append-nil, append_assoc}
use Rattle.std.proofs.lemmas.List.Elements.{Contains-append_left, Contains-push}
use Rattle.udt_disk.specs.Crash.{Image}
use Rattle.udt_disk.specs.declared.file.DiskFile.{Ghosts}
use Rattle.udt_disk.proofs.Runs.{started}
use Rattle.udt_disk.proofs.Runs.{run_weaker}
use Rattle.udt_disk.specs.Runs.{Leaves}
use Rattle.ts_key.specs.declared.version.Version.{Version}
use Rattle.udt_model.specs.declared.event.Event.{Event}
use Rattle.udt_model.specs.declared.event.Event.TheVariants.{Write, Sync}
use Rattle.udt_model.specs.declared.event.NamedOp.{NamedOp}
use Rattle.udt_model.specs.declared.reply.Reply.{Reply}
use Rattle.udt_model.specs.declared.reply.Reply.TheVariants.{OkAt, Fault, Done}
use Rattle.udt_model.specs.State.{State, heads_of}
use Rattle.solo_runner.specs.Named.{versions_made}
use Rattle.udt_model.specs.Crashes.{Course, Failing, IsOutcome, course_start, cut_at, settled}
use Rattle.udt_model.specs.Acts.Act.{write}
use Rattle.udt_model.specs.Names.{op_of as named_op}
use Rattle.udt_model.specs.Steps.{after as after_act, admitted as act_admitted}
use Rattle.solo_runner.specs.Named.{course_after_event}
use Rattle.solo_runner.proofs.Naming.{same_made}
use Rattle.wal.specs.declared.numbered.Numbered.{Numbered}
use Rattle.wal.specs.declared.wal.Wal.{Wal}
use Rattle.wal.specs.Replays.{ReadsAs, IsBeforeOrAfter}
use Rattle.wal.specs.Wals.{Holds, wal_file, wal_sizes}
use Rattle.wal.proofs.Showing.{images_read}
use Rattle.head_manifest.specs.declared.fold.Folded.{Folded}
use Rattle.gate_log.specs.declared.fault.LogFault.TheVariants.{DiskFault}
use Rattle.solo_runner.specs.Keeping.{IsLive, Keeps, ReadsAsOutcome}
use Rattle.solo_runner.specs.Logging.{HoldsLogged, IsLogged, numbered_of}
use Rattle.solo_runner.specs.LoggedStores.{KeepsOn}
use Rattle.plain_recovery.specs.Stores.{last_of, state_of}
use Rattle.plain_recovery.specs.Stores as stores
use Rattle.solo_runner.proofs.VersionLemmas.{Above, above_behind, cut_state, last_append, last_behind, last_up, length-made, settled_state, state_more, wal_above, whole_state}

-- the state after a write that was taken
abbrev pub taken : State → List NamedOp → State
taken m os = record m { versions = m.versions ++ versions_made m m.last.0 os; last = record { 0 = m.last.0 + length os } }

-- the state after a fault of the disk
abbrev pub halted_at : State → ℕ → State
halted_at m number = record m { halted = Some number }

-- the course after a write that was taken
abbrev pub course_taken : State → Course → List NamedOp → Bool → Course
course_taken m c os sync = record c { ends = c.ends ++ (m.last.0 + length os) ∷ []; synced = if sync then m.last.0 + length os else c.synced }

abbrev pub course_failed : State → ℕ → Course → List NamedOp → Bool → Course
course_failed m number c os sync = record c { failing = Some (record { state = m; number = number; act = write (map (named_op (heads_of m)) os) sync }) }

synced_within : (sync : Bool) (before last : ℕ) → before ≤ last → (if sync then last else before) ≤ last
synced_within true before last le = omega arith
synced_within false before last le = le

-- an outcome of a history is one of the same history once the disk failed
outcome_halted : (m : State) (number : ℕ) (c : Course) (left : State) → IsOutcome m c left → IsOutcome (halted_at m number) c left
outcome_halted m number c left outcome = outcome

module _ {F : Type 0} (g : Ghosts F) where
  live_above : (fold : Folded) (wal : Wal F g) (m : State) (c : Course) → fold.last.0 ≡ 0 → (live : IsLive g fold wal m c) → Above fold.last.0 (live.batches ++ live.waiting)
  live_above fold wal m c zero live = subst (λ (e : ℕ). Above e (live.batches ++ live.waiting)) (sym zero) (wal_above g wal live.batches live.waiting live.holds.shown)

  -- the last sequence of the state is that of all batches
  live_last : (fold : Folded) (wal : Wal F g) (m : State) (c : Course) → (live : IsLive g fold wal m c) → m.last.0 ≡ last_of fold.last.0 (live.batches ++ live.waiting)
  live_last fold wal m c live = ap (λ (s : State). s.last.0) live.state_is

  -- and isn't before what is synced
  live_up : (fold : Folded) (wal : Wal F g) (m : State) (c : Course) → fold.last.0 ≡ 0 → (live : IsLive g fold wal m c) → last_of fold.last.0 live.batches ≤ m.last.0
  live_up fold wal m c zero live =
      omega (arith, live_last fold wal m c live, last_append fold.last.0 live.batches live.waiting, last_up (last_of fold.last.0 live.batches) live.waiting (above_behind fold.last.0 live.batches live.waiting (live_above fold wal m c zero live)))

  live_cut_is : (fold : Folded) (wal : Wal F g) (m : State) (c : Course) → fold.last.0 ≡ 0 → (live : IsLive g fold wal m c) → state_of fold live.batches ≡ cut_at m (last_of fold.last.0 live.batches)
  live_cut_is fold wal m c zero live =
      cut_state fold live.batches live.waiting (live_above fold wal m c zero live) ∙ ap (λ (s : State). cut_at s (last_of fold.last.0 live.batches)) (sym live.state_is)

  live_cut : (fold : Folded) (wal : Wal F g) (m : State) (c : Course) → fold.last.0 ≡ 0 → (live : IsLive g fold wal m c) → IsOutcome m c (state_of fold live.batches)
  live_cut fold wal m c zero live =
      inl (last_of fold.last.0 live.batches, live.here, live.synced, live_cut_is fold wal m c zero live)

  -- an image with the batches that don't wait
  before_outcome : (fold : Folded) (wal : Wal F g) (m : State) (c : Course) → fold.last.0 ≡ 0 → stores.sizes_of fold ≡ wal_sizes wal → (live : IsLive g fold wal m c) (image : Image) → ReadsAs (wal_sizes wal) live.batches image → ReadsAsOutcome fold m c image
  before_outcome fold wal m c zero sizes live image reads = record {
    batches = live.batches;
    reads = subst (λ (s : List ℕ). ReadsAs s live.batches image) (sym sizes) reads;
    outcome = live_cut fold wal m c zero live;
  }

  -- an image with all batches
  all_outcome : (fold : Folded) (wal : Wal F g) (m : State) (c : Course) → fold.last.0 ≡ 0 → stores.sizes_of fold ≡ wal_sizes wal → (live : IsLive g fold wal m c) (image : Image) → ReadsAs (wal_sizes wal) (live.batches ++ live.waiting) image → ReadsAsOutcome fold m c image
  all_outcome fold wal m c zero sizes live image reads =
      let all : List Numbered = live.batches ++ live.waiting in
      let whole : state_of fold all ≡ cut_at m m.last.0 =
      whole_state fold all (wal_above g wal live.batches live.waiting live.holds.shown)
      ∙ ap (λ (s : State). cut_at s s.last.0) (sym live.state_is) in
      record {
        batches = all;
        reads = subst (λ (s : List ℕ). ReadsAs s all image) (sym sizes) reads;
        outcome = inl (m.last.0, live.all, omega (arith, live.synced, live_up fold wal m c zero live), whole);
      }

  either_outcome : (fold : Folded) (wal : Wal F g) (m : State) (c : Course) → fold.last.0 ≡ 0 → stores.sizes_of fold ≡ wal_sizes wal → (live : IsLive g fold wal m c) (image : Image) → IsBeforeOrAfter (wal_sizes wal) live.batches live.waiting image → ReadsAsOutcome fold m c image
  either_outcome fold wal m c zero sizes live image reads =
      ⊎_elim (λ before. before_outcome fold wal m c zero sizes live image before) (λ all. all_outcome fold wal m c zero sizes live image all) reads

  -- while the log goes with the state, what a crash leaves is an outcome
  pub live_keeps : (fold : Folded) (wal : Wal F g) (m : State) (c : Course) → fold.last.0 ≡ 0 → stores.sizes_of fold ≡ wal_sizes wal → IsLive g fold wal m c → Keeps g fold wal m c
  live_keeps fold wal m c zero sizes live = record {
    live = λ works. live;
    outcomes = λ image left. before_outcome fold wal m c zero sizes live image (images_read g wal live.batches live.waiting live.holds image left);
  }

  -- ---- nothing is written

  -- the file is as it was, and the log holds what it held
  pub same_keeps : (fold : Folded) (old new : Wal F g) (m : State) (c : Course) → wal_file new ≡ wal_file old → ((bs ws : List Numbered) → Holds g old bs ws → Holds g new bs ws) → Keeps g fold old m c → Keeps g fold new m c
  same_keeps fold old new m c file holds keeps = record {
    live = λ works.
        let live = keeps.live works in
        record { batches = live.batches; waiting = live.waiting; holds = holds live.batches live.waiting live.holds; state_is = live.state_is; here = live.here; all = live.all; synced = live.synced };
    outcomes = λ image left. keeps.outcomes image (subst (λ (x : F). g.may_leave x image) file left);
  }

  -- no call is made on the file
  pub same_moments : ((x : F) (image : Image) → g.left_since x (g.moment x) image → g.may_leave x image) → (fold : Folded) (old new : Wal F g) (m n : State) (c d : Course) → wal_file new ≡ wal_file old → Keeps g fold old m c
      → Leaves g (wal_file old) (wal_file new) (λ image. ReadsAsOutcome fold m c image ⊎ ReadsAsOutcome fold n d image)
  same_moments only_now fold old new m n c d file keeps =
      let P : Image → Type 0 = λ image. ReadsAsOutcome fold m c image ⊎ ReadsAsOutcome fold n d image in
      subst (λ (x : F). Leaves g (wal_file old) x P) (sym file) (started g (wal_file old) P (λ image left. inl (keeps.outcomes image left)) (λ image left. only_now (wal_file old) image left))

  -- ---- syncs

  -- all is on the disk
  pub sync_keeps : (fold : Folded) (old new : Wal F g) (m : State) (c : Course) → fold.last.0 ≡ 0 → stores.sizes_of fold ≡ wal_sizes old → wal_sizes new ≡ wal_sizes old → m.halted ≡ None
      → ((bs ws : List Numbered) → Holds g old bs ws → Holds g new (bs ++ ws) []) → Keeps g fold old m c → Keeps g fold new m (record c { synced = m.last.0 })
  sync_keeps fold old new m c zero sizes same works holds keeps =
      let live = keeps.live works in
      let all : List Numbered = live.batches ++ live.waiting in
      let last : m.last.0 ≡ last_of fold.last.0 all = live_last fold old m c live in
      live_keeps fold new m (record c { synced = m.last.0 }) zero (sizes ∙ sym same)
      (record {
        batches = all;
        waiting = [];
        holds = holds live.batches live.waiting live.holds;
        state_is = live.state_is ∙ ap (state_of fold) (sym (append-nil all));
        here = subst (Contains c.ends) last live.all;
        all = live.all;
        synced = omega (arith, last);
      })

  pub sync_moments : (fold : Folded) (old new : Wal F g) (m n : State) (c d : Course) → fold.last.0 ≡ 0 → stores.sizes_of fold ≡ wal_sizes old → m.halted ≡ None
      → ((bs ws : List Numbered) → Holds g old bs ws → Leaves g (wal_file old) (wal_file new) (IsBeforeOrAfter (wal_sizes old) bs ws)) → Keeps g fold old m c
      → Leaves g (wal_file old) (wal_file new) (λ image. ReadsAsOutcome fold m c image ⊎ ReadsAsOutcome fold n d image)
  sync_moments fold old new m n c d zero sizes works run keeps =
      let live = keeps.live works in
      run_weaker g (wal_file old) (wal_file new) (IsBeforeOrAfter (wal_sizes old) live.batches live.waiting) (λ image. ReadsAsOutcome fold m c image ⊎ ReadsAsOutcome fold n d image)
      (λ image reads. inl (either_outcome fold old m c zero sizes live image reads)) (run live.batches live.waiting live.holds)

  halted_reads : (fold : Folded) (m : State) (number : ℕ) (c : Course) (image : Image) → ReadsAsOutcome fold m c image → ReadsAsOutcome fold (halted_at m number) c image
  halted_reads fold m number c image r = record { batches = r.batches; reads = r.reads; outcome = outcome_halted m number c (state_of fold r.batches) r.outcome }

  -- the disk failed under a sync
  pub sync_fails : (fold : Folded) (old new : Wal F g) (m : State) (number : ℕ) (c : Course) → fold.last.0 ≡ 0 → stores.sizes_of fold ≡ wal_sizes old → m.halted ≡ None
      → ((bs ws : List Numbered) → Holds g old bs ws → Leaves g (wal_file old) (wal_file new) (IsBeforeOrAfter (wal_sizes old) bs ws)) → Keeps g fold old m c → Keeps g fold new (halted_at m number) c
  sync_fails fold old new m number c zero sizes works run keeps =
      let live = keeps.live works in
      record {
        live = λ wrong. absurd (none-some number (sym wrong));
        outcomes = λ image left. halted_reads fold m number c image (either_outcome fold old m c zero sizes live image ((run live.batches live.waiting live.holds).now image left));
      }

  -- ---- writes

  -- a write that was taken waits, or is on the disk
  pub write_waits : (fold : Folded) (old new : Wal F g) (m : State) (os : List NamedOp) (c : Course) → fold.last.0 ≡ 0 → m.halted ≡ None → (live : IsLive g fold old m c)
      → Holds g new live.batches (live.waiting ++ numbered_of m os ∷ []) → IsLive g fold new (taken m os) (course_taken m c os false)
  write_waits fold old new m os c zero works live holds =
      let n : Numbered = numbered_of m os in
      record {
        batches = live.batches;
        waiting = live.waiting ++ n ∷ [];
        holds = holds;
        state_is = ap (λ (h : Option ℕ). let s : State = record m { versions = m.versions ++ versions_made m m.last.0 os; last = record { 0 = m.last.0 + length os }; halted = h } in s) works
            ∙ state_more fold m (live.batches ++ live.waiting) os live.state_is ∙ ap (state_of fold) (append_assoc live.batches live.waiting (n ∷ []));
        here = Contains-append_left c.ends ((m.last.0 + length os) ∷ []) (last_of fold.last.0 live.batches) live.here;
        all = Contains-push c.ends (m.last.0 + length os);
        synced = live.synced;
      }

  pub write_synced : (fold : Folded) (old new : Wal F g) (m : State) (os : List NamedOp) (sync : Bool) (c : Course) → fold.last.0 ≡ 0 → m.halted ≡ None → (live : IsLive g fold old m c)
      → Holds g new (live.batches ++ (live.waiting ++ numbered_of m os ∷ [])) [] → IsLive g fold new (taken m os) (course_taken m c os sync)
  write_synced fold old new m os sync c zero works live holds =
      let n : Numbered = numbered_of m os in
      let all : List Numbered = live.batches ++ (live.waiting ++ n ∷ []) in
      let state : taken m os ≡ state_of fold all =
      ap (λ (h : Option ℕ). let s : State = record m { versions = m.versions ++ versions_made m m.last.0 os; last = record { 0 = m.last.0 + length os }; halted = h } in s) works
      ∙ state_more fold m (live.batches ++ live.waiting) os live.state_is ∙ ap (state_of fold) (append_assoc live.batches live.waiting (n ∷ [])) in
      let last : m.last.0 + length os ≡ last_of fold.last.0 all = ap (λ (s : State). s.last.0) state in
      let up : c.synced ≤ m.last.0 + length os = omega (arith, live.synced, live_up fold old m c zero live) in
      record {
        batches = all;
        waiting = [];
        holds = holds;
        state_is = state ∙ ap (state_of fold) (sym (append-nil all));
        here = subst (Contains (c.ends ++ (m.last.0 + length os) ∷ [])) last (Contains-push c.ends (m.last.0 + length os));
        all = Contains-push c.ends (m.last.0 + length os);
        synced = subst (λ (k : ℕ). (if sync then m.last.0 + length os else c.synced) ≤ k) last (synced_within sync c.synced (m.last.0 + length os) up);
      }

  -- what a batch more makes of the log, and all its batches
  taken_live : (fold : Folded) (old new : Wal F g) (m : State) (os : List NamedOp) (sync : Bool) (c : Course) → fold.last.0 ≡ 0 → m.halted ≡ None → (live : IsLive g fold old m c)
      → HoldsLogged g new live.batches live.waiting (numbered_of m os) sync (Ok tt)
      → (next : IsLive g fold new (taken m os) (course_taken m c os sync)) × (next.batches ++ next.waiting ≡ live.batches ++ (live.waiting ++ numbered_of m os ∷ []))
  unfolding write_waits write_synced
  taken_live fold old new m os true c zero works live holds = (write_synced fold old new m os true c zero works live holds, append-nil (live.batches ++ (live.waiting ++ numbered_of m os ∷ [])))
  taken_live fold old new m os false c zero works live (inl holds) = (write_waits fold old new m os c zero works live holds, refl)
  taken_live fold old new m os false c zero works live (inr holds) = (write_synced fold old new m os false c zero works live holds, append-nil (live.batches ++ (live.waiting ++ numbered_of m os ∷ [])))

  -- a write that was taken
  pub write_on : (old new : Wal F g) (m : State) (number : ℕ) (os : List NamedOp) (sync : Bool) → m.halted ≡ None → IsLogged g old new (numbered_of m os) sync (Ok tt) → KeepsOn g old new m (taken m os) number (Write os sync) (OkAt (m.last.0 + length os))
  write_on old new m number os sync works logged = record {
    keeps = λ fold c zero sizes keeps.
        let live = keeps.live works in
        live_keeps fold new (taken m os) (course_taken m c os sync) zero (sizes ∙ sym logged.sizes) (taken_live fold old new m os sync c zero works live (logged.holds live.batches live.waiting live.holds)).0;
    moments = λ fold c zero sizes keeps.
        let live = keeps.live works in
        let all : List Numbered = live.batches ++ (live.waiting ++ numbered_of m os ∷ []) in
        let next = taken_live fold old new m os sync c zero works live (logged.holds live.batches live.waiting live.holds) in
        run_weaker g (wal_file old) (wal_file new) (IsBeforeOrAfter (wal_sizes old) live.batches (live.waiting ++ numbered_of m os ∷ [])) (λ image. ReadsAsOutcome fold m c image ⊎ ReadsAsOutcome fold (taken m os) (course_taken m c os sync) image)
        (λ image reads. ⊎_elim (λ before. inl (before_outcome fold old m c zero sizes live image before))
        (λ after. inr (all_outcome fold new (taken m os) (course_taken m c os sync) zero (sizes ∙ sym logged.sizes) next.0 image (subst (λ (s : List ℕ). ReadsAs s (next.0.batches ++ next.0.waiting) image) (sym logged.sizes) (subst (λ (bs : List Numbered). ReadsAs (wal_sizes old) bs image) (sym next.1) after)))) reads)
        (logged.moments live.batches live.waiting live.holds);
  }

  -- the disk failed under a write: a crash leaves all before it, or it too
  failed_outcome : (fold : Folded) (old : Wal F g) (m : State) (number : ℕ) (os : List NamedOp) (sync : Bool) (c : Course) → OkAt (m.last.0 + length os) ≡ act_admitted m (map (named_op (heads_of m)) os) → fold.last.0 ≡ 0 → stores.sizes_of fold ≡ wal_sizes old → (live : IsLive g fold old m c) (image : Image)
      → IsBeforeOrAfter (wal_sizes old) live.batches (live.waiting ++ numbered_of m os ∷ []) image → ReadsAsOutcome fold (halted_at m number) (course_failed m number c os sync) image
  failed_outcome fold old m number os sync c told zero sizes live image (inl before) =
      record { batches = live.batches; reads = subst (λ (s : List ℕ). ReadsAs s live.batches image) (sym sizes) before; outcome = inl (last_of fold.last.0 live.batches, live.here, live.synced, live_cut_is fold old m c zero live) }
  failed_outcome fold old m number os sync c told zero sizes live image (inr all_of) =
      let n : Numbered = numbered_of m os in
      let all : List Numbered = live.batches ++ (live.waiting ++ n ∷ []) in
      let state : state_of fold all ≡ settled (after_act m number (write (map (named_op (heads_of m)) os) sync) (OkAt (m.last.0 + length os))) =
      ap (state_of fold) (sym (append_assoc live.batches live.waiting (n ∷ [])))
      ∙ sym (settled_state fold ((live.batches ++ live.waiting) ++ n ∷ []))
      ∙ ap settled (sym (state_more fold m (live.batches ++ live.waiting) os live.state_is))
      ∙ ap (λ (vs : List Version). let s : State = record m { versions = m.versions ++ vs; last = record { 0 = m.last.0 + length os } } in settled s) (sym (same_made m os m.last.0)) in
      record {
        batches = all;
        reads = subst (λ (s : List ℕ). ReadsAs s all image) (sym sizes) all_of;
        outcome = inr (OkAt (m.last.0 + length os), told, refl, state, refl);
      }

  pub write_fails : (old new : Wal F g) (m : State) (number : ℕ) (os : List NamedOp) (sync : Bool) → m.halted ≡ None → OkAt (m.last.0 + length os) ≡ act_admitted m (map (named_op (heads_of m)) os) → IsLogged g old new (numbered_of m os) sync (Err DiskFault) → KeepsOn g old new m (halted_at m number) number (Write os sync) Fault
  write_fails old new m number os sync works told logged = record {
    keeps = λ fold c zero sizes keeps.
        let live = keeps.live works in
        record {
          live = λ wrong. absurd (none-some number (sym wrong));
          outcomes = λ image left. failed_outcome fold old m number os sync c told zero sizes live image ((logged.moments live.batches live.waiting live.holds).now image left);
        };
    moments = λ fold c zero sizes keeps.
        let live = keeps.live works in
        run_weaker g (wal_file old) (wal_file new) (IsBeforeOrAfter (wal_sizes old) live.batches (live.waiting ++ numbered_of m os ∷ [])) (λ image. ReadsAsOutcome fold m c image ⊎ ReadsAsOutcome fold (halted_at m number) (course_failed m number c os sync) image)
        (λ image reads. inr (failed_outcome fold old m number os sync c told zero sizes live image reads)) (logged.moments live.batches live.waiting live.holds);
  }

  -- ---- events that leave the state

  pub still_on : ((x : F) (image : Image) → g.left_since x (g.moment x) image → g.may_leave x image) → (old new : Wal F g) (m : State) (number : ℕ) (event : Event) (reply : Reply) → ((c : Course) → course_after_event m number c event reply ≡ c)
      → wal_file new ≡ wal_file old → ((bs ws : List Numbered) → Holds g old bs ws → Holds g new bs ws) → KeepsOn g old new m m number event reply
  still_on only_now old new m number event reply course file holds = record {
    keeps = λ fold c zero sizes keeps. subst (Keeps g fold new m) (sym (course c)) (same_keeps fold old new m c file holds keeps);
    moments = λ fold c zero sizes keeps. same_moments only_now fold old new m m c (course_after_event m number c event reply) file keeps;
  }

  pub sync_on : (old new : Wal F g) (m : State) (number : ℕ) → m.halted ≡ None → wal_sizes new ≡ wal_sizes old → ((bs ws : List Numbered) → Holds g old bs ws → Holds g new (bs ++ ws) [])
      → ((bs ws : List Numbered) → Holds g old bs ws → Leaves g (wal_file old) (wal_file new) (IsBeforeOrAfter (wal_sizes old) bs ws)) → KeepsOn g old new m m number Sync Done
  sync_on old new m number works same holds run = record {
    keeps = λ fold c zero sizes keeps. sync_keeps fold old new m c zero sizes same works holds keeps;
    moments = λ fold c zero sizes keeps. sync_moments fold old new m m c (record c { synced = m.last.0 }) zero sizes works run keeps;
  }

  pub sync_fails_on : (old new : Wal F g) (m : State) (number : ℕ) → m.halted ≡ None
      → ((bs ws : List Numbered) → Holds g old bs ws → Leaves g (wal_file old) (wal_file new) (IsBeforeOrAfter (wal_sizes old) bs ws)) → KeepsOn g old new m (halted_at m number) number Sync Fault
  sync_fails_on old new m number works run = record {
    keeps = λ fold c zero sizes keeps. sync_fails fold old new m number c zero sizes works run keeps;
    moments = λ fold c zero sizes keeps. sync_moments fold old new m (halted_at m number) c c zero sizes works run keeps;
  }

  -- ---- at the opening, and at the end

  -- a log that was read at rest keeps the history that begins there
  pub opens_kept : (fold : Folded) (wal : Wal F g) (batches : List Numbered) (m : State) → Holds g wal batches [] → wal_sizes wal ≡ stores.sizes_of fold → m ≡ state_of fold batches → Keeps g fold wal m (course_start m)
  opens_kept fold wal batches m holds sizes is =
      let last : m.last.0 ≡ last_of fold.last.0 batches = ap (λ (s : State). s.last.0) is in
      let above : Above 0 batches = subst (Above 0) (append-nil batches) (wal_above g wal batches [] holds.shown) in
      let whole : state_of fold batches ≡ cut_at m m.last.0 = whole_state fold batches above ∙ ap (λ (s : State). cut_at s s.last.0) (sym is) in
      let start : Contains (m.last.0 ∷ []) m.last.0 = Contains-push [] m.last.0 in
      record {
        live = λ works. record {
          batches = batches;
          waiting = [];
          holds = holds;
          state_is = is ∙ ap (state_of fold) (sym (append-nil batches));
          here = subst (Contains (m.last.0 ∷ [])) last start;
          all = start;
          synced = omega (arith, last);
        };
        outcomes = λ image left. record {
          batches = batches;
          reads = subst (λ (s : List ℕ). ReadsAs s batches image) sizes (images_read g wal batches [] holds image left);
          outcome = inl (m.last.0, start, omega arith, whole);
        };
      }

  none_behind : (last : ℕ) (ws : List Numbered) → Above last ws → last_of last ws ≤ last → ws ≡ []
  none_behind last [] above up = refl
  none_behind last (w ∷ ws) above up = absurd (omega (arith, up, last_behind last w ws above))

  -- where all is synced nothing waits, and the log holds the state
  pub all_synced : (fold : Folded) (wal : Wal F g) (m : State) (c : Course) → fold.last.0 ≡ 0 → Keeps g fold wal m c → m.halted ≡ None → c.synced ≡ m.last.0 → (batches : List Numbered) × Holds g wal batches [] × (m ≡ state_of fold batches)
  all_synced fold wal m c zero keeps works synced =
      let live = keeps.live works in
      let up : last_of (last_of fold.last.0 live.batches) live.waiting ≤ last_of fold.last.0 live.batches =
      omega (arith, synced, live.synced, live_last fold wal m c live, last_append fold.last.0 live.batches live.waiting) in
      let none : live.waiting ≡ [] = none_behind (last_of fold.last.0 live.batches) live.waiting (above_behind fold.last.0 live.batches live.waiting (live_above fold wal m c zero live)) up in (
        live.batches,
        subst (Holds g wal live.batches) none live.holds,
        live.state_is ∙ ap (λ (ws : List Numbered). state_of fold (live.batches ++ ws)) none ∙ ap (state_of fold) (append-nil live.batches),
      )
