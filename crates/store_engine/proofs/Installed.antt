-- The install of a flush: what the engine holds behind its steps.
use Rattle.std.proofs.Common.{◌≡◌, ℕ, ◌<◌, ◌≤◌, max, true, false, List, [], ◌∷◌, ◌++◌, length, map, take, Result, Ok, Some, refl, sym, ap, ◌∙◌, subst, arith, inl, inr}
use Rattle.std.specs.Prelude.{All, Contains, IsTrue, OnOk, option_map, slice_get}
use Rattle.std.specs.List.{AllByRecursion}
use Rattle.std.proofs.lemmas.Bool.{eq-eqb}
use Rattle.ts_key.specs.declared.numbers.Family.{Family}
use Rattle.ts_key.specs.declared.numbers.Seq.{Seq}
use Rattle.ts_key.specs.declared.numbers.Ts.{Ts}
use Rattle.ts_key.specs.declared.version.Form.{Form}
use Rattle.ts_key.specs.declared.version.Form.TheVariants.{Persist, Strip}
use Rattle.ts_key.specs.declared.version.Version.{Version}
use Rattle.ts_key.specs.Items.{Item}
use Rattle.ts_key.specs.Lists.{joined_lists}
use Rattle.udt_disk.specs.Joint.{Folder}
use Rattle.udt_disk.specs.Moments.{MayLeave}
use Rattle.udt_disk.specs.declared.file.DiskFile as file
use Rattle.udt_disk.specs.declared.disk.Disk as disk
use Rattle.udt_disk.specs.declared.name.FileName.{FileName}
use Rattle.udt_disk.specs.declared.name.FileName.TheVariants.{Log, Table}
use Rattle.udt_disk.proofs.Joints.{ran_more, ran_on}
use Rattle.data_block.specs.Grammar.{IsBlock}
use Rattle.block_table.specs.Contents.{Contents}
use Rattle.block_table.specs.Tables.{IsTable}
use Rattle.udt_model.specs.declared.reply.Reply.{Reply}
use Rattle.udt_model.specs.declared.reply.Reply.TheVariants as replies
use Rattle.udt_model.specs.Acts.{Act}
use Rattle.udt_model.specs.Acts.Act.{flush_end}
use Rattle.udt_model.specs.Collecting.{cutoff}
use Rattle.udt_model.specs.Jobs.{flush_floor, flush_kept, flush_taken, floor_over, runs_flush}
use Rattle.udt_model.specs.Running.{IsFlushRight}
use Rattle.udt_model.specs.State.{FamilyState as ModelFamily}
use Rattle.udt_model.specs.State.{Flush, State, family_at, floor_at, floor_of, form_at}
use Rattle.udt_model.specs.Steps.{IsFlushed, IsReplyTo, IsTold, after, is_running, with_flush}
use Rattle.udt_model.specs.Crashes.{Course, IsOutcome, IsOutcomeUnder, course_after, settled}
use Rattle.manifest_edit.specs.declared.edit.Edit.{Edit}
use Rattle.manifest_edit.specs.declared.edit.TableAt.{TableAt}
use Rattle.manifest_fold.specs.declared.fold.FamilyFold.{FamilyFold}
use Rattle.manifest_fold.specs.Folds.{fold_with, is_live, newest_log}
use Rattle.manifest.specs.Manifest.{manifest_file, manifest_folded}
use Rattle.super_version.specs.Changes.{ChangesFamily, family_with_flush}
use Rattle.super_version.specs.Contents.{version_of_item}
use Rattle.super_version.specs.Live.{Live}
use Rattle.super_version.specs.declared.family.FamilyState.{FamilyState}
use Rattle.super_version.specs.declared.jobs.TableOut.{TableOut}
use Rattle.super_version.specs.declared.version.SuperVersion.{SuperVersion}
use Rattle.floor_laws.proofs.Kept.{same_number}
use Rattle.floor_laws.proofs.Members.{In, All-In, All-from, In-append, In-contains, contains_In}
use Rattle.floor_laws.proofs.States.{holds_of, some_same, written_of}
use Rattle.engine_laws.specs.Installs.{IsNextFile, LogsMayGo, flush_edit}
use Rattle.engine_laws.specs.Joints.{IsNowLast}
use Rattle.engine_laws.specs.Moves.{AreDead, TableRests, added_tables}
use Rattle.engine_laws.specs.Standing.{Fits, FolderSays, Says, StandsForSome, TableSays, TableReads}
use Rattle.engine_laws.specs.Engine.{HoldsState, IsOutcomeOr, MayEdit, SameLive, newest_log_of, with_batches, with_edit, with_new_table}
use Rattle.engine_laws.proofs.Acting.{act_holds}
use Rattle.engine_laws.proofs.Calls.{changed, under_act}
use Rattle.engine_laws.proofs.Editing.{edit_stands}
use Rattle.engine_laws.proofs.Folding.{logs_In}
use Rattle.engine_laws.proofs.Installing.{flush_may}
use Rattle.engine_laws.proofs.Keeping.{fixed_table, same_holds}
use Rattle.engine_laws.proofs.Moving.{same_rests}
use Rattle.engine_laws.proofs.Syncing.{sync_unasked}
use Rattle.recovery.specs.Tables.{ReadsAsTable, family_of_table, says_of}
use Rattle.recovery.specs.Versions.{IsOfFold}
use Rattle.store_engine.specs.Calls.{RanUnder}
use Rattle.store_engine.specs.Dropping.{AreGone}
use Rattle.store_engine.specs.Engines.{HoldsNow, IsCurrent, IsEngineOf, IsRunning, held}
use Rattle.store_engine.specs.Asides.{AreRemoved, IsGivenBack}
use Rattle.store_engine.specs.Installing.{EndsFlushBy, floor_over_now, floor_with, live_with}
use Rattle.store_engine.specs.Jobs.{IsJobNumber}
use Rattle.store_engine.specs.Now.{FitsFamily, IsNow}
use Rattle.store_engine.specs.Older.{CoversOlder}
use Rattle.store_engine.specs.Steps.{IsEdited, IsLogSynced, ReservesEdit}
use Rattle.store_engine.specs.declared.engine.Engine.{Engine}
use Rattle.store_engine.specs.declared.fault.EngineFault.{EngineFault}
use Rattle.store_engine.proofs.Aside.{aside_of, aside_ran, dropped_names, table_free}
use Rattle.store_engine.proofs.Covering.{covers_edited, covers_synced}
use Rattle.store_engine.proofs.Current.{there_too}
use Rattle.store_engine.proofs.DroppedLogs.{logs_may_go}
use Rattle.store_engine.proofs.GivenBack.{back_of, back_ran, back_running, table_rests}
use Rattle.store_engine.proofs.NowFlushed.{now_flushed}
use Rattle.store_engine.proofs.Raised.{edited_of, edited_ran}
use Rattle.store_engine.proofs.Synced.{synced_of, synced_ran}
use Rattle.store_engine.proofs.Together.{newest_stays}

-- ---- the table has a version

some_joined : (form : Form) (cuts : List (List Item)) → 0 < length cuts → AllByRecursion (IsBlock form) cuts → 0 < length (joined_lists cuts)
some_joined form [] none each = absurd (omega (arith, none))
some_joined form ([] ∷ cuts) some each = let l = each.0.some in absurd (omega (arith, l))
some_joined form ((x ∷ xs) ∷ cuts) some each = omega arith

pub table_some : (t : Contents) (image : List ℕ) → IsTable t image → 0 < length t.items
table_some t image is = subst (λ vs. 0 < length vs) (sym is.blocks.joins) (some_joined t.form is.cuts is.blocks.some is.blocks.each)

-- ---- the floor of a flush

floor_joined : (form : Form) (now at : Ts) (vs : List Version) (floor : Ts) → at.0 ≤ now.0 → floor ≡ floor_over form at vs → (let t : Ts = record { 0 = max now.0 floor.0 } in t) ≡ floor_over form now vs
floor_joined Persist now at vs floor low is = let e = ap (λ (t : Ts). t.0) is in let same : max now.0 floor.0 ≡ now.0 = omega (arith, e, low) in ap (λ n. let t : Ts = record { 0 = n } in t) same
floor_joined Strip now at vs floor low is =
    let e : floor.0 ≡ max at.0 (cutoff vs) = ap (λ (t : Ts). t.0) is in
    let same : max now.0 floor.0 ≡ max now.0 (cutoff vs) = omega (arith, e, low) in
    ap (λ n. let t : Ts = record { 0 = n } in t) same

runs_it : (job : Flush) (family : Family) → job.family ≡ family → runs_flush (Some job) family job.start ≡ true
runs_it job family same =
    let a = eq-eqb job.start job.start refl in
    let b = eq-eqb job.family.0 family.0 (ap (λ (i : Family). i.0) same) in
    rw (a, b) refl

module _ {D F : Type 0} (d : disk.Ghosts D F) (f : file.Ghosts F) (old : Engine D F f) (now : SuperVersion) (m : State) (c : Course) (event : ℕ) (job : Flush) (family : Family) (gone : ℕ) (through : Seq) (number : ℕ) (given : F) (out : TableOut)
    (h : HoldsNow d f old now m c) (by : EndsFlushBy f m now job family gone through number given out) (unused : IsJobNumber old number) (state : FamilyState) (here : slice_get now.families family.0 ≡ Some state) where
  abbrev pub floor : Ts
  floor = floor_over_now now family out.floor

  abbrev pub end_act : Act
  end_act = flush_end family job.start

  abbrev pub end_reply : Reply
  end_reply = replies.Table number out.kept floor

  abbrev pub next_state : State
  next_state = after m event end_act end_reply

  -- what the files say, where the table is told of
  abbrev pub says_now : Says
  says_now = with_new_table h.says number (says_of out.table.contents)

  here_job : slice_get now.families job.family.0 ≡ Some state
  here_job = subst (λ (i : Family). slice_get now.families i.0 ≡ Some state) (sym by.of_family) here

  flushing : (g : ModelFamily) × (family_at m job.family ≡ Some g) × (g.through.0 ≤ job.through.0) × (job.through.0 ≤ m.last.0) × (job.floor.0 ≤ g.head.floor.0)
  flushing = let k : IsFlushRight m (Some job) = subst (IsFlushRight m) by.runs h.holds.sound.jobs.flush in (k.0, k.1, k.2.from, k.2.to, k.2.floor)

  abbrev model_family : ModelFamily
  model_family = flushing.0

  shown_floor : state.floor ≡ model_family.head.floor
  shown_floor = (h.shows.families job.family model_family state flushing.1 here_job).floor

  floor_here : floor ≡ floor_with (Some state) out.floor
  floor_here = ap (λ o. floor_with o out.floor) here

  pub floor_rises : state.floor.0 ≤ floor.0
  floor_rises = let e : floor.0 ≡ max state.floor.0 out.floor.0 = ap (λ (t : Ts). t.0) floor_here in omega (arith, e)

  floor_is : floor ≡ flush_floor m job
  floor_is =
      let at : floor_at m job.family ≡ state.floor = ap floor_of flushing.1 ∙ sym shown_floor in
      let low : job.floor.0 ≤ state.floor.0 = let l = flushing.4 in let e = ap (λ (t : Ts). t.0) shown_floor in omega (arith, l, e) in
      let form : form_at m family ≡ form_at m job.family = ap (form_at m) (sym by.of_family) in
      floor_here
      ∙ floor_joined (form_at m family) state.floor job.floor (flush_taken m job) out.floor low by.floor
      ∙ ap (λ x. floor_over x state.floor (flush_taken m job)) form
      ∙ ap (λ t. floor_over (form_at m job.family) t (flush_taken m job)) (sym at)

  is_told : IsTold m end_act end_reply
  is_told = (h.runs, subst (λ o. IsFlushed m o number out.kept floor) (sym by.runs) (by.fresh, by.kept, floor_is))

  pub end_runs : IsTrue (is_running m end_act)
  end_runs = subst (λ o. IsTrue (runs_flush o family job.start)) (sym by.runs) (runs_it job family by.of_family)

  pub end_told : IsReplyTo m end_act end_reply
  end_told = record { running = end_runs; is = inl is_told }

  pub end_fails : IsReplyTo m end_act replies.Fault
  end_fails = record { running = end_runs; is = inr (inl (refl, refl, ap (option_map replies.Halted) h.runs)) }

  -- ---- what the files say

  same_live : SameLive h.says says_now
  same_live = fixed_table h.says number (says_of out.table.contents) (table_free h.says.fold number (subst (λ fold. is_live fold.families number ≡ false) h.engine_of.fold unused.free))

  pub says_holds : HoldsState m c says_now h.waiting
  says_holds = same_holds m c h.says says_now h.waiting same_live h.holds

  pub says_of_engine : (engine : Engine D F f) → IsEngineOf d f engine h.says h.waiting → IsEngineOf d f engine says_now h.waiting
  says_of_engine engine of = record {
    rests = same_rests ReadsAsTable (MayLeave d f (held engine)) (f.name (manifest_file engine.manifest)) h.says says_now same_live of.rests;
    fold = of.fold;
    edits = of.edits;
    log = of.log;
    one = of.one;
  }

  pub table_said : says_now.tables number ≡ says_of out.table.contents
  table_said = let e = eq-eqb number number refl in rw e refl

  -- ---- the edit

  module _ (running : IsRunning old) (current : IsCurrent old now) (next : SuperVersion) (edit : Edit) (count : ℕ) (gone_logs : AreGone next.families old.older (manifest_folded old.manifest).logs count)
      (changes : ChangesFamily family.0 (family_with_flush gone through floor (live_with number out.table)) now next)
      (is : edit ≡ flush_edit now.last old.next (take count (manifest_folded old.manifest).logs) family floor through number)
      (some : count < length (manifest_folded old.manifest).logs) where
    abbrev added : Live
    added = live_with number out.table

    table_holds : map (version_of_item job.family) out.table.contents.items ≡ flush_kept m job
    table_holds = ap (λ i. map (version_of_item i) out.table.contents.items) by.of_family ∙ by.holds

    own_job : out.table.contents.family ≡ job.family.0
    own_job = by.own ∙ ap (λ (i : Family). i.0) (sym by.of_family)

    fits_higher : (g : FamilyState) → slice_get now.families job.family.0 ≡ Some g → FitsFamily g.form floor added
    fits_higher g at =
        let same : g ≡ state = some_same g state (sym at ∙ here_job) in
        let fits = by.fits g (subst (λ (i : Family). slice_get now.families i.0 ≡ Some g) by.of_family at) in
        let up : g.floor.0 ≤ floor.0 = subst (λ (x : FamilyState). x.floor.0 ≤ floor.0) (sym same) floor_rises in
        let low = fits.collected in
        record { form_is = fits.form_is; collected = omega (arith, low, up) }

    -- the next version shows the next state
    pub next_shows : IsNow next next_state
    next_shows =
        let changed_here : ChangesFamily job.family.0 (family_with_flush gone job.through floor added) now next =
        subst (λ q. ChangesFamily job.family.0 (family_with_flush gone q floor added) now next) (sym by.up_to) (subst (λ (i : Family). ChangesFamily i.0 (family_with_flush gone through floor added) now next) (sym by.of_family) changes) in
        now_flushed m now next job number gone floor added h.holds.sound h.shows by.runs changed_here
        (λ g at. by.all_sealed g (subst (λ (i : Family). slice_get now.families i.0 ≡ Some g) by.of_family at))
        (λ g at. subst (λ (x : FamilyState). x.floor.0 ≤ floor.0) (some_same state g (sym here_job ∙ at)) floor_rises)
        own_job fits_higher (table_some out.table.contents out.table.image by.file.is) table_holds refl

    abbrev s1 : Says
    s1 = with_batches says_now h.waiting

    h1 : HoldsState m c s1 []
    h1 = sync_unasked m c says_now h.waiting says_holds

    fold_is : manifest_folded old.manifest ≡ h.says.fold
    fold_is = h.engine_of.fold

    edit_is : edit ≡ flush_edit m.last old.next (take count s1.fold.logs) job.family floor job.through number
    edit_is =
        is
        ∙ ap (λ q. flush_edit q old.next (take count (manifest_folded old.manifest).logs) family floor through number) h.shows.last
        ∙ ap (λ fold. flush_edit m.last old.next (take count fold.logs) family floor through number) fold_is
        ∙ ap (λ i. flush_edit m.last old.next (take count h.says.fold.logs) i floor through number) (sym by.of_family)
        ∙ ap (λ q. flush_edit m.last old.next (take count h.says.fold.logs) job.family floor q number) (sym by.up_to)

    fam : (x : FamilyFold) × (slice_get (manifest_folded old.manifest).families family.0 ≡ Some x)
    fam = there_too now.families (manifest_folded old.manifest).families family.0 state current.fits.all here

    fam_there : slice_get s1.fold.families job.family.0 ≡ Some fam.0
    fam_there = subst (λ (i : Family). slice_get h.says.fold.families i.0 ≡ Some fam.0) (sym by.of_family) (subst (λ fold. slice_get fold.families family.0 ≡ Some fam.0) fold_is fam.1)

    fam_is : IsOfFold fam.0 state
    fam_is = current.fits.each family.0 fam.0 state fam.1 here

    said : s1.tables number ≡ says_of out.table.contents
    said = table_said

    table_family : family_of_table out.table.contents ≡ job.family
    table_family = same_number (family_of_table out.table.contents) job.family own_job

    said_holds : (s1.tables number).versions ≡ flush_kept m job
    said_holds = ap (λ (t : TableSays). t.versions) said ∙ ap (λ i. map (version_of_item i) out.table.contents.items) table_family ∙ table_holds

    said_fits : Fits job.family (record fam.0 { floor = floor }) (s1.tables number)
    said_fits =
        let fits = by.fits state here in
        let low = fits.collected in
        let up = floor_rises in
        subst (Fits job.family (record fam.0 { floor = floor })) (sym said) (record { family = table_family; form = fits.form_is ∙ fam_is.form; collected = omega (arith, low, up) })

    next_file : IsNextFile m s1 old.next
    next_file = record {
      more = subst (λ z. z.next_file ≤ old.next) fold_is running.together.more;
      most = running.together.most;
      used = h.used;
    }

    told_job : IsReplyTo m (flush_end job.family job.start) end_reply
    told_job = subst (λ i. IsReplyTo m (flush_end i job.start) end_reply) (sym by.of_family) end_told

    covers1 : CoversOlder old.older s1
    covers1 = covers_synced old.older old.older says_now h.waiting refl (record { within = h.covers.within; rolled = h.covers.rolled })

    same_versions : next_state.versions ≡ m.versions
    same_versions = ap (λ o. (with_flush m o number floor).versions) by.runs

    same_last : next_state.last ≡ m.last
    same_last = ap (λ o. (with_flush m o number floor).last) by.runs

    bounded : (v : Version) → In v next_state.versions → v.seq.0 ≤ next_state.last.0
    bounded v i =
        let l = (written_of (length m.families) m.last.0 m.versions (holds_of m h.holds.sound).written).bounded v (subst (λ vs. In v vs) same_versions i) in
        let e = ap (λ (q : Seq). q.0) same_last in
        omega (arith, l, e)

    go : LogsMayGo s1 next_state (take count s1.fold.logs)
    go = logs_may_go next_state s1 old.older next count (subst (λ fold. AreGone next.families old.older fold.logs count) fold_is gone_logs) covers1 next_shows h1.well (subst (λ fold. count < length fold.logs) fold_is some) bounded

    -- the edit may be made, and leads to the next state
    pub may : MayEdit m s1 edit next_state
    may = subst (λ e. MayEdit m s1 e next_state) (sym edit_is)
        (flush_may m c s1 event job.start number out.kept old.next floor job fam.0 h1 by.runs told_job fam_there said_holds said_fits next_file unused.given (take count s1.fold.logs) go.kept go.upto go.oldest go.some go.covers go.drops)

    pub no_logs : edit.add_logs ≡ []
    no_logs = ap (λ (e : Edit). e.add_logs) is

    drops_is : edit.drop_logs ≡ take count (manifest_folded old.manifest).logs
    drops_is = ap (λ (e : Edit). e.drop_logs) is

    -- the one table that it adds
    pub adds_one : (P : ℕ → Type 0) → P number → (t : TableAt) → Contains (added_tables edit.family) t → P t.number
    adds_one P p t i =
        elim (contains_In (record { level = 0; number = number } ∷ []) t (subst (λ o. Contains (added_tables o) t) (ap (λ (e : Edit). e.family) is) i)) [
          | inl q ↦ subst P (ap (λ (u : TableAt). u.number) q) p
          | inr none ↦ absurd none
        ]

    -- ---- the steps

    module _ (now_last : IsNowLast d f) (mid back : Engine D F f) (kept : ReservesEdit f edit old mid (Ok tt)) (given_back : IsGivenBack d f given mid back) (named : f.name given ≡ Table number) where
      abbrev Under : Folder → Type 0
      Under folder = StandsForSome ReadsAsTable folder (IsOutcomeUnder m c event end_act)

      before : (folder : Folder) → StandsForSome ReadsAsTable folder (IsOutcome m c) → Under folder
      before folder o = (o.0, o.1, inl o.2)

      of_back : IsEngineOf d f back says_now h.waiting
      of_back = says_of_engine back (back_of d f now_last old mid back edit (Ok tt) given kept given_back number named unused h.says h.waiting h.engine_of)

      back_runs : IsRunning back
      back_runs = back_running d f now_last old mid back edit (Ok tt) given kept given_back

      pub back_under : RanUnder d f m c event end_act old back
      back_under = ran_more d f (λ folder. StandsForSome ReadsAsTable folder (IsOutcome m c)) Under before (held old) (held back) (back_ran d f now_last old mid back edit (Ok tt) given kept given_back number named unused m c h.says h.waiting h.holds h.engine_of)

      pub synced_under : (two : Engine D F f) (first : Result (Unit {0}) EngineFault) → IsLogSynced f back two first → RanUnder d f m c event end_act old two
      synced_under two first synced =
          ran_on d f Under (held old) (held back) (held two) back_under
          (ran_more d f (λ folder. StandsForSome ReadsAsTable folder (IsOutcome m c)) Under before (held back) (held two) (synced_ran d f now_last back two first synced m c says_now h.waiting says_holds of_back back_runs.together))

      module _ (two three : Engine D F f) (synced : IsLogSynced f back two (Ok tt)) (second : Result (Unit {0}) EngineFault) (edited : IsEdited f edit two three second) where
        of_two : IsEngineOf d f two s1 []
        of_two = synced_of d f now_last back two (Ok tt) synced m c says_now h.waiting says_holds of_back back_runs.together

        new_table : (t : TableAt) → Contains (added_tables edit.family) t → TableRests ReadsAsTable (MayLeave d f (held two)) s1 t.number
        new_table = adds_one (λ n. TableRests ReadsAsTable (MayLeave d f (held two)) s1 n)
            (λ image left. subst (TableReads ReadsAsTable image) (sym said) (table_rests d f now_last old mid back edit (Ok tt) given kept given_back number named unused two out.table synced.disk of_two.one.named by.file image left))

        pub edited_under : RanUnder d f m c event end_act old three
        edited_under =
            ran_on d f Under (held old) (held two) (held three) (synced_under two (Ok tt) synced)
            (ran_more d f (λ folder. StandsForSome ReadsAsTable folder (IsOutcomeOr m c next_state)) Under (λ folder o. (o.0, o.1, under_act m c event end_act end_reply o.0 is_told refl end_runs o.2)) (held two) (held three)
            (edited_ran d f now_last edit two three second edited m next_state c s1 h1 of_two may no_logs new_table))

        newest : newest_log (fold_with s1.fold edit).logs ≡ newest_log_of s1
        newest = newest_stays s1.fold edit no_logs may.leads.accepted.logs.one

        of_three : OnOk second (IsEngineOf d f three (with_edit s1 edit) [])
        of_three = edited_of d f now_last edit two three second edited m next_state c s1 h1 of_two may no_logs new_table newest

      module _ (two three new : Engine D F f) (synced : IsLogSynced f back two (Ok tt)) (edited : IsEdited f edit two three (Ok tt)) (names : List FileName) (names_are : names ≡ map Log edit.drop_logs) (removed : AreRemoved d names three new) where
        three_of : IsEngineOf d f three (with_edit s1 edit) []
        three_of = of_three two three synced (Ok tt) edited

        three_dead : AreDead (f.name (manifest_file three.manifest)) (manifest_folded three.manifest) (Contains names)
        three_dead = subst (λ fold. AreDead (f.name (manifest_file three.manifest)) fold (Contains names)) (sym three_of.fold)
            (subst (λ ns. AreDead (f.name (manifest_file three.manifest)) (fold_with s1.fold edit) (Contains ns)) (sym names_are) (dropped_names (f.name (manifest_file three.manifest)) s1.fold edit may.leads.accepted h1.well))

        pub removed_under : RanUnder d f m c event end_act old new
        removed_under =
            ran_on d f Under (held old) (held three) (held new) (edited_under two three synced (Ok tt) edited)
            (ran_more d f (λ folder. FolderSays ReadsAsTable folder (with_edit s1 edit)) Under
            (λ folder r. (settled next_state, record { says = with_edit s1 edit; reads = r; stands = edit_stands m c s1 edit next_state h1 may }, inr (changed m event end_act end_reply is_told refl end_runs)))
            (held three) (held new) (aside_ran d f now_last names three new removed.aside three_dead (with_edit s1 edit) [] three_of))

        older_same : new.older ≡ old.older
        older_same = removed.aside.older ∙ edited.older ∙ synced.older ∙ given_back.aside.older ∙ kept.older

        next_same : new.next ≡ old.next
        next_same = removed.aside.next ∙ edited.next ∙ synced.next ∙ given_back.aside.next ∙ kept.next

        used_now : All (λ n. n < new.next) next_state.used
        used_now =
            let is_used : next_state.used ≡ m.used ++ number ∷ [] = ap (λ o. (with_flush m o number floor).used) by.runs in
            let below : All (λ n. n < old.next) (m.used ++ number ∷ []) = All-from (λ n. n < old.next) (m.used ++ number ∷ []) (λ n i. elim (In-append n m.used (number ∷ []) i) [
              | inl j ↦ All-In (λ k. k < old.next) m.used n h.used j
              | inr j ↦ elim j [ inl q ↦ subst (λ k. k < old.next) q unused.given | inr none ↦ absurd none ]
            ]) in
            subst (λ k. All (λ n. n < k) next_state.used) (sym next_same) (subst (All (λ n. n < old.next)) (sym is_used) below)

        pub installed_now : HoldsNow d f new next next_state (course_after m event c end_act end_reply)
        installed_now = record {
          says = with_edit s1 edit;
          waiting = [];
          engine_of = aside_of d f now_last names three new removed.aside three_dead (with_edit s1 edit) [] three_of;
          holds = act_holds m c says_now h.waiting event end_act end_reply edit says_holds end_told refl refl may;
          shows = next_shows;
          used = used_now;
          covers = covers_edited old.older new.older s1 edit older_same (newest two three synced (Ok tt) edited)
              (λ n i. let j = contains_In (fold_with s1.fold edit).logs n i in elim (logs_In s1.fold edit n j) [
                | inl k ↦ In-contains s1.fold.logs n k
                | inr k ↦ absurd (subst (In n) no_logs k)
              ]) covers1;
          runs = ap (λ o. (with_flush m o number floor).halted) by.runs ∙ h.runs;
          unfailed = h.unfailed;
        }
