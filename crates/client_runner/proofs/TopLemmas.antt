-- How a command line ends, where the host tells what stands there.
use Rattle.std.proofs.Common.{◌≡◌, ℕ, List, [], Option, ◌⊎◌, sym, subst, ◌∙◌, inl, inr}
use Rattle.std.specs.Io.KnownBytes.{Appends}
use Rattle.udt_disk.specs.Causes.{Rose}
use Rattle.udt_disk.specs.Opens.{Standing}
use Rattle.udt_disk.specs.OpensFolder.{Holding}
use Rattle.udt_model.specs.declared.line.FamilyHead.{FamilyHead}
use Rattle.client_runner.specs.Commands.{IsHelpCommand, IsVersionCommand, IsTryCommand, IsInitCommand, IsInitWord, IsRunCommand, IsNoCommand}
use Rattle.client_runner.specs.Refusals.{IsAnswered, IsInitRefused, IsOpenRefused, IsRefused, IsStopped}
use Rattle.client_runner.specs.Completions.{IsComplete, IsDoneOrWant, IsInitComplete, IsRunComplete}
use Rattle.client_runner.specs.Ends.{IsWorkEnd, IsPrinted}
use Rattle.client_runner.specs.Works.{IsFileWork, IsInitWork, IsRunWork, IsWork}
use Rattle.client_runner.specs.Works.IsWork.{helps, tells_version, refuses, tries, inits, gives_up, runs}
use Rattle.client_runner.specs.Left.{Crashes}
use Rattle.client_runner.specs.Stops.{message}
use Rattle.client_runner.specs.declared.status.Status.{Status}
use Rattle.client_runner.specs.declared.status.Status.TheVariants as statuses
use Rattle.client_runner.specs.declared.status.Stop.{Stop}
use Rattle.client_runner.specs.declared.status.Stop.TheVariants.{BadWords}
use Rattle.client_runner.specs.declared.words.TheConstants.{HELP, VERSION}
use Rattle.client_runner.proofs.WordLemmas.{help_no_init, help_no_run, help_no_try, help_no_version, init_no_run, init_once, init_word_no_help, init_word_no_run, init_word_no_try, init_word_no_version, run_once, try_no_init, try_no_run, try_once, version_no_init, version_no_run, version_no_try}
use Rattle.client_runner.proofs.RunEnds.{IsMeant, IsOpenMeant, file_done, file_stopped, run_done, run_file_stopped, opening_refused}
use Rattle.client_runner.proofs.InitEnds.{init_done, init_refused}

-- ---- ends

-- a text that was meant is printed, or the sink failed
printed_or : (status meant : Status) (text : List ℕ) (old new : Option (List ℕ)) (failed : Type 0) → IsPrinted status meant text old new failed → ((status ≡ meant) × Appends old new text) ⊎ ((status ≡ statuses.SinkFault) × failed)
printed_or status meant text old new failed (inl p) = inl p
printed_or status meant text old new failed (inr p) = inr (p.0, p.1)

through : (status meant : Status) (X : Status → Type 0) → status ≡ meant → X meant → X status
through status meant X e x = subst X (sym e) x

done_or : (status meant : Status) (text : List ℕ) (old new : Option (List ℕ)) (failed : Type 0) → IsPrinted status meant text old new failed → ¬ failed → IsDoneOrWant meant → IsDoneOrWant status
done_or status meant text old new failed printed calm done =
    elim (printed_or status meant text old new failed printed) [
      | inl p ↦ through status meant IsDoneOrWant p.0 done
      | inr p ↦ absurd (calm p.1)
    ]

-- ---- a command line

module _ (words : List (List ℕ)) (standing : List ℕ → Standing) (old new : List ℕ → Holding) (crash : List ℕ → Crashes) (before now : ℕ) where
  abbrev Work : Status → List ℕ → Type 0
  Work = IsWork words standing old new crash before now

  work_of_try : (meant : Status) (text path : List ℕ) → IsTryCommand words path → Work meant text → IsFileWork (standing path) before now path meant text
  work_of_try meant text path t (helps h e f) = absurd (help_no_try words path h t)
  work_of_try meant text path t (tells_version h e f) = absurd (version_no_try words path h t)
  work_of_try meant text path t (refuses h e f) = absurd (h.no_try path t)
  work_of_try meant text path t (tries file h w) = subst (λ (p : List ℕ). IsFileWork (standing p) before now p meant text) (try_once words file path h t) w
  work_of_try meant text path t (inits folder families h w) = absurd (try_no_init words path folder families t h)
  work_of_try meant text path t (gives_up h e f u) = absurd (init_word_no_try words path h t)
  work_of_try meant text path t (runs folder file h w) = absurd (try_no_run words path folder file t h)

  work_of_run : (meant : Status) (text path file : List ℕ) → IsRunCommand words path file → Work meant text → IsRunWork (standing file) (old path) (new path) (crash path) before now file meant text
  work_of_run meant text path file r (helps h e f) = absurd (help_no_run words path file h r)
  work_of_run meant text path file r (tells_version h e f) = absurd (version_no_run words path file h r)
  work_of_run meant text path file r (refuses h e f) = absurd (h.no_run path file r)
  work_of_run meant text path file r (tries other h w) = absurd (try_no_run words other path file h r)
  work_of_run meant text path file r (inits folder families h w) = absurd (init_no_run words folder families path file h r)
  work_of_run meant text path file r (gives_up h e f u) = absurd (init_word_no_run words path file h r)
  work_of_run meant text path file r (runs folder other h w) =
      let same = run_once words folder other path file h r in
      subst (λ (p : List ℕ). IsRunWork (standing file) (old p) (new p) (crash p) before now file meant text) same.0
      (subst (λ (x : List ℕ). IsRunWork (standing x) (old folder) (new folder) (crash folder) before now x meant text) same.1 w)

  work_of_init : (meant : Status) (text path : List ℕ) (families : List FamilyHead) → IsInitCommand words path families → Work meant text → IsInitWork (old path) (new path) (crash path) before now families meant text ⊎ (meant ≡ statuses.NoMemory)
  work_of_init meant text path families i (helps h e f) = absurd (help_no_init words path families h i)
  work_of_init meant text path families i (tells_version h e f) = absurd (version_no_init words path families h i)
  work_of_init meant text path families i (refuses h e f) = absurd (h.no_init path families i)
  work_of_init meant text path families i (tries file h w) = absurd (try_no_init words file path families h i)
  work_of_init meant text path families i (inits folder others h w) =
      let same = init_once words folder path others families h i in
      inl (subst (λ (p : List ℕ). IsInitWork (old p) (new p) (crash p) before now families meant text) same.0
      (subst (λ (x : List FamilyHead). IsInitWork (old folder) (new folder) (crash folder) before now x meant text) same.1 w))
  work_of_init meant text path families i (gives_up h e f u) = inr e
  work_of_init meant text path families i (runs folder file h w) = absurd (init_no_run words path families folder file i h)

  work_of_none : (meant : Status) (text : List ℕ) → IsNoCommand words → Work meant text → ((meant ≡ statuses.Usage) × (text ≡ message [] BadWords)) ⊎ ((meant ≡ statuses.NoMemory) × IsInitWord words)
  work_of_none meant text n (helps h e f) = absurd (n.no_help h)
  work_of_none meant text n (tells_version h e f) = absurd (n.no_version h)
  work_of_none meant text n (refuses h e f) = inl (e, f)
  work_of_none meant text n (tries file h w) = absurd (n.no_try file h)
  work_of_none meant text n (inits folder families h w) = absurd (n.no_init folder families h)
  work_of_none meant text n (gives_up h e f u) = inr (e, h)
  work_of_none meant text n (runs folder file h w) = absurd (n.no_run folder file h)

  work_of_help : (meant : Status) (text : List ℕ) → IsHelpCommand words → Work meant text → (meant ≡ statuses.Done) × (text ≡ HELP.now)
  work_of_help meant text k (helps h e f) = (e, f)
  work_of_help meant text k (tells_version h e f) = absurd (help_no_version words k h)
  work_of_help meant text k (refuses h e f) = absurd (h.no_help k)
  work_of_help meant text k (tries file h w) = absurd (help_no_try words file k h)
  work_of_help meant text k (inits folder families h w) = absurd (help_no_init words folder families k h)
  work_of_help meant text k (gives_up h e f u) = absurd (init_word_no_help words h k)
  work_of_help meant text k (runs folder file h w) = absurd (help_no_run words folder file k h)

  work_of_version : (meant : Status) (text : List ℕ) → IsVersionCommand words → Work meant text → (meant ≡ statuses.Done) × (text ≡ VERSION.now)
  work_of_version meant text k (helps h e f) = absurd (help_no_version words h k)
  work_of_version meant text k (tells_version h e f) = (e, f)
  work_of_version meant text k (refuses h e f) = absurd (h.no_version k)
  work_of_version meant text k (tries file h w) = absurd (version_no_try words file k h)
  work_of_version meant text k (inits folder families h w) = absurd (version_no_init words folder families k h)
  work_of_version meant text k (gives_up h e f u) = absurd (init_word_no_version words h k)
  work_of_version meant text k (runs folder file h w) = absurd (version_no_run words folder file k h)

  module _ (status : Status) (was is : Option (List ℕ)) (failed : Type 0) (e : IsWorkEnd (IsWork words standing old new crash before now) status was is failed) where
    pub is_complete : IsComplete status words standing (Rose before now) failed
    is_complete path bytes commands t s spelled quiet calm =
        done_or status e.meant e.text was is failed e.printed calm (file_done (standing path) before now path e.meant e.text bytes commands s spelled quiet (work_of_try e.meant e.text path t e.work))

    pub is_run_complete : IsRunComplete status words standing old (Rose before now) failed
    is_run_complete path file bytes commands folder m r s spelled holds stands quiet calm =
        done_or status e.meant e.text was is failed e.printed calm
        (run_done (standing file) (old path) (new path) (crash path) before now file e.meant e.text bytes commands folder m s spelled holds stands quiet (work_of_run e.meant e.text path file r e.work))

    pub is_init_complete : IsInitComplete status words old (Rose before now) failed
    is_init_complete path families i t quiet calm =
        done_or status e.meant e.text was is failed e.printed calm
        (elim (work_of_init e.meant e.text path families i e.work) [
          | inl w ↦ init_done (old path) (new path) (crash path) before now families e.meant e.text t quiet w
          | inr want ↦ inr want
        ])

    -- ---- refusals

    usage_or : (path : List ℕ) (told : Stop) → IsMeant path told e.meant e.text → ((status ≡ statuses.Usage) × Appends was is (message path told)) ⊎ ((status ≡ statuses.SinkFault) ⊎ ((status ≡ statuses.SourceFault) ⊎ (status ≡ statuses.NoMemory)))
    usage_or path told m =
        elim (printed_or status e.meant e.text was is failed e.printed) [
          | inl p ↦ elim m [
            | inl usage ↦ inl (p.0 ∙ usage.0, subst (λ (x : List ℕ). Appends was is x) usage.1 p.1)
            | inr (inl fault) ↦ inr (inr (inl (p.0 ∙ fault)))
            | inr (inr want) ↦ inr (inr (inr (p.0 ∙ want)))
          ]
          | inr p ↦ inr (inl p.0)
        ]

    pub is_stopped : IsStopped status words standing was is
    is_stopped path told (inl t) tells = usage_or path told (file_stopped (standing path) before now path e.meant e.text told tells (work_of_try e.meant e.text path t e.work))
    is_stopped path told (inr r) tells =
        usage_or path told (run_file_stopped (standing path) (old r.0) (new r.0) (crash r.0) before now path e.meant e.text told tells (work_of_run e.meant e.text r.0 path r.1 e.work))

    folder_or : (path : List ℕ) (told : Stop) → IsOpenMeant path told e.meant e.text
        → ((status ≡ statuses.Folder) × Appends was is (message path told)) ⊎ ((status ≡ statuses.DiskFault) ⊎ ((status ≡ statuses.SinkFault) ⊎ ((status ≡ statuses.SourceFault) ⊎ (status ≡ statuses.NoMemory))))
    folder_or path told m =
        elim (printed_or status e.meant e.text was is failed e.printed) [
          | inl p ↦ elim m [
            | inl folder ↦ inl (p.0 ∙ folder.0, subst (λ (x : List ℕ). Appends was is x) folder.1 p.1)
            | inr (inl disk) ↦ inr (inl (p.0 ∙ disk))
            | inr (inr (inl fault)) ↦ inr (inr (inr (inl (p.0 ∙ fault))))
            | inr (inr (inr want)) ↦ inr (inr (inr (inr (p.0 ∙ want))))
          ]
          | inr p ↦ inr (inr (inl p.0))
        ]

    pub is_open_refused : IsOpenRefused status words standing old was is
    is_open_refused path file bytes commands told r s spelled tells =
        folder_or file told (opening_refused (standing file) (old path) (new path) (crash path) before now file e.meant e.text bytes commands told s spelled tells (work_of_run e.meant e.text path file r e.work))

    pub is_init_refused : IsInitRefused status words old was is
    is_init_refused path families told i tells =
        folder_or [] told
        (elim (work_of_init e.meant e.text path families i e.work) [
          | inl w ↦ init_refused (old path) (new path) (crash path) before now families e.meant e.text told tells w
          | inr want ↦ inr (inr (inr want))
        ])

    pub is_refused : IsRefused status words was is
    is_refused n =
        elim (printed_or status e.meant e.text was is failed e.printed) [
          | inl p ↦ elim (work_of_none e.meant e.text n e.work) [
            | inl usage ↦ inl (p.0 ∙ usage.0, subst (λ (x : List ℕ). Appends was is x) usage.1 p.1)
            | inr want ↦ inr (inr (p.0 ∙ want.0, want.1))
          ]
          | inr p ↦ inr (inl p.0)
        ]

    said : (wanted : List ℕ) → (e.meant ≡ statuses.Done) × (e.text ≡ wanted) → ((status ≡ statuses.Done) × Appends was is wanted) ⊎ (status ≡ statuses.SinkFault)
    said wanted w =
        elim (printed_or status e.meant e.text was is failed e.printed) [
          | inl p ↦ inl (p.0 ∙ w.0, subst (λ (x : List ℕ). Appends was is x) w.1 p.1)
          | inr p ↦ inr p.0
        ]

    pub is_answered : IsAnswered status words was is
    is_answered = (λ h. said HELP.now (work_of_help e.meant e.text h e.work), λ v. said VERSION.now (work_of_version e.meant e.text v e.work))
