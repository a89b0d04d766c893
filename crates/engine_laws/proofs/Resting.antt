-- What the files say stands for an outcome, while they rest.
use Rattle.std.proofs.Common.{◌≡◌, ℕ, ◌≤◌, List, [], ◌++◌, length, refl, sym, ap, ◌∙◌, subst, arith, inl}
use Rattle.std.specs.Prelude.{All, nat_le}
use Rattle.std.proofs.lemmas.Bool.{le-leb, lt-leb}
use Rattle.std.proofs.lemmas.List.{append-nil}
use Rattle.std.proofs.lemmas.List.Elements.{filter-append}
use Rattle.ts_key.specs.declared.version.Version.{Version}
use Rattle.wal.specs.declared.numbered.Numbered.{Numbered}
use Rattle.wal.specs.Records.{IsLoggedBatch}
use Rattle.udt_model.specs.Versions.{up_to}
use Rattle.udt_model.specs.State.{State}
use Rattle.udt_model.specs.Crashes.{Course, IsOutcome, cut_at, settled}
use Rattle.udt_disk.specs.Joint.{Folder}
use Rattle.floor_laws.proofs.Members.{filter_every, filter_none}
use Rattle.floor_laws.proofs.Reopening.{sound_cut, cut_whole}
use Rattle.engine_laws.specs.Logs.{above, is_above_through, versions_of, last_of, last_over}
use Rattle.engine_laws.specs.Standing.{Grammar, Says, FolderSays, StandsFor, StandsForSome, live_batches}
use Rattle.engine_laws.specs.Engine.{durable_last, HoldsState}
use Rattle.engine_laws.proofs.Places.{filter_swap}
use Rattle.engine_laws.proofs.Batches.{Above, last_over_is, last_append, last_up, above_goes, above_sequence, versions_append, versions-In, versions_upto, all_left, all_right}

-- the batches on the disk are the versions up to the last sequence there
pub kept : (k fl end : ℕ) (bs ws : List Numbered) → end ≡ last_of fl bs → Above 0 bs → Above end ws → up_to end (versions_of (bs ++ ws)) ≡ versions_of bs
kept k fl end bs ws is one two =
    ap (up_to end) (versions_append bs ws)
    ∙ filter-append (λ (v : Version). nat_le v.seq.0 end) (versions_of bs) (versions_of ws)
    ∙ ap (λ z. z ++ up_to end (versions_of ws)) (filter_every (λ (v : Version). nat_le v.seq.0 end) (versions_of bs) (λ v i. let l = versions_upto fl bs v one i in le-leb v.seq.0 end (omega (arith, is, l))))
    ∙ ap (λ z. versions_of bs ++ z) (filter_none (λ (v : Version). nat_le v.seq.0 end) (versions_of ws) (λ v i. let r = versions-In end ws v two i in lt-leb v.seq.0 end r.0))
    ∙ append-nil (versions_of bs)

module _ (m : State) (c : Course) (s : Says) (waiting : List Numbered) (h : HoldsState m c s waiting) where
  pub front_logged : All (IsLoggedBatch (length s.fold.families)) (live_batches s)
  front_logged = all_left (length s.fold.families) (live_batches s) waiting h.logged

  pub waiting_above : Above (durable_last s) waiting
  waiting_above = above_goes (length s.fold.families) (durable_last s) waiting h.goes_on (all_right (length s.fold.families) (live_batches s) waiting h.logged)

  pub front_above : Above 0 (live_batches s)
  front_above = above_sequence (length s.fold.families) (live_batches s) h.sequence front_logged

  pub durable_is : durable_last s ≡ last_of s.fold.last.0 (live_batches s)
  durable_is = last_over_is s.fold.last.0 (live_batches s) h.behind

  last_is : last_of s.fold.last.0 (live_batches s ++ waiting) ≡ last_of (durable_last s) waiting
  last_is = last_append s.fold.last.0 (live_batches s) waiting ∙ ap (λ z. last_of z waiting) (sym durable_is)

  -- the manifest's last sequence isn't above that of all batches
  pub all_behind : s.fold.last.0 ≤ last_of s.fold.last.0 (live_batches s ++ waiting)
  all_behind =
      let a = h.behind in
      let b = durable_is in
      let d = last_up (durable_last s) waiting waiting_above in
      let e = last_is in
      omega (arith, a, b, d, e)

  pub whole_is : m.last.0 ≡ last_of s.fold.last.0 (live_batches s ++ waiting)
  whole_is = h.last ∙ last_over_is s.fold.last.0 (live_batches s ++ waiting) all_behind

  -- what waits goes on to the last sequence
  pub waiting_last : m.last.0 ≡ last_of (durable_last s) waiting
  waiting_last = whole_is ∙ last_is

  pub last_low : durable_last s ≤ m.last.0
  last_low =
      let a = last_up (durable_last s) waiting waiting_above in
      let b = waiting_last in
      omega (arith, a, b)

  pub synced_low : c.synced ≤ m.last.0
  synced_low = let a = h.course.synced in let b = last_low in omega (arith, a, b)

  -- the state cut at the last sequence on the disk is what the files say
  pub rest_stands : StandsFor s (cut_at m (durable_last s))
  rest_stands =
      let end = durable_last s in
      record {
        families = h.families;
        unflushed = λ i f e.
            filter_swap (is_above_through i f.through.0) (λ (v : Version). nat_le v.seq.0 end) m.versions
            ∙ ap (up_to end) (h.unflushed i f e)
            ∙ filter_swap (λ (v : Version). nat_le v.seq.0 end) (is_above_through i f.through.0) (versions_of (live_batches s ++ waiting))
            ∙ ap (above i f.through.0) (kept (length s.fold.families) s.fold.last.0 end (live_batches s) waiting durable_is front_above waiting_above);
        last = refl;
        behind = h.behind;
        sequence = h.sequence;
        fits = h.fits;
        sound = sound_cut m end (λ i f e. let a = h.course.sound.synced i f e in let b = h.course.synced in omega (arith, a, b)) h.sound;
        settled = refl;
      }

  -- and it is an outcome
  pub rest_outcome : IsOutcome m c (cut_at m (durable_last s))
  rest_outcome = inl (durable_last s, h.course.here, h.course.synced, refl)

  -- all of the state is an outcome
  pub whole_outcome : IsOutcome m c (settled m)
  whole_outcome = inl (m.last.0, h.course.all, synced_low, sym (cut_whole m h.sound))

-- the files rest
pub stands_rest : (g : Grammar) (folder : Folder) (m : State) (c : Course) (s : Says) (waiting : List Numbered) → HoldsState m c s waiting → FolderSays g folder s → StandsForSome g folder (IsOutcome m c)
stands_rest g folder m c s waiting h r = (cut_at m (durable_last s), record { says = s; reads = r; stands = rest_stands m c s waiting h }, rest_outcome m c s waiting h)

-- where nothing waits the files say all of the state
pub whole_last : (m : State) (c : Course) (s : Says) → HoldsState m c s [] → durable_last s ≡ m.last.0
whole_last m c s h = ap (last_over s.fold.last.0) (sym (append-nil (live_batches s))) ∙ sym h.last

pub whole_stands : (m : State) (c : Course) (s : Says) → HoldsState m c s [] → StandsFor s (settled m)
whole_stands m c s h =
    let e : cut_at m (durable_last s) ≡ settled m = ap (cut_at m) (whole_last m c s h) ∙ cut_whole m h.sound in
    subst (StandsFor s) e (rest_stands m c s [] h)
