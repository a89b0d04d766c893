-- What a write-ahead log shows, and what the disk has of it.
use Rattle.std.proofs.Common.{◌≡◌, ℕ, ◌≤◌, true, List, [], ◌++◌, length, sym, ap, ◌∙◌, subst}
use Rattle.std.proofs.lemmas.List.Elements.{All-nil}
use Rattle.udt_disk.specs.Crash.{Image}
use Rattle.udt_disk.specs.Runs.{Leaves}
use Rattle.udt_disk.specs.declared.file.DiskFile.{Ghosts}
use Rattle.udt_disk.proofs.Runs.{started}
use Rattle.gate_log.specs.GateLog as gate
use Rattle.gate_log.specs.declared.log.GateLog.{GateLog}
use Rattle.std.proofs.Math.Bridge.{le_prop}
use Rattle.gate_log.proofs.Reading.{only_log}
use Rattle.wal.specs.Records.{IsLoggedBatch}
use Rattle.wal.specs.Sequences.{next_sequence, IsNextSequence}
use Rattle.wal.specs.Bodies.{HoldsBatches}
use Rattle.wal.specs.Replays.{ReadsAs, IsBeforeOrAfter}
use Rattle.wal.specs.Wals.{wal_file, IsWalOf, Holds, IsWalReady, MayGoOn}
use Rattle.wal.proofs.Bodies.{holds_same, holds_none}
use Rattle.wal.proofs.Appends.{waits_same}
use Rattle.wal.specs.declared.numbered.Numbered.{Numbered}
use Rattle.wal.specs.declared.wal.Wal.{Wal}
use Rattle.std.proofs.Common.{inl}

module _ {F : Type 0} (g : Ghosts F) where
  -- a log shows one list of batches, and one of those that wait
  pub wal_same : (wal : Wal F g) (bs ws cs vs : List Numbered) → length wal.sizes ≤ 16 → IsWalOf g wal bs ws → IsWalOf g wal cs vs → (bs ≡ cs) × (ws ≡ vs)
  wal_same wal bs ws cs vs few a b =
      let bodies = only_log a.bodies b.bodies (g.seen (wal_file wal)) a.logged.file b.logged.file in
      (holds_same wal.sizes b.bodies bs cs few (subst (λ (xs : List (List ℕ)). HoldsBatches wal.sizes xs bs) bodies a.held) b.held, waits_same wal.sizes wal.is_fresh ws vs few a.allowed b.allowed (sym a.waits ∙ b.waits))

  -- the frames of a log that shows batches
  pub gate_ready : (wal : Wal F g) → IsWalReady g wal → gate.IsLogReady g wal.log
  gate_ready wal ready = λ told. let shown = (ready told).2 in (shown.bodies, shown.logged)

  -- each image reads as the batches
  pub images_read : (wal : Wal F g) (bs ws : List Numbered) → Holds g wal bs ws → (c : Image) → g.may_leave (wal_file wal) c → ReadsAs wal.sizes bs c
  images_read wal bs ws holds c left =
      subst (ReadsAs wal.sizes bs) (sym (holds.durable c left)) (record { bodies = holds.shown.bodies; log = holds.shown.logged.file; held = holds.shown.held })

  -- no call is made
  pub rests_as : ((x : F) (c : Image) → g.left_since x (g.moment x) c → g.may_leave x c) → (wal : Wal F g) (bs ws : List Numbered) → Holds g wal bs ws → Leaves g (wal_file wal) (wal_file wal) (IsBeforeOrAfter wal.sizes bs ws)
  rests_as only_now wal bs ws holds =
      started g (wal_file wal) (IsBeforeOrAfter wal.sizes bs ws) (λ c left. inl (images_read wal bs ws holds c left)) (λ c left. only_now (wal_file wal) c left)

  -- a log without frames, in which nothing waits
  pub holds_nothing : (wal : Wal F g) → gate.IsAtRest g wal.log [] → wal.is_fresh ≡ true → wal.waiting.items ≡ [] → Holds g wal [] []
  holds_nothing wal rest fresh none = record {
    shown = record {
      bodies = [];
      logged = rest.logged;
      held = holds_none wal.sizes;
      fresh = fresh;
      allowed = All-nil (IsLoggedBatch (length wal.sizes));
      waits = none;
      sequence = tt;
    };
    durable = rest.durable;
  }

  pub shows_nothing : (wal : Wal F g) → gate.IsAtRest g wal.log [] → wal.is_fresh ≡ true → wal.waiting.items ≡ [] → IsWalOf g wal [] []
  shows_nothing wal rest fresh none = (holds_nothing wal rest fresh none).shown

  pub ready_from : (wal : Wal F g) (first : ℕ) → MayGoOn g wal first → IsWalReady g wal
  ready_from wal first next told =
      let goes = next told in
      (goes.0, goes.1, goes.2)

  pub goes_on_at : (wal : Wal F g) (m n : ℕ) → m ≡ n → MayGoOn g wal m → MayGoOn g wal n
  goes_on_at wal m n same next told =
      let goes = next told in
      (goes.0, goes.1, goes.2, subst (IsNextSequence (next_sequence (goes.0 ++ goes.1))) same goes.3)

  -- with the same log inside, the same log
  pub same_wal : (old : Wal F g) (log : GateLog F g) → log ≡ old.log → (fits : length old.waiting.items ≤ 8388608) (reserved : length old.waiting.items ≤ gate.log_room log) → (let new : Wal F g = record { log = log; sizes = old.sizes; waiting = old.waiting; is_fresh = old.is_fresh; fits = fits; reserved = reserved } in new) ≡ old
  same_wal old log same fits reserved =
      subst (λ (l : GateLog F g). (r : length old.waiting.items ≤ gate.log_room l) → (let new : Wal F g = record { log = l; sizes = old.sizes; waiting = old.waiting; is_fresh = old.is_fresh; fits = fits; reserved = r } in new) ≡ old) (sym same)
      (λ r. ap (λ (p : length old.waiting.items ≤ 8388608). let new : Wal F g = record { log = old.log; sizes = old.sizes; waiting = old.waiting; is_fresh = old.is_fresh; fits = p; reserved = r } in new) (le_prop fits old.fits) ∙ ap (λ (q : length old.waiting.items ≤ gate.log_room old.log). let new : Wal F g = record { log = old.log; sizes = old.sizes; waiting = old.waiting; is_fresh = old.is_fresh; fits = old.fits; reserved = q } in new) (le_prop r old.reserved)) reserved
