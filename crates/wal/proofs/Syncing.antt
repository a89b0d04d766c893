-- The batches that waited are in the log and on the disk.
use Rattle.std.proofs.Common.{◌≡◌, ◌==◌, ℕ, ◌<◌, Bool, true, false, List, [], ◌∷◌, ◌++◌, length, sym, ap, ◌∙◌, arith, subst}
use Rattle.std.specs.Prelude.{IsTrue}
use Rattle.std.proofs.lemmas.List.{append-nil}
use Rattle.std.proofs.lemmas.List.Elements.{All-nil}
use Rattle.udt_disk.specs.Runs.{Leaves}
use Rattle.udt_disk.specs.declared.file.DiskFile.{Ghosts}
use Rattle.udt_disk.proofs.Runs.{run_weaker}
use Rattle.gate_log.specs.Frames as frames
use Rattle.gate_log.specs.GateLog as gate
use Rattle.wal.specs.Records.{IsLoggedBatch}
use Rattle.wal.specs.Sequences.{next_sequence, IsNextSequence, IsInSequence}
use Rattle.wal.specs.Bodies.{HoldsBatches}
use Rattle.wal.specs.Replays.{IsBeforeOrAfter}
use Rattle.wal.specs.Wals.{wal_file, IsWalOf, Holds, MayGoOn}
use Rattle.wal.proofs.Appends.{waits_none, not_first_behind, holds_synced, before_or_after}
use Rattle.wal.specs.declared.numbered.Numbered.{Numbered}
use Rattle.wal.specs.declared.wal.Wal.{Wal}
use Rattle.std.proofs.Common.{Vec, vec_len}
use Rattle.std.specs.declared.alloc.Global.{Global}
use Rattle.std.proofs.lemmas.Bool.Decides.{nat_tests}

module _ {F : Type 0} (g : Ghosts F) where
  -- nothing waited
  pub synced_none : (wal : Wal F g) (bs ws : List Numbered) → length wal.waiting.items ≡ 0 → IsWalOf g wal bs ws → IsWalOf g wal (bs ++ ws) []
  synced_none wal bs ws none shown =
      let nothing = waits_none wal.sizes wal.is_fresh ws wal.waiting.items none shown.waits in
      subst (λ (xs : List Numbered). IsWalOf g wal xs []) (sym (append-nil bs) ∙ ap (λ (xs : List Numbered). bs ++ xs) (sym nothing)) (subst (IsWalOf g wal bs) nothing shown)

  -- the frame that waited is in the log
  pub synced : (old new : Wal F g) (frame : List ℕ) (bs ws : List Numbered) → IsWalOf g old bs ws → frame ≡ old.waiting.items → new.sizes ≡ old.sizes → new.is_fresh ≡ false → new.waiting.items ≡ [] → 0 < length old.waiting.items
      → ((bodies : List (List ℕ)) → gate.IsLogOf g old.log bodies → gate.IsAtRest g new.log (bodies ++ frame ∷ [])) → IsWalOf g new (bs ++ ws) []
  synced old new frame bs ws shown same sizes fresh none some logged =
      let all = holds_synced old.sizes shown.bodies bs ws old.is_fresh old.waiting.items shown.held shown.fresh some shown.waits shown.allowed shown.sequence in
      record {
        bodies = shown.bodies ++ old.waiting.items ∷ [];
        logged = subst (λ (b : List ℕ). gate.IsLogOf g new.log (shown.bodies ++ b ∷ [])) same (logged shown.bodies shown.logged).logged;
        held = subst (λ (s : List ℕ). HoldsBatches s (shown.bodies ++ old.waiting.items ∷ []) (bs ++ ws)) (sym sizes) all;
        fresh = fresh ∙ sym (not_first_behind shown.bodies old.waiting.items);
        allowed = All-nil (IsLoggedBatch (length new.sizes));
        waits = none;
        sequence = subst IsInSequence (sym (append-nil (bs ++ ws))) shown.sequence;
      }

  -- and on the disk
  pub synced_holds : (old new : Wal F g) (frame : List ℕ) (bs ws : List Numbered) → IsWalOf g old bs ws → frame ≡ old.waiting.items → new.sizes ≡ old.sizes → new.is_fresh ≡ false → new.waiting.items ≡ [] → 0 < length old.waiting.items
      → ((bodies : List (List ℕ)) → gate.IsLogOf g old.log bodies → gate.IsAtRest g new.log (bodies ++ frame ∷ [])) → Holds g new (bs ++ ws) []
  synced_holds old new frame bs ws shown same sizes fresh none some logged = record {
    shown = synced old new frame bs ws shown same sizes fresh none some logged;
    durable = (logged shown.bodies shown.logged).durable;
  }

  -- while the frame is added
  pub adds_as : (wal : Wal F g) (new : F) (frame : List ℕ) (bs ws : List Numbered) → frame ≡ wal.waiting.items → Holds g wal bs ws → 0 < length wal.waiting.items
      → ((bodies : List (List ℕ)) → gate.IsAtRest g wal.log bodies → Leaves g (wal_file wal) new (frames.IsWithOrWithout bodies frame)) → Leaves g (wal_file wal) new (IsBeforeOrAfter wal.sizes bs ws)
  adds_as wal new frame bs ws same holds some moments =
      let shown = holds.shown in
      let all = holds_synced wal.sizes shown.bodies bs ws wal.is_fresh wal.waiting.items shown.held shown.fresh some shown.waits shown.allowed shown.sequence in
      run_weaker g (wal_file wal) new (frames.IsWithOrWithout shown.bodies wal.waiting.items) (IsBeforeOrAfter wal.sizes bs ws) (before_or_after wal.sizes shown.bodies bs ws wal.waiting.items shown.held all) (subst (λ (b : List ℕ). Leaves g (wal_file wal) new (frames.IsWithOrWithout shown.bodies b)) same (moments shown.bodies (record { logged = shown.logged; durable = holds.durable })))

  pub goes_on_synced : (old new : Wal F g) (frame : List ℕ) (first : ℕ) → g.is_told (wal_file new) ≡ g.is_told (wal_file old) → frame ≡ old.waiting.items → new.sizes ≡ old.sizes → new.is_fresh ≡ false → new.waiting.items ≡ [] → 0 < length old.waiting.items
      → ((bodies : List (List ℕ)) → gate.IsLogOf g old.log bodies → gate.IsAtRest g new.log (bodies ++ frame ∷ [])) → MayGoOn g old first → MayGoOn g new first
  goes_on_synced old new frame first same_told same sizes fresh none some logged next told =
      let goes = next (subst IsTrue same_told told) in
      (goes.0 ++ goes.1, [], synced old new frame goes.0 goes.1 goes.2 same sizes fresh none some logged, subst (λ (xs : List Numbered). IsNextSequence (next_sequence xs) first) (sym (append-nil (goes.0 ++ goes.1))) goes.3)

-- whether bytes wait
pub some_wait : (waiting : Vec ℕ Global) (r : Bool) → r ≡ (vec_len waiting == 0) → r ≡ false → 0 < length waiting.items
some_wait waiting r is none =
    let len : vec_len waiting ≡ length waiting.items = omega (arith, waiting.ok.0) in
    some_of (vec_len waiting) (length waiting.items) len (sym is ∙ none)
  where
    some_of : (m n : ℕ) → m ≡ n → (m == 0) ≡ false → 0 < n
    some_of m n same is = grind (arith, nat_tests)

pub none_wait : (waiting : Vec ℕ Global) (r : Bool) → r ≡ (vec_len waiting == 0) → r ≡ true → length waiting.items ≡ 0
none_wait waiting r is all =
    let len : vec_len waiting ≡ length waiting.items = omega (arith, waiting.ok.0) in
    none_of (vec_len waiting) (length waiting.items) len (sym is ∙ all)
  where
    none_of : (m n : ℕ) → m ≡ n → (m == 0) ≡ true → n ≡ 0
    none_of m n same is = grind (arith, nat_tests)
