-- One batch more waits in a write-ahead log.
use Rattle.std.proofs.Common.{◌≡◌, ◌==◌, ◌&&◌, ℕ, ◌≤◌, Bool, List, [], ◌∷◌, ◌++◌, length, refl, sym, ap, ◌∙◌, subst}
use Rattle.std.specs.Prelude.{All, IsTrue}
use Rattle.std.proofs.lemmas.List.{append_assoc}
use Rattle.std.proofs.lemmas.List.Elements.{All-push}
use Rattle.udt_disk.specs.Crash.{Only}
use Rattle.udt_disk.specs.declared.file.DiskFile.{Ghosts}
use Rattle.wal.specs.Records.{batch_bytes, IsLoggedBatch}
use Rattle.wal.specs.Sequences.{sequence_after, next_sequence, IsNextSequence}
use Rattle.wal.specs.Bodies.{front_bytes, HoldsBatches}
use Rattle.wal.specs.Reserving.{OnlyReserves}
use Rattle.wal.specs.Wals.{wal_file, waiting_bytes, IsWalOf, Holds, MayGoOn}
use Rattle.wal.proofs.Appends.{waits_more, sequence_more, next_push}
use Rattle.wal.specs.declared.numbered.Numbered.{Numbered}
use Rattle.wal.specs.declared.wal.Wal.{Wal}
use Rattle.std.proofs.Common.{Option, Some}
use Rattle.wal.proofs.Showing.{wal_same}

module _ {F : Type 0} (g : Ghosts F) where
  -- one batch more waits
  pub appended : (old new : Wal F g) (n : Numbered) (listed : List ℕ) → listed ≡ old.sizes → OnlyReserves g old.log new.log → new.sizes ≡ old.sizes → new.is_fresh ≡ old.is_fresh → length old.sizes ≤ 16
      → new.waiting.items ≡ old.waiting.items ++ (front_bytes listed (old.is_fresh && (length old.waiting.items == 0)) ++ batch_bytes n) → IsLoggedBatch (length old.sizes) n → MayGoOn g old n.first.0 → (bs ws : List Numbered) → IsWalOf g old bs ws → IsWalOf g new bs (ws ++ n ∷ [])
  appended old new n listed same_sizes reserved sizes fresh few more allowed next bs ws shown =
      let goes = next shown.logged.told in
      let same = wal_same g old goes.0 goes.1 bs ws few goes.2 shown in
      let first : IsNextSequence (next_sequence (bs ++ ws)) n.first.0 = subst (λ (xs : List Numbered). IsNextSequence (next_sequence (xs ++ ws)) n.first.0) same.0 (subst (λ (xs : List Numbered). IsNextSequence (next_sequence (goes.0 ++ xs)) n.first.0) same.1 goes.3) in
      record {
        bodies = shown.bodies;
        logged = reserved.logged shown.bodies shown.logged;
        held = subst (λ (s : List ℕ). HoldsBatches s shown.bodies bs) (sym sizes) shown.held;
        fresh = fresh ∙ shown.fresh;
        allowed = subst (λ (s : List ℕ). All (IsLoggedBatch (length s)) (ws ++ n ∷ [])) (sym sizes) (All-push (IsLoggedBatch (length old.sizes)) ws n shown.allowed allowed);
        waits = waits_more old.sizes old.is_fresh ws n old.waiting.items new.waiting.items shown.waits (more ∙ ap (λ (s : List ℕ). old.waiting.items ++ (front_bytes s (old.is_fresh && (length old.waiting.items == 0)) ++ batch_bytes n)) same_sizes) ∙ ap (λ (s : List ℕ). waiting_bytes s old.is_fresh (ws ++ n ∷ [])) (sym sizes) ∙ ap (λ (f : Bool). waiting_bytes new.sizes f (ws ++ n ∷ [])) (sym fresh);
        sequence = sequence_more bs ws n shown.sequence first;
      }

  pub appended_holds : (old new : Wal F g) (n : Numbered) (listed : List ℕ) → listed ≡ old.sizes → OnlyReserves g old.log new.log → new.sizes ≡ old.sizes → new.is_fresh ≡ old.is_fresh → length old.sizes ≤ 16
      → new.waiting.items ≡ old.waiting.items ++ (front_bytes listed (old.is_fresh && (length old.waiting.items == 0)) ++ batch_bytes n) → IsLoggedBatch (length old.sizes) n → MayGoOn g old n.first.0 → (bs ws : List Numbered) → Holds g old bs ws → Holds g new bs (ws ++ n ∷ [])
  appended_holds old new n listed same_sizes reserved sizes fresh few more allowed next bs ws holds = record {
    shown = appended old new n listed same_sizes reserved sizes fresh few more allowed next bs ws holds.shown;
    durable = subst (λ (x : F). Only (g.seen x) (g.may_leave x)) (sym reserved.file) holds.durable;
  }

  -- as it was, but for the log's room
  pub kept_back : (old new : Wal F g) → OnlyReserves g old.log new.log → new.sizes ≡ old.sizes → new.is_fresh ≡ old.is_fresh → new.waiting.items ≡ old.waiting.items → (bs ws : List Numbered) → IsWalOf g old bs ws → IsWalOf g new bs ws
  kept_back old new reserved sizes fresh waiting bs ws shown = record {
    bodies = shown.bodies;
    logged = reserved.logged shown.bodies shown.logged;
    held = subst (λ (s : List ℕ). HoldsBatches s shown.bodies bs) (sym sizes) shown.held;
    fresh = fresh ∙ shown.fresh;
    allowed = subst (λ (s : List ℕ). All (IsLoggedBatch (length s)) ws) (sym sizes) shown.allowed;
    waits = waiting ∙ shown.waits ∙ ap (λ (s : List ℕ). waiting_bytes s old.is_fresh ws) (sym sizes) ∙ ap (λ (f : Bool). waiting_bytes new.sizes f ws) (sym fresh);
    sequence = shown.sequence;
  }

  -- the next batch may follow
  pub goes_on_appended : (old new : Wal F g) (n : Numbered) (listed : List ℕ) → listed ≡ old.sizes → OnlyReserves g old.log new.log → new.sizes ≡ old.sizes → new.is_fresh ≡ old.is_fresh → length old.sizes ≤ 16
      → new.waiting.items ≡ old.waiting.items ++ (front_bytes listed (old.is_fresh && (length old.waiting.items == 0)) ++ batch_bytes n) → IsLoggedBatch (length old.sizes) n → MayGoOn g old n.first.0 → MayGoOn g new (sequence_after n)
  goes_on_appended old new n listed same_sizes reserved sizes fresh few more allowed next told =
      let told_old : IsTrue (g.is_told (wal_file old)) = subst (λ (x : F). IsTrue (g.is_told x)) reserved.file told in
      let goes = next told_old in
      let shown = appended old new n listed same_sizes reserved sizes fresh few more allowed next goes.0 goes.1 goes.2 in
      let after : next_sequence (goes.0 ++ (goes.1 ++ n ∷ [])) ≡ Some (sequence_after n) = ap next_sequence (sym (append_assoc goes.0 goes.1 (n ∷ []))) ∙ next_push (goes.0 ++ goes.1) n in
      (goes.0, goes.1 ++ n ∷ [], shown, subst (λ (o : Option ℕ). IsNextSequence o (sequence_after n)) (sym after) refl)

  pub goes_on_kept : (old new : Wal F g) (first : ℕ) → OnlyReserves g old.log new.log → new.sizes ≡ old.sizes → new.is_fresh ≡ old.is_fresh → new.waiting.items ≡ old.waiting.items → MayGoOn g old first → MayGoOn g new first
  goes_on_kept old new first reserved sizes fresh waiting next told =
      let told_old : IsTrue (g.is_told (wal_file old)) = subst (λ (x : F). IsTrue (g.is_told x)) reserved.file told in
      let goes = next told_old in
      (goes.0, goes.1, kept_back old new reserved sizes fresh waiting goes.0 goes.1 goes.2, goes.3)
