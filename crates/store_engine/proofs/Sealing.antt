-- A seal: its edit, and what the engine holds behind it.
use Rattle.std.proofs.Common.{ℕ, ◌+◌, ◌<◌, ◌≤◌, [], ◌∷◌, arith, refl, inl, inr}
use Rattle.std.proofs.lemmas.List.{length-append}
use Rattle.ts_key.specs.declared.limits.TheConstants.{SEQUENCE_LIMIT}
use Rattle.ts_key.specs.declared.numbers.Seq.{Seq}
use Rattle.manifest_fold.specs.declared.fold.Folded.{Folded}
use Rattle.manifest_fold.specs.declared.limits.TheConstants.{FILE_NUMBER_LIMIT}
use Rattle.manifest_fold.specs.Folds.{IsAccepted, newest_log}
use Rattle.floor_laws.proofs.Members.{All-In, All-from, contains_In}
use Rattle.engine_laws.specs.Installs.{roll_edit}
use Rattle.engine_laws.specs.Manifests.{IsWell}
use Rattle.engine_laws.proofs.Editing.{newest_live}

-- the edit of a roll is accepted
pub roll_accepted : (fold : Folded) (n : ℕ) (last : Seq) → IsWell fold → fold.next_file ≤ n → n < FILE_NUMBER_LIMIT → fold.last.0 ≤ last.0 → last.0 ≤ SEQUENCE_LIMIT → IsAccepted fold (roll_edit last n)
roll_accepted fold n last well new most behind within =
    let low = All-In (λ k. k < fold.next_file) fold.logs (newest_log fold.logs) well.logs (contains_In fold.logs (newest_log fold.logs) (newest_live fold well)) in
    record {
      next = omega (arith, new);
      most = omega (arith, most);
      last = behind;
      within = within;
      logs = record {
        ascending = λ j l. absurd (omega (arith, l));
        newer = All-from (λ j. newest_log fold.logs < j) (n ∷ []) (λ j i. elim i [ inl q ↦ omega (arith, low, new, q) | inr b ↦ absurd b ]);
        below = All-from (λ j. j < n + 1) (n ∷ []) (λ j i. elim i [ inl q ↦ omega (arith, q) | inr b ↦ absurd b ]);
        oldest = refl;
        one = let a = length-append fold.logs (n ∷ []) in omega (arith, a);
      };
      part = tt;
    }
