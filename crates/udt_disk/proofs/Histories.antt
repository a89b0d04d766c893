-- What a file in memory may leave, and one more of its calls.
use Rattle.std.proofs.Common.{◌≡◌, ◌⊎◌, inl, inr, ℕ, ◌+◌, ◌-◌, ◌≤◌, Bool, List, [], ◌∷◌, ◌++◌, length, take, drop, min, sym, ◌∙◌, ap, subst, suc, arith, append_assoc, length-append, Vec}
use Rattle.std.specs.Prelude.{reverse, Some}
use Rattle.std.specs.declared.alloc.Global.{Global}
use Rattle.std.proofs.lemmas.List.{take_at, drop_at, length-take, length-drop, reverse-append, take-append-drop, drop-drop}
use Rattle.std.proofs.lemmas.Grind.{common_steps}
use Rattle.udt_disk.specs.Bytes.{overwritten, Torn}
use Rattle.udt_disk.specs.Crash.{Image, Tears, ComeBy, NoMore, Elapses}
use Rattle.udt_disk.specs.History.{undone, CallsLeave, LeftSince, stays_now}
use Rattle.udt_disk.specs.declared.history.FileCall.{FileCall}
use Rattle.udt_disk.specs.declared.history.FileCall.TheVariants.{Wrote, Synced}

-- a write that was taken is one of the ways in which it may be torn
pub torn_whole : (at : ℕ) (old bytes : List ℕ) → at ≤ length old → Torn at (length bytes) old (overwritten old at bytes)
torn_whole at old bytes le =
    let front = take at old in
    let back = drop (at + length bytes) old in
    let long : length front ≡ at = omega (arith, length-take at old) in
    let size : length (front ++ bytes) ≡ at + length bytes = omega (arith, long, length-append front bytes) in
    let all : length (overwritten old at bytes) ≡ at + length bytes + length back = omega (arith, size, length-append (front ++ bytes) back) in
    let rest : length back ≡ length old - (at + length bytes) = length-drop (at + length bytes) old in
    record {
      before = ap (take at) (append_assoc front bytes back) ∙ take_at front (bytes ++ back) at long;
      after = drop_at (front ++ bytes) back (at + length bytes) size;
      no_shorter = omega (arith, all, rest);
      no_longer = omega (arith, all, rest);
    }

-- what was written over, put back
pub undone-overwritten : (at : ℕ) (old bytes : List ℕ) → at ≤ length old → undone (overwritten old at bytes) at (length bytes) (take (length bytes) (drop at old)) ≡ old
undone-overwritten at old bytes le =
    let torn = torn_whole at old bytes le in
    let over = take (length bytes) (drop at old) in
    ap (λ (front : List ℕ). front ++ over ++ drop (at + length bytes) (overwritten old at bytes)) torn.before
    ∙ ap (λ (back : List ℕ). take at old ++ over ++ back) torn.after
    ∙ append_assoc (take at old) over (drop (at + length bytes) old)
    ∙ ap (λ (back : List ℕ). take at old ++ (over ++ back)) (sym (drop-drop (length bytes) at old))
    ∙ ap (λ (back : List ℕ). take at old ++ back) (take-append-drop (length bytes) (drop at old))
    ∙ take-append-drop at old

pub take_min : (n : ℕ) (xs : List ℕ) → take (min n (length xs)) xs ≡ take n xs
take_min n xs = grind (arith, common_steps)

pub more : (calls : List FileCall) (call : FileCall) → reverse (calls ++ call ∷ []) ≡ call ∷ reverse calls
more calls call = reverse-append calls (call ∷ [])

module _ (miss differ : Bool) (now : List ℕ) (calls : List FileCall) where
  -- after a sync there is what a read gives, which was possible before
  pub sync_only : (calls' : List FileCall) → calls' ≡ calls ++ Synced ∷ [] → NoMore (CallsLeave miss differ now (reverse calls)) (CallsLeave miss differ now (reverse calls'))
  sync_only calls' noted c left =
      let only : c ≡ Some now = subst (λ (cs : List FileCall). CallsLeave miss differ now cs c) (ap reverse noted ∙ more calls Synced) left in
      subst (CallsLeave miss differ now (reverse calls)) (sym only) (stays_now miss differ now (reverse calls))

  module _ (at : ℕ) (piece new : List ℕ) (over : Vec ℕ Global) (calls' : List FileCall) (within : at ≤ length now) (saved : over.items ≡ take (length piece) (drop at now)) (written : new ≡ overwritten now at piece) (noted : calls' ≡ calls ++ Wrote at (length piece) over ∷ []) where
    calls_are : reverse calls' ≡ Wrote at (length piece) over ∷ reverse calls
    calls_are = ap reverse noted ∙ more calls (Wrote at (length piece) over)

    undone_is : undone new at (length piece) over.items ≡ now
    undone_is =
        ap (λ (bytes : List ℕ). undone bytes at (length piece) over.items) written
        ∙ ap (λ (bytes : List ℕ). undone (overwritten now at piece) at (length piece) bytes) saved
        ∙ undone-overwritten at now piece within

    write_cases : (c : Image) → CallsLeave miss differ new (Wrote at (length piece) over ∷ reverse calls) c → (d : Image) × CallsLeave miss differ now (reverse calls) d × Tears at (length piece) d c
    write_cases c (inl whole) = (Some now, stays_now miss differ now (reverse calls), subst (Tears at (length piece) (Some now)) (sym (whole ∙ ap Some written)) (torn_whole at now piece within))
    write_cases c (inr torn) = (torn.0, subst (λ (bytes : List ℕ). CallsLeave miss differ bytes (reverse calls) torn.0) undone_is torn.1, torn.2)

    -- a write may leave what it wrote, or may be torn
    pub write_follows : ComeBy (Tears at (length piece)) (CallsLeave miss differ now (reverse calls)) (CallsLeave miss differ new (reverse calls'))
    write_follows c left = write_cases c (subst (λ (cs : List FileCall). CallsLeave miss differ new cs c) calls_are left)

    since_cases : (t : ℕ) (c : Image) → LeftSince miss differ new (Wrote at (length piece) over ∷ reverse calls) t c → LeftSince miss differ now (reverse calls) t c ⊎ CallsLeave miss differ new (reverse calls') c
    since_cases t c (inl left) = inr (subst (λ (cs : List FileCall). CallsLeave miss differ new cs c) (sym calls_are) left)
    since_cases t c (inr past) = inl (subst (λ (bytes : List ℕ). LeftSince miss differ bytes (reverse calls) t c) undone_is past.1)

    pub write_elapses : Elapses (length (reverse calls)) (length (reverse calls')) (LeftSince miss differ now (reverse calls)) (LeftSince miss differ new (reverse calls')) (CallsLeave miss differ new (reverse calls'))
    write_elapses =
        let longer : length (reverse calls') ≡ suc (length (reverse calls)) = ap length calls_are in
        record {
          later = omega arith;
          nothing_else = λ t c le left. since_cases t c (subst (λ (cs : List FileCall). LeftSince miss differ new cs t c) calls_are left);
          keeps = λ t c le left. subst (λ (cs : List FileCall). LeftSince miss differ new cs t c) (sym calls_are) (inr (le, subst (λ (bytes : List ℕ). LeftSince miss differ bytes (reverse calls) t c) (sym undone_is) left));
        }
