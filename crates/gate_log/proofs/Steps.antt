-- The two synced writes of an append, one after another.
use Rattle.std.proofs.Common.{◌≡◌, inl, inr, ⊎_elim, ℕ, ◌+◌, List, length, sym, subst}
use Rattle.udt_disk.specs.Crash.{Image, Tears, Only}
use Rattle.udt_disk.specs.Runs.{MayTear, Leaves}
use Rattle.udt_disk.specs.declared.file.DiskFile.{Ghosts}
use Rattle.udt_disk.proofs.Runs.{run_then, run_weaker}
use Rattle.gate_log.specs.Frames.{framed, IsBody, IsLog, IsLogImage, IsWithOrWithout}
use Rattle.gate_log.proofs.Bytes.{IsStaged, torn_behind, torn_gate, staged_reads}

module _ {F : Type 0} (g : Ghosts F) (bodies : List (List ℕ)) (body : List ℕ) (end : ℕ) (ends : end ≡ length (framed bodies)) where
  -- the write behind the closed gate
  pub staging : (old new : F) (n : ℕ) → IsLog bodies (g.seen old) → Only (g.seen old) (g.may_leave old) → Leaves g old new (MayTear (end + 1) n (g.may_leave old)) → Leaves g old new (IsWithOrWithout bodies body)
  staging old new n log only run = run_weaker g old new (MayTear (end + 1) n (g.may_leave old)) (IsWithOrWithout bodies body) here run
    where
      here : (c : Image) → MayTear (end + 1) n (g.may_leave old) c → IsWithOrWithout bodies body c
      here c left = ⊎_elim
          (λ now. inl (subst (IsLogImage bodies) (sym (only c now)) log))
          (λ from. inl (torn_behind bodies end ends n (g.seen old) log c (subst (λ (d : Image). Tears (end + 1) n d c) (only from.0 from.1) from.2)))
          left

  -- the write of the gate
  pub opening : (mid new : F) → IsBody body → IsStaged bodies body (g.seen mid) → Only (g.seen mid) (g.may_leave mid) → Leaves g mid new (MayTear end 1 (g.may_leave mid)) → Leaves g mid new (IsWithOrWithout bodies body)
  opening mid new fit log only run = run_weaker g mid new (MayTear end 1 (g.may_leave mid)) (IsWithOrWithout bodies body) here run
    where
      here : (c : Image) → MayTear end 1 (g.may_leave mid) c → IsWithOrWithout bodies body c
      here c left = ⊎_elim
          (λ now. inl (subst (IsLogImage bodies) (sym (only c now)) (staged_reads bodies body (g.seen mid) log)))
          (λ from. torn_gate bodies end ends body (g.seen mid) fit log c (subst (λ (d : Image). Tears end 1 d c) (only from.0 from.1) from.2))
          left

  pub both : (old mid new : F) → Leaves g old mid (IsWithOrWithout bodies body) → Leaves g mid new (IsWithOrWithout bodies body) → Leaves g old new (IsWithOrWithout bodies body)
  both old mid new first second = run_then g old mid new (IsWithOrWithout bodies body) first second
