-- What a call of a file in memory may leave, whether it was done or failed.
use Rattle.std.proofs.Common.{ℕ, ◌≤◌, List, length, refl, ◌∙◌, ap, subst, arith, inl, Some, None, Result, Ok, Err}
use Rattle.std.specs.Prelude.{reverse, OnOk, OnErr}
use Rattle.udt_disk.specs.Crash.{Image, Tears, ComeBy, NoMore, Only, Elapses}
use Rattle.udt_disk.specs.History.{CallsLeave, LeftSince}
use Rattle.udt_disk.specs.Files.{FileLeaves}
use Rattle.udt_disk.specs.Tried.{SameFile, IsWritten, IsSynced}
use Rattle.udt_disk.specs.declared.mem_file.FileData.{FileData}
use Rattle.udt_disk.proofs.Histories.{write_follows, write_elapses, sync_only, more}

module _ (old new : FileData) where
  same_leaves : SameFile old new → NoMore (FileLeaves old) (FileLeaves new)
  same_leaves same c left = rw (same.miss, same.differ, same.bytes, same.calls) at left

  untorn : (at n : ℕ) (c : Image) → Tears at n c c
  untorn at n None = tt
  untorn at n (Some bytes) = record { before = refl; after = refl; no_shorter = omega arith; no_longer = omega arith }

  module _ {T E : Type 0} (at : ℕ) (bytes : List ℕ) (within : at ≤ length old.bytes.items) where
    pub written_follows : (r : Result T E) → OnErr r (SameFile old new) → OnOk r (IsWritten at bytes old new) → ComeBy (Tears at (length bytes)) (FileLeaves old) (FileLeaves new)
    written_follows (Ok v) failed done =
        let step = write_follows old.may_miss old.may_differ old.bytes.items old.calls.items at bytes new.bytes.items done.noted.0 new.calls.items within done.noted.1 done.written done.noted.2 in
        λ c left. step c (rw (done.miss, done.differ) at left)
    written_follows (Err e) failed done = λ c left. (c, same_leaves failed c left, untorn at (length bytes) c)

    pub written_elapses : (r : Result T E) → OnErr r (SameFile old new) → OnOk r (IsWritten at bytes old new)
        → Elapses (length (reverse old.calls.items)) (length (reverse new.calls.items)) (LeftSince old.may_miss old.may_differ old.bytes.items (reverse old.calls.items)) (LeftSince new.may_miss new.may_differ new.bytes.items (reverse new.calls.items)) (FileLeaves new)
    written_elapses (Ok v) failed done =
        rw (done.miss, done.differ) (write_elapses old.may_miss old.may_differ old.bytes.items old.calls.items at bytes new.bytes.items done.noted.0 new.calls.items within done.noted.1 done.written done.noted.2)
    written_elapses (Err e) failed done =
        rw (failed.miss, failed.differ, failed.bytes, failed.calls) (record { later = omega arith; nothing_else = λ t c le left. inl left; keeps = λ t c le left. left })

  only_now : IsSynced old new → Only old.bytes.items (FileLeaves new)
  only_now done c left =
      subst (λ (cs : List _). CallsLeave new.may_miss new.may_differ new.bytes.items cs c) (ap reverse done.noted ∙ more old.calls.items _) left ∙ ap Some done.bytes

  module _ {T E : Type 0} where
    pub synced_follows : (r : Result T E) → OnErr r (SameFile old new) → OnOk r (IsSynced old new) → NoMore (FileLeaves old) (FileLeaves new)
    synced_follows (Ok v) failed done =
        let step = sync_only old.may_miss old.may_differ old.bytes.items old.calls.items new.calls.items done.noted in
        λ c left. step c (rw (done.miss, done.differ, done.bytes) at left)
    synced_follows (Err e) failed done = same_leaves failed

    pub synced_durable : (r : Result T E) → OnOk r (IsSynced old new) → OnOk r (Only old.bytes.items (FileLeaves new))
    synced_durable (Ok v) done = only_now done
    synced_durable (Err e) done = tt
