-- Small facts of answers.
use Rattle.std.proofs.Common.{◌≡◌, ℕ, ◌+◌, Bool, true, false, List, length, Result, Ok, Err, Some, None, refl, sym, ap, ◌∙◌, subst, inl, inr}
use Rattle.std.specs.Prelude.{IfErr, IfSome, OnOk}
use Rattle.ts_key.specs.declared.batch.WriteOp.{WriteOp}
use Rattle.ts_key.specs.declared.numbers.Family.{Family}
use Rattle.ts_key.specs.declared.numbers.Ts.{Ts}
use Rattle.udt_disk.specs.Causes.{IsCause, Rose}
use Rattle.udt_disk.specs.Joint.{Ran}
use Rattle.udt_disk.specs.Joint.Ran.{rests}
use Rattle.udt_disk.specs.declared.file.DiskFile as file
use Rattle.udt_disk.specs.declared.disk.Disk as disk
use Rattle.udt_model.specs.State.{State}
use Rattle.udt_model.specs.Acts.{Act}
use Rattle.udt_model.specs.Acts.Act.{raise, sync_all, write}
use Rattle.udt_model.specs.declared.reply.Reply.TheVariants.{Done, Fault, Halted, OkAt}
use Rattle.udt_model.specs.Refusals.{refusal, ◌otherwise◌}
use Rattle.udt_model.specs.Steps.{IsReplyTo, admitted, raised}
use Rattle.udt_model.specs.Crashes.{Course, IsOutcomeUnder}
use Rattle.std.specs.Prelude.{option_map}
use Rattle.manifest.specs.Manifest.{manifest_file}
use Rattle.super_version.specs.declared.version.SuperVersion.{SuperVersion}
use Rattle.floor_laws.proofs.Writing.{refuses_raise, refuses_write, told_other}
use Rattle.engine_laws.specs.Joints.{IsNowLast}
use Rattle.engine_laws.specs.Standing.{StandsForSome}
use Rattle.engine_laws.proofs.Joined.{now_leaves}
use Rattle.recovery.specs.Tables.{ReadsAsTable}
use Rattle.store_engine.specs.Calls.{RanUnder, Tells}
use Rattle.store_engine.specs.Admission.{IsInMemory, RefusesRaise, RefusesWrite}
use Rattle.store_engine.specs.Engines.{HoldsAsBefore, HoldsNow, IsOneFolder, held}
use Rattle.store_engine.specs.Replies.{is_disk_fault, reply_of_fault}
use Rattle.store_engine.specs.Steps.{IsSameFolder}
use Rattle.store_engine.specs.declared.engine.Engine.{Engine}
use Rattle.store_engine.specs.declared.fault.EngineFault.{EngineFault}
use Rattle.store_engine.specs.declared.fault.EngineFault.TheVariants.{DiskFault}
use Rattle.store_engine.specs.declared.fault.EngineFault.TheVariants as faults
use Rattle.store_engine.proofs.Together.{named_on}

some_is : {X : Type 0} {x y : X} → Some x ≡ Some y → x ≡ y
some_is e = cc

pub on_ok : {A E : Type 0} (r : Result A E) (P Q : Type 0) → (P → Q) → OnOk r P → OnOk r Q
on_ok (Ok a) P Q step h = step h
on_ok (Err e) P Q step h = h

pub ok_on : {A E : Type 0} (r : Result A E) (P : Type 0) → P → OnOk r P
ok_on (Ok a) P h = h
ok_on (Err e) P h = tt

-- ---- the model's answers where no disk has failed

pub sync_told : (m : State) → m.halted ≡ None → IsReplyTo m sync_all Done
sync_told m runs = record { running = refl; is = inl (ap (λ h. option_map Halted h otherwise Done) (sym runs)) }

pub sync_fails : (m : State) → m.halted ≡ None → IsReplyTo m sync_all Fault
sync_fails m runs = record { running = refl; is = inr (inl (refl, refl, ap (option_map Halted) runs)) }

pub sync_tells : (m : State) → m.halted ≡ None → (result : Result (Unit {0}) EngineFault) → IfErr result (λ fault. fault ≡ DiskFault) → Tells m sync_all Done result
sync_tells m runs (Ok u) fault = sync_told m runs
sync_tells m runs (Err e) fault = subst (λ (x : EngineFault). IfSome (reply_of_fault x) (IsReplyTo m sync_all)) (sym fault) (sync_fails m runs)

pub written_told : (m : State) (ops : List WriteOp) (last : ℕ) → admitted m ops ≡ OkAt last → (sync : Bool) → IsReplyTo m (write ops sync) (OkAt last)
written_told m ops last is sync = record { running = refl; is = inl (sym is) }

pub write_fails : (m : State) (ops : List WriteOp) (last : ℕ) → admitted m ops ≡ OkAt last → (sync : Bool) → IsReplyTo m (write ops sync) Fault
write_fails m ops last is sync = record {
  running = refl;
  is = inr (inl (refl, refl, (told_other (refusal m (write ops false)) (OkAt (m.last.0 + length ops)) (OkAt last) (refuses_write m ops false) refl (sym is)).0));
}

pub raised_told : (m : State) (family : Family) (floor : Ts) → raised m family floor ≡ Done → IsReplyTo m (raise family floor) Done
raised_told m family floor is = record { running = refl; is = inl (sym is) }

pub raise_fails : (m : State) (family : Family) (floor : Ts) → raised m family floor ≡ Done → IsReplyTo m (raise family floor) Fault
raise_fails m family floor is = record {
  running = refl;
  is = inr (inl (refl, refl, (told_other (refusal m (raise family floor)) Done Done (refuses_raise m family floor) refl (sym is)).0));
}

-- ---- refusals

pub memory_fault : (e : EngineFault) → IsInMemory e → is_disk_fault e ≡ false
memory_fault faults.UnknownFamily in_memory = refl
memory_fault (faults.BelowFloor op floor) in_memory = refl
memory_fault (faults.Fell op newest) in_memory = refl
memory_fault (faults.SequenceFull last) in_memory = refl
memory_fault (faults.FloorFell floor) in_memory = refl
memory_fault (faults.FilesFull next) in_memory = refl
memory_fault faults.NoMemory in_memory = refl
memory_fault DiskFault in_memory = absurd in_memory

pub write_refused : (m : State) (ops : List WriteOp) (sync : Bool) (e : EngineFault) → IsInMemory e → RefusesWrite m ops e → IfSome (reply_of_fault e) (IsReplyTo m (write ops sync))
write_refused m ops sync faults.UnknownFamily in_memory is = record { running = refl; is = inl (some_is is) }
write_refused m ops sync (faults.BelowFloor op floor) in_memory is = record { running = refl; is = inl (some_is is) }
write_refused m ops sync (faults.Fell op newest) in_memory is = record { running = refl; is = inl (some_is is) }
write_refused m ops sync (faults.SequenceFull last) in_memory is = record { running = refl; is = inl (some_is is) }
write_refused m ops sync (faults.FloorFell floor) in_memory is = record { running = refl; is = inl (some_is is) }
write_refused m ops sync (faults.FilesFull next) in_memory is = record { running = refl; is = inl (some_is is) }
write_refused m ops sync faults.NoMemory in_memory is = tt
write_refused m ops sync DiskFault in_memory is = absurd in_memory

pub raise_refused : (m : State) (family : Family) (floor : Ts) (e : EngineFault) → IsInMemory e → RefusesRaise m family floor e → IfSome (reply_of_fault e) (IsReplyTo m (raise family floor))
raise_refused m family floor faults.UnknownFamily in_memory is = record { running = refl; is = inl (some_is is) }
raise_refused m family floor (faults.BelowFloor op at) in_memory is = record { running = refl; is = inl (some_is is) }
raise_refused m family floor (faults.Fell op newest) in_memory is = record { running = refl; is = inl (some_is is) }
raise_refused m family floor (faults.SequenceFull last) in_memory is = record { running = refl; is = inl (some_is is) }
raise_refused m family floor (faults.FloorFell at) in_memory is = record { running = refl; is = inl (some_is is) }
raise_refused m family floor (faults.FilesFull next) in_memory is = record { running = refl; is = inl (some_is is) }
raise_refused m family floor faults.NoMemory in_memory is = tt
raise_refused m family floor DiskFault in_memory is = absurd in_memory

-- a fault that is the disk's tells so, and one that is of memory nothing
pub disk_tells : (m : State) (act : Act) (e : EngineFault) → e ≡ DiskFault → IsReplyTo m act Fault → IfSome (reply_of_fault e) (IsReplyTo m act)
disk_tells m act e is told = subst (λ (x : EngineFault). IfSome (reply_of_fault x) (IsReplyTo m act)) (sym is) told

pub none_tells : (m : State) (act : Act) (e : EngineFault) → e ≡ faults.NoMemory → IfSome (reply_of_fault e) (IsReplyTo m act)
none_tells m act e is = subst (λ (x : EngineFault). IfSome (reply_of_fault x) (IsReplyTo m act)) (sym is) tt

pub none_disk : (e : EngineFault) → e ≡ faults.NoMemory → is_disk_fault e ≡ false
none_disk e is = ap is_disk_fault is

pub disk_disk : (e : EngineFault) → e ≡ DiskFault → is_disk_fault e ≡ true
disk_disk e is = ap is_disk_fault is

pub none_cause : (e : EngineFault) (before now : ℕ) → is_disk_fault e ≡ false → now ≡ before → IsCause (is_disk_fault e) before now
none_cause e before now is same = subst (λ b. IsCause b before now) (sym is) same

pub disk_cause : (e : EngineFault) (before now : ℕ) → e ≡ DiskFault → Rose before now → IsCause (is_disk_fault e) before now
disk_cause e before now is rose = subst (λ b. IsCause b before now) (sym (disk_disk e is)) rose

-- ---- where nothing was done

module _ {D F : Type 0} (f : file.Ghosts F) where
  pub folder_on : (a b c : Engine D F f) → IsSameFolder f a b → IsSameFolder f b c → IsSameFolder f a c
  folder_on a b c one two = record {
    disk = two.disk ∙ one.disk;
    wal = record { name = two.wal.name ∙ one.wal.name; told = two.wal.told ∙ one.wal.told; model = two.wal.model ∙ one.wal.model };
    manifest = record { name = two.manifest.name ∙ one.manifest.name; told = two.manifest.told ∙ one.manifest.told; model = two.manifest.model ∙ one.manifest.model };
  }

module _ {D F : Type 0} (d : disk.Ghosts D F) (f : file.Ghosts F) where
  -- the same folder is still one
  pub one_stays : (old new : Engine D F f) → IsSameFolder f old new → IsOneFolder d f old → IsOneFolder d f new
  one_stays old new same one =
      let told : d.is_told new.disk ≡ d.is_told old.disk = ap d.is_told same.disk in
      let model : d.keeps_model new.disk ≡ d.keeps_model old.disk = ap d.keeps_model same.disk in
      record {
        named = named_on f old.manifest new.manifest old.wal new.wal same.manifest.name same.wal.name one.named;
        wal_told = same.wal.told ∙ one.wal_told ∙ sym told;
        wal_model = same.wal.model ∙ one.wal_model ∙ sym model;
        manifest_told = same.manifest.told ∙ one.manifest_told ∙ sym told;
        manifest_model = same.manifest.model ∙ one.manifest_model ∙ sym model;
      }

module _ {D F : Type 0} (d : disk.Ghosts D F) (f : file.Ghosts F) (now_last : IsNowLast d f) where
  pub same_folder : (engine : Engine D F f) → IsSameFolder f engine engine
  same_folder engine = record { disk = refl; wal = record { name = refl; told = refl; model = refl }; manifest = record { name = refl; told = refl; model = refl } }

  pub as_before : (engine : Engine D F f) → HoldsAsBefore d f engine engine
  as_before engine = record { current = λ now h. h; holds = λ now m c h. h; running = λ h. h }

  -- no call was made
  pub rest_ran : (old new : Engine D F f) (now : SuperVersion) (m : State) (c : Course) (number : ℕ) (act : Act) → HoldsNow d f old now m c → held new ≡ held old → RanUnder d f m c number act old new
  rest_ran old new now m c number act h same =
      subst (λ j. Ran d f (λ folder. StandsForSome ReadsAsTable folder (IsOutcomeUnder m c number act)) (held old) j) (sym same)
      (rests (λ folder image. let left = now_leaves d f now_last ReadsAsTable (f.name (manifest_file old.manifest)) m c h.says h.waiting (held old) h.holds h.engine_of.rests folder image in (left.0, left.1, inl left.2)))
