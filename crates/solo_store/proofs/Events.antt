-- The steps of events that change nothing: reads, floors, and what a halted store refuses.
use Rattle.std.proofs.Common.{◌≡◌, ◌⊎◌, ℕ, Bool, true, false, List, map, Option, Some, None, refl, sym, ◌∙◌, subst, inl, inr}
use Rattle.std.specs.Prelude.{if◌then◌else◌, slice_get}
use Rattle.ts_key.specs.declared.numbers.Family.{Family}
use Rattle.ts_key.specs.declared.numbers.Ts.{Ts}
use Rattle.udt_disk.specs.declared.file.DiskFile as file
use Rattle.udt_disk.specs.declared.disk.Disk as disk
use Rattle.udt_model.specs.declared.event.Event.TheVariants.{Floor, Get, Raise, Sync, Write}
use Rattle.udt_model.specs.declared.event.NamedOp.{NamedOp}
use Rattle.udt_model.specs.declared.read.Answer.TheVariants as answers
use Rattle.udt_model.specs.declared.read.ModelRead.{ModelRead}
use Rattle.udt_model.specs.declared.read.ModelRead.TheVariants as reads
use Rattle.udt_model.specs.declared.reply.Reply.{Reply}
use Rattle.udt_model.specs.declared.reply.Reply.TheVariants as replies
use Rattle.udt_model.specs.Acts.Act.{ask_floor, get, raise, sync_all, write}
use Rattle.udt_model.specs.Crashes.{Course}
use Rattle.udt_model.specs.Reads.{read}
use Rattle.udt_model.specs.State.{State}
use Rattle.udt_model.specs.Steps.{IsReplyTo, reply_of_read}
use Rattle.super_version.specs.Contents.{versions_in}
use Rattle.super_version.specs.declared.family.FamilyState.{FamilyState}
use Rattle.super_version.specs.declared.version.SuperVersion.{SuperVersion}
use Rattle.engine_laws.specs.Joints.{IsNowLast}
use Rattle.store_engine.specs.Now.{IsNow}
use Rattle.solo_store.specs.Names.{family_named, is_any_unnamed, op_named}
use Rattle.solo_store.specs.Replies.{halted_told}
use Rattle.solo_store.specs.Steps.{IsStep}
use Rattle.solo_store.specs.Stores.{HoldsStore, IsStoreReady, now_of, store_next}
use Rattle.solo_store.specs.declared.store.Store.{Store}
use Rattle.solo_store.proofs.Answers.{floor_told, floor_unknown, get_told, get_unknown, raise_halted, sync_halted}
use Rattle.solo_store.proofs.Asking.{Asks, asks_floor, asks_get, asks_raise, asks_sync, asks_write}
use Rattle.solo_store.proofs.Holding.{store_halted, store_shows, store_sound}
use Rattle.solo_store.proofs.Refusing.{write_halted}
use Rattle.solo_store.proofs.Stepping.{keeps_itself, quiet, quiet_halted, still_step, want_step}

pub none_left : {X : Type 0} (o : Option X) → ((x : X) → o ≡ Some x → ⊥) → o ≡ None
none_left None none = refl
none_left (Some x) none = absurd (none x refl)

-- the read that tells this
abbrev pub IsReadReply : ModelRead → Reply → Type 0
IsReadReply told reply = (reply ≡ reply_of_read told) ⊎ (reply ≡ replies.NoMemory)

module _ {D F : Type 0} (d : disk.Ghosts D F) (f : file.Ghosts F) (last : IsNowLast d f) (store : Store D F f) (ready : IsStoreReady d f store) (number : ℕ) where
  -- ---- of a family, as the super version and the family's number were had

  module _ (name : List ℕ) (now : SuperVersion) (i : Family) (is_now : now ≡ now_of store) (is_family : i ≡ family_named store.names.items name) where
    shows : (m : State) (c : Course) → HoldsStore d f store m c → IsNow now m
    shows m c h = subst (λ (v : SuperVersion). IsNow v m) (sym is_now) (store_shows d f store m c h)

    pub floor_absent : None ≡ slice_get now.families i.0 → IsStep d f store store number (Floor name) replies.Unknown
    floor_absent none =
        let asks : Asks store.names.items (Floor name) (ask_floor i) = subst (λ (j : Family). Asks store.names.items (Floor name) (ask_floor j)) (sym is_family) (asks_floor store.names.items name) in
        still_step d f store store number (Floor name) (ask_floor i) asks refl (keeps_itself d f last store ready) replies.Unknown refl (quiet store.halted (store_next store) replies.Unknown refl) refl
        (λ m c h. floor_unknown m now i (shows m c h) (sym none))

    pub floor_found : (g : FamilyState) → Some g ≡ slice_get now.families i.0 → IsStep d f store store number (Floor name) (replies.Floor g.floor)
    floor_found g found =
        let asks : Asks store.names.items (Floor name) (ask_floor i) = subst (λ (j : Family). Asks store.names.items (Floor name) (ask_floor j)) (sym is_family) (asks_floor store.names.items name) in
        still_step d f store store number (Floor name) (ask_floor i) asks refl (keeps_itself d f last store ready) (replies.Floor g.floor) refl (quiet store.halted (store_next store) (replies.Floor g.floor) refl) refl
        (λ m c h. floor_told m now i g (shows m c h) (sym found))

    module _ (key : List ℕ) (t : Ts) where
      asks : Asks store.names.items (Get name key t None) (get i key t None)
      asks = subst (λ (j : Family). Asks store.names.items (Get name key t None) (get j key t None)) (sym is_family) (asks_get store.names.items name key t)

      pub get_absent : None ≡ slice_get now.families i.0 → IsStep d f store store number (Get name key t None) replies.Unknown
      get_absent none =
          still_step d f store store number (Get name key t None) (get i key t None) asks refl (keeps_itself d f last store ready) replies.Unknown refl (quiet store.halted (store_next store) replies.Unknown refl) refl
          (λ m c h. get_unknown m now i key t (shows m c h) (sym none))

      -- a read of the model, whatever it tells
      get_read : (told : ModelRead) → ((m : State) (c : Course) → HoldsStore d f store m c → IsReplyTo m (get i key t None) (reply_of_read told)) → IsStep d f store store number (Get name key t None) (reply_of_read told)
      get_read (reads.Collapsed floor) legal =
          still_step d f store store number (Get name key t None) (get i key t None) asks refl (keeps_itself d f last store ready) (replies.Collapsed floor) refl (quiet store.halted (store_next store) (replies.Collapsed floor) refl) refl legal
      get_read (reads.Told answers.Absent) legal =
          still_step d f store store number (Get name key t None) (get i key t None) asks refl (keeps_itself d f last store ready) replies.Absent refl (quiet store.halted (store_next store) replies.Absent refl) refl legal
      get_read (reads.Told (answers.Found value stamp)) legal =
          still_step d f store store number (Get name key t None) (get i key t None) asks refl (keeps_itself d f last store ready) (replies.Found value stamp) refl (quiet store.halted (store_next store) (replies.Found value stamp) refl) refl legal

      pub get_found : (g : FamilyState) (reply : Reply) → Some g ≡ slice_get now.families i.0 → IsReadReply (read (versions_in i g) g.floor i key t now.last) reply → IsStep d f store store number (Get name key t None) reply
      get_found g reply found (inl told) =
          subst (λ (r : Reply). IsStep d f store store number (Get name key t None) r) (sym told)
          (get_read (read (versions_in i g) g.floor i key t now.last) (λ m c h. get_told m now i g key t (shows m c h) (store_sound d f store m c h) (sym found)))
      get_found g reply found (inr want) =
          subst (λ (r : Reply). IsStep d f store store number (Get name key t None) r) (sym want)
          (want_step d f store store number (Get name key t None) (get i key t None) asks refl (keeps_itself d f last store ready) refl refl (λ m. refl))

    -- ---- where the store is halted

    pub raise_refused : (floor : Ts) (since : ℕ) (o : Option FamilyState) (reply : Reply) → store.halted ≡ Some since → slice_get now.families i.0 ≡ o → reply ≡ halted_told o since → IsStep d f store store number (Raise name floor) reply
    raise_refused floor since None reply halted at told =
        let asks : Asks store.names.items (Raise name floor) (raise i floor) = subst (λ (j : Family). Asks store.names.items (Raise name floor) (raise j floor)) (sym is_family) (asks_raise store.names.items name floor) in
        subst (λ (r : Reply). IsStep d f store store number (Raise name floor) r) (sym told)
        (still_step d f store store number (Raise name floor) (raise i floor) asks refl (keeps_itself d f last store ready) replies.Unknown refl (quiet store.halted (store_next store) replies.Unknown refl) refl
        (λ m c h. subst (λ (o : Option FamilyState). IsReplyTo m (raise i floor) (halted_told o since)) at (raise_halted m now i floor since (shows m c h) (store_halted d f store m c h ∙ halted))))
    raise_refused floor since (Some g) reply halted at told =
        let asks : Asks store.names.items (Raise name floor) (raise i floor) = subst (λ (j : Family). Asks store.names.items (Raise name floor) (raise j floor)) (sym is_family) (asks_raise store.names.items name floor) in
        subst (λ (r : Reply). IsStep d f store store number (Raise name floor) r) (sym told)
        (still_step d f store store number (Raise name floor) (raise i floor) asks refl (keeps_itself d f last store ready) (replies.Halted since) refl (quiet_halted store.halted (store_next store) since halted) refl
        (λ m c h. subst (λ (o : Option FamilyState). IsReplyTo m (raise i floor) (halted_told o since)) at (raise_halted m now i floor since (shows m c h) (store_halted d f store m c h ∙ halted))))

  pub sync_refused : (since : ℕ) → store.halted ≡ Some since → IsStep d f store store number Sync (replies.Halted since)
  sync_refused since halted =
      still_step d f store store number Sync sync_all (asks_sync store.names.items) refl (keeps_itself d f last store ready) (replies.Halted since) refl (quiet_halted store.halted (store_next store) since halted) refl
      (λ m c h. sync_halted m since (store_halted d f store m c h ∙ halted))

  module _ (ops : List NamedOp) (sync : Bool) where
    write_legal : (since : ℕ) (reply : Reply) → store.halted ≡ Some since → reply ≡ (if is_any_unnamed store.names.items ops then replies.Unknown else replies.Halted since)
        → (m : State) (c : Course) → HoldsStore d f store m c → IsReplyTo m (write (map (op_named store.names.items) ops) sync) reply
    write_legal since reply halted is m c h = write_halted m store.names.items ops sync since reply h.names (store_halted d f store m c h ∙ halted) is

    pub write_unnamed : (since : ℕ) → store.halted ≡ Some since → is_any_unnamed store.names.items ops ≡ true → IsStep d f store store number (Write ops sync) replies.Unknown
    write_unnamed since halted any =
        still_step d f store store number (Write ops sync) (write (map (op_named store.names.items) ops) sync) (asks_write store.names.items ops sync) refl (keeps_itself d f last store ready) replies.Unknown refl (quiet store.halted (store_next store) replies.Unknown refl) refl
        (write_legal since replies.Unknown halted (rw any refl))

    pub write_refused : (since : ℕ) → store.halted ≡ Some since → is_any_unnamed store.names.items ops ≡ false → IsStep d f store store number (Write ops sync) (replies.Halted since)
    write_refused since halted none =
        still_step d f store store number (Write ops sync) (write (map (op_named store.names.items) ops) sync) (asks_write store.names.items ops sync) refl (keeps_itself d f last store ready) (replies.Halted since) refl (quiet_halted store.halted (store_next store) since halted) refl
        (write_legal since (replies.Halted since) halted (rw none refl))

    -- there is no memory for the batch
    pub write_wants : IsStep d f store store number (Write ops sync) replies.NoMemory
    write_wants = want_step d f store store number (Write ops sync) (write (map (op_named store.names.items) ops) sync) (asks_write store.names.items ops sync) refl (keeps_itself d f last store ready) refl refl (λ m. refl)
