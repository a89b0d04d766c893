-- What a store holds, by its halves: while its disk works, and since it failed.
use Rattle.std.proofs.Common.{◌≡◌, ℕ, sym, subst, inl, Option, Some, None}
use Rattle.udt_disk.specs.Joint.{Ran}
use Rattle.udt_disk.specs.Joint.Ran.{rests}
use Rattle.udt_disk.specs.declared.file.DiskFile as file
use Rattle.udt_disk.specs.declared.disk.Disk as disk
use Rattle.udt_disk.proofs.Joints.{ran_more}
use Rattle.udt_model.specs.State.{State}
use Rattle.udt_model.specs.Acts.{Act}
use Rattle.udt_model.specs.Crashes.{Course, IsOutcome, IsOutcomeUnder}
use Rattle.floor_laws.specs.Sound.{IsSoundState}
use Rattle.super_version.specs.declared.version.SuperVersion.{SuperVersion}
use Rattle.engine_laws.specs.Joints.{IsNowLast}
use Rattle.engine_laws.specs.Standing.{StandsForSome}
use Rattle.recovery.specs.Tables.{ReadsAsTable}
use Rattle.store_engine.specs.Calls.{LeavesOutcomes, RanOn, RanUnder}
use Rattle.store_engine.specs.Engines.{HoldsNow, IsCurrent, IsRunning, held}
use Rattle.store_engine.specs.Now.{IsNow}
use Rattle.store_engine.specs.declared.engine.Engine.{Engine}
use Rattle.store_engine.proofs.Leaving.{between_leave}
use Rattle.solo_store.specs.Stores.{HoldsSince, HoldsStore, IsStoreReady, GoesOnUnless, engine_of, now_of}
use Rattle.solo_store.specs.declared.store.Store.{Store}

module _ {D F : Type 0} (d : disk.Ghosts D F) (f : file.Ghosts F) where
  -- while the disk works the engine holds the state
  pub live_of : (store : Store D F f) (m : State) (c : Course) → store.halted ≡ None → HoldsStore d f store m c → HoldsNow d f (engine_of store) (now_of store) m c
  live_of store m c works h = subst (λ o. HoldsSince d f o (engine_of store) (now_of store) m c) works h.holds

  pub since_live : (o : Option ℕ) (engine : Engine D F f) (now : SuperVersion) (m : State) (c : Course) → o ≡ None → HoldsNow d f engine now m c → HoldsSince d f o engine now m c
  since_live o engine now m c works h = subst (λ o. HoldsSince d f o engine now m c) (sym works) h

  pub goes_on_of : (store : Store D F f) → store.halted ≡ None → IsStoreReady d f store → IsRunning (engine_of store) × IsCurrent (engine_of store) (now_of store)
  goes_on_of store works ready = subst (λ o. GoesOnUnless d f o (engine_of store) (now_of store)) works ready.goes_on

  pub goes_on_live : (o : Option ℕ) (engine : Engine D F f) (now : SuperVersion) → o ≡ None → IsRunning engine → IsCurrent engine now → GoesOnUnless d f o engine now
  goes_on_live o engine now works running current = subst (λ o. GoesOnUnless d f o engine now) (sym works) (running, current)

  -- ---- what both have

  since_shows : (o : Option ℕ) (engine : Engine D F f) (now : SuperVersion) (m : State) (c : Course) → HoldsSince d f o engine now m c → IsNow now m
  since_shows None engine now m c h = h.shows
  since_shows (Some since) engine now m c h = h.shows

  pub store_shows : (store : Store D F f) (m : State) (c : Course) → HoldsStore d f store m c → IsNow (now_of store) m
  store_shows store m c h = since_shows store.halted (engine_of store) (now_of store) m c h.holds

  since_sound : (o : Option ℕ) (engine : Engine D F f) (now : SuperVersion) (m : State) (c : Course) → HoldsSince d f o engine now m c → IsSoundState m
  since_sound None engine now m c h = h.holds.sound
  since_sound (Some since) engine now m c h = h.sound

  pub store_sound : (store : Store D F f) (m : State) (c : Course) → HoldsStore d f store m c → IsSoundState m
  store_sound store m c h = since_sound store.halted (engine_of store) (now_of store) m c h.holds

  since_halted : (o : Option ℕ) (engine : Engine D F f) (now : SuperVersion) (m : State) (c : Course) → HoldsSince d f o engine now m c → m.halted ≡ o
  since_halted None engine now m c h = h.runs
  since_halted (Some since) engine now m c h = h.halted

  pub store_halted : (store : Store D F f) (m : State) (c : Course) → HoldsStore d f store m c → m.halted ≡ store.halted
  store_halted store m c h = since_halted store.halted (engine_of store) (now_of store) m c h.holds

  -- ---- moments

  -- calls that were to change nothing
  pub on_under : (old new : Engine D F f) (m : State) (c : Course) (number : ℕ) (act : Act) → RanOn d f m c old new → RanUnder d f m c number act old new
  on_under old new m c number act ran =
      ran_more d f (λ folder. StandsForSome ReadsAsTable folder (IsOutcome m c)) (λ folder. StandsForSome ReadsAsTable folder (IsOutcomeUnder m c number act)) (λ folder left. (left.0, left.1, inl left.2)) (held old) (held new) ran

  module _ (now_last : IsNowLast d f) where
    since_leaves : (o : Option ℕ) (engine : Engine D F f) (now : SuperVersion) (m : State) (c : Course) → HoldsSince d f o engine now m c → LeavesOutcomes d f m c (held engine)
    since_leaves None engine now m c h = between_leave d f now_last engine now m c h
    since_leaves (Some since) engine now m c h = h.leaves

    pub store_leaves : (store : Store D F f) (m : State) (c : Course) → HoldsStore d f store m c → LeavesOutcomes d f m c (held (engine_of store))
    store_leaves store m c h = since_leaves store.halted (engine_of store) (now_of store) m c h.holds

    -- no call is made on the disk
    pub rests_under : (store : Store D F f) (engine : Engine D F f) (m : State) (c : Course) (number : ℕ) (act : Act) → HoldsStore d f store m c → held engine ≡ held (engine_of store) → RanUnder d f m c number act (engine_of store) engine
    rests_under store engine m c number act h same =
        subst (λ j. Ran d f (λ folder. StandsForSome ReadsAsTable folder (IsOutcomeUnder m c number act)) (held (engine_of store)) j) (sym same) (rests (λ folder image. let left = store_leaves store m c h folder image in (left.0, left.1, inl left.2)))
