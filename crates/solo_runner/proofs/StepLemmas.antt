-- Steps of a store with its log.
use Rattle.std.proofs.Common.{◌≡◌, inl, inr, ℕ, suc, ◌+◌, ◌-◌, ◌^◌, ◌<◌, ◌≤◌, Bool, true, false, cond, List, [], ◌∷◌, ◌++◌, length, map, drop, take, refl, sym, ap, ◌∙◌, subst, arith}
use Rattle.std.proofs.Common.{Option, Some, None}
use Rattle.std.specs.Prelude.{All, Result, Ok, Err, option_map}
use Rattle.std.specs.Str.{bytes_eq}
use Rattle.std.proofs.lemmas.Option.{none-some}
use Rattle.std.proofs.lemmas.List.Elements.{All-head, All-tail, All-nil, All-cons}
use Rattle.ts_key.specs.Batches.{IsBatch, IsStamped}
use Rattle.ts_key.specs.declared.batch.WriteOp.{WriteOp}
use Rattle.ts_key.specs.declared.numbers.Ts.{Ts}
use Rattle.ts_key.specs.declared.version.Version.{Version}
use Rattle.udt_disk.specs.Crash.{Image}
use Rattle.udt_disk.specs.Causes.{Rose}
use Rattle.udt_disk.specs.declared.file.DiskFile.{Ghosts}
use Rattle.udt_disk.specs.Runs.{IsSameFile}
use Rattle.udt_disk.specs.Runs.{Leaves}
use Rattle.gate_log.specs.declared.fault.LogFault.{LogFault}
use Rattle.gate_log.specs.declared.fault.LogFault.TheVariants.{DiskFault, NoMemory}
use Rattle.udt_model.specs.declared.event.Event.{Event}
use Rattle.udt_model.specs.declared.event.Event.TheVariants.{Write, Get, Sync}
use Rattle.udt_model.specs.declared.event.NamedOp.{NamedOp}
use Rattle.udt_model.specs.declared.line.FamilyHead.{FamilyHead}
use Rattle.udt_model.specs.declared.place.Place.{Place}
use Rattle.udt_model.specs.declared.reply.Reply.{Reply}
use Rattle.udt_model.specs.declared.reply.Reply.TheVariants as replies
use Rattle.udt_model.specs.State.{State, place_from, family_or, heads_of}
use Rattle.solo_runner.specs.Named.{accepted_unless, reply_of_write, done_unless, family_of_op, versions_made, place_of, unknown_in_ops, version_of_op}
use Rattle.udt_model.specs.Refusals.{unknown_place, ◌or_else◌}
use Rattle.wal.specs.declared.numbered.Numbered.{Numbered}
use Rattle.wal.specs.declared.wal.Wal.{Wal}
use Rattle.wal.specs.declared.wal.TheConstants.{PENDING_LIMIT}
use Rattle.wal.specs.Replays.{IsBeforeOrAfter}
use Rattle.wal.specs.Wals.{Holds, MayGoOn, wal_file, wal_pending, wal_sizes}
use Rattle.client_lang.specs.Print.{IsBuilt}
use Rattle.solo_runner.specs.Adding.{IsAdmitted, op_of_version, refusal_of, with_versions}
use Rattle.solo_runner.specs.Logging.{HasRoom, HoldsLogged, IsLogged, batch_behind, numbered_of}
use Rattle.solo_runner.specs.LoggedStores.{IsInStep, IsStep}
use Rattle.udt_model.specs.Crashes.{Course}
use Rattle.solo_runner.specs.Adding.{IsWriteRefusal}
use Rattle.solo_runner.specs.Named.{course_after_event}
use Rattle.solo_runner.specs.LoggedStores.{IsStepCause}
use Rattle.solo_runner.proofs.Adding.{refusal_built, refusal_leaves, refusal_sound, reply_found, take_front}
use Rattle.solo_runner.proofs.VersionLemmas.{length-ops}
use Rattle.solo_runner.proofs.Naming.{same_admitted}
use Rattle.solo_runner.proofs.KeepingLemmas.{halted_at, still_on, sync_fails_on, sync_on, taken, write_fails, write_on}

-- ---- the batch of a write

made_stamped : (m : State) (n : ℕ) (os : List NamedOp) → All (λ (o : NamedOp). o.ts.0 ≤ 2 ^ 64 - 2) os → All IsStamped (map op_of_version (versions_made m n os))
made_stamped m n [] all = All-nil IsStamped
made_stamped m n (o ∷ os) all =
    All-cons IsStamped (op_of_version (version_of_op (family_of_op m o) o (n + 1))) (map op_of_version (versions_made m (n + 1) os)) (All-head (λ (o : NamedOp). o.ts.0 ≤ 2 ^ 64 - 2) o os all) (made_stamped m (n + 1) os (All-tail (λ (o : NamedOp). o.ts.0 ≤ 2 ^ 64 - 2) o os all))

-- a write's operations are a batch
pub made_batch : (m : State) (n : ℕ) (os : List NamedOp) → 0 < length os → length os ≤ 64 → All (λ (o : NamedOp). o.ts.0 ≤ 2 ^ 64 - 2) os → IsBatch (map op_of_version (versions_made m n os))
made_batch m n os some within stamped = record {
  some = omega (arith, some, length-ops m n os);
  within = omega (arith, within, length-ops m n os);
  stamped = made_stamped m n os stamped;
}

none_first : (a b : Option Reply) → (a or_else b) ≡ None → a ≡ None
none_first None b none = refl
none_first (Some r) b none = none

none_second : (a b : Option Reply) → (a or_else b) ≡ None → b ≡ None
none_second None b none = none
none_second (Some r) b none = absurd (none-some r (sym none))

-- a write that isn't refused names known families
pub all_known : (m : State) (os : List NamedOp) → refusal_of m os ≡ None → unknown_in_ops m os ≡ None
all_known m os none = none_first (unknown_in_ops m os) _ (none_first (unknown_in_ops m os or_else _) _ none)

either_within : (b : Bool) (p q : Option Place) (j k : ℕ) → (unknown_place p ≡ None → (family_or j p).0 < k) → (unknown_place q ≡ None → (family_or j q).0 < k)
    → unknown_place (cond b p q) ≡ None → (family_or j (cond b p q)).0 < k
either_within true p q j k first second known = first known
either_within false p q j k first second known = second known

place_within : (n j : ℕ) (heads : List FamilyHead) (name : List ℕ) → unknown_place (place_from n heads name) ≡ None → (family_or j (place_from n heads name)).0 < n + length heads
place_within n j [] name known = absurd (none-some replies.Unknown (sym known))
place_within n j (head ∷ heads) name known =
    either_within (bytes_eq head.name name) (Some (record { family = record { 0 = n }; floor = head.floor })) (place_from (n + 1) heads name) j (n + length (head ∷ heads))
    (λ _. omega arith) (λ behind. let within = place_within (n + 1) j heads name behind in omega (arith, within)) known

-- the families of a write's operations are among those of the store
pub made_within : (m : State) (n k : ℕ) (os : List NamedOp) → k ≡ length (heads_of m) → unknown_in_ops m os ≡ None → All (λ (op : WriteOp). op.family.0 < k) (map op_of_version (versions_made m n os))
made_within m n k [] size known = All-nil (λ (op : WriteOp). op.family.0 < k)
made_within m n k (o ∷ os) size known =
    let first : (family_of_op m o).0 < 0 + length (heads_of m) = place_within 0 (length (heads_of m)) (heads_of m) o.family (none_first (unknown_place (place_of m o.family)) (unknown_in_ops m os) known) in
    All-cons (λ (op : WriteOp). op.family.0 < k) (op_of_version (version_of_op (family_of_op m o) o (n + 1))) (map op_of_version (versions_made m (n + 1) os)) (omega (arith, first, size)) (made_within m (n + 1) k os size (none_second (unknown_place (place_of m o.family)) (unknown_in_ops m os) known))

drop_front : (vs more : List Version) (n : ℕ) → n ≡ length vs → drop n (vs ++ more) ≡ more
drop_front [] more n e = rw e refl
drop_front (v ∷ vs) more n e = let k : n ≡ suc (length vs) = omega arith in rw k (drop_front vs more (length vs) refl)

-- a write was admitted to the store, behind the versions that it had
pub record HasAdded (m now : State) (count : ℕ) (os : List NamedOp) : Type 0 where
  pub is : now ≡ with_versions m (m.versions ++ versions_made m m.last.0 os)
  pub counted : count ≡ length m.versions

pub added_versions : (m now : State) (count : ℕ) (os : List NamedOp) → HasAdded m now count os → drop count now.versions ≡ versions_made m m.last.0 os
added_versions m now count os added = ap (λ (s : State). drop count s.versions) added.is ∙ drop_front m.versions (versions_made m m.last.0 os) count added.counted

pub is_added : (m now : State) (count : ℕ) (os : List NamedOp) (found : Option Reply) → found ≡ None → IsAdmitted m os found now → count ≡ length m.versions → HasAdded m now count os
is_added m now count os found none is_allowed counted = record { is = subst (λ (f : Option Reply). IsAdmitted m os f now) none is_allowed; counted = counted }

-- what logging them asks
pub added_batch : (m now : State) (count : ℕ) (os : List NamedOp) → HasAdded m now count os → 0 < length os → length os ≤ 64 → All (λ (o : NamedOp). o.ts.0 ≤ 2 ^ 64 - 2) os → IsBatch (map op_of_version (drop count now.versions))
added_batch m now count os added some within stamped =
    subst (λ (vs : List Version). IsBatch (map op_of_version vs)) (sym (added_versions m now count os added)) (made_batch m m.last.0 os some within stamped)

pub added_last : (m now : State) (count : ℕ) (os : List NamedOp) → HasAdded m now count os → m.last.0 + length os < 2 ^ 56 → now.last.0 + length (map op_of_version (drop count now.versions)) < 2 ^ 56
added_last m now count os added room =
    let size : length (map op_of_version (drop count now.versions)) ≡ length os = ap (λ (vs : List Version). length (map op_of_version vs)) (added_versions m now count os added) ∙ length-ops m m.last.0 os in
    let last : now.last.0 ≡ m.last.0 = ap (λ (s : State). s.last.0) added.is in
    omega (arith, size, last, room)

pub added_within : (m now : State) (count k : ℕ) (os : List NamedOp) → HasAdded m now count os → k ≡ length (heads_of m) → refusal_of m os ≡ None → All (λ (op : WriteOp). op.family.0 < k) (map op_of_version (drop count now.versions))
added_within m now count k os added size taken =
    subst (λ (vs : List Version). All (λ (op : WriteOp). op.family.0 < k) (map op_of_version vs)) (sym (added_versions m now count os added)) (made_within m m.last.0 k os size (all_known m os taken))

pub added_behind : (m now : State) (count : ℕ) (os : List NamedOp) → HasAdded m now count os → batch_behind now count ≡ numbered_of m os
added_behind m now count os added =
    ap (λ (k : ℕ). let n : Numbered = record { first = record { 0 = k + 1 }; batch = map op_of_version (drop count now.versions) } in n) (ap (λ (s : State). s.last.0) added.is)
    ∙ ap (λ (vs : List Version). let n : Numbered = record { first = record { 0 = m.last.0 + 1 }; batch = map op_of_version vs } in n) (added_versions m now count os added)

-- without them the store is as it was
pub added_back : (m now new : State) (count : ℕ) (os : List NamedOp) → HasAdded m now count os → new ≡ with_versions now (take count now.versions) → new ≡ m
added_back m now new count os added is =
    is ∙ ap (λ (s : State). with_versions s (take count s.versions)) added.is ∙ ap (with_versions m) (take_front m.versions (versions_made m m.last.0 os) count added.counted)

-- numbered, they are taken
pub added_taken : (m now new : State) (count : ℕ) (os : List NamedOp) → HasAdded m now count os → new ≡ record now { last = record { 0 = now.last.0 + length os } } → new ≡ taken m os
added_taken m now new count os added is = is ∙ ap (λ (s : State). let t : State = record s { last = record { 0 = s.last.0 + length os } } in t) added.is

-- a write that is refused leaves the course
course_stays : (m : State) (number : ℕ) (c : Course) (os : List NamedOp) (sync : Bool) (r : Reply) → IsWriteRefusal r → course_after_event m number c (Write os sync) r ≡ c
course_stays m number c os sync (replies.OkAt n) refusal = absurd refusal
course_stays m number c os sync replies.Fault refusal = absurd refusal
course_stays m number c os sync r refusal = refl

pub refused_same : (old new : State) (os : List NamedOp) (found : Option Reply) (r : Reply) → found ≡ Some r → IsAdmitted old os found new → new ≡ old
refused_same old new os found r some is_allowed = subst (λ (f : Option Reply). IsAdmitted old os f new) some is_allowed

pub refused_told : (m : State) (os : List NamedOp) (found : Option Reply) (r : Reply) → m.halted ≡ None → found ≡ refusal_of m os → found ≡ Some r → r ≡ reply_of_write m os
refused_told m os found r works is some = ap (accepted_unless (m.last.0 + length os)) (sym some) ∙ reply_found m os found works is

-- ---- steps

module _ {F : Type 0} (g : Ghosts F) where
  pub step_at : (old new : Wal F g) (m m' n n' : State) (number : ℕ) (event : Event) (reply : Reply) → m ≡ m' → n ≡ n' → IsStep g old new m' n' number event reply → IsStep g old new m n number event reply
  step_at old new m m' n n' number event reply first second step =
      subst (λ (s : State). IsStep g old new s n number event reply) (sym first) (subst (λ (s : State). IsStep g old new m' s number event reply) (sym second) step)

  -- a write is taken
  pub step_taken : (old new : Wal F g) (m : State) (number : ℕ) (os : List NamedOp) (sync : Bool) → m.halted ≡ None → replies.OkAt (m.last.0 + length os) ≡ reply_of_write m os → IsInStep g old m
      → IsLogged g old new (numbered_of m os) sync (Ok tt) → IsStep g old new m (taken m os) number (Write os sync) (replies.OkAt (m.last.0 + length os))
  step_taken old new m number os sync works told in_step logged =
      let next : m.last.0 + 1 + length (map op_of_version (versions_made m m.last.0 os)) ≡ m.last.0 + length os + 1 = omega (arith, length-ops m m.last.0 os) in
      record {
        legal = inl told;
        after_is = refl;
        built = tt;
        in_step = record { ready = λ _. subst (HasRoom g new) next logged.goes_on.0; sizes = ap length logged.sizes ∙ in_step.sizes };
        cause = logged.goes_on.1;
        later = logged.later;
        same = logged.same;
        sizes = logged.sizes;
        keeps_on = write_on g old new m number os sync works logged;
        puts_off = logged.put_off;
      }

  -- the disk fails under a write
  pub step_failed : (old new : Wal F g) (m : State) (number : ℕ) (os : List NamedOp) (sync : Bool) → m.halted ≡ None → replies.OkAt (m.last.0 + length os) ≡ reply_of_write m os → IsInStep g old m
      → IsLogged g old new (numbered_of m os) sync (Err DiskFault) → IsStep g old new m (halted_at m number) number (Write os sync) replies.Fault
  step_failed old new m number os sync works told in_step logged = record {
    legal = inr (inr (refl, sym told));
    after_is = refl;
    built = tt;
    in_step = record { ready = λ wrong. absurd (none-some number (sym wrong)); sizes = ap length logged.sizes ∙ in_step.sizes };
    cause = logged.goes_on;
    later = logged.later;
    same = logged.same;
    sizes = logged.sizes;
    keeps_on = write_fails g old new m number os sync works (told ∙ sym (same_admitted m os)) logged;
    puts_off = logged.put_off;
  }

  -- memory runs out under a write
  pub step_unlogged : ((x : F) (image : Image) → g.left_since x (g.moment x) image → g.may_leave x image) → (old new : Wal F g) (m : State) (number : ℕ) (os : List NamedOp) (sync : Bool) → IsInStep g old m
      → IsLogged g old new (numbered_of m os) sync (Err NoMemory) → IsStep g old new m m number (Write os sync) replies.NoMemory
  step_unlogged only_now old new m number os sync in_step logged = record {
    legal = inr (inl (refl, refl));
    after_is = refl;
    built = tt;
    in_step = record { ready = λ _. logged.goes_on.0; sizes = ap length logged.sizes ∙ in_step.sizes };
    cause = ap g.faults logged.goes_on.1;
    later = logged.later;
    same = logged.same;
    sizes = logged.sizes;
    keeps_on = still_on g only_now old new m number (Write os sync) replies.NoMemory (λ c. refl) logged.goes_on.1 (holds_still sync logged.holds);
    puts_off = logged.put_off;
  }
    where
      holds_still : (sync : Bool) → ((bs ws : List Numbered) → Holds g old bs ws → HoldsLogged g new bs ws (numbered_of m os) sync (Err NoMemory)) → (bs ws : List Numbered) → Holds g old bs ws → Holds g new bs ws
      holds_still true holds = holds
      holds_still false holds = holds

  -- a write is refused
  pub step_refused : ((x : F) (image : Image) → g.left_since x (g.moment x) image → g.may_leave x image) → (wal : Wal F g) (m n : State) (number : ℕ) (os : List NamedOp) (sync : Bool) (r : Reply) → n ≡ m → IsInStep g wal m → r ≡ reply_of_write m os → IsWriteRefusal r
      → IsStep g wal wal m n number (Write os sync) r
  step_refused only_now wal m n number os sync r same in_step told refusal = step_at wal wal m m n m number (Write os sync) r refl same
      (record {
        legal = inl told;
        after_is = sym (refusal_leaves m number os sync r refusal);
        built = refusal_built r refusal;
        in_step = in_step;
        cause = subst (IsStepCause (g.faults (wal_file wal)) (g.faults (wal_file wal))) (sym (refusal_sound r refusal)) refl;
        later = omega arith;
        same = record { name = refl; told = refl; model = refl };
        sizes = refl;
        keeps_on = still_on g only_now wal wal m number (Write os sync) r (λ c. course_stays m number c os sync r refusal) refl (λ bs ws holds. holds);
        puts_off = λ _ _. refl;
      })

  -- the store isn't halted, and a write was admitted and then logged with this result
  pub record Logs (old new : Wal F g) (m plain now : State) (count : ℕ) (os : List NamedOp) (sync : Bool) (result : Result (Unit {0}) LogFault) : Type 0 where
    pub state_is : m ≡ plain
    pub works : plain.halted ≡ None
    pub added : HasAdded plain now count os
    pub told : replies.OkAt (plain.last.0 + length os) ≡ reply_of_write plain os
    pub logged : IsLogged g old new (batch_behind now count) sync result
    pub in_step : IsInStep g old m

  -- by what the calls told
  pub is_logged : (old new : Wal F g) (plain now : State) (halted : Option ℕ) (count : ℕ) (os : List NamedOp) (found : Option Reply) (sync : Bool) (told result : Result (Unit {0}) LogFault)
      → halted ≡ None → plain.halted ≡ None → found ≡ None → IsAdmitted plain os found now → found ≡ refusal_of plain os → count ≡ length plain.versions
      → told ≡ result → IsLogged g old new (batch_behind now count) sync told → IsInStep g old (record plain { halted = halted }) → Logs old new (record plain { halted = halted }) plain now count os sync result
  is_logged old new plain now halted count os found sync told result open_now works none is_allowed refusal counted is logged in_step = record {
    state_is = ap (λ (h : Option ℕ). let s : State = record plain { halted = h } in s) (open_now ∙ sym works);
    works = works;
    added = is_added plain now count os found none is_allowed counted;
    told = ap (accepted_unless (plain.last.0 + length os)) (sym none) ∙ reply_found plain os found works refusal;
    logged = subst (IsLogged g old new (batch_behind now count) sync) is logged;
    in_step = in_step;
  }

  logs_batch : (old new : Wal F g) (m plain now : State) (count : ℕ) (os : List NamedOp) (sync : Bool) (result : Result (Unit {0}) LogFault) → Logs old new m plain now count os sync result → IsLogged g old new (numbered_of plain os) sync result
  logs_batch old new m plain now count os sync result logs =
      subst (λ (n : Numbered). IsLogged g old new n sync result) (added_behind plain now count os logs.added) logs.logged

  logs_in_step : (old new : Wal F g) (m plain now : State) (count : ℕ) (os : List NamedOp) (sync : Bool) (result : Result (Unit {0}) LogFault) → Logs old new m plain now count os sync result → IsInStep g old plain
  logs_in_step old new m plain now count os sync result logs = subst (IsInStep g old) logs.state_is logs.in_step

  pub logs_taken : (old new : Wal F g) (m plain now after_it n : State) (count number : ℕ) (os : List NamedOp) (sync : Bool) (reply : Reply) → Logs old new m plain now count os sync (Ok tt)
      → after_it ≡ record now { last = record { 0 = now.last.0 + length os } } → reply ≡ replies.OkAt (now.last.0 + length os) → n ≡ record after_it { halted = None } → IsStep g old new m n number (Write os sync) reply
  logs_taken old new m plain now after_it n count number os sync reply logs is told n_is =
      let last : now.last.0 ≡ plain.last.0 = ap (λ (s : State). s.last.0) logs.added.is in
      let said : reply ≡ replies.OkAt (plain.last.0 + length os) = told ∙ ap (λ (k : ℕ). replies.OkAt (k + length os)) last in
      let state : n ≡ taken plain os =
      n_is ∙ ap (λ (s : State). let t : State = record s { halted = None } in t) (added_taken plain now after_it count os logs.added is)
      ∙ ap (λ (h : Option ℕ). let t : State = record (taken plain os) { halted = h } in t) (sym logs.works) in
      step_at old new m plain n (taken plain os) number (Write os sync) reply logs.state_is state
      (subst (IsStep g old new plain (taken plain os) number (Write os sync)) (sym said)
      (step_taken old new plain number os sync logs.works logs.told (logs_in_step old new m plain now count os sync (Ok tt) logs) (logs_batch old new m plain now count os sync (Ok tt) logs)))

  pub logs_nothing : ((x : F) (image : Image) → g.left_since x (g.moment x) image → g.may_leave x image) → (old new : Wal F g) (m plain now back n : State) (count number : ℕ) (os : List NamedOp) (sync : Bool) → Logs old new m plain now count os sync (Err NoMemory)
      → back ≡ with_versions now (take count now.versions) → n ≡ record back { halted = None } → IsStep g old new m n number (Write os sync) replies.NoMemory
  logs_nothing only_now old new m plain now back n count number os sync logs is n_is =
      let state : n ≡ plain =
      n_is ∙ ap (λ (s : State). let t : State = record s { halted = None } in t) (added_back plain now back count os logs.added is)
      ∙ ap (λ (h : Option ℕ). let t : State = record plain { halted = h } in t) (sym logs.works) in
      step_at old new m plain n plain number (Write os sync) replies.NoMemory logs.state_is state
      (step_unlogged only_now old new plain number os sync (logs_in_step old new m plain now count os sync (Err NoMemory) logs) (logs_batch old new m plain now count os sync (Err NoMemory) logs))

  pub logs_failed : (old new : Wal F g) (m plain now back : State) (count number : ℕ) (os : List NamedOp) (sync : Bool) → Logs old new m plain now count os sync (Err DiskFault)
      → back ≡ with_versions now (take count now.versions) → IsStep g old new m (halted_at back number) number (Write os sync) replies.Fault
  logs_failed old new m plain now back count number os sync logs is =
      let state : halted_at back number ≡ halted_at plain number = ap (λ (s : State). halted_at s number) (added_back plain now back count os logs.added is) in
      step_at old new m plain (halted_at back number) (halted_at plain number) number (Write os sync) replies.Fault logs.state_is state
      (step_failed old new plain number os sync logs.works logs.told (logs_in_step old new m plain now count os sync (Err DiskFault) logs) (logs_batch old new m plain now count os sync (Err DiskFault) logs))

  -- all is synced
  pub step_synced : (old new : Wal F g) (m : State) (number : ℕ) → m.halted ≡ None → IsInStep g old m → MayGoOn g new (m.last.0 + 1) → wal_pending new < PENDING_LIMIT → g.faults (wal_file new) ≡ g.faults (wal_file old) → IsSameFile g (wal_file old) (wal_file new) → wal_sizes new ≡ wal_sizes old
      → ((bs ws : List Numbered) → Holds g old bs ws → Holds g new (bs ++ ws) []) → ((bs ws : List Numbered) → Holds g old bs ws → Leaves g (wal_file old) (wal_file new) (IsBeforeOrAfter (wal_sizes old) bs ws))
      → IsStep g old new m m number Sync replies.Done
  step_synced old new m number works in_step next room faults same sizes holds run = record {
    legal = inl (ap (λ (h : Option ℕ). done_unless (option_map replies.Halted h)) (sym works));
    after_is = refl;
    built = tt;
    in_step = record { ready = λ _. record { next = next; room = room }; sizes = ap length sizes ∙ in_step.sizes };
    cause = faults;
    later = omega (arith, faults);
    same = same;
    sizes = sizes;
    keeps_on = sync_on g old new m number works sizes holds run;
    puts_off = tt;
  }

  -- the disk fails under a sync
  pub step_sync_failed : (old new : Wal F g) (m : State) (number : ℕ) → m.halted ≡ None → IsInStep g old m → Rose (g.faults (wal_file old)) (g.faults (wal_file new)) → g.faults (wal_file old) ≤ g.faults (wal_file new) → IsSameFile g (wal_file old) (wal_file new) → wal_sizes new ≡ wal_sizes old
      → ((bs ws : List Numbered) → Holds g old bs ws → Leaves g (wal_file old) (wal_file new) (IsBeforeOrAfter (wal_sizes old) bs ws)) → IsStep g old new m (halted_at m number) number Sync replies.Fault
  step_sync_failed old new m number works in_step rose later same sizes run = record {
    legal = inr (inr (refl, works));
    after_is = refl;
    built = tt;
    in_step = record { ready = λ wrong. absurd (none-some number (sym wrong)); sizes = ap length sizes ∙ in_step.sizes };
    cause = rose;
    later = later;
    same = same;
    sizes = sizes;
    keeps_on = sync_fails_on g old new m number works run;
    puts_off = tt;
  }

pub none_left : (h : Option ℕ) → ((n : ℕ) → h ≡ Some n → ⊥) → h ≡ None
none_left None wrong = refl
none_left (Some n) wrong = absurd (wrong n refl)

-- a get that is built has no snapshot
pub no_snapshot : (family key : List ℕ) (t : Ts) (snap : Option (List ℕ)) → IsBuilt (Get family key t snap) → snap ≡ None
no_snapshot family key t None built = refl
no_snapshot family key t (Some name) built = absurd built
