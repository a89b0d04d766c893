-- Runs of calls on a file: how they begin, go on, and follow one another.
use Rattle.std.proofs.Common.{◌≡◌, inl, inr, ⊎_elim, ℕ, refl, ◌∙◌, arith}
use Rattle.udt_disk.specs.Crash.{Image, Tears, ComeBy, NoMore, Elapses}
use Rattle.udt_disk.specs.Runs.{Leaves, MayTear, IsOnlyRead}
use Rattle.udt_disk.specs.declared.file.DiskFile.{Ghosts}

module _ {F : Type 0} (g : Ghosts F) where
  -- before the first call
  pub started : (old : F) (P : Image → Type 0) → ((c : Image) → g.may_leave old c → P c) → ((c : Image) → g.left_since old (g.moment old) c → g.may_leave old c) → Leaves g old old P
  started old P here only_now = record { later = omega arith; each = λ c left. here c (only_now c left); now = here; before = λ t c le left. inl left }

  -- one call more, after which a crash leaves what has P
  pub goes_on : (old mid new : F) (P : Image → Type 0) → Leaves g old mid P → Elapses (g.moment mid) (g.moment new) (g.left_since mid) (g.left_since new) (g.may_leave new) → ((c : Image) → g.may_leave new c → P c) → Leaves g old new P
  goes_on old mid new P so_far time here = record {
    later = omega (arith, so_far.later, time.later);
    each = λ c left. ⊎_elim (so_far.each c) (here c) (time.nothing_else (g.moment old) c so_far.later left);
    now = here;
    before = λ t c le left. ⊎_elim (so_far.before t c le) (λ now. inr (here c now)) (time.nothing_else t c (omega (arith, le, so_far.later)) left);
  }

  -- one run after another
  pub run_then : (old mid new : F) (P : Image → Type 0) → Leaves g old mid P → Leaves g mid new P → Leaves g old new P
  run_then old mid new P first second = record {
    later = omega (arith, first.later, second.later);
    each = λ c left. ⊎_elim (first.each c) (λ here. here) (second.before (g.moment old) c first.later left);
    now = second.now;
    before = λ t c le left. ⊎_elim (first.before t c le) inr (second.before t c (omega (arith, le, first.later)) left);
  }

  -- what leaves only images that have P leaves only those that have what follows from P
  pub run_weaker : (old new : F) (P Q : Image → Type 0) → ((c : Image) → P c → Q c) → Leaves g old new P → Leaves g old new Q
  run_weaker old new P Q weaker run = record {
    later = run.later;
    each = λ c left. weaker c (run.each c left);
    now = λ c left. weaker c (run.now c left);
    before = λ t c le left. ⊎_elim inl (λ has. inr (weaker c has)) (run.before t c le left);
  }

  -- ---- reads

  -- no call
  pub no_read : (x : F) → ((c : Image) → g.left_since x (g.moment x) c → g.may_leave x c) → IsOnlyRead g x x
  no_read x only_now = record {
    seen = refl;
    no_more = λ c left. left;
    moments = started x (g.may_leave x) (λ c left. left) only_now;
    name = refl;
    told = refl;
    model = refl;
  }

  -- one call
  pub one_read : (old new : F) → ((c : Image) → g.left_since old (g.moment old) c → g.may_leave old c) → g.seen new ≡ g.seen old → NoMore (g.may_leave old) (g.may_leave new)
      → Elapses (g.moment old) (g.moment new) (g.left_since old) (g.left_since new) (g.may_leave new) → g.name new ≡ g.name old → g.is_told new ≡ g.is_told old → g.keeps_model new ≡ g.keeps_model old → IsOnlyRead g old new
  one_read old new only_now seen no_more time name told model = record {
    seen = seen;
    no_more = no_more;
    moments = goes_on old old new (g.may_leave old) (started old (g.may_leave old) (λ c left. left) only_now) time no_more;
    name = name;
    told = told;
    model = model;
  }

  -- one after another
  pub read_then : (old mid new : F) → IsOnlyRead g old mid → IsOnlyRead g mid new → IsOnlyRead g old new
  read_then old mid new first second = record {
    seen = second.seen ∙ first.seen;
    no_more = λ c left. first.no_more c (second.no_more c left);
    moments = run_then old mid new (g.may_leave old) first.moments (run_weaker mid new (g.may_leave mid) (g.may_leave old) first.no_more second.moments);
    name = second.name ∙ first.name;
    told = second.told ∙ first.told;
    model = second.model ∙ first.model;
  }

  -- ---- writes

  -- a write, and a sync after it
  pub write_and_sync : (at n : ℕ) (old mid new : F) → ((c : Image) → g.left_since old (g.moment old) c → g.may_leave old c) → ComeBy (Tears at n) (g.may_leave old) (g.may_leave mid) → Elapses (g.moment old) (g.moment mid) (g.left_since old) (g.left_since mid) (g.may_leave mid)
      → NoMore (g.may_leave mid) (g.may_leave new) → Elapses (g.moment mid) (g.moment new) (g.left_since mid) (g.left_since new) (g.may_leave new) → Leaves g old new (MayTear at n (g.may_leave old))
  write_and_sync at n old mid new only_now follows time no_more time_after =
      let P = MayTear at n (g.may_leave old) in
      let begun = started old P (λ c left. inl left) only_now in
      let written = goes_on old old mid P begun time (λ c left. inr (follows c left)) in
      goes_on old mid new P written time_after (λ c left. inr (follows c (no_more c left)))
