-- Each step keeps the rule.
use Rattle.std.proofs.lemmas.Bool.{ltb-true}
use Rattle.std.proofs.Math.Dec.{ltb}
use Rattle.std.proofs.Math.Nat.{mod-eq_of_lt}
use Rattle.std.proofs.Common.{◌≡◌, ◌≢◌, ℕ, zero, suc, ◌+◌, ◌%◌, ◌^◌, ◌<◌, eqb, Bool, true, false, cond, List, [], ◌∷◌, ◌++◌, length, get_or, set, sym, refl, ap, ◌∙◌, subst, ⊎_elim, arith, length-set, length-append, eq-eqb, ne_eqb, Some}
use mathlib.Core.Logic.{dite}
use mathlib.Core.Option.{some, none, some-ne-none}
use mathlib.Core.Option as maybe
use native.Mathlib.Decide.{ℕ_discrete}
use lib.ListN.{get_elem?}
use prog.Atomic.{either}
use Rattle.atomic_table.specs.Table.{State, Act, Step, step, keeps, takes, gives, stepped, Valid, carried_after, rest, Allows}
use Rattle.atomic_table.proofs.Lists.{at_set, set_again, set_else}
use Rattle.sv_gate.specs.declared.shown.Origin.{Origin}
use Rattle.sv_gate.specs.declared.rule.Content.{Content}
use Rattle.sv_gate.specs.declared.rule.Content.TheVariants.{Front, Commit}
use Rattle.sv_gate.specs.declared.rule.Knowledge.{Knowledge}
use Rattle.sv_gate.specs.Histories.{Ascends, AreLegal, made_entries, own_of, OwnersBelow, HasSeenPart}
use Rattle.sv_gate.specs.Knowledge.{SeatState, IsInOrder, with_front, without_front, with_commit, without_commit, height_of, with_entry, with_look}
use Rattle.sv_gate.specs.Rule.{Account, KnowsTruly, IsAccount, IsOneHistory, weigh}
use Rattle.sv_gate.specs.Steps.{TookFront, TookCommit, GaveFront, GaveCommit, SawHeight, Entered}
use Rattle.sv_gate.specs.Locks.{MayLock}
use Rattle.sv_gate.proofs.Histories.{own_in_order, entries_length, entries_snoc, whole, part_later, part_others, part_weaker, own_mine, own_others, legal_snoc, legal_after, below_snoc, stays_all, begin_more}

-- a compare-exchange from 0 to 1 leaves the lock taken
one_after : (n : ℕ) → n ≡ 0 → either (eqb n 0) 1 n ≢ 0
one_after n is none_left = let one = ap (λ (b : Bool). either b 1 n) (eq-eqb n 0 is) in absurd (omega arith)

same_after : (n : ℕ) → n ≢ 0 → either (eqb n 0) 1 n ≢ 0
same_after n held none_left = let same = ap (λ (b : Bool). either b 1 n) (ne_eqb n 0 held) in held (sym same ∙ none_left)

module _ {V : Type 0} where
  pub set_at : (vs : List V) (i : ℕ) (v w : V) → get_elem? vs i ≡ some v → get_elem? (set vs i w) i ≡ some w
  set_at [] i v w e = absurd (some-ne-none v (sym e))
  set_at (x ∷ xs) zero v w e = refl
  set_at (x ∷ xs) (suc i) v w e = set_at xs i v w e

  pub each_after : (K : ℕ → V → Type 0) (vs : List V) (id : ℕ) (w : V) → K id w → ((j : ℕ) (u : V) → j ≢ id → get_elem? vs j ≡ some u → K j u) → (j : ℕ) (u : V) → get_elem? (set vs id w) j ≡ some u → K j u
  each_after K vs id w mine others j u e = ⊎_elim (λ (t : (j ≡ id) × (w ≡ u)). subst (λ (x : ℕ × V). K x.0 x.1) (λ i. (sym t.0 i, t.1 i)) mine)
      (λ (t : (j ≢ id) × (get_elem? vs j ≡ some u)). others j u t.0 t.1) (at_set vs id j w u e)

  -- some view has P still, where the view that changes keeps it
  pub still : (P : V → Type 0) (vs : List V) (i id : ℕ) (v w : V) → get_elem? vs id ≡ some v → (P v → P w) → (u : V) × (get_elem? vs i ≡ some u) × P u → (u : V) × (get_elem? (set vs id w) i ≡ some u) × P u
  still P vs i id v w at on h = dite (ℕ_discrete i id)
      (λ e. let same : get_elem? vs i ≡ some v = ap (get_elem? vs) e ∙ at in let is : h.0 ≡ v = cc (h.1, same) in (w, ap (get_elem? (set vs id w)) e ∙ set_at vs id v w at, on (subst P is h.2)))
      (λ ne. (h.0, set_else vs id i w ne ∙ h.1, h.2))

  pub at_below : (vs : List V) (i : ℕ) (v : V) → get_elem? vs i ≡ some v → i < length vs
  at_below [] i v e = absurd (some-ne-none v (sym e))
  at_below (x ∷ xs) zero v e = omega arith
  at_below (x ∷ xs) (suc i) v e = let h = at_below xs i v e in omega arith

pub not_true : (b : Bool) → b ≢ true → b ≡ false
not_true true h = absurd (h refl)
not_true false h = refl

module _ {F C E : Type 0} where
  pub weigh_same : (vs : List (Knowledge F C E)) (id : ℕ) (v w : Knowledge F C E) → get_elem? vs id ≡ some v → w.weight ≡ v.weight → weigh (set vs id w) ≡ weigh vs
  weigh_same [] id v w at e = refl
  weigh_same (x ∷ xs) zero v w at e = let is : x ≡ v = (cc) in ap (λ (n : ℕ). n + weigh xs) (e ∙ ap (λ (u : Knowledge F C E). u.weight) (sym is))
  weigh_same (x ∷ xs) (suc id) v w at e = ap (λ (n : ℕ). x.weight + n) (weigh_same xs id v w at e)

module _ {F C E : Type 0} (follows : Origin F C → List E → E → Type 0) (fronts : Origin F C → F → List E → Type 0) (commits : Origin F C → C → List E → Type 0) (light : E → Type 0) (o : Origin F C) where
  abbrev pub Held : Type 0
  Held = Content F C

  abbrev pub Known : Type 0
  Known = Knowledge F C E

  abbrev pub Table : Type 0
  Table = State Held Known

  abbrev pub Rule : Table → Type 0
  Rule = IsOneHistory follows fronts commits light o

  abbrev pub Stands : Account E → maybe.Option Held → maybe.Option Held → List Known → Type 0
  Stands = IsAccount follows fronts commits light o

  abbrev pub standing : Account E → maybe.Option Held → maybe.Option Held → List Known → Table
  standing now fh ch vs = record { words = now.commit_lock ∷ now.front_lock ∷ (o.height + length now.made) ∷ []; homes = fh ∷ ch ∷ []; views = vs }

  pub opened : (P : Table → Type 0) → ((now : Account E) (fh ch : maybe.Option Held) (vs : List Known) → Stands now fh ch vs → P (standing now fh ch vs)) → (s : Table) → Rule s → P s
  opened P h s k = subst P (λ i. record { words = sym k.words i; homes = sym k.homes i; views = s.views }) (h k.now k.front k.commit s.views k.stands)

  abbrev pub AllowsAt : ℕ → ℕ → SeatState F C E → ℕ → (ℕ → ℕ) → (ℕ → SeatState F C E → Type 0) → Table → Type 0
  AllowsAt slots id me i f then s = length s.homes ≡ slots → get_elem? s.views id ≡ some me.0 → get_or s.words i 0 < 18446744073709551616
      → (w : Known) × (a : Act Held) × Valid s.homes me.1 a × Rule (stepped s i (f (get_or s.words i 0)) id me.1 w a) × then (get_or s.words i 0) (w, carried_after me.1 a)

  -- what a seat knows of its own entries is in order, as far as it has seen the history
  pub in_order : (id : ℕ) (v : Known) (now : Account E) (w : Known) → v.own ≡ own_of id o.height now.made → HasSeenPart light now.made id w.seen w.has_commit → v.base ≡ o.height → w.own ≡ v.own → w.base ≡ v.base → IsInOrder w
  in_order id v now w own part base same_own same_base = let mine = own_in_order light now.made id o.height w.seen w.has_commit part in
      let P : ℕ × List (ℕ × E) → Type 0 = λ x. Ascends (x.0 + length w.seen) x.0 x.1 in
      let b : w.base ≡ o.height = same_base ∙ base in let l : w.own ≡ own_of id o.height now.made = same_own ∙ own in
      subst P {x = (o.height, own_of id o.height now.made)} {y = (w.base, w.own)} (λ i. (sym b i, sym l i)) mine

  -- the front's lock is taken where it is free, and stays taken where it isn't
  takes_front : (slots id : ℕ) (me : SeatState F C E) (lock : ℕ → ℕ) (st : Step Held) → ((n : ℕ) → n ≡ 0 → lock n ≢ 0) → ((n : ℕ) → n ≢ 0 → lock n ≢ 0) → me.0.origin ≡ Some o → me.0.base ≡ o.height → 0 < me.0.weight
      → Allows Rule slots id me 1 lock (TookFront follows fronts commits light st me)
  takes_front slots id me lock st taken kept origin base live s k = opened (AllowsAt slots id me 1 lock (TookFront follows fronts commits light st me))
      (λ now fh ch vs stands sized at small. dite (ℕ_discrete now.front_lock 0)
      (λ free. let v : Known = me.0 in let fit = stands.each id v at in let home = stands.front_home free in let w : Known = with_front v (made_entries now.made) in let now' : Account E = record now { front_lock = lock now.front_lock; holder = id } in (
        w,
        takes 0 (Front home.0),
        ap some home.1,
        record {
          now = now';
          front = none;
          commit = ch;
          words = refl;
          homes = refl;
          stands = record {
            room = stands.room;
            legal = stands.legal;
            front_home = λ z. absurd (taken now.front_lock free z);
            commit_home = stands.commit_home;
            front_out = λ _. (w, set_at vs id v w at, refl);
            commit_out = λ h. still (λ (u : Known). u.has_commit ≡ true) vs now.committer id v w at (λ x. x) (stands.commit_out h);
            each = each_after (KnowsTruly light o now') vs id w
                record { own = fit.own; heard = fit.heard; part = whole light now.made id v.has_commit; front = λ _. (refl, taken now.front_lock free, refl); commit = fit.commit; has_room = fit.has_room; idle = λ z. absurd (omega arith) }
                (λ j u ne there. let f = stands.each j u there in record { own = f.own; heard = f.heard; part = f.part; front = λ h. absurd ((f.front h).1 free); commit = f.commit; has_room = f.has_room; idle = f.idle });
            owners = subst (λ (n : ℕ). OwnersBelow n now.made) (sym (length-set vs id w)) stands.owners;
            weights = weigh_same vs id v w at refl ∙ stands.weights;
          };
        },
        (
          λ held. absurd (held free),
          λ _ o' is. let same : o ≡ o' = cc (origin, is) in let P : Origin F C → Type 0 = λ z. fronts z home.0 (made_entries now.made) × AreLegal (follows z) [] (made_entries now.made) in let told = subst P same (home.2, stands.legal) in record {
            front = home.0;
            log = made_entries now.made;
            is = refl;
            later = part_later light now.made id v.seen v.has_commit fit.part;
            shown = told.0;
            legal = told.1;
            order = in_order id me.0 now w fit.own (whole light now.made id v.has_commit) base refl refl;
            room = λ noted. let room = (fit.has_room noted).1 in omega (arith, entries_length now.made);
          },
        ),
      ))
      (λ held. let v : Known = me.0 in let now' : Account E = record now { front_lock = lock now.front_lock } in (
        v,
        keeps,
        tt,
        record {
          now = now';
          front = fh;
          commit = ch;
          words = refl;
          homes = refl;
          stands = subst (Stands now' fh ch) (sym (set_again vs id v at)) record {
            room = stands.room;
            legal = stands.legal;
            front_home = λ z. absurd (kept now.front_lock held z);
            commit_home = stands.commit_home;
            front_out = λ _. stands.front_out held;
            commit_out = stands.commit_out;
            each = λ j u there. let f = stands.each j u there in record { own = f.own; heard = f.heard; part = f.part; front = λ h. let g = f.front h in (g.0, kept now.front_lock held, g.2); commit = f.commit; has_room = f.has_room; idle = f.idle };
            owners = stands.owners;
            weights = stands.weights;
          };
        },
        (λ _. refl, λ free. absurd (held free)),
      )))
      s k

  pub locks_front : (slots id : ℕ) (me : SeatState F C E) → me.0.origin ≡ Some o → me.0.base ≡ o.height → 0 < me.0.weight → MayLock Rule slots 1 id me (TookFront follows fronts commits light)
  locks_front slots id me origin base live = record {
    tries = takes_front slots id me (λ n. either (eqb n 0) 1 n) (step slots 1 0 1 none) one_after same_after origin base live;
    waits = takes_front slots id me (λ _. 2) (step slots 1 2 0 none) (λ n z e. absurd (omega arith)) (λ n z e. absurd (omega arith)) origin base live;
    missed = λ st n after held told. told.0 held;
  }

  -- the front goes home, and its lock is free
  pub gives_front : (slots id : ℕ) (me : SeatState F C E) (f : F) → 0 < me.0.weight → me.0.has_front ≡ true → me.1 ≡ (0, Front f) ∷ rest me.1 → fronts o f me.0.seen
      → Allows Rule slots id me 1 (λ _. 0) (GaveFront (step slots 1 0 0 none) me)
  gives_front slots id me f live has holds shows s k = opened (AllowsAt slots id me 1 (λ _. 0) (GaveFront (step slots 1 0 0 none) me))
      (λ now fh ch vs stands sized at small. let v : Known = me.0 in let fit = stands.each id v at in let mine = fit.front has in let w : Known = without_front v in let now' : Account E = record now { front_lock = 0 } in
      let P : List (ℕ × Held) → Type 0 = λ c. Valid (fh ∷ ch ∷ []) c gives × Rule (stepped (standing now fh ch vs) 1 0 id c w gives) in
      let kept : P ((0, Front f) ∷ rest me.1) = (
        tt,
        record {
          now = now';
          front = some (Front f);
          commit = ch;
          words = refl;
          homes = refl;
          stands = record {
            room = stands.room;
            legal = stands.legal;
            front_home = λ _. (f, refl, subst (fronts o f) mine.2 shows);
            commit_home = stands.commit_home;
            front_out = λ h. absurd (h refl);
            commit_out = λ h. still (λ (u : Known). u.has_commit ≡ true) vs now.committer id v w at (λ x. x) (stands.commit_out h);
            each = each_after (KnowsTruly light o now') vs id w
                record { own = fit.own; heard = fit.heard; part = fit.part; front = λ z. absurd (cc); commit = fit.commit; has_room = fit.has_room; idle = λ z. absurd (omega arith) }
                (λ j u ne there. let g = stands.each j u there in record { own = g.own; heard = g.heard; part = g.part; front = λ h. absurd (ne ((g.front h).0 ∙ sym mine.0)); commit = g.commit; has_room = g.has_room; idle = g.idle });
            owners = subst (λ (n : ℕ). OwnersBelow n now.made) (sym (length-set vs id w)) stands.owners;
            weights = weigh_same vs id v w at refl ∙ stands.weights;
          };
        },
      ) in let done = subst P (sym holds) kept in (w, gives, done.0, done.1, refl))
      s k

  -- a look at the height
  pub sees : (slots id : ℕ) (me : SeatState F C E) → me.0.base ≡ o.height → 0 < me.0.weight → me.0.has_front ≡ true → Allows Rule slots id me 2 (λ n. n) (SawHeight (step slots 2 0 0 none) me)
  sees slots id me base live has s k = opened (AllowsAt slots id me 2 (λ n. n) (SawHeight (step slots 2 0 0 none) me))
      (λ now fh ch vs stands sized at small. let v : Known = me.0 in let fit = stands.each id v at in let mine = fit.front has in let w : Known = with_look v in
      let long : height_of v ≡ o.height + length now.made = let l = ap length mine.2 ∙ entries_length now.made in omega arith in (
        w,
        keeps,
        tt,
        record {
          now = now;
          front = fh;
          commit = ch;
          words = refl;
          homes = refl;
          stands = record {
            room = stands.room;
            legal = stands.legal;
            front_home = stands.front_home;
            commit_home = stands.commit_home;
            front_out = λ h. still (λ (u : Known). u.has_front ≡ true) vs now.holder id v w at (λ x. x) (stands.front_out h);
            commit_out = λ h. still (λ (u : Known). u.has_commit ≡ true) vs now.committer id v w at (λ x. x) (stands.commit_out h);
            each = each_after (KnowsTruly light o now) vs id w
                record {
                  own = fit.own;
                  heard = fit.heard;
                  part = fit.part;
                  front = fit.front;
                  commit = fit.commit;
                  has_room = (elim (ltb (height_of v) (2 ^ 63)) as (λ b. (ltb (height_of v) (2 ^ 63) ≡ b) → cond b v.has_commit v.has_room ≡ true → (v.has_commit ≡ true) × (o.height + length now.made < 2 ^ 63))
                      [ true ↦ λ low h. (h, let l = ltb-true (height_of v) (2 ^ 63) low in omega arith) | false ↦ λ _ h. fit.has_room h ]) refl;
                  idle = λ z. absurd (omega arith);
                }
                (λ j u ne there. stands.each j u there);
            owners = subst (λ (n : ℕ). OwnersBelow n now.made) (sym (length-set vs id w)) stands.owners;
            weights = weigh_same vs id v w at refl ∙ stands.weights;
          };
        },
        (sym long, refl, stands.room),
      ))
      s k

  -- the height rises by one
  pub enters : ((c : C) (log : List E) (e : E) → commits o c log → follows o log e → light e → commits o c (log ++ e ∷ [])) → (slots id : ℕ) (me : SeatState F C E) (es : List E) (e : E) → es ≡ e ∷ [] → me.0.base ≡ o.height → 0 < me.0.weight
      → me.0.has_front ≡ true → height_of me.0 < 2 ^ 63 → (me.0.has_commit ≡ false → (height_of me.0 + 1 < 2 ^ 63) × light e) → follows o me.0.seen e
      → Allows Rule slots id me 2 (λ n. (n + 1) % 2 ^ 64) (Entered es (step slots 2 1 0 none) me)
  enters stays slots id me es e one base live has room alone legal s k = opened (AllowsAt slots id me 2 (λ n. (n + 1) % 2 ^ 64) (Entered es (step slots 2 1 0 none) me))
      (λ now fh ch vs stands sized at small. let v : Known = me.0 in let fit = stands.each id v at in let mine = fit.front has in let w : Known = with_entry v e in
      let made' : List (ℕ × E) = now.made ++ (id, e) ∷ [] in let now' : Account E = record now { made = made' } in
      let long : height_of v ≡ o.height + length now.made = let l = ap length mine.2 ∙ entries_length now.made in omega arith in
      let more : length made' ≡ length now.made + 1 = length-append now.made ((id, e) ∷ []) in
      let after : made_entries made' ≡ made_entries now.made ++ e ∷ [] = entries_snoc now.made id e in
      let seen' : v.seen ++ e ∷ [] ≡ made_entries made' = ap (λ (l : List E). l ++ e ∷ []) mine.2 ∙ sym after in
      let follow : follows o (made_entries now.made) e = subst (λ (l : List E). follows o l e) mine.2 legal in (
        w,
        keeps,
        tt,
        record {
          now = now';
          front = fh;
          commit = ch;
          words = ap (λ (x : ℕ). now.commit_lock ∷ now.front_lock ∷ x ∷ []) (mod-eq_of_lt {n = o.height + length now.made + 1} {m = 2 ^ 64} (omega arith) ∙ omega arith);
          homes = refl;
          stands = record {
            room = omega arith;
            legal = subst (AreLegal (follows o) []) (sym after) (legal_snoc (follows o) [] (made_entries now.made) e stands.legal follow);
            front_home = λ z. absurd (mine.1 z);
            commit_home = λ z. let home = stands.commit_home z in let no : v.has_commit ≡ false = not_true v.has_commit (λ h. (fit.commit h).1 z) in
                (home.0, home.1, subst (commits o home.0) (sym after) (stays home.0 (made_entries now.made) e home.2 follow (alone no).1));
            front_out = λ h. still (λ (u : Known). u.has_front ≡ true) vs now.holder id v w at (λ x. x) (stands.front_out h);
            commit_out = λ h. still (λ (u : Known). u.has_commit ≡ true) vs now.committer id v w at (λ x. x) (stands.commit_out h);
            each = each_after (KnowsTruly light o now') vs id w
                record {
                  own = ap (λ (l : List (ℕ × E)). l ++ (height_of v + 1, e) ∷ []) fit.own ∙ (ap (λ (n : ℕ). own_of id o.height now.made ++ (n + 1, e) ∷ []) long ∙ sym (own_mine id o.height e now.made));
                  heard = begin_more (made_entries now.made) (e ∷ []) v.heard (made_entries made') after fit.heard;
                  part = subst (λ (l : List E). HasSeenPart light made' id l v.has_commit) (sym seen') (whole light made' id v.has_commit);
                  front = λ _. (mine.0, mine.1, seen');
                  commit = fit.commit;
                  has_room = λ z. absurd (cc);
                  idle = λ z. absurd (omega arith);
                }
                (λ j u ne there. let g = stands.each j u there in let apart : u.has_commit ≡ true → v.has_commit ≡ false = λ h. not_true v.has_commit (λ x. ne ((g.commit h).0 ∙ sym (fit.commit x).0)) in record {
                  own = g.own ∙ sym (own_others j o.height id e now.made (λ x. ne (sym x)));
                  heard = begin_more (made_entries now.made) (e ∷ []) u.heard (made_entries made') after g.heard;
                  part = part_others light now.made j id e u.seen u.has_commit (λ x. ne (sym x)) (λ h. (alone (apart h)).1) g.part;
                  front = λ h. absurd (ne ((g.front h).0 ∙ sym mine.0));
                  commit = g.commit;
                  has_room = λ h. let n = g.has_room h in (n.0, let a = (alone (apart n.0)).0 in omega arith);
                  idle = g.idle;
                });
            owners = subst (λ (n : ℕ). OwnersBelow n made') (sym (length-set vs id w)) (below_snoc (length vs) now.made (id, e) stands.owners (at_below vs id v at));
            weights = weigh_same vs id v w at refl ∙ stands.weights;
          };
        },
        (sym long, λ e' is. let same : e ≡ e' = cc (one, is) in ap (λ (x : E). (let r : SeatState F C E = (with_entry v x, me.1) in r)) same),
      ))
      s k

  -- the commit's lock is taken where it is free, and stays taken where it isn't
  takes_commit : (slots id : ℕ) (me : SeatState F C E) (lock : ℕ → ℕ) (st : Step Held) → ((n : ℕ) → n ≡ 0 → lock n ≢ 0) → ((n : ℕ) → n ≢ 0 → lock n ≢ 0) → me.0.origin ≡ Some o → me.0.base ≡ o.height → 0 < me.0.weight
      → Allows Rule slots id me 0 lock (TookCommit follows fronts commits light st me)
  takes_commit slots id me lock st taken kept origin base live s k = opened (AllowsAt slots id me 0 lock (TookCommit follows fronts commits light st me))
      (λ now fh ch vs stands sized at small. dite (ℕ_discrete now.commit_lock 0)
      (λ free. let v : Known = me.0 in let fit = stands.each id v at in let home = stands.commit_home free in let w : Known = with_commit v (made_entries now.made) in let now' : Account E = record now { commit_lock = lock now.commit_lock; committer = id } in
      let later = part_later light now.made id v.seen v.has_commit fit.part in (
        w,
        takes 1 (Commit home.0),
        ap some home.1,
        record {
          now = now';
          front = fh;
          commit = none;
          words = refl;
          homes = refl;
          stands = record {
            room = stands.room;
            legal = stands.legal;
            front_home = stands.front_home;
            commit_home = λ z. absurd (taken now.commit_lock free z);
            front_out = λ h. still (λ (u : Known). u.has_front ≡ true) vs now.holder id v w at (λ x. x) (stands.front_out h);
            commit_out = λ _. (w, set_at vs id v w at, refl);
            each = each_after (KnowsTruly light o now') vs id w
                record { own = fit.own; heard = fit.heard; part = whole light now.made id true; front = λ h. let f = fit.front h in (f.0, f.1, refl); commit = λ _. (refl, taken now.commit_lock free); has_room = λ z. absurd (cc); idle = λ z. absurd (omega arith) }
                (λ j u ne there. let f = stands.each j u there in record { own = f.own; heard = f.heard; part = f.part; front = f.front; commit = λ h. absurd ((f.commit h).1 free); has_room = λ h. absurd ((f.commit (f.has_room h).0).1 free); idle = f.idle });
            owners = subst (λ (n : ℕ). OwnersBelow n now.made) (sym (length-set vs id w)) stands.owners;
            weights = weigh_same vs id v w at refl ∙ stands.weights;
          };
        },
        (
          λ held. absurd (held free),
          λ _ o' is. let same : o ≡ o' = cc (origin, is) in let P : Origin F C → Type 0 = λ z. commits z home.0 (made_entries now.made) × AreLegal (follows z) [] (made_entries now.made) in let told = subst P same (home.2, stands.legal) in record {
            commit = home.0;
            log = made_entries now.made;
            is = refl;
            later = (later.others, later.is);
            shown = told.0;
            legal = told.1;
            order = in_order id me.0 now w fit.own (whole light now.made id true) base refl refl;
          },
        ),
      ))
      (λ held. let v : Known = me.0 in let now' : Account E = record now { commit_lock = lock now.commit_lock } in (
        v,
        keeps,
        tt,
        record {
          now = now';
          front = fh;
          commit = ch;
          words = refl;
          homes = refl;
          stands = subst (Stands now' fh ch) (sym (set_again vs id v at)) record {
            room = stands.room;
            legal = stands.legal;
            front_home = stands.front_home;
            commit_home = λ z. absurd (kept now.commit_lock held z);
            front_out = stands.front_out;
            commit_out = λ _. stands.commit_out held;
            each = λ j u there. let f = stands.each j u there in record { own = f.own; heard = f.heard; part = f.part; front = f.front; commit = λ h. let g = f.commit h in (g.0, kept now.commit_lock held); has_room = f.has_room; idle = f.idle };
            owners = stands.owners;
            weights = stands.weights;
          };
        },
        (λ _. refl, λ free. absurd (held free)),
      )))
      s k

  pub locks_commit : (slots id : ℕ) (me : SeatState F C E) → me.0.origin ≡ Some o → me.0.base ≡ o.height → 0 < me.0.weight → MayLock Rule slots 0 id me (TookCommit follows fronts commits light)
  locks_commit slots id me origin base live = record {
    tries = takes_commit slots id me (λ n. either (eqb n 0) 1 n) (step slots 0 0 1 none) one_after same_after origin base live;
    waits = takes_commit slots id me (λ _. 2) (step slots 0 2 0 none) (λ n z e. absurd (omega arith)) (λ n z e. absurd (omega arith)) origin base live;
    missed = λ st n after held told. told.0 held;
  }

  -- the commit goes home, and its lock is free
  pub gives_commit : ((c : C) (log : List E) (e : E) → commits o c log → follows o log e → light e → commits o c (log ++ e ∷ [])) → (slots id : ℕ) (me : SeatState F C E) (c : C) → 0 < me.0.weight → me.0.has_commit ≡ true
      → me.1 ≡ (1, Commit c) ∷ rest me.1 → commits o c me.0.seen → Allows Rule slots id me 0 (λ _. 0) (GaveCommit (step slots 0 0 0 none) me)
  gives_commit stays slots id me c live has holds shows s k = opened (AllowsAt slots id me 0 (λ _. 0) (GaveCommit (step slots 0 0 0 none) me))
      (λ now fh ch vs stands sized at small. let v : Known = me.0 in let fit = stands.each id v at in let mine = fit.commit has in let w : Known = without_commit v in let now' : Account E = record now { commit_lock = 0 } in
      let later = part_later light now.made id v.seen v.has_commit fit.part in
      let legal : AreLegal (follows o) v.seen later.others = legal_after (follows o) [] v.seen later.others (subst (AreLegal (follows o) []) later.is stands.legal) in
      let all : commits o c (made_entries now.made) = subst (commits o c) (sym later.is) (stays_all (follows o) (commits o) light stays c v.seen later.others shows legal (later.are_light has)) in
      let P : List (ℕ × Held) → Type 0 = λ l. Valid (fh ∷ ch ∷ []) l gives × Rule (stepped (standing now fh ch vs) 0 0 id l w gives) in
      let kept : P ((1, Commit c) ∷ rest me.1) = (
        tt,
        record {
          now = now';
          front = fh;
          commit = some (Commit c);
          words = refl;
          homes = refl;
          stands = record {
            room = stands.room;
            legal = stands.legal;
            front_home = stands.front_home;
            commit_home = λ _. (c, refl, all);
            front_out = λ h. still (λ (u : Known). u.has_front ≡ true) vs now.holder id v w at (λ x. x) (stands.front_out h);
            commit_out = λ h. absurd (h refl);
            each = each_after (KnowsTruly light o now') vs id w
                record { own = fit.own; heard = fit.heard; part = part_weaker light now.made id v.seen v.has_commit fit.part; front = fit.front; commit = λ z. absurd (cc); has_room = λ z. absurd (cc); idle = λ z. absurd (omega arith) }
                (λ j u ne there. let g = stands.each j u there in record { own = g.own; heard = g.heard; part = g.part; front = g.front; commit = λ h. absurd (ne ((g.commit h).0 ∙ sym mine.0)); has_room = λ h. absurd (ne ((g.commit (g.has_room h).0).0 ∙ sym mine.0)); idle = g.idle });
            owners = subst (λ (n : ℕ). OwnersBelow n now.made) (sym (length-set vs id w)) stands.owners;
            weights = weigh_same vs id v w at refl ∙ stands.weights;
          };
        },
      ) in let done = subst P (sym holds) kept in (w, gives, done.0, done.1, refl))
      s k
