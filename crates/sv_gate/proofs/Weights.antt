-- A seat is split, seats are joined, and the gate is closed.
use Rattle.std.proofs.Common.{◌≡◌, ◌≢◌, ℕ, zero, suc, ◌+◌, ◌^◌, ◌<◌, ◌≤◌, true, false, List, [], ◌∷◌, ◌++◌, length, set, sym, refl, ap, ◌∙◌, subst, ⊎_elim, inl, inr, ◌⊎◌, arith, le_refl, length-set, length-append, Some}
use mathlib.Core.Logic.{dite}
use mathlib.Core.List.{map-append}
use mathlib.Core.Option.{some, none, some-ne-none}
use mathlib.Core.Option as maybe
use native.Mathlib.Decide.{ℕ_discrete}
use lib.ListN.{get_elem?}
use Rattle.atomic_table.specs.Table.{State, step, keeps, Allows, Splits, Joins, Final, Seen, opening}
use Rattle.atomic_table.proofs.Lists.{set_else, at_longer}
use Rattle.sv_gate.specs.declared.shown.Origin.{Origin}
use Rattle.sv_gate.specs.declared.rule.Content.{Content}
use Rattle.sv_gate.specs.declared.rule.Content.TheVariants.{Front, Commit}
use Rattle.sv_gate.specs.declared.rule.Knowledge.{Knowledge}
use Rattle.sv_gate.specs.Histories.{StartsWith, BeginsWithAll, AreLegal, numbered, made_entries, OwnersBelow, both_by_number}
use Rattle.sv_gate.specs.Knowledge.{SeatState, first_knowledge, spent, after_split, split_off, just_joined, with_nothing_heard}
use Rattle.sv_gate.specs.Rule.{Account, KnowsTruly, IsAccount, IsOneHistory, weigh}
use Rattle.sv_gate.specs.Steps.{Learned}
use Rattle.sv_gate.proofs.Histories.{entries_length, own_none, none_below, below_more}
use Rattle.sv_gate.proofs.Keeps.{in_order, each_after, still, at_below, opened, AllowsAt, weigh_same}
use Rattle.sv_gate.proofs.Owners.{renamed, renamed_length, renamed_entries, own_third, none_spent, below_renamed, own_both, below_right, part_third, part_both, longer_whole, none_own, OwnersAre, all_of, own_all, seen_all}

module _ {V : Type 0} where
  at_end : (l : List V) (a b : V) (j : ℕ) → get_elem? (l ++ a ∷ []) j ≡ some b → (get_elem? l j ≡ some b) ⊎ ((j ≡ length l) × (a ≡ b))
  at_end [] a b zero e = inr (refl, cc)
  at_end [] a b (suc j) e = absurd (some-ne-none b (sym e))
  at_end (x ∷ xs) a b zero e = inl e
  at_end (x ∷ xs) a b (suc j) e = ⊎_elim inl (λ (t : (j ≡ length xs) × (a ≡ b)). inr (ap suc t.0, t.1)) (at_end xs a b j e)

  at_there : (l : List V) (j : ℕ) → j < length l → (u : V) × (get_elem? l j ≡ some u)
  at_there [] j h = absurd (omega arith)
  at_there (x ∷ xs) zero h = (x, refl)
  at_there (x ∷ xs) (suc j) h = at_there xs j (omega arith)

module _ {F C E : Type 0} where
  weigh_snoc : (vs : List (Knowledge F C E)) (v : Knowledge F C E) → weigh (vs ++ v ∷ []) ≡ weigh vs + v.weight
  weigh_snoc [] v = omega arith
  weigh_snoc (x ∷ xs) v = let h = weigh_snoc xs v in omega arith

  weigh_set : (vs : List (Knowledge F C E)) (id : ℕ) (v w : Knowledge F C E) → get_elem? vs id ≡ some v → weigh (set vs id w) + v.weight ≡ weigh vs + w.weight
  weigh_set [] id v w at = absurd (some-ne-none v (sym at))
  weigh_set (x ∷ xs) zero v w at = let is : x ≡ v = (cc) in let e = ap (λ (u : Knowledge F C E). u.weight) is in omega arith
  weigh_set (x ∷ xs) (suc id) v w at = let h = weigh_set xs id v w at in omega arith

  weigh_one : (vs : List (Knowledge F C E)) (id : ℕ) (v : Knowledge F C E) → get_elem? vs id ≡ some v → v.weight ≤ weigh vs
  weigh_one [] id v at = absurd (some-ne-none v (sym at))
  weigh_one (x ∷ xs) zero v at = let is : x ≡ v = (cc) in let e = ap (λ (u : Knowledge F C E). u.weight) is in omega arith
  weigh_one (x ∷ xs) (suc id) v at = let h = weigh_one xs id v at in omega arith

  weigh_two : (vs : List (Knowledge F C E)) (i j : ℕ) (v u : Knowledge F C E) → j ≢ i → get_elem? vs i ≡ some v → get_elem? vs j ≡ some u → v.weight + u.weight ≤ weigh vs
  weigh_two [] i j v u ne at there = absurd (some-ne-none v (sym at))
  weigh_two (x ∷ xs) zero zero v u ne at there = absurd (ne refl)
  weigh_two (x ∷ xs) zero (suc j) v u ne at there = let is : x ≡ v = (cc) in let e = ap (λ (z : Knowledge F C E). z.weight) is in let h = weigh_one xs j u there in omega arith
  weigh_two (x ∷ xs) (suc i) zero v u ne at there = let is : x ≡ u = (cc) in let e = ap (λ (z : Knowledge F C E). z.weight) is in let h = weigh_one xs i v at in omega arith
  weigh_two (x ∷ xs) (suc i) (suc j) v u ne at there = let h = weigh_two xs i j v u (λ e. ne (ap suc e)) at there in omega arith

module _ {F C E : Type 0} (follows : Origin F C → List E → E → Type 0) (fronts : Origin F C → F → List E → Type 0) (commits : Origin F C → C → List E → Type 0) (light : E → Type 0) (o : Origin F C) where
  abbrev Held : Type 0
  Held = Content F C

  abbrev Known : Type 0
  Known = Knowledge F C E

  abbrev Table : Type 0
  Table = State Held Known

  abbrev Rule : Table → Type 0
  Rule = IsOneHistory follows fronts commits light o

  abbrev Stands : Account E → maybe.Option Held → maybe.Option Held → List Known → Type 0
  Stands = IsAccount follows fronts commits light o

  begins_with : {made : List (ℕ × E)} {log : List E} (a b : List (ℕ × E)) (seen : List E) → made ≡ a ++ b → made_entries a ≡ seen → log ≡ made_entries made → StartsWith log seen
  begins_with a b seen e s same = (made_entries b, same ∙ (ap (λ (l : List (ℕ × E)). made_entries l) e ∙ (map-append (λ (x : ℕ × E). x.1) a b ∙ ap (λ (l : List E). l ++ made_entries b) s)))

  -- the table when it is made
  pub begins : (height : ℕ) (f : F) (c : C) → o.height ≡ height → o.height ≤ 2 ^ 63 → 0 < o.seats → fronts o f [] → commits o c [] → Rule (opening (0 ∷ 0 ∷ height ∷ []) (Front f ∷ Commit c ∷ []) (first_knowledge o))
  begins height f c at low some_seat shows holds = record {
    now = record { made = []; commit_lock = 0; front_lock = 0; committer = 0; holder = 0 };
    front = some (Front f);
    commit = some (Commit c);
    words = ap (λ (n : ℕ). 0 ∷ 0 ∷ n ∷ []) (omega arith);
    homes = refl;
    stands = record {
      room = omega arith;
      legal = tt;
      front_home = λ _. (f, refl, shows);
      commit_home = λ _. (c, refl, holds);
      front_out = λ h. absurd (h refl);
      commit_out = λ h. absurd (h refl);
      each = λ j v e. ⊎_elim (λ (t : get_elem? [] j ≡ some v). absurd (some-ne-none v (sym t)))
          (λ (t : (j ≡ 0) × (first_knowledge o ≡ v)). subst (KnowsTruly light o (record { made = []; commit_lock = 0; front_lock = 0; committer = 0; holder = 0 }) j) t.1
          record { own = refl; part = record { front = []; rest = []; parts = refl; is_seen = refl; of_others = tt; are_light = λ _. tt }; heard = tt; front = λ z. absurd (cc); commit = λ z. absurd (cc); has_room = λ z. absurd (cc); idle = λ z. absurd (omega arith) })
          (at_end [] (first_knowledge o) v j e);
      owners = tt;
      weights = omega arith;
    };
  }

  -- splitting a seat
  pub splits : (id : ℕ) (v : Known) (n : ℕ) → 0 < n → n < v.weight → Splits Rule id v (after_split n v) (split_off n v)
  splits id v n some_part less s k at = let now = k.now in let stands = k.stands in let vs : List Known = s.views in let fit = stands.each id v at in let w : Known = after_split n v in let p : Known = split_off n v in
      let long = length-set vs id w in record {
        now = now;
        front = k.front;
        commit = k.commit;
        words = k.words;
        homes = k.homes;
        stands = record {
          room = stands.room;
          legal = stands.legal;
          front_home = stands.front_home;
          commit_home = stands.commit_home;
          front_out = λ h. let t = still (λ (u : Known). u.has_front ≡ true) vs now.holder id v w at (λ x. x) (stands.front_out h) in (t.0, at_longer (set vs id w) (p ∷ []) now.holder t.0 t.1, t.2);
          commit_out = λ h. let t = still (λ (u : Known). u.has_commit ≡ true) vs now.committer id v w at (λ x. x) (stands.commit_out h) in (t.0, at_longer (set vs id w) (p ∷ []) now.committer t.0 t.1, t.2);
          each = λ j u e. ⊎_elim
              (λ (t : get_elem? (set vs id w) j ≡ some u). each_after (KnowsTruly light o now) vs id w
              record { own = fit.own; part = fit.part; heard = fit.heard; front = fit.front; commit = fit.commit; has_room = fit.has_room; idle = λ z. absurd (omega arith) }
              (λ i x ne there. stands.each i x there) j u t)
              (λ (t : (j ≡ length (set vs id w)) × (p ≡ u)). subst (λ (x : ℕ × Known). KnowsTruly light o now x.0 x.1) (λ i. (sym (t.0 ∙ long) i, t.1 i))
              record {
                own = sym (own_none (length vs) o.height now.made (none_below (length vs) (length vs) now.made (le_refl (length vs)) stands.owners));
                part = let q = fit.part in record {
                  front = q.front;
                  rest = q.rest;
                  parts = q.parts;
                  is_seen = q.is_seen;
                  of_others = none_below (length vs) (length vs) q.rest (le_refl (length vs)) (below_right (length vs) q.front q.rest (subst (OwnersBelow (length vs)) q.parts stands.owners));
                  are_light = λ no. absurd (cc);
                };
                heard = fit.heard;
                front = λ z. absurd (cc);
                commit = λ z. absurd (cc);
                has_room = λ z. absurd (cc);
                idle = λ z. absurd (omega arith);
              })
              (at_end (set vs id w) p u j e);
          owners = below_more (length vs) (length (set vs id w ++ p ∷ [])) now.made (let l = length-append (set vs id w) (p ∷ []) in omega arith) stands.owners;
          weights = let a = weigh_snoc (set vs id w) p in let b = weigh_set vs id v w at in let c = stands.weights in omega arith;
        };
      }

  -- a look after a join
  pub learns : (slots id : ℕ) (me : SeatState F C E) → me.0.origin ≡ Some o → me.0.base ≡ o.height → 0 < me.0.weight → Allows Rule slots id me 0 (λ n. n) (Learned (step slots 0 0 0 none) me)
  learns slots id me origin base live s k = opened follows fronts commits light o (AllowsAt follows fronts commits light o slots id me 0 (λ n. n) (Learned (step slots 0 0 0 none) me))
      (λ now fh ch vs stands sized at small. let v : Known = me.0 in let fit = stands.each id v at in let w : Known = with_nothing_heard v in (
        w,
        keeps,
        tt,
        record {
          now = now;
          front = fh;
          commit = ch;
          words = refl;
          homes = refl;
          stands = record {
            room = stands.room;
            legal = stands.legal;
            front_home = stands.front_home;
            commit_home = stands.commit_home;
            front_out = λ h. still (λ (u : Known). u.has_front ≡ true) vs now.holder id v w at (λ x. x) (stands.front_out h);
            commit_out = λ h. still (λ (u : Known). u.has_commit ≡ true) vs now.committer id v w at (λ x. x) (stands.commit_out h);
            each = each_after (KnowsTruly light o now) vs id w
                record { own = fit.own; part = fit.part; heard = tt; front = fit.front; commit = fit.commit; has_room = fit.has_room; idle = λ z. absurd (omega arith) }
                (λ j u ne there. stands.each j u there);
            owners = subst (λ (n : ℕ). OwnersBelow n now.made) (sym (length-set vs id w)) stands.owners;
            weights = weigh_same vs id v w at refl ∙ stands.weights;
          };
        },
        (refl, (made_entries now.made, fit.heard), in_order follows fronts commits light o id v now v fit.own fit.part base refl refl, λ o' is. let same : o ≡ o' = cc (origin, is) in let one = weigh_one vs id v at in let all = stands.weights in let end = ap (λ (z : Origin F C). z.seats) same in omega arith),
      ))
      s k

  -- joining a seat
  pub joins : (id : ℕ) (v : Known) (other : ℕ) (w : Known) → 0 < v.weight → w.has_front ≡ false → w.has_commit ≡ false → Joins Rule id v other w (just_joined v w) spent
  joins id v other w live no_front no_commit s k at apart there = let now = k.now in let stands = k.stands in let vs : List Known = s.views in let b : Known = just_joined v w in let vs' : List Known = set vs id b in
      let at' : get_elem? vs other ≡ some w = sym (set_else vs id other b apart) ∙ there in let fit = stands.each id v at in let gone = stands.each other w at' in
      let made' : List (ℕ × E) = renamed id other now.made in let now' : Account E = record now { made = made' } in let same : made_entries made' ≡ made_entries now.made = renamed_entries id other now.made in
      let long : length made' ≡ length now.made = renamed_length id other now.made in let inside : id < length vs = at_below vs id v at in record {
        now = now';
        front = k.front;
        commit = k.commit;
        words = k.words ∙ ap (λ (n : ℕ). now.commit_lock ∷ now.front_lock ∷ (o.height + n) ∷ []) (sym long);
        homes = k.homes;
        stands = record {
          room = let r = stands.room in omega arith;
          legal = subst (AreLegal (follows o) []) (sym same) stands.legal;
          front_home = λ z. let h = stands.front_home z in (h.0, h.1, subst (fronts o h.0) (sym same) h.2);
          commit_home = λ z. let h = stands.commit_home z in (h.0, h.1, subst (commits o h.0) (sym same) h.2);
          front_out = λ h. still (λ (u : Known). u.has_front ≡ true) vs' now.holder other w spent there (λ x. sym no_front ∙ x) (still (λ (u : Known). u.has_front ≡ true) vs now.holder id v b at (λ x. x) (stands.front_out h));
          commit_out = λ h. still (λ (u : Known). u.has_commit ≡ true) vs' now.committer other w spent there (λ x. sym no_commit ∙ x) (still (λ (u : Known). u.has_commit ≡ true) vs now.committer id v b at (λ x. x) (stands.commit_out h));
          each = each_after (KnowsTruly light o now') vs' other spent
              record { own = sym (own_none other o.height made' (none_spent id other now.made apart)); part = record { front = []; rest = made'; parts = refl; is_seen = refl; of_others = none_spent id other now.made apart; are_light = λ z. absurd (cc) }; heard = tt; front = λ z. absurd (cc); commit = λ z. absurd (cc); has_room = λ z. absurd (cc); idle = λ _. (refl, refl, refl) }
              (λ j u ne e. each_after (λ (i : ℕ) (x : Known). i ≢ other → KnowsTruly light o now' i x) vs id b
              (λ _. record {
                own = (λ i. both_by_number (fit.own i) (gone.own i)) ∙ own_both id other o.height now.made apart;
                part = part_both light id other now.made v.seen w.seen v.has_commit w.has_commit fit.part gone.part;
                heard = let p = fit.part in let q = gone.part in (begins_with p.front p.rest v.seen p.parts p.is_seen same, (begins_with q.front q.rest w.seen q.parts q.is_seen same, tt));
                front = λ h. let f = fit.front h in (f.0, f.1, longer_whole light other now.made v.seen w.seen w.has_commit f.2 gone.part ∙ (f.2 ∙ sym same));
                commit = fit.commit;
                has_room = λ h. let n = fit.has_room h in (n.0, let m = n.1 in omega arith);
                idle = λ z. absurd (omega arith);
              })
              (λ i x far on away. let g = stands.each i x on in record {
                own = g.own ∙ sym (own_third id other i o.height now.made far away);
                part = part_third light id other i now.made x.seen x.has_commit far g.part;
                heard = subst (λ (l : List E). BeginsWithAll l x.heard) (sym same) g.heard;
                front = λ h. let f = g.front h in (f.0, f.1, f.2 ∙ sym same);
                commit = g.commit;
                has_room = λ h. let n = g.has_room h in (n.0, let m = n.1 in omega arith);
                idle = g.idle;
              })
              j u e ne);
          owners = subst (λ (n : ℕ). OwnersBelow n made') (sym (length-set vs' other spent ∙ length-set vs id b)) (below_renamed id other (length vs) now.made inside stands.owners);
          weights = let a = weigh_set vs' other w spent there in let c = weigh_set vs id v b at in let d = stands.weights in omega arith;
        };
      }

  -- what is left where one seat has all of the weight
  pub closes : (id : ℕ) (v : Known) (ws : List ℕ) (xs : List Held) → Final (Seen Rule id v) ws xs → 0 < v.weight → v.weight ≡ o.seats → v.has_front ≡ false → v.has_commit ≡ false
      → (f : F) × (c : C) × (get_elem? xs 0 ≡ some (Front f)) × (get_elem? xs 1 ≡ some (Commit c)) × fronts o f v.seen × commits o c v.seen × AreLegal (follows o) [] v.seen × (v.own ≡ numbered o.height v.seen)
      × (o.height + length v.seen ≤ 2 ^ 63)
  closes id v ws xs end live all no_front no_commit = let s = end.0 in let k = end.1.0 in let at = end.1.1 in let now = k.now in let stands = k.stands in let vs : List Known = s.views in let fit = stands.each id v at in
      let spent : (j : ℕ) (u : Known) → j ≢ id → get_elem? vs j ≡ some u → u.weight ≡ 0 = λ j u ne there. let h = weigh_two vs id j v u ne at there in let w = stands.weights in omega arith in
      let front_free : now.front_lock ≡ 0 = dite (ℕ_discrete now.front_lock 0) (λ z. z) (λ held. let t = stands.front_out held in absurd (dite (ℕ_discrete now.holder id)
      (λ e. let same : get_elem? vs now.holder ≡ some v = ap (get_elem? vs) e ∙ at in let is : t.0 ≡ v = cc (t.1, same) in let h = t.2 in let g = ap (λ (u : Known). u.has_front) is in cc)
      (λ ne. let h = ((stands.each now.holder t.0 t.1).idle (spent now.holder t.0 ne t.1)).1 in let g = t.2 in cc))) in
      let commit_free : now.commit_lock ≡ 0 = dite (ℕ_discrete now.commit_lock 0) (λ z. z) (λ held. let t = stands.commit_out held in absurd (dite (ℕ_discrete now.committer id)
      (λ e. let same : get_elem? vs now.committer ≡ some v = ap (get_elem? vs) e ∙ at in let is : t.0 ≡ v = cc (t.1, same) in let h = t.2 in let g = ap (λ (u : Known). u.has_commit) is in cc)
      (λ ne. let h = ((stands.each now.committer t.0 t.1).idle (spent now.committer t.0 ne t.1)).2 in let g = t.2 in cc))) in
      let front = stands.front_home front_free in let commit = stands.commit_home commit_free in
      let mine : OwnersAre id now.made = all_of id (length vs) now.made stands.owners (λ j l ne. let t = at_there vs j l in let g = stands.each j t.0 t.1 in none_own j o.height now.made (sym g.own ∙ (g.idle (spent j t.0 ne t.1)).0)) in
      let seen : v.seen ≡ made_entries now.made = seen_all light id now.made v.seen v.has_commit mine fit.part in (
        front.0,
        commit.0,
        end.4 0 (Front front.0) (ap (λ (l : List (maybe.Option Held)). get_elem? l 0) k.homes ∙ ap some front.1),
        end.4 1 (Commit commit.0) (ap (λ (l : List (maybe.Option Held)). get_elem? l 1) k.homes ∙ ap some commit.1),
        subst (fronts o front.0) (sym seen) front.2,
        subst (commits o commit.0) (sym seen) commit.2,
        subst (AreLegal (follows o) []) (sym seen) stands.legal,
        fit.own ∙ (own_all id o.height now.made mine ∙ ap (numbered o.height) (sym seen)),
        let r = stands.room in let l = ap length seen ∙ entries_length now.made in omega arith,
      )
