-- What a collector gave of the versions of a feed.
use Rattle.std.proofs.Common.{◌≡◌, Bool, true, false, List, [], ◌∷◌, ◌++◌, Option, Some, None, Result, Ok, Err, refl, sym, ap, subst, ◌∙◌, inl, inr}
use Rattle.std.specs.Prelude.{All, Contains, MatchOption, OnOk, not}
use Rattle.std.specs.List.{AllByRecursion}
use Rattle.std.proofs.lemmas.List.{append-nil}
use Rattle.ts_key.specs.declared.version.Version.{Version}
use Rattle.udt_model.specs.Orders.{is_version_before}
use Rattle.udt_model.specs.Collecting as collecting
use Rattle.udt_model.specs.Collecting.{is_ever_seen, is_useless, seen_of, without_useless}
use Rattle.collection_laws.specs.Places.{AreStored}
use Rattle.collection_laws.proofs.Storing.{In, all_from, in_all, in_from, contains_from, in_filter, same_stored, stored_filter}
use Rattle.history_gc.specs.declared.collector.Collector.{Collector}
use Rattle.history_gc.specs.Pushed.{AreInOrder, BeginsWith, MayFollow}
use Rattle.history_gc.specs.Collecting.{CollectsAlike, HasCollected, HasFinished, HasGivenAll, collection, collection_floor, collection_snapshots, collection_spans}
use Rattle.history_gc.proofs.Steps.{collect_is, in_order_stored}
use Rattle.history_gc.proofs.Queues.{next_of}
use Rattle.flush_job.specs.Feeds.{TakesOne}
use Rattle.flush_job.specs.declared.feed.Feed.{Ghosts}
use Rattle.flush_job.specs.declared.kept.Kept.{Kept}
use Rattle.flush_job.specs.Keeping.{GivesOne, IsWorking, Keeps, all_of, kept_of}

-- ---- a collection

front_all : (P : Version → Type 0) (xs ys : List Version) → AllByRecursion P (xs ++ ys) → AllByRecursion P xs
front_all P [] ys h = tt
front_all P (x ∷ xs) ys h = (h.0, front_all P xs ys h.1)

pub front_stored : (xs ys : List Version) → AreStored (xs ++ ys) → AreStored xs
front_stored [] ys s = tt
front_stored (x ∷ xs) ys s = (front_all (λ w. is_version_before x w ≡ true) xs ys s.0, front_stored xs ys s.1)

pub in_front : (xs ys : List Version) (v : Version) → In v xs → In v (xs ++ ys)
in_front [] ys v i = absurd i
in_front (x ∷ xs) ys v (inl e) = inl e
in_front (x ∷ xs) ys v (inr i) = inr (in_front xs ys v i)

pub in_back : (xs ys : List Version) (v : Version) → In v ys → In v (xs ++ ys)
in_back [] ys v i = i
in_back (x ∷ xs) ys v i = inr (in_back xs ys v i)

collection_stored : (c : Collector) (ps : List Version) → AreInOrder ps → AreStored (collection c ps)
collection_stored c ps s =
    let f = collection_floor c in
    let ss = collection_snapshots c in
    let dd = collection_spans c in
    subst AreStored (sym (collect_is f ss dd ps s))
    (stored_filter (λ v. not (is_useless (seen_of ps f ss) f dd v)) (seen_of ps f ss) (stored_filter (is_ever_seen ps f ss) ps (in_order_stored ps s)))

collection_among : (c : Collector) (ps : List Version) (v : Version) → In v (collection c ps) → In v ps
collection_among c ps v i =
    let f = collection_floor c in
    let ss = collection_snapshots c in
    let dd = collection_spans c in
    let useful = (same_stored (without_useless f dd (seen_of ps f ss))).back v i in
    let seen = (in_filter (λ u. not (is_useless (seen_of ps f ss) f dd u)) (seen_of ps f ss) v useful).0 in
    (in_filter (is_ever_seen ps f ss) ps v seen).0

working_front : (ended : Bool) (c : Collector) (ps coming qs : List Version) → IsWorking ended c ps coming qs → BeginsWith qs (collection c ps)
working_front false c ps coming qs h = h.front
working_front true c ps coming qs h = (c.queue.items, h.0.all)

pub working_is : (ended : Bool) (c : Collector) (ps coming qs : List Version) → ended ≡ false → IsWorking ended c ps coming qs → HasCollected c ps qs
working_is false c ps coming qs e h = h
working_is true c ps coming qs e h = absurd cc

pub working_from : (ended : Bool) (c : Collector) (ps coming qs : List Version) → ended ≡ false → HasCollected c ps qs → IsWorking ended c ps coming qs
working_from false c ps coming qs e h = h
working_from true c ps coming qs e h = absurd cc

pub finished_is : (ended : Bool) (c : Collector) (ps coming qs : List Version) → ended ≡ true → IsWorking ended c ps coming qs → HasFinished c ps qs × (coming ≡ [])
finished_is false c ps coming qs e h = absurd cc
finished_is true c ps coming qs e h = h

pub finished_from : (ended : Bool) (c : Collector) (ps coming qs : List Version) → ended ≡ true → HasFinished c ps qs → coming ≡ [] → IsWorking ended c ps coming qs
finished_from false c ps coming qs e h n = absurd cc
finished_from true c ps coming qs e h n = (h, n)

pub keeps : {S : Type 0} (g : Ghosts S) (k : Kept S) (given : List Version) → AreInOrder (g.taken k.feed) → IsWorking k.ended k.collector (g.taken k.feed) (g.coming k.feed) given → Keeps g k given
keeps g k given s h =
    let ps = g.taken k.feed in
    let front = working_front k.ended k.collector ps (g.coming k.feed) given h in
    record {
      in_order = front_stored given front.0 (subst AreStored (sym front.1) (collection_stored k.collector ps s));
      among = λ v i. contains_from (all_of g k) v (in_front ps (g.coming k.feed) v (collection_among k.collector ps v
          (subst (In v) front.1 (in_front given front.0 v (in_from given v i)))));
      working = h;
    }

-- ---- one more

pub on_ok : {T E : Type 0} (r : Result T E) (A B : Type 0) → (A → B) → OnOk r A → OnOk r B
on_ok (Ok x) A B f h = f h
on_ok (Err e) A B f h = h

pub takes_none : {S : Type 0} (taken coming : S → List Version) (old new : S) (o : Option Version) → o ≡ None → TakesOne taken coming old new o → (coming old ≡ []) × (coming new ≡ []) × (taken new ≡ taken old)
takes_none taken coming old new None e h = h
takes_none taken coming old new (Some v) e h = absurd cc

pub takes_some : {S : Type 0} (taken coming : S → List Version) (old new : S) (o : Option Version) (v : Version) → o ≡ Some v → TakesOne taken coming old new o → (coming old ≡ v ∷ coming new) × (taken new ≡ taken old ++ v ∷ [])
takes_some taken coming old new None v e h = absurd cc
takes_some taken coming old new (Some u) v e h =
    let q : u ≡ v = cc in subst (λ w. (coming old ≡ w ∷ coming new) × (taken new ≡ taken old ++ w ∷ [])) q h

pub alike_collection : (c d : Collector) → CollectsAlike c d → (ps : List Version) → collection d ps ≡ collection c ps
alike_collection c d h ps = λ i. collecting.collect ps (h.floor i) (h.snapshots i) (h.spans i)

-- the last one may be pushed behind the others
pub may_follow : (ps more : List Version) (v : Version) → more ≡ ps ++ v ∷ [] → AreInOrder more → MayFollow ps v
may_follow ps more v e s = next_of ps v [] more (sym e) s

-- ---- what is given next

-- after the end
pub gives_finished : {S : Type 0} (g : Ghosts S) (k : Kept S) (given : List Version) (o : Option Version) → AreInOrder (g.taken k.feed) → k.ended ≡ true → g.coming k.feed ≡ []
    → MatchOption o (HasGivenAll k.collector (g.taken k.feed) given) (λ v. HasFinished k.collector (g.taken k.feed) (given ++ v ∷ [])) → GivesOne g k given o
gives_finished g k given None s e n h =
    let all : all_of g k ≡ g.taken k.feed = ap (λ xs. g.taken k.feed ++ xs) n ∙ append-nil (g.taken k.feed) in
    (h.given ∙ ap (collection k.collector) (sym all), subst AreInOrder (sym all) s)
gives_finished g k given (Some v) s e n h =
    keeps g k (given ++ v ∷ []) s (finished_from k.ended k.collector (g.taken k.feed) (g.coming k.feed) (given ++ v ∷ []) e h n)

-- ---- what is given

pub last_among : {S : Type 0} (g : Ghosts S) (k : Kept S) (given : List Version) (v : Version) → Keeps g k (given ++ v ∷ []) → Contains (all_of g k) v
last_among g k given v h = h.among v (contains_from (given ++ v ∷ []) v (in_back given (v ∷ []) v (inl refl)))

pub at_contained : (P : Version → Type 0) (vs : List Version) (v : Version) → All P vs → Contains vs v → P v
at_contained P vs v h i = in_all P vs v (all_from P vs h) (in_from vs v i)

-- the answer, where it is known
pub gives_none : {S : Type 0} (g : Ghosts S) (k : Kept S) (given : List Version) (o : Option Version) → o ≡ None → GivesOne g k given o → given ≡ kept_of g k
gives_none g k given None e h = h.0
gives_none g k given (Some v) e h = absurd cc

pub gives_some : {S : Type 0} (g : Ghosts S) (k : Kept S) (given : List Version) (o : Option Version) (v : Version) → o ≡ Some v → GivesOne g k given o → Keeps g k (given ++ v ∷ [])
gives_some g k given None v e h = absurd cc
gives_some g k given (Some u) v e h = let q : u ≡ v = cc in subst (λ w. Keeps g k (given ++ w ∷ [])) q h
