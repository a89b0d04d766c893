-- The model's `Stands`, by what is in the lists, and back.
use Rattle.std.proofs.Common.{◌≤◌, List, inl, inr}
use Rattle.ts_key.specs.declared.numbers.Family.{Family}
use Rattle.ts_key.specs.declared.numbers.Ts.{Ts}
use Rattle.ts_key.specs.declared.numbers.Seq.{Seq}
use Rattle.ts_key.specs.declared.version.Form.{Form}
use Rattle.ts_key.specs.declared.version.Version.{Version}
use Rattle.udt_model.specs.Versions.{AreRising}
use Rattle.udt_model.specs.Standing.{HasSource, IsSight, Stands}
use Rattle.floor_laws.proofs.Members.{In-contains, contains_In, All-In, All-from}
use Rattle.floor_laws.proofs.Counts.{distinct_pairs, pairs_distinct}
use Rattle.floor_laws.proofs.Standing.{Rising, Sees, Standing}

pub rising_of : (w : List Version) → AreRising w → Rising w
rising_of w h = λ a b i j k lt. h a b (In-contains w a i) (In-contains w b j) k lt

pub rising_from : (w : List Version) → Rising w → AreRising w
rising_from w h = λ a b i j k lt. h a b (contains_In w a i) (contains_In w b j) k lt

pub sees_of : (w : List Version) (ss : List Seq) (s : Seq) → IsSight w ss s → Sees w ss s
sees_of w ss s (inl i) = inr (contains_In ss s i)
sees_of w ss s (inr l) = inl (λ a i. All-In (λ (v : Version). v.seq.0 ≤ s.0) w a l i)

pub sees_from : (w : List Version) (ss : List Seq) (s : Seq) → Sees w ss s → IsSight w ss s
sees_from w ss s (inl l) = inr (All-from (λ (v : Version). v.seq.0 ≤ s.0) w l)
sees_from w ss s (inr i) = inl (In-contains ss s i)

pub standing_of : (c : Family) (form : Form) (v w : List Version) (f : Ts) (ss : List Seq) → Stands c form v w f ss → Standing form c v w f ss
standing_of c form v w f ss h = record {
  images = λ b i. let x = All-In (HasSource c form f w) v b h.images i in (x.0, contains_In w x.0 x.1, x.2, x.3);
  distinct = pairs_distinct v h.apart;
  rising = rising_of v h.rising;
  reads = λ key t s le see. h.alike key t s le (sees_from w ss s see);
}

pub stands_from : (c : Family) (form : Form) (v w : List Version) (f : Ts) (ss : List Seq) → Standing form c v w f ss → Stands c form v w f ss
stands_from c form v w f ss h = record {
  images = All-from (HasSource c form f w) v (λ b i. let x = h.images b i in (x.0, In-contains w x.0 x.1, x.2, x.3));
  apart = distinct_pairs v h.distinct;
  rising = rising_from v h.rising;
  alike = λ key t s le see. h.reads key t s le (sees_of w ss s see);
}
