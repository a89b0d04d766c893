-- A table as it is written.
use Rattle.std.proofs.Common.{◌≡◌, ℕ, ◌+◌, ◌^◌, ◌<◌, ◌≤◌, List, [], ◌∷◌, ◌++◌, length, sym, ap, subst, ◌∙◌, Bool, true, false, ⊎_elim, arith, length-append, Some}
use Rattle.std.specs.List.{AllByRecursion}
use Rattle.std.proofs.lemmas.Bool.{cases_lt}
use Rattle.std.proofs.lemmas.List.{append-nil}
use Rattle.ts_key.specs.Items.{Item}
use Rattle.ts_key.specs.Lists.{IsSorted, joined_lists}
use Rattle.ts_key.specs.declared.version.Form.{Form}
use Rattle.data_block.specs.Grammar.{block_target, entries, block_entries, block, IsBlock}
use Rattle.data_block.specs.Written.{Written, HasWritten}
use Rattle.data_block.proofs.Written.{all_snoc}
use Rattle.block_table.specs.declared.handle.BlockHandle.{BlockHandle}
use Rattle.block_table.specs.declared.writer.KeyRange.{KeyRange}
use Rattle.block_table.specs.declared.writer.TableWriter.{TableWriter}
use Rattle.block_table.specs.Contents.{Contents, properties_of}
use Rattle.block_table.specs.Tables.{IsFull, blocks, handles, index, properties, IsTable}
use Rattle.block_table.specs.Ranges.{IsRangeOf}
use Rattle.block_table.specs.Pushed.{IsReadable, IsOpen, IsBehind, IsDone, HasPushed, HaveBlockBytes, AreBlocksDone, IsSpelled}
use Rattle.block_table.specs.Gathering.{handle_of}
use Rattle.block_table.proofs.Cuts.{joined_more, blocks_more, handles_more, cut_more, cut_done, ends_with, ends_open}
use Rattle.block_table.proofs.Lists.{sorted_left, sorted_right}
use Rattle.block_table.proofs.Tallying.{first_snoc, last_snoc}
use Rattle.block_table.proofs.Reading.{longer}

-- one key more
pub range_wider : (vs : List Item) (v : Item) (r : KeyRange) (greatest key : List ℕ) → IsRangeOf (Some r) vs → greatest ≡ key → v.sort_key.key ≡ key → IsRangeOf (Some (record { least = r.least; greatest = greatest })) (vs ++ v ∷ [])
range_wider vs v r greatest key h g k =
    let l = h.0 in
    (omega (arith, length-append vs (v ∷ [])), h.1 ∙ sym (first_snoc vs v l), g ∙ sym k ∙ sym (last_snoc vs v))

pub range_first : (vs : List Item) (v : Item) (least greatest key : List ℕ) → vs ≡ [] → least ≡ key → greatest ≡ key → v.sort_key.key ≡ key → IsRangeOf (Some (record { least = least; greatest = greatest })) (vs ++ v ∷ [])
range_first [] v least greatest key e l g k = (omega arith, l ∙ sym k, g ∙ sym k)
range_first (w ∷ vs) v least greatest key e l g k = absurd cc

-- the block behind the others
pub bytes_more : (form : Form) (done : List (List Item)) (vs : List Item) (old new bytes : List ℕ) → old ≡ blocks form done → bytes ≡ block form vs → new ≡ old ++ bytes → new ≡ blocks form (done ++ vs ∷ [])
bytes_more form done vs old new bytes o b n = n ∙ (λ i. o i ++ b i) ∙ sym (blocks_more form done vs)

pub index_more : (form : Form) (done : List (List Item)) (vs : List Item) (old new : List BlockHandle) (h : BlockHandle) → old ≡ handles form 0 done → h.offset ≡ length (blocks form done) → h.length ≡ length (block form vs) → h.versions ≡ length vs → new ≡ old ++ h ∷ [] → new ≡ handles form 0 (done ++ vs ∷ [])
index_more form done vs old new h o at len n e =
    let at0 : h.offset ≡ 0 + length (blocks form done) = omega (arith, at) in
    let h-is : h ≡ handle_of form (0 + length (blocks form done)) vs = λ i. record { offset = at0 i; length = len i; versions = n i } in
    e ∙ (λ i. o i ++ h-is i ∷ []) ∙ sym (handles_more form 0 done vs)

pub items_moved : (done : List (List Item)) (vs items : List Item) → items ≡ joined_lists done ++ vs → items ≡ joined_lists (done ++ vs ∷ []) ++ []
items_moved done vs items e = e ∙ sym (joined_more done vs) ∙ sym (append-nil (joined_lists (done ++ vs ∷ [])))

some_done : (form : Form) (done : List (List Item)) → AllByRecursion (IsDone form) done → AllByRecursion (λ vs. 0 < length vs) done
unfolding entries
some_done form [] each = tt
some_done form ([] ∷ done) each = let f : block_target ≤ length (block_entries form []) = each.0.full in absurd (omega (arith, f))
some_done form ((v ∷ vs) ∷ done) each = (omega arith, some_done form done each.1)

has_done : (done : List (List Item)) (items : List Item) → items ≡ joined_lists done → 0 < length items → 0 < length done
has_done [] items e some = omega (arith, ap length e, some)
has_done (vs ∷ done) items e some = omega arith

closed_on : (w : TableWriter) (t : Contents) (done : List (List Item)) (os : List Item) → AllByRecursion (IsDone t.form) done → 0 < length t.items → length os ≡ 0 → IsBehind w t done os → AreBlocksDone w t done
closed_on w t done [] each some l b = record {
  behind = b;
  some = has_done done t.items (b.items ∙ append-nil (joined_lists done)) some;
  cut = cut_done t.form done each;
  some_each = some_done t.form done each;
}
closed_on w t done (v ∷ os) each some l b = absurd (omega (arith, l))

-- a writer with no open block
pub closed_none : (w : TableWriter) (t : Contents) (h : HasPushed w t) → 0 < length t.items → w.versions ≡ 0 → AreBlocksDone w t h.done
closed_none w t h some none = closed_on w t h.done h.open_items h.each some (sym h.behind.versions ∙ none) h.behind

-- a writer whose open block was put behind the others
pub closed_last : (w : TableWriter) (t : Contents) (done : List (List Item)) (vs : List Item) → AllByRecursion (IsDone t.form) done → length (block_entries t.form vs) < block_target → 0 < length vs → IsBehind w t (done ++ vs ∷ []) [] → AreBlocksDone w t (done ++ vs ∷ [])
closed_last w t done vs each room some b = record {
  behind = b;
  some = omega (arith, length-append done (vs ∷ []));
  cut = cut_more t.form done vs each (ends_open t.form vs room);
  some_each = all_snoc (λ us. 0 < length us) done vs (some_done t.form done each) some;
}

-- where nothing was written, there are no bytes
pub nothing_written : (w : Written) → HasWritten w [] → length w.entries ≡ 0
unfolding entries
nothing_written w h = ap length h.entries

pub not_full : (n : ℕ) (b : Bool) → (block_target ≤ n → b ≡ true) → b ≡ false → n < block_target
not_full n b full less = ⊎_elim (λ l. l) (λ m. absurd (let y : b ≡ true = full m in cc)) (cases_lt n block_target)

-- one version more, which filled the open block, and the block was put behind the others
pub push_full : (w : TableWriter) (t : Contents) (done : List (List Item)) (os : List Item) (v : Item) → AllByRecursion (IsDone t.form) done → length (block_entries t.form os) < block_target → IsFull t.form (os ++ v ∷ [])
    → IsBehind w t (done ++ (os ++ v ∷ []) ∷ []) [] → IsOpen t.form w.block [] → HasPushed w t
unfolding entries
push_full w t done os v each room full b o = record {
  done = done ++ (os ++ v ∷ []) ∷ [];
  open_items = [];
  behind = b;
  is_open = o;
  each = all_snoc (IsDone t.form) done (os ++ v ∷ []) each (record { full = full; in_time = ends_with t.form os v room });
  room = omega arith;
}

-- how many bytes the blocks have
bytes_on : (w : TableWriter) (t : Contents) (done : List (List Item)) (os : List Item) → AllByRecursion (IsDone t.form) done → length os ≡ 0 → IsBehind w t done os → HaveBlockBytes t (length w.blocks.items)
bytes_on w t done [] each l b = record {
  cuts = done;
  joins = b.items ∙ append-nil (joined_lists done);
  cut = cut_done t.form done each;
  some_each = some_done t.form done each;
  bytes = ap length b.bytes;
}
bytes_on w t done (v ∷ os) each l b = absurd (omega (arith, l))

pub bytes_done : (w : TableWriter) (t : Contents) (h : HasPushed w t) (n : ℕ) → w.versions ≡ 0 → n ≡ length w.blocks.items → HaveBlockBytes t n
bytes_done w t h n none is = subst (HaveBlockBytes t) (sym is) (bytes_on w t h.done h.open_items h.each (sym h.behind.versions ∙ none) h.behind)

pub bytes_open : (w : TableWriter) (t : Contents) (h : HasPushed w t) (n : ℕ) → (w.versions ≡ 0 → ⊥) → n ≡ length w.blocks.items + length (block t.form h.open_items) → HaveBlockBytes t n
bytes_open w t h n some is =
    let done = h.done in
    let os = h.open_items in
    let v = h.behind.versions in
    record {
      cuts = done ++ os ∷ [];
      joins = h.behind.items ∙ sym (joined_more done os);
      cut = cut_more t.form done os h.each (ends_open t.form os h.room);
      some_each = all_snoc (λ (us : List Item). 0 < length us) done os (some_done t.form done h.each) (omega (arith, some, v));
      bytes = omega (arith, is, ap length h.behind.bytes, ap length (blocks_more t.form done os), length-append (blocks t.form done) (block t.form os));
    }

-- the properties that a writer tells
pub told_properties : (w : TableWriter) (t : Contents) (cuts : List (List Item)) (r : KeyRange) → IsBehind w t cuts [] → w.range ≡ Some r
    → record { family = w.family; form = w.form; count = w.tally.count; least = r.least; greatest = r.greatest; least_seq = w.tally.least_seq; greatest_seq = w.tally.greatest_seq; greatest_ts = w.tally.greatest_ts; collected_by = w.collected_by } ≡ properties_of t
told_properties w t cuts r b e =
    let x = subst (λ o. IsRangeOf o t.items) e b.range in
    λ i. record {
      family = record { 0 = b.family i };
      form = b.form i;
      count = (b.tally i).count;
      least = x.1 i;
      greatest = x.2 i;
      least_seq = (b.tally i).least_seq;
      greatest_seq = (b.tally i).greatest_seq;
      greatest_ts = (b.tally i).greatest_ts;
      collected_by = record { 0 = b.collected_by i };
    }

-- what was spelled is a table, where it is sorted
are_blocks : (form : Form) (cuts : List (List Item)) → AllByRecursion (IsReadable form) cuts → AllByRecursion (λ vs. 0 < length vs) cuts → IsSorted (joined_lists cuts) → AllByRecursion (IsBlock form) cuts
are_blocks form [] readable some sorted = tt
are_blocks form (vs ∷ cuts) readable some sorted =
    (readable.0 (sorted_left vs (joined_lists cuts) sorted) some.0, are_blocks form cuts readable.1 some.1 (sorted_right vs (joined_lists cuts) sorted))

pub spelled_table : (t : Contents) (image : List ℕ) → IsSpelled t image → IsSorted t.items → length image < 2 ^ 64 → IsTable t image
spelled_table t image s sorted small = record {
  cuts = s.cuts;
  blocks = record {
    some = s.some;
    count = s.count;
    versions = s.few;
    joins = s.joins;
    cut = s.cut;
    each = are_blocks t.form s.cuts s.readable s.some_each (subst IsSorted s.joins sorted);
    sorted = sorted;
    family = s.family;
    collected_by = s.collected_by;
    short = omega (arith, small, ap length s.spelled, longer (blocks t.form s.cuts) (index (handles t.form 0 s.cuts)) (properties (properties_of t)));
  };
  spelled = s.spelled;
}
