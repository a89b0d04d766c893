-- Cursors put at the end, one after the other.
use Rattle.std.proofs.Common.{◌≡◌, ℕ, ◌+◌, List, [], ◌∷◌, ◌++◌, take, Some, refl, sym, ap, ◌∙◌, arith, append_assoc}
use Rattle.std.specs.Prelude.{slice_get, zero, suc}
use Rattle.std.proofs.lemmas.List.{append-nil}
use Rattle.ts_key.specs.declared.version.Version.{Version}
use Rattle.ts_key.specs.Items.{Item, item_of, items_of}
use Rattle.memtable.specs.Memtables as memtables
use Rattle.ts_iterator.specs.declared.source.Source.{Source}
use Rattle.ts_iterator.specs.Sources.{items, items_of_all}

pub all_more : (sources : List Source) (source : Source) → items_of_all (sources ++ source ∷ []) ≡ items_of_all sources ++ items source
all_more [] source = append-nil (items source)
all_more (x ∷ xs) source = ap (λ r. items x ++ r) (all_more xs source) ∙ sym (append_assoc (items x) (items_of_all xs) (items source))

pub items_more : (xs ys : List Version) → items_of (xs ++ ys) ≡ items_of xs ++ items_of ys
items_more [] ys = refl
items_more (x ∷ xs) ys = ap (λ r. item_of x ∷ r) (items_more xs ys)

-- one run more of the first so many
pub run_more : (runs : List (List Version)) (i : ℕ) (run : List Version) → slice_get runs i ≡ Some run → items_of (memtables.joined (take (i + 1) runs)) ≡ items_of (memtables.joined (take i runs)) ++ items_of run
run_more [] i run e = absurd cc
run_more (x ∷ xs) zero run e = let q : x ≡ run = cc in ap items_of (append-nil x ∙ q)
run_more (x ∷ xs) (suc i) run e =
    let n : suc i + 1 ≡ suc (i + 1) = omega arith in
    rw n (items_more x (memtables.joined (take (i + 1) xs)) ∙ ap (λ r. items_of x ++ r) (run_more xs i run e)
    ∙ sym (append_assoc (items_of x) (items_of (memtables.joined (take i xs))) (items_of run))
    ∙ ap (λ r. r ++ items_of run) (sym (items_more x (memtables.joined (take i xs)))))

-- what was there, then so many, then one more
pub after_more : (start so_far more next now : List Item) → now ≡ (start ++ so_far) ++ more → next ≡ so_far ++ more → now ≡ start ++ next
after_more start so_far more next now e f = e ∙ append_assoc start so_far more ∙ ap (λ r. start ++ r) (sym f)
