-- Writers of lists, item by item.
use Rattle.std.proofs.Common.{◌≡◌, ℕ, ◌+◌, ◌<◌, List, ◌++◌, length, take, get_or, sym, ap, ◌∙◌}
use Rattle.std.specs.Prelude.{All}
use Rattle.std.specs.List.{flat_map}
use Rattle.std.proofs.lemmas.List.{append_assoc, flat_map_more, take_more}
use Rattle.std.proofs.lemmas.List.Elements.{All-more}

module _ {V : Type 0} (text : V → List ℕ) (Is : V → Type 0) where
  -- the first of the items are written
  pub record AreWritten (start out : List ℕ) (items : List V) (i : ℕ) : Type 0 where
    pub text_so : out ≡ start ++ flat_map text (take i items)
    pub each : All Is (take i items)

  pub written_on : (start old new : List ℕ) (items : List V) (i : ℕ) (d : V) → i < length items → AreWritten start old items i → new ≡ old ++ text (get_or items i d) → Is (get_or items i d) → AreWritten start new items (i + 1)
  written_on start old new items i d within so_far written is = record {
    text_so = written ∙ ap (λ (xs : List ℕ). xs ++ text (get_or items i d)) so_far.text_so ∙ flat_map_more text start (take i items) (get_or items i d) ∙ ap (λ (vs : List V). start ++ flat_map text vs) (sym (take_more items i d within));
    each = All-more Is items i d within so_far.each is;
  }

-- five parts, one behind the other
pub five_written : (old m1 m2 m3 m4 new a b c d e : List ℕ) → m1 ≡ old ++ a → m2 ≡ m1 ++ b → m3 ≡ m2 ++ c → m4 ≡ m3 ++ d → new ≡ m4 ++ e → new ≡ old ++ (a ++ (b ++ (c ++ (d ++ e))))
five_written old m1 m2 m3 m4 new a b c d e one two three four five =
    let whole : new ≡ ((((old ++ a) ++ b) ++ c) ++ d) ++ e = cc in
    whole ∙ simp append_assoc

-- the same, behind a first one
pub six_written : (old m0 m1 m2 m3 m4 new z a b c d e : List ℕ) → m0 ≡ old ++ z → m1 ≡ m0 ++ a → m2 ≡ m1 ++ b → m3 ≡ m2 ++ c → m4 ≡ m3 ++ d → new ≡ m4 ++ e → new ≡ old ++ (z ++ (a ++ (b ++ (c ++ (d ++ e)))))
six_written old m0 m1 m2 m3 m4 new z a b c d e zero one two three four five =
    five_written m0 m1 m2 m3 m4 new a b c d e one two three four five ∙ ap (λ (xs : List ℕ). xs ++ (a ++ (b ++ (c ++ (d ++ e))))) zero ∙ append_assoc old z (a ++ (b ++ (c ++ (d ++ e))))
