-- Tables of the first family in one list.
use Rattle.std.proofs.Common.{◌≡◌, List, [], ◌∷◌, ◌++◌, sym, subst}
use Rattle.std.specs.Prelude.{All}
use Rattle.std.proofs.lemmas.List.Elements.{All-nil, All-push}
use Rattle.super_version.specs.Live.{Live}
use Rattle.compaction_rows.specs.Inputs.{IsOfFirst}

pub none_pushed : (ts : List Live) → ts ≡ [] → All IsOfFirst ts
none_pushed ts e = subst (All IsOfFirst) (sym e) (All-nil IsOfFirst)

pub one_pushed : (ts us : List Live) (t : Live) → us ≡ ts ++ t ∷ [] → All IsOfFirst ts → IsOfFirst t → All IsOfFirst us
one_pushed ts us t e h o = subst (All IsOfFirst) (sym e) (All-push IsOfFirst ts t h o)
