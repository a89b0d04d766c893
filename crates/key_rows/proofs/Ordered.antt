-- Lists in order, one version longer.
use Rattle.std.proofs.Common.{◌≡◌, false, List, [], ◌∷◌, Some, sym, ap, ◌∙◌, subst}
use Rattle.std.specs.Prelude.{slice_get}
use Rattle.ts_key.specs.declared.version.Version.{Version}
use Rattle.ts_key.specs.Order.{is_before}
use Rattle.ts_key.specs.Items.{Item, item_of, items_of}
use Rattle.ts_key.specs.Lists.{IsOrdered}
use Rattle.ts_key.specs.Ordered.{rest_after}

ordered_more : (v w : Item) (ws : List Item) → is_before w.sort_key v.sort_key ≡ false → IsOrdered (w ∷ ws) → IsOrdered (v ∷ w ∷ ws)
ordered_more v w ws upto rest = ((upto, rest_after v w ws upto rest.0), rest)

pub ordered_front : (vs : List Version) (first next : Version) (rest : List Version) → vs ≡ first ∷ rest → Some next ≡ slice_get rest 0 → is_before (item_of next).sort_key (item_of first).sort_key ≡ false → IsOrdered (items_of rest) → IsOrdered (items_of vs)
ordered_front vs first next [] is n h o = absurd cc
ordered_front vs first next (w ∷ ws) is n h o =
    let same : w ≡ next = cc in
    subst (λ (l : List Version). IsOrdered (items_of l)) (sym is) (ordered_more (item_of first) (item_of w) (items_of ws) (ap (λ (u : Version). is_before (item_of u).sort_key (item_of first).sort_key) same ∙ h) o)
