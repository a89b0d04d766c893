use Rattle.merge_cursor.proofs.slice.show.Goals as goal

pub returns : goal.returns
returns c =
    let key = c.key_ref.ensures in
    let hit = c.hit.ensures in
    λ i. record { sort_key = key i; kind = (hit i).kind; value = (hit i).value }
