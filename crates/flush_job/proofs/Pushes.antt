-- Versions that are pushed one after another.
use Rattle.std.proofs.Common.{◌≡◌, List, [], ◌∷◌, ◌++◌, refl, sym, ap, ◌∙◌, append_assoc}
use Rattle.std.proofs.lemmas.List.{append-nil}
use Rattle.ts_key.specs.declared.version.Version.{Version}
use Rattle.ts_key.specs.Items.{Item, item_of, items_of}
use Rattle.block_table.specs.Contents.{Contents}
use Rattle.block_table.specs.Pushed.{and_version}
use Rattle.flush_job.specs.Writing.{and_versions}

items_join : (xs ys : List Version) → items_of (xs ++ ys) ≡ items_of xs ++ items_of ys
items_join [] ys = refl
items_join (x ∷ xs) ys = ap (λ (r : List Item). item_of x ∷ r) (items_join xs ys)

abbrev with_items : Contents → List Item → Contents
with_items t vs = record t { items = vs }

pub no_versions : (t : Contents) → and_versions t [] ≡ t
no_versions t = ap (with_items t) (append-nil t.items)

pub more_versions : (t : Contents) (vs ws : List Version) → and_versions (and_versions t vs) ws ≡ and_versions t (vs ++ ws)
more_versions t vs ws = ap (with_items t) (append_assoc t.items (items_of vs) (items_of ws) ∙ ap (λ (r : List Item). t.items ++ r) (sym (items_join vs ws)))

pub one_version : (t : Contents) (vs : List Version) (v : Version) → and_version (and_versions t vs) v ≡ and_versions t (vs ++ v ∷ [])
one_version t vs v = more_versions t vs (v ∷ [])
