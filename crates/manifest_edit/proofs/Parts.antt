-- The parts of an edit are known by their bytes; and where a reader of one stops, none is spelled.
use Rattle.std.proofs.Common.{false, ◌==◌, ◌≡◌, ◌≢◌, ℕ, ◌^◌, ◌<◌, List, [], ◌∷◌, ◌++◌, length, refl, sym, ap, ◌∙◌, arith}
use Rattle.std.specs.Prelude.{Option, Some, None}
use Rattle.std.proofs.lemmas.List.{append_assoc, append-nil}
use Rattle.ts_key.specs.Numbers.{number_bytes}
use Rattle.ts_key.specs.Reading.{SpellsNone}
use Rattle.ts_key.proofs.NumberBytes.{number_bytes-unique}
use Rattle.manifest_edit.specs.Edits.{IsWord, IsTableWords, AreCounted, IsSizedFamily, IsSizedPart, IsSized, IsEdit, counted_text, numbers_text, table_text, family_edit_text, part_text, edit_text}
use Rattle.manifest_edit.proofs.Fronts.{first_none, later_none, counted_same}
use Rattle.manifest_edit.specs.declared.edit.TableAt.{TableAt}
use Rattle.manifest_edit.specs.declared.edit.FamilyEdit.{FamilyEdit}
use Rattle.manifest_edit.specs.declared.edit.Edit.{Edit}

-- the first bytes of lists, and the others
heads : (x y : ℕ) (xs ys : List ℕ) → x ∷ xs ≡ y ∷ ys → (x ≡ y) × (xs ≡ ys)
heads x y xs ys same = (cc same, cc same)

two_same : {A B C : Type 0} (f : A → B → C) {a x : A} {b y : B} → a ≡ x → b ≡ y → f a b ≡ f x y
two_same {A} f {x = x} {b = b} p q = ap (λ (v : A). f v b) p ∙ ap (f x) q

five_same : {A B C D E G : Type 0} (f : A → B → C → D → E → G) {a a2 : A} {b b2 : B} {c c2 : C} {d d2 : D} {e e2 : E} → a ≡ a2 → b ≡ b2 → c ≡ c2 → d ≡ d2 → e ≡ e2 → f a b c d e ≡ f a2 b2 c2 d2 e2
five_same {A} {B} {C} {D} f {a2 = a2} {b = b} {b2 = b2} {c = c} {c2 = c2} {d = d} {d2 = d2} {e = e} pa pb pc pd pe =
    ap (λ (v : A). f v b c d e) pa ∙ ap (λ (v : B). f a2 v c d e) pb ∙ ap (λ (v : C). f a2 b2 v d e) pc ∙ ap (λ (v : D). f a2 b2 c2 v e) pd ∙ ap (f a2 b2 c2 d2) pe

abbrev family_edit : ℕ → ℕ → ℕ → List TableAt → List ℕ → FamilyEdit
family_edit family floor through add remove = record { family = record { 0 = family }; floor = record { 0 = floor }; through = record { 0 = through }; add = add; remove = remove }

abbrev whole_edit : List ℕ → List ℕ → ℕ → ℕ → Option FamilyEdit → Edit
whole_edit add drop next last family = record { add_logs = add; drop_logs = drop; next_file = next; last = record { 0 = last }; family = family }

-- five parts, one behind the other
pub five_parts : (old m1 m2 m3 m4 new a b c d e : List ℕ) → old ≡ a ++ m1 → m1 ≡ b ++ m2 → m2 ≡ c ++ m3 → m3 ≡ d ++ m4 → m4 ≡ e ++ new → old ≡ (a ++ (b ++ (c ++ (d ++ e)))) ++ new
five_parts old m1 m2 m3 m4 new a b c d e one two three four five =
    let whole : old ≡ a ++ (b ++ (c ++ (d ++ (e ++ new)))) = cc in
    whole ∙ sym (simp append_assoc)

-- ---- numbers

pub words_unique : (v w : ℕ) (r s : List ℕ) → IsWord v → IsWord w → number_bytes 8 v ++ r ≡ number_bytes 8 w ++ s → (v ≡ w) × (r ≡ s)
words_unique v w r s fits_v fits_w same = number_bytes-unique 8 v w r s (omega arith) (omega arith) same

pub shorts_unique : (v w : ℕ) (r s : List ℕ) → v < 2 ^ 32 → w < 2 ^ 32 → number_bytes 4 v ++ r ≡ number_bytes 4 w ++ s → (v ≡ w) × (r ≡ s)
shorts_unique v w r s fits_v fits_w same = number_bytes-unique 4 v w r s (omega arith) (omega arith) same

pub numbers_unique : (v w : List ℕ) (r s : List ℕ) → AreCounted IsWord v → AreCounted IsWord w → numbers_text v ++ r ≡ numbers_text w ++ s → (v ≡ w) × (r ≡ s)
numbers_unique = counted_same (number_bytes 8) IsWord words_unique

-- ---- tables

pub tables_unique_one : (v w : TableAt) (r s : List ℕ) → IsTableWords v → IsTableWords w → table_text v ++ r ≡ table_text w ++ s → (v ≡ w) × (r ≡ s)
tables_unique_one v w r s fits_v fits_w same =
    let level = heads v.level w.level (number_bytes 8 v.number ++ r) (number_bytes 8 w.number ++ s) same in
    let number = words_unique v.number w.number r s fits_v.number fits_w.number level.1 in
    (two_same (λ (l n : ℕ). let t : TableAt = record { level = l; number = n } in t) level.0 number.0, number.1)

pub tables_unique : (v w : List TableAt) (r s : List ℕ) → AreCounted IsTableWords v → AreCounted IsTableWords w → counted_text table_text v ++ r ≡ counted_text table_text w ++ s → (v ≡ w) × (r ≡ s)
tables_unique = counted_same table_text IsTableWords tables_unique_one

-- no table where there is no byte
pub level_none : (old : List ℕ) → length old < 1 → SpellsNone table_text IsTableWords old
level_none old short t rest sized is = absurd (omega (arith, ap length is))

-- no table where no number follows the level
pub number_none : (level : ℕ) (old mid : List ℕ) → old ≡ level ∷ mid → SpellsNone (number_bytes 8) (λ n. n < 2 ^ 64) mid → SpellsNone table_text IsTableWords old
number_none level old mid here none t rest sized is =
    none t.number rest sized.number (heads level t.level mid (number_bytes 8 t.number ++ rest) (sym here ∙ is)).1

-- ---- a family

abbrev pub from_removed : FamilyEdit → List ℕ
from_removed e = numbers_text e.remove

abbrev pub from_added : FamilyEdit → List ℕ
from_added e = counted_text table_text e.add ++ from_removed e

abbrev pub from_through : FamilyEdit → List ℕ
from_through e = number_bytes 8 e.through.0 ++ from_added e

abbrev pub from_floor : FamilyEdit → List ℕ
from_floor e = number_bytes 8 e.floor.0 ++ from_through e

-- nothing is spelled behind this part of a family
pub family_none : (old : List ℕ) → SpellsNone (number_bytes 4) (λ n. n < 2 ^ 32) old → SpellsNone family_edit_text IsSizedFamily old
family_none old none = first_none (number_bytes 4) (λ n. n < 2 ^ 32) (λ (e : FamilyEdit). e.family.0) from_floor IsSizedFamily (λ e sized. sized.family) old none

pub floor_none : (old : List ℕ) → SpellsNone (number_bytes 8) (λ n. n < 2 ^ 64) old → SpellsNone from_floor IsSizedFamily old
floor_none old none = first_none (number_bytes 8) (λ n. n < 2 ^ 64) (λ (e : FamilyEdit). e.floor.0) from_through IsSizedFamily (λ e sized. sized.floor) old none

pub through_none : (old : List ℕ) → SpellsNone (number_bytes 8) (λ n. n < 2 ^ 64) old → SpellsNone from_through IsSizedFamily old
through_none old none = first_none (number_bytes 8) (λ n. n < 2 ^ 64) (λ (e : FamilyEdit). e.through.0) from_added IsSizedFamily (λ e sized. sized.through) old none

pub added_none : (old : List ℕ) → SpellsNone (counted_text table_text) (AreCounted IsTableWords) old → SpellsNone from_added IsSizedFamily old
added_none old none = first_none (counted_text table_text) (AreCounted IsTableWords) (λ (e : FamilyEdit). e.add) from_removed IsSizedFamily (λ e sized. sized.added) old none

pub removed_none : (old : List ℕ) → SpellsNone (counted_text (number_bytes 8)) (AreCounted IsWord) old → SpellsNone from_removed IsSizedFamily old
removed_none old none e rest sized is = none e.remove rest sized.removed is

-- nothing is spelled where this part is there and none follows it
pub behind_family : (n : ℕ) (old mid : List ℕ) → n < 2 ^ 32 → old ≡ number_bytes 4 n ++ mid → SpellsNone from_floor IsSizedFamily mid → SpellsNone family_edit_text IsSizedFamily old
behind_family = later_none (number_bytes 4) (λ n. n < 2 ^ 32) shorts_unique (λ (e : FamilyEdit). e.family.0) from_floor IsSizedFamily (λ e sized. sized.family)

pub behind_floor : (n : ℕ) (old mid : List ℕ) → n < 2 ^ 64 → old ≡ number_bytes 8 n ++ mid → SpellsNone from_through IsSizedFamily mid → SpellsNone from_floor IsSizedFamily old
behind_floor = later_none (number_bytes 8) IsWord words_unique (λ (e : FamilyEdit). e.floor.0) from_through IsSizedFamily (λ e sized. sized.floor)

pub behind_through : (n : ℕ) (old mid : List ℕ) → n < 2 ^ 64 → old ≡ number_bytes 8 n ++ mid → SpellsNone from_added IsSizedFamily mid → SpellsNone from_through IsSizedFamily old
behind_through = later_none (number_bytes 8) IsWord words_unique (λ (e : FamilyEdit). e.through.0) from_added IsSizedFamily (λ e sized. sized.through)

pub behind_added : (ts : List TableAt) (old mid : List ℕ) → AreCounted IsTableWords ts → old ≡ counted_text table_text ts ++ mid → SpellsNone from_removed IsSizedFamily mid → SpellsNone from_added IsSizedFamily old
behind_added = later_none (counted_text table_text) (AreCounted IsTableWords) tables_unique (λ (e : FamilyEdit). e.add) from_removed IsSizedFamily (λ e sized. sized.added)

pub families_unique : (v w : FamilyEdit) (r s : List ℕ) → IsSizedFamily v → IsSizedFamily w → family_edit_text v ++ r ≡ family_edit_text w ++ s → (v ≡ w) × (r ≡ s)
families_unique v w r s fits_v fits_w same =
    let spread : (e : FamilyEdit) (t : List ℕ) → family_edit_text e ++ t ≡ number_bytes 4 e.family.0 ++ (number_bytes 8 e.floor.0 ++ (number_bytes 8 e.through.0 ++ (counted_text table_text e.add ++ (numbers_text e.remove ++ t)))) = λ e t. sym (five_parts _ _ _ _ _ t (number_bytes 4 e.family.0) (number_bytes 8 e.floor.0) (number_bytes 8 e.through.0) (counted_text table_text e.add) (numbers_text e.remove) refl refl refl refl refl) in
    let one = shorts_unique v.family.0 w.family.0 _ _ fits_v.family fits_w.family (sym (spread v r) ∙ same ∙ spread w s) in
    let two = words_unique v.floor.0 w.floor.0 _ _ fits_v.floor fits_w.floor one.1 in
    let three = words_unique v.through.0 w.through.0 _ _ fits_v.through fits_w.through two.1 in
    let four = tables_unique v.add w.add _ _ fits_v.added fits_w.added three.1 in
    let five = numbers_unique v.remove w.remove r s fits_v.removed fits_w.removed four.1 in
    (five_same family_edit one.0 two.0 three.0 four.0 five.0, five.1)

-- ---- a family part

pub flag_none : (old : List ℕ) → length old < 1 → SpellsNone part_text IsSizedPart old
flag_none old short None rest sized is = absurd (omega (arith, ap length is))
flag_none old short (Some e) rest sized is = absurd (omega (arith, ap length is))

pub other_flag : (flag : ℕ) (old mid : List ℕ) → flag ≢ 0 → flag ≢ 1 → old ≡ flag ∷ mid → SpellsNone part_text IsSizedPart old
other_flag flag old mid some other here None rest sized is = some (heads flag 0 mid rest (sym here ∙ is)).0
other_flag flag old mid some other here (Some e) rest sized is = other (heads flag 1 mid (family_edit_text e ++ rest) (sym here ∙ is)).0

pub behind_flag : (old mid : List ℕ) → old ≡ 1 ∷ mid → SpellsNone family_edit_text IsSizedFamily mid → SpellsNone part_text IsSizedPart old
behind_flag old mid here none None rest sized is = absurd (cc (sym (heads 1 0 mid rest (sym here ∙ is)).0))
behind_flag old mid here none (Some e) rest sized is = none e rest sized (heads 1 1 mid (family_edit_text e ++ rest) (sym here ∙ is)).1

pub parts_unique : (v w : Option FamilyEdit) (r s : List ℕ) → IsSizedPart v → IsSizedPart w → part_text v ++ r ≡ part_text w ++ s → (v ≡ w) × (r ≡ s)
parts_unique None None r s fits_v fits_w same = (refl, (heads 0 0 r s same).1)
parts_unique None (Some w) r s fits_v fits_w same = absurd (omega (arith, (heads 0 1 r (family_edit_text w ++ s) same).0))
parts_unique (Some v) None r s fits_v fits_w same = absurd (omega (arith, (heads 1 0 (family_edit_text v ++ r) s same).0))
parts_unique (Some v) (Some w) r s fits_v fits_w same =
    let more = families_unique v w r s fits_v fits_w (heads 1 1 (family_edit_text v ++ r) (family_edit_text w ++ s) same).1 in
    (ap (λ (e : FamilyEdit). Some e) more.0, more.1)

-- ---- an edit

abbrev pub from_part : Edit → List ℕ
from_part e = part_text e.family

abbrev pub from_last : Edit → List ℕ
from_last e = number_bytes 8 e.last.0 ++ from_part e

abbrev pub from_next : Edit → List ℕ
from_next e = number_bytes 8 e.next_file ++ from_last e

abbrev pub from_dropped : Edit → List ℕ
from_dropped e = numbers_text e.drop_logs ++ from_next e

abbrev pub from_logs : Edit → List ℕ
from_logs e = numbers_text e.add_logs ++ from_dropped e

pub kind_none : (old : List ℕ) → length old < 1 → SpellsNone edit_text IsSized old
kind_none old short e rest sized is = absurd (omega (arith, ap length is))

pub other_kind : (kind : ℕ) (old mid : List ℕ) → kind ≢ 2 → old ≡ kind ∷ mid → SpellsNone edit_text IsSized old
other_kind kind old mid other here e rest sized is = other (heads kind 2 mid (from_logs e ++ rest) (sym here ∙ is)).0

pub behind_kind : (kind : ℕ) (old mid : List ℕ) → kind ≡ 2 → old ≡ kind ∷ mid → SpellsNone from_logs IsSized mid → SpellsNone edit_text IsSized old
behind_kind kind old mid two here none e rest sized is = none e rest sized (heads kind 2 mid (from_logs e ++ rest) (sym here ∙ is)).1

pub logs_none : (old : List ℕ) → SpellsNone (counted_text (number_bytes 8)) (AreCounted IsWord) old → SpellsNone from_logs IsSized old
logs_none old none = first_none (counted_text (number_bytes 8)) (AreCounted IsWord) (λ (e : Edit). e.add_logs) from_dropped IsSized (λ e sized. sized.added) old none

pub dropped_none : (old : List ℕ) → SpellsNone (counted_text (number_bytes 8)) (AreCounted IsWord) old → SpellsNone from_dropped IsSized old
dropped_none old none = first_none (counted_text (number_bytes 8)) (AreCounted IsWord) (λ (e : Edit). e.drop_logs) from_next IsSized (λ e sized. sized.dropped) old none

pub next_none : (old : List ℕ) → SpellsNone (number_bytes 8) (λ n. n < 2 ^ 64) old → SpellsNone from_next IsSized old
next_none old none = first_none (number_bytes 8) (λ n. n < 2 ^ 64) (λ (e : Edit). e.next_file) from_last IsSized (λ e sized. sized.next) old none

pub last_none : (old : List ℕ) → SpellsNone (number_bytes 8) (λ n. n < 2 ^ 64) old → SpellsNone from_last IsSized old
last_none old none = first_none (number_bytes 8) (λ n. n < 2 ^ 64) (λ (e : Edit). e.last.0) from_part IsSized (λ e sized. sized.last) old none

pub part_none : (old : List ℕ) → SpellsNone part_text IsSizedPart old → SpellsNone from_part IsSized old
part_none old none e rest sized is = none e.family rest sized.part is

pub behind_logs : (ns : List ℕ) (old mid : List ℕ) → AreCounted IsWord ns → old ≡ numbers_text ns ++ mid → SpellsNone from_dropped IsSized mid → SpellsNone from_logs IsSized old
behind_logs = later_none (counted_text (number_bytes 8)) (AreCounted IsWord) numbers_unique (λ (e : Edit). e.add_logs) from_dropped IsSized (λ e sized. sized.added)

pub behind_dropped : (ns : List ℕ) (old mid : List ℕ) → AreCounted IsWord ns → old ≡ numbers_text ns ++ mid → SpellsNone from_next IsSized mid → SpellsNone from_dropped IsSized old
behind_dropped = later_none (counted_text (number_bytes 8)) (AreCounted IsWord) numbers_unique (λ (e : Edit). e.drop_logs) from_next IsSized (λ e sized. sized.dropped)

pub behind_next : (n : ℕ) (old mid : List ℕ) → n < 2 ^ 64 → old ≡ number_bytes 8 n ++ mid → SpellsNone from_last IsSized mid → SpellsNone from_next IsSized old
behind_next = later_none (number_bytes 8) IsWord words_unique (λ (e : Edit). e.next_file) from_last IsSized (λ e sized. sized.next)

pub behind_last : (n : ℕ) (old mid : List ℕ) → n < 2 ^ 64 → old ≡ number_bytes 8 n ++ mid → SpellsNone from_part IsSized mid → SpellsNone from_last IsSized old
behind_last = later_none (number_bytes 8) IsWord words_unique (λ (e : Edit). e.last.0) from_part IsSized (λ e sized. sized.last)

-- an edit is known by its bytes
pub edits_unique : (v w : Edit) (r s : List ℕ) → IsSized v → IsSized w → edit_text v ++ r ≡ edit_text w ++ s → (v ≡ w) × (r ≡ s)
edits_unique v w r s fits_v fits_w same =
    let spread : (e : Edit) (t : List ℕ) → from_logs e ++ t ≡ numbers_text e.add_logs ++ (numbers_text e.drop_logs ++ (number_bytes 8 e.next_file ++ (number_bytes 8 e.last.0 ++ (part_text e.family ++ t)))) = λ e t. sym (five_parts _ _ _ _ _ t (numbers_text e.add_logs) (numbers_text e.drop_logs) (number_bytes 8 e.next_file) (number_bytes 8 e.last.0) (part_text e.family) refl refl refl refl refl) in
    let kind = (heads 2 2 (from_logs v ++ r) (from_logs w ++ s) same).1 in
    let one = numbers_unique v.add_logs w.add_logs _ _ fits_v.added fits_w.added (sym (spread v r) ∙ kind ∙ spread w s) in
    let two = numbers_unique v.drop_logs w.drop_logs _ _ fits_v.dropped fits_w.dropped one.1 in
    let three = words_unique v.next_file w.next_file _ _ fits_v.next fits_w.next two.1 in
    let four = words_unique v.last.0 w.last.0 _ _ fits_v.last fits_w.last three.1 in
    let five = parts_unique v.family w.family r s fits_v.part fits_w.part four.1 in
    (five_same whole_edit one.0 two.0 three.0 four.0 five.0, five.1)

-- a whole body
pub edit_read : (body rest : List ℕ) (e : Edit) → IsSized e → body ≡ edit_text e ++ rest → length rest ≡ 0 → IsEdit body e
edit_read body [] e sized is none = record { sized = sized; is = is ∙ append-nil (edit_text e) }
edit_read body (n ∷ rest) e sized is none = absurd (omega arith)

-- bytes behind an edit are no part of one
pub edit_over : (body rest : List ℕ) (e : Edit) → IsSized e → body ≡ edit_text e ++ rest → (length rest ≡ 0 → ⊥) → (other : Edit) → IsEdit body other → ⊥
edit_over body rest e sized is some other read =
    let same = edits_unique e other rest [] sized read.sized (sym is ∙ read.is ∙ sym (append-nil (edit_text other))) in
    some (ap length same.1)

-- a body that begins with no edit
pub no_edit : (body : List ℕ) → SpellsNone edit_text IsSized body → (other : Edit) → IsEdit body other → ⊥
no_edit body none other read = none other [] read.sized (read.is ∙ sym (append-nil (edit_text other)))

-- bytes that are left over
pub some_left : (n : ℕ) → false ≡ (n == 0) → n ≡ 0 → ⊥
some_left n test none = cc (test ∙ ap (λ (m : ℕ). m == 0) none)
