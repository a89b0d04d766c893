-- Ends of compactions, by what they make.
use Rattle.std.proofs.Common.{◌≡◌, ℕ, zero, suc, ◌+◌, Bool, true, false, not, ◌&&◌, List, [], ◌∷◌, ◌++◌, Option, Some, None, refl, sym, ap, ◌∙◌}
use Rattle.std.specs.Prelude.{filter, is_none, is_some, option_map, slice_get, if◌then◌else◌}
use Rattle.udt_model.specs.declared.reply.Piece.{Piece}
use Rattle.udt_model.specs.declared.reply.Reply.TheVariants.{Halted}
use Rattle.udt_model.specs.State.{FamilyState, LiveTable, Compaction, changed_at, tables_of, tables_of_family, with_table, with_tables}
use Rattle.udt_model.specs.Jobs.{are_new, are_parts, compaction_kept, is_input, numbers_of_pieces, tables_from}
use Rattle.udt_model.specs.Steps.{compacted, with_compaction}
use Rattle.floor_core.specs.declared.event.CoreEvent.TheVariants.{CompactEnd}
use Rattle.floor_core.specs.declared.event.CoreReply.TheVariants as replies
use Rattle.floor_core.specs.Cores.{CoreState, with_live_numbers}
use Rattle.floor_core.specs.Machine.{changed_by, effect, is_accepted, parts_it, told}
use Rattle.floor_core.specs.Steps.{holding_tables, tables_behind}

-- ---- tables put in

pub tables_more : (rest : List LiveTable) (t : LiveTable) (tables : List LiveTable) → with_tables (rest ++ t ∷ []) tables ≡ with_tables rest (with_table t tables)
tables_more [] t tables = refl
tables_more (x ∷ xs) t tables = ap (with_table x) (tables_more xs t tables)

-- ---- the end of a compaction

halt_is : (o : Option ℕ) → is_none (option_map Halted o) ≡ is_none o
halt_is None = refl
halt_is (Some n) = refl

-- the family at a place is changed alike by what makes the same of it
changed_alike : (fs : List FamilyState) (n : ℕ) (inputs : List ℕ) (new : List LiveTable)
    → changed_at n (holding_tables (with_tables new (filter (λ t. not (is_input inputs t)) (tables_of_family (slice_get fs n))))) fs ≡ changed_at n (compacted inputs new) fs
changed_alike [] n inputs new = refl
changed_alike (f ∷ fs) zero inputs new = refl
changed_alike (f ∷ fs) (suc n) inputs new = ap (λ (z : List FamilyState). f ∷ z) (changed_alike fs n inputs new)

test_is : (c : CoreState) (job : Compaction) (pieces : List Piece) → c.store.compaction ≡ Some job → is_accepted c (CompactEnd pieces) ≡ ((is_none c.store.halted && are_new c.store.used (numbers_of_pieces pieces)) && are_parts (compaction_kept c.store job) pieces)
test_is c job pieces e =
    ap (λ b. (b && are_new c.store.used (numbers_of_pieces pieces)) && parts_it c.store c.store.compaction pieces) (halt_is c.store.halted)
    ∙ ap (λ o. (is_none c.store.halted && are_new c.store.used (numbers_of_pieces pieces)) && parts_it c.store o pieces) e

-- tests that fall
first_false : (a x y : Bool) → a ≡ false → ((a && x) && y) ≡ false
first_false true x y e = absurd (cc)
first_false false x y e = refl

rest_false : (a x y : Bool) → (x && y) ≡ false → ((a && x) && y) ≡ false
rest_false true x y e = e
rest_false false x y e = refl

rest_true : (a x y : Bool) → a ≡ true → (x && y) ≡ true → ((a && x) && y) ≡ true
rest_true true x y e f = f
rest_true false x y e f = absurd (cc)

no_job : (c : CoreState) (pieces : List Piece) → c.store.compaction ≡ None → is_accepted c (CompactEnd pieces) ≡ false
no_job c pieces e = ap (λ o. (is_none (option_map Halted c.store.halted) && are_new c.store.used (numbers_of_pieces pieces)) && parts_it c.store o pieces) e ∙ last_false (is_none (option_map Halted c.store.halted) && are_new c.store.used (numbers_of_pieces pieces))
  where
    last_false : (a : Bool) → (a && false) ≡ false
    last_false true = refl
    last_false false = refl

abbrev tables_if : CoreState → Compaction → List Piece → Bool → Option (List LiveTable)
tables_if c job pieces b = if b then Some (with_tables (tables_from job.level (compaction_kept c.store job) pieces) (filter (λ t. not (is_input job.inputs t)) (tables_of c.store job.family))) else None

none_behind : (c : CoreState) (job : Compaction) (pieces : List Piece) → None ≡ tables_behind c.store job pieces → (are_new c.store.used (numbers_of_pieces pieces) && are_parts (compaction_kept c.store job) pieces) ≡ false
none_behind c job pieces e = on (are_new c.store.used (numbers_of_pieces pieces) && are_parts (compaction_kept c.store job) pieces) e
  where
    on : (b : Bool) → None ≡ tables_if c job pieces b → b ≡ false
    on true e = absurd (cc)
    on false e = refl

some_behind : (c : CoreState) (job : Compaction) (pieces : List Piece) (tables : List LiveTable) → Some tables ≡ tables_behind c.store job pieces
    → ((are_new c.store.used (numbers_of_pieces pieces) && are_parts (compaction_kept c.store job) pieces) ≡ true) × (tables ≡ with_tables (tables_from job.level (compaction_kept c.store job) pieces) (filter (λ t. not (is_input job.inputs t)) (tables_of c.store job.family)))
some_behind c job pieces tables e = on (are_new c.store.used (numbers_of_pieces pieces) && are_parts (compaction_kept c.store job) pieces) e
  where
    on : (b : Bool) → Some tables ≡ tables_if c job pieces b → (b ≡ true) × (tables ≡ with_tables (tables_from job.level (compaction_kept c.store job) pieces) (filter (λ t. not (is_input job.inputs t)) (tables_of c.store job.family)))
    on true e = (refl, cc)
    on false e = absurd (cc)

some_halted : (o : Option ℕ) → true ≡ is_some o → is_none o ≡ false
some_halted None e = absurd (cc)
some_halted (Some n) e = refl

none_halted : (o : Option ℕ) → false ≡ is_some o → is_none o ≡ true
none_halted None e = refl
none_halted (Some n) e = absurd (cc)

pub end_accepted : (c : CoreState) (job : Compaction) (pieces : List Piece) (tables : List LiveTable) → false ≡ is_some c.store.halted → Some job ≡ c.store.compaction → Some tables ≡ tables_behind c.store job pieces
    → is_accepted c (CompactEnd pieces) ≡ true
end_accepted c job pieces tables h e some = test_is c job pieces (sym e) ∙ rest_true _ _ _ (none_halted c.store.halted h) (some_behind c job pieces tables some).0

pub end_told : (c : CoreState) (job : Compaction) (pieces : List Piece) (tables : List LiveTable) → false ≡ is_some c.store.halted → Some job ≡ c.store.compaction → Some tables ≡ tables_behind c.store job pieces → replies.Done ≡ told c (CompactEnd pieces)
end_told c job pieces tables h e some = sym (ap (λ b. if b then replies.Done else replies.Refused) (end_accepted c job pieces tables h e some))

pub end_left : (c : CoreState) (job : Compaction) (pieces : List Piece) (tables : List LiveTable) → false ≡ is_some c.store.halted → Some job ≡ c.store.compaction → Some tables ≡ tables_behind c.store job pieces
    → record c { store = with_live_numbers (record c.store { families = changed_at job.family.0 (holding_tables tables) c.store.families; compaction = None }) } ≡ changed_by c (CompactEnd pieces)
end_left c job pieces tables h e some =
    let new = tables_from job.level (compaction_kept c.store job) pieces in
    let same : changed_at job.family.0 (holding_tables tables) c.store.families ≡ changed_at job.family.0 (compacted job.inputs new) c.store.families =
    ap (λ z. changed_at job.family.0 (holding_tables z) c.store.families) (some_behind c job pieces tables some).1 ∙ changed_alike c.store.families job.family.0 job.inputs new in
    ap (λ z. record c { store = with_live_numbers (record c.store { families = z; compaction = None }) }) same
    ∙ ap (λ o. record c { store = with_live_numbers (with_compaction c.store o pieces) }) e
    ∙ sym (ap (λ b. record c { store = if b then with_live_numbers (effect c.store (c.events + 1) (CompactEnd pieces)) else c.store }) (end_accepted c job pieces tables h e some))

-- the same of a list of families that is known to be that
pub end_left_by : (c : CoreState) (job : Compaction) (pieces : List Piece) (tables : List LiveTable) (fs : List FamilyState) → fs ≡ changed_at job.family.0 (holding_tables tables) c.store.families
    → false ≡ is_some c.store.halted → Some job ≡ c.store.compaction → Some tables ≡ tables_behind c.store job pieces → record c { store = with_live_numbers (record c.store { families = fs; compaction = None }) } ≡ changed_by c (CompactEnd pieces)
end_left_by c job pieces tables fs is h e some =
    ap (λ (z : List FamilyState). record c { store = with_live_numbers (record c.store { families = z; compaction = None }) }) is ∙ end_left c job pieces tables h e some
