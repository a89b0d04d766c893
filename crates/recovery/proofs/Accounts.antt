-- The account of an opened folder.
use Rattle.std.proofs.Common.{◌≡◌, ℕ, Bool, ◌==◌, List, [], ◌∷◌, map, refl, sym, ap, ◌∙◌, subst, inl, inr, ⊎_elim}
use Rattle.std.specs.Prelude.{if◌then◌else◌}
use Rattle.std.proofs.lemmas.Bool.{cases_Bool, eq-eqb, eqb-true, false≢true}
use Rattle.udt_disk.specs.Joint.{Folder}
use Rattle.udt_disk.specs.declared.name.FileName.TheVariants.{Table}
use Rattle.udt_model.specs.Crashes.{course_start}
use Rattle.manifest_fold.specs.declared.fold.Folded.{Folded}
use Rattle.block_table.proofs.Unique.{tables_once}
use Rattle.floor_laws.proofs.Members.{In, In-contains, In-map, contains_In, map-In}
use Rattle.engine_laws.specs.Standing.{IsOneSaid, TableReads}
use Rattle.engine_laws.proofs.Fixed.{reads_once}
use Rattle.engine_laws.proofs.Keeping.{same_holds}
use Rattle.engine_laws.proofs.Opened.{opened_holds}
use Rattle.recovery.specs.Laws.{OpenedHolds, OpenedReads, account_of, said_in}
use Rattle.recovery.specs.Places.{AreOpened, IsTableIn, place_in, table_place_of}
use Rattle.recovery.specs.Tables.{ReadsAsTable, says_of}
use Rattle.recovery.specs.declared.live.TablePlace.{TablePlace}
use Rattle.recovery.specs.declared.tables.Opened.{Opened}
use Rattle.recovery.proofs.Placed.{reads_held}

pub one_said : IsOneSaid ReadsAsTable
one_said bytes a b p q = p.is ∙ ap says_of (tables_once bytes p.contents q.contents p.short p.table q.table) ∙ sym q.is

-- a table that was read is what is said under its number
said_reads : (folder : Folder) (opened : List Opened) (n : ℕ) → ((o : Opened) → In o opened → IsTableIn (folder (Table o.table.number)) o.table.table) → (o : Opened) → In o opened → o.table.number ≡ n → TableReads ReadsAsTable (folder (Table n)) (said_in opened n)
said_reads folder [] n each o held is = absurd held
said_reads folder (x ∷ opened) n each o held is = elim (cases_Bool (x.table.number == n)) [
  | inl here ↦
      let number : x.table.number ≡ n = eqb-true x.table.number n here in
      let reads = subst (λ (k : ℕ). TableReads ReadsAsTable (folder (Table k)) (says_of x.table.table.contents)) number (reads_held (folder (Table x.table.number)) x.table.table (each x (inl refl))) in
      subst (λ (b : Bool). TableReads ReadsAsTable (folder (Table n)) (if b then says_of x.table.table.contents else said_in opened n)) (sym here) reads
  | inr other ↦
      let later : In o opened = ⊎_elim (λ same. absurd (false≢true (sym other ∙ eq-eqb x.table.number n (ap (λ (z : Opened). z.table.number) same ∙ is)))) (λ there. there) held in
      let reads = said_reads folder opened n (λ y there. each y (inr there)) o later is in
      subst (λ (b : Bool). TableReads ReadsAsTable (folder (Table n)) (if b then says_of x.table.table.contents else said_in opened n)) (sym other) reads
]

-- the file of each table that was read held it
each_held : (folder : Folder) (fold : Folded) (opened : List Opened) → AreOpened folder fold opened → (o : Opened) → In o opened → IsTableIn (folder (Table o.table.number)) o.table.table
each_held folder fold opened all o held =
    let live = all.places.each (table_place_of o) (In-contains (map table_place_of opened) (table_place_of o) (In-map table_place_of o opened held)) in
    (all.each o live.0 (In-contains opened o held) live.1.family).held

pub opened_reads : OpenedReads
opened_reads folder fold version means shown = record {
  means = means;
  logs = shown.read;
  tables = λ family f t live.
      let at = map-In table_place_of (place_in family t) shown.opened (contains_In (map table_place_of shown.opened) (place_in family t) (shown.tables.places.all (place_in family t) (f, live))) in
      said_reads folder shown.opened t.number (each_held folder fold shown.opened shown.tables) at.0 at.1 (ap (λ (p : TablePlace). p.table.number) at.2);
}

pub opened_states : OpenedHolds
opened_states folder fold version m means shown stands =
    same_holds m (course_start m) stands.says (account_of fold shown) [] (reads_once ReadsAsTable folder stands.says (account_of fold shown) one_said stands.reads (opened_reads folder fold version means shown)) (opened_holds ReadsAsTable folder m stands)
