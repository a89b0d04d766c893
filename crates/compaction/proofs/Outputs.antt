-- Tables that are made one after another.
use Rattle.std.proofs.Common.{◌≡◌, ℕ, ◌+◌, ◌<◌, ◌≤◌, Bool, List, [], ◌∷◌, ◌++◌, map, refl, sym, ap, subst, ◌∙◌, arith, append_assoc}
use Rattle.std.specs.Prelude.{IfOk, OnOk, Option, Some, None, Result, Ok, Err}
use Rattle.std.specs.List.{AllByRecursion}
use Rattle.std.proofs.lemmas.List.{append-nil, map-append}
use Rattle.ts_key.specs.declared.numbers.Family.{Family}
use Rattle.ts_key.specs.declared.numbers.Ts.{Ts}
use Rattle.ts_key.specs.declared.version.Form.{Form}
use Rattle.ts_key.specs.declared.version.Version.{Version}
use Rattle.ts_key.specs.Items.{Item, item_of, items_of}
use Rattle.ts_key.specs.Lists.{joined_lists}
use Rattle.udt_disk.specs.declared.file.DiskFile as file
use Rattle.history_gc.specs.Pushed.{AreInOrder}
use Rattle.block_table.specs.Contents.{Contents, first_key}
use Rattle.super_version.specs.declared.jobs.JobFiles as job
use Rattle.super_version.specs.declared.jobs.Output.{Output}
use Rattle.flush_job.specs.declared.feed.Feed.{Ghosts}
use Rattle.flush_job.specs.declared.kept.Kept.{Kept}
use Rattle.flush_job.specs.Keeping.{GivesOne, all_of, kept_of, left_of}
use Rattle.compaction.specs.Drawing.{AreDrawn, AreHeld, AreOutputsNumbered, IsDrawn, StillGives}
use Rattle.compaction.specs.Filling.{key_of}
use Rattle.compaction.specs.Made.{AreCutBefore, AreTablesOf, HoldsOutput, IsOutput, contents_of_outputs}
use Rattle.compaction.specs.Making.{IsNearer, IsNext}
use Rattle.compaction.proofs.Drawn.{drawn_more, goes_none, goes_on, held_more, held_on, numbered_more}
use Rattle.compaction.proofs.Pieces.{cut_snoc}

none_on : (n : ℕ) → n ≤ n
none_on n = omega arith

joined_snoc : (xs : List (List Item)) (ys : List Item) → joined_lists (xs ++ ys ∷ []) ≡ joined_lists xs ++ ys
joined_snoc [] ys = append-nil ys
joined_snoc (x ∷ xs) ys = ap (λ l. x ++ l) (joined_snoc xs ys) ∙ sym (append_assoc x (joined_lists xs) ys)

all_snoc : {X : Type 0} (P : X → Type 0) (xs : List X) (x : X) → AllByRecursion P xs → P x → AllByRecursion P (xs ++ x ∷ [])
all_snoc P [] x h p = (p, tt)
all_snoc P (y ∷ ys) x h p = (h.0, all_snoc P ys x h.1 p)

module _ {S J F : Type 0} (g : Ghosts S) (G : job.Ghosts J F) (D : file.Ghosts F) (family : Family) (form : Form) (floor : Ts) (is_told is_model : Bool) where
  -- The outputs hold what was given so far, and this version comes next, where there is one.
  pub record Making (k : Kept S) (start files : J) (outs : List (Output F)) (next : Option Version) : Type 0 where
    pub given : List Version
    pub hold : joined_lists (map (λ (o : Output F). o.table.contents.items) outs) ≡ items_of given
    pub cut : AreCutBefore (key_of next) (contents_of_outputs outs)
    pub gives : GivesOne g k given next
    pub each : AllByRecursion (IsOutput D family form floor is_told is_model) outs
    pub held : AreHeld G D files outs
    pub numbered : AreOutputsNumbered (G.above start) (G.above files) outs
    pub goes : StillGives G start files
    pub faults : G.faults files ≡ G.faults start
    pub drawn : AreDrawn G start files outs

  pub making_none : (k : Kept S) (start : J) (next : Option Version) → GivesOne g k [] next → Making k start start [] next
  making_none k start next h = record {
    given = [];
    hold = refl;
    cut = tt;
    gives = h;
    each = tt;
    held = tt;
    numbered = none_on (G.above start);
    goes = goes_none G D start;
    faults = refl;
    drawn = refl;
  }

  module _ (k more : Kept S) (start files next : J) (outs : List (Output F)) (v : Version) (o : Output F) (then_ : Option Version)
      (m : Making k start files outs (Some v)) (n : IsNext g family form floor more m.given v o.table.contents then_)
      (table : HoldsOutput D is_told is_model o) (drawn : IsDrawn G files next o.number) (goes : StillGives G files next)
    where
      begins : first_key o.table.contents.items ≡ v.key
      begins = ap (λ (t : Contents). first_key t.items) n.contents ∙ ap (λ (vs : List Version). first_key (items_of vs)) n.first.1

      contents_more : contents_of_outputs (outs ++ o ∷ []) ≡ contents_of_outputs outs ++ o.table.contents ∷ []
      contents_more = map-append (λ (p : Output F). p.table.contents) outs (o ∷ [])

      output : IsOutput D family form floor is_told is_model o
      output = record {
        family_is = ap (λ (t : Contents). t.family) n.contents;
        form_is = ap (λ (t : Contents). t.form) n.contents;
        collected_by = ap (λ (t : Contents). t.collected_by) n.contents;
        held = table;
      }

      pub making_more : Making more start next (outs ++ o ∷ []) then_
      making_more = record {
        given = m.given ++ n.own;
        hold =
            ap joined_lists (map-append (λ (p : Output F). p.table.contents.items) outs (o ∷ []))
            ∙ joined_snoc (map (λ (p : Output F). p.table.contents.items) outs) o.table.contents.items
            ∙ ap (λ l. l ++ o.table.contents.items) m.hold
            ∙ ap (λ (t : Contents). items_of m.given ++ t.items) n.contents
            ∙ sym (map-append item_of m.given n.own);
        cut = subst (AreCutBefore (key_of then_)) (sym contents_more) (cut_snoc (key_of then_) (contents_of_outputs outs) o.table.contents (subst (λ z. AreCutBefore (Some z) (contents_of_outputs outs)) (sym begins) m.cut) n.piece n.ends);
        gives = n.gave;
        each = all_snoc (IsOutput D family form floor is_told is_model) outs o m.each output;
        held = held_more G D next outs o (held_on G D files next (G.above start) (G.above files) outs m.numbered goes.others m.held) (record { name = table.name; gave = drawn.gave; faults = table.faults });
        numbered = numbered_more (G.above start) (G.above files) (G.above next) outs o m.numbered drawn.low drawn.high;
        goes = goes_on G D start files next m.goes goes;
        faults = drawn.faults ∙ m.faults;
        drawn = drawn_more G start files next outs o m.drawn drawn;
      }

  pub making_end : (k : Kept S) (start files : J) (outs : List (Output F)) (next : Option Version) → next ≡ None → Making k start files outs next → AreTablesOf D family form floor is_told is_model (kept_of g k) outs × AreInOrder (all_of g k)
  making_end k start files outs None e m = (record { hold = m.hold ∙ ap items_of m.gives.0; cut = m.cut; each = m.each }, m.gives.1)
  making_end k start files outs (Some v) e m = cc

-- how often a table may still be made
abbrev pub steps_left : Option Version → ℕ → ℕ
steps_left None n = 0
steps_left (Some v) n = n + 1

pub nearer : {S : Type 0} (g : Ghosts S) (old new : Kept S) (before more : Option Version) (v : Version) → before ≡ Some v → IsNearer g old new more → steps_left more (left_of g new) < steps_left before (left_of g old)
nearer g old new None more v e h = cc
nearer g old new (Some u) None v e h = omega arith
nearer g old new (Some u) (Some w) v e h = let l : left_of g new < left_of g old = h in omega (arith, l)

-- ---- answers that are told by what else holds

pub if_ok_on : {T E : Type 0} (r : Result T E) (B : Type 0) (P Q : T → Type 0) → (B → (x : T) → P x → Q x) → OnOk r B → IfOk r P → IfOk r Q
if_ok_on (Ok x) B P Q f b p = f b x p
if_ok_on (Err e) B P Q f b p = tt

pub on_ok_on : {T E : Type 0} (r : Result T E) (A B : Type 0) → (A → B) → OnOk r A → OnOk r B
on_ok_on (Ok x) A B f a = f a
on_ok_on (Err e) A B f a = tt
