-- A table that grows by what is given.
use Rattle.std.proofs.Common.{◌≡◌, ◌≢◌, ◌⊎◌, ◌<◌, Bool, true, false, List, [], ◌∷◌, ◌++◌, length, refl, sym, ap, subst, ◌∙◌, arith, append_assoc}
use Rattle.std.specs.Prelude.{Option, Some, None}
use Rattle.std.specs.Bool.{MatchBool}
use Rattle.ts_key.specs.declared.numbers.Family.{Family}
use Rattle.ts_key.specs.declared.numbers.Ts.{Ts}
use Rattle.ts_key.specs.declared.version.Form.{Form}
use Rattle.ts_key.specs.declared.version.Version.{Version}
use Rattle.ts_key.specs.Items.{item_of, items_of}
use Rattle.history_gc.specs.Pushed.{AreInOrder}
use Rattle.block_table.specs.Contents.{Contents, last_user_key}
use Rattle.block_table.specs.Pushed.{HasPushed, and_version, contents_of}
use Rattle.block_table.specs.declared.writer.TableWriter.{TableWriter}
use Rattle.flush_job.specs.declared.feed.Feed.{Ghosts}
use Rattle.flush_job.specs.declared.kept.Kept.{Kept}
use Rattle.flush_job.specs.Keeping.{GivesOne, Keeps, all_of, kept_of}
use Rattle.compaction.specs.Filling.{IsFilled}
use Rattle.compaction.specs.Made.{before_last_key, FillsTable, IsPiece, LeavesRoom}
use Rattle.compaction.proofs.Pieces.{before_one, items_snoc, last_snoc, room_more, sorted_rest}

module _ {S : Type 0} (g : Ghosts S) (family : Family) (form : Form) (floor : Ts) where
  abbrev with : List Version → Contents
  with vs = contents_of family form floor (items_of vs)

  -- so far these versions were given, and those from `front` on, of which this is the last, are in the table
  pub record Filling (k : Kept S) (w : TableWriter) (given : List Version) (first last : Version) : Type 0 where
    pub front : List Version
    pub begins_so : (rest : List Version) × (front ++ last ∷ [] ≡ first ∷ rest)
    pub keeps : Keeps g k (given ++ (front ++ last ∷ []))
    pub pushed : HasPushed w (with (front ++ last ∷ []))
    pub room : LeavesRoom (contents_of family form floor (before_last_key (items_of (front ++ last ∷ []))))

  no_bytes : LeavesRoom (contents_of family form floor [])
  no_bytes = record {
    bytes = 0;
    counted = record { cuts = []; joins = refl; cut = tt; some_each = tt; bytes = refl };
    below = omega arith;
  }

  pub begins : (k : Kept S) (w : TableWriter) (given : List Version) (v : Version) → Keeps g k (given ++ v ∷ []) → HasPushed w (and_version (contents_of family form floor []) v) → Filling k w given v v
  begins k w given v keeps pushed = record {
    front = [];
    begins_so = ([], refl);
    keeps = keeps;
    pushed = pushed;
    room = subst (λ l. LeavesRoom (contents_of family form floor l)) (sym (before_one family form floor v)) no_bytes;
  }

  module _ (k : Kept S) (w : TableWriter) (given : List Version) (first last : Version) (f : Filling k w given first last) where
    abbrev own : List Version
    own = f.front ++ last ∷ []

    pub own_last : last_user_key (items_of own) ≡ last.key
    own_last = ap last_user_key (items_snoc f.front last) ∙ last_snoc (items_of f.front) (item_of last)

    pub own_more : (v : Version) → and_version (with own) v ≡ with (own ++ v ∷ [])
    own_more v = ap (contents_of family form floor) (sym (items_snoc own v))

    regroup : (v : Version) → given ++ (own ++ v ∷ []) ≡ (given ++ own) ++ v ∷ []
    regroup v = sym (append_assoc given own (v ∷ []))

    pub grows : (next : Kept S) (more : TableWriter) (v : Version) → Keeps g next ((given ++ own) ++ v ∷ []) → HasPushed more (and_version (with own) v) → LeavesRoom (with own) ⊎ (last.key ≡ v.key) → Filling next more given first v
    grows next more v keeps pushed how =
        let here : Keeps g next (given ++ (own ++ v ∷ [])) = subst (Keeps g next) (sym (regroup v)) keeps in
        record {
          front = own;
          begins_so = (f.begins_so.0 ++ v ∷ [], ap (λ l. l ++ v ∷ []) f.begins_so.1);
          keeps = here;
          pushed = subst (HasPushed more) (own_more v) pushed;
          room = room_more family form floor f.front last v (sorted_rest given (own ++ v ∷ []) here.in_order) f.room how;
        }

    some_own : (xs : List Version) (v : Version) → 0 < length (items_of (xs ++ v ∷ []))
    some_own [] v = omega arith
    some_own (x ∷ xs) v = let l = some_own xs v in omega arith

    pub piece : IsPiece (with own)
    piece = record { some = some_own f.front last; room = f.room }

    pub ends_none : (next : Kept S) → (given ++ own ≡ kept_of g next) × AreInOrder (all_of g next) → IsFilled g family form floor next given first (record { writer = w; next = None })
    ends_none next h = record {
      own = own;
      first = f.begins_so;
      pushed = f.pushed;
      sorted = sorted_rest given own f.keeps.in_order;
      piece = piece;
      ends = tt;
      next = h;
    }

    pub ends_some : (next : Kept S) (v : Version) → Keeps g next ((given ++ own) ++ v ∷ []) → FillsTable (with own) → last.key ≢ v.key → IsFilled g family form floor next given first (record { writer = w; next = Some v })
    ends_some next v h full other = record {
      own = own;
      first = f.begins_so;
      pushed = f.pushed;
      sorted = sorted_rest given own f.keeps.in_order;
      piece = piece;
      ends = (full, λ e. other (sym own_last ∙ e));
      next = h;
    }

pub when_true : (b : Bool) (A B : Type 0) → b ≡ true → MatchBool b A B → A
when_true true A B e h = h
when_true false A B e h = cc

pub when_false : (b : Bool) (A B : Type 0) → b ≡ false → MatchBool b A B → B
when_false true A B e h = cc
when_false false A B e h = h

-- where none is given any more, all that is kept was given, and all was in order
pub gives_end : {S : Type 0} (g : Ghosts S) (k : Kept S) (given : List Version) (o : Option Version) → o ≡ None → GivesOne g k given o → (given ≡ kept_of g k) × AreInOrder (all_of g k)
gives_end g k given None e h = h
gives_end g k given (Some v) e h = cc
