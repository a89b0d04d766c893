-- The same in a folder that has the same tables and logs.
use Rattle.std.proofs.Common.{◌≡◌, ℕ, List, sym, ◌∙◌, subst, inl, inr, ⊎_elim}
use Rattle.ts_key.specs.declared.numbers.Family.{Family}
use Rattle.udt_disk.specs.Crash.{Image}
use Rattle.udt_disk.specs.Joint.{Folder}
use Rattle.udt_disk.specs.declared.name.FileName.TheVariants.{Log, Table}
use Rattle.wal.specs.declared.numbered.Numbered.{Numbered}
use Rattle.wal.specs.Replays.{ReadsAs}
use Rattle.manifest_edit.specs.declared.edit.TableAt.{TableAt}
use Rattle.manifest_fold.specs.declared.fold.FamilyFold.{FamilyFold}
use Rattle.manifest_fold.specs.declared.fold.Folded.{Folded}
use Rattle.manifest.specs.Folds.{sizes_of}
use Rattle.super_version.specs.declared.version.SuperVersion.{SuperVersion}
use Rattle.engine_laws.specs.Standing.{TableReads}
use Rattle.recovery.specs.Opening.{IsShown, RefusesFiles}
use Rattle.recovery.specs.Places.{IsTableOpened, IsTableIn}
use Rattle.recovery.specs.Refusals.{AreReplayed, IsBadLog, IsBadLogFile, IsBadTable, IsMissingTable}
use Rattle.recovery.specs.Tables.{AreTablesInOrder, AreInOrderBelow, IsTableInOrder, ReadsAsTable}
use Rattle.recovery.specs.declared.fault.OpenFault.{OpenFault}
use Rattle.recovery.specs.declared.fault.OpenFault.TheVariants.{NoStore, BadManifest, MissingTable, BadTable, BadLog, DiskFault, NoMemory}
use Rattle.recovery.specs.declared.tables.Opened.{Opened}

-- each table that is in order there is here
module _ (there here : Folder) (tables : (n : ℕ) → here (Table n) ≡ there (Table n)) where
  pub order_here : (family : Family) (f : FamilyFold) (t : TableAt) → IsTableInOrder there family f t → IsTableInOrder here family f t
  order_here family f t order = record {
    says = order.says;
    reads = subst (λ (image : Image). TableReads ReadsAsTable image order.says) (sym (tables t.number)) order.reads;
    fits = order.fits;
    flushed = order.flushed;
    apart = λ u other held less level deep reads. order.apart u other held less level deep (subst (λ (image : Image). TableReads ReadsAsTable image other) (tables u.number) reads);
  }

  below_here : (fold : Folded) (n : ℕ) → AreInOrderBelow fold there n → AreInOrderBelow fold here n
  below_here fold n order family f t live less = order_here family f t (order family f t live less)

  all_here : (fold : Folded) → AreTablesInOrder fold there → AreTablesInOrder fold here
  all_here fold order family f t live = order_here family f t (order family f t live)

  opened_here : (f : FamilyFold) (o : Opened) → IsTableOpened there f o → IsTableOpened here f o
  opened_here f o known = record { held = subst (λ (image : Image). IsTableIn image o.table.table) (sym (tables o.table.number)) known.held; fitting = known.fitting }

module _ (there here : Folder) (fold : Folded) (tables : (n : ℕ) → here (Table n) ≡ there (Table n)) (logs : (n : ℕ) → here (Log n) ≡ there (Log n)) where
  read_here : (sizes : List ℕ) (held : ℕ → List Numbered) (ns : List ℕ) → AreReplayed sizes there held ns → AreReplayed sizes here held ns
  read_here sizes held ns read n there_is = subst (ReadsAs sizes (held n)) (sym (logs n)) (read n there_is)

  pub shown_here : (version : SuperVersion) → IsShown there fold version → IsShown here fold version
  shown_here version shown = record {
    opened = shown.opened;
    tables = record {
      places = shown.tables.places;
      each = λ o f held is. opened_here there here tables f o (shown.tables.each o f held is);
      order = all_here there here tables fold shown.tables.order;
    };
    logs = shown.logs;
    read = read_here (sizes_of fold) shown.logs fold.logs shown.read;
    sequence = shown.sequence;
    behind = shown.behind;
    shows = shown.shows;
  }

  missing_here : (n : ℕ) → IsMissingTable fold there n → IsMissingTable fold here n
  missing_here n missing = record {
    family = missing.family;
    f = missing.f;
    table = missing.table;
    number = missing.number;
    reached = record { live = missing.reached.live; below = below_here there here tables fold missing.table.number missing.reached.below };
    missing = tables n ∙ missing.missing;
  }

  bad_table_here : (n : ℕ) → IsBadTable fold there n → IsBadTable fold here n
  bad_table_here n bad = record {
    family = bad.family;
    f = bad.f;
    table = bad.table;
    number = bad.number;
    reached = record { live = bad.reached.live; below = below_here there here tables fold bad.table.number bad.reached.below };
    there = λ none. bad.there (sym (tables n) ∙ none);
    bad = λ order. bad.bad (order_here here there (λ k. sym (tables k)) bad.family bad.f bad.table order);
  }

  bad_log_here : (n at : ℕ) → IsBadLog fold there n at → IsBadLog fold here n at
  bad_log_here n at bad = record {
    tables = all_here there here tables fold bad.tables;
    why = ⊎_elim
        (λ first. inl (record { before = first.before; after = first.after; is = first.is; logs = first.logs; read = read_here (sizes_of fold) first.logs first.before first.read; bad = subst (λ (image : Image). IsBadLogFile (sizes_of fold) image at) (sym (logs n)) first.bad }))
        (λ refused. inr (record { logs = refused.logs; read = read_here (sizes_of fold) refused.logs fold.logs refused.read; why = refused.why; place = refused.place })) bad.why;
  }

  pub files_here : (e : OpenFault) → RefusesFiles fold there e → RefusesFiles fold here e
  files_here NoStore refused = refused
  files_here (BadManifest at) refused = refused
  files_here (MissingTable n) refused = missing_here n refused
  files_here (BadTable n) refused = bad_table_here n refused
  files_here (BadLog n at) refused = bad_log_here n at refused
  files_here DiskFault refused = tt
  files_here NoMemory refused = tt
