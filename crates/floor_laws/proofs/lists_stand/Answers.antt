use Rattle.floor_laws.proofs.ListLaws.{write_keeps, other_keeps, raise_keeps, snaps_keep, places_keep, flush_keeps, compaction_keeps, open_keeps}
use Rattle.floor_laws.proofs.lists_stand.Goals as goal

pub returns : goal.returns
returns c = record {
  written = write_keeps;
  beside = other_keeps;
  raised = raise_keeps;
  snapshots = snaps_keep;
  places = places_keep;
  flushed = flush_keeps;
  compacted = compaction_keeps;
  opened = open_keeps;
}
