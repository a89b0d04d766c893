use Rattle.floor_laws.proofs.Members.{In-contains, contains_In}
use Rattle.engine_laws.specs.Logs.{versions_of}
use Rattle.engine_laws.specs.Standing.{live_batches}
use Rattle.engine_laws.proofs.Refused.{dropped_too_early, edit_before_sync, family_differs, logged_is_kept, missing_log, missing_table}
use Rattle.engine_laws.proofs.wrong_orders.Goals as goal

pub returns : goal.returns
returns g c = record {
  sync = edit_before_sync;
  drop = dropped_too_early;
  floor = family_differs;
  kept = λ s m v f h i q lt. In-contains m.versions v (logged_is_kept s m v f h (contains_In (versions_of (live_batches s)) v i) q lt);
  log = missing_log g.G.TableGrammar.spells;
  table = missing_table g.G.TableGrammar.spells;
}
