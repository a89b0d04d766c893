use Rattle.std.proofs.Common.{◌≡◌, sym, ap, ◌∙◌, subst}
use Rattle.std.specs.Prelude.{None}
use Rattle.udt_model.specs.State.{State}
use Rattle.wal.specs.Wals.{wal_file}
use Rattle.client_lang.specs.Print.{print_header}
use Rattle.solo_runner.specs.LoggedStores.{store_state, wal_of}
use Rattle.client_runner.specs.Runs.{HasRunParts, state_of_parts}
use Rattle.client_runner.proofs.Closing.{IsClosed}
use Rattle.client_runner.proofs.RunParts.{parts_over, parts_unmade}
use Rattle.client_runner.proofs.run.run_parts.Goals.{in-Ok, in-Err}
use Rattle.client_runner.proofs.run.run_parts.Goals as goal

pub returns-clause-run : goal.returns-clause-run
returns-clause-run g c =
    let d = g.D.Disk in
    let f = g.D.File.DiskFile in
    let parts = c.args.parts in
    let e = c.close_files.ensures in
    let first = c.new-store.result in
    let new = c.close_files.result in
    let commands = c.args.commands.items in
    let closed : IsClosed d f parts.disk new c.into_file.result c.into_file-2.result = record {
      log_stands = e.log_stands;
      log_leaves = e.log_leaves;
      manifest_stands = e.manifest_stands;
      manifest_leaves = e.manifest_leaves;
      others = e.others;
      others_stand = e.others_stand;
      faults = e.faults;
      later = e.later;
    } in
    let is : store_state first ≡ state_of_parts parts = c.new-store.ensures.state ∙ ap (λ (m : State). let s : State = record m { halted = None } in s) c.of.ensures in
    let wal : wal_of first ≡ parts.wal = c.new-store.ensures.wal in
    elim c.match-header.branch [
      | in-Ok w ↦
          let now = w.run_over-ready.new.store in
          let log = c.into_file.ensures ∙ ap (λ s. wal_file (wal_of s)) w.store-is in
          subst (HasRunParts d f parts new commands) (sym w.ready-is)
          (parts_over d f parts new first now c.into_file.result c.into_file-2.result commands w.in-Ok.header.items w.run_over-ready.result wal is c.requires.fresh log c.into_file-2.ensures closed (w.in-Ok.ensures ∙ ap (print_header parts.last.0) c.deref.ensures.value) w.run_over-ready.ensures)
      | in-Err w ↦
          let log = c.into_file.ensures ∙ ap (λ s. wal_file (wal_of s)) w.store-is in
          subst (HasRunParts d f parts new commands) (sym w.ready-is)
          (parts_unmade d f parts new first c.into_file.result c.into_file-2.result commands _ wal is c.requires.fresh log c.into_file-2.ensures closed)
    ]
