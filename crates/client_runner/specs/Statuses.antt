-- The exit status of the program for each status of a command.
use Rattle.std.specs.Prelude.{ℕ}
use Rattle.client_runner.specs.declared.status.Status.{Status}
use Rattle.client_runner.specs.declared.status.Status.TheVariants.{Done, Usage, Folder, DiskFault, SinkFault, SourceFault, NoMemory}

abbrev pub exit_code : Status → ℕ
exit_code Done = 0
exit_code Usage = 2
exit_code Folder = 3
exit_code DiskFault = 4
exit_code SinkFault = 5
exit_code SourceFault = 6
exit_code NoMemory = 7
