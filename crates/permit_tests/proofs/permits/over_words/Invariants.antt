-- The run is over the words that were made, and by the script.
use Rattle.std.proofs.Common.{Some}
use Rattle.permit_tests.proofs.permits.over_words.Given as goal

abbrev pub ghosts-over_run : goal.ghosts-over_run
ghosts-over_run g a = record { run = Some (record { table = a.shared.now.table.shared.table_id; opening = a.shared.now.table.shared.key; script = a.script }) }
