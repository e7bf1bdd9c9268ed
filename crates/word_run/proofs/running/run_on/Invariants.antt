use Rattle.std.proofs.Common.{Some}
use Rattle.word_run.proofs.running.run_on.Given as goal

-- the run is over the words that were made, and by the script
abbrev pub ghosts-run_named-N-RunName : goal.ghosts-run_named-N-RunName
ghosts-run_named-N-RunName g a = record { run = Some (record { table = a.shared.table.shared.table_id; opening = a.shared.table.shared.key; script = a.script.now }) }

-- its notes are of these words
abbrev pub ghosts-run_named-T-TableName : goal.ghosts-run_named-T-TableName
ghosts-run_named-T-TableName g a = record { table = Some a.shared.table.shared.table_id }
