use Rattle.std.proofs.Common.{slice_get}
use Rattle.word_run.proofs.running.run_named.Given as goal

-- the queue of each inbox is that of its opening
abbrev pub ghosts-run_posted : goal.ghosts-run_posted
ghosts-run_posted g a = record { queue = λ number. slice_get a.openings.items number }
