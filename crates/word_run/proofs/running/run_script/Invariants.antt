use Rattle.std.proofs.Common.{[]}
use Rattle.word_run.specs.Beginning.{exports_after}
use Rattle.word_run.proofs.running.run_script.Given as goal

-- the numbers of names are those of their order
abbrev pub ghosts-run_over : goal.ghosts-run_over
ghosts-run_over g a = record { names = exports_after [] a._functions.now }
