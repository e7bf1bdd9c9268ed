use Rattle.word_run.proofs.Logging.{HaveLogged}
use Rattle.word_run.proofs.process_logs.process_logs.Given as goal

-- the logs of the first processes
abbrev pub invariant-loop-number : goal.invariant-loop-number
invariant-loop-number l = HaveLogged l.fn.processes.items l.processes.items l.number l.logs
