use Rattle.word_run.specs.declared.scheduler.TheConstants.{SLICE_LAPS}
use Rattle.word_run.proofs.Answering.{answers_on}
use Rattle.word_run.proofs.SliceTurns.{turns_on}
use Rattle.word_run.proofs.scheduler.Scheduler.slice.Goals as goal

-- the answers of the last lap
pub returns-clause-answers : goal.returns-clause-answers
returns-clause-answers g c = answers_on g.E.RoundName.answered _ _ c.laps.new.self c.go_to_wait.new.self c.in_ok-laps.ensures.answers c.go_to_wait.ensures.answers

-- the turns of all laps
pub returns-clause-turns : goal.returns-clause-turns
returns-clause-turns g c = turns_on g.K.Naming.names SLICE_LAPS 0 c.args.self.now c.laps.new.self c.go_to_wait.new.self c.in_ok-laps.ensures.turns c.go_to_wait.ensures.turns
