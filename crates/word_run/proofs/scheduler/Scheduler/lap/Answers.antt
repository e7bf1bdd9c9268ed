use Rattle.std.proofs.lemmas.Result.{on_ok_weaker}
use Rattle.word_run.proofs.Answering.{answers_on}
use Rattle.word_run.proofs.Noting.{named_table}
use Rattle.word_run.proofs.SliceTurns.{lap_turns, ok_two}
use Rattle.word_run.proofs.Slices.{keeps_asked}
use Rattle.word_run.proofs.scheduler.Scheduler.lap.Goals as goal

pub arrive-requires-clause-table : goal.arrive-requires-clause-table
arrive-requires-clause-table g c = named_table g.N.RunName.run g.T.TableName.table _ _ c.requires.words c.requires.table

-- what arrived is kept
pub turns_of_lap-requires-clause-kept : goal.turns_of_lap-requires-clause-kept
turns_of_lap-requires-clause-kept g c κs within = keeps_asked g.K.Naming.names _ _ c.arrive.new.self c.in_ok-self.field-0 c.arrive.ensures.kept

-- the answers of this lap
pub returns-clause-answers : goal.returns-clause-answers
returns-clause-answers g c =
    on_ok_weaker c.turns_of_lap.result
    (answers_on g.E.RoundName.answered _ _ _ c.turns_of_lap.new.self (record { over = c.in_ok-self.ensures; emptied = c.arrive.ensures.emptied; taken = c.arrive.ensures.taken }))
    c.turns_of_lap.ensures.answers

-- each process had one turn
pub returns-clause-turns : goal.returns-clause-turns
returns-clause-turns g c =
    on_ok_weaker c.turns_of_lap.result
    (λ both. lap_turns g.K.Naming.names _ _ c.args.self.now c.arrive.new.self c.turns_of_lap.new.self c.in_ok-self.field-0 c.requires.kept c.arrive.ensures.kept both.1 c.arrive.ensures.arrived both.0)
    (ok_two c.turns_of_lap.result _ _ c.turns_of_lap.ensures.turns c.turns_of_lap.ensures.kept)
