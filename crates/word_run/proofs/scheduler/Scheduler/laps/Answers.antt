use Rattle.std.proofs.Common.{◌∙◌, subst, arith}
use Rattle.word_run.specs.SliceTurns.{HadItsLaps}
use Rattle.word_run.proofs.SliceTurns.{turns_on}
use Rattle.word_run.proofs.scheduler.Scheduler.laps.Goals as goal

-- no lap was made yet
pub loop-init : goal.loop-init
loop-init g c = record {
  number = c.wake_up.ensures.number;
  told = c.wake_up.ensures.told;
  few = omega arith;
  turns = c.wake_up.ensures.turns;
  kept = c.wake_up.ensures.kept;
  answers = λ low. absurd (omega (arith, low));
  awake = c.wake_up.ensures.awake;
}

-- one more was made
pub loop-preserved : goal.loop-preserved
loop-preserved g c = record {
  number = c.lap.ensures.number ∙ c.loop.invariant.number;
  told = c.lap.ensures.told ∙ c.loop.invariant.told;
  few = omega (arith, c.loop-test.true);
  turns = turns_on g.K.Naming.names c.loop.counter 1 c.args.self.now c.loop.self c.lap.new.self c.loop.invariant.turns c.in_ok-lap.ensures.turns;
  kept = c.in_ok-lap.ensures.kept;
  answers = λ low. c.in_ok-lap.ensures.answers;
  awake = c.in_ok-lap.ensures.awake;
}

-- there was a last one
pub returns-clause-answers : goal.returns-clause-answers
returns-clause-answers g c = c.loop.invariant.answers (omega (arith, c.loop-test.false))

-- and there were all
pub returns-clause-turns : goal.returns-clause-turns
returns-clause-turns g c = subst (λ n. HadItsLaps g.K.Naming.names n c.args.self.now c.loop.self) (omega (arith, c.loop-test.false, c.loop.invariant.few)) c.loop.invariant.turns
