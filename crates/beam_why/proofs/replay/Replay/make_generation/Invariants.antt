use Rattle.machine_core.specs.LaterStates.{HasAreas}
use Rattle.beam_why.proofs.replay.Replay.make_generation.Given as goal

abbrev pub invariant-loop : goal.invariant-loop
invariant-loop l = HasAreas l.fn.self.server l.self.server
