use Rattle.prgr_core.proofs.Sound.{applied_sound}
use Rattle.prgr_core.proofs.state.step.Goals as goal

-- the event, made or refused, leaves a sound state
pub invariant_of-state : goal.invariant_of-state
invariant_of-state c = applied_sound c.apply.result c.state.inside.progress c.apply.new.progress c.args.event c.state.invariant c.apply.ensures.ok c.apply.ensures.err

pub returns-clause-sound : goal.returns-clause-sound
returns-clause-sound c = applied_sound c.apply.result c.state.inside.progress c.apply.new.progress c.args.event c.state.invariant c.apply.ensures.ok c.apply.ensures.err
