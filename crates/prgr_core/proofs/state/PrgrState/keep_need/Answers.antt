use Rattle.prgr_core.proofs.Sound.{kept_sound}
use Rattle.prgr_core.proofs.state.PrgrState.keep_need.Goals as goal

-- a need that is kept leaves a sound state sound
pub invariant_of-self : goal.invariant_of-self
invariant_of-self c = kept_sound c.keep_need.result c.self.inside.progress c.keep_need.new.progress c.self.invariant c.keep_need.ensures.ok c.keep_need.ensures.err
