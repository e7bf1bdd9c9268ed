use Rattle.prgr_core.proofs.Sound.{keeps_sound}
use Rattle.prgr_core.proofs.laws.events_keep_the_invariant.Goals as goal

-- each event keeps what makes a state sound
pub returns : goal.returns
returns c = λ s t event sound e. keeps_sound s event t sound e
