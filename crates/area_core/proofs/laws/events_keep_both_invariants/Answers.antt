use Rattle.area_core.proofs.Sound.{keeps_sound}
use Rattle.area_core.proofs.laws.events_keep_both_invariants.Goals as goal

-- each event keeps what makes a state sound
pub returns : goal.returns
returns c = λ s t event sound e. keeps_sound s t event sound e
