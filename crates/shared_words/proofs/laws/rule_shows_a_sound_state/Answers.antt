use Rattle.shared_words.proofs.SoundState.{shows_sound}
use Rattle.shared_words.proofs.laws.rule_shows_a_sound_state.Goals as goal

-- by grace
pub returns : goal.returns
returns g c = λ opening s r. shows_sound s r
