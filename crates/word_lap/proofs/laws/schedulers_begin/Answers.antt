use Rattle.word_lap.proofs.Beginnings.{begun_is_between, begun_keeps, begun_token}
use Rattle.word_lap.proofs.laws.schedulers_begin.Goals as goal

pub returns : goal.returns
returns c = λ functions opening table number token processes few begun free.
    (begun_token table number token few begun, (begun_is_between table number token few begun, begun_keeps table number token few begun functions opening processes free))
