-- The stored words are those of the term.
use Rattle.staging.proofs.PlaceCalls.{if_ok_more, term_words_at}
use Rattle.staging.proofs.placing.incoming_words.Goals as goal

pub returns-in-HoldArea : goal.returns-in-HoldArea
returns-in-HoldArea c =
    if_ok_more c.words-in-HoldArea.result c.words-in-HoldArea.ensures (λ words is. term_words_at c.args.change.now _ _ _ _ _ _ _ c.in-HoldArea.is c.requires.fits c.args.place c.args.serial c.requires.there words is)
