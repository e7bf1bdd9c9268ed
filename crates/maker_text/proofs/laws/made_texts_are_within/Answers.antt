-- The law is that of proofs/MadeTexts.
use Rattle.maker_text.proofs.MadeTexts.{made_text-within}
use Rattle.maker_text.proofs.laws.made_texts_are_within.Goals as goal

pub returns : goal.returns
returns c = made_text-within
