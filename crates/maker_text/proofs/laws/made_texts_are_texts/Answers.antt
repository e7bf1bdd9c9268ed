-- The law is that of proofs/MadeScriptTexts.
use Rattle.maker_text.proofs.MadeScriptTexts.{made_text-reads}
use Rattle.maker_text.proofs.laws.made_texts_are_texts.Goals as goal

pub returns : goal.returns
returns c = made_text-reads
