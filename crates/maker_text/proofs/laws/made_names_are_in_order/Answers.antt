-- The law is that of proofs/MadeNames.
use Rattle.maker_text.proofs.MadeNames.{names_in_order}
use Rattle.maker_text.proofs.laws.made_names_are_in_order.Goals as goal

pub returns : goal.returns
returns c = names_in_order
