-- The canonical text of a module is a text of it.
use Rattle.mod_text.proofs.CanonicalLaw.{canonical_is_text}
use Rattle.mod_text.proofs.printing.canonical_text_reads_back.Goals as goal

pub returns : goal.returns
returns c = canonical_is_text
