-- The canonical text of a script is a text of it, unless it is too long.
use Rattle.script_text.proofs.CanonicalScripts.{canonical_reads}
use Rattle.script_text.proofs.printing.canonical_script_reads_back.Goals as goal

pub returns : goal.returns
returns c = canonical_reads
