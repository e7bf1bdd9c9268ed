-- What is left goes on as the whole does.
use Rattle.mod_text.proofs.Common.{◌≡◌, length, []}
use Rattle.mod_text.proofs.Texts.{Extends}
use Rattle.mod_text.proofs.Forms.{bytes_on}
use Rattle.mod_text.proofs.reading.read_lines.Given as goal

abbrev pub invariant-lines : goal.invariant-lines
invariant-lines l = (bytes_on l.names l.reader l.rest ≡ bytes_on l.fn.names [] l.fn.bytes) × Extends l.fn.names l.names

abbrev pub decreases-lines : goal.decreases-lines
decreases-lines l = length l.rest
