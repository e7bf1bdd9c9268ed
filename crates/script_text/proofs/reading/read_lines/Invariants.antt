use Rattle.script_text.proofs.Common.{length}
use Rattle.script_text.proofs.TextSteps.{AtLine}
use Rattle.script_text.proofs.reading.read_lines.Given as goal

-- none of the lines before was refused
abbrev pub invariant-lines : goal.invariant-lines
invariant-lines l = AtLine l.text l.reader l.number l.rest

abbrev pub decreases-lines : goal.decreases-lines
decreases-lines l = length l.rest
