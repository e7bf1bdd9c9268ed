use Rattle.report_text.proofs.Common.{◌≡◌, ◌+◌, ◌≤◌, length}
use Rattle.report_text.proofs.Forms.{report_opening, bytes_on}
use Rattle.report_text.proofs.reading.read_lines.Given as goal

-- what is read on is what is read of the whole text
abbrev pub invariant-lines : goal.invariant-lines
invariant-lines l = record {
  so_far : bytes_on l.names l.state l.number l.rest ≡ bytes_on l.names report_opening 1 l.fn.text;
  room : l.number + length l.rest ≤ length l.fn.text + 1;
}

-- the bytes that are left
abbrev pub decreases-lines : goal.decreases-lines
decreases-lines l = length l.rest
