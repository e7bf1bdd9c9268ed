use Rattle.std.proofs.Common.{◌≡◌, length}
use Rattle.prgr_core.specs.Reading.{event_lines_of, list_on, list_at}
use Rattle.prgr_core.proofs.reading.list_at.Given as goal

-- what is left goes on as the whole does
abbrev pub invariant-lines : goal.invariant-lines
invariant-lines l = list_on l.members l.watchers l.number l.events (event_lines_of l.rest).ended (event_lines_of l.rest).tail ≡ list_at l.members l.watchers l.fn.text

abbrev pub decreases-lines : goal.decreases-lines
decreases-lines l = length l.rest
