use Rattle.std.proofs.Common.{◌≡◌, drop}
use Rattle.prgr_core.specs.Reading.{number_on, event_number}
use Rattle.prgr_core.proofs.reading.number_of.Given as goal

-- what was read so far goes on as the whole does
abbrev pub invariant-loop-byte : goal.invariant-loop-byte
invariant-loop-byte l = number_on l.number (drop l.byte-index l.rest) ≡ event_number l.fn.text
