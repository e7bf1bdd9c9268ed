use Rattle.std.proofs.Common.{◌≡◌, ◌+◌, ◌≤◌, length}
use Rattle.outside.specs.Parting.{script_part}
use Rattle.outside.proofs.parting.script_length.Given as goal

-- the lines before the rest belong to the script's part
abbrev pub invariant-lines : goal.invariant-lines
invariant-lines l = record {
  within : length l.rest ≤ length l.bytes;
  part : length (script_part l.bytes) + length l.rest ≡ length l.bytes + length (script_part l.rest);
}

abbrev pub decreases-lines : goal.decreases-lines
decreases-lines l = length l.rest
