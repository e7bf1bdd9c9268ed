-- What is left of the words has the image of the whole, while terms are needed.
use Rattle.std.proofs.Common.{◌≡◌, ◌+◌, ◌*◌, ◌≤◌, None, drop}
use Rattle.term_core.specs.ImageWords.{found_len}
use Rattle.term_core.specs.Written.{place_or}
use Rattle.term_core.proofs.image_reading.found_len.Given as goal

-- not many, since each word needs at most 64
abbrev pub invariant-loop-at : goal.invariant-loop-at
invariant-loop-at l = record {
  whole : place_or None l.at (found_len l.needed (drop l.at l.words)) ≡ found_len 1 l.words;
  some : 1 ≤ l.needed;
  few : l.needed ≤ 1 + 64 * l.at;
}
