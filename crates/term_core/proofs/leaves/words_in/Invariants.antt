-- What is counted, and what is left, is the whole.
use Rattle.std.proofs.Common.{◌≡◌, ◌+◌, ◌≤◌, false, drop}
use Rattle.term_core.specs.Tokens.{starts, tokens_in}
use Rattle.term_core.proofs.leaves.words_in.Given as goal

-- and a byte begins one term at most
abbrev pub invariant-loop-byte : goal.invariant-loop-byte
invariant-loop-byte l = record {
  whole : l.words + starts (tokens_in l.inside (drop l.byte-index l.text)) ≡ starts (tokens_in false l.text);
  few : l.words ≤ l.byte-index;
}
