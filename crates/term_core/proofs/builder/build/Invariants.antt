-- What is left of the text leads to the terms of the whole.
use Rattle.std.proofs.Common.{◌≡◌, [], false, drop}
use Rattle.term_core.specs.TermText.{number_in}
use Rattle.term_core.specs.Tokens.{AreLeaves, tokens_in, built}
use Rattle.term_core.specs.Written.{integer_of}
use Rattle.term_core.proofs.builder.build.Given as goal

-- with the terms so far
abbrev pub invariant-loop-at : goal.invariant-loop-at
invariant-loop-at l = record {
  terms : built integer_of (number_in l.names) (tokens_in l.inside (drop l.at l.text)) l.builder.terms l.builder.outer ≡ built integer_of (number_in l.names) (tokens_in false l.text) [] [];
  leaves : AreLeaves (tokens_in l.inside (drop l.at l.text));
}
