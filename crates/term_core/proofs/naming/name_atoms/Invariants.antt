-- What is left of the text leads to the names of the whole.
use Rattle.std.proofs.Common.{◌≡◌, false, drop}
use Rattle.term_core.specs.Names.{IsNames, Extends}
use Rattle.term_core.specs.TermText.{names_with_all}
use Rattle.term_core.specs.Tokens.{tokens_in, atoms_among}
use Rattle.term_core.proofs.naming.name_atoms.Given as goal

-- with the names so far
abbrev pub invariant-loop-at : goal.invariant-loop-at
invariant-loop-at l = record {
  named : names_with_all l.names (atoms_among (tokens_in l.inside (drop l.at l.text))) ≡ names_with_all l.fn.names (atoms_among (tokens_in false l.text));
  grown : Extends l.fn.names l.names;
  sound : IsNames l.names;
}
