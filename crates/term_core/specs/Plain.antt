-- What a `Term` says, as a plain term. A `Term` shows its own form, and below it plain terms.
use Rattle.term_core.specs.declared.term.Term.{Term}
use Rattle.term_core.specs.declared.term.Term.TheVariants.{Int, Atom, Tuple, List as ListOf}
use Rattle.term_core.specs.PlainTerm.{integer_leaf, atom_leaf, tuple_of, list_of, PlainTerm, row_of, terms_of}

-- the plain term of a term
abbrev pub plain : Term → PlainTerm
plain (Int z) = integer_leaf z
plain (Atom a) = atom_leaf a.0
plain (Tuple ts) = tuple_of (row_of ts)
plain (ListOf ts) = list_of (row_of ts)

-- the term of a plain term
abbrev pub term_of : PlainTerm → Term
term_of (integer_leaf z) = Int z
term_of (atom_leaf a) = Atom (record { 0 = a })
term_of (tuple_of row) = Tuple (terms_of row)
term_of (list_of row) = ListOf (terms_of row)
