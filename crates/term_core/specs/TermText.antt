-- The text of a term: each term has one.
-- Source: this project's profile of Erlang's term notation. The grammar relates whole texts and terms; the code reads bytes.
use Rattle.std.specs.Prelude.{◌≡◌, ℕ, ◌≤◌, List, [], ◌∷◌, length, slice_get, unwrap_or, IsSome}
use Rattle.std.specs.Fmt.{signed_decimal}
use Rattle.term_core.specs.declared.names.TheConstants.{MOST_NAMES}
use Rattle.term_core.specs.declared.term.Term.{Term}
use Rattle.term_core.specs.Names.{number_of, names_with}
use Rattle.term_core.specs.Plain.{plain}
use Rattle.term_core.specs.PlainTerm.{EachLeaf, map_leaves, atoms_of}
pub use Rattle.term_core.specs.Written.{IsTermInteger, is_positive_text, is_integer_text, integer_of}
use Rattle.term_core.specs.Written.{WrittenTerm, written, HasLeafTexts, IntegersFit}

-- a term whose atoms are held by these names, and whose integers are in range
abbrev pub IsTerm : List (List ℕ) → Term → Type 0
IsTerm names term = EachLeaf IsTermInteger (λ atom. IsSome (slice_get names atom)) (plain term)

-- the text of the atom with a number
abbrev pub atom_text : List (List ℕ) → ℕ → List ℕ
atom_text names atom = unwrap_or (slice_get names atom) []

-- the one text of a term
abbrev pub term_text : List (List ℕ) → Term → List ℕ
term_text names term = written (map_leaves signed_decimal (atom_text names) (plain term))

-- the number of the atom with a text that has one
abbrev pub number_in : List (List ℕ) → List ℕ → ℕ
number_in names text = unwrap_or (number_of names text) 0

-- the names after texts were named, one after another
abbrev pub names_with_all : List (List ℕ) → List (List ℕ) → List (List ℕ)
names_with_all names [] = names
names_with_all names (text ∷ texts) = names_with_all (names_with names text) texts

-- under the names before, the text is that of this term, and after it the names are these
pub record TermText (before : List (List ℕ)) (text : List ℕ) (term : Term) (after : List (List ℕ)) : Type 0 where
  pub form : WrittenTerm
  pub whole : text ≡ written form
  pub leaves : HasLeafTexts form
  pub fits : IntegersFit form
  pub named : after ≡ names_with_all before (atoms_of form)
  pub room : length after ≤ MOST_NAMES
  pub value : plain term ≡ map_leaves integer_of (number_in after) form
