-- What the layers above see of the text of a term that stands among other words of a line: whether it is one, its atoms, its size, and
-- the term that it says. Source: this project's profile of Erlang's term notation. Each is a function of the text; a law says that they
-- are those of the one written term with that text.
use Rattle.std.specs.Prelude.{◌≡◌, ℕ, ◌==◌, ◌||◌, ◌&&◌, Bool, true, false, List, [], ◌∷◌, pos, is_none, is_some, unwrap_or, All, IsSome, IsTrue}
use Rattle.term_core.specs.declared.term.Term.{Term}
use Rattle.term_core.specs.Faults.{IsTextOf}
use Rattle.term_core.specs.Names.{number_of}
use Rattle.term_core.specs.Plain.{plain}
use Rattle.term_core.specs.PlainTerm.{TermOf, PlainTerm, integer_leaf, atom_leaf, tuple_of, list_of, map_leaves, atoms_of, term_words}
use Rattle.term_core.specs.Scanning.{at_start, syntax_fault}
use Rattle.term_core.specs.TermText.{number_in, names_with_all, term_text}
use Rattle.term_core.specs.Tokens.{tokens_in, starts, atoms_among, built, outside_at}
use Rattle.term_core.specs.Tops.{top_of}
use Rattle.term_core.specs.Written.{WrittenTerm, integer_of, outside_of}

-- whether a text is a term's, whatever the size of its numbers
unfoldable pub is_term_text : List ℕ → Bool
is_term_text text = is_none (syntax_fault at_start text)

-- whether a text begins with an opening bracket
abbrev pub is_bracketed : List ℕ → Bool
is_bracketed [] = false
is_bracketed (c ∷ rest) = c == 123 || c == 91

-- whether a text is that of a tuple or a list
abbrev pub is_complex_text : List ℕ → Bool
is_complex_text text = is_bracketed text && is_term_text text

-- the written term with this text; of another text, anything
unfoldable pub tree_of : List ℕ → WrittenTerm
tree_of text = unwrap_or (top_of (built (λ t. t) (λ t. t) (tokens_in false text) [] [])) (integer_leaf [])

-- the atoms of a term's text, in order
unfoldable pub term_atoms : List ℕ → List (List ℕ)
term_atoms text = atoms_among (tokens_in false text)

-- how many words the image of its term has
unfoldable pub text_words : List ℕ → ℕ
text_words text = starts (tokens_in false text)

-- whether it has an integer that is no term's
unfoldable pub is_wide_text : List ℕ → Bool
is_wide_text text = is_some (outside_at false text)

-- the term that it says under these names
unfoldable pub term_in : List (List ℕ) → List ℕ → PlainTerm
term_in names text = unwrap_or (top_of (built integer_of (number_in names) (tokens_in false text) [] [])) (integer_leaf (pos 0))

-- the text is that of this written term, and all that is read of the text is the term's
pub record IsFormOf (text : List ℕ) (form : WrittenTerm) : Type 0 where
  pub is_text : IsTextOf text form
  pub tree : tree_of text ≡ form
  pub atoms : term_atoms text ≡ atoms_of form
  pub words : text_words text ≡ term_words form
  pub wide : is_wide_text text ≡ is_some (outside_of form)
  pub value : (names : List (List ℕ)) → term_in names text ≡ map_leaves integer_of (number_in names) form

-- whether a term stands in brackets
abbrev pub is_in_brackets : {Z A : Type 0} → TermOf Z A → Bool
is_in_brackets (integer_leaf z) = false
is_in_brackets (atom_leaf a) = false
is_in_brackets (tuple_of row) = true
is_in_brackets (list_of row) = true

-- what is printed of a term is read as that term, by the same names
pub record IsPrinted (names : List (List ℕ)) (term : Term) : Type 0 where
  pub is_text : IsTrue (is_term_text (term_text names term))
  pub narrow : is_wide_text (term_text names term) ≡ false
  pub words : text_words (term_text names term) ≡ term_words (plain term)
  pub value : term_in names (term_text names term) ≡ plain term
  pub held : All (λ atom. IsSome (number_of names atom)) (term_atoms (term_text names term))
  pub kept : names_with_all names (term_atoms (term_text names term)) ≡ names
