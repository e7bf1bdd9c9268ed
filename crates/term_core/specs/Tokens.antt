-- The parts of a term's text as the code takes them: brackets, and the texts of integers and atoms. Commas are left out.
use Rattle.std.specs.Prelude.{ℕ, ◌+◌, Bool, ◌&&◌, not, if◌then◌else◌, List, [], ◌∷◌, ◌++◌, Option, None, Some, IsTrue}
use Rattle.term_core.specs.declared.byte_kind.Bracket.{Bracket}
use Rattle.term_core.specs.declared.byte_kind.Bracket.TheVariants.{Curly, Square}
use Rattle.term_core.specs.declared.byte_kind.ByteKind.{ByteKind}
use Rattle.term_core.specs.declared.byte_kind.ByteKind.TheVariants.{Open, Close}
use Rattle.term_core.specs.Bytes.{kind_of, is_leaf_kind, leaf_front}
use Rattle.term_core.specs.Names.{is_atom_text, names_with}
use Rattle.term_core.specs.PlainTerm.{TermOf, integer_leaf, atom_leaf, tuple_of, list_of, row_of}
use Rattle.term_core.specs.Tops.{without_top}
use Rattle.term_core.specs.Written.{IsTermInteger, is_term_integer, is_integer_text, integer_of, place_or}

-- an opening bracket, a closing one, or the text of an integer or atom
pub data Token : Type 0 where
  opened : Bracket → Token
  shut : Token
  leaf : List ℕ → Token

-- what begins with a byte of this kind: nothing new inside of an integer or atom
abbrev pub begins : Bool → ByteKind → Bool
begins inside kind = is_leaf_kind kind && not inside

-- the token of a byte, if one begins there
abbrev pub token_at : Bool → ByteKind → List ℕ → List Token
token_at inside (Open b) front = opened b ∷ []
token_at inside (Close b) front = shut ∷ []
token_at inside kind front = if begins inside kind then leaf front ∷ [] else []

-- the tokens of a text, behind a byte of an integer or atom or not
abbrev pub tokens_in : Bool → List ℕ → List Token
tokens_in inside [] = []
tokens_in inside (c ∷ rest) = token_at inside (kind_of c) (leaf_front (c ∷ rest)) ++ tokens_in (is_leaf_kind (kind_of c)) rest

-- how many terms begin with a byte: one of a leaf, or one in brackets
abbrev pub word_at : Bool → ByteKind → ℕ
word_at inside (Open b) = 1
word_at inside (Close b) = 0
word_at inside kind = if begins inside kind then 1 else 0

-- how many terms begin
abbrev pub starts : List Token → ℕ
starts [] = 0
starts (opened b ∷ tokens) = 1 + starts tokens
starts (shut ∷ tokens) = starts tokens
starts (leaf text ∷ tokens) = 1 + starts tokens

-- the atoms among the tokens
abbrev pub atoms_among : List Token → List (List ℕ)
atoms_among [] = []
atoms_among (opened b ∷ tokens) = atoms_among tokens
atoms_among (shut ∷ tokens) = atoms_among tokens
atoms_among (leaf text ∷ tokens) = if is_atom_text text then text ∷ atoms_among tokens else atoms_among tokens

-- the text is an atom's, or that of an integer that is a term
pub data IsLeaf (text : List ℕ) : Type 0 where
  atom_text : IsTrue (is_atom_text text) → IsLeaf text
  integer_text : IsTrue (is_integer_text text) → IsTermInteger (integer_of text) → IsLeaf text

-- so is each among the tokens
abbrev pub AreLeaves : List Token → Type 0
AreLeaves [] = Unit {0}
AreLeaves (opened b ∷ tokens) = AreLeaves tokens
AreLeaves (shut ∷ tokens) = AreLeaves tokens
AreLeaves (leaf text ∷ tokens) = IsLeaf text × AreLeaves tokens

-- what a leaf is, where integers and atoms are read so
abbrev pub leaf_of : {Z A : Type 0} → (List ℕ → Z) → (List ℕ → A) → List ℕ → TermOf Z A
leaf_of f g text = if is_atom_text text then atom_leaf (g text) else integer_leaf (f text)

-- what stands in such brackets
abbrev pub bracketed : {Z A : Type 0} → Bracket → List (TermOf Z A) → TermOf Z A
bracketed Curly terms = tuple_of (row_of terms)
bracketed Square terms = list_of (row_of terms)

-- the terms behind a closing bracket: those in front of its brackets, and what stood in them
abbrev pub shut_terms : {Z A : Type 0} → List (TermOf Z A) → List (Bracket × List (TermOf Z A)) → List (TermOf Z A)
shut_terms terms [] = terms
shut_terms terms (frame ∷ outer) = frame.1 ++ bracketed frame.0 terms ∷ []

-- the terms that tokens make, behind terms of the innermost brackets, and open brackets with the terms in front of each
abbrev pub built : {Z A : Type 0} → (List ℕ → Z) → (List ℕ → A) → List Token → List (TermOf Z A) → List (Bracket × List (TermOf Z A)) → List (TermOf Z A)
built f g [] terms outer = terms
built f g (opened b ∷ tokens) terms outer = built f g tokens [] ((b, terms) ∷ outer)
built f g (leaf text ∷ tokens) terms outer = built f g tokens (terms ++ leaf_of f g text ∷ []) outer
built f g (shut ∷ tokens) terms outer = built f g tokens (shut_terms terms outer) (without_top outer)

-- the names behind a leaf
abbrev pub names_with_leaf : List (List ℕ) → List ℕ → List (List ℕ)
names_with_leaf names text = if is_atom_text text then names_with names text else names

-- whether it is an integer's text, and the integer is no term
abbrev pub is_outside : List ℕ → Bool
is_outside text = is_integer_text text && not (is_term_integer (integer_of text))

-- the place of the first integer that is no term, behind a byte of an integer or atom or not
abbrev pub outside_at : Bool → List ℕ → Option ℕ
outside_at inside [] = None
outside_at inside (c ∷ rest) = if begins inside (kind_of c) && is_outside (leaf_front (c ∷ rest)) then Some 0 else place_or None 1 (outside_at (is_leaf_kind (kind_of c)) rest)
