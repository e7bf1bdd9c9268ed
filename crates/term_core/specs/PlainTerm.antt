-- Terms as trees whose leaves are integers and atoms. The code keeps a tuple's and a list's terms in a `Vec`.
-- Source: this project's profile of Erlang's terms. A tree is read in two ways: with numbers for atoms, and with texts at both kinds of leaves, as it is written.
use Rattle.std.specs.Prelude.{ℕ, ◌+◌, ℤ, List, [], ◌∷◌, ◌++◌}

mutual
  -- a term, by what its integers and its atoms are
  pub data TermOf (Z A : Type 0) : Type 0 where
    integer_leaf : Z → TermOf Z A
    atom_leaf : A → TermOf Z A
    tuple_of : RowOf Z A → TermOf Z A
    list_of : RowOf Z A → TermOf Z A

  -- terms in a row
  pub data RowOf (Z A : Type 0) : Type 0 where
    no_terms : RowOf Z A
    term_then : TermOf Z A → RowOf Z A → RowOf Z A

-- a term with numbers for its atoms
abbrev pub PlainTerm : Type 0
PlainTerm = TermOf ℤ ℕ

-- a list of terms as a row
abbrev pub row_of : {Z A : Type 0} → List (TermOf Z A) → RowOf Z A
row_of [] = no_terms
row_of (t ∷ ts) = term_then t (row_of ts)

-- a row of terms as a list
abbrev pub terms_of : {Z A : Type 0} → RowOf Z A → List (TermOf Z A)
terms_of no_terms = []
terms_of (term_then t row) = t ∷ terms_of row

-- how many terms a row has
abbrev pub row_count : {Z A : Type 0} → RowOf Z A → ℕ
row_count no_terms = 0
row_count (term_then t row) = 1 + row_count row

-- another thing at each leaf
abbrev mutual
  pub map_leaves : {Z A Y B : Type 0} → (Z → Y) → (A → B) → TermOf Z A → TermOf Y B
  map_leaves f g (integer_leaf z) = integer_leaf (f z)
  map_leaves f g (atom_leaf a) = atom_leaf (g a)
  map_leaves f g (tuple_of row) = tuple_of (map_row f g row)
  map_leaves f g (list_of row) = list_of (map_row f g row)

  -- the same of a row
  pub map_row : {Z A Y B : Type 0} → (Z → Y) → (A → B) → RowOf Z A → RowOf Y B
  map_row f g no_terms = no_terms
  map_row f g (term_then t row) = term_then (map_leaves f g t) (map_row f g row)

-- a fact of each integer, and one of each atom
abbrev mutual
  pub EachLeaf : {Z A : Type 0} → (Z → Type 0) → (A → Type 0) → TermOf Z A → Type 0
  EachLeaf P Q (integer_leaf z) = P z
  EachLeaf P Q (atom_leaf a) = Q a
  EachLeaf P Q (tuple_of row) = EachInRow P Q row
  EachLeaf P Q (list_of row) = EachInRow P Q row

  -- the same of a row
  pub EachInRow : {Z A : Type 0} → (Z → Type 0) → (A → Type 0) → RowOf Z A → Type 0
  EachInRow P Q no_terms = Unit {0}
  EachInRow P Q (term_then t row) = EachLeaf P Q t × EachInRow P Q row

-- the atoms, in the order in which they are written
abbrev mutual
  pub atoms_of : {Z A : Type 0} → TermOf Z A → List A
  atoms_of (integer_leaf z) = []
  atoms_of (atom_leaf a) = a ∷ []
  atoms_of (tuple_of row) = row_atoms row
  atoms_of (list_of row) = row_atoms row

  -- the same of a row
  pub row_atoms : {Z A : Type 0} → RowOf Z A → List A
  row_atoms no_terms = []
  row_atoms (term_then t row) = atoms_of t ++ row_atoms row

-- how many words the image of a term has: one for each leaf, tuple and list
abbrev mutual
  pub term_words : {Z A : Type 0} → TermOf Z A → ℕ
  term_words (integer_leaf z) = 1
  term_words (atom_leaf a) = 1
  term_words (tuple_of row) = 1 + row_words row
  term_words (list_of row) = 1 + row_words row

  -- the same of a row, without a word of its own
  pub row_words : {Z A : Type 0} → RowOf Z A → ℕ
  row_words no_terms = 0
  row_words (term_then t row) = term_words t + row_words row
