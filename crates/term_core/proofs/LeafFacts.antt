-- Lemmas on the leaves of terms: what holds of each, and terms with other things at them.
use Rattle.std.proofs.Common.{◌≡◌, ◌+◌, List, [], ◌∷◌, ◌++◌, refl, ap, arith}
use Rattle.term_core.specs.PlainTerm.{TermOf, RowOf, integer_leaf, atom_leaf, tuple_of, list_of, no_terms, term_then, map_leaves, map_row, EachLeaf, EachInRow, atoms_of, row_atoms, term_words, row_words}

-- what holds of each leaf, by another fact
mutual
  pub EachLeaf-weaker : {Z A : Type 0} (P R : Z → Type 0) (Q S : A → Type 0) → ((z : Z) → P z → R z) → ((a : A) → Q a → S a) → (t : TermOf Z A) → EachLeaf P Q t → EachLeaf R S t
  EachLeaf-weaker P R Q S f g (integer_leaf z) h = f z h
  EachLeaf-weaker P R Q S f g (atom_leaf a) h = g a h
  EachLeaf-weaker P R Q S f g (tuple_of row) h = EachInRow-weaker P R Q S f g row h
  EachLeaf-weaker P R Q S f g (list_of row) h = EachInRow-weaker P R Q S f g row h

  -- the same of a row
  pub EachInRow-weaker : {Z A : Type 0} (P R : Z → Type 0) (Q S : A → Type 0) → ((z : Z) → P z → R z) → ((a : A) → Q a → S a) → (row : RowOf Z A) → EachInRow P Q row → EachInRow R S row
  EachInRow-weaker P R Q S f g no_terms h = tt
  EachInRow-weaker P R Q S f g (term_then t row) h = (EachLeaf-weaker P R Q S f g t h.0, EachInRow-weaker P R Q S f g row h.1)

-- two facts of each leaf
mutual
  pub EachLeaf-both : {Z A : Type 0} (P R : Z → Type 0) (Q S : A → Type 0) (t : TermOf Z A) → EachLeaf P Q t → EachLeaf R S t → EachLeaf (λ z. P z × R z) (λ a. Q a × S a) t
  EachLeaf-both P R Q S (tuple_of row) h k = EachInRow-both P R Q S row h k
  EachLeaf-both P R Q S (list_of row) h k = EachInRow-both P R Q S row h k
  EachLeaf-both P R Q S t h k = (h, k)

  -- the same of a row
  EachInRow-both : {Z A : Type 0} (P R : Z → Type 0) (Q S : A → Type 0) (row : RowOf Z A) → EachInRow P Q row → EachInRow R S row → EachInRow (λ z. P z × R z) (λ a. Q a × S a) row
  EachInRow-both P R Q S no_terms h k = tt
  EachInRow-both P R Q S (term_then t row) h k = (EachLeaf-both P R Q S t h.0 k.0, EachInRow-both P R Q S row h.1 k.1)

-- what holds of each leaf that was made of one
mutual
  pub EachLeaf-map : {Z A Y B : Type 0} (P : Y → Type 0) (Q : B → Type 0) (f : Z → Y) (g : A → B) (t : TermOf Z A) → EachLeaf (λ z. P (f z)) (λ a. Q (g a)) t → EachLeaf P Q (map_leaves f g t)
  EachLeaf-map P Q f g (tuple_of row) h = EachInRow-map P Q f g row h
  EachLeaf-map P Q f g (list_of row) h = EachInRow-map P Q f g row h
  EachLeaf-map P Q f g t h = h

  -- the same of a row
  EachInRow-map : {Z A Y B : Type 0} (P : Y → Type 0) (Q : B → Type 0) (f : Z → Y) (g : A → B) (row : RowOf Z A) → EachInRow (λ z. P (f z)) (λ a. Q (g a)) row → EachInRow P Q (map_row f g row)
  EachInRow-map P Q f g no_terms h = tt
  EachInRow-map P Q f g (term_then t row) h = (EachLeaf-map P Q f g t h.0, EachInRow-map P Q f g row h.1)

-- leaves that are made again
mutual
  pub map_leaves-map : {Z A Y B X C : Type 0} (f : Y → X) (g : B → C) (h : Z → Y) (k : A → B) (t : TermOf Z A) → map_leaves f g (map_leaves h k t) ≡ map_leaves (λ z. f (h z)) (λ a. g (k a)) t
  map_leaves-map f g h k (tuple_of row) = ap tuple_of (map_row-map f g h k row)
  map_leaves-map f g h k (list_of row) = ap list_of (map_row-map f g h k row)
  map_leaves-map f g h k t = refl

  -- the same of a row
  map_row-map : {Z A Y B X C : Type 0} (f : Y → X) (g : B → C) (h : Z → Y) (k : A → B) (row : RowOf Z A) → map_row f g (map_row h k row) ≡ map_row (λ z. f (h z)) (λ a. g (k a)) row
  map_row-map f g h k no_terms = refl
  map_row-map f g h k (term_then t row) = λ i. term_then (map_leaves-map f g h k t i) (map_row-map f g h k row i)

-- leaves that are made the same
mutual
  pub map_leaves-same : {Z A Y B : Type 0} (f h : Z → Y) (g k : A → B) (t : TermOf Z A) → EachLeaf (λ z. f z ≡ h z) (λ a. g a ≡ k a) t → map_leaves f g t ≡ map_leaves h k t
  map_leaves-same f h g k (integer_leaf z) e = ap integer_leaf e
  map_leaves-same f h g k (atom_leaf a) e = ap atom_leaf e
  map_leaves-same f h g k (tuple_of row) e = ap tuple_of (map_row-same f h g k row e)
  map_leaves-same f h g k (list_of row) e = ap list_of (map_row-same f h g k row e)

  -- the same of a row
  map_row-same : {Z A Y B : Type 0} (f h : Z → Y) (g k : A → B) (row : RowOf Z A) → EachInRow (λ z. f z ≡ h z) (λ a. g a ≡ k a) row → map_row f g row ≡ map_row h k row
  map_row-same f h g k no_terms e = refl
  map_row-same f h g k (term_then t row) e = λ i. term_then (map_leaves-same f h g k t e.0 i) (map_row-same f h g k row e.1 i)

-- leaves that are left
mutual
  pub map_leaves-id : {Z A : Type 0} (t : TermOf Z A) → map_leaves (λ z. z) (λ a. a) t ≡ t
  map_leaves-id (tuple_of row) = ap tuple_of (map_row-id row)
  map_leaves-id (list_of row) = ap list_of (map_row-id row)
  map_leaves-id t = refl

  -- the same of a row
  map_row-id : {Z A : Type 0} (row : RowOf Z A) → map_row (λ z. z) (λ a. a) row ≡ row
  map_row-id no_terms = refl
  map_row-id (term_then t row) = λ i. term_then (map_leaves-id t i) (map_row-id row i)

-- no word more or less
mutual
  pub term_words-map : {Z A Y B : Type 0} (f : Z → Y) (g : A → B) (t : TermOf Z A) → term_words (map_leaves f g t) ≡ term_words t
  term_words-map f g (tuple_of row) = ap (λ n. 1 + n) (row_words-map f g row)
  term_words-map f g (list_of row) = ap (λ n. 1 + n) (row_words-map f g row)
  term_words-map f g t = refl

  -- the same of a row
  row_words-map : {Z A Y B : Type 0} (f : Z → Y) (g : A → B) (row : RowOf Z A) → row_words (map_row f g row) ≡ row_words row
  row_words-map f g no_terms = refl
  row_words-map f g (term_then t row) = omega (arith, term_words-map f g t, row_words-map f g row)

-- a fact of each element of a list
abbrev pub EachOf : {A : Type 0} → (A → Type 0) → List A → Type 0
EachOf P [] = Unit {0}
EachOf P (x ∷ xs) = P x × EachOf P xs

-- of the elements in front
pub EachOf-front : {A : Type 0} (P : A → Type 0) (xs ys : List A) → EachOf P (xs ++ ys) → EachOf P xs
EachOf-front P [] ys h = tt
EachOf-front P (x ∷ xs) ys h = (h.0, EachOf-front P xs ys h.1)

-- and of those behind
pub EachOf-back : {A : Type 0} (P : A → Type 0) (xs ys : List A) → EachOf P (xs ++ ys) → EachOf P ys
EachOf-back P [] ys h = h
EachOf-back P (x ∷ xs) ys h = EachOf-back P xs ys h.1

-- of both
pub EachOf-append : {A : Type 0} (P : A → Type 0) (xs ys : List A) → EachOf P xs → EachOf P ys → EachOf P (xs ++ ys)
EachOf-append P [] ys h k = k
EachOf-append P (x ∷ xs) ys h k = (h.0, EachOf-append P xs ys h.1 k)

-- what holds of each atom holds of the leaves
mutual
  pub EachLeaf-atoms : {Z A : Type 0} (P : Z → Type 0) (Q S : A → Type 0) (t : TermOf Z A) → EachLeaf P Q t → EachOf S (atoms_of t) → EachLeaf P S t
  EachLeaf-atoms P Q S (integer_leaf z) h k = h
  EachLeaf-atoms P Q S (atom_leaf a) h k = k.0
  EachLeaf-atoms P Q S (tuple_of row) h k = EachInRow-atoms P Q S row h k
  EachLeaf-atoms P Q S (list_of row) h k = EachInRow-atoms P Q S row h k

  -- the same of a row
  EachInRow-atoms : {Z A : Type 0} (P : Z → Type 0) (Q S : A → Type 0) (row : RowOf Z A) → EachInRow P Q row → EachOf S (row_atoms row) → EachInRow P S row
  EachInRow-atoms P Q S no_terms h k = tt
  EachInRow-atoms P Q S (term_then t row) h k = (EachLeaf-atoms P Q S t h.0 (EachOf-front S (atoms_of t) (row_atoms row) k), EachInRow-atoms P Q S row h.1 (EachOf-back S (atoms_of t) (row_atoms row) k))

-- what holds of the leaves holds of each atom
mutual
  pub EachOf-atoms : {Z A : Type 0} (P : Z → Type 0) (Q : A → Type 0) (t : TermOf Z A) → EachLeaf P Q t → EachOf Q (atoms_of t)
  EachOf-atoms P Q (integer_leaf z) h = tt
  EachOf-atoms P Q (atom_leaf a) h = (h, tt)
  EachOf-atoms P Q (tuple_of row) h = EachOf-row P Q row h
  EachOf-atoms P Q (list_of row) h = EachOf-row P Q row h

  -- the same of a row
  EachOf-row : {Z A : Type 0} (P : Z → Type 0) (Q : A → Type 0) (row : RowOf Z A) → EachInRow P Q row → EachOf Q (row_atoms row)
  EachOf-row P Q no_terms h = tt
  EachOf-row P Q (term_then t row) h = EachOf-append Q (atoms_of t) (row_atoms row) (EachOf-atoms P Q t h.0) (EachOf-row P Q row h.1)
