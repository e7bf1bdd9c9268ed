-- What the tokens of a written term are worth: its words, its atoms, its leaves, and the term.
use Rattle.std.proofs.Common.{◌≡◌, ℕ, ◌+◌, cond, List, [], ◌∷◌, ◌++◌, refl, sym, ap, ◌∙◌, subst, arith}
use Rattle.std.proofs.lemmas.List.{append_assoc, append-nil}
use Rattle.term_core.specs.declared.byte_kind.Bracket.{Bracket}
use Rattle.term_core.specs.declared.byte_kind.Bracket.TheVariants.{Curly, Square}
use Rattle.term_core.specs.PlainTerm.{TermOf, RowOf, integer_leaf, atom_leaf, tuple_of, list_of, no_terms, term_then, EachInRow, map_leaves, map_row, row_of, terms_of, atoms_of, row_atoms, term_words, row_words}
use Rattle.term_core.specs.Tokens.{Token, shut, starts, atoms_among, atom_text, integer_text, AreLeaves, built}
use Rattle.term_core.specs.Written.{integer_of, IsTermInteger, HasLeafTexts, IntegersFit}
use Rattle.term_core.proofs.Shapes.{no_atom_text}
use Rattle.term_core.proofs.WrittenTokens.{RowHasLeafTexts, tokens_of, row_tokens}

-- as many terms begin as the image has words
mutual
  pub starts-tokens : (t : TermOf (List ℕ) (List ℕ)) (more : List Token) → starts (tokens_of t ++ more) ≡ term_words t + starts more
  starts-tokens (tuple_of row) more = omega (arith, ap starts (append_assoc (row_tokens row) (shut ∷ []) more), starts-row row (shut ∷ more))
  starts-tokens (list_of row) more = omega (arith, ap starts (append_assoc (row_tokens row) (shut ∷ []) more), starts-row row (shut ∷ more))
  starts-tokens t more = refl

  -- the same of a row
  starts-row : (row : RowOf (List ℕ) (List ℕ)) (more : List Token) → starts (row_tokens row ++ more) ≡ row_words row + starts more
  starts-row no_terms more = omega arith
  starts-row (term_then t row) more =
      omega (arith, ap starts (append_assoc (tokens_of t) (row_tokens row) more), starts-tokens t (row_tokens row ++ more), starts-row row more)

-- the atoms are those of the term
mutual
  pub atoms-tokens : (t : TermOf (List ℕ) (List ℕ)) → HasLeafTexts t → (more : List Token) → atoms_among (tokens_of t ++ more) ≡ atoms_of t ++ atoms_among more
  atoms-tokens (integer_leaf text) h more = ap (λ b. cond b (text ∷ atoms_among more) (atoms_among more)) (no_atom_text text h)
  atoms-tokens (atom_leaf text) h more = ap (λ b. cond b (text ∷ atoms_among more) (atoms_among more)) h
  atoms-tokens (tuple_of row) h more = ap atoms_among (append_assoc (row_tokens row) (shut ∷ []) more) ∙ atoms-row row h (shut ∷ more)
  atoms-tokens (list_of row) h more = ap atoms_among (append_assoc (row_tokens row) (shut ∷ []) more) ∙ atoms-row row h (shut ∷ more)

  -- the same of a row
  atoms-row : (row : RowOf (List ℕ) (List ℕ)) → RowHasLeafTexts row → (more : List Token) → atoms_among (row_tokens row ++ more) ≡ row_atoms row ++ atoms_among more
  atoms-row no_terms h more = refl
  atoms-row (term_then t row) h more =
      ap atoms_among (append_assoc (tokens_of t) (row_tokens row) more) ∙ atoms-tokens t h.0 (row_tokens row ++ more)
      ∙ ap (λ xs. atoms_of t ++ xs) (atoms-row row h.1 more) ∙ sym (append_assoc (atoms_of t) (row_atoms row) (atoms_among more))

-- each leaf of a term that fits is one
mutual
  pub leaves-tokens : (t : TermOf (List ℕ) (List ℕ)) → HasLeafTexts t → IntegersFit t → (more : List Token) → AreLeaves more → AreLeaves (tokens_of t ++ more)
  leaves-tokens (integer_leaf text) h fits more k = (integer_text h fits, k)
  leaves-tokens (atom_leaf text) h fits more k = (atom_text h, k)
  leaves-tokens (tuple_of row) h fits more k = subst AreLeaves (sym (append_assoc (row_tokens row) (shut ∷ []) more)) (leaves-row row h fits (shut ∷ more) k)
  leaves-tokens (list_of row) h fits more k = subst AreLeaves (sym (append_assoc (row_tokens row) (shut ∷ []) more)) (leaves-row row h fits (shut ∷ more) k)

  -- the same of a row
  leaves-row : (row : RowOf (List ℕ) (List ℕ)) → RowHasLeafTexts row → EachInRow (λ text. IsTermInteger (integer_of text)) (λ _. Unit {0}) row → (more : List Token) → AreLeaves more → AreLeaves (row_tokens row ++ more)
  leaves-row no_terms h fits more k = k
  leaves-row (term_then t row) h fits more k =
      subst AreLeaves (sym (append_assoc (tokens_of t) (row_tokens row) more)) (leaves-tokens t h.0 fits.0 (row_tokens row ++ more) (leaves-row row h.1 fits.1 more k))

-- a row as a list and as a row
pub row_of-terms_of : {Z A : Type 0} (row : RowOf Z A) → row_of (terms_of row) ≡ row
row_of-terms_of no_terms = refl
row_of-terms_of (term_then t row) = ap (term_then t) (row_of-terms_of row)

-- a list as a row and as a list
pub terms_of-row_of : {Z A : Type 0} (terms : List (TermOf Z A)) → terms_of (row_of terms) ≡ terms
terms_of-row_of [] = refl
terms_of-row_of (t ∷ terms) = ap (λ ts. t ∷ ts) (terms_of-row_of terms)

-- the tokens of a term make it, with another thing at each leaf
mutual
  pub built-tokens : {Z A : Type 0} (f : List ℕ → Z) (g : List ℕ → A) (t : TermOf (List ℕ) (List ℕ)) → HasLeafTexts t → (more : List Token) (terms : List (TermOf Z A)) (outer : List (Bracket × List (TermOf Z A))) →
      built f g (tokens_of t ++ more) terms outer ≡ built f g more (terms ++ map_leaves f g t ∷ []) outer
  built-tokens f g (integer_leaf text) h more terms outer = ap (λ b. built f g more (terms ++ cond b (atom_leaf (g text)) (integer_leaf (f text)) ∷ []) outer) (no_atom_text text h)
  built-tokens f g (atom_leaf text) h more terms outer = ap (λ b. built f g more (terms ++ cond b (atom_leaf (g text)) (integer_leaf (f text)) ∷ []) outer) h
  built-tokens f g (tuple_of row) h more terms outer =
      ap (λ ts. built f g ts [] ((Curly, terms) ∷ outer)) (append_assoc (row_tokens row) (shut ∷ []) more) ∙ built-row f g row h (shut ∷ more) [] ((Curly, terms) ∷ outer)
      ∙ ap (λ r. built f g more (terms ++ tuple_of r ∷ []) outer) (row_of-terms_of (map_row f g row))
  built-tokens f g (list_of row) h more terms outer =
      ap (λ ts. built f g ts [] ((Square, terms) ∷ outer)) (append_assoc (row_tokens row) (shut ∷ []) more) ∙ built-row f g row h (shut ∷ more) [] ((Square, terms) ∷ outer)
      ∙ ap (λ r. built f g more (terms ++ list_of r ∷ []) outer) (row_of-terms_of (map_row f g row))

  -- the same of a row, whose terms stand one behind another
  built-row : {Z A : Type 0} (f : List ℕ → Z) (g : List ℕ → A) (row : RowOf (List ℕ) (List ℕ)) → RowHasLeafTexts row → (more : List Token) (terms : List (TermOf Z A)) (outer : List (Bracket × List (TermOf Z A))) →
      built f g (row_tokens row ++ more) terms outer ≡ built f g more (terms ++ terms_of (map_row f g row)) outer
  built-row f g no_terms h more terms outer = ap (λ ts. built f g more ts outer) (sym (append-nil terms))
  built-row f g (term_then t row) h more terms outer =
      ap (λ ts. built f g ts terms outer) (append_assoc (tokens_of t) (row_tokens row) more) ∙ built-tokens f g t h.0 (row_tokens row ++ more) terms outer
      ∙ built-row f g row h.1 more (terms ++ map_leaves f g t ∷ []) outer
      ∙ ap (λ ts. built f g more ts outer) (append_assoc terms (map_leaves f g t ∷ []) (terms_of (map_row f g row)))
