-- The tokens of a written term are those of its text.
use Rattle.std.proofs.Common.{◌≡◌, ℕ, true, false, List, [], ◌∷◌, ◌++◌, refl, sym, ap, ◌∙◌, arith, IsTrue}
use Rattle.std.specs.List.{list_all}
use Rattle.std.proofs.lemmas.List.{append_assoc, append-nil}
use Rattle.term_core.specs.declared.byte_kind.Bracket.{Bracket}
use Rattle.term_core.specs.declared.byte_kind.Bracket.TheVariants.{Curly, Square}
use Rattle.term_core.specs.declared.byte_kind.ByteKind.{ByteKind}
use Rattle.term_core.specs.declared.byte_kind.ByteKind.TheVariants.{Open, Close, Comma}
use Rattle.term_core.specs.Bytes.{kind_of, is_leaf_kind, leaf_front}
use Rattle.term_core.specs.Names.{is_atom_text}
use Rattle.term_core.specs.PlainTerm.{TermOf, RowOf, integer_leaf, atom_leaf, tuple_of, list_of, no_terms, term_then, EachInRow}
use Rattle.term_core.specs.Tokens.{Token, opened, shut, leaf, token_at, tokens_in}
use Rattle.term_core.specs.Written.{WrittenTerm, WrittenRow, written, parted, behind, is_integer_text, HasLeafTexts}
use Rattle.term_core.proofs.ByteKinds.{closing}
use Rattle.term_core.proofs.LeafTexts.{is_leaf_byte, LeafText, IsDelimited, LeafText-integer, LeafText-atom, front_text}
use Rattle.std.proofs.lemmas.Bool.{and_parts}

-- the same of the terms of a row
abbrev pub RowHasLeafTexts : WrittenRow → Type 0
RowHasLeafTexts row = EachInRow (λ text. IsTrue (is_integer_text text)) (λ text. IsTrue (is_atom_text text)) row

-- the tokens of a written term
abbrev mutual
  pub tokens_of : TermOf (List ℕ) (List ℕ) → List Token
  tokens_of (integer_leaf text) = leaf text ∷ []
  tokens_of (atom_leaf text) = leaf text ∷ []
  tokens_of (tuple_of row) = opened Curly ∷ (row_tokens row ++ shut ∷ [])
  tokens_of (list_of row) = opened Square ∷ (row_tokens row ++ shut ∷ [])

  -- the same of a row
  pub row_tokens : RowOf (List ℕ) (List ℕ) → List Token
  row_tokens no_terms = []
  row_tokens (term_then t row) = tokens_of t ++ row_tokens row

-- with a byte of a leaf one begins
token_leaf : (kind : ByteKind) (front : List ℕ) → is_leaf_kind kind ≡ true → token_at false kind front ≡ leaf front ∷ []
token_leaf (Open b) front h = cc
token_leaf (Close b) front h = cc
token_leaf Comma front h = cc
token_leaf kind front h = refl

-- inside of it none does
token_inside : (kind : ByteKind) (front : List ℕ) → is_leaf_kind kind ≡ true → token_at true kind front ≡ []
token_inside (Open b) front h = cc
token_inside (Close b) front h = cc
token_inside Comma front h = cc
token_inside kind front h = refl

-- between terms it makes no difference
token_between : (kind : ByteKind) (front : List ℕ) → is_leaf_kind kind ≡ false → token_at true kind front ≡ token_at false kind front
token_between (Open b) front h = refl
token_between (Close b) front h = refl
token_between Comma front h = refl
token_between kind front h = cc

-- behind a leaf the tokens are those of what is behind
tokens_delimited : (rest : List ℕ) → IsDelimited rest → tokens_in true rest ≡ tokens_in false rest
tokens_delimited [] h = refl
tokens_delimited (c ∷ rest) h = ap (λ ts. ts ++ tokens_in (is_leaf_byte c) rest) (token_between (kind_of c) (leaf_front (c ∷ rest)) h)

-- inside of a leaf there are no others
tokens_inside : (text rest : List ℕ) → list_all is_leaf_byte text ≡ true → IsDelimited rest → tokens_in true (text ++ rest) ≡ tokens_in false rest
tokens_inside [] rest h d = tokens_delimited rest d
tokens_inside (c ∷ text) rest h d =
    let parts = and_parts (is_leaf_byte c) (list_all is_leaf_byte text) h in
    ap (λ ts. ts ++ tokens_in (is_leaf_byte c) (text ++ rest)) (token_inside (kind_of c) (leaf_front (c ∷ (text ++ rest))) parts.0)
    ∙ ap (λ b. tokens_in b (text ++ rest)) parts.0 ∙ tokens_inside text rest parts.1 d

-- a leaf's text is its token
tokens_leaf : (text rest : List ℕ) → LeafText text → IsDelimited rest → tokens_in false (text ++ rest) ≡ leaf text ∷ tokens_in false rest
tokens_leaf [] rest h d = absurd (omega (arith, h.some))
tokens_leaf (c ∷ text) rest h d =
    let parts = and_parts (is_leaf_byte c) (list_all is_leaf_byte text) h.bytes in
    ap (λ ts. ts ++ tokens_in (is_leaf_byte c) (text ++ rest)) (token_leaf (kind_of c) (leaf_front (c ∷ (text ++ rest))) parts.0)
    ∙ ap (λ front. leaf front ∷ tokens_in (is_leaf_byte c) (text ++ rest)) (front_text (c ∷ text) rest h.bytes d)
    ∙ ap (λ b. leaf (c ∷ text) ∷ tokens_in b (text ++ rest)) parts.0 ∙ ap (λ ts. leaf (c ∷ text) ∷ ts) (tokens_inside text rest parts.1 d)

-- a closing bracket is its token
tokens_closing : (b : Bracket) (rest : List ℕ) → tokens_in false (closing b ∷ rest) ≡ shut ∷ tokens_in false rest
tokens_closing Curly rest = refl
tokens_closing Square rest = refl

-- and delimits
pub delimited_closing : (b : Bracket) (rest : List ℕ) → IsDelimited (closing b ∷ rest)
delimited_closing Curly rest = refl
delimited_closing Square rest = refl

-- and so does a row behind a term
pub delimited_behind : (row : WrittenRow) (b : Bracket) (rest : List ℕ) → IsDelimited (behind row ++ closing b ∷ rest)
delimited_behind no_terms b rest = delimited_closing b rest
delimited_behind (term_then t row) b rest = refl

-- the text of a written term has its tokens
mutual
  pub tokens_written : (t : TermOf (List ℕ) (List ℕ)) → HasLeafTexts t → (rest : List ℕ) → IsDelimited rest → tokens_in false (written t ++ rest) ≡ tokens_of t ++ tokens_in false rest
  tokens_written (integer_leaf text) h rest d = tokens_leaf text rest (LeafText-integer text h) d
  tokens_written (atom_leaf text) h rest d = tokens_leaf text rest (LeafText-atom text h) d
  tokens_written (tuple_of row) h rest d =
      ap (λ r. opened Curly ∷ tokens_in false r) (append_assoc (parted row) (125 ∷ []) rest) ∙ ap (λ ts. opened Curly ∷ ts) (tokens_parted row h Curly rest)
      ∙ ap (λ ts. opened Curly ∷ ts) (sym (append_assoc (row_tokens row) (shut ∷ []) (tokens_in false rest)))
  tokens_written (list_of row) h rest d =
      ap (λ r. opened Square ∷ tokens_in false r) (append_assoc (parted row) (93 ∷ []) rest) ∙ ap (λ ts. opened Square ∷ ts) (tokens_parted row h Square rest)
      ∙ ap (λ ts. opened Square ∷ ts) (sym (append_assoc (row_tokens row) (shut ∷ []) (tokens_in false rest)))

  -- the same of a row and its closing bracket
  tokens_parted : (row : RowOf (List ℕ) (List ℕ)) → RowHasLeafTexts row → (b : Bracket) (rest : List ℕ) → tokens_in false (parted row ++ closing b ∷ rest) ≡ row_tokens row ++ shut ∷ tokens_in false rest
  tokens_parted no_terms h b rest = tokens_closing b rest
  tokens_parted (term_then t row) h b rest =
      ap (tokens_in false) (append_assoc (written t) (behind row) (closing b ∷ rest)) ∙ tokens_written t h.0 (behind row ++ closing b ∷ rest) (delimited_behind row b rest)
      ∙ ap (λ ts. tokens_of t ++ ts) (tokens_behind row h.1 b rest) ∙ sym (append_assoc (tokens_of t) (row_tokens row) (shut ∷ tokens_in false rest))

  -- and of a row behind a term
  tokens_behind : (row : RowOf (List ℕ) (List ℕ)) → RowHasLeafTexts row → (b : Bracket) (rest : List ℕ) → tokens_in false (behind row ++ closing b ∷ rest) ≡ row_tokens row ++ shut ∷ tokens_in false rest
  tokens_behind no_terms h b rest = tokens_closing b rest
  tokens_behind (term_then t row) h b rest =
      ap (tokens_in false) (append_assoc (written t) (behind row) (closing b ∷ rest)) ∙ tokens_written t h.0 (behind row ++ closing b ∷ rest) (delimited_behind row b rest)
      ∙ ap (λ ts. tokens_of t ++ ts) (tokens_behind row h.1 b rest) ∙ sym (append_assoc (tokens_of t) (row_tokens row) (shut ∷ tokens_in false rest))

-- and no others
pub tokens_is : (form : WrittenTerm) → HasLeafTexts form → tokens_in false (written form) ≡ tokens_of form
tokens_is form h = ap (tokens_in false) (sym (append-nil (written form))) ∙ tokens_written form h [] tt ∙ append-nil (tokens_of form)
