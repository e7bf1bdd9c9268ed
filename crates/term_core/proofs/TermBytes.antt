-- Lemmas on the bytes of the texts of atoms, numbers and terms: names' bytes, the minus, the comma and the brackets of terms.
use Rattle.std.proofs.Common.{◌≡◌, ℕ, ◌<◌, ◌^◌, Bool, true, ◌&&◌, ◌||◌, ◌==◌, ◌++◌, List, [], ◌∷◌, length, decimal, IsTrue, refl, ap, ◌∙◌, arith}
use Rattle.std.specs.Char.{is_ascii_digit, is_ascii_lowercase}
use Rattle.std.specs.List.{list_all}
use Rattle.std.proofs.lemmas.Bool.Decides.{nat_tests}
use Rattle.std.proofs.lemmas.Fmt.{digits_decimal}
use Rattle.term_core.specs.declared.term.Term.{Term}
use Rattle.term_core.specs.Names.{IsNames, is_name_byte, is_atom_text}
use Rattle.term_core.specs.PlainTerm.{TermOf, RowOf, integer_leaf, atom_leaf, tuple_of, list_of, no_terms, term_then}
use Rattle.term_core.specs.TermText.{TermText, IsTerm, term_text}
use Rattle.term_core.specs.Written.{WrittenTerm, written, parted, behind, is_integer_text, HasLeafTexts}
use Rattle.term_core.proofs.GrownTerms.{TermText-term_text}
use Rattle.term_core.proofs.IntegerTexts.{own, Zero, Minus, Plain, shape_of, Positive-from}
use Rattle.term_core.proofs.WrittenTokens.{RowHasLeafTexts}
use Rattle.std.proofs.lemmas.Bool.{and_parts, or_left}

-- what may stand in a term's text
abbrev pub is_term_byte : ℕ → Bool
is_term_byte b = is_name_byte b || (b == 45 || (b == 44 || (b == 91 || (b == 93 || (b == 123 || b == 125)))))

-- a small letter may stand in a name
letter_is_name_byte : (c : ℕ) → is_ascii_lowercase c ≡ true → is_name_byte c ≡ true
letter_is_name_byte c h = grind (arith, nat_tests)

-- a digit may stand in a name
digit_is_name_byte : (c : ℕ) → is_ascii_digit c ≡ true → is_name_byte c ≡ true
digit_is_name_byte c h = grind (arith, nat_tests)

-- each byte of an atom's text is a name's
pub name_bytes-atom : (text : List ℕ) → IsTrue (is_atom_text text) → list_all is_name_byte text ≡ true
name_bytes-atom [] h = cc
name_bytes-atom (c ∷ rest) h =
    let parts = and_parts (is_ascii_lowercase c) _ h in
    let tail = and_parts (list_all is_name_byte rest) _ parts.1 in
    ap (λ b. b && list_all is_name_byte rest) (letter_is_name_byte c parts.0) ∙ tail.0

-- and so may digits
name_bytes-digits : (text : List ℕ) → list_all is_ascii_digit text ≡ true → list_all is_name_byte text ≡ true
name_bytes-digits [] h = refl
name_bytes-digits (c ∷ rest) h =
    let parts = and_parts (is_ascii_digit c) (list_all is_ascii_digit rest) h in
    ap (λ b. b && list_all is_name_byte rest) (digit_is_name_byte c parts.0) ∙ name_bytes-digits rest parts.1

-- each byte of a number's text is a digit, and so a name's
pub digits-decimal : (n : ℕ) → n < 2 ^ 64 → list_all is_ascii_digit (decimal n) ≡ true
digits-decimal n small = digits_decimal own n small

-- and so may those of a number
pub name_bytes-decimal : (n : ℕ) → n < 2 ^ 64 → list_all is_name_byte (decimal n) ≡ true
name_bytes-decimal n small = name_bytes-digits (decimal n) (digits-decimal n small)

-- names' bytes are terms'
pub term_bytes-names : (text : List ℕ) → list_all is_name_byte text ≡ true → list_all is_term_byte text ≡ true
term_bytes-names [] h = refl
term_bytes-names (c ∷ rest) h =
    let parts = and_parts (is_name_byte c) (list_all is_name_byte rest) h in
    ap (λ b. b && list_all is_term_byte rest) (or_left (is_name_byte c) _ parts.0) ∙ term_bytes-names rest parts.1

-- each byte of an integer's text is a term's
term_bytes-integer : (text : List ℕ) → IsTrue (is_integer_text text) → list_all is_term_byte text ≡ true
term_bytes-integer text h = elim (shape_of text h) [
  | Zero e ↦ ap (list_all is_term_byte) e
  | Minus digits e p ↦ ap (list_all is_term_byte) e ∙ term_bytes-names digits (name_bytes-digits digits (Positive-from digits p).digits)
  | Plain p ↦ term_bytes-names text (name_bytes-digits text (Positive-from text p).digits)
]

-- the bytes of two texts
term_bytes-append : (xs ys : List ℕ) → list_all is_term_byte xs ≡ true → list_all is_term_byte ys ≡ true → list_all is_term_byte (xs ++ ys) ≡ true
term_bytes-append [] ys h k = k
term_bytes-append (c ∷ xs) ys h k =
    let parts = and_parts (is_term_byte c) (list_all is_term_byte xs) h in
    ap (λ b. b && list_all is_term_byte (xs ++ ys)) parts.0 ∙ term_bytes-append xs ys parts.1 k

-- each byte of a written term's text is a term's
mutual
  pub term_bytes-written : (t : TermOf (List ℕ) (List ℕ)) → HasLeafTexts t → list_all is_term_byte (written t) ≡ true
  term_bytes-written (integer_leaf text) h = term_bytes-integer text h
  term_bytes-written (atom_leaf text) h = term_bytes-names text (name_bytes-atom text h)
  term_bytes-written (tuple_of row) h = term_bytes-append (parted row) (125 ∷ []) (term_bytes-parted row h) refl
  term_bytes-written (list_of row) h = term_bytes-append (parted row) (93 ∷ []) (term_bytes-parted row h) refl

  -- the same of a row
  term_bytes-parted : (row : RowOf (List ℕ) (List ℕ)) → RowHasLeafTexts row → list_all is_term_byte (parted row) ≡ true
  term_bytes-parted no_terms h = refl
  term_bytes-parted (term_then t row) h = term_bytes-append (written t) (behind row) (term_bytes-written t h.0) (term_bytes-behind row h.1)

  -- and of a row behind a term
  term_bytes-behind : (row : RowOf (List ℕ) (List ℕ)) → RowHasLeafTexts row → list_all is_term_byte (behind row) ≡ true
  term_bytes-behind no_terms h = refl
  term_bytes-behind (term_then t row) h = term_bytes-append (written t) (behind row) (term_bytes-written t h.0) (term_bytes-behind row h.1)

-- each byte of a term's text is a term's
pub term_bytes-TermText : (before : List (List ℕ)) (text : List ℕ) (term : Term) (after : List (List ℕ)) → TermText before text term after → list_all is_term_byte text ≡ true
term_bytes-TermText before text term after t = ap (list_all is_term_byte) t.whole ∙ term_bytes-written t.form t.leaves

-- and of what is printed of a term
pub term_bytes-term_text : (names : List (List ℕ)) (term : Term) → IsNames names → IsTerm names term → list_all is_term_byte (term_text names term) ≡ true
term_bytes-term_text names term sound is = term_bytes-TermText names (term_text names term) term names (TermText-term_text names term sound is)

-- an atom has a byte
atom_is_some : (text : List ℕ) → IsTrue (is_atom_text text) → 0 < length text
atom_is_some [] h = cc
atom_is_some (c ∷ rest) h = omega arith

-- an integer has a byte
integer_is_some : (text : List ℕ) → IsTrue (is_integer_text text) → 0 < length text
integer_is_some [] h = cc
integer_is_some (c ∷ rest) h = omega arith

-- no written term's text is empty
pub nonempty-written : (t : WrittenTerm) → HasLeafTexts t → 0 < length (written t)
nonempty-written (integer_leaf text) h = integer_is_some text h
nonempty-written (atom_leaf text) h = atom_is_some text h
nonempty-written t h = omega arith
