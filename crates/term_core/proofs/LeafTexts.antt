-- Lemmas on the texts of integers and atoms inside of a term's text: no byte of them stands between terms.
use Rattle.std.proofs.Common.{◌≡◌, ℕ, ◌<◌, Bool, true, false, cond, ◌&&◌, List, [], ◌∷◌, ◌++◌, length, refl, sym, ap, ◌∙◌, subst, arith, IsTrue}
use Rattle.std.specs.Char.{is_ascii_digit, is_ascii_lowercase}
use Rattle.std.specs.List.{list_all}
use Rattle.term_core.specs.Bytes.{kind_of, is_leaf_kind, leaf_front}
use Rattle.term_core.specs.Names.{is_name_byte, is_atom_text}
use Rattle.term_core.specs.Written.{is_integer_text}
use Rattle.term_core.proofs.ByteKinds.{digit_kind, name_kind, letter_kind, leaf_if_digit, leaf_if_name}
use Rattle.term_core.proofs.IntegerTexts.{Zero, Minus, Plain, shape_of, Positive-from}
use Rattle.std.proofs.lemmas.Bool.{and_parts}

-- the byte stands in an integer or atom
abbrev pub is_leaf_byte : ℕ → Bool
is_leaf_byte c = is_leaf_kind (kind_of c)

-- bytes of a leaf, with what is behind them
pub record LeafText (text : List ℕ) : Type 0 where
  pub bytes : list_all is_leaf_byte text ≡ true
  pub some : 0 < length text

-- what stands behind a leaf: nothing, or a byte between terms
abbrev pub IsDelimited : List ℕ → Type 0
IsDelimited [] = Unit {0}
IsDelimited (c ∷ rest) = is_leaf_byte c ≡ false

-- a digit is such a byte
leaf_digit : (c : ℕ) → is_ascii_digit c ≡ true → is_leaf_byte c ≡ true
leaf_digit c h = leaf_if_digit (kind_of c) (sym (digit_kind c) ∙ h)

-- and so is a name's byte
leaf_name : (c : ℕ) → is_name_byte c ≡ true → is_leaf_byte c ≡ true
leaf_name c h = leaf_if_name (kind_of c) (sym (name_kind c) ∙ h)

-- and a small letter
leaf_letter : (c : ℕ) → is_ascii_lowercase c ≡ true → is_leaf_byte c ≡ true
leaf_letter c h = ap is_leaf_kind (letter_kind c h)

-- what holds of each byte by another test
all_by : (p q : ℕ → Bool) → ((c : ℕ) → p c ≡ true → q c ≡ true) → (text : List ℕ) → list_all p text ≡ true → list_all q text ≡ true
all_by p q h [] k = refl
all_by p q h (c ∷ rest) k =
    let parts = and_parts (p c) (list_all p rest) k in
    ap (λ b. b && list_all q rest) (h c parts.0) ∙ all_by p q h rest parts.1

-- digits are bytes of a leaf
pub leaf_digits : (text : List ℕ) → list_all is_ascii_digit text ≡ true → list_all is_leaf_byte text ≡ true
leaf_digits text h = all_by is_ascii_digit is_leaf_byte leaf_digit text h

-- an integer's text is a leaf's
pub LeafText-integer : (text : List ℕ) → IsTrue (is_integer_text text) → LeafText text
LeafText-integer text h = elim (shape_of text h) [
  | Zero e ↦ subst LeafText (sym e) (record { bytes = refl; some = omega arith })
  | Minus digits e p ↦ subst LeafText (sym e) (record { bytes = leaf_digits digits (Positive-from digits p).digits; some = omega arith })
  | Plain p ↦ record { bytes = leaf_digits text (Positive-from text p).digits; some = (Positive-from text p).some }
]

-- and so is an atom's
pub LeafText-atom : (text : List ℕ) → IsTrue (is_atom_text text) → LeafText text
LeafText-atom [] h = cc
LeafText-atom (c ∷ rest) h =
    let parts = and_parts (is_ascii_lowercase c) _ h in
    let tail = and_parts (list_all is_name_byte rest) _ parts.1 in
    record {
      bytes = ap (λ b. b && list_all is_leaf_byte rest) (leaf_letter c parts.0) ∙ all_by is_name_byte is_leaf_byte leaf_name rest tail.0;
      some = omega arith;
    }

-- what is delimited has no leaf in front
front_none : (rest : List ℕ) → IsDelimited rest → leaf_front rest ≡ []
front_none [] h = refl
front_none (c ∷ rest) h = ap (λ b. cond b (c ∷ leaf_front rest) []) h

-- the leaf in front of a text ends where it is delimited
pub front_text : (text rest : List ℕ) → list_all is_leaf_byte text ≡ true → IsDelimited rest → leaf_front (text ++ rest) ≡ text
front_text [] rest h d = front_none rest d
front_text (c ∷ text) rest h d =
    let parts = and_parts (is_leaf_byte c) (list_all is_leaf_byte text) h in
    ap (λ b. cond b (c ∷ leaf_front (text ++ rest)) []) parts.0 ∙ ap (λ t. c ∷ t) (front_text text rest parts.1 d)
