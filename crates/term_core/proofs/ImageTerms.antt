-- What the words of an image are worth: their number, their terms, and where the image ends.
use Rattle.std.proofs.Common.{◌≡◌, ℕ, suc, ◌+◌, ◌-◌, ◌*◌, ◌<◌, ◌≤◌, ℤ, true, cond, List, ◌∷◌, ◌++◌, length, take, drop, get_or, Option, None, Some, option_map, refl, sym, ap, ◌∙◌, arith, length-append}
use Rattle.std.proofs.lemmas.List.{append_assoc, take_at, drop_at}
use Rattle.term_core.specs.Image.{image_of, row_image, IsPlainTerm, low_bits, with_word, terms_in, parts_of_word, images_len}
use Rattle.term_core.specs.ImageWords.{is_image_word, found_len}
use Rattle.term_core.specs.PlainTerm.{TermOf, RowOf, PlainTerm, integer_leaf, atom_leaf, tuple_of, list_of, no_terms, term_then, EachInRow, row_of, terms_of, row_count, term_words, row_words}
use Rattle.term_core.specs.Written.{IsTermInteger, place_or}
use Rattle.term_core.proofs.Lefts.{left_byte, place_or-twice, place_or-none}
use Rattle.term_core.proofs.TokenLaws.{row_of-terms_of}
use Rattle.term_core.proofs.WordTags.{with_integer, with_atom, with_tuple, with_list, integer_parts, atom_parts, tuple_parts, list_parts, integer_fits, atom_fits, tuple_fits, list_fits}

-- the terms of a row as they can be
abbrev pub IsPlainRow : RowOf ℤ ℕ → Type 0
IsPlainRow row = EachInRow IsTermInteger (λ atom. atom < 4294967296) row

-- an image has the term's words
mutual
  pub length-image : (t : TermOf ℤ ℕ) → length (image_of t) ≡ term_words t
  length-image (tuple_of row) = omega (arith, length-row_image row)
  length-image (list_of row) = omega (arith, length-row_image row)
  length-image t = refl

  -- the same of a row
  pub length-row_image : (row : RowOf ℤ ℕ) → length (row_image row) ≡ row_words row
  length-row_image no_terms = refl
  length-row_image (term_then t row) = omega (arith, length-append (image_of t) (row_image row), length-image t, length-row_image row)

-- a row has as many terms as it counts
pub length-terms_of : {Z A : Type 0} (row : RowOf Z A) → length (terms_of row) ≡ row_count row
length-terms_of no_terms = refl
length-terms_of (term_then t row) = omega (arith, length-terms_of row)

-- the terms of a row in front of others
taken_row : (row : RowOf ℤ ℕ) (terms : List PlainTerm) → row_of (take (row_count row) (terms_of row ++ terms)) ≡ row
taken_row row terms = ap row_of (take_at (terms_of row) terms (row_count row) (length-terms_of row)) ∙ row_of-terms_of row

-- and those behind it
left_row : (row : RowOf ℤ ℕ) (terms : List PlainTerm) → drop (row_count row) (terms_of row ++ terms) ≡ terms
left_row row terms = drop_at (terms_of row) terms (row_count row) (length-terms_of row)

-- the words of an image are read as its term
mutual
  pub terms_in-image : (t : TermOf ℤ ℕ) → IsPlainTerm t → (rest : List ℕ) → terms_in (image_of t ++ rest) ≡ t ∷ terms_in rest
  terms_in-image (integer_leaf z) h rest = with_integer z (terms_in rest) h
  terms_in-image (atom_leaf a) h rest = with_atom a (terms_in rest)
  terms_in-image (tuple_of row) h rest =
      ap (with_word (row_count row * 16 + 3)) (terms_in-row row h rest) ∙ with_tuple (row_count row) (terms_of row ++ terms_in rest)
      ∙ (λ i. tuple_of (taken_row row (terms_in rest) i) ∷ left_row row (terms_in rest) i)
  terms_in-image (list_of row) h rest =
      ap (with_word (row_count row * 16 + 4)) (terms_in-row row h rest) ∙ with_list (row_count row) (terms_of row ++ terms_in rest)
      ∙ (λ i. list_of (taken_row row (terms_in rest) i) ∷ left_row row (terms_in rest) i)

  -- the same of a row
  pub terms_in-row : (row : RowOf ℤ ℕ) → IsPlainRow row → (rest : List ℕ) → terms_in (row_image row ++ rest) ≡ terms_of row ++ terms_in rest
  terms_in-row no_terms h rest = refl
  terms_in-row (term_then t row) h rest =
      ap terms_in (append_assoc (image_of t) (row_image row) rest) ∙ terms_in-image t h.0 (row_image row ++ rest) ∙ ap (λ ts. t ∷ ts) (terms_in-row row h.1 rest)

-- one word more
one_longer : (o : Option ℕ) → option_map suc o ≡ place_or None 1 o
one_longer None = refl
one_longer (Some k) = ap Some (omega arith)

-- a count of terms with no parts
no_parts : (n parts : ℕ) → parts ≡ 0 → n + parts ≡ n
no_parts n parts e = omega arith

-- a word behind which some terms and others are needed
needed : (word n k : ℕ) (words : List ℕ) → parts_of_word word ≡ k → images_len (suc n) (word ∷ words) ≡ place_or None 1 (images_len (n + k) words)
needed word n k words e = ap (λ m. option_map suc (images_len (n + m) words)) e ∙ one_longer (images_len (n + k) words)

-- going over an image
mutual
  pub images_len-image : (t : TermOf ℤ ℕ) (n : ℕ) (rest : List ℕ) → images_len (suc n) (image_of t ++ rest) ≡ place_or None (term_words t) (images_len n rest)
  images_len-image (integer_leaf z) n rest = needed (low_bits z * 16 + 1) n 0 rest (integer_parts z) ∙ ap (λ m. place_or None 1 (images_len m rest)) (no_parts n 0 refl)
  images_len-image (atom_leaf a) n rest = needed (a * 16 + 2) n 0 rest (atom_parts a) ∙ ap (λ m. place_or None 1 (images_len m rest)) (no_parts n 0 refl)
  images_len-image (tuple_of row) n rest =
      needed (row_count row * 16 + 3) n (row_count row) (row_image row ++ rest) (tuple_parts (row_count row)) ∙ ap (place_or None 1) (images_len-row row n rest) ∙ place_or-twice 1 (row_words row) (images_len n rest)
  images_len-image (list_of row) n rest =
      needed (row_count row * 16 + 4) n (row_count row) (row_image row ++ rest) (list_parts (row_count row)) ∙ ap (place_or None 1) (images_len-row row n rest) ∙ place_or-twice 1 (row_words row) (images_len n rest)

  -- the same of a row
  pub images_len-row : (row : RowOf ℤ ℕ) (n : ℕ) (rest : List ℕ) → images_len (n + row_count row) (row_image row ++ rest) ≡ place_or None (row_words row) (images_len n rest)
  images_len-row no_terms n rest = ap (λ m. images_len m rest) (no_parts n 0 refl) ∙ sym (place_or-none (images_len n rest))
  images_len-row (term_then t row) n rest =
      let more : n + (1 + row_count row) ≡ suc (n + row_count row) = omega arith in
      (λ i. images_len (more i) (append_assoc (image_of t) (row_image row) rest i)) ∙ images_len-image t (n + row_count row) (row_image row ++ rest)
      ∙ ap (place_or None (term_words t)) (images_len-row row n rest) ∙ place_or-twice (term_words t) (row_words row) (images_len n rest)

-- a term has a word
pub some_words : {Z A : Type 0} (t : TermOf Z A) → 1 ≤ term_words t
some_words (integer_leaf z) = omega arith
some_words t = omega arith

-- so a row has no more terms than words
pub count_le-words : {Z A : Type 0} (row : RowOf Z A) → row_count row ≤ row_words row
count_le-words no_terms = omega arith
count_le-words (term_then t row) = omega (arith, some_words t, count_le-words row)

-- the same of what the code finds
found : (word n k : ℕ) (words : List ℕ) → is_image_word word ≡ true → parts_of_word word ≡ k → found_len (suc n) (word ∷ words) ≡ place_or None 1 (found_len (n + k) words)
found word n k words fits e =
    ap (λ b. cond b (option_map suc (found_len (n + parts_of_word word) words)) None) fits ∙ ap (λ m. option_map suc (found_len (n + m) words)) e ∙ one_longer (found_len (n + k) words)

-- the code finds an image
mutual
  pub found_len-image : (t : TermOf ℤ ℕ) → IsPlainTerm t → term_words t ≤ 64 → (n : ℕ) (rest : List ℕ) → found_len (suc n) (image_of t ++ rest) ≡ place_or None (term_words t) (found_len n rest)
  found_len-image (integer_leaf z) h short n rest = found (low_bits z * 16 + 1) n 0 rest (integer_fits z h) (integer_parts z) ∙ ap (λ m. place_or None 1 (found_len m rest)) (no_parts n 0 refl)
  found_len-image (atom_leaf a) h short n rest = found (a * 16 + 2) n 0 rest (atom_fits a h) (atom_parts a) ∙ ap (λ m. place_or None 1 (found_len m rest)) (no_parts n 0 refl)
  found_len-image (tuple_of row) h short n rest =
      found (row_count row * 16 + 3) n (row_count row) (row_image row ++ rest) (tuple_fits (row_count row) (omega (arith, count_le-words row))) (tuple_parts (row_count row))
      ∙ ap (place_or None 1) (found_len-row row h (omega arith) n rest) ∙ place_or-twice 1 (row_words row) (found_len n rest)
  found_len-image (list_of row) h short n rest =
      found (row_count row * 16 + 4) n (row_count row) (row_image row ++ rest) (list_fits (row_count row) (omega (arith, count_le-words row))) (list_parts (row_count row))
      ∙ ap (place_or None 1) (found_len-row row h (omega arith) n rest) ∙ place_or-twice 1 (row_words row) (found_len n rest)

  -- the same of a row
  found_len-row : (row : RowOf ℤ ℕ) → IsPlainRow row → row_words row ≤ 64 → (n : ℕ) (rest : List ℕ) → found_len (n + row_count row) (row_image row ++ rest) ≡ place_or None (row_words row) (found_len n rest)
  found_len-row no_terms h short n rest = ap (λ m. found_len m rest) (no_parts n 0 refl) ∙ sym (place_or-none (found_len n rest))
  found_len-row (term_then t row) h short n rest =
      let more : n + (1 + row_count row) ≡ suc (n + row_count row) = omega arith in
      (λ i. found_len (more i) (append_assoc (image_of t) (row_image row) rest i)) ∙ found_len-image t h.0 (omega arith) (n + row_count row) (row_image row ++ rest)
      ∙ ap (place_or None (term_words t)) (found_len-row row h.1 (omega arith) n rest) ∙ place_or-twice (term_words t) (row_words row) (found_len n rest)

-- what is left behind one word
pub found_behind : (words : List ℕ) (at needed word parts : ℕ) → word ≡ get_or words at 0 → at < length words → 1 ≤ needed → is_image_word word ≡ true → parts ≡ parts_of_word word →
    place_or None at (found_len needed (drop at words)) ≡ place_or None (at + 1) (found_len (needed - 1 + parts) (drop (at + 1) words))
found_behind words at needed word parts is less some fits e =
    let more : needed ≡ suc (needed - 1) = omega arith in
    ap (place_or None at) ((λ i. found_len (more i) (left_byte words at word is less i)) ∙ found word (needed - 1) parts (drop (at + 1) words) fits (sym e))
    ∙ place_or-twice at 1 (found_len (needed - 1 + parts) (drop (at + 1) words))

-- where no term is needed any more, the words up to here are all
pub found_all : (at needed : ℕ) (words : List ℕ) → needed ≡ 0 → place_or None at (found_len needed words) ≡ Some at
found_all at needed words e = ap (λ n. place_or None at (found_len n words)) e ∙ ap Some (omega arith)
