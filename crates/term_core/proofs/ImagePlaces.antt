-- What stands at a place of a block where a term has its image: the term, its kind, and where each of its parts stands.
use Rattle.std.proofs.Common.{◌≡◌, ℕ, zero, suc, ◌+◌, ◌*◌, ◌<◌, ◌≤◌, ℤ, pos, true, List, [], ◌∷◌, ◌++◌, length, take, drop, get_or, None, Some, slice_get, refl, sym, ap, ◌∙◌, subst, arith, length-append}
use Rattle.std.proofs.lemmas.List.{append_assoc, append-nil, take_at, drop_at, drop-drop, length-drop, get_or-drop, take-append-drop}
use Rattle.term_core.specs.Image.{image_of, row_image, IsPlainTerm, is_immediate, IsImageAt, low_bits, immediate_word, term_of_word, terms_in, term_at, parts_of_word, images_len}
use Rattle.term_core.specs.Plain.{term_of}
use Rattle.term_core.specs.PlainTerm.{RowOf, PlainTerm, integer_leaf, atom_leaf, tuple_of, list_of, no_terms, term_then, terms_of, row_count, term_words, row_words}
use Rattle.term_core.specs.Written.{place_or}
use Rattle.term_core.proofs.ImageTerms.{IsPlainRow, terms_in-image, images_len-image, some_words}
use Rattle.term_core.proofs.WordTags.{integer_parts, atom_parts, tuple_parts, list_parts}
use Rattle.term_core.proofs.Words.{term_of_word-immediate_word}
use Rattle.term_core.proofs.Text.Options.{some_is}
-- an image has the term's words
pub use Rattle.term_core.proofs.ImageTerms.{length-image}

-- ---- the term at a place

-- it is the one whose image stands there
pub term_at-is : (words : List ℕ) (at : ℕ) (t : PlainTerm) → IsImageAt words at t → term_at words at ≡ t
unfolding term_at
term_at-is words at t h = ap (λ ts. get_or ts 0 (integer_leaf (pos 0))) (ap terms_in h.whole ∙ terms_in-image t h.fits h.rest)

-- so one term stands at a place
pub IsImageAt-unique : (words : List ℕ) (at : ℕ) (t u : PlainTerm) → IsImageAt words at t → IsImageAt words at u → t ≡ u
IsImageAt-unique words at t u h k = sym (term_at-is words at t h) ∙ term_at-is words at u k

-- one term in front of others
first_is : (t u : PlainTerm) (ts us : List PlainTerm) → t ∷ ts ≡ u ∷ us → t ≡ u
first_is t u ts us e = cc

-- a term and its image determine each other
pub image_of-injective : (t u : PlainTerm) → IsPlainTerm t → IsPlainTerm u → image_of t ≡ image_of u → t ≡ u
image_of-injective t u h k e =
    first_is t u [] [] (sym (terms_in-image t h []) ∙ ap (λ words. terms_in (words ++ [])) e ∙ terms_in-image u k [])

-- its image ends behind its words
pub images_len-at : (words : List ℕ) (at : ℕ) (t : PlainTerm) → IsImageAt words at t → images_len 1 (drop at words) ≡ Some (term_words t)
images_len-at words at t h = ap (images_len 1) h.whole ∙ images_len-image t 0 h.rest ∙ ap Some (omega arith)

-- the words of the block hold it
pub within-at : (words : List ℕ) (at : ℕ) (t : PlainTerm) → IsImageAt words at t → at + term_words t ≤ length words
within-at words at t h =
    let some = some_words t in
    omega (arith, length-drop at words, ap length h.whole, length-append (image_of t) h.rest, length-image t)

-- ---- where an image stands

-- alone
pub stands_alone : (t : PlainTerm) → IsPlainTerm t → term_words t ≤ 64 → IsImageAt (image_of t) 0 t
stands_alone t fits short = record { rest = []; whole = sym (append-nil (image_of t)); fits = fits; short = short }

-- the first words from its place on are its image
pub image_at : (words : List ℕ) (at : ℕ) (t : PlainTerm) → IsImageAt words at t → take (term_words t) (drop at words) ≡ image_of t
image_at words at t h = ap (take (term_words t)) h.whole ∙ take_at (image_of t) h.rest (term_words t) (length-image t)

-- where the same words stand, the same term does
pub stands_same : (words others : List ℕ) (at place : ℕ) (t : PlainTerm) → IsImageAt words at t → take (term_words t) (drop at words) ≡ take (term_words t) (drop place others) → IsImageAt others place t
stands_same words others at place t h same = record {
  rest = drop (term_words t) (drop place others);
  whole = sym (take-append-drop (term_words t) (drop place others)) ∙ ap (λ front. front ++ drop (term_words t) (drop place others)) (sym same ∙ image_at words at t h);
  fits = h.fits;
  short = h.short;
}

-- ---- the first word

-- what the first word of an image is
abbrev pub first_word : PlainTerm → ℕ
first_word (integer_leaf z) = low_bits z * 16 + 1
first_word (atom_leaf a) = a * 16 + 2
first_word (tuple_of row) = row_count row * 16 + 3
first_word (list_of row) = row_count row * 16 + 4

-- how many parts a term has
abbrev pub part_count : PlainTerm → ℕ
part_count (tuple_of row) = row_count row
part_count (list_of row) = row_count row
part_count _ = 0

-- and counts the term's parts
pub first_word-parts : (t : PlainTerm) → parts_of_word (first_word t) ≡ part_count t
first_word-parts (integer_leaf z) = integer_parts z
first_word-parts (atom_leaf a) = atom_parts a
first_word-parts (tuple_of row) = tuple_parts (row_count row)
first_word-parts (list_of row) = list_parts (row_count row)

-- an image begins with it
image_first : (t : PlainTerm) (rest : List ℕ) → get_or (image_of t ++ rest) 0 0 ≡ first_word t
image_first (integer_leaf z) rest = refl
image_first t rest = refl

-- so it stands at the image's place
pub first_word-at : (words : List ℕ) (at : ℕ) (t : PlainTerm) → IsImageAt words at t → get_or words at 0 ≡ first_word t
first_word-at words at t h =
    ap (λ n. get_or words n 0) (omega arith) ∙ sym (get_or-drop at words 0 0) ∙ ap (λ ws. get_or ws 0 0) h.whole ∙ image_first t h.rest

-- the word of an integer or an atom is that of its term
pub first_word-immediate : (t : PlainTerm) → is_immediate t ≡ true → first_word t ≡ immediate_word (term_of t)
first_word-immediate (tuple_of row) h = cc
first_word-immediate (list_of row) h = cc
first_word-immediate t h = refl

-- and is read as it
pub term_of_word-first_word : (t : PlainTerm) → is_immediate t ≡ true → IsPlainTerm t → term_of_word (first_word t) ≡ term_of t
term_of_word-first_word (integer_leaf z) h fits = term_of_word-immediate_word (term_of (integer_leaf z)) fits tt
term_of_word-first_word (atom_leaf a) h fits = term_of_word-immediate_word (term_of (atom_leaf a)) tt fits
term_of_word-first_word t h fits = cc

-- ---- the parts

-- the terms in brackets, if there are any
abbrev pub row_in : PlainTerm → RowOf ℤ ℕ
row_in (tuple_of row) = row
row_in (list_of row) = row
row_in _ = no_terms

-- what a part of a row is: a term as it can be, of no more words than the row
pub record IsPart (row : RowOf ℤ ℕ) (u : PlainTerm) : Type 0 where
  pub fits : IsPlainTerm u
  pub few : term_words u ≤ row_words row

-- each part is one
pub part_of : (row : RowOf ℤ ℕ) (i : ℕ) (u : PlainTerm) → IsPlainRow row → slice_get (terms_of row) i ≡ Some u → IsPart row u
part_of no_terms i u h at = cc
part_of (term_then t row) zero u h at =
    let e : t ≡ u = some_is t u at in
    record { fits = subst IsPlainTerm e h.0; few = omega (arith, ap (term_words {Z = ℤ} {A = ℕ}) e) }
part_of (term_then t row) (suc i) u h at = let later = part_of row i u h.1 at in record { fits = later.fits; few = omega (arith, later.few) }

-- where a part of a row begins among the row's words
pub record PartIn (words : List ℕ) (i : ℕ) (u : PlainTerm) : Type 0 where
  pub skip : ℕ
  pub behind : images_len i words ≡ Some skip
  pub left : List ℕ
  pub whole : drop skip words ≡ image_of u ++ left

-- one term is passed
passed : (t : PlainTerm) (n skip : ℕ) (words : List ℕ) → images_len n words ≡ Some skip → images_len (suc n) (image_of t ++ words) ≡ Some (term_words t + skip)
passed t n skip words e = images_len-image t n words ∙ ap (place_or None (term_words t)) e

-- and what is left behind it is the same
left_behind : (t : PlainTerm) (skip : ℕ) (words : List ℕ) → drop (term_words t + skip) (image_of t ++ words) ≡ drop skip words
left_behind t skip words = sym (drop-drop skip (term_words t) (image_of t ++ words)) ∙ ap (drop skip) (drop_at (image_of t) words (term_words t) (length-image t))

-- the same words
part_words : (words others : List ℕ) (i : ℕ) (u : PlainTerm) → words ≡ others → PartIn others i u → PartIn words i u
part_words words others i u e h = record { skip = h.skip; behind = ap (images_len i) e ∙ h.behind; left = h.left; whole = ap (drop h.skip) e ∙ h.whole }

-- each part begins behind those before it
pub part_in : (row : RowOf ℤ ℕ) (rest : List ℕ) (i : ℕ) (u : PlainTerm) → slice_get (terms_of row) i ≡ Some u → PartIn (row_image row ++ rest) i u
part_in no_terms rest i u at = cc
part_in (term_then t row) rest zero u at = record {
  skip = 0;
  behind = refl;
  left = row_image row ++ rest;
  whole = append_assoc (image_of t) (row_image row) rest ∙ ap (λ v. image_of v ++ (row_image row ++ rest)) (some_is t u at);
}
part_in (term_then t row) rest (suc i) u at =
    let later = part_in row rest i u at in
    part_words ((image_of t ++ row_image row) ++ rest) (image_of t ++ (row_image row ++ rest)) (suc i) u (append_assoc (image_of t) (row_image row) rest)
    (record {
      skip = term_words t + later.skip;
      behind = passed t i later.skip (row_image row ++ rest) later.behind;
      left = later.left;
      whole = left_behind t later.skip (row_image row ++ rest) ∙ later.whole;
    })

-- where a part of a tuple or a list stands in a block
pub record PartAt (words : List ℕ) (at i : ℕ) (u : PlainTerm) : Type 0 where
  pub skip : ℕ
  pub behind : images_len i (drop (at + 1) words) ≡ Some skip
  pub stands : IsImageAt words (at + 1 + skip) u
  pub within : at + 1 + skip < length words

-- behind the first word
left_of : (words : List ℕ) (at word : ℕ) (rest : List ℕ) → drop at words ≡ word ∷ rest → drop (at + 1) words ≡ rest
left_of words at word rest e = sym (drop-drop 1 at words) ∙ ap (drop 1) e

-- by the row that stands there
part_behind : (words : List ℕ) (at word : ℕ) (row : RowOf ℤ ℕ) (rest : List ℕ) (i : ℕ) (u : PlainTerm) → drop at words ≡ word ∷ (row_image row ++ rest) → IsPlainRow row → row_words row ≤ 63 → slice_get (terms_of row) i ≡ Some u → PartAt words at i u
part_behind words at word row rest i u whole fits short is =
    let left = left_of words at word (row_image row ++ rest) whole in
    let part = part_in row rest i u is in
    let one = part_of row i u fits is in
    let stands : IsImageAt words (at + 1 + part.skip) u = record {
      rest = part.left;
      whole = sym (drop-drop part.skip (at + 1) words) ∙ ap (drop part.skip) left ∙ part.whole;
      fits = one.fits;
      short = omega (arith, one.few);
    } in
    record {
      skip = part.skip;
      behind = ap (images_len i) left ∙ part.behind;
      stands = stands;
      within = omega (arith, within-at words (at + 1 + part.skip) u stands, some_words u);
    }

-- each part of a term that stands at a place stands behind its word
pub part_at : (words : List ℕ) (at : ℕ) (t : PlainTerm) (i : ℕ) (u : PlainTerm) → IsImageAt words at t → slice_get (terms_of (row_in t)) i ≡ Some u → PartAt words at i u
part_at words at (tuple_of row) i u h is = let short = h.short in part_behind words at (row_count row * 16 + 3) row h.rest i u h.whole h.fits (omega arith) is
part_at words at (list_of row) i u h is = let short = h.short in part_behind words at (row_count row * 16 + 4) row h.rest i u h.whole h.fits (omega arith) is
part_at words at t i u h is = cc
