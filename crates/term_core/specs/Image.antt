-- The image of a term: the words that stand for it in a block.
-- Source: this project's profile, after the tagged words of the BEAM. An integer's word has its 60 bits, tag 1; an atom's its number, tag 2.
-- The definition relates a term and words; the code goes over places.
use Rattle.std.specs.Prelude.{◌≡◌, ℕ, zero, suc, ◌+◌, ◌-◌, ◌*◌, ◌/◌, ◌%◌, ◌<◌, ◌≤◌, ◌==◌, nat_lt, Option, Some, None, option_map, Bool, true, false, if◌then◌else◌, ℤ, pos, negsuc, List, [], ◌∷◌, ◌++◌, take, drop, get_or}
use Rattle.term_core.specs.declared.term.Term.{Term}
use Rattle.term_core.specs.declared.term.Term.TheVariants.{Int, Atom, Tuple, List as ListOf}
use Rattle.term_core.specs.Plain.{plain}
use Rattle.term_core.specs.declared.term_text.TheConstants.{MOST_WORDS}
use Rattle.term_core.specs.PlainTerm.{TermOf, RowOf, PlainTerm, integer_leaf, atom_leaf, tuple_of, list_of, no_terms, term_then, EachLeaf, EachInRow, row_of, row_count, term_words}
use Rattle.term_core.specs.Written.{IsTermInteger}

-- a term that one word stands for
abbrev pub IsImmediate : Term → Type 0
IsImmediate (Int z) = IsTermInteger z
IsImmediate (Atom a) = Unit {0}
IsImmediate (Tuple ts) = ⊥
IsImmediate (ListOf ts) = ⊥

-- a term whose atoms have numbers of 32 bits, as those of a table have
abbrev pub HasSmallAtoms : Term → Type 0
HasSmallAtoms term = EachLeaf {Z = ℤ} (λ _. Unit {0}) (λ atom. atom < 4294967296) (plain term)

-- an integer modulo 2 ^ 60
abbrev pub low_bits : ℤ → ℕ
low_bits (pos n) = n
low_bits (negsuc n) = 1152921504606846975 - n

-- the word of an integer or an atom; 0 stands for no other term
abbrev pub immediate_word : Term → ℕ
immediate_word (Int z) = low_bits z * 16 + 1
immediate_word (Atom a) = a.0 * 16 + 2
immediate_word (Tuple ts) = 0
immediate_word (ListOf ts) = 0

-- the integer from -(2 ^ 59) to 2 ^ 59 - 1 with these 60 low bits
abbrev pub integer_of_bits : ℕ → ℤ
integer_of_bits bits = if nat_lt bits 576460752303423488 then pos bits else negsuc (1152921504606846975 - bits)

-- the term that a word stands for: of tag 1 an integer, of any other tag an atom
abbrev pub term_of_word : ℕ → Term
term_of_word word = if word % 16 == 1 then Int (integer_of_bits (word / 16)) else Atom (record { 0 = word / 16 % 4294967296 })

-- ---- terms of any size

-- the image of a term: a leaf is one word; a tuple's word counts its terms, tag 3, and a list's tag 4, and the images of the terms follow in order
abbrev mutual
  pub image_of : TermOf ℤ ℕ → List ℕ
  image_of (integer_leaf z) = (low_bits z * 16 + 1) ∷ []
  image_of (atom_leaf a) = (a * 16 + 2) ∷ []
  image_of (tuple_of row) = (row_count row * 16 + 3) ∷ row_image row
  image_of (list_of row) = (row_count row * 16 + 4) ∷ row_image row

  -- the images of the terms of a row, in order
  pub row_image : RowOf ℤ ℕ → List ℕ
  row_image no_terms = []
  row_image (term_then t row) = image_of t ++ row_image row

-- a term as it can be: its integers of 60 bits, the numbers of its atoms of 32
abbrev pub IsPlainTerm : PlainTerm → Type 0
IsPlainTerm t = EachLeaf IsTermInteger (λ atom. atom < 4294967296) t

-- a term whose integers have 60 bits
abbrev pub HasTermIntegers : PlainTerm → Type 0
HasTermIntegers t = EachLeaf {A = ℕ} IsTermInteger (λ _. Unit {0}) t

-- the same of a row
abbrev pub RowHasTermIntegers : RowOf ℤ ℕ → Type 0
RowHasTermIntegers row = EachInRow {A = ℕ} IsTermInteger (λ _. Unit {0}) row

-- whether one word stands for it
abbrev pub is_immediate : PlainTerm → Bool
is_immediate (integer_leaf z) = true
is_immediate (atom_leaf a) = true
is_immediate (tuple_of row) = false
is_immediate (list_of row) = false

-- the image of a term of at most 64 words stands in a block from a place on
pub record IsImageAt (words : List ℕ) (at : ℕ) (t : PlainTerm) : Type 0 where
  pub rest : List ℕ
  pub whole : drop at words ≡ image_of t ++ rest
  pub fits : IsPlainTerm t
  pub short : term_words t ≤ MOST_WORDS

-- ---- the term at a place

-- a word in front of terms: a leaf is one term more, a tuple or a list takes as many terms as its word counts
abbrev pub with_word : ℕ → List PlainTerm → List PlainTerm
with_word word terms =
    if word % 16 == 1 then integer_leaf (integer_of_bits (word / 16)) ∷ terms
    else if word % 16 == 2 then atom_leaf (word / 16) ∷ terms
    else if word % 16 == 3 then tuple_of (row_of (take (word / 16) terms)) ∷ drop (word / 16) terms
    else if word % 16 == 4 then list_of (row_of (take (word / 16) terms)) ∷ drop (word / 16) terms
    else terms

-- the terms whose images words are, one behind another, read from the back
abbrev pub terms_in : List ℕ → List PlainTerm
terms_in [] = []
terms_in (word ∷ words) = with_word word (terms_in words)

-- the term whose image stands at a place; where none does, any term
unfoldable pub term_at : List ℕ → ℕ → PlainTerm
term_at words at = get_or (terms_in (drop at words)) 0 (integer_leaf (pos 0))

-- ---- going over images word by word

-- how many terms behind a word are its parts: as many as the word of a tuple or a list counts
abbrev pub parts_of_word : ℕ → ℕ
parts_of_word word = if word % 16 == 3 then word / 16 else if word % 16 == 4 then word / 16 else 0

-- how many words the images of so many terms have that stand one behind another at the front of words; none where the words end before
abbrev pub images_len : ℕ → List ℕ → Option ℕ
images_len zero words = Some 0
images_len (suc n) [] = None
images_len (suc n) (word ∷ words) = option_map suc (images_len (n + parts_of_word word) words)
