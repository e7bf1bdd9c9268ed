-- What a word is by its tag, and the words that a tag makes.
use Rattle.std.proofs.Common.{◌≡◌, ℕ, ◌+◌, ◌-◌, ◌*◌, ◌/◌, ◌%◌, ◌<◌, ◌≤◌, Bool, true, false, cond, ◌==◌, nat_lt, nat_le, ℤ, pos, negsuc, List, ◌∷◌, take, drop, refl, ap, ◌∙◌, arith}
use Rattle.std.proofs.lemmas.Bool.Decides.{nat_tests}
use Rattle.std.proofs.lemmas.Int.{ints}
use Rattle.term_core.specs.Image.{low_bits, integer_of_bits, with_word, parts_of_word}
use Rattle.term_core.specs.ImageWords.{is_image_word}
use Rattle.term_core.specs.PlainTerm.{PlainTerm, integer_leaf, atom_leaf, tuple_of, list_of, row_of}
use Rattle.term_core.specs.Written.{IsTermInteger}
use Rattle.term_core.proofs.IntegerTexts.{range_pos}
use Rattle.term_core.proofs.Words.{tagged, bits_back}
use Rattle.term_core.proofs.Truths.{passes_lt, test_lt, test_not_lt}

-- what is said of a word by its tag and its bits
by_tag : {X : Type 0} (f : ℕ → ℕ → X) (bits tag : ℕ) → tag < 16 → f ((bits * 16 + tag) % 16) ((bits * 16 + tag) / 16) ≡ f tag bits
by_tag f bits tag small = let parts = tagged bits tag small in λ i. f (parts.0 i) (parts.1 i)

-- a word in front of terms, by its tag and its bits
abbrev tag_with : List PlainTerm → ℕ → ℕ → List PlainTerm
tag_with terms tag bits =
    cond (tag == 1) (integer_leaf (integer_of_bits bits) ∷ terms) (cond (tag == 2) (atom_leaf bits ∷ terms) (cond (tag == 3) (tuple_of (row_of (take bits terms)) ∷ drop bits terms)
    (cond (tag == 4) (list_of (row_of (take bits terms)) ∷ drop bits terms) terms)))

-- how many parts it counts
abbrev tag_parts : ℕ → ℕ → ℕ
tag_parts tag bits = cond (tag == 3) bits (cond (tag == 4) bits 0)

-- whether it may stand in an image
abbrev tag_fits : ℕ → ℕ → Bool
tag_fits tag bits = cond (tag == 1) (nat_lt bits 1152921504606846976) (cond (tag == 2) (nat_lt bits 4294967296) (cond (tag == 3) (nat_le bits 64) (cond (tag == 4) (nat_le bits 64) false)))

-- an integer's word in front of terms
pub with_integer : (z : ℤ) (terms : List PlainTerm) → IsTermInteger z → with_word (low_bits z * 16 + 1) terms ≡ integer_leaf z ∷ terms
with_integer z terms range = by_tag (tag_with terms) (low_bits z) 1 (omega arith) ∙ ap (λ y. integer_leaf y ∷ terms) (bits_back z range)

-- an atom's
pub with_atom : (a : ℕ) (terms : List PlainTerm) → with_word (a * 16 + 2) terms ≡ atom_leaf a ∷ terms
with_atom a terms = by_tag (tag_with terms) a 2 (omega arith)

-- a tuple's
pub with_tuple : (n : ℕ) (terms : List PlainTerm) → with_word (n * 16 + 3) terms ≡ tuple_of (row_of (take n terms)) ∷ drop n terms
with_tuple n terms = by_tag (tag_with terms) n 3 (omega arith)

-- a list's
pub with_list : (n : ℕ) (terms : List PlainTerm) → with_word (n * 16 + 4) terms ≡ list_of (row_of (take n terms)) ∷ drop n terms
with_list n terms = by_tag (tag_with terms) n 4 (omega arith)

-- how many parts each has
pub integer_parts : (z : ℤ) → parts_of_word (low_bits z * 16 + 1) ≡ 0
integer_parts z = by_tag tag_parts (low_bits z) 1 (omega arith)

-- an atom has none
pub atom_parts : (a : ℕ) → parts_of_word (a * 16 + 2) ≡ 0
atom_parts a = by_tag tag_parts a 2 (omega arith)

-- a tuple as many as it counts
pub tuple_parts : (n : ℕ) → parts_of_word (n * 16 + 3) ≡ n
tuple_parts n = by_tag tag_parts n 3 (omega arith)

-- and so a list
pub list_parts : (n : ℕ) → parts_of_word (n * 16 + 4) ≡ n
list_parts n = by_tag tag_parts n 4 (omega arith)

-- the bits of an integer are 60
pub low_bits-small : (z : ℤ) → IsTermInteger z → low_bits z < 1152921504606846976
low_bits-small (pos n) range = let small = range_pos n range in omega arith
low_bits-small (negsuc n) range = omega arith

-- or of a limit
passes_le : (n limit : ℕ) → n ≤ limit → nat_le n limit ≡ true
passes_le n limit h = grind (arith, nat_tests)

-- each of them may stand in an image
pub integer_fits : (z : ℤ) → IsTermInteger z → is_image_word (low_bits z * 16 + 1) ≡ true
integer_fits z range = by_tag tag_fits (low_bits z) 1 (omega arith) ∙ passes_lt (low_bits z) 1152921504606846976 (low_bits-small z range)

-- an atom of 32 bits
pub atom_fits : (a : ℕ) → a < 4294967296 → is_image_word (a * 16 + 2) ≡ true
atom_fits a small = by_tag tag_fits a 2 (omega arith) ∙ passes_lt a 4294967296 small

-- a tuple of at most 64 terms
pub tuple_fits : (n : ℕ) → n ≤ 64 → is_image_word (n * 16 + 3) ≡ true
tuple_fits n few = by_tag tag_fits n 3 (omega arith) ∙ passes_le n 64 few

-- and a list
pub list_fits : (n : ℕ) → n ≤ 64 → is_image_word (n * 16 + 4) ≡ true
list_fits n few = by_tag tag_fits n 4 (omega arith) ∙ passes_le n 64 few

-- what a word is that may stand in an image
pub data WordKind (word : ℕ) : Type 0 where
  integer_word : (bits : ℕ) → word ≡ bits * 16 + 1 → bits < 1152921504606846976 → WordKind word
  atom_word : (atom : ℕ) → word ≡ atom * 16 + 2 → atom < 4294967296 → WordKind word
  tuple_word : (count : ℕ) → word ≡ count * 16 + 3 → WordKind word
  list_word : (count : ℕ) → word ≡ count * 16 + 4 → WordKind word

-- by one test of the tag
by_test : {P : Type 0} (test yes_test no_test : Bool) → (test ≡ true → yes_test ≡ true → P) → (test ≡ false → no_test ≡ true → P) → cond test yes_test no_test ≡ true → P
by_test true a b f g h = f refl h
by_test false a b f g h = g refl h

-- a number of which a test is true
test_eq : (m n : ℕ) → (m == n) ≡ true → m ≡ n
test_eq m n h = grind (arith, nat_tests)

-- a word has its tag and its bits
word_again : (word tag : ℕ) → word % 16 ≡ tag → word ≡ word / 16 * 16 + tag
word_again word tag e = omega arith

-- no test passes
no_word : {P : Type 0} → false ≡ true → P
no_word h = cc

-- by its tag
pub word_kind : (word : ℕ) → is_image_word word ≡ true → WordKind word
word_kind word h =
    by_test (word % 16 == 1) _ _ (λ t k. integer_word (word / 16) (word_again word 1 (test_eq (word % 16) 1 t)) (test_lt (word / 16) 1152921504606846976 k)) (λ _ h2.
    by_test (word % 16 == 2) _ _ (λ t k. atom_word (word / 16) (word_again word 2 (test_eq (word % 16) 2 t)) (test_lt (word / 16) 4294967296 k)) (λ _ h3.
    by_test (word % 16 == 3) _ _ (λ t k. tuple_word (word / 16) (word_again word 3 (test_eq (word % 16) 3 t))) (λ _ h4.
    by_test (word % 16 == 4) _ _ (λ t k. list_word (word / 16) (word_again word 4 (test_eq (word % 16) 4 t))) (λ _ h5. no_word h5) h4) h3) h2) h

-- by whether the integer is below zero
bits_of : (bits : ℕ) (b : Bool) → bits < 1152921504606846976 → low_bits (cond b (pos bits) (negsuc (1152921504606846975 - bits))) ≡ bits
bits_of bits true small = refl
bits_of bits false small = omega arith

-- the bits of the integer with these bits
pub low_bits-back : (bits : ℕ) → bits < 1152921504606846976 → low_bits (integer_of_bits bits) ≡ bits
low_bits-back bits small = bits_of bits (nat_lt bits 576460752303423488) small

-- by whether the integer is below zero
range_of : (bits : ℕ) (b : Bool) → nat_lt bits 576460752303423488 ≡ b → bits < 1152921504606846976 → IsTermInteger (cond b (pos bits) (negsuc (1152921504606846975 - bits)))
range_of bits true test small = let less = test_lt bits 576460752303423488 test in record { low = omega (arith, ints); high = omega (arith, ints) }
range_of bits false test small = let more = test_not_lt bits 576460752303423488 test in record { low = omega (arith, ints); high = omega (arith, ints) }

-- it is a term's
pub integer_of_bits-fits : (bits : ℕ) → bits < 1152921504606846976 → IsTermInteger (integer_of_bits bits)
integer_of_bits-fits bits small = range_of bits (nat_lt bits 576460752303423488) refl small
