-- Lemmas on the words of integers and atoms.
use Rattle.std.proofs.Common.{◌≡◌, ℕ, ◌+◌, ◌-◌, ◌*◌, ◌/◌, ◌%◌, ◌<◌, ◌≤◌, true, false, cond, ◌==◌, nat_lt, ℤ, pos, negsuc, refl, ap, ◌∙◌, arith}
use Rattle.std.proofs.lemmas.Bool.Decides.{nat_tests}
use Rattle.term_core.specs.declared.term.Term.{Term}
use Rattle.term_core.specs.declared.term.Term.TheVariants.{Int, Atom}
use Rattle.term_core.specs.Image.{IsImmediate, HasSmallAtoms, low_bits, immediate_word, integer_of_bits, term_of_word}
use Rattle.term_core.specs.Written.{IsTermInteger}
use Rattle.term_core.proofs.IntegerTexts.{range_pos, range_negsuc}

-- the bits of an integer from zero up are its own
bits_back_pos : (n : ℕ) → n ≤ 576460752303423487 → integer_of_bits n ≡ pos n
bits_back_pos n small = let less : nat_lt n 576460752303423488 ≡ true = grind (arith, nat_tests) in ap (λ b. cond b (pos n) (negsuc (1152921504606846975 - n))) less

-- those of one below zero are read as below zero
bits_back_negsuc : (n bits : ℕ) → n ≤ 576460752303423487 → bits ≡ 1152921504606846975 - n → integer_of_bits bits ≡ negsuc n
bits_back_negsuc n bits small e =
    let more : nat_lt bits 576460752303423488 ≡ false = grind (arith, nat_tests) in
    let back : 1152921504606846975 - bits ≡ n = omega arith in
    ap (λ b. cond b (pos bits) (negsuc (1152921504606846975 - bits))) more ∙ ap negsuc back

-- so the bits of an integer are read as it
pub bits_back : (z : ℤ) → IsTermInteger z → integer_of_bits (low_bits z) ≡ z
bits_back (pos n) range = bits_back_pos n (range_pos n range)
bits_back (negsuc n) range = bits_back_negsuc n (low_bits (negsuc n)) (range_negsuc n range) refl

-- a word has its bits and its tag
pub tagged : (bits : ℕ) (tag : ℕ) → tag < 16 → ((bits * 16 + tag) % 16 ≡ tag) × ((bits * 16 + tag) / 16 ≡ bits)
tagged bits tag small = (omega arith, omega arith)

-- what is tagged as an integer is read as one
integer_tag : (word bits : ℕ) → word % 16 ≡ 1 → word / 16 ≡ bits → term_of_word word ≡ Int (integer_of_bits bits)
integer_tag word bits tag e =
    let is : (word % 16 == 1) ≡ true = grind (arith, nat_tests) in
    ap (λ b. cond b (Int (integer_of_bits (word / 16))) (Atom (record { 0 = word / 16 % 4294967296 }))) is ∙ ap (λ n. Int (integer_of_bits n)) e

-- what is tagged as an atom is read as one
atom_tag : (word bits : ℕ) → word % 16 ≡ 2 → word / 16 ≡ bits → bits < 4294967296 → term_of_word word ≡ Atom (record { 0 = bits })
atom_tag word bits tag e small =
    let is : (word % 16 == 1) ≡ false = grind (arith, nat_tests) in
    let back : word / 16 % 4294967296 ≡ bits = omega arith in
    ap (λ b. cond b (Int (integer_of_bits (word / 16))) (Atom (record { 0 = word / 16 % 4294967296 }))) is ∙ ap (λ n. Atom (record { 0 = n })) back

-- the word of a term is read as that term
pub term_of_word-immediate_word : (t : Term) → IsImmediate t → HasSmallAtoms t → term_of_word (immediate_word t) ≡ t
term_of_word-immediate_word (Int z) is small =
    let parts = tagged (low_bits z) 1 (omega arith) in
    integer_tag (immediate_word (Int z)) (low_bits z) parts.0 parts.1 ∙ ap Int (bits_back z is)
term_of_word-immediate_word (Atom a) is small =
    let parts = tagged a.0 2 (omega arith) in
    atom_tag (immediate_word (Atom a)) a.0 parts.0 parts.1 small
term_of_word-immediate_word t is small = absurd is
