-- Where the code finds an image, a term has one; and what it reads back is that term.
use Rattle.std.proofs.Common.{◌≡◌, ℕ, zero, suc, ◌+◌, ◌-◌, ◌*◌, ◌<◌, ◌≤◌, ℤ, Bool, true, cond, List, [], ◌∷◌, ◌++◌, length, take, drop, min, All, IsTrue, Option, None, Some, option_map, refl, sym, ap, ◌∙◌, subst, arith}
use Rattle.std.proofs.lemmas.List.{append_assoc, append-nil, take-append-drop, length-take-le, length-take, length-drop, take_min}
use Rattle.std.proofs.lemmas.List.Elements.{All-nil, All-cons}
use Rattle.std.proofs.Math.Seq.{take-append-add}
use Rattle.term_core.specs.declared.term.Term.{Term}
use Rattle.term_core.specs.Image.{image_of, row_image, IsPlainTerm, IsImageAt, low_bits, integer_of_bits, with_word, terms_in, parts_of_word}
use Rattle.term_core.specs.ImageWords.{is_image_word, found_len}
use Rattle.term_core.specs.Plain.{plain, term_of}
use Rattle.term_core.specs.PlainTerm.{RowOf, PlainTerm, integer_leaf, atom_leaf, tuple_of, list_of, row_of, row_count, term_words}
use Rattle.term_core.specs.Written.{IsTermInteger}
use Rattle.term_core.proofs.ImageTerms.{IsPlainRow, length-image, found_len-image}
use Rattle.term_core.proofs.Lefts.{rest_is}
use Rattle.term_core.proofs.ImagePlaces.{IsImageAt-unique}
use Rattle.term_core.proofs.PlainTerms.{term_of-plain}
use Rattle.term_core.proofs.WordTags.{WordKind, integer_word, atom_word, tuple_word, list_word, word_kind, with_integer, with_atom, with_tuple, with_list, integer_parts, atom_parts, tuple_parts, list_parts, low_bits-back, integer_of_bits-fits}
use Rattle.term_core.proofs.Text.Options.{some_is}

-- what is said of two rows one behind the other
row_append : (xs ys : List PlainTerm) → row_image (row_of (xs ++ ys)) ≡ row_image (row_of xs) ++ row_image (row_of ys)
row_append [] ys = refl
row_append (t ∷ xs) ys = ap (λ ws. image_of t ++ ws) (row_append xs ys) ∙ sym (append_assoc (image_of t) (row_image (row_of xs)) (row_image (row_of ys)))

-- the terms of the front of a row
plain_front : (n : ℕ) (ts : List PlainTerm) → IsPlainRow (row_of ts) → IsPlainRow (row_of (take n ts))
plain_front (suc n) (t ∷ ts) h = (h.0, plain_front n ts h.1)
plain_front n ts h = tt

-- and of the rest
plain_rest : (n : ℕ) (ts : List PlainTerm) → IsPlainRow (row_of ts) → IsPlainRow (row_of (drop n ts))
plain_rest zero ts h = h
plain_rest (suc n) [] h = tt
plain_rest (suc n) (t ∷ ts) h = plain_rest n ts h.1

-- how many terms a row of a list has
pub count_row : (ts : List PlainTerm) → row_count (row_of ts) ≡ length ts
count_row [] = refl
count_row (t ∷ ts) = omega (arith, count_row ts)

-- the images of the front and of the rest
row_split : (n : ℕ) (ts : List PlainTerm) → row_image (row_of (take n ts)) ++ row_image (row_of (drop n ts)) ≡ row_image (row_of ts)
row_split n ts = sym (row_append (take n ts) (drop n ts)) ∙ ap (λ us. row_image (row_of us)) (take-append-drop n ts)

-- terms as they can be, as many as are needed, with these words as their images
pub record AreImages (count : ℕ) (words : List ℕ) (terms : List PlainTerm) : Type 0 where
  pub count_is : length terms ≡ count
  pub image : row_image (row_of terms) ≡ words
  pub plain : IsPlainRow (row_of terms)

-- the same terms
images_at : (count : ℕ) (words : List ℕ) (terms others : List PlainTerm) → terms ≡ others → AreImages count words others → AreImages count words terms
images_at count words terms others e h = subst (AreImages count words) (sym e) h

-- a leaf in front of terms
leaf_images : (n word parts : ℕ) (words : List ℕ) (ts : List PlainTerm) (t : PlainTerm) → parts ≡ 0 → image_of t ≡ word ∷ [] → IsPlainTerm t → AreImages (n + parts) words ts → AreImages (suc n) (word ∷ words) (t ∷ ts)
leaf_images n word parts words ts t none e fits h = record {
  count_is = let count = h.count_is in omega arith;
  image = ap (λ ws. ws ++ row_image (row_of ts)) e ∙ ap (λ ws. word ∷ ws) h.image;
  plain = (fits, h.plain);
}

-- brackets around the front of terms
shut_images : (n word parts : ℕ) (words : List ℕ) (ts : List PlainTerm) (shut : RowOf ℤ ℕ → PlainTerm) → image_of (shut (row_of (take parts ts))) ≡ word ∷ row_image (row_of (take parts ts)) → IsPlainTerm (shut (row_of (take parts ts))) →
    AreImages (n + parts) words ts → AreImages (suc n) (word ∷ words) (shut (row_of (take parts ts)) ∷ drop parts ts)
shut_images n word parts words ts shut e fits h = record {
  count_is = let count = h.count_is in omega (arith, length-drop parts ts);
  image = ap (λ ws. ws ++ row_image (row_of (drop parts ts))) e ∙ ap (λ ws. word ∷ ws) (row_split parts ts ∙ h.image);
  plain = (fits, plain_rest parts ts h.plain);
}

-- as many terms as a word counts
counted : (n parts : ℕ) (ts : List PlainTerm) → length ts ≡ n + parts → row_count (row_of (take parts ts)) ≡ parts
counted n parts ts e = count_row (take parts ts) ∙ length-take-le parts ts (omega arith)

-- an integer's word in front of terms
integer_images : (n bits : ℕ) (words : List ℕ) (ts : List PlainTerm) → bits < 1152921504606846976 → AreImages (n + parts_of_word (bits * 16 + 1)) words ts → AreImages (suc n) ((bits * 16 + 1) ∷ words) (with_word (bits * 16 + 1) ts)
integer_images n bits words ts small h =
    let z : ℤ = integer_of_bits bits in
    let back : low_bits z ≡ bits = low_bits-back bits small in
    let fits : IsTermInteger z = integer_of_bits-fits bits small in
    images_at (suc n) ((bits * 16 + 1) ∷ words) (with_word (bits * 16 + 1) ts) (integer_leaf z ∷ ts) (ap (λ b. with_word (b * 16 + 1) ts) (sym back) ∙ with_integer z ts fits)
    (leaf_images n (bits * 16 + 1) (parts_of_word (bits * 16 + 1)) words ts (integer_leaf z) (ap (λ b. parts_of_word (b * 16 + 1)) (sym back) ∙ integer_parts z) (ap (λ b. (b * 16 + 1) ∷ []) back) fits h)

-- an atom's
atom_images : (n atom : ℕ) (words : List ℕ) (ts : List PlainTerm) → atom < 4294967296 → AreImages (n + parts_of_word (atom * 16 + 2)) words ts → AreImages (suc n) ((atom * 16 + 2) ∷ words) (with_word (atom * 16 + 2) ts)
atom_images n atom words ts small h =
    images_at (suc n) ((atom * 16 + 2) ∷ words) (with_word (atom * 16 + 2) ts) (atom_leaf atom ∷ ts) (with_atom atom ts)
    (leaf_images n (atom * 16 + 2) (parts_of_word (atom * 16 + 2)) words ts (atom_leaf atom) (atom_parts atom) refl small h)

-- a tuple's
tuple_images : (n count : ℕ) (words : List ℕ) (ts : List PlainTerm) → AreImages (n + parts_of_word (count * 16 + 3)) words ts → AreImages (suc n) ((count * 16 + 3) ∷ words) (with_word (count * 16 + 3) ts)
tuple_images n count words ts h =
    let these = subst (λ (parts : ℕ). AreImages (n + parts) words ts) (tuple_parts count) h in
    images_at (suc n) ((count * 16 + 3) ∷ words) (with_word (count * 16 + 3) ts) (tuple_of (row_of (take count ts)) ∷ drop count ts) (with_tuple count ts)
    (shut_images n (count * 16 + 3) count words ts tuple_of (ap (λ c. (c * 16 + 3) ∷ row_image (row_of (take count ts))) (counted n count ts these.count_is)) (plain_front count ts these.plain) these)

-- a list's
list_images : (n count : ℕ) (words : List ℕ) (ts : List PlainTerm) → AreImages (n + parts_of_word (count * 16 + 4)) words ts → AreImages (suc n) ((count * 16 + 4) ∷ words) (with_word (count * 16 + 4) ts)
list_images n count words ts h =
    let these = subst (λ (parts : ℕ). AreImages (n + parts) words ts) (list_parts count) h in
    images_at (suc n) ((count * 16 + 4) ∷ words) (with_word (count * 16 + 4) ts) (list_of (row_of (take count ts)) ∷ drop count ts) (with_list count ts)
    (shut_images n (count * 16 + 4) count words ts list_of (ap (λ c. (c * 16 + 4) ∷ row_image (row_of (take count ts))) (counted n count ts these.count_is)) (plain_front count ts these.plain) these)

-- what a word makes of images behind it
abbrev MakesImages : ℕ → List ℕ → List PlainTerm → ℕ → Type 0
MakesImages n words ts word = AreImages (n + parts_of_word word) words ts → AreImages (suc n) (word ∷ words) (with_word word ts)

-- by its kind
word_images : (n word : ℕ) (words : List ℕ) (ts : List PlainTerm) → WordKind word → MakesImages n words ts word
word_images n word words ts (integer_word bits e small) = subst (MakesImages n words ts) (sym e) (integer_images n bits words ts small)
word_images n word words ts (atom_word atom e small) = subst (MakesImages n words ts) (sym e) (atom_images n atom words ts small)
word_images n word words ts (tuple_word count e) = subst (MakesImages n words ts) (sym e) (tuple_images n count words ts)
word_images n word words ts (list_word count e) = subst (MakesImages n words ts) (sym e) (list_images n count words ts)

-- what is found behind a word that fits
record Step (b : Bool) (o : Option ℕ) (k : ℕ) : Type 0 where
  fits : b ≡ true
  rest : ℕ
  is : o ≡ Some rest
  next : suc rest ≡ k

-- by the test and what is found
step_of : (b : Bool) (o : Option ℕ) (k : ℕ) → cond b (option_map suc o) None ≡ Some k → Step b o k
step_of true (Some j) k h = record { fits = refl; rest = j; is = refl; next = some_is (suc j) k h }
step_of b o k h = cc

-- what is found: images of as many terms, which are read back from them
record IsFound (n k : ℕ) (words : List ℕ) : Type 0 where
  within : k ≤ length words
  are : AreImages n (take k words) (terms_in (take k words))

-- no term needs no word
found_none : (words : List ℕ) (k : ℕ) → 0 ≡ k → IsFound 0 k words
found_none words k e = subst (λ (j : ℕ). IsFound 0 j words) e (record { within = omega arith; are = record { count_is = refl; image = refl; plain = tt } })

-- so of any words
found_back : (words : List ℕ) (n k : ℕ) → found_len n words ≡ Some k → IsFound n k words
found_back [] zero k h = found_none [] k (some_is 0 k h)
found_back [] (suc n) k h = cc
found_back (word ∷ words) zero k h = found_none (word ∷ words) k (some_is 0 k h)
found_back (word ∷ words) (suc n) k h =
    let step = step_of (is_image_word word) (found_len (n + parts_of_word word) words) k h in
    let later = found_back words (n + parts_of_word word) step.rest step.is in
    let these : IsFound (suc n) (suc step.rest) (word ∷ words) = record {
      within = omega (arith, later.within);
      are = word_images n word (take step.rest words) (terms_in (take step.rest words)) (word_kind word step.fits) later.are;
    } in
    subst (λ (j : ℕ). IsFound (suc n) j (word ∷ words)) step.next these

-- the words that are found are there
pub found_within : (words : List ℕ) (n k : ℕ) → found_len n words ≡ Some k → k ≤ length words
found_within words n k h = (found_back words n k h).within

-- each word of some may stand in an image
abbrev AllFit : List ℕ → Type 0
AllFit words = All (λ word. IsTrue (is_image_word word)) words

-- so may each that is found
pub found_fit : (words : List ℕ) (n k : ℕ) → found_len n words ≡ Some k → AllFit (take k words)
found_fit [] zero k h = subst (λ (j : ℕ). AllFit (take j [])) (some_is 0 k h) (All-nil (λ word. IsTrue (is_image_word word)))
found_fit [] (suc n) k h = cc
found_fit (word ∷ words) zero k h = subst (λ (j : ℕ). AllFit (take j (word ∷ words))) (some_is 0 k h) (All-nil (λ word. IsTrue (is_image_word word)))
found_fit (word ∷ words) (suc n) k h =
    let step = step_of (is_image_word word) (found_len (n + parts_of_word word) words) k h in
    subst (λ (j : ℕ). AllFit (take j (word ∷ words))) step.next
    (All-cons (λ word. IsTrue (is_image_word word)) word (take step.rest words) step.fits (found_fit words (n + parts_of_word word) step.rest step.is))

-- a list of one
one_of : (ts : List PlainTerm) → length ts ≡ 1 → (t : PlainTerm) × (ts ≡ t ∷ [])
one_of (t ∷ []) e = (t, refl)
one_of ts e = absurd (omega (arith, e))

-- the one term that is found is read back
pub found_one : (words : List ℕ) (k : ℕ) → found_len 1 words ≡ Some k → (t : PlainTerm) × (terms_in (take k words) ≡ t ∷ [])
found_one words k h = one_of (terms_in (take k words)) (found_back words 1 k h).are.count_is

-- of at most 64 words
found_words : (words : List ℕ) (at k : ℕ) (front : List ℕ) (t : PlainTerm) → front ≡ take 64 (drop at words) → k ≤ length front → IsPlainTerm t → image_of t ≡ take k front → IsImageAt words at t
found_words words at k front t e within fits is =
    let left = drop 64 (drop at words) in
    let size : length (take k front) ≡ k = length-take-le k front within in
    record {
      rest = drop k front ++ left;
      whole = sym (take-append-drop 64 (drop at words)) ∙ ap (λ xs. xs ++ left) (sym e ∙ sym (take-append-drop k front)) ∙ append_assoc (take k front) (drop k front) left ∙ ap (λ xs. xs ++ (drop k front ++ left)) (sym is);
      fits = fits;
      short = omega (arith, length-image t, ap length is, size, ap length e, length-take 64 (drop at words));
    }

-- what is read back has its image there
pub read_is : (words : List ℕ) (at k : ℕ) (front : List ℕ) (t : PlainTerm) → front ≡ take 64 (drop at words) → found_len 1 front ≡ Some k → terms_in (take k front) ≡ t ∷ [] → IsImageAt words at t
read_is words at k front t e h read =
    let back = found_back front 1 k h in
    let these = subst (AreImages 1 (take k front)) read back.are in
    found_words words at k front t e back.within these.plain.0 (sym (append-nil (image_of t)) ∙ these.image)

-- what is left of 64 words
rest_of_64 : (xs ys : List ℕ) (n : ℕ) → length xs ≡ n → n ≤ 64 → take 64 (xs ++ ys) ≡ xs ++ take (64 - n) ys
rest_of_64 xs ys n e short = let parts : 64 ≡ length xs + (64 - n) = omega arith in ap (λ m. take m (xs ++ ys)) parts ∙ take-append-add xs ys (64 - n)

-- no value is none
some_is_not_none : (o : Option ℕ) (n : ℕ) → o ≡ Some n → o ≡ None → ⊥
some_is_not_none o n e h = cc

-- where it finds none, no term has its image
pub found_not : (words : List ℕ) (at : ℕ) (front : List ℕ) (t : PlainTerm) → front ≡ take 64 (drop at words) → found_len 1 front ≡ None → IsImageAt words at t → ⊥
found_not words at front t e none h =
    let rest = take (64 - term_words t) h.rest in
    let is : front ≡ image_of t ++ rest = e ∙ ap (take 64) h.whole ∙ rest_of_64 (image_of t) h.rest (term_words t) (length-image t) h.short in
    some_is_not_none (found_len 1 front) (term_words t + 0) (ap (found_len 1) is ∙ found_len-image t h.fits h.short 0 rest) none

-- the one term there is given
pub only_one : (words : List ℕ) (at : ℕ) (term : Term) (t : PlainTerm) → IsImageAt words at (plain term) → IsImageAt words at t → term ≡ term_of t
only_one words at term t h k = sym (term_of-plain term) ∙ ap term_of (IsImageAt-unique words at (plain term) t h k)

-- no term is not one
pub none_is_not_one : (t : PlainTerm) → [] ≡ t ∷ [] → ⊥
none_is_not_one t e = cc

-- the term on top is the one
pub last_one : (t u : PlainTerm) (us : List PlainTerm) → u ∷ us ≡ t ∷ [] → t ∷ [] ≡ u ∷ []
last_one t u us e = cc

-- the words that the code looks at
pub first_64 : (words : List ℕ) (at : ℕ) → take (min 64 (length (take (length words - at) (drop at words)))) (take (length words - at) (drop at words)) ≡ take 64 (drop at words)
first_64 words at = take_min 64 (take (length words - at) (drop at words)) ∙ ap (take 64) (rest_is words at)
