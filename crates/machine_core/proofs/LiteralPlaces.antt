-- Where literals stand: the constants of an instruction as the view shows them, the terms of areas, and the parts of a literal.
use Rattle.std.proofs.Common.{◌≡◌, ◌<◌, ◌≤◌, ◌+◌, ◌∙◌, ℕ, zero, suc, refl, sym, ap, arith, ℤ, List, [], ◌∷◌, ◌++◌, length, drop, slice_get, slice_index, Option, Some, None, All}
use Rattle.std.proofs.Common.{append_assoc}
use Rattle.std.proofs.lemmas.List.{get_or-drop}
use Rattle.std.proofs.Math.ListN.{get_or-append}
use Rattle.std.proofs.lemmas.List.Elements.{All-append, All-cons, All-nil}
use Rattle.term_core.specs.Image.{IsImageAt, image_of, images_len, row_image}
use Rattle.term_core.specs.PlainTerm.{RowOf, TermOf, PlainTerm, integer_leaf, atom_leaf, tuple_of, list_of, no_terms, term_then, terms_of, row_words, term_words}
use Rattle.term_core.specs.Written.{place_or}
use Rattle.term_core.proofs.ImageTerms.{images_len-image, length-image}

-- ---- words that stand for a term

-- each word of an image has a tag
abbrev IsTagged : ℕ → Type 0
IsTagged word = 1 ≤ word

mutual
  image_tagged : (t : TermOf ℤ ℕ) → All IsTagged (image_of t)
  image_tagged (integer_leaf z) = All-cons IsTagged _ [] (omega arith) (All-nil IsTagged)
  image_tagged (atom_leaf a) = All-cons IsTagged _ [] (omega arith) (All-nil IsTagged)
  image_tagged (tuple_of row) = All-cons IsTagged _ (row_image row) (omega arith) (row_tagged row)
  image_tagged (list_of row) = All-cons IsTagged _ (row_image row) (omega arith) (row_tagged row)

  row_tagged : (row : RowOf ℤ ℕ) → All IsTagged (row_image row)
  row_tagged no_terms = All-nil IsTagged
  row_tagged (term_then t row) = All-append IsTagged (image_of t) (row_image row) (image_tagged t) (row_tagged row)

-- words that have others from a place on, none of which is 0, have them there
words_at : (xs words : List ℕ) → All IsTagged xs → ((k : ℕ) → k < length xs → slice_index words k ≡ slice_index xs k) → words ≡ xs ++ drop (length xs) words
words_at [] words tagged same = refl
words_at (x ∷ xs) [] tagged same =
    let one : 1 ≤ x = tagged 0 0 (omega arith) in
    let none : 0 ≡ x = same 0 (omega arith) in
    absurd (omega arith)
words_at (x ∷ xs) (w ∷ words) tagged same =
    let first : w ≡ x = same 0 (omega arith) in
    let later = words_at xs words (λ k d l. tagged (suc k) d (omega arith)) (λ k l. same (suc k) (omega arith)) in
    ap (λ v. v ∷ words) first ∙ ap (λ ws. x ∷ ws) later

dropped_index : (words : List ℕ) (at k : ℕ) → slice_index (drop at words) k ≡ slice_index words (at + k)
dropped_index words at k = get_or-drop at words k 0

-- the words of an image, from its place on
pub image_index : (words : List ℕ) (at : ℕ) (t : PlainTerm) (k : ℕ) → IsImageAt words at t → k < term_words t → slice_index words (at + k) ≡ slice_index (image_of t) k
image_index words at t k h less =
    sym (dropped_index words at k) ∙ ap (λ ws. slice_index ws k) h.whole ∙ get_or-append (image_of t) h.rest 0 k (omega (arith, length-image t))

-- where other words have the same there, the same term stands
pub image_moved : (words others : List ℕ) (at : ℕ) (t : PlainTerm) → IsImageAt words at t → ((k : ℕ) → k < term_words t → slice_index others (at + k) ≡ slice_index words (at + k)) → IsImageAt others at t
image_moved words others at t h same = record {
  rest = drop (length (image_of t)) (drop at others);
  whole = words_at (image_of t) (drop at others) (image_tagged t) (λ k l. dropped_index others at k ∙ same k (omega (arith, length-image t)) ∙ image_index words at t k h (omega (arith, length-image t)));
  fits = h.fits;
  short = h.short;
}

-- ---- the parts of a literal

-- a skip over a term and more
record IsSkip (words skip : ℕ) (later : Option ℕ) : Type 0 where
  rest : ℕ
  is : later ≡ Some rest
  sum : skip ≡ words + rest

skip_of : (words skip : ℕ) (later : Option ℕ) → place_or None words later ≡ Some skip → IsSkip words skip later
skip_of words skip None e = absurd (cc)
skip_of words skip (Some rest) e = let k : words + rest ≡ skip = cc in record { rest = rest; is = refl; sum = sym k }

-- a part of a row ends within the row
pub part_within : (row : RowOf ℤ ℕ) (rest : List ℕ) (i : ℕ) (u : PlainTerm) (skip : ℕ) → slice_get (terms_of row) i ≡ Some u → images_len i (row_image row ++ rest) ≡ Some skip → skip + term_words u ≤ row_words row
part_within no_terms rest i u skip at len = absurd (cc)
part_within (term_then t row) rest zero u skip at len =
    let e : t ≡ u = cc in
    let k : 0 ≡ skip = cc in
    omega (arith, ap (term_words {Z = ℤ} {A = ℕ}) e)
part_within (term_then t row) rest (suc i) u skip at len =
    let s = skip_of (term_words t) skip (images_len i (row_image row ++ rest)) (sym (images_len-image t i (row_image row ++ rest)) ∙ ap (images_len (suc i)) (sym (append_parts t row rest)) ∙ len) in
    let later = part_within row rest i u s.rest at s.is in
    let sum = s.sum in
    omega arith
  where
    append_parts : (t : PlainTerm) (row : RowOf ℤ ℕ) (rest : List ℕ) → (image_of t ++ row_image row) ++ rest ≡ image_of t ++ (row_image row ++ rest)
    append_parts t row rest = simp append_assoc
