-- Going over images in an area word by word, and reading a literal.
use Rattle.std.proofs.Common.{◌≡◌, ◌<◌, ◌≤◌, ◌+◌, ◌-◌, ◌∙◌, ℕ, zero, suc, refl, sym, ap, subst, arith, List, [], ◌∷◌, ◌++◌, length, drop, take, slice_index, Option, Some, None, option_map, unwrap_or}
use Rattle.std.proofs.lemmas.List.{drop-drop, get_or-drop, length-drop, take_more}
use Rattle.term_core.specs.declared.term.Term.{Term}
use Rattle.term_core.specs.Image.{IsImageAt, images_len, parts_of_word, term_at}
use Rattle.term_core.specs.Plain.{plain, term_of}
use Rattle.term_core.specs.PlainTerm.{term_words}
use Rattle.term_core.proofs.ImagePlaces.{images_len-at, stands_same, term_at-is}
use Rattle.machine_core.specs.declared.process.LitRef.{LitRef}
use Rattle.machine_core.specs.View.{IsLawful, IsLiteral, IsReadable, Shown}
use Rattle.machine_core.specs.Stand.{AreImages, images_end}
use Rattle.machine_core.proofs.OwnedTerms.{term_of-plain}

-- ---- places that may be asked for

-- a place that may be asked for is one of an image, which is short
pub readable_low : (shown : Shown) (serial at : ℕ) → IsLawful shown → IsReadable shown serial at → at < 1024
readable_low shown serial at lawful h = let within = h.within in let short = lawful.short serial in omega arith

-- ---- the next word of images

-- the first word of images, and how many words the others have
record IsFront (n len : ℕ) (words : List ℕ) : Type 0 where
  word : ℕ
  rest : List ℕ
  later : ℕ
  whole : words ≡ word ∷ rest
  left : images_len (n + parts_of_word word) rest ≡ Some later
  sum : len ≡ suc later

front_of : (n len word : ℕ) (rest : List ℕ) (o : Option ℕ) → images_len (n + parts_of_word word) rest ≡ o → option_map suc o ≡ Some len → IsFront n len (word ∷ rest)
front_of n len word rest None e h = absurd (cc)
front_of n len word rest (Some later) e h = let k : suc later ≡ len = cc in record { word = word; rest = rest; later = later; whole = refl; left = e; sum = sym k }

front : (n len : ℕ) (words : List ℕ) → images_len (suc n) words ≡ Some len → IsFront n len words
front n len [] h = absurd (cc)
front n len (word ∷ rest) h = front_of n len word rest (images_len (n + parts_of_word word) rest) refl h

-- each image has a word
least_by : (fuel : ℕ) (words : List ℕ) (n len : ℕ) → length words ≤ fuel → images_len n words ≡ Some len → n ≤ len
least_by fuel words zero len few h = omega arith
least_by zero words (suc n) len few h = let f = front n len words h in absurd (omega (arith, ap length f.whole))
least_by (suc fuel) words (suc n) len few h =
    let f = front n len words h in
    let r = least_by fuel f.rest (n + parts_of_word f.word) f.later (omega (arith, ap length f.whole)) f.left in
    omega (arith, f.sum)

least : (words : List ℕ) (n len : ℕ) → images_len n words ≡ Some len → n ≤ len
least words n len h = least_by (length words) words n len (omega arith) h

-- what is known before the next word is read, and after it
pub record IsStep (shown : Shown) (serial place needed word : ℕ) : Type 0 where
  pub readable : IsReadable shown serial place
  pub low : place < 1024
  pub few : needed - 1 + parts_of_word word ≤ 1024
  pub next : AreImages shown serial (place + 1) (needed - 1 + parts_of_word word)
  pub end : images_end (shown.words serial) (place + 1) (needed - 1 + parts_of_word word) ≡ images_end (shown.words serial) place needed
  pub less : suc (unwrap_or (images_len (needed - 1 + parts_of_word word) (drop (place + 1) (shown.words serial))) 0) ≡ unwrap_or (images_len needed (drop place (shown.words serial))) 0

same_len : (words : List ℕ) (n len : ℕ) → images_len n words ≡ Some len → unwrap_or (images_len n words) 0 ≡ len
same_len words n len h = ap (λ o. unwrap_or o 0) h

step_of : (shown : Shown) (serial place n word : ℕ) → IsLawful shown → (a : AreImages shown serial place (suc n)) → IsFront n a.len (drop place (shown.words serial)) → word ≡ slice_index (shown.words serial) place →
    IsStep shown serial place (suc n) word
step_of shown serial place n word lawful a f e =
    let words = shown.words serial in
    let here : slice_index words place ≡ f.word = ap (λ k. slice_index words k) (omega arith) ∙ sym (get_or-drop place words 0 0) ∙ ap (λ ws. slice_index ws 0) f.whole in
    let is : word ≡ f.word = e ∙ here in
    let rest : drop (place + 1) words ≡ f.rest = sym (drop-drop 1 place words) ∙ ap (λ ws. drop 1 ws) f.whole in
    let one : suc n - 1 + parts_of_word word ≡ n + parts_of_word f.word = ap (λ w. suc n - 1 + parts_of_word w) is ∙ omega arith in
    let left : images_len (suc n - 1 + parts_of_word word) (drop (place + 1) words) ≡ Some f.later = ap (images_len (suc n - 1 + parts_of_word word)) rest ∙ ap (λ k. images_len k f.rest) one ∙ f.left in
    let sum = f.sum in
    let first : IsReadable shown serial place = subst (IsReadable shown serial) (omega arith) (a.readable 0 (omega arith)) in
    let low = readable_low shown serial place lawful first in
    let last = readable_low shown serial (place + f.later) lawful (a.readable f.later (omega arith)) in
    let few = least (drop (place + 1) words) (suc n - 1 + parts_of_word word) f.later left in
    record {
      readable = first;
      low = low;
      few = omega (arith, few, last);
      next = record { len = f.later; is = left; readable = λ i l. subst (IsReadable shown serial) (omega arith) (a.readable (suc i) (omega arith)) };
      end = omega (arith, same_len (drop (place + 1) words) (suc n - 1 + parts_of_word word) f.later left, same_len (drop place words) (suc n) a.len a.is);
      less = omega (arith, same_len (drop (place + 1) words) (suc n - 1 + parts_of_word word) f.later left, same_len (drop place words) (suc n) a.len a.is);
    }

-- the next word of images that are needed still
pub image_step : (shown : Shown) (serial place needed word : ℕ) → IsLawful shown → AreImages shown serial place needed → 0 < needed → word ≡ slice_index (shown.words serial) place →
    IsStep shown serial place needed word
image_step shown serial place zero word lawful a some e = absurd (omega arith)
image_step shown serial place (suc n) word lawful a some e = step_of shown serial place n word lawful a (front n a.len (drop place (shown.words serial)) a.is) e

-- ---- a literal

-- its words
pub literal_images : (shown : Shown) (at : LitRef) → IsLiteral shown at → AreImages shown at.area.serial at.at 1
literal_images shown at h = record { len = term_words h.term; is = images_len-at (shown.words at.area.serial) at.at h.term h.image; readable = h.readable }

-- end there
pub literal_end : (shown : Shown) (at : LitRef) (h : IsLiteral shown at) → images_end (shown.words at.area.serial) at.at 1 ≡ at.at + term_words h.term
literal_end shown at h = ap (λ o. at.at + unwrap_or o 0) (images_len-at (shown.words at.area.serial) at.at h.term h.image)

-- and may be asked for
pub literal_readable : (shown : Shown) (at : LitRef) (h : IsLiteral shown at) (place : ℕ) → at.at ≤ place → place < at.at + term_words h.term → IsReadable shown at.area.serial place
literal_readable shown at h place from to = subst (IsReadable shown at.area.serial) (omega arith) (h.readable (place - at.at) (omega arith))

-- the term that was read from a literal's words is the literal's
pub literal_read : (shown : Shown) (at : LitRef) (h : IsLiteral shown at) (words : List ℕ) (end : ℕ) (term : Term) → end ≡ at.at + term_words h.term →
    words ≡ take (end - at.at) (drop at.at (shown.words at.area.serial)) → plain term ≡ term_at words 0 → term ≡ term_of (term_at (shown.words at.area.serial) at.at)
literal_read shown at h words end term e w r =
    let whole = shown.words at.area.serial in
    let count : end - at.at ≡ term_words h.term = omega arith in
    let is : words ≡ take (term_words h.term) (drop at.at whole) = w ∙ ap (λ n. take n (drop at.at whole)) count in
    let same : take (term_words h.term) (drop at.at whole) ≡ take (term_words h.term) (drop 0 words) = sym (ap (take (term_words h.term)) is ∙ twice (term_words h.term) (drop at.at whole)) in
    let stands : IsImageAt words 0 h.term = stands_same whole words at.at 0 h.term h.image same in
    sym (term_of-plain term) ∙ ap term_of (r ∙ term_at-is words 0 h.term stands ∙ sym (term_at-is whole at.at h.term h.image))
  where
    twice : (n : ℕ) (xs : List ℕ) → take n (take n xs) ≡ take n xs
    twice zero xs = refl
    twice (suc n) [] = refl
    twice (suc n) (x ∷ xs) = ap (λ ys. x ∷ ys) (twice n xs)

-- ---- words of an area, one after another

-- the words up to a place, and the one that stands there
pub more_words : (words read after : List ℕ) (from place word : ℕ) → from ≤ place → place < length words → read ≡ take (place - from) (drop from words) → word ≡ slice_index words place → after ≡ read ++ word ∷ [] →
    after ≡ take (place + 1 - from) (drop from words)
more_words words read after from place word low within r w e =
    let n = place - from in
    let here : place ≡ from + n = omega arith in
    let more : n + 1 ≡ place + 1 - from = omega arith in
    let below : n < length (drop from words) = omega (arith, length-drop from words) in
    let is : word ≡ slice_index (drop from words) n = w ∙ ap (slice_index words) here ∙ sym (get_or-drop from words n 0) in
    e ∙ ap (λ ws. ws ++ word ∷ []) r ∙ ap (λ x. take n (drop from words) ++ x ∷ []) is ∙ sym (take_more (drop from words) n 0 below) ∙ ap (λ k. take k (drop from words)) more
