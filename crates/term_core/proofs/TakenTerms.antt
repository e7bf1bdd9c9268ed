-- Lemmas on terms that are taken off a stack one by one.
use Rattle.std.proofs.Common.{◌≡◌, ℕ, ◌+◌, ◌<◌, List, [], ◌∷◌, ◌++◌, length, take, drop, get_or, All, refl, sym, ap, ◌∙◌, arith}
use Rattle.std.proofs.lemmas.List.{take_more, drop_more, length-drop, take_all, drop_all, append-nil, append_assoc, nil_from_length, drop_at}
use Rattle.std.proofs.lemmas.List.Elements.{All-head, All-same, All-drop}
use Rattle.term_core.specs.Image.{with_word, terms_in}
use Rattle.term_core.specs.PlainTerm.{PlainTerm}

-- what was taken of a stack, and what is left of it
pub record IsTaken {X : Type 0} (before row left : List X) (count : ℕ) : Type 0 where
  pub taken : row ≡ take count before
  pub rest : left ≡ drop count before

-- two lists with something in front
parts_of : {X : Type 0} (x y : X) (xs ys : List X) → x ∷ xs ≡ y ∷ ys → (x ≡ y) × (xs ≡ ys)
parts_of x y xs ys e = (cc, cc)

-- one more
pub taken_more : {X : Type 0} (before row left rest : List X) (x : X) (count : ℕ) → IsTaken before row left count → left ≡ x ∷ rest → IsTaken before (row ++ x ∷ []) rest (count + 1)
taken_more before row left rest x count h e =
    let less : count < length before = omega (arith, ap length (sym h.rest ∙ e), length-drop count before) in
    let front = parts_of (get_or before count x) x (drop (count + 1) before) rest (sym (drop_more before count x less) ∙ sym h.rest ∙ e) in
    record {
      taken = ap (λ xs. xs ++ x ∷ []) h.taken ∙ ap (λ y. take count before ++ y ∷ []) (sym front.0) ∙ sym (take_more before count x less);
      rest = sym front.1;
    }

-- where none is left, none is taken
pub taken_none : {X : Type 0} (before row left : List X) (count : ℕ) → IsTaken before row left count → left ≡ [] → IsTaken before row [] (count + 1)
taken_none before row left count h e =
    let few = length-drop count before in
    let none : length (drop count before) ≡ 0 = ap length (sym h.rest ∙ e) in
    record {
      taken = h.taken ∙ take_all count before (omega arith) ∙ sym (take_all (count + 1) before (omega arith));
      rest = sym (drop_all (count + 1) before (omega arith));
    }

-- the terms of the last words of some, and the words that are left in front of them
pub record IsPassed (words left : List ℕ) (terms : List PlainTerm) : Type 0 where
  pub passed : List ℕ
  pub whole : words ≡ left ++ passed
  pub are : terms ≡ terms_in passed

-- at the start none was passed
pub passed_none : (words left : List ℕ) (terms : List PlainTerm) → left ≡ words → terms ≡ [] → IsPassed words left terms
passed_none words left terms e none = record { passed = []; whole = sym e ∙ sym (append-nil left); are = none }

-- one more
pub passed_more : (words left rest : List ℕ) (word : ℕ) (terms others : List PlainTerm) → IsPassed words left terms → left ≡ rest ++ word ∷ [] → others ≡ with_word word terms → IsPassed words rest others
passed_more words left rest word terms others h e with_one = record {
  passed = word ∷ h.passed;
  whole = h.whole ∙ ap (λ ws. ws ++ h.passed) e ∙ append_assoc rest (word ∷ []) h.passed;
  are = with_one ∙ ap (with_word word) h.are;
}

-- at the end all were
pub passed_all : (words left : List ℕ) (terms : List PlainTerm) → IsPassed words left terms → length left ≡ 0 → terms ≡ terms_in words
passed_all words left terms h none = h.are ∙ ap terms_in (ap (λ ws. ws ++ h.passed) (sym (nil_from_length left none)) ∙ sym h.whole)

-- the last word that is left is one of them
pub passed_next : (P : ℕ → Type 0) (words left rest : List ℕ) (word : ℕ) (terms : List PlainTerm) → IsPassed words left terms → left ≡ rest ++ word ∷ [] → All P words → P word
passed_next P words left rest word terms h e all =
    let is : words ≡ rest ++ (word ∷ h.passed) = h.whole ∙ ap (λ ws. ws ++ h.passed) e ∙ append_assoc rest (word ∷ []) h.passed in
    let here : drop (length rest) words ≡ word ∷ h.passed = ap (drop (length rest)) is ∙ drop_at rest (word ∷ h.passed) (length rest) refl in
    All-head P word h.passed (All-same P (word ∷ h.passed) (drop (length rest) words) (sym here) (All-drop P (length rest) words all))
