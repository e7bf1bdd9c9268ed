-- What holds of the form that words have: its numbers are within their limits, and what is not read.
use Rattle.std.proofs.Common.{◌≡◌, ℕ, ◌+◌, ◌≤◌, ◌<◌, zero, suc, Bool, true, false, cond, ◌&&◌, nat_le, bytes_eq, codes, decimal, List, [], ◌∷◌, map, length, Option, Some, None, option_map, refl, sym, ap, ◌∙◌, subst, arith}
use Rattle.std.specs.Prelude.{IfSome, IsTrue}
use Rattle.std.specs.List.{find, range_with_len}
use Rattle.std.proofs.lemmas.Bool.{and_parts}
use Rattle.term_core.specs.Text.Words.{narrow_reading}
use Rattle.term_core.proofs.Truths.{test_le}
use Rattle.beam_tool.specs.declared.form.Form.{Form}
use Rattle.beam_tool.specs.declared.form.Form.TheVariants as forms
use Rattle.beam_tool.specs.TopCall.{IsCount, IsSize, IsWithinLimits, form_of, make_form, name_seed_and_size, name_trial, reads, schedulers_of, size_of, size_within, trial_form}

within : (n : ℕ) (b : Bool) → (nat_le 1 n && nat_le n 4000) ≡ b → IfSome (cond b (Some n) None) IsSize
within n true e = let p = and_parts (nat_le 1 n) (nat_le n 4000) e in (test_le 1 n p.0, test_le n 4000 p.1)
within n false e = tt

all_within : (o : Option ℕ) → IfSome (size_within o) IsSize
all_within None = tt
all_within (Some n) = within n (nat_le 1 n && nat_le n 4000) refl

-- what is found among so many numbers in a row is one of them
found_within : (test : ℕ → Bool) (first count : ℕ) → IfSome (find test (range_with_len first count)) (λ n. (first ≤ n) × (n < first + count))
found_within test first zero = tt
found_within test first (suc count) = by (test first) (find test (range_with_len (first + 1) count)) (found_within test (first + 1) count)
  where
    by : (b : Bool) (o : Option ℕ) → IfSome o (λ n. (first + 1 ≤ n) × (n < first + 1 + count)) → IfSome (cond b (Some first) o) (λ n. (first ≤ n) × (n < first + suc count))
    by true o h = (omega arith, omega arith)
    by false None h = tt
    by false (Some n) h = (omega (arith, h.0), omega (arith, h.1))

counted : (o : Option ℕ) → IfSome o (λ n. (1 ≤ n) × (n < 17)) → IfSome o IsCount
counted None h = tt
counted (Some n) h = (omega (arith, h.0), omega (arith, h.1))

all_counted : (text : List ℕ) → IfSome (schedulers_of text) IsCount
all_counted text = counted (schedulers_of text) (found_within (λ n. bytes_eq (decimal n) text) 1 16)

run_sized : (o : Option ℕ) → IfSome o IsCount → IfSome (option_map forms.Run o) IsWithinLimits
run_sized None h = tt
run_sized (Some n) h = h

make_sized : (seed size : Option ℕ) → IfSome size IsSize → IfSome (make_form seed size) IsWithinLimits
make_sized (Some seed) (Some size) h = h
make_sized (Some seed) None h = tt
make_sized None size h = tt

trial_sized : (seed size schedulers : Option ℕ) → IfSome size IsSize → IfSome schedulers IsCount → IfSome (trial_form seed size schedulers) IsWithinLimits
trial_sized (Some seed) (Some size) (Some schedulers) h k = (h, k)
trial_sized (Some seed) (Some size) None h k = tt
trial_sized (Some seed) None schedulers h k = tt
trial_sized None size schedulers h k = tt

-- the outcomes of one word
word_sized : (run check progress : Bool) → IfSome (cond run (Some (forms.Run 2)) (cond check (Some forms.Check) (cond progress (Some forms.Progress) None))) IsWithinLimits
word_sized true check progress = (omega arith, omega arith)
word_sized false true progress = tt
word_sized false false true = tt
word_sized false false false = tt

-- a form that is asked for, or none
asked_sized : (asked : Bool) (form : Option Form) → IfSome form IsWithinLimits → IfSome (cond asked form None) IsWithinLimits
asked_sized true form h = h
asked_sized false form h = tt

words_sized : (words : List (List ℕ)) → IfSome (form_of words) IsWithinLimits
words_sized [] = tt
words_sized (command ∷ []) = word_sized (bytes_eq command (codes "run")) (bytes_eq command (codes "check")) (bytes_eq command (codes "progress"))
words_sized (command ∷ option ∷ []) = tt
words_sized (command ∷ option ∷ count ∷ []) = asked_sized (bytes_eq command (codes "run") && bytes_eq option (codes "--schedulers")) (option_map forms.Run (schedulers_of count)) (run_sized (schedulers_of count) (all_counted count))
words_sized (command ∷ option ∷ seed ∷ next ∷ []) = tt
words_sized (command ∷ option ∷ seed ∷ next ∷ size ∷ []) =
    asked_sized (bytes_eq command (codes "make") && name_seed_and_size option next) (make_form (narrow_reading seed) (size_of size)) (make_sized (narrow_reading seed) (size_of size) (all_within (narrow_reading size)))
words_sized (command ∷ option ∷ seed ∷ next ∷ size ∷ last ∷ []) = tt
words_sized (command ∷ option ∷ seed ∷ next ∷ size ∷ last ∷ count ∷ []) =
    asked_sized (name_trial command option next last) (trial_form (narrow_reading seed) (size_of size) (schedulers_of count)) (trial_sized (narrow_reading seed) (size_of size) (schedulers_of count) (all_within (narrow_reading size)) (all_counted count))
words_sized (command ∷ option ∷ seed ∷ next ∷ size ∷ last ∷ count ∷ more ∷ rest) = tt

-- the numbers of a form are within their limits
pub form_sized : (words : List (List ℕ)) (form : Form) → form_of words ≡ Some form → IsWithinLimits form
form_sized words form e = subst (λ (o : Option Form). IfSome o IsWithinLimits) e (words_sized words)

-- two words have no form
pub none_of_two : {X : Type 0} (bytes : X → List ℕ) (words : List X) → 2 ≤ length words → length words < 3 → None ≡ form_of (map bytes words)
none_of_two bytes (a ∷ b ∷ []) least most = refl
none_of_two bytes (a ∷ b ∷ c ∷ words) least most = absurd (omega (arith, most))
none_of_two bytes words least most = absurd (omega (arith, least))

-- nor have four
pub none_of_four : {X : Type 0} (bytes : X → List ℕ) (words : List X) → 4 ≤ length words → length words < 5 → None ≡ form_of (map bytes words)
none_of_four bytes (a ∷ b ∷ c ∷ d ∷ []) least most = refl
none_of_four bytes (a ∷ b ∷ c ∷ d ∷ e ∷ words) least most = absurd (omega (arith, most))
none_of_four bytes words least most = absurd (omega (arith, least))

-- nor have six
pub none_of_six : {X : Type 0} (bytes : X → List ℕ) (words : List X) → 6 ≤ length words → length words < 7 → None ≡ form_of (map bytes words)
none_of_six bytes (a ∷ b ∷ c ∷ d ∷ e ∷ f ∷ []) least most = refl
none_of_six bytes (a ∷ b ∷ c ∷ d ∷ e ∷ f ∷ g ∷ words) least most = absurd (omega (arith, most))
none_of_six bytes words least most = absurd (omega (arith, least))

-- nor have more than seven
pub none_of_more : {X : Type 0} (bytes : X → List ℕ) (words : List X) → 8 ≤ length words → None ≡ form_of (map bytes words)
none_of_more bytes (a ∷ b ∷ c ∷ d ∷ e ∷ f ∷ g ∷ h ∷ words) least = refl
none_of_more bytes words least = absurd (omega (arith, least))

-- words that have no form are not read for
pub unread_words : (o : Option Form) (form : Form) → o ≡ Some form → reads o ≡ false → reads (Some form) ≡ false
unread_words o form e none = sym (ap reads e) ∙ none

-- a form that was found reads where the words do
pub reading_words : (o : Option Form) (form : Form) → o ≡ Some form → IsTrue (reads (Some form)) → IsTrue (reads o)
reading_words o form e h = ap reads e ∙ h
