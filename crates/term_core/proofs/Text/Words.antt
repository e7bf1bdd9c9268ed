-- What `parse` says of digits within a bound, numbers by their texts, and the words of a switch.
use Rattle.std.proofs.Common.{◌≡◌, ℕ, ◌<◌, ◌^◌, Bool, true, false, cond, nat_lt, List, [], ◌∷◌, decimal, Some, None, Result, bytes_eq, codes, refl, sym, ap, ◌∙◌, arith, inl, inr}
use Rattle.std.proofs.lemmas.Bool.{or_cases}
use Rattle.std.proofs.lemmas.Fmt.{decimal-digits_value, decimal_digit}
use Rattle.std.specs.Result.{result_ok}
use Rattle.std.specs.Str.Parse.{ParsesUnsigned}
use Rattle.std.proofs.lemmas.Str.Parse.{parse_digits}
use Rattle.term_core.specs.Text.Numbers.{is_number_text, number_value}
use Rattle.term_core.specs.Written.{is_positive_text}
use Rattle.term_core.specs.Text.Words.{switch_word, switch_reading, wide_number}
use Rattle.term_core.proofs.IntegerTexts.{own, Positive-from}
use Rattle.term_core.proofs.Text.Numbers.{number_digits, below_by}
use Rattle.term_core.proofs.Text.Options.{some_is, bytes_are}

pub parsed_wide : {E : Type 0} (text : List ℕ) (r : Result ℕ E) → ParsesUnsigned 64 10 text r → is_number_text text ≡ true → result_ok r ≡ wide_number text
parsed_wide text r h form =
    let p = number_digits text form in
    below_by (2 ^ 64) r (number_value text) _ (nat_lt (number_value text) (2 ^ 64)) refl p.some (parse_digits own 64 text r h p.digits)

pub switch_again : (on : Bool) → switch_reading (switch_word on) ≡ Some on
switch_again true = refl
switch_again false = refl

pub switch_is : (text : List ℕ) (on : Bool) → switch_reading text ≡ Some on → text ≡ switch_word on
switch_is text on e = by_on (bytes_eq text (codes "on")) refl e
  where
    by_off : (t : Bool) → bytes_eq text (codes "off") ≡ t → cond t (Some false) None ≡ Some on → text ≡ switch_word on
    by_off true b e = bytes_are text (codes "off") b ∙ ap switch_word (some_is false on e)
    by_off false b e = absurd cc

    by_on : (t : Bool) → bytes_eq text (codes "on") ≡ t → cond t (Some true) (cond (bytes_eq text (codes "off")) (Some false) None) ≡ Some on → text ≡ switch_word on
    by_on true b e = bytes_are text (codes "on") b ∙ ap switch_word (some_is true on e)
    by_on false b e = by_off (bytes_eq text (codes "off")) refl e

-- ---- numbers

positive_again : (text : List ℕ) → is_positive_text text ≡ true → number_value text < 2 ^ 64 → decimal (number_value text) ≡ text
positive_again text h small =
    let p = Positive-from text h in
    decimal-digits_value own text p.digits p.some (λ z. absurd (omega (arith, p.low, z))) small

-- a number's text is that of its value

-- a number's text is that of its value
pub decimal_again : (text : List ℕ) → is_number_text text ≡ true → number_value text < 2 ^ 64 → decimal (number_value text) ≡ text
decimal_again text h small =
    elim (or_cases (bytes_eq text (48 ∷ [])) (is_positive_text text) h) [
      | inl nought ↦ let is = bytes_are text (48 ∷ []) nought in ap (λ (t : List ℕ). decimal (number_value t)) is ∙ decimal_digit 0 (omega arith) ∙ sym is
      | inr positive ↦ positive_again text positive small
    ]
