-- The digits of a number, and what they write.
use Rattle.std.proofs.Common.{◌≡◌, ℕ, ◌<◌, ◌^◌, zero, suc, Bool, true, false, cond, nat_lt, List, [], ◌∷◌, length, decimal, Some, None, Result, Ok, Err, OkIff, IsAscii, bytes_eq, refl, sym, ap, subst, arith, inl, inr}
use Rattle.std.specs.Char.{is_ascii_digit}
use Rattle.std.specs.List.{list_all}
use Rattle.std.specs.Result.{result_ok}
use Rattle.std.specs.Str.Parse.{ParsesUnsigned}
use Rattle.std.proofs.lemmas.Bool.{or_cases, or_right}
use Rattle.std.proofs.lemmas.Bool.Decides.{nat_tests}
use Rattle.std.proofs.lemmas.Fmt.{IsAscii-from_digits, decimal_digit, digits_value-decimal}
use Rattle.std.proofs.lemmas.Slice.Eq.{bytes_eq-Decides}
use Rattle.std.proofs.lemmas.Str.Parse.{parse_digits}
use Rattle.term_core.specs.Written.{is_positive_text}
use Rattle.term_core.proofs.IntegerTexts.{own, Positive-from, positive-decimal}
use Rattle.term_core.specs.Text.Numbers.{is_number_text, number_value, small_number}

-- the bytes of a number's text
pub record IsDigits (text : List ℕ) : Type 0 where
  pub digits : list_all is_ascii_digit text ≡ true
  pub some : 0 < length text

-- a number's text is of digits
pub number_digits : (text : List ℕ) → is_number_text text ≡ true → IsDigits text
number_digits text h =
    elim (or_cases (bytes_eq text (48 ∷ [])) (is_positive_text text) h) [
      | inl nought ↦ subst IsDigits (sym ((bytes_eq-Decides text (48 ∷ [])).0 nought)) (record { digits = refl; some = omega arith })
      | inr positive ↦ let p = Positive-from text positive in record { digits = p.digits; some = p.some }
    ]

-- so it is ASCII
pub IsAscii-number : (text : List ℕ) → is_number_text text ≡ true → IsAscii text
IsAscii-number text h = IsAscii-from_digits text (own.to text (number_digits text h).digits)

-- from the answer of `parse`
pub below_by : {E : Type 0} (bound : ℕ) (r : Result ℕ E) (n len : ℕ) (t : Bool) → nat_lt n bound ≡ t → 0 < len → OkIff r ((0 < len) × (n < bound)) n → result_ok r ≡ cond t (Some n) None
below_by bound (Ok m) n len true e some h = ap (λ k. Some k) h.1
below_by bound (Ok m) n len false e some h = let below : n < bound = h.0.1 in absurd (grind (arith, nat_tests))
below_by bound (Err f) n len true e some h = let below : n < bound = grind (arith, nat_tests) in absurd (h (some, below))
below_by bound (Err f) n len false e some h = refl

pub parsed_number : {E : Type 0} (text : List ℕ) (r : Result ℕ E) → ParsesUnsigned 32 10 text r → is_number_text text ≡ true → result_ok r ≡ small_number text
parsed_number text r h form =
    let p = number_digits text form in
    below_by (2 ^ 32) r (number_value text) (length text) (nat_lt (number_value text) (2 ^ 32)) refl p.some (parse_digits own 32 text r h p.digits)

-- what a number is written as is its text
pub record Writes (text : List ℕ) (n : ℕ) : Type 0 where
  pub form : is_number_text text ≡ true
  pub value : number_value text ≡ n

pub decimal-writes : (n : ℕ) → n < 2 ^ 64 → Writes (decimal n) n
decimal-writes zero small = subst (λ (t : List ℕ). Writes t 0) (sym (decimal_digit 0 (omega arith))) (record { form = refl; value = refl })
decimal-writes (suc n) small = record {
  form = or_right (bytes_eq (decimal (suc n)) (48 ∷ [])) (is_positive_text (decimal (suc n))) (positive-decimal (suc n) (omega arith) small);
  value = digits_value-decimal own (suc n) small;
}
