-- Lemmas on the texts of integers.
use Rattle.std.proofs.Common.{◌≡◌, ℕ, zero, suc, ◌<◌, ◌≤◌, ◌^◌, Bool, true, false, cond, ◌&&◌, ◌==◌, List, [], ◌∷◌, length, get_or, decimal, ℤ, pos, negsuc, neg_ℤ, Result, Ok, Err, OkIff, MatchOption, IsAscii, refl, sym, ap, ◌∙◌, subst, arith, rules, w64}
use Rattle.std.specs.Char.{is_ascii_digit}
use Rattle.std.specs.Int.{is_in_range}
use Rattle.std.specs.Fmt.{signed_decimal}
use Rattle.std.specs.List.{list_all}
use Rattle.std.specs.Result.{result_ok}
use Rattle.std.specs.Str.Parse.{digits_value, ParsesSigned}
use Rattle.std.proofs.lemmas.Bool.Decides.{nat_tests, Decides-eqb}
use Rattle.std.proofs.lemmas.Fmt.{decimal-digits_value, digits_decimal, digits_value-decimal, decimal_digit, decimal_nonempty, first_decimal, IsAscii-from_digits}
use Rattle.std.proofs.lemmas.Int.{ints}
use Rattle.std.proofs.lemmas.Str.Ascii.{IsAscii-cons, IsAscii-nil}
use Rattle.std.proofs.lemmas.Str.Parse.{IsNumeralModel, numerals_by_value, parse_signed_minus, parse_signed_plain}
use Rattle.term_core.specs.Written.{IsTermInteger, is_positive_text, is_integer_text, integer_of}
use Rattle.std.proofs.lemmas.Bool.{and_parts}

-- the digits of `decimal`, as std asks for them
pub own : IsNumeralModel (λ ds. list_all is_ascii_digit ds ≡ true) (digits_value 10)
own = numerals_by_value (λ ds. list_all is_ascii_digit ds ≡ true) (search rules)

-- a digit that is no zero is in this range
in_1_to_9 : (c : ℕ) → is_in_range 49 57 c ≡ true → (49 ≤ c) × (c ≤ 57)
in_1_to_9 c h = grind (arith, nat_tests)

-- what is in this range is a digit
digit_1_to_9 : (c : ℕ) → 49 ≤ c → c ≤ 57 → is_ascii_digit c ≡ true
digit_1_to_9 c low high = grind (arith, nat_tests)

-- a digit above zero passes the test
first_1_to_9 : (c : ℕ) → 48 < c → is_ascii_digit c ≡ true → is_in_range 49 57 c ≡ true
first_1_to_9 c low h = grind (arith, nat_tests)

-- what digits with no zero in front are
pub record Positive (text : List ℕ) : Type 0 where
  pub digits : list_all is_ascii_digit text ≡ true
  pub some : 0 < length text
  pub low : 49 ≤ get_or text 0 0
  pub high : get_or text 0 0 ≤ 57

-- by the test of such digits
pub Positive-from : (text : List ℕ) → is_positive_text text ≡ true → Positive text
Positive-from [] h = cc
Positive-from (c ∷ rest) h =
    let parts = and_parts (is_in_range 49 57 c) (list_all is_ascii_digit rest) h in
    let range = in_1_to_9 c parts.0 in
    record {
      digits = ap (λ b. b && list_all is_ascii_digit rest) (digit_1_to_9 c range.0 range.1) ∙ parts.1;
      some = omega arith;
      low = range.0;
      high = range.1;
    }

-- the bounds of a term's integer, as numbers
pub range_pos : (n : ℕ) → IsTermInteger (pos n) → n ≤ 576460752303423487
range_pos n range = let high = range.high in omega (arith, ints)

-- and below zero
pub range_negsuc : (n : ℕ) → IsTermInteger (negsuc n) → n ≤ 576460752303423487
range_negsuc n range = let low = range.low in omega (arith, ints)

-- the three forms of an integer's text
pub data IntegerShape (text : List ℕ) : Type 0 where
  Zero : text ≡ 48 ∷ [] → IntegerShape text
  Minus : (digits : List ℕ) → text ≡ 45 ∷ digits → is_positive_text digits ≡ true → IntegerShape text
  Plain : is_positive_text text ≡ true → IntegerShape text

-- what has no length is empty
nothing_left : (rest : List ℕ) → (length rest == 0) ≡ true → rest ≡ []
nothing_left [] h = refl
nothing_left (c ∷ rest) h = absurd (omega (arith, (Decides-eqb (length (c ∷ rest)) 0).0 h))

-- by the tests of the first byte
shape : (c : ℕ) (rest : List ℕ) (z : Bool) → (c == 48) ≡ z → (m : Bool) → (c == 45) ≡ m → cond z (length rest == 0) (cond m (is_positive_text rest) (is_positive_text (c ∷ rest))) ≡ true → IntegerShape (c ∷ rest)
shape c rest true e m f h = Zero (ap (λ k. k ∷ rest) ((Decides-eqb c 48).0 e) ∙ ap (λ t. 48 ∷ t) (nothing_left rest h))
shape c rest false e true f h = Minus rest (ap (λ k. k ∷ rest) ((Decides-eqb c 45).0 f)) h
shape c rest false e false f h = Plain h

-- an integer's text has one of the three forms
pub shape_of : (text : List ℕ) → is_integer_text text ≡ true → IntegerShape text
shape_of [] h = cc
shape_of (c ∷ rest) h = shape c rest (c == 48) refl (c == 45) refl h

-- an integer's text is ASCII
pub IsAscii-integer : (text : List ℕ) → is_integer_text text ≡ true → IsAscii text
IsAscii-integer text h = elim (shape_of text h) [
  | Zero e ↦ subst IsAscii (sym e) (IsAscii-cons 48 [] (omega arith) IsAscii-nil)
  | Minus digits e p ↦ subst IsAscii (sym e) (IsAscii-cons 45 digits (omega arith) (IsAscii-from_digits digits (own.to digits (Positive-from digits p).digits)))
  | Plain p ↦ IsAscii-from_digits text (own.to text (Positive-from text p).digits)
]

-- positive digits are what `decimal` writes of their value
decimal-positive : (text : List ℕ) → is_positive_text text ≡ true → digits_value 10 text < 2 ^ 64 → decimal (digits_value 10 text) ≡ text
decimal-positive text h small =
    let p = Positive-from text h in
    decimal-digits_value own text p.digits p.some (λ z. absurd (omega (arith, p.low, z))) small

-- and their value is not zero
value-positive : (text : List ℕ) → is_positive_text text ≡ true → digits_value 10 text ≡ 0 → ⊥
value-positive text h z =
    let e : 48 ∷ [] ≡ text = sym (decimal_digit 0 (omega arith)) ∙ ap decimal (sym z) ∙ decimal-positive text h (omega (arith, z)) in
    let low : 49 ≤ get_or text 0 0 = (Positive-from text h).low in
    omega (arith, ap (λ t. get_or t 0 0) e)

-- digits with no zero in front begin with no zero and no minus
plain_tests : (c : ℕ) (rest : List ℕ) → is_positive_text (c ∷ rest) ≡ true → ((c == 48) ≡ false) × ((c == 45) ≡ false)
plain_tests c rest h =
    let range = in_1_to_9 c (and_parts (is_in_range 49 57 c) (list_all is_ascii_digit rest) h).0 in
    grind (arith, nat_tests)

-- digits with no zero in front are an integer's text
pub is_integer_text-positive : (text : List ℕ) → is_positive_text text ≡ true → is_integer_text text ≡ true
is_integer_text-positive [] h = cc
is_integer_text-positive (c ∷ rest) h =
    let tests = plain_tests c rest h in
    ap (λ b. cond b (length rest == 0) (cond (c == 45) (is_positive_text rest) (is_positive_text (c ∷ rest)))) tests.0
    ∙ ap (λ b. cond b (is_positive_text rest) (is_positive_text (c ∷ rest))) tests.1 ∙ h

-- and they say their value
pub integer_of-positive : (text : List ℕ) → is_positive_text text ≡ true → integer_of text ≡ pos (digits_value 10 text)
integer_of-positive [] h = cc
integer_of-positive (c ∷ rest) h = ap (λ b. cond b (neg_ℤ (pos (digits_value 10 rest))) (pos (digits_value 10 (c ∷ rest)))) (plain_tests c rest h).1

-- a minus and such digits are the text of the number below zero
negative_text : (digits : List ℕ) → is_positive_text digits ≡ true → (n : ℕ) → digits_value 10 digits ≡ n → IsTermInteger (neg_ℤ (pos n)) → 45 ∷ digits ≡ signed_decimal (neg_ℤ (pos n))
negative_text digits h zero e range = absurd (value-positive digits h e)
negative_text digits h (suc m) e range =
    let small = range_negsuc m range in
    ap (λ t. 45 ∷ t) (sym (decimal-positive digits h (omega (arith, e)))) ∙ ap (λ n. 45 ∷ decimal n) e

-- an integer's text is the one of that integer, where it is a term
pub signed_decimal-integer_of : (text : List ℕ) → is_integer_text text ≡ true → IsTermInteger (integer_of text) → text ≡ signed_decimal (integer_of text)
signed_decimal-integer_of text h range = elim (shape_of text h) [
  | Zero e ↦ e ∙ sym (decimal_digit 0 (omega arith)) ∙ ap (λ t. signed_decimal (integer_of t)) (sym e)
  | Minus digits e p ↦
      let there : IsTermInteger (neg_ℤ (pos (digits_value 10 digits))) = subst (λ (t : List ℕ). IsTermInteger (integer_of t)) e range in
      e ∙ negative_text digits p (digits_value 10 digits) refl there ∙ ap (λ t. signed_decimal (integer_of t)) (sym e)
  | Plain p ↦
      let is = integer_of-positive text p in
      let there : IsTermInteger (pos (digits_value 10 text)) = subst IsTermInteger is range in
      let small = range_pos (digits_value 10 text) there in
      sym (decimal-positive text p (omega arith)) ∙ ap signed_decimal (sym is)
]

-- the same of a text that is equal to it
positive-decimal_at : (n : ℕ) (text : List ℕ) → text ≡ decimal n → 0 < n → n < 2 ^ 64 → is_positive_text text ≡ true
positive-decimal_at n [] e low small = absurd (omega (arith, decimal_nonempty n small, ap length e))
positive-decimal_at n (c ∷ rest) e low small =
    let digits : list_all is_ascii_digit (c ∷ rest) ≡ true = ap (list_all is_ascii_digit) e ∙ digits_decimal own n small in
    let parts = and_parts (is_ascii_digit c) (list_all is_ascii_digit rest) digits in
    let first : 48 < c = omega (arith, first_decimal n low small, ap (λ t. get_or t 0 0) e) in
    ap (λ b. b && list_all is_ascii_digit rest) (first_1_to_9 c first parts.0) ∙ parts.1

-- what `decimal` writes of a number above zero has no zero in front
pub positive-decimal : (n : ℕ) → 0 < n → n < 2 ^ 64 → is_positive_text (decimal n) ≡ true
positive-decimal n low small = positive-decimal_at n (decimal n) refl low small

-- the text of an integer of 63 bits says it
pub record Says (text : List ℕ) (z : ℤ) : Type 0 where
  pub form : is_integer_text text ≡ true
  pub value : integer_of text ≡ z

-- a number above zero is said by its digits
says_positive : (n : ℕ) → 0 < n → n < 2 ^ 64 → Says (decimal n) (pos n)
says_positive n low small =
    let p = positive-decimal n low small in
    record {
      form = is_integer_text-positive (decimal n) p;
      value = integer_of-positive (decimal n) p ∙ ap pos (digits_value-decimal own n small);
    }

-- the text of a term's integer says it
pub signed_decimal-says : (z : ℤ) → IsTermInteger z → Says (signed_decimal z) z
signed_decimal-says (pos zero) range = subst (λ (t : List ℕ). Says t (pos 0)) (sym (decimal_digit 0 (omega arith))) (record { form = refl; value = refl })
signed_decimal-says (pos (suc n)) range =
    let small = range_pos (suc n) range in
    says_positive (suc n) (omega arith) (omega arith)
signed_decimal-says (negsuc n) range =
    let small : suc n < 2 ^ 64 = omega (arith, range_negsuc n range) in
    record {
      form = positive-decimal (suc n) (omega arith) small;
      value = ap (λ k. neg_ℤ (pos k)) (digits_value-decimal own (suc n) small);
    }

-- from the answer of `parse`, by its result
parsed_as : {E : Type 0} (r : Result ℤ E) (Q : Type 0) (x z : ℤ) → OkIff r Q x → x ≡ z → (IsTermInteger z → Q) → MatchOption (result_ok r) (IsTermInteger z → ⊥) (λ y. y ≡ z)
parsed_as (Ok y) Q x z h e fits = h.1 ∙ e
parsed_as (Err f) Q x z h e fits = λ range. h (fits range)

-- what a term's integer has behind its minus fits 64 bits
minus_fits : (n : ℕ) → IsTermInteger (neg_ℤ (pos n)) → n ≤ 2 ^ 63
minus_fits zero range = omega arith
minus_fits (suc m) range = omega (arith, range_negsuc m range)

-- behind a minus
parsed_minus : {E : Type 0} (digits : List ℕ) (r : Result ℤ E) → ParsesSigned w64 10 (45 ∷ digits) r → is_positive_text digits ≡ true → MatchOption (result_ok r) (IsTermInteger (integer_of (45 ∷ digits)) → ⊥) (λ y. y ≡ integer_of (45 ∷ digits))
parsed_minus digits r h positive =
    let p = Positive-from digits positive in
    parsed_as r _ _ (integer_of (45 ∷ digits)) (parse_signed_minus own w64 (45 ∷ digits) r h refl) refl (λ range. (p.digits, p.some, minus_fits (digits_value 10 digits) range))

-- without a minus
parsed_plain : {E : Type 0} (text : List ℕ) (r : Result ℤ E) → ParsesSigned w64 10 text r → list_all is_ascii_digit text ≡ true → 0 < length text → 48 ≤ get_or text 0 0 → integer_of text ≡ pos (digits_value 10 text) → MatchOption (result_ok r) (IsTermInteger (integer_of text) → ⊥) (λ y. y ≡ integer_of text)
parsed_plain text r h digits some low is =
    parsed_as r _ _ (integer_of text) (parse_signed_plain own w64 text r h (λ e. omega arith) (λ e. omega arith)) (sym is)
    (λ range. (digits, some, omega (arith, range_pos (digits_value 10 text) (subst IsTermInteger is range))))

-- what `parse` answers for an integer's text
pub parsed : {E : Type 0} (text : List ℕ) (r : Result ℤ E) → ParsesSigned w64 10 text r → is_integer_text text ≡ true → MatchOption (result_ok r) (IsTermInteger (integer_of text) → ⊥) (λ y. y ≡ integer_of text)
parsed {E} text r h form = elim (shape_of text form) [
  | Zero e ↦ let P : List ℕ → Type 0 = λ t. ParsesSigned w64 10 t r → MatchOption (result_ok r) (IsTermInteger (integer_of t) → ⊥) (λ y. y ≡ integer_of t) in
      subst P (sym e) (λ k. parsed_plain (48 ∷ []) r k refl (omega arith) (omega arith) refl) h
  | Minus digits e p ↦ let P : List ℕ → Type 0 = λ t. ParsesSigned w64 10 t r → MatchOption (result_ok r) (IsTermInteger (integer_of t) → ⊥) (λ y. y ≡ integer_of t) in
      subst P (sym e) (λ k. parsed_minus digits r k p) h
  | Plain p ↦ let q = Positive-from text p in parsed_plain text r h q.digits q.some (omega (arith, q.low)) (integer_of-positive text p)
]
