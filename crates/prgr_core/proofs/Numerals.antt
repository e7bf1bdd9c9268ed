-- A number is read from its decimal text, and from no other.
use Rattle.std.proofs.Common.{◌≡◌, ℕ, ◌+◌, ◌-◌, ◌*◌, ◌/◌, ◌%◌, ◌^◌, ◌<◌, ◌≤◌, Bool, true, false, not, ◌||◌, List, [], ◌∷◌, ◌++◌, Some, None, refl, sym, ◌∙◌, ap, subst, arith, decimal, eqb, append_assoc}
use Rattle.std.specs.Prelude.{if◌then◌else◌, nat_lt, nat_le}
use Rattle.std.specs.Option.{option_and_then}
use Rattle.std.specs.Char.{is_ascii_digit}
use Rattle.std.specs.Str.Parse.{AllDigits}
use Rattle.std.proofs.lemmas.Bool.{ltb-true, lt-ltb, eqb-false, ne_eqb, le-leb, leb-true, and_parts}
use Rattle.std.proofs.lemmas.List.{append-nil}
use Rattle.std.proofs.lemmas.Str.Parse.{digit_from_value}
use Rattle.std.proofs.lemmas.Fmt.{decimal_digit, decimal_step, decimal_by_steps, decimal_is_IsNumeral}
use Rattle.prgr_core.specs.Reading.{with_digit, number_on, event_number}
use Rattle.prgr_core.proofs.Parts.{and_then_some, unless_made, some_same}

digit_true : (c : ℕ) → is_ascii_digit c ≡ true → (48 ≤ c) × (c ≤ 57)
digit_true c e = let both = and_parts (nat_le 48 c) (nat_le c 57) e in (leb-true 48 c both.0, leb-true c 57 both.1)

true_digit : (c : ℕ) → 48 ≤ c → c ≤ 57 → is_ascii_digit c ≡ true
true_digit c low high = rw (le-leb 48 c low, le-leb c 57 high) refl

neither : (a b d : Bool) → (a || not b || not d) ≡ false → (a ≡ false) × (b ≡ true) × (d ≡ true)
neither false true true e = (refl, refl, refl)
neither a b d e = absurd (cc)

-- a digit more makes a number ten times as large, and the digit
with_digit_some : (n c w : ℕ) → with_digit n c ≡ Some w → (n ≡ 0 → ⊥) × (48 ≤ c) × (c ≤ 57) × (w ≡ n * 10 + (c - 48)) × (w < 2 ^ 64)
with_digit_some n c w e =
    let made = unless_made _ (n * 10 + (c - 48)) w e in
    let tests = neither (eqb n 0) (is_ascii_digit c) (nat_lt (n * 10 + (c - 48)) (2 ^ 64)) made.0 in
    let digit = digit_true c tests.1 in
    let room = ltb-true (n * 10 + (c - 48)) (2 ^ 64) tests.2 in
    (eqb-false n 0 tests.0, digit.0, digit.1, sym made.1, subst (λ x. x < 2 ^ 64) made.1 room)

with_digit_is : (n c : ℕ) → (n ≡ 0 → ⊥) → 48 ≤ c → c ≤ 57 → n * 10 + (c - 48) < 2 ^ 64 → with_digit n c ≡ Some (n * 10 + (c - 48))
with_digit_is n c some low high room = rw (ne_eqb n 0 some, true_digit c low high, lt-ltb (n * 10 + (c - 48)) (2 ^ 64) room) refl

-- what was read so far and what is left are the decimal text
number_on_sound : (n : ℕ) (cs : List ℕ) (m : ℕ) → n < 2 ^ 64 → number_on n cs ≡ Some m → (decimal n ++ cs ≡ decimal m) × (m < 2 ^ 64)
number_on_sound n [] m small e =
    let same = some_same n m e in
    (append-nil (decimal n) ∙ ap decimal same, subst (λ x. x < 2 ^ 64) same small)
number_on_sound n (c ∷ cs) m small e =
    let found = and_then_some (λ w. number_on w cs) (with_digit n c) m e in
    let w = found.0 in
    let step = with_digit_some n c w found.1 in
    let more = number_on_sound w cs m step.4 found.2 in
    let some = step.0 in
    let is = step.3 in
    let low = step.1 in
    let high = step.2 in
    let ten : 10 ≤ w = omega (arith, some, is) in
    let front : w / 10 ≡ n = omega (arith, is, low, high) in
    let last : 48 + w % 10 ≡ c = omega (arith, is, low, high, front) in
    let text : decimal w ≡ decimal n ++ c ∷ [] = decimal_step w ten step.4 ∙ ap (λ (l : List ℕ). l ++ (48 + w % 10) ∷ []) (ap decimal front) ∙ ap (λ (x : ℕ). decimal n ++ x ∷ []) last in
    (sym (append_assoc (decimal n) (c ∷ []) cs) ∙ ap (λ (l : List ℕ). l ++ cs) (sym text) ∙ more.0, more.1)

-- what is read as a number is its decimal text
pub number_of_sound : (text : List ℕ) (m : ℕ) → event_number text ≡ Some m → (text ≡ decimal m) × (m < 2 ^ 64)
number_of_sound [] m e = absurd (cc)
number_of_sound (c ∷ cs) m e =
    elim (is_ascii_digit c) as (λ (t : Bool). is_ascii_digit c ≡ t → (if t then number_on (c - 48) cs else None) ≡ Some m → (c ∷ cs ≡ decimal m) × (m < 2 ^ 64)) [
      | true ↦ λ is found.
          let digit = digit_true c is in
          let small : c - 48 < 2 ^ 64 = omega (arith, digit) in
          let one : c - 48 < 10 = omega (arith, digit) in
          let same : 48 + (c - 48) ≡ c = omega (arith, digit) in
          let more = number_on_sound (c - 48) cs m small found in
          let first : decimal (c - 48) ≡ c ∷ [] = decimal_digit (c - 48) one ∙ ap (λ (x : ℕ). x ∷ []) same in
          (ap (λ (l : List ℕ). l ++ cs) (sym first) ∙ more.0, more.1)
      | false ↦ λ _ found. absurd (cc)
    ] refl e

-- one digit more
number_on-push : (n : ℕ) (ds : List ℕ) (c v w : ℕ) → number_on n ds ≡ Some v → with_digit v c ≡ Some w → number_on n (ds ++ c ∷ []) ≡ Some w
number_on-push n [] c v w is more =
    let same = some_same n v is in
    ap (option_and_then (λ (x : ℕ). Some x)) (subst (λ (x : ℕ). with_digit x c ≡ Some w) (sym same) more)
number_on-push n (d ∷ ds) c v w is more =
    let found = and_then_some (λ x. number_on x ds) (with_digit n d) v is in
    ap (option_and_then (λ x. number_on x (ds ++ c ∷ []))) found.1 ∙ number_on-push found.0 ds c v w found.2 more

number_of-push : (ds : List ℕ) (c v w : ℕ) → event_number ds ≡ Some v → with_digit v c ≡ Some w → event_number (ds ++ c ∷ []) ≡ Some w
number_of-push [] c v w is more = absurd (cc)
number_of-push (d ∷ ds) c v w is more =
    elim (is_ascii_digit d) as (λ (t : Bool). (if t then number_on (d - 48) ds else None) ≡ Some v → (if t then number_on (d - 48) (ds ++ c ∷ []) else None) ≡ Some w) [
      | true ↦ λ found. number_on-push (d - 48) ds c v w found more
      | false ↦ λ found. absurd (cc)
    ] is

one_digit : (n : ℕ) → n < 10 → event_number ((48 + n) ∷ []) ≡ Some n
one_digit n small =
    let low : 48 ≤ 48 + n = omega arith in
    let high : 48 + n ≤ 57 = omega arith in
    let same : 48 + n - 48 ≡ n = omega arith in
    rw (true_digit (48 + n) low high) (ap (λ (x : ℕ). Some x) same)

more_digits : (n : ℕ) (ds : List ℕ) → 10 ≤ n → (n / 10 < 2 ^ 64 → event_number ds ≡ Some (n / 10)) → n < 2 ^ 64 → event_number (ds ++ (48 + n % 10) ∷ []) ≡ Some n
more_digits n ds ten before small =
    let front : n / 10 < 2 ^ 64 = omega arith in
    let some : n / 10 ≡ 0 → ⊥ = λ e. omega (arith, e) in
    let low : 48 ≤ 48 + n % 10 = omega arith in
    let high : 48 + n % 10 ≤ 57 = omega arith in
    let same : n / 10 * 10 + (48 + n % 10 - 48) ≡ n = omega arith in
    let room : n / 10 * 10 + (48 + n % 10 - 48) < 2 ^ 64 = omega (arith, same) in
    number_of-push ds (48 + n % 10) (n / 10) n (before front) (with_digit_is (n / 10) (48 + n % 10) some low high room ∙ ap (λ (x : ℕ). Some x) same)

-- the decimal text of a number is read as the number
pub number_of_decimal : (n : ℕ) → n < 2 ^ 64 → event_number (decimal n) ≡ Some n
number_of_decimal n small = decimal_by_steps (λ m ds. m < 2 ^ 64 → event_number ds ≡ Some m) (λ m one _. one_digit m one) more_digits n small small

-- ---- bytes that a text lacks

-- none of the bytes is c
abbrev pub Lacks : ℕ → List ℕ → Type 0
Lacks c [] = Unit {0}
Lacks c (b ∷ bs) = (b ≡ c → ⊥) × Lacks c bs

lacks_by_digits : (c : ℕ) (ds : List ℕ) → c < 48 → AllDigits 10 ds → Lacks c ds
lacks_by_digits c [] below all = tt
lacks_by_digits c (d ∷ ds) below all = (λ e. let digit = digit_from_value d all.0 in omega (arith, digit), lacks_by_digits c ds below all.1)

-- a decimal text has neither space nor line feed
pub decimal_lacks : (c n : ℕ) → c < 48 → n < 2 ^ 64 → Lacks c (decimal n)
decimal_lacks c n below small = lacks_by_digits c (decimal n) below (decimal_is_IsNumeral n small).0.1
