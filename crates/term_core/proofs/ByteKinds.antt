-- Lemmas on the kinds of bytes: what a byte of each kind is, and the kinds of digits, letters and names' bytes, and the integer or atom in front of a text.
use Rattle.std.proofs.Common.{◌≡◌, ℕ, Bool, true, false, cond, ◌==◌, refl, sym, ap, ◌∙◌, arith, suc, ◌+◌, not, List, [], ◌∷◌, take, length, position, unwrap_or, Option, None, Some, option_map, add-one}
use Rattle.std.specs.Char.{is_ascii_digit, is_ascii_lowercase}
use Rattle.std.specs.Int.{is_in_range}
use Rattle.std.proofs.lemmas.Bool.Decides.{nat_tests, Decides-eqb}
use Rattle.term_core.specs.declared.byte_kind.Bracket.{Bracket}
use Rattle.term_core.specs.declared.byte_kind.Bracket.TheVariants.{Curly, Square}
use Rattle.term_core.specs.declared.byte_kind.ByteKind.{ByteKind}
use Rattle.term_core.specs.declared.byte_kind.ByteKind.TheVariants.{Open, Close, Comma, Minus, Zero, Digit, Letter, NameByte, Foreign}
use Rattle.term_core.specs.Bytes.{kind_of, is_leaf_kind, leaf_front}
use Rattle.term_core.specs.Names.{is_name_byte}
use Rattle.term_core.proofs.Truths.{false_is_no_true}
use Rattle.term_core.proofs.Places.{position-cons}

-- the byte that opens such brackets
abbrev pub opening : Bracket → ℕ
opening Curly = 123
opening Square = 91

-- the byte that closes them
abbrev pub closing : Bracket → ℕ
closing Curly = 125
closing Square = 93

-- what a byte of a kind is
abbrev pub IsOfKind : ℕ → ByteKind → Type 0
IsOfKind c (Open b) = c ≡ opening b
IsOfKind c (Close b) = c ≡ closing b
IsOfKind c Comma = c ≡ 44
IsOfKind c Minus = c ≡ 45
IsOfKind c Zero = c ≡ 48
IsOfKind c Digit = is_in_range 49 57 c ≡ true
IsOfKind c Letter = is_ascii_lowercase c ≡ true
IsOfKind c NameByte = (is_name_byte c ≡ true) × (is_ascii_digit c ≡ false) × (is_ascii_lowercase c ≡ false)
IsOfKind c Foreign = (is_name_byte c ≡ false) × (is_ascii_lowercase c ≡ false)

-- by a test
either : (c : ℕ) (b : Bool) (k l : ByteKind) → (b ≡ true → IsOfKind c k) → (b ≡ false → IsOfKind c l) → IsOfKind c (cond b k l)
either c true k l yes_case no_case = yes_case refl
either c false k l yes_case no_case = no_case refl

-- a small letter is no digit
letter_is_no_digit : (c : ℕ) → is_ascii_lowercase c ≡ true → is_in_range 49 57 c ≡ true → ⊥
letter_is_no_digit c h p = grind (arith, nat_tests)

-- what is no digit is none above zero
other_is_no_digit : (c : ℕ) → is_ascii_digit c ≡ false → is_in_range 49 57 c ≡ true → ⊥
other_is_no_digit c h p = grind (arith, nat_tests)

-- nor is what stands in no name
foreign_is_no_digit : (c : ℕ) → is_name_byte c ≡ false → is_in_range 49 57 c ≡ true → ⊥
foreign_is_no_digit c h p = grind (arith, nat_tests)

-- no digit, where it is none of them
no_digit : (c : ℕ) → (c == 48) ≡ false → is_in_range 49 57 c ≡ false → is_ascii_digit c ≡ false
no_digit c zero_test range = grind (arith, nat_tests)

-- each byte is what its kind says
pub kind_is : (c : ℕ) → IsOfKind c (kind_of c)
kind_is c =
    either c (c == 44) Comma _ (λ h. (Decides-eqb c 44).0 h) (λ comma.
    either c (c == 45) Minus _ (λ h. (Decides-eqb c 45).0 h) (λ minus.
    either c (c == 48) Zero _ (λ h. (Decides-eqb c 48).0 h) (λ zero_test.
    either c (is_in_range 49 57 c) Digit _ (λ h. h) (λ range.
    either c (c == 91) (Open Square) _ (λ h. (Decides-eqb c 91).0 h) (λ h1.
    either c (c == 93) (Close Square) _ (λ h. (Decides-eqb c 93).0 h) (λ h2.
    either c (c == 123) (Open Curly) _ (λ h. (Decides-eqb c 123).0 h) (λ h3.
    either c (c == 125) (Close Curly) _ (λ h. (Decides-eqb c 125).0 h) (λ h4.
    either c (is_ascii_lowercase c) Letter _ (λ h. h) (λ letter.
    either c (is_name_byte c) NameByte Foreign (λ h. (h, no_digit c zero_test range, letter)) (λ h. (h, letter)))))))))))

-- the kinds of digits
abbrev pub is_digit_kind : ByteKind → Bool
is_digit_kind Zero = true
is_digit_kind Digit = true
is_digit_kind _ = false

-- the kinds of names' bytes
abbrev pub is_name_kind : ByteKind → Bool
is_name_kind Zero = true
is_name_kind Digit = true
is_name_kind Letter = true
is_name_kind NameByte = true
is_name_kind _ = false

-- a byte is a digit by its kind
digit_by : (c : ℕ) (k : ByteKind) → IsOfKind c k → is_ascii_digit c ≡ is_digit_kind k
digit_by c (Open Curly) h = ap is_ascii_digit h
digit_by c (Open Square) h = ap is_ascii_digit h
digit_by c (Close Curly) h = ap is_ascii_digit h
digit_by c (Close Square) h = ap is_ascii_digit h
digit_by c Digit h = grind (arith, nat_tests)
digit_by c Letter h = grind (arith, nat_tests)
digit_by c NameByte h = h.1
digit_by c Foreign h = grind (arith, nat_tests)
digit_by c k h = ap is_ascii_digit h

-- so of each byte
pub digit_kind : (c : ℕ) → is_ascii_digit c ≡ is_digit_kind (kind_of c)
digit_kind c = digit_by c (kind_of c) (kind_is c)

-- a name's byte by its kind
name_by : (c : ℕ) (k : ByteKind) → IsOfKind c k → is_name_byte c ≡ is_name_kind k
name_by c (Open Curly) h = ap is_name_byte h
name_by c (Open Square) h = ap is_name_byte h
name_by c (Close Curly) h = ap is_name_byte h
name_by c (Close Square) h = ap is_name_byte h
name_by c Digit h = grind (arith, nat_tests)
name_by c Letter h = grind (arith, nat_tests)
name_by c NameByte h = h.0
name_by c Foreign h = h.0
name_by c k h = ap is_name_byte h

-- so of each byte
pub name_kind : (c : ℕ) → is_name_byte c ≡ is_name_kind (kind_of c)
name_kind c = name_by c (kind_of c) (kind_is c)

-- a digit above zero has its kind
positive_by : (c : ℕ) (k : ByteKind) → IsOfKind c k → is_in_range 49 57 c ≡ true → k ≡ Digit
positive_by c (Open Curly) h p = absurd (false_is_no_true (sym (ap (is_in_range 49 57) h) ∙ p))
positive_by c (Open Square) h p = absurd (false_is_no_true (sym (ap (is_in_range 49 57) h) ∙ p))
positive_by c (Close Curly) h p = absurd (false_is_no_true (sym (ap (is_in_range 49 57) h) ∙ p))
positive_by c (Close Square) h p = absurd (false_is_no_true (sym (ap (is_in_range 49 57) h) ∙ p))
positive_by c Digit h p = refl
positive_by c Letter h p = absurd (letter_is_no_digit c h p)
positive_by c NameByte h p = absurd (other_is_no_digit c h.1 p)
positive_by c Foreign h p = absurd (foreign_is_no_digit c h.0 p)
positive_by c k h p = absurd (false_is_no_true (sym (ap (is_in_range 49 57) h) ∙ p))

-- so of each byte
pub positive_kind : (c : ℕ) → is_in_range 49 57 c ≡ true → kind_of c ≡ Digit
positive_kind c p = positive_by c (kind_of c) (kind_is c) p

-- a small letter has its kind
letter_by : (c : ℕ) (k : ByteKind) → IsOfKind c k → is_ascii_lowercase c ≡ true → k ≡ Letter
letter_by c (Open Curly) h p = absurd (false_is_no_true (sym (ap is_ascii_lowercase h) ∙ p))
letter_by c (Open Square) h p = absurd (false_is_no_true (sym (ap is_ascii_lowercase h) ∙ p))
letter_by c (Close Curly) h p = absurd (false_is_no_true (sym (ap is_ascii_lowercase h) ∙ p))
letter_by c (Close Square) h p = absurd (false_is_no_true (sym (ap is_ascii_lowercase h) ∙ p))
letter_by c Digit h p = absurd (letter_is_no_digit c p h)
letter_by c Letter h p = refl
letter_by c NameByte h p = absurd (false_is_no_true (sym (h.2) ∙ p))
letter_by c Foreign h p = absurd (false_is_no_true (sym (h.1) ∙ p))
letter_by c k h p = absurd (false_is_no_true (sym (ap is_ascii_lowercase h) ∙ p))

-- so of each byte
pub letter_kind : (c : ℕ) → is_ascii_lowercase c ≡ true → kind_of c ≡ Letter
letter_kind c p = letter_by c (kind_of c) (kind_is c) p

-- a digit stands in an integer or atom
pub leaf_if_digit : (k : ByteKind) → is_digit_kind k ≡ true → is_leaf_kind k ≡ true
leaf_if_digit Zero h = refl
leaf_if_digit Digit h = refl
leaf_if_digit k h = cc

-- and so is a byte of a name
pub leaf_if_name : (k : ByteKind) → is_name_kind k ≡ true → is_leaf_kind k ≡ true
leaf_if_name Zero h = refl
leaf_if_name Digit h = refl
leaf_if_name Letter h = refl
leaf_if_name NameByte h = refl
leaf_if_name k h = cc

-- so many bytes, by whether the first is one
front_step : (b : Bool) (c : ℕ) (rest : List ℕ) (o : Option ℕ) → take (unwrap_or o (length rest)) rest ≡ leaf_front rest →
    take (unwrap_or (cond (not b) (Some 0) (option_map (λ i. i + 1) o)) (suc (length rest))) (c ∷ rest) ≡ cond b (c ∷ leaf_front rest) []
front_step true c rest None h = ap (λ t. c ∷ t) h
front_step true c rest (Some i) h = ap (λ n. take n (c ∷ rest)) (add-one i) ∙ ap (λ t. c ∷ t) h
front_step false c rest o h = refl

-- the bytes up to the first between terms
pub front_is : (text : List ℕ) → take (unwrap_or (position (λ c. not (is_leaf_kind (kind_of c))) text) (length text)) text ≡ leaf_front text
front_is [] = refl
front_is (c ∷ rest) =
    ap (λ o. take (unwrap_or o (length (c ∷ rest))) (c ∷ rest)) (position-cons (λ c. not (is_leaf_kind (kind_of c))) c rest)
    ∙ front_step (is_leaf_kind (kind_of c)) c rest (position (λ c. not (is_leaf_kind (kind_of c))) rest) (front_is rest)
