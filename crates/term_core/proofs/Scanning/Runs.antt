-- The scan goes through the text of each written term.
use Rattle.std.proofs.Common.{◌≡◌, ℕ, ◌+◌, ◌<◌, ◌≤◌, Bool, true, false, cond, nat_lt, List, [], ◌∷◌, ◌++◌, length, Option, None, Some, option_map, refl, sym, ap, ◌∙◌, arith, IsTrue}
use Rattle.std.specs.Char.{is_ascii_digit, is_ascii_lowercase}
use Rattle.std.specs.Int.{is_in_range}
use Rattle.std.specs.List.{list_all}
use Rattle.std.proofs.lemmas.Bool.Decides.{nat_tests}
use Rattle.term_core.specs.declared.byte_kind.Bracket.{Bracket}
use Rattle.term_core.specs.declared.byte_kind.ByteKind.{ByteKind}
use Rattle.term_core.specs.declared.byte_kind.ByteKind.TheVariants.{Open, Close, Comma, Zero, Digit, Letter, NameByte}
use Rattle.term_core.specs.declared.scan.Place.{Place}
use Rattle.term_core.specs.declared.scan.Place.TheVariants.{TermStart, AfterMinus, InDigits, InName, AfterTerm}
use Rattle.term_core.specs.declared.scan.Move.{Move}
use Rattle.term_core.specs.declared.scan.Move.TheVariants.{To}
use Rattle.term_core.specs.Bytes.{kind_of, is_leaf_kind}
use Rattle.term_core.specs.Names.{is_atom_text, is_name_byte}
use Rattle.term_core.specs.Scanning.{next, moved, named, run, ends, is_end, is_end_place}
use Rattle.term_core.specs.Tops.{top_of}
use Rattle.term_core.specs.Written.{is_positive_text, is_integer_text}
use Rattle.term_core.proofs.ByteKinds.{is_digit_kind, is_name_kind, digit_kind, name_kind, positive_kind, letter_kind}
use Rattle.term_core.proofs.IntegerTexts.{Zero as ZeroShape, Minus as MinusShape, Plain, shape_of}
use Rattle.term_core.proofs.LeafTexts.{IsDelimited}
use Rattle.std.proofs.lemmas.Bool.{and_parts}

-- whether a text is accepted from a place on
abbrev pub accepts : Place → List Bracket → List ℕ → Bool
accepts place brackets text = ends (run (Some (record { place = place; brackets = brackets })) text)

-- the same behind a move
abbrev pub accepts_moved : List Bracket → Option Move → List ℕ → Bool
accepts_moved brackets move text = ends (run (option_map (moved brackets) move) text)

-- a byte of a known kind
pub accepts_byte : (place : Place) (brackets : List Bracket) (c : ℕ) (kind : ByteKind) (rest : List ℕ) → kind_of c ≡ kind → accepts place brackets (c ∷ rest) ≡ accepts_moved brackets (next place (top_of brackets) kind) rest
accepts_byte place brackets c kind rest e = ap (λ k. accepts_moved brackets (next place (top_of brackets) k) rest) e

-- behind digits as behind a whole term, where nothing of the integer follows
digits_end : (kind : ByteKind) (top : Option Bracket) → is_leaf_kind kind ≡ false → next InDigits top kind ≡ next AfterTerm top kind
digits_end (Open b) top h = refl
digits_end (Close b) top h = refl
digits_end Comma top h = refl
digits_end kind top h = cc

-- and so behind a name
name_end : (kind : ByteKind) (top : Option Bracket) (count : ℕ) → is_leaf_kind kind ≡ false → next (InName count) top kind ≡ next AfterTerm top kind
name_end (Open b) top count h = refl
name_end (Close b) top count h = refl
name_end Comma top count h = refl
name_end kind top count h = cc

-- nothing follows
nothing_follows : (place : Place) (brackets : List Bracket) → is_end_place place ≡ true → is_end place brackets ≡ is_end AfterTerm brackets
nothing_follows place [] h = h
nothing_follows place (b ∷ outer) h = refl

-- behind the last digit
pub accepts_digits_end : (brackets : List Bracket) (rest : List ℕ) → IsDelimited rest → accepts InDigits brackets rest ≡ accepts AfterTerm brackets rest
accepts_digits_end brackets [] d = nothing_follows InDigits brackets refl
accepts_digits_end brackets (c ∷ rest) d = ap (λ move. accepts_moved brackets move rest) (digits_end (kind_of c) (top_of brackets) d)

-- behind the last byte of a name
pub accepts_name_end : (brackets : List Bracket) (count : ℕ) (rest : List ℕ) → IsDelimited rest → accepts (InName count) brackets rest ≡ accepts AfterTerm brackets rest
accepts_name_end brackets count [] d = nothing_follows (InName count) brackets refl
accepts_name_end brackets count (c ∷ rest) d = ap (λ move. accepts_moved brackets move rest) (name_end (kind_of c) (top_of brackets) count d)

-- a digit more
digit_on : (kind : ByteKind) (top : Option Bracket) → is_digit_kind kind ≡ true → next InDigits top kind ≡ Some (To InDigits)
digit_on Zero top h = refl
digit_on Digit top h = refl
digit_on kind top h = cc

-- where there is room
named_more : (count : ℕ) → count < 32 → named count ≡ Some (To (InName (count + 1)))
named_more count less = let test : nat_lt count 32 ≡ true = grind (arith, nat_tests) in ap (λ b. cond b (Some (To (InName (count + 1)))) None) test

-- a byte of a name more
name_on : (kind : ByteKind) (top : Option Bracket) (count : ℕ) → is_name_kind kind ≡ true → count < 32 → next (InName count) top kind ≡ Some (To (InName (count + 1)))
name_on Zero top count h less = named_more count less
name_on Digit top count h less = named_more count less
name_on Letter top count h less = named_more count less
name_on NameByte top count h less = named_more count less
name_on kind top count h less = cc

-- the digits of an integer
accepts_digits : (brackets : List Bracket) (digits rest : List ℕ) → list_all is_ascii_digit digits ≡ true → IsDelimited rest → accepts InDigits brackets (digits ++ rest) ≡ accepts AfterTerm brackets rest
accepts_digits brackets [] rest h d = accepts_digits_end brackets rest d
accepts_digits brackets (c ∷ digits) rest h d =
    let parts = and_parts (is_ascii_digit c) (list_all is_ascii_digit digits) h in
    ap (λ move. accepts_moved brackets move (digits ++ rest)) (digit_on (kind_of c) (top_of brackets) (sym (digit_kind c) ∙ parts.0)) ∙ accepts_digits brackets digits rest parts.1 d

-- the bytes of a name
accepts_name : (brackets : List Bracket) (count : ℕ) (bytes rest : List ℕ) → list_all is_name_byte bytes ≡ true → count + length bytes ≤ 32 → IsDelimited rest → accepts (InName count) brackets (bytes ++ rest) ≡ accepts AfterTerm brackets rest
accepts_name brackets count [] rest h room d = accepts_name_end brackets count rest d
accepts_name brackets count (c ∷ bytes) rest h room d =
    let parts = and_parts (is_name_byte c) (list_all is_name_byte bytes) h in
    ap (λ move. accepts_moved brackets move (bytes ++ rest)) (name_on (kind_of c) (top_of brackets) count (sym (name_kind c) ∙ parts.0) (omega arith)) ∙ accepts_name brackets (count + 1) bytes rest parts.1 (omega arith) d

-- digits with no zero in front, where they may begin
accepts_positive : (place : Place) (brackets : List Bracket) (digits rest : List ℕ) → next place (top_of brackets) Digit ≡ Some (To InDigits) → is_positive_text digits ≡ true → IsDelimited rest → accepts place brackets (digits ++ rest) ≡ accepts AfterTerm brackets rest
accepts_positive place brackets [] rest on h d = cc
accepts_positive place brackets (c ∷ digits) rest on h d =
    let parts = and_parts (is_in_range 49 57 c) (list_all is_ascii_digit digits) h in
    accepts_byte place brackets c Digit (digits ++ rest) (positive_kind c parts.0) ∙ ap (λ move. accepts_moved brackets move (digits ++ rest)) on ∙ accepts_digits brackets digits rest parts.1 d

-- an integer
pub accepts_integer : (brackets : List Bracket) (text rest : List ℕ) → IsTrue (is_integer_text text) → IsDelimited rest → accepts TermStart brackets (text ++ rest) ≡ accepts AfterTerm brackets rest
accepts_integer brackets text rest h d = elim (shape_of text h) [
  | ZeroShape e ↦ ap (λ t. accepts TermStart brackets (t ++ rest)) e
  | MinusShape digits e p ↦ ap (λ t. accepts TermStart brackets (t ++ rest)) e ∙ accepts_positive AfterMinus brackets digits rest refl p d
  | Plain p ↦ accepts_positive TermStart brackets text rest refl p d
]

-- the room of a name, by its test
room_of : (rest : List ℕ) → nat_lt (length rest) 32 ≡ true → 1 + length rest ≤ 32
room_of rest h = grind (arith, nat_tests)

-- an atom
pub accepts_atom : (brackets : List Bracket) (text rest : List ℕ) → IsTrue (is_atom_text text) → IsDelimited rest → accepts TermStart brackets (text ++ rest) ≡ accepts AfterTerm brackets rest
accepts_atom brackets [] rest h d = cc
accepts_atom brackets (c ∷ text) rest h d =
    let parts = and_parts (is_ascii_lowercase c) _ h in
    let tail = and_parts (list_all is_name_byte text) _ parts.1 in
    accepts_byte TermStart brackets c Letter (text ++ rest) (letter_kind c parts.0) ∙ accepts_name brackets 1 text rest tail.0 (room_of text tail.1) d
