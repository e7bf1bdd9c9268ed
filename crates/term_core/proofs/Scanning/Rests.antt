-- What the scan accepts from a place on is the rest of some term's text.
use Rattle.std.proofs.Common.{◌≡◌, ℕ, ◌-◌, ◌≤◌, true, ◌&&◌, nat_lt, List, [], ◌∷◌, ◌++◌, length, Option, None, Some, option_map, refl, sym, ap, ◌∙◌, arith, IsTrue}
use Rattle.std.specs.Char.{is_ascii_digit, is_ascii_lowercase}
use Rattle.std.specs.Int.{is_in_range}
use Rattle.std.specs.List.{list_all}
use Rattle.std.proofs.lemmas.Bool.Decides.{nat_tests}
use Rattle.std.proofs.lemmas.List.{append_assoc}
use Rattle.term_core.specs.declared.byte_kind.Bracket.{Bracket}
use Rattle.term_core.specs.declared.byte_kind.Bracket.TheVariants.{Curly, Square}
use Rattle.term_core.specs.declared.byte_kind.ByteKind.{ByteKind}
use Rattle.term_core.specs.declared.byte_kind.ByteKind.TheVariants.{Open, Close, Comma, Minus, Zero, Digit, Letter}
use Rattle.term_core.specs.declared.scan.Place.{Place}
use Rattle.term_core.specs.declared.scan.Place.TheVariants.{TermStart, AfterOpen, AfterMinus, InDigits, InName, AfterTerm}
use Rattle.term_core.specs.declared.scan.Move.{Move}
use Rattle.term_core.specs.Names.{is_atom_text, is_name_byte}
use Rattle.term_core.specs.PlainTerm.{integer_leaf, atom_leaf, tuple_of, list_of, no_terms, term_then}
use Rattle.term_core.specs.Scanning.{Scanned, moved, begun, ended, closed}
use Rattle.term_core.specs.Tops.{top_of}
use Rattle.term_core.specs.Written.{WrittenTerm, WrittenRow, written, parted, behind, is_positive_text, HasLeafTexts}
use Rattle.term_core.proofs.ByteKinds.{opening, closing, IsOfKind}
use Rattle.term_core.proofs.IntegerTexts.{is_integer_text-positive}
use Rattle.term_core.proofs.WrittenTokens.{RowHasLeafTexts}

-- terms that may follow in the innermost brackets, then their closing bracket, and so on to the end
abbrev pub Closes : List Bracket → List ℕ → Type 0
Closes [] text = text ≡ []
Closes (b ∷ outer) text = (row : WrittenRow) × (after : List ℕ) × RowHasLeafTexts row × (text ≡ behind row ++ closing b ∷ after) × Closes outer after

-- a term, and what closes the brackets
pub record TermThen (brackets : List Bracket) (text : List ℕ) : Type 0 where
  pub form : WrittenTerm
  pub leaves : HasLeafTexts form
  pub after : List ℕ
  pub whole : text ≡ written form ++ after
  pub closes : Closes brackets after

-- terms of a row, and what closes the brackets
abbrev pub RowThen : List Bracket → List ℕ → Type 0
RowThen [] text = TermThen [] text
RowThen (b ∷ outer) text = (row : WrittenRow) × (after : List ℕ) × RowHasLeafTexts row × (text ≡ parted row ++ closing b ∷ after) × Closes outer after

-- more bytes of a leaf, and what closes the brackets
pub record LeafThen (P : List ℕ → Type 0) (brackets : List Bracket) (text : List ℕ) : Type 0 where
  pub bytes : List ℕ
  pub good : P bytes
  pub after : List ℕ
  pub whole : text ≡ bytes ++ after
  pub closes : Closes brackets after

-- so many bytes of a name may follow
pub record NameMore (count : ℕ) (bytes : List ℕ) : Type 0 where
  pub all : list_all is_name_byte bytes ≡ true
  pub room : length bytes ≤ 32 - count

-- what may follow at a place
abbrev pub Rest : Place → List Bracket → List ℕ → Type 0
Rest TermStart brackets text = TermThen brackets text
Rest AfterOpen brackets text = RowThen brackets text
Rest AfterMinus brackets text = LeafThen (λ digits. is_positive_text digits ≡ true) brackets text
Rest InDigits brackets text = LeafThen (λ digits. list_all is_ascii_digit digits ≡ true) brackets text
Rest (InName count) brackets text = LeafThen (NameMore count) brackets text
Rest AfterTerm brackets text = Closes brackets text

-- the same behind bytes after which it may have stopped
abbrev pub RestOn : Option Scanned → List ℕ → Type 0
RestOn None text = ⊥
RestOn (Some s) text = Rest s.place s.brackets text

-- behind a move
abbrev pub RestMoved : List Bracket → Option Move → List ℕ → Type 0
RestMoved brackets move text = RestOn (option_map (moved brackets) move) text

-- a digit above zero and digits
positive_cons : (c : ℕ) (digits : List ℕ) → is_in_range 49 57 c ≡ true → list_all is_ascii_digit digits ≡ true → is_positive_text (c ∷ digits) ≡ true
positive_cons c digits first others = ap (λ b. b && list_all is_ascii_digit digits) first ∙ others

-- a bracket and a row are a tuple or a list
bracket_back : (b : Bracket) (outer : List Bracket) (c : ℕ) (rest : List ℕ) → c ≡ opening b → RowThen (b ∷ outer) rest → TermThen outer (c ∷ rest)
bracket_back Curly outer c rest e h = record {
  form = tuple_of h.0;
  leaves = h.2;
  after = h.1;
  whole = ap (λ x. x ∷ rest) e ∙ ap (λ t. 123 ∷ t) (h.3 ∙ sym (append_assoc (parted h.0) (125 ∷ []) h.1));
  closes = h.4;
}
bracket_back Square outer c rest e h = record {
  form = list_of h.0;
  leaves = h.2;
  after = h.1;
  whole = ap (λ x. x ∷ rest) e ∙ ap (λ t. 91 ∷ t) (h.3 ∙ sym (append_assoc (parted h.0) (93 ∷ []) h.1));
  closes = h.4;
}

-- the test of a name's room
room_test : (bytes : List ℕ) → length bytes ≤ 31 → nat_lt (length bytes) 32 ≡ true
room_test bytes h = grind (arith, nat_tests)

-- a letter and a name's bytes are an atom
atom_cons : (c : ℕ) (bytes : List ℕ) → is_ascii_lowercase c ≡ true → NameMore 1 bytes → IsTrue (is_atom_text (c ∷ bytes))
atom_cons c bytes first h =
    ap (λ b. b && (list_all is_name_byte bytes && nat_lt (length bytes) 32)) first ∙ ap (λ b. b && nat_lt (length bytes) 32) h.all ∙ room_test bytes (omega (arith, h.room))

-- what begins a term, and what follows, are a term and what follows it
pub begun_back : (brackets : List Bracket) (kind : ByteKind) (c : ℕ) (rest : List ℕ) → IsOfKind c kind → RestMoved brackets (begun kind) rest → TermThen brackets (c ∷ rest)
begun_back brackets (Open b) c rest is h = bracket_back b brackets c rest is h
begun_back brackets Minus c rest is h = record {
  form = integer_leaf (45 ∷ h.bytes);
  leaves = h.good;
  after = h.after;
  whole = ap (λ x. x ∷ rest) is ∙ ap (λ t. 45 ∷ t) h.whole;
  closes = h.closes;
}
begun_back brackets Zero c rest is h = record { form = integer_leaf (48 ∷ []); leaves = refl; after = rest; whole = ap (λ x. x ∷ rest) is; closes = h }
begun_back brackets Digit c rest is h = record {
  form = integer_leaf (c ∷ h.bytes);
  leaves = is_integer_text-positive (c ∷ h.bytes) (positive_cons c h.bytes is h.good);
  after = h.after;
  whole = ap (λ t. c ∷ t) h.whole;
  closes = h.closes;
}
begun_back brackets Letter c rest is h = record {
  form = atom_leaf (c ∷ h.bytes);
  leaves = atom_cons c h.bytes is h.good;
  after = h.after;
  whole = ap (λ t. c ∷ t) h.whole;
  closes = h.closes;
}
begun_back brackets kind c rest is h = absurd h

-- a closing bracket that stands where it may
pub closed_back : (b d : Bracket) (outer : List Bracket) (c : ℕ) (rest : List ℕ) → c ≡ closing d → RestMoved (b ∷ outer) (closed (Some b) d) rest → (c ∷ rest ≡ closing b ∷ rest) × Closes outer rest
closed_back Curly Square outer c rest e h = absurd h
closed_back Square Curly outer c rest e h = absurd h
closed_back b d outer c rest e h = (ap (λ x. x ∷ rest) e, h)

-- a comma, a term, and what follows
comma_back : (b : Bracket) (outer : List Bracket) (c : ℕ) (rest : List ℕ) → c ≡ 44 → TermThen (b ∷ outer) rest → Closes (b ∷ outer) (c ∷ rest)
comma_back b outer c rest e h =
    let more = h.closes in (
      term_then h.form more.0,
      more.1,
      (h.leaves, more.2),
      ap (λ x. x ∷ rest) e ∙ ap (λ t. 44 ∷ t) (h.whole ∙ ap (λ t. written h.form ++ t) more.3 ∙ sym (append_assoc (written h.form) (behind more.0) (closing b ∷ more.1))),
      more.4,
    )

-- what stands behind a term
pub ended_back : (brackets : List Bracket) (kind : ByteKind) (c : ℕ) (rest : List ℕ) → IsOfKind c kind → RestMoved brackets (ended (top_of brackets) kind) rest → Closes brackets (c ∷ rest)
ended_back [] (Open b) c rest is h = absurd h
ended_back (b ∷ outer) (Close d) c rest is h = let back = closed_back b d outer c rest is h in (no_terms, rest, tt, back.0, back.1)
ended_back (b ∷ outer) Comma c rest is h = comma_back b outer c rest is h
ended_back brackets kind c rest is h = absurd h

-- nothing more of a leaf
pub no_more : (P : List ℕ → Type 0) (brackets : List Bracket) (text : List ℕ) → P [] → Closes brackets text → LeafThen P brackets text
no_more P brackets text good h = record { bytes = []; good = good; after = text; whole = refl; closes = h }

-- one more byte of a leaf
pub one_more : (P Q : List ℕ → Type 0) (brackets : List Bracket) (c : ℕ) (rest : List ℕ) → ((bytes : List ℕ) → P bytes → Q (c ∷ bytes)) → LeafThen P brackets rest → LeafThen Q brackets (c ∷ rest)
one_more P Q brackets c rest step h = record { bytes = c ∷ h.bytes; good = step h.bytes h.good; after = h.after; whole = ap (λ t. c ∷ t) h.whole; closes = h.closes }
