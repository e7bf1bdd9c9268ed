-- A term as it is written: a tree with a text at each leaf, whatever the size of its numbers.
-- Source: this project's profile of Erlang's term notation. The grammar is of whole texts; the code reads bytes.
use Rattle.std.specs.Prelude.{ℕ, ◌+◌, ℤ, pos, negsuc, neg_ℤ, ◌≤ℤ◌, Bool, false, ◌&&◌, ◌==◌, nat_lt, if◌then◌else◌, List, [], ◌∷◌, ◌++◌, length, Option, None, Some, IsTrue}
use Rattle.std.specs.Int.{is_in_range}
use Rattle.std.specs.Char.{is_ascii_digit}
use Rattle.std.specs.List.{list_all}
use Rattle.std.specs.Str.Parse.{digits_value}
use Rattle.term_core.specs.PlainTerm.{TermOf, RowOf, integer_leaf, atom_leaf, tuple_of, list_of, no_terms, term_then, EachLeaf}
use Rattle.term_core.specs.Names.{is_atom_text}

-- an integer of 60 bits, the only ones that are terms
pub record IsTermInteger (z : ℤ) : Type 0 where
  pub low : negsuc 576460752303423487 ≤ℤ z
  pub high : z ≤ℤ pos 576460752303423487

-- the test of it
abbrev pub is_term_integer : ℤ → Bool
is_term_integer (pos n) = nat_lt n 576460752303423488
is_term_integer (negsuc n) = nat_lt n 576460752303423488

-- digits with no zero in front
abbrev pub is_positive_text : List ℕ → Bool
is_positive_text [] = false
is_positive_text (c ∷ rest) = is_in_range 49 57 c && list_all is_ascii_digit rest

-- an integer's text, of any length: `0`, or digits with no zero in front, with a minus before them or not
abbrev pub is_integer_text : List ℕ → Bool
is_integer_text [] = false
is_integer_text (c ∷ rest) = if c == 48 then length rest == 0 else (if c == 45 then is_positive_text rest else is_positive_text (c ∷ rest))

-- the integer that such a text says
abbrev pub integer_of : List ℕ → ℤ
integer_of [] = pos 0
integer_of (c ∷ rest) = if c == 45 then neg_ℤ (pos (digits_value 10 rest)) else pos (digits_value 10 (c ∷ rest))

-- a term with texts for its integers and its atoms
abbrev pub WrittenTerm : Type 0
WrittenTerm = TermOf (List ℕ) (List ℕ)

-- a row of such terms
abbrev pub WrittenRow : Type 0
WrittenRow = RowOf (List ℕ) (List ℕ)

-- the one text of such a term: tuples in `{` and `}`, lists in `[` and `]`
abbrev mutual
  pub written : TermOf (List ℕ) (List ℕ) → List ℕ
  written (integer_leaf text) = text
  written (atom_leaf text) = text
  written (tuple_of row) = 123 ∷ (parted row ++ 125 ∷ [])
  written (list_of row) = 91 ∷ (parted row ++ 93 ∷ [])

  -- terms parted by commas
  pub parted : RowOf (List ℕ) (List ℕ) → List ℕ
  parted no_terms = []
  parted (term_then t row) = written t ++ behind row

  -- terms with a comma before each
  pub behind : RowOf (List ℕ) (List ℕ) → List ℕ
  behind no_terms = []
  behind (term_then t row) = 44 ∷ (written t ++ behind row)

-- each text at a leaf is an integer's, or an atom's
abbrev pub HasLeafTexts : WrittenTerm → Type 0
HasLeafTexts form = EachLeaf (λ text. IsTrue (is_integer_text text)) (λ text. IsTrue (is_atom_text text)) form

-- each integer is a term's
abbrev pub IntegersFit : WrittenTerm → Type 0
IntegersFit form = EachLeaf (λ text. IsTermInteger (integer_of text)) (λ _. Unit {0}) form

-- the place found in front, or else the one behind so many bytes
abbrev pub place_or : Option ℕ → ℕ → Option ℕ → Option ℕ
place_or (Some place) shift later = Some place
place_or None shift None = None
place_or None shift (Some place) = Some (shift + place)

-- where in its text the leftmost integer that is no term's begins
abbrev mutual
  pub outside_of : TermOf (List ℕ) (List ℕ) → Option ℕ
  outside_of (integer_leaf text) = if is_term_integer (integer_of text) then None else Some 0
  outside_of (atom_leaf text) = None
  outside_of (tuple_of row) = place_or None 1 (outside_in row)
  outside_of (list_of row) = place_or None 1 (outside_in row)

  -- the same among terms that are parted by commas
  pub outside_in : RowOf (List ℕ) (List ℕ) → Option ℕ
  outside_in no_terms = None
  outside_in (term_then t row) = place_or (outside_of t) (length (written t) + 1) (outside_in row)
