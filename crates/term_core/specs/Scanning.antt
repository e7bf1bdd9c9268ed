-- The order in which the code reads the bytes of a term's text: a stack of open brackets, and what was read last.
-- It differs from the grammar in that it says nothing of terms. A law says that it goes on exactly where some term's text does.
use Rattle.std.specs.Prelude.{ℕ, ◌+◌, nat_lt, Bool, true, false, if◌then◌else◌, List, [], ◌∷◌, Option, None, Some, option_map}
use Rattle.term_core.specs.declared.byte_kind.Bracket.{Bracket}
use Rattle.term_core.specs.declared.byte_kind.Bracket.TheVariants.{Curly, Square}
use Rattle.term_core.specs.declared.byte_kind.ByteKind.{ByteKind}
use Rattle.term_core.specs.declared.byte_kind.ByteKind.TheVariants.{Open, Close, Comma, Minus, Zero, Digit, Letter, NameByte}
use Rattle.term_core.specs.declared.names.TheConstants.{LONGEST_ATOM}
use Rattle.term_core.specs.declared.scan.Place.{Place}
use Rattle.term_core.specs.declared.scan.Place.TheVariants.{TermStart, AfterOpen, AfterMinus, InDigits, InName, AfterTerm}
use Rattle.term_core.specs.declared.scan.Move.{Move}
use Rattle.term_core.specs.declared.scan.Move.TheVariants.{To, Push, Pop}
use Rattle.term_core.specs.Bytes.{kind_of}
use Rattle.term_core.specs.Tops.{top_of, without_top}
use Rattle.term_core.specs.Written.{place_or}

-- where a term begins: a bracket opens, or an integer or an atom begins
abbrev pub begun : ByteKind → Option Move
begun (Open b) = Some (Push b)
begun Minus = Some (To AfterMinus)
begun Zero = Some (To AfterTerm)
begun Digit = Some (To InDigits)
begun Letter = Some (To (InName 1))
begun _ = None

-- the innermost open bracket is closed by its like alone
abbrev pub closed : Option Bracket → Bracket → Option Move
closed (Some Curly) Curly = Some Pop
closed (Some Square) Square = Some Pop
closed _ _ = None

-- behind a term inside brackets: a comma, or the closing bracket
abbrev pub ended : Option Bracket → ByteKind → Option Move
ended top (Close b) = closed top b
ended (Some b) Comma = Some (To TermStart)
ended top _ = None

-- behind a digit of an integer: a digit, or what may stand behind the integer
abbrev pub after_digit : Option Bracket → ByteKind → Option Move
after_digit top Zero = Some (To InDigits)
after_digit top Digit = Some (To InDigits)
after_digit top kind = ended top kind

-- one more byte of an atom, while there is room
abbrev pub named : ℕ → Option Move
named count = if nat_lt count LONGEST_ATOM then Some (To (InName (count + 1))) else None

-- behind so many bytes of an atom: one more, or what may stand behind the atom
abbrev pub after_name : Option Bracket → ℕ → ByteKind → Option Move
after_name top count Zero = named count
after_name top count Digit = named count
after_name top count Letter = named count
after_name top count NameByte = named count
after_name top count kind = ended top kind

-- behind an opening bracket: its closing bracket, or a term
abbrev pub after_open : Option Bracket → ByteKind → Option Move
after_open top (Close b) = closed top b
after_open top kind = begun kind

-- behind a minus: a digit above zero
abbrev pub after_minus : ByteKind → Option Move
after_minus Digit = Some (To InDigits)
after_minus _ = None

-- where a byte of this kind leads, by what was read last and the innermost open bracket
abbrev pub next : Place → Option Bracket → ByteKind → Option Move
next TermStart top kind = begun kind
next AfterOpen top kind = after_open top kind
next AfterMinus top kind = after_minus kind
next InDigits top kind = after_digit top kind
next (InName count) top kind = after_name top count kind
next AfterTerm top kind = ended top kind

-- what was read last, and the open brackets, the innermost first
pub record Scanned : Type 0 where
  pub place : Place
  pub brackets : List Bracket

-- what a move leaves
abbrev pub moved : List Bracket → Move → Scanned
moved brackets (To place) = record { place = place; brackets = brackets }
moved brackets (Push b) = record { place = AfterOpen; brackets = b ∷ brackets }
moved brackets Pop = record { place = AfterTerm; brackets = without_top brackets }

-- what one byte leaves, or none where no term's text goes on so
abbrev pub stepped : Place → List Bracket → ℕ → Option Scanned
stepped place brackets c = option_map (moved brackets) (next place (top_of brackets) (kind_of c))

-- the same behind bytes after which it may have stopped
abbrev pub stepped_on : Option Scanned → ℕ → Option Scanned
stepped_on None c = None
stepped_on (Some s) c = stepped s.place s.brackets c

-- what the bytes leave, one after another
abbrev pub run : Option Scanned → List ℕ → Option Scanned
run s [] = s
run s (c ∷ rest) = run (stepped_on s c) rest

-- whether a term may end here
abbrev pub is_end_place : Place → Bool
is_end_place InDigits = true
is_end_place (InName count) = true
is_end_place AfterTerm = true
is_end_place _ = false

-- whether a term ends here and no bracket is open
abbrev pub is_end : Place → List Bracket → Bool
is_end place [] = is_end_place place
is_end place (b ∷ outer) = false

-- the same behind bytes after which it may have stopped
abbrev pub ends : Option Scanned → Bool
ends None = false
ends (Some s) = is_end s.place s.brackets

-- where a text begins
abbrev pub at_start : Option Scanned
at_start = Some (record { place = TermStart; brackets = [] })

-- 0 where it stopped, else the place behind
abbrev pub place_behind : Option Scanned → Option ℕ → Option ℕ
place_behind None later = Some 0
place_behind (Some s) later = place_or None 1 later

-- the place of the first byte with which no term's text goes on, or the end of the text where it only stops too early
abbrev pub syntax_fault : Option Scanned → List ℕ → Option ℕ
syntax_fault s [] = if ends s then None else Some 0
syntax_fault s (c ∷ rest) = place_behind (stepped_on s c) (syntax_fault (stepped_on s c) rest)
