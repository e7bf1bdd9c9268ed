-- What each byte is in the text of a term, as the code reads it.
use Rattle.std.specs.Prelude.{ℕ, Bool, true, false, ◌==◌, if◌then◌else◌, List, [], ◌∷◌}
use Rattle.std.specs.Char.{is_ascii_lowercase}
use Rattle.std.specs.Int.{is_in_range}
use Rattle.term_core.specs.declared.byte_kind.Bracket.TheVariants.{Curly, Square}
use Rattle.term_core.specs.declared.byte_kind.ByteKind.{ByteKind}
use Rattle.term_core.specs.declared.byte_kind.ByteKind.TheVariants.{Open, Close, Comma, Minus, Zero, Digit, Letter, NameByte, Foreign}
use Rattle.term_core.specs.Names.{is_name_byte}

-- the kind of a byte
abbrev pub kind_of : ℕ → ByteKind
kind_of c =
    if c == 44 then Comma else (if c == 45 then Minus else (if c == 48 then Zero else (if is_in_range 49 57 c then Digit else (if c == 91 then Open Square else (if c == 93 then Close Square else
    (if c == 123 then Open Curly else (if c == 125 then Close Curly else (if is_ascii_lowercase c then Letter else (if is_name_byte c then NameByte else Foreign)))))))))

-- whether such a byte stands in an integer or an atom, and not between terms
abbrev pub is_leaf_kind : ByteKind → Bool
is_leaf_kind (Open b) = false
is_leaf_kind (Close b) = false
is_leaf_kind Comma = false
is_leaf_kind _ = true

-- what stands in front of the first byte between terms
abbrev pub leaf_front : List ℕ → List ℕ
leaf_front [] = []
leaf_front (c ∷ rest) = if is_leaf_kind (kind_of c) then c ∷ leaf_front rest else []
