-- A text cut at a byte, and cut into lines. The code walks over the bytes, and keeps where it is.
use Rattle.std.specs.Prelude.{ℕ, ◌==◌, List, [], ◌∷◌, Option, Some, None, option_map, if◌then◌else◌}

-- with this byte at the front
abbrev pub with_first : ℕ → List ℕ × List ℕ → List ℕ × List ℕ
with_first b p = (b ∷ p.0, p.1)

-- what stands before and behind the first such byte, if there is one
abbrev pub cut_at : ℕ → List ℕ → Option (List ℕ × List ℕ)
cut_at c [] = None
cut_at c (b ∷ bs) = if b == c then Some ([], bs) else option_map (with_first b) (cut_at c bs)

-- the lines that end with a line feed, and the bytes behind the last of them
pub record Lines : Type 0 where
  pub ended : List (List ℕ)
  pub tail : List ℕ

-- these lines, and these bytes behind them
abbrev pub lines : List (List ℕ) → List ℕ → Lines
lines ended tail = record { ended = ended; tail = tail }

-- with this byte at the front
abbrev pub before_lines : ℕ → List (List ℕ) → List ℕ → Lines
before_lines b [] tail = lines [] (b ∷ tail)
before_lines b (line ∷ others) tail = lines ((b ∷ line) ∷ others) tail

-- the lines of a text
abbrev pub lines_of_text : List ℕ → Lines
lines_of_text [] = lines [] []
lines_of_text (b ∷ bs) =
    if b == 10 then lines ([] ∷ (lines_of_text bs).ended) (lines_of_text bs).tail
    else before_lines b (lines_of_text bs).ended (lines_of_text bs).tail
