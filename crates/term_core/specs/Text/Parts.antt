-- A text as parts between bytes, and as lines: each line ends with a line feed, and behind the last may stand bytes with none.
use Rattle.std.specs.Prelude.{ℕ, ◌==◌, List, [], ◌∷◌, ◌++◌, Option, Some, None}
use Rattle.std.specs.List.{slice_split}
use Rattle.term_core.specs.TermParts.{CutText}
use Rattle.term_core.specs.Text.Steps.{◌>>=◌}
pub use Rattle.term_core.specs.Text.Cuts.{cut_at, lines_of_text}

-- the parts between such bytes
abbrev pub parts_between : ℕ → List ℕ → List (List ℕ)
parts_between byte text = slice_split (λ b. b == byte) text

-- each part as one
abbrev pub each_reading : {X : Type 0} → (List ℕ → Option X) → List (List ℕ) → Option (List X)
each_reading read [] = Some []
each_reading read (part ∷ parts) = do
  x ← read part
  xs ← each_reading read parts
  Some (x ∷ xs)

-- the sides of a cut, or the whole text where there is none
abbrev pub part_of_cut : List ℕ → Option (List ℕ × List ℕ) → CutText
part_of_cut text None = record { front = text; rest = None }
part_of_cut text (Some sides) = record { front = sides.0; rest = Some sides.1 }

-- what stands before the first such byte, and behind it, if there is one
abbrev pub first_part : ℕ → List ℕ → CutText
first_part byte text = part_of_cut text (cut_at byte text)

-- these bytes as a last line, unless there are none
abbrev pub as_last_line : List ℕ → List (List ℕ)
as_last_line [] = []
as_last_line (b ∷ bytes) = (b ∷ bytes) ∷ []

-- all lines, the one without a line feed too
abbrev pub all_lines : List ℕ → List (List ℕ)
all_lines text = (lines_of_text text).ended ++ as_last_line (lines_of_text text).tail

-- the bytes of lines, each with its line feed
abbrev pub lines_joined : List (List ℕ) → List ℕ
lines_joined [] = []
lines_joined (line ∷ lines) = line ++ 10 ∷ lines_joined lines
