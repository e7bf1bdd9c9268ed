-- Commas outside of all brackets, which part the arguments of a call.
-- Source: Erlang's call syntax, in this project's profile of terms: no strings and no quoted atoms, so that each bracket and comma is one.
use Rattle.std.specs.Prelude.{ℕ, ◌+◌, ◌-◌, ◌==◌, ◌&&◌, ◌||◌, Bool, if◌then◌else◌, List, [], ◌∷◌, ◌++◌, Option, None, Some}

-- how many brackets are open behind a byte, whatever their kind
abbrev pub depth_behind : ℕ → ℕ → ℕ
depth_behind depth c = if c == 123 || c == 91 then depth + 1 else (if c == 125 || c == 93 then depth - 1 else depth)

-- whether a byte is a comma outside of all brackets
abbrev pub is_part_end : ℕ → ℕ → Bool
is_part_end depth c = c == 44 && depth == 0

-- what stands in front of the first such comma, and what stands behind it, if there is one
pub record CutText : Type 0 where
  pub front : List ℕ
  pub rest : Option (List ℕ)

-- one more byte in front
abbrev pub with_byte : ℕ → CutText → CutText
with_byte c cut = record { front = c ∷ cut.front; rest = cut.rest }

-- the cut of a text behind which so many brackets are open
abbrev pub cut_at_depth : ℕ → List ℕ → CutText
cut_at_depth depth [] = record { front = []; rest = None }
cut_at_depth depth (c ∷ rest) = if is_part_end depth c then record { front = []; rest = Some rest } else with_byte c (cut_at_depth (depth_behind depth c) rest)

-- the cut of a text at the first comma outside of all brackets
unfoldable pub cut_part : List ℕ → CutText
cut_part text = cut_at_depth 0 text

-- one more byte in front of the first of some texts
abbrev pub in_first : ℕ → List (List ℕ) → List (List ℕ)
in_first c [] = (c ∷ []) ∷ []
in_first c (part ∷ parts) = (c ∷ part) ∷ parts

-- the texts between such commas, where so many brackets are open in front
abbrev pub parts_at_depth : ℕ → List ℕ → List (List ℕ)
parts_at_depth depth [] = [] ∷ []
parts_at_depth depth (c ∷ rest) = if is_part_end depth c then [] ∷ parts_at_depth 0 rest else in_first c (parts_at_depth (depth_behind depth c) rest)

-- the texts between the commas outside of all brackets; an empty text has one part, which is empty
unfoldable pub parts_of_terms : List ℕ → List (List ℕ)
parts_of_terms text = parts_at_depth 0 text

-- texts with a comma before each
abbrev pub joined_behind : List (List ℕ) → List ℕ
joined_behind [] = []
joined_behind (part ∷ parts) = 44 ∷ (part ++ joined_behind parts)

-- texts with commas between them
abbrev pub joined : List (List ℕ) → List ℕ
joined [] = []
joined (part ∷ parts) = part ++ joined_behind parts

-- the parts of what stands behind a cut
abbrev pub parts_of_rest : Option (List ℕ) → List (List ℕ)
parts_of_rest None = []
parts_of_rest (Some rest) = parts_of_terms rest
