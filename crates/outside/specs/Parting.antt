-- How the input of a check is parted: a script's text stands first, and a report behind it.
-- Source: this project's command line. The definition takes the lines of the whole input; the code goes over its bytes once.
use Rattle.std.specs.Prelude.{ℕ, List, [], ◌∷◌, length, drop, Option, Some, None, option_map, unwrap_or, bytes_eq, codes, if◌then◌else◌}
use Rattle.term_core.specs.Text.Parts.{lines_of_text, lines_joined}

-- the lines up to the first that is `go`, and with it, if there is one
abbrev pub lines_to_go : List (List ℕ) → Option (List (List ℕ))
lines_to_go [] = None
lines_to_go (line ∷ lines) = if bytes_eq line (codes "go") then Some (line ∷ []) else option_map (λ others. line ∷ others) (lines_to_go lines)

-- the script's part of an input: up to the first line that is `go` with its line feed, wherever it stands; all of it, where there is no such line
abbrev pub script_part : List ℕ → List ℕ
script_part bytes = unwrap_or (option_map lines_joined (lines_to_go (lines_of_text bytes).ended)) bytes

-- what stands behind the script's part
abbrev pub report_part : List ℕ → List ℕ
report_part bytes = drop (length (script_part bytes)) bytes
