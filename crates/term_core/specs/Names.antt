-- Atom texts, and the table that numbers them in the order of their first appearance. The code has a hash table.
-- Source: this project's profile of atoms: unquoted, ASCII, at most 32 bytes.
use Rattle.std.specs.Prelude.{◌≡◌, ℕ, ◌<◌, ◌≤◌, Bool, false, ◌&&◌, ◌||◌, ◌==◌, nat_lt, List, [], ◌∷◌, ◌++◌, map, take, length, Option, Some, is_some, position, bytes_eq, slice_get, String, string_bytes, IsTrue, All, codes, if◌then◌else◌}
use Rattle.std.specs.List.{list_all}
use Rattle.std.specs.Char.{is_ascii_lowercase, is_ascii_alphanumeric}
use Rattle.std.specs.HashSet.{HashSet}
use Rattle.term_core.specs.declared.names.TheConstants.{MOST_NAMES, LONGEST_ATOM}

-- what may stand in an atom after its first letter: letters, digits and the underscore
abbrev pub is_name_byte : ℕ → Bool
is_name_byte c = is_ascii_alphanumeric c || c == 95

-- an atom's text: a small letter, then letters, digits and underscores, at most 32 bytes in all
abbrev pub is_atom_text : List ℕ → Bool
is_atom_text [] = false
is_atom_text (c ∷ rest) = is_ascii_lowercase c && (list_all is_name_byte rest && nat_lt (length rest) LONGEST_ATOM)

-- the names that each table begins with
abbrev pub given_names : List (List ℕ)
given_names = codes "true" ∷ codes "false" ∷ codes "ok" ∷ []

-- the texts of a set of strings, in its order
abbrev pub set_texts : {Y S : Type 0} → HashSet (String Y) S → List (List ℕ)
set_texts set = map string_bytes set.keys

-- the number of a text: the place at which it stands, or none
abbrev pub number_of : List (List ℕ) → List ℕ → Option ℕ
number_of names text = position (bytes_eq text) names

-- the names after a text was named: a new text takes the next number
abbrev pub names_with : List (List ℕ) → List ℕ → List (List ℕ)
names_with names text = if is_some (number_of names text) then names else names ++ text ∷ []

-- a table of names: atom texts, no two alike, the given ones first, and at most 4,096 of them
pub record IsNames (names : List (List ℕ)) : Type 0 where
  pub texts : All (λ text. IsTrue (is_atom_text text)) names
  pub apart : (i j : ℕ) → i < j → j < length names → slice_get names i ≡ slice_get names j → ⊥
  pub given : take (length given_names) names ≡ given_names
  pub room : length names ≤ MOST_NAMES

-- under the names before, the text is that of the atom with this number, and after it the names are these
pub record AtomText (before : List (List ℕ)) (text : List ℕ) (atom : ℕ) (after : List (List ℕ)) : Type 0 where
  pub form : IsTrue (is_atom_text text)
  pub named : after ≡ names_with before text
  pub room : length after ≤ MOST_NAMES
  pub number : number_of after text ≡ Some atom

-- the names after begin with the names before, so that each keeps its number
pub record Extends (before after : List (List ℕ)) : Type 0 where
  pub more : List (List ℕ)
  pub whole : after ≡ before ++ more
