-- The names of functions by their numbers: a growing list, in which each name stands once.
-- Source: erts internal documentation, CodeLoading, on export entries. A plain list; the code has a hash table.
use Rattle.std.specs.Prelude.{◌≡◌, ℕ, ◌≤◌, ◌<◌, ◌==◌, ◌&&◌, Bool, List, [], ◌∷◌, ◌++◌, length, position, slice_get, Option, Some, is_some, if◌then◌else◌}
use Rattle.term_core.specs.declared.atom.Mfa.{Mfa}
use Rattle.export_table.specs.declared.table.TheConstants.{MOST_ENTRIES}

-- both name the same function: they agree in module, name and arity
abbrev pub is_same_mfa : Mfa → Mfa → Bool
is_same_mfa a b = a.«module».0 == b.«module».0 && (a.name.0 == b.name.0 && a.arity == b.arity)

-- the number of a name: the place at which it stands, if it does
abbrev pub entry_of : List Mfa → Mfa → Option ℕ
entry_of names to = position (is_same_mfa to) names

-- the names once one was added: a new one goes last
abbrev pub exports_with : List Mfa → Mfa → List Mfa
exports_with names to = if is_some (entry_of names to) then names else names ++ to ∷ []

-- the names of a table: each stands once, and there are at most 1,024
pub record AreEntries (names : List Mfa) : Type 0 where
  pub once : (i j : ℕ) (name : Mfa) → slice_get names i ≡ Some name → slice_get names j ≡ Some name → i ≡ j
  pub room : length names ≤ MOST_ENTRIES

-- with the names before, a name was added, and this is its number
pub record HasEntry (before : List Mfa) (to : Mfa) (number : ℕ) (after : List Mfa) : Type 0 where
  pub names : after ≡ exports_with before to
  pub entry : entry_of after to ≡ Some number
  pub small : number < MOST_ENTRIES
