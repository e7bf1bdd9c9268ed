-- What an observer sees of a generation: the exported functions of the current instances, each once, in order.
-- Source: this project's report text; what an instance exports is the code server's (erts internal documentation, CodeLoading). The definition
-- says which functions these are; code goes over the functions of the script's modules.
use Rattle.std.specs.Prelude.{◌≡◌, ℕ, List, map, IsSomeAnd, Contains}
use Rattle.std.specs.List.{AllByRecursion}
use Rattle.std.specs.List.Sorted.{IsStrictlySortedBy}
use Rattle.std.specs.Ordering.{nat_cmp, ordering_then}
use Rattle.std.specs.declared.cmp.Ordering.{Ordering}
use Rattle.std.specs.Cmp.Lexicographic.{slice_cmp}
use Rattle.term_core.specs.declared.atom.Mfa.{Mfa}
use Rattle.term_core.specs.TermText.{atom_text}
use Rattle.server_core.specs.ServerState.{ServerState, dispatch_of}

-- the order of two atoms by the bytes of their names
abbrev pub name_cmp : List (List ℕ) → ℕ → ℕ → Ordering
name_cmp names a b = slice_cmp nat_cmp (atom_text names a) (atom_text names b)

-- the order of two functions: by the names of their modules, then by their own names, then by their arities
abbrev pub mfa_cmp : List (List ℕ) → Mfa → Mfa → Ordering
mfa_cmp names f g = ordering_then (name_cmp names f.«module».0 g.«module».0) (ordering_then (name_cmp names f.name.0 g.name.0) (nat_cmp f.arity g.arity))

-- the current instance of the function's module exports it, and has this serial
abbrev pub IsExport : ServerState → Mfa × ℕ → Type 0
IsExport s export = IsSomeAnd (dispatch_of s export.0) (λ e. e.serial ≡ export.1)

-- these are the exports of a state, in order, each once, and all of them
pub record AreExports (names : List (List ℕ)) (s : ServerState) (exports : List (Mfa × ℕ)) : Type 0 where
  pub sorted : IsStrictlySortedBy (mfa_cmp names) (map (λ export. export.0) exports)
  pub exported : AllByRecursion (IsExport s) exports
  pub whole : (export : Mfa × ℕ) → IsExport s export → Contains exports export
