-- What the lines of a script name.
-- Source: this project's script text. Plain lists in the order of first appearance; the code has a hash table.
use Rattle.std.specs.Prelude.{ℕ, List, [], ◌∷◌, map}
use Rattle.std.specs.List.{flat_map}
use Rattle.term_core.specs.Names.{given_names}
use Rattle.term_core.specs.PlainTerm.{atoms_of}
use Rattle.term_core.specs.TermText.{names_with_all}
use Rattle.mod_text.specs.LineFaults.{line_atoms}
use Rattle.script_text.specs.ScriptLine.{ScriptLine, code, load, on_atom, put, trace, spawn}

-- the atoms of a line, in order
abbrev pub script_line_atoms : ScriptLine → List (List ℕ)
script_line_atoms (code line) = line_atoms line
script_line_atoms (load refs) = map (λ r. r.name) refs
script_line_atoms (on_atom command name) = name ∷ []
script_line_atoms (put key term) = key ∷ atoms_of term
script_line_atoms (trace «module» name arity on) = «module» ∷ name ∷ []
script_line_atoms (spawn «module» name args) = «module» ∷ name ∷ flat_map atoms_of args
script_line_atoms line = []

-- the names after lines, in the order of their first appearance, behind the three given ones
abbrev pub counted_names : List ScriptLine → List (List ℕ)
counted_names lines = names_with_all given_names (flat_map script_line_atoms lines)
