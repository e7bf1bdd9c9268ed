-- The canonical text of a script: its head, its modules by their canonical texts, its observers, its loader blocks, and `go`. A
-- label is `lN` by the place that it names, and stands only where some instruction goes; nothing else of the script's text is changed.
-- Source: this project's script text. The code appends to a buffer, and tries the limits on what it has written.
use Rattle.std.specs.Prelude.{ℕ, ◌<◌, ◌⊎◌, nat_lt, Bool, List, [], ◌∷◌, ◌++◌, map, length, IsTrue}
use Rattle.std.specs.Fmt.{decimal}
use Rattle.std.specs.List.{flat_map, list_any}
use Rattle.term_core.specs.Plain.{plain}
use Rattle.term_core.specs.TermText.{atom_text}
use Rattle.mod_text.specs.ModuleLine.{LineForm}
use Rattle.mod_text.specs.Canonical.{canonical as module_lines, term_form}
use Rattle.server_core.specs.declared.command.ModRef.{ModRef}
use Rattle.script_core.specs.declared.script.TheConstants.{LONGEST_SCRIPT, LONGEST_LINE}
use Rattle.script_core.specs.declared.script.ScriptCmd.{ScriptCmd}
use Rattle.script_core.specs.declared.script.ScriptCmd.TheVariants.{Load, Delete, SoftPurge, Purge, CheckOld, Put, Erase, Trace, Spawn}
use Rattle.script_core.specs.declared.script.Script.{Script}
use Rattle.script_text.specs.ScriptLine.{RefForm, delete, soft_purge, purge, check_old, erase, ScriptLine, head, code, observer, loader, load, on_atom, put, trace, spawn, go, script_line_written}
use Rattle.script_text.specs.ScriptText.{ScriptText}
use Rattle.term_core.specs.Text.Parts.{lines_of_text}

-- the script is the value of some text
pub record IsOfSomeText (s : Script) : Type 0 where
  pub text : List ℕ
  pub is_text : ScriptText text s

-- ---- lines

-- a version of a module, by the texts of its name and its number
abbrev pub ref_form : List (List ℕ) → ModRef → RefForm
ref_form names r = record { name = atom_text names r.name.0; version = decimal r.version }

-- the line of a command
abbrev pub command_line : List (List ℕ) → ScriptCmd → ScriptLine
command_line names (Load refs) = load (map (ref_form names) refs)
command_line names (Delete m) = on_atom delete (atom_text names m.0)
command_line names (SoftPurge m) = on_atom soft_purge (atom_text names m.0)
command_line names (Purge m) = on_atom purge (atom_text names m.0)
command_line names (CheckOld m) = on_atom check_old (atom_text names m.0)
command_line names (Put key term) = put (atom_text names key.0) (term_form names (plain term))
command_line names (Erase key) = on_atom erase (atom_text names key.0)
command_line names (Trace target on) = trace (atom_text names target.«module».0) (atom_text names target.name.0) (decimal target.arity) on
command_line names (Spawn target args) = spawn (atom_text names target.«module».0) (atom_text names target.name.0) (map (term_form names) args)

-- the lines of a loader block
abbrev pub block_form : List (List ℕ) → List ScriptCmd → List ScriptLine
block_form names commands = loader ∷ map (command_line names) commands

-- the lines of observers, by how many snapshots each takes
abbrev pub observer_form : List ℕ → List ScriptLine
observer_form counts = map (λ count. observer (decimal count)) counts

-- lines of module texts, as lines of a script
abbrev pub code_form : List LineForm → List ScriptLine
code_form lines = map (λ line. code line) lines

-- the lines of a script's canonical text
abbrev pub canonical : Script → List ScriptLine
canonical s =
    head
    ∷ (code_form (flat_map (module_lines s.names) s.modules)
    ++ (observer_form s.observers
    ++ (flat_map (block_form s.names) s.loaders
    ++ go ∷ [])))

-- ---- text

-- the bytes of a line with its line feed
abbrev pub script_line_bytes : ScriptLine → List ℕ
script_line_bytes line = script_line_written line ++ 10 ∷ []

-- the bytes of the line of an observer that takes so many snapshots
abbrev pub observer_bytes : ℕ → List ℕ
observer_bytes count = script_line_bytes (observer (decimal count))

-- the bytes of a loader block
abbrev pub block_bytes : List (List ℕ) → List ScriptCmd → List ℕ
block_bytes names commands = flat_map script_line_bytes (block_form names commands)

-- the canonical text of a script
abbrev pub canonical_text : Script → List ℕ
canonical_text s = flat_map script_line_bytes (canonical s)

-- ---- limits

-- whether a line has more bytes than a script's line may have
abbrev pub is_long_line : List ℕ → Bool
is_long_line line = nat_lt LONGEST_LINE (length line)

-- a text, or a line of it, has more bytes than a script's may have
abbrev pub IsTooLong : List ℕ → Type 0
IsTooLong text = (LONGEST_SCRIPT < length text) ⊎ IsTrue (list_any is_long_line (lines_of_text text).ended)

-- the canonical text of a script is too long to be a script's text
abbrev pub IsTooLongToPrint : Script → Type 0
IsTooLongToPrint s = IsTooLong (canonical_text s)
