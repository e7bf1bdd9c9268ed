-- The lines of a script, as they are written: atoms and numbers by their texts, modules by name and version.
-- Source: this project's script text. Each line has one text, so a line is of a form where it is that form's text; the code reads bytes.
use Rattle.std.specs.Prelude.{◌≡◌, ℕ, ◌&&◌, nat_le, Bool, true, false, List, [], ◌∷◌, ◌++◌, length, IsTrue, codes}
use Rattle.std.specs.List.{list_all, flat_map}
use Rattle.term_core.specs.Names.{is_atom_text}
use Rattle.term_core.specs.PlainTerm.{row_of}
use Rattle.term_core.specs.Written.{WrittenTerm, written, parted}
use Rattle.mod_core.specs.declared.code.TheConstants.{MOST_ARGUMENTS}
use Rattle.term_core.specs.Text.Numbers.{is_number_text, number_value}
use Rattle.term_core.specs.Text.Words.{switch_word}
use Rattle.mod_text.specs.ModuleLine.{LineForm, parted_by, spaced, function_written, line_written, is_term_form, is_line_form, is_function_form, is_version_text}
use Rattle.script_core.specs.declared.script.TheConstants.{MOST_SNAPSHOTS}

-- a version of a module, as it is written: its name, and the digits of the version
pub record RefForm : Type 0 where
  pub name : List ℕ
  pub version : List ℕ

-- a command of one atom. Of a module: its current code becomes old; its old code goes, if no process stands in it; its old code
-- goes, and the processes that stand in it end; whether it has old code. Of a key: it holds no persistent term any more
pub data AtomCommand : Type 0 where
  delete : AtomCommand
  soft_purge : AtomCommand
  purge : AtomCommand
  check_old : AtomCommand
  erase : AtomCommand

-- a line: the head, a line of a module's text, an observer by the digits of how many snapshots it takes, the start of a loader block,
-- a load of modules at once, a command of one atom, a put of a term under a key, a breakpoint of a function that is set or taken
-- away, a spawn of a call, the end
pub data ScriptLine : Type 0 where
  head : ScriptLine
  code : LineForm → ScriptLine
  observer : List ℕ → ScriptLine
  loader : ScriptLine
  load : List RefForm → ScriptLine
  on_atom : AtomCommand → List ℕ → ScriptLine
  put : List ℕ → WrittenTerm → ScriptLine
  trace : List ℕ → List ℕ → List ℕ → Bool → ScriptLine
  spawn : List ℕ → List ℕ → List WrittenTerm → ScriptLine
  go : ScriptLine

-- `m.1`
abbrev pub ref_written : RefForm → List ℕ
ref_written r = r.name ++ 46 ∷ r.version

-- the word of a command
abbrev pub command_word : AtomCommand → List ℕ
command_word delete = codes "delete"
command_word soft_purge = codes "soft_purge"
command_word purge = codes "purge"
command_word check_old = codes "check_old"
command_word erase = codes "erase"

-- `m:main/0 on`
abbrev pub trace_written : List ℕ → List ℕ → List ℕ → Bool → List ℕ
trace_written «module» name arity on = spaced (parted_by 58 «module» (function_written name arity)) (switch_word on)

-- `m:main(1,ok)`
abbrev pub call_written : List ℕ → List ℕ → List WrittenTerm → List ℕ
call_written «module» name args = «module» ++ 58 ∷ (name ++ 40 ∷ (parted (row_of args) ++ 41 ∷ []))

-- the text of a line, without its line feed
abbrev pub script_line_written : ScriptLine → List ℕ
script_line_written head = codes "beam script 1"
script_line_written (code line) = line_written line
script_line_written (observer count) = spaced (codes "observer") count
script_line_written loader = codes "loader"
script_line_written (load refs) = codes "load" ++ flat_map (λ r. 32 ∷ ref_written r) refs
script_line_written (on_atom command name) = spaced (command_word command) name
script_line_written (put key term) = spaced (codes "put") (spaced key (written term))
script_line_written (trace «module» name arity on) = spaced (codes "trace") (trace_written «module» name arity on)
script_line_written (spawn «module» name args) = codes "spawn " ++ call_written «module» name args
script_line_written go = codes "go"

-- an atom and a version
abbrev pub is_ref_form : RefForm → Bool
is_ref_form r = is_atom_text r.name && is_version_text r.version

-- at least one atom and version
abbrev pub are_some_refs : List RefForm → Bool
are_some_refs [] = false
are_some_refs (r ∷ refs) = list_all is_ref_form (r ∷ refs)

-- a number from 1 to 16
abbrev pub is_snapshots_text : List ℕ → Bool
is_snapshots_text text = is_number_text text && (nat_le 1 (number_value text) && nat_le (number_value text) MOST_SNAPSHOTS)

-- a line, each part of which has its text: a load of at least one module, an arity of at most 15, a call of at most 15 arguments
abbrev pub is_script_line : ScriptLine → Bool
is_script_line (code line) = is_line_form line
is_script_line (observer count) = is_snapshots_text count
is_script_line (load refs) = are_some_refs refs
is_script_line (on_atom command name) = is_atom_text name
is_script_line (put key term) = is_atom_text key && is_term_form term
is_script_line (trace «module» name arity on) = is_atom_text «module» && is_function_form name arity
is_script_line (spawn «module» name args) = is_atom_text «module» && (is_atom_text name && (nat_le (length args) MOST_ARGUMENTS && list_all is_term_form args))
is_script_line _ = true

-- the bytes are the text of this line
pub record IsLine (text : List ℕ) (line : ScriptLine) : Type 0 where
  pub text_is : text ≡ script_line_written line
  pub sound : IsTrue (is_script_line line)
