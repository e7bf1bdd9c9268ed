-- How the lines of a script that are in no module's text are read: they are cut at their spaces, and their words are judged from
-- left to right. The forms and their texts, in ScriptLine, relate whole lines.
use Rattle.std.specs.Prelude.{ℕ, ◌==◌, ◌&&◌, nat_le, Bool, List, [], length, Option, Some, None, option_map, bytes_eq, codes, if◌then◌else◌}
use Rattle.term_core.specs.Names.{is_atom_text}
use Rattle.term_core.specs.PlainTerm.{integer_leaf, atom_leaf}
use Rattle.term_core.specs.TermForms.{is_complex_text, tree_of}
use Rattle.term_core.specs.TermParts.{parts_of_terms}
use Rattle.term_core.specs.Written.{WrittenTerm, is_integer_text}
use Rattle.mod_core.specs.declared.code.TheConstants.{MOST_ARGUMENTS}
use Rattle.term_core.specs.Text.Numbers.{number_value}
use Rattle.mod_text.specs.ModuleLine.{is_version_text, is_arity_text}
use Rattle.term_core.specs.Text.Steps.{◌>>=◌, text_tested, numbered_reading}
use Rattle.term_core.specs.Text.Parts.{cut_at, parts_between, each_reading}
use Rattle.term_core.specs.Text.Words.{switch_reading}
use Rattle.mod_text.specs.Sides.{paired}
use Rattle.script_text.specs.ScriptLine.{RefForm, AtomCommand, delete, soft_purge, purge, check_old, erase, is_snapshots_text}

-- the number of snapshots that digits write
abbrev pub snapshots_reading : List ℕ → Option ℕ
snapshots_reading text = if is_snapshots_text text then Some (number_value text) else None

-- a module and a version with a dot between them
abbrev pub ref_reading : List ℕ → Option RefForm
ref_reading text = paired 46 (text_tested is_atom_text) (text_tested is_version_text) text >>= λ p. Some (record { name = p.0; version = p.1 })

-- the modules of a load
abbrev pub refs_reading : List ℕ → Option (List RefForm)
refs_reading text = each_reading ref_reading (parts_between 32 text)

-- the command of one atom that a word names
abbrev pub command_reading : List ℕ → Option AtomCommand
command_reading word =
    if bytes_eq word (codes "delete") then Some delete
    else (if bytes_eq word (codes "soft_purge") then Some soft_purge
    else (if bytes_eq word (codes "purge") then Some purge
    else (if bytes_eq word (codes "check_old") then Some check_old
    else (if bytes_eq word (codes "erase") then Some erase else None))))

-- a breakpoint, as it is written: its function with the digits of the arity, and whether it is set
pub record TraceForm : Type 0 where
  pub «module» : List ℕ
  pub name : List ℕ
  pub arity : List ℕ
  pub on : Bool

-- a function of a module
abbrev pub target_reading : List ℕ → Option (List ℕ × (List ℕ × List ℕ))
target_reading text = paired 58 (text_tested is_atom_text) (numbered_reading 47 is_arity_text) text

-- a breakpoint that is set or taken away, behind the word of its line
abbrev pub trace_reading : List ℕ → Option TraceForm
trace_reading text = paired 32 target_reading switch_reading text >>= λ p. Some (record { «module» = p.0.0; name = p.0.1.0; arity = p.0.1.1; on = p.1 })

-- an argument, which is a term; an atom and an integer are known by their own bytes
abbrev pub argument_reading : List ℕ → Option WrittenTerm
argument_reading text =
    if is_atom_text text then Some (atom_leaf text)
    else (if is_integer_text text then Some (integer_leaf text)
    else option_map tree_of (text_tested is_complex_text text))

-- a put, as it is written
pub record PutForm : Type 0 where
  pub key : List ℕ
  pub term : WrittenTerm

-- the key and the term of a put, behind its word
abbrev pub put_reading : List ℕ → Option PutForm
put_reading text = paired 32 (text_tested is_atom_text) argument_reading text >>= λ p. Some (record { key = p.0; term = p.1 })

-- the arguments of a call, without their brackets: they are parted at the commas that are outside of all brackets
abbrev pub arguments_reading : List ℕ → Option (List WrittenTerm)
arguments_reading text = if length text == 0 then Some [] else each_reading argument_reading (parts_of_terms text)

-- a call, as it is written
pub record CallForm : Type 0 where
  pub «module» : List ℕ
  pub name : List ℕ
  pub args : List WrittenTerm

-- the arguments, where nothing is behind their bracket and they are few enough
abbrev pub closed_arguments : List ℕ × List ℕ → Option (List WrittenTerm)
closed_arguments parts = do
  args ← arguments_reading parts.0
  if length parts.1 == 0 && nat_le (length args) MOST_ARGUMENTS then Some args else None

-- the name of a function and its arguments
abbrev pub applied_reading : List ℕ → Option (List ℕ × List WrittenTerm)
applied_reading text = paired 40 (text_tested is_atom_text) (λ rest. cut_at 41 rest >>= closed_arguments) text

-- the call of a spawn
abbrev pub call_reading : List ℕ → Option CallForm
call_reading text = paired 58 (text_tested is_atom_text) applied_reading text >>= λ p. Some (record { «module» = p.0; name = p.1.0; args = p.1.1 })

-- the module and version of a title, behind its word
abbrev pub titled : Option (List ℕ × List ℕ) → Option RefForm
titled None = None
titled (Some parts) = if bytes_eq parts.0 (codes "module") then ref_reading parts.1 else None

-- the module and version of a title
abbrev pub title_reading : List ℕ → Option RefForm
title_reading text = titled (cut_at 32 text)
