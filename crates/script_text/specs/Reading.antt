-- The order in which the lines of a script are read and judged: what is known after each line, and what the next one adds. The
-- relation of whole texts and scripts, in ScriptText, is shown to agree with it.
use Rattle.std.specs.Prelude.{◌≡◌, ℕ, ◌+◌, ◌==◌, ◌&&◌, not, nat_lt, nat_le, Bool, List, [], ◌∷◌, ◌++◌, length, map, Option, Some, None, option_map, Result, Ok, Err, bytes_eq, codes, if◌then◌else◌}
use Rattle.std.specs.List.{list_all}
use Rattle.term_core.specs.declared.atom.Mfa.{Mfa}
use Rattle.term_core.specs.Names.{number_of}
use Rattle.term_core.specs.Plain.{term_of}
use Rattle.mod_text.specs.declared.fault.LineFault.TheVariants as line_faults
use Rattle.mod_text.specs.ModuleLine.{LineForm}
use Rattle.mod_text.specs.LineFaults.{counted_of}
use Rattle.term_core.specs.Text.Cuts.{cut_at}
use Rattle.mod_text.specs.ModuleValue.{IsTitled}
use Rattle.mod_text.specs.Reading.{Step, line_step, has_no_line}
use Rattle.server_core.specs.declared.command.ModRef.{ModRef}
use Rattle.script_core.specs.declared.script.TheConstants.{LONGEST_SCRIPT, LONGEST_LINE, MOST_OBSERVERS}
use Rattle.script_core.specs.declared.script.ScriptCmd.{ScriptCmd}
use Rattle.script_core.specs.declared.script.ScriptCmd.TheVariants.{Load, Put, Trace, Spawn}
use Rattle.script_core.specs.declared.script.Script.{Script}
use Rattle.script_text.specs.declared.fault.Which.TheVariants as which
use Rattle.script_text.specs.declared.fault.ScriptFault.{ScriptFault}
use Rattle.script_text.specs.declared.fault.ScriptFault.TheVariants as faults
use Rattle.script_text.specs.declared.reading.cause.LineCause.{LineCause}
use Rattle.script_text.specs.declared.reading.cause.LineCause.TheVariants as causes
use Rattle.script_text.specs.declared.reading.reader.Place.{Place}
use Rattle.script_text.specs.declared.reading.reader.Place.TheVariants.{Unread, Between, Within, Observing, Finished}
use Rattle.script_text.specs.declared.reading.reader.ScriptReader.{ScriptReader}
use Rattle.script_text.specs.Groups.{onto_last}
use Rattle.script_text.specs.ScriptValue.{command_of}
use Rattle.mod_text.specs.ModuleValue.{earlier as or_else}
pub use Rattle.script_text.specs.LineStep.{opening, by_code, is_text_end, closed_by, text_closed, repeat_cause, block_step, end_step, process_added}
use Rattle.script_text.specs.LineReading.{snapshots_reading, refs_reading, command_reading, put_reading, trace_reading, call_reading, title_reading}
use Rattle.script_text.specs.WrittenLine.{ref_words, put_words, trace_words, call_words}
use Rattle.script_text.specs.Naming.{or_syntax, atom_named, refs_named, put_named, trace_named, call_named}
use Rattle.script_text.specs.Causes.{◌>>=◌, fault_at}
use Rattle.script_text.specs.Sets.{mfa_added, is_among, ref_added}
use Rattle.script_text.specs.Adding.{counted_added}
use Rattle.term_core.specs.Text.Parts.{lines_of_text}

-- ---- the head and the module texts

-- the head
abbrev pub head_step : ScriptReader → List ℕ → Result ScriptReader LineCause
head_step s text = if bytes_eq text (codes "beam script 1") then Ok (record s { place = Between }) else Err causes.Syntax

-- what a line of a module's text gives
abbrev pub code_step : List (List ℕ) → List LineForm → List ℕ → Result (List (List ℕ) × List LineForm) LineCause
code_step names lines text = by_code (line_step names lines text)

-- the title of a module's text, as the line of this number
unfoldable pub title_step : ScriptReader → ℕ → List ℕ → Result ScriptReader LineCause
title_step s number text = do
  r ← or_syntax (option_map ref_words (title_reading text))
  x ← code_step s.names s.lines text
  name ← or_syntax (number_of x.0 r.0)
  titles ← ref_added s.titles (record { name = record { 0 = name }; version = r.1 })
  Ok (record s { names = x.0; lines = x.1; titles = titles; title = number; place = Within })

-- the line that was read last is counted, and closes its text where it is the end
abbrev pub counted_step : ScriptReader → List ℕ → Result ScriptReader LineCause
counted_step s text = counted_added s.functions (counted_of s.names s.lines text) >>= λ fs. Ok (text_closed (record s { functions = fs }))

-- a line of a module's text, behind its title; before is the function that it would name if it is given again
abbrev pub line_added : ScriptReader → List ℕ → Option Mfa → Step → Result ScriptReader LineCause
line_added s text before (Ok x) = counted_step (record s { names = x.0; lines = x.1 }) text
line_added s text before (Err line_faults.Duplicate) = Err (repeat_cause s.functions before)
line_added s text before (Err line_faults.Syntax) = Err causes.Syntax
line_added s text before (Err line_faults.Register) = Err causes.Syntax
line_added s text before (Err line_faults.Int) = Err (causes.Limit which.Integer)
line_added s text before (Err line_faults.Term) = Err (causes.Limit which.Term)
line_added s text before (Err line_faults.Names) = Err (causes.Limit which.Names)
line_added s text before (Err line_faults.TooManyFunctions) = Err (causes.Limit which.Functions)
line_added s text before (Err line_faults.TooLong) = Err (causes.Limit which.Module)
line_added s text before (Err line_faults.NoMemory) = Err causes.NoMemory

-- a line behind a title, by its text
abbrev pub within_step : ScriptReader → List ℕ → Result ScriptReader LineCause
within_step s text = line_added s text (counted_of s.names s.lines text) (line_step s.names s.lines text)

-- ---- the observers

-- one observer more, behind the word of its line
unfoldable pub observer_step : ScriptReader → List ℕ → Result ScriptReader LineCause
observer_step s text = do
  count ← or_syntax (snapshots_reading text)
  if nat_le MOST_OBSERVERS (length s.observers) then Err (causes.Limit which.Observers) else Ok (record s { observers = s.observers ++ count ∷ []; place = Observing })

-- a line where a module's text may begin, or an observer stand
abbrev pub between_by : ScriptReader → ℕ → List ℕ → Option (List ℕ × List ℕ) → Result ScriptReader LineCause
between_by s number text None = title_step s number text
between_by s number text (Some parts) = if bytes_eq parts.0 (codes "observer") then observer_step s parts.1 else title_step s number text

-- a line behind an observer that begins no loader block and is not the end
abbrev pub observing_by : ScriptReader → Option (List ℕ × List ℕ) → Result ScriptReader LineCause
observing_by s None = Err causes.Syntax
observing_by s (Some parts) = if bytes_eq parts.0 (codes "observer") then observer_step s parts.1 else Err causes.Syntax

-- ---- the loader blocks

-- a command joins the last loader block
abbrev pub with_command : ScriptReader → ScriptCmd → ScriptReader
with_command s command = record s { loaders = onto_last s.loaders command }

-- what a load names that is not given is noted, unless something is noted already
abbrev pub noted : ScriptReader → ℕ → List ModRef → ScriptReader
noted s number refs = if list_all (is_among s.titles) refs then s else record s { unknown = or_else s.unknown (Some number) }

-- a load, as the line of this number
unfoldable pub load_step : ScriptReader → ℕ → List ℕ → Result ScriptReader LineCause
load_step s number text = do
  forms ← or_syntax (option_map (map ref_words) (refs_reading text))
  refs ← refs_named s.names forms
  Ok (with_command (noted (record s { names = refs.1 }) number refs.0) (Load refs.0))

-- a command of one atom, by its word
unfoldable pub atom_step : ScriptReader → List ℕ → List ℕ → Result ScriptReader LineCause
atom_step s word text = do
  command ← or_syntax (command_reading word)
  atom ← atom_named s.names text
  Ok (with_command (record s { names = atom.1 }) (command_of command (record { 0 = atom.0 })))

-- a put of a term under a key
unfoldable pub put_step : ScriptReader → List ℕ → Result ScriptReader LineCause
put_step s text = do
  form ← or_syntax (option_map put_words (put_reading text))
  x ← put_named s.names form
  Ok (with_command (record s { names = x.2 }) (Put (record { 0 = x.0 }) (term_of x.1)))

-- a breakpoint that is set or taken away
unfoldable pub trace_step : ScriptReader → List ℕ → Result ScriptReader LineCause
trace_step s text = do
  form ← or_syntax (option_map trace_words (trace_reading text))
  target ← trace_named s.names form
  Ok (with_command (record s { names = target.1 }) (Trace target.0 form.on))

-- a spawn
unfoldable pub spawn_step : ScriptReader → List ℕ → Result ScriptReader LineCause
spawn_step s text = do
  form ← or_syntax (option_map call_words (call_reading text))
  call ← call_named s.names form
  functions ← mfa_added s.functions call.0
  processes ← process_added s.processes
  Ok (with_command (record s { names = call.2; functions = functions; processes = processes }) (Spawn call.0 call.1))

-- a command, by its word
abbrev pub command_by : ScriptReader → ℕ → Option (List ℕ × List ℕ) → Result ScriptReader LineCause
command_by s number None = Err causes.Syntax
command_by s number (Some parts) =
    if bytes_eq parts.0 (codes "load") then load_step s number parts.1
    else (if bytes_eq parts.0 (codes "spawn") then spawn_step s parts.1
    else (if bytes_eq parts.0 (codes "trace") then trace_step s parts.1
    else (if bytes_eq parts.0 (codes "put") then put_step s parts.1 else atom_step s parts.0 parts.1)))

-- a line in the loader blocks that is not of one word
abbrev pub command_step : ScriptReader → ℕ → List ℕ → Result ScriptReader LineCause
command_step s number text = command_by s number (cut_at 32 text)

-- a line that begins a module's text, or is an observer or a command
abbrev pub keyed_step : ScriptReader → ℕ → List ℕ → Place → Result ScriptReader LineCause
keyed_step s number text Between = between_by s number text (cut_at 32 text)
keyed_step s number text Observing = observing_by s (cut_at 32 text)
keyed_step s number text place = command_step s number text

-- a line between module texts, or behind them
abbrev pub other_step : ScriptReader → ℕ → List ℕ → Result ScriptReader LineCause
other_step s number text =
    if bytes_eq text (codes "loader") then block_step s
    else (if bytes_eq text (codes "go") then end_step s else keyed_step s number text s.place)

-- ---- a line

-- the line of this number, by the place where it stands
abbrev pub line_at : ScriptReader → ℕ → List ℕ → Place → Result ScriptReader LineCause
line_at s number text Unread = head_step s text
line_at s number text Within = within_step s text
line_at s number text Finished = Err causes.Syntax
line_at s number text place = other_step s number text

-- what holds of what is known before the line of this number: where a module's text is open, it begins with its title, and that
-- has its number
abbrev pub IsCounted : ScriptReader → ℕ → Place → Type 0
IsCounted s number Within = IsTitled s.lines × (s.title + length s.lines ≡ number)
IsCounted s number place = Unit {0}

-- ---- the text

-- a line's fault has its number
abbrev pub at_line : ℕ → Result ScriptReader LineCause → Result ScriptReader ScriptFault
at_line number (Ok s) = Ok s
at_line number (Err cause) = Err (fault_at number cause)

-- the line of this number; the text goes on behind it, or ends
abbrev pub line_judged : ScriptReader → ℕ → Bool → List ℕ → Result ScriptReader ScriptFault
line_judged s number last text =
    if nat_lt LONGEST_LINE (length text) then Err (faults.LineTooLong number)
    else (if last && not (bytes_eq text (codes "go")) then Err (faults.Syntax number) else at_line number (line_at s number text s.place))

-- the script, where nothing that is named is lacking
abbrev pub script_known : ScriptReader → Option ℕ → Result Script ScriptFault
script_known s None = Ok (record { names = s.names; modules = s.modules; observers = s.observers; loaders = s.loaders })
script_known s (Some line) = Err (faults.UnknownName line)

-- the end of the text, by the place of the next line, which would have this number
abbrev pub ended_at : ScriptReader → ℕ → Place → Result Script ScriptFault
ended_at s number Finished = script_known s s.unknown
ended_at s number place = Err (faults.Syntax number)

-- the end of the text, with what stands behind the last line feed
abbrev pub text_ended : ScriptReader → ℕ → List ℕ → Result Script ScriptFault
text_ended s number tail =
    if nat_lt LONGEST_LINE (length tail) then Err (faults.LineTooLong number)
    else (if length tail == 0 then ended_at s number s.place else Err (faults.Syntax number))

-- what follows a line
abbrev pub go_on : Result ScriptReader ScriptFault → (ScriptReader → Result Script ScriptFault) → Result Script ScriptFault
go_on (Ok s) more = more s
go_on (Err fault) more = Err fault

-- the lines from the one of this number on
abbrev pub text_on : ScriptReader → ℕ → List (List ℕ) → List ℕ → Result Script ScriptFault
text_on s number [] tail = text_ended s number tail
text_on s number (text ∷ others) tail = go_on (line_judged s number (has_no_line others tail) text) (λ next. text_on next (number + 1) others tail)

-- the same for bytes
abbrev pub bytes_on : ScriptReader → ℕ → List ℕ → Result Script ScriptFault
bytes_on s number bytes = text_on s number (lines_of_text bytes).ended (lines_of_text bytes).tail

-- a whole text
abbrev pub script_reading : List ℕ → Result Script ScriptFault
script_reading text = if nat_lt LONGEST_SCRIPT (length text) then Err faults.FileTooLong else bytes_on opening 1 text
