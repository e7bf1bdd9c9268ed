-- What is known of a script after some of its lines, and what the next line adds to it, or why it is refused: one step for each line.
-- Source: this project's script text. The text of a module is judged line by line as in mod_text; what is known is what the reader shows.
use Rattle.std.specs.Prelude.{ℕ, ◌+◌, nat_lt, nat_le, Bool, true, false, List, [], ◌∷◌, ◌++◌, length, map, fold, Option, Some, None, Result, Ok, Err, if◌then◌else◌}
use Rattle.std.specs.List.{list_all}
use Rattle.term_core.specs.declared.atom.Mfa.{Mfa}
use Rattle.term_core.specs.declared.names.TheConstants.{MOST_NAMES}
use Rattle.term_core.specs.Names.{given_names}
use Rattle.term_core.specs.TermText.{names_with_all}
use Rattle.term_core.specs.Text.Numbers.{number_value}
use Rattle.mod_text.specs.declared.fault.LineFault.{LineFault}
use Rattle.mod_text.specs.declared.fault.LineFault.TheVariants as line_faults
use Rattle.mod_text.specs.ModuleLine.{LineForm, title, end}
use Rattle.mod_text.specs.LineFaults.{last_line, counted_name}
use Rattle.mod_text.specs.ModuleValue.{atom_in, module_of, unsettled_line, earlier as or_else}
use Rattle.mod_text.specs.Reading.{Step, judged}
use Rattle.server_core.specs.declared.command.ModRef.{ModRef}
use Rattle.script_core.specs.declared.script.TheConstants.{MOST_LOADERS, MOST_PROCESSES, MOST_OBSERVERS}
use Rattle.script_core.specs.declared.script.Script.{Script}
use Rattle.script_text.specs.declared.fault.Which.TheVariants as which
use Rattle.script_text.specs.declared.reading.cause.LineCause.{LineCause}
use Rattle.script_text.specs.declared.reading.cause.LineCause.TheVariants as causes
use Rattle.script_text.specs.declared.reading.reader.Place.{Place}
use Rattle.script_text.specs.declared.reading.reader.Place.TheVariants.{Unread, Between, Within, Observing, Loading, Finished}
use Rattle.script_text.specs.declared.reading.reader.ScriptReader.{ScriptReader}
use Rattle.script_text.specs.ScriptLine.{RefForm, ScriptLine, head, code, observer, loader, load, spawn, go}
use Rattle.script_text.specs.Groups.{onto_last}
use Rattle.script_text.specs.Counts.{script_line_atoms}
use Rattle.script_text.specs.ScriptValue.{ref_in, commands_on}
use Rattle.script_text.specs.LineFaults.{is_wide, is_long}
use Rattle.script_text.specs.Causes.{◌>>=◌, cause_of_code}
use Rattle.script_text.specs.Sets.{is_among, ref_added}
use Rattle.script_text.specs.Adding.{counted_added, passes_counted}

-- what is known: names, modules, titles, functions, observers, loader blocks, the number of processes, the lines of the module's text
-- that is open with the number of its title, where the next line stands, and the first line that names what is not there
abbrev pub Known : Type 0
Known = ScriptReader

-- what is known before the first line
abbrev pub opening : Known
opening =
    record {
      names = given_names;
      modules = [];
      titles = [];
      functions = [];
      observers = [];
      loaders = [];
      processes = 0;
      lines = [];
      title = 0;
      place = Unread;
      unknown = None;
    }

-- ---- module texts

-- a step with the cause of a script's line
abbrev pub by_code : Step → Result (List (List ℕ) × List LineForm) LineCause
by_code (Ok x) = Ok x
by_code (Err fault) = Err (cause_of_code fault)

-- a title that is read, as the line of this number: no text of its module and version was given
abbrev pub step_titled : Known → ℕ → RefForm → List (List ℕ) × List LineForm → Result Known LineCause
step_titled s number r x = ref_added s.titles (ref_in x.0 r) >>= λ titles. Ok (record s { names = x.0; lines = x.1; titles = titles; title = number; place = Within })

-- the title of a module's text, as the line of this number
abbrev pub step_title : Known → ℕ → RefForm → Result Known LineCause
step_title s number r = by_code (judged s.names s.lines (Some (title r.name r.version))) >>= step_titled s number r

-- whether the line is the end of a module's text
abbrev pub is_text_end : Option LineForm → Bool
is_text_end (Some end) = true
is_text_end last = false

-- a module's text is closed: its module, or the first line that names what is not there
abbrev pub closed_by : Known → Option ℕ → Known
closed_by s None = record s { modules = s.modules ++ module_of s.names s.lines ∷ []; lines = []; place = Between }
closed_by s (Some place) = record s { unknown = or_else s.unknown (Some (s.title + place)); lines = []; place = Between }

-- the text that is open is closed where its last line is the end
abbrev pub text_closed : Known → Known
text_closed s = if is_text_end (last_line s.lines) then closed_by s (unsettled_line s.lines) else s

-- why a line is refused that gives something again: its function, if it has one, may be one too many besides
abbrev pub repeat_cause : List Mfa → Option Mfa → LineCause
repeat_cause fs f = if passes_counted fs f then causes.Limit which.Exports else causes.Duplicate

-- why a line behind a title is refused; before is the function that it would name if it is given again
abbrev pub code_cause : List Mfa → Option Mfa → LineFault → LineCause
code_cause functions before line_faults.Duplicate = repeat_cause functions before
code_cause functions before fault = cause_of_code fault

-- the line that was read last is counted, and closes its text where it is the end
abbrev pub code_counted : Known → LineForm → Result Known LineCause
code_counted s line = counted_added s.functions (counted_name s.names s.lines line) >>= λ functions. Ok (text_closed (record s { functions = functions }))

-- a line behind a title, as its text judges it
abbrev pub code_judged : Known → LineForm → Step → Result Known LineCause
code_judged s line (Ok x) = code_counted (record s { names = x.0; lines = x.1 }) line
code_judged s line (Err fault) = Err (code_cause s.functions (counted_name s.names s.lines line) fault)

-- a line behind a title
abbrev pub step_code : Known → LineForm → Result Known LineCause
step_code s line = code_judged s line (judged s.names s.lines (Some line))

-- ---- observers, loader blocks, the end

-- one observer more, which takes so many snapshots
abbrev pub step_observer : Known → ℕ → Result Known LineCause
step_observer s count = if nat_le MOST_OBSERVERS (length s.observers) then Err (causes.Limit which.Observers) else Ok (record s { observers = s.observers ++ count ∷ []; place = Observing })

-- one loader block more
abbrev pub block_step : Known → Result Known LineCause
block_step s = if nat_le MOST_LOADERS (length s.loaders) then Err (causes.Limit which.Loaders) else Ok (record s { loaders = s.loaders ++ [] ∷ []; place = Loading })

-- the script's end
abbrev pub end_step : Known → Result Known LineCause
end_step s = Ok (record s { place = Finished })

-- ---- commands

-- the names with those of a line, where the table has room for all of them
abbrev pub names_added : List (List ℕ) → ScriptLine → Result (List (List ℕ)) LineCause
names_added names line = if nat_lt MOST_NAMES (length (names_with_all names (script_line_atoms line))) then Err (causes.Limit which.Names) else Ok (names_with_all names (script_line_atoms line))

-- the function that a line spawns, if it does
abbrev pub spawned_in : List (List ℕ) → ScriptLine → Option Mfa
spawned_in names (spawn «module» name args) = Some (record { «module» = atom_in names «module»; name = atom_in names name; arity = length args })
spawned_in names line = None

-- one process more
abbrev pub process_added : ℕ → Result ℕ LineCause
process_added processes = if nat_le MOST_PROCESSES processes then Err (causes.Limit which.Processes) else Ok (processes + 1)

-- the processes with that of a line
abbrev pub processes_with : ℕ → ScriptLine → Result ℕ LineCause
processes_with processes (spawn «module» name args) = process_added processes
processes_with processes line = Ok processes

-- whether a line loads only what is given
abbrev pub loads_given : List ModRef → List (List ℕ) → ScriptLine → Bool
loads_given titles names (load refs) = list_all (is_among titles) (map (ref_in names) refs)
loads_given titles names line = true

-- a command that is done behind these names, as the line of this number: what it loads is given, or it is noted, unless something is
abbrev pub step_named : Known → ℕ → ScriptLine → List (List ℕ) → Result Known LineCause
step_named s number line names = do
  functions ← counted_added s.functions (spawned_in names line)
  processes ← processes_with s.processes line
  Ok (record s { names = names; functions = functions; processes = processes; loaders = fold onto_last s.loaders (commands_on names line); unknown = if loads_given s.titles names line then s.unknown else or_else s.unknown (Some number) })

-- a command, as the line of this number
abbrev pub step_command : Known → ℕ → ScriptLine → Result Known LineCause
step_command s number line =
    if is_wide line then Err (causes.Limit which.Integer)
    else (if is_long line then Err (causes.Limit which.Term)
    else names_added s.names line >>= step_named s number line)

-- ---- a line

-- the head
abbrev pub step_head : Known → ScriptLine → Result Known LineCause
step_head s head = Ok (record s { place = Between })
step_head s line = Err causes.Syntax

-- behind a title
abbrev pub step_within : Known → ScriptLine → Result Known LineCause
step_within s (code line) = step_code s line
step_within s line = Err causes.Syntax

-- behind an observer: an observer, the start of a loader block, or the end
abbrev pub step_observing : Known → ScriptLine → Result Known LineCause
step_observing s (observer count) = step_observer s (number_value count)
step_observing s loader = block_step s
step_observing s go = end_step s
step_observing s line = Err causes.Syntax

-- where a module's text may begin: a title besides
abbrev pub step_between : Known → ℕ → ScriptLine → Result Known LineCause
step_between s number (code (title name version)) = step_title s number (record { name = name; version = version })
step_between s number line = step_observing s line

-- in the loader blocks
abbrev pub step_loading : Known → ℕ → ScriptLine → Result Known LineCause
step_loading s number head = Err causes.Syntax
step_loading s number (code line) = Err causes.Syntax
step_loading s number (observer count) = Err causes.Syntax
step_loading s number loader = block_step s
step_loading s number go = end_step s
step_loading s number line = step_command s number line

-- the line of this number, by the place where it stands: the head first, then module texts, then observers, then loader blocks, then
-- `go`, and nothing more
abbrev pub step_at : Known → ℕ → Place → ScriptLine → Result Known LineCause
step_at s number Unread line = step_head s line
step_at s number Between line = step_between s number line
step_at s number Within line = step_within s line
step_at s number Observing line = step_observing s line
step_at s number Loading line = step_loading s number line
step_at s number Finished line = Err causes.Syntax

-- what is known with the line of this number
abbrev pub step : Known → ℕ → ScriptLine → Result Known LineCause
step s number line = step_at s number s.place line

-- what is known with lines, of which the first has this number
abbrev pub steps : Known → ℕ → List ScriptLine → Result Known LineCause
steps s number [] = Ok s
steps s number (line ∷ lines) = step s number line >>= λ known. steps known (number + 1) lines

-- ---- a script

-- the script that is known
abbrev pub script_of : Known → Script
script_of s = record { names = s.names; modules = s.modules; observers = s.observers; loaders = s.loaders }
