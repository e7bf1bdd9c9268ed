-- The order in which the lines of a module's text are read and judged. The relation of whole texts and modules, in ModuleText, is
-- shown to agree with it.
use Rattle.std.specs.Prelude.{◌≡◌, ℕ, ◌==◌, ◌&&◌, not, Bool, true, false, List, [], ◌∷◌, ◌++◌, length, Option, Some, None, Result, Ok, Err, bytes_eq, codes, if◌then◌else◌}
use Rattle.term_core.specs.Text.Cuts.{lines, lines_of_text}
use Rattle.mod_text.specs.declared.fault.LineFault.{LineFault}
use Rattle.mod_text.specs.declared.fault.LineFault.TheVariants as faults
use Rattle.mod_text.specs.declared.fault.LineStop.{LineStop}
use Rattle.mod_text.specs.ModuleLine.{LineForm}
use Rattle.mod_text.specs.LineFaults.{may_follow, last_line, names_after, fault_of_line}
use Rattle.mod_text.specs.LineReading.{line_reading}

-- the names and the lines after one line more, or its fault
abbrev pub Step : Type 0
Step = Result (List (List ℕ) × List LineForm) LineFault

-- a line that passes no limit stands behind the others, and its atoms are named
abbrev pub kept : List (List ℕ) → List LineForm → LineForm → Option LineFault → Step
kept names lines line None = Ok (names_after names line, lines ++ line ∷ [])
kept names lines line (Some fault) = Err fault

-- a line is judged by its place, and then by its limits
abbrev pub judged : List (List ℕ) → List LineForm → Option LineForm → Step
judged names lines None = Err faults.Syntax
judged names lines (Some line) = if may_follow (last_line lines) line then kept names lines line (fault_of_line names lines line) else Err faults.Syntax

-- what a text is as the next line
abbrev pub line_step : List (List ℕ) → List LineForm → List ℕ → Step
line_step names lines text = judged names lines (line_reading text)

-- a refusal is that of the reading; want of memory is free
abbrev pub Fails : {A : Type 0} → Result A LineFault → LineFault → Type 0
Fails step faults.NoMemory = Unit {0}
Fails step fault = step ≡ Err fault

-- what was answered, seen by view, is what is read, or its fault, unless memory was refused
abbrev pub Gives : {X A : Type 0} → (X → A) → Result X LineFault → Result A LineFault → Type 0
Gives view (Ok x) step = step ≡ Ok (view x)
Gives view (Err fault) step = Fails step fault

-- ---- lines of a text

-- ---- whole texts

-- the names and the lines of a text, or the number and the fault of its first faulty line
abbrev pub Read : Type 0
Read = Result (List (List ℕ) × List LineForm) LineStop

-- the reading stops at the line of this number, with this fault
abbrev pub stop_at : ℕ → LineFault → Read
stop_at number fault = Err (record { number = number; fault = fault })

-- nothing is left
abbrev pub has_no_line : List (List ℕ) → List ℕ → Bool
has_no_line [] [] = true
has_no_line [] (b ∷ tail) = false
has_no_line (line ∷ others) tail = false

-- what follows a line that was judged as the one of this number
abbrev pub go_on : ℕ → Step → (List (List ℕ) → List LineForm → Read) → Read
go_on number (Ok x) more = more x.0 x.1
go_on number (Err fault) more = stop_at number fault

-- the lines of a text, behind those so far: the text stops behind `end`, and behind no other line
abbrev pub text_on : List (List ℕ) → List LineForm → List (List ℕ) → List ℕ → Read
text_on names before [] tail = stop_at (length before) faults.Syntax
text_on names before (text ∷ others) tail =
    if has_no_line others tail && not (bytes_eq text (codes "end")) then stop_at (length before) faults.Syntax
    else go_on (length before) (line_step names before text) (λ named read. if has_no_line others tail then Ok (named, read) else text_on named read others tail)

-- the lines of a text, behind those so far
abbrev pub bytes_on : List (List ℕ) → List LineForm → List ℕ → Read
bytes_on names before bytes = text_on names before (lines_of_text bytes).ended (lines_of_text bytes).tail

-- a text is read to its end, or goes on so
abbrev pub read_behind : List (List ℕ) → List LineForm → List ℕ → Read
read_behind named read behind = if length behind == 0 then Ok (named, read) else bytes_on named read behind

-- a fact of each fault but want of memory, which is free
abbrev pub UnlessNoMemory : LineFault → Type 0 → Type 0
UnlessNoMemory faults.NoMemory P = Unit {0}
UnlessNoMemory _ P = P

-- the reading stops so
abbrev pub StopsSo : Read → LineStop → Type 0
StopsSo read stop = UnlessNoMemory stop.fault (read ≡ Err stop)
