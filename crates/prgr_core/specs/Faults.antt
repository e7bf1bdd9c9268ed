-- The first line of another form, said of whole texts: the lines before it begin the text of a list of events, and
-- no such text goes on with it. Reading.antt finds it line by line.
use Rattle.std.specs.Prelude.{◌≡◌, ℕ, ◌+◌, ◌-◌, ◌<◌, ◌≤◌, max, ◌⊎◌, List, [], ◌∷◌, length, take}
use Rattle.prgr_core.specs.declared.event.Events.{Events}
use Rattle.prgr_core.specs.declared.fault.EventFault.{EventFault}
use Rattle.prgr_core.specs.declared.fault.EventFault.TheVariants as faults
use Rattle.prgr_core.specs.EventText.{line_then, EventText}
use Rattle.prgr_core.specs.Reading.{LinesOfEvents, event_lines_of}

-- the bytes of these lines, each with its line feed, and then these
abbrev pub joined : List (List ℕ) → List ℕ → List ℕ
joined [] rest = rest
joined (line ∷ others) rest = line_then line (joined others rest)

-- the text of some list of events begins with these lines
abbrev pub Opens : List (List ℕ) → Type 0
Opens lines = (events : Events) × (rest : List ℕ) × EventText (joined lines rest) events

-- no text of a list of events begins with the lines up to this one
abbrev pub IsOfNoForm : LinesOfEvents → ℕ → Type 0
IsOfNoForm text line = (line ≤ length text.ended) × (Opens (take line text.ended) → ⊥)

-- this last line has no line feed
abbrev pub IsUnended : LinesOfEvents → ℕ → Type 0
IsUnended text line = (line ≡ length text.ended + 1) × (0 < length text.tail)

-- each line is of the form, and this is the last, or line 1 where there is none
abbrev pub IsLast : LinesOfEvents → ℕ → Type 0
IsLast text line = (line ≡ max 1 (length text.ended)) × (length text.tail ≡ 0) × Opens text.ended

-- this is the first line of another form
pub record IsFirstFault (text : List ℕ) (line : ℕ) : Type 0 where
  pub counted : 1 ≤ line
  pub before : Opens (take (line - 1) (event_lines_of text).ended)
  pub fault : IsOfNoForm (event_lines_of text) line ⊎ (IsUnended (event_lines_of text) line ⊎ IsLast (event_lines_of text) line)

-- the fault of a text names its first line of another form
abbrev pub IsFaultOf : List ℕ → EventFault → Type 0
IsFaultOf text (faults.Syntax line) = IsFirstFault text line
IsFaultOf text faults.NoMemory = Unit {0}
