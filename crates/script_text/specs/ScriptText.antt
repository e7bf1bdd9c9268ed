-- The text of a script, and the one fault of every other text: relations on whole texts.
-- Source: this project's script text. The definitions take the lines of the whole text; the code reads line after line.
use Rattle.std.specs.Prelude.{◌≡◌, ℕ, ◌+◌, ◌<◌, ◌≤◌, ◌⊎◌, List, [], map, length, take, slice_get, Some, None, Ok, Err, IsTrue, codes}
use Rattle.std.specs.List.{AllByRecursion}
use Rattle.term_core.specs.Text.Parts.{lines_of_text, all_lines}
use Rattle.script_core.specs.declared.script.TheConstants.{LONGEST_SCRIPT, LONGEST_LINE}
use Rattle.script_core.specs.declared.script.Script.{Script}
use Rattle.script_text.specs.declared.fault.ScriptFault.{ScriptFault}
use Rattle.script_text.specs.declared.fault.ScriptFault.TheVariants as faults
use Rattle.script_text.specs.declared.reading.cause.LineCause.{LineCause}
use Rattle.script_text.specs.declared.reading.cause.LineCause.TheVariants as causes
use Rattle.script_text.specs.declared.reading.reader.Place.TheVariants.{Finished}
use Rattle.script_text.specs.ScriptLine.{ScriptLine, script_line_written, is_script_line, IsLine}
use Rattle.script_text.specs.LineStep.{Known, opening, step, steps, script_of}

-- a line is at most 4,096 bytes long
abbrev pub IsShort : ScriptLine → Type 0
IsShort line = length (script_line_written line) ≤ LONGEST_LINE

-- the texts are those of these lines, none is refused, and this is known with them
pub record AreLines (texts : List (List ℕ)) (lines : List ScriptLine) (known : Known) : Type 0 where
  pub written : texts ≡ map script_line_written lines
  pub sound : AllByRecursion (λ line. IsTrue (is_script_line line)) lines
  pub short : AllByRecursion IsShort lines
  pub known_is : steps opening 1 lines ≡ Ok known

-- the lines of a whole script, and what is known with them: `go` is the last, and nothing stands behind it
pub record AreAllLines (text : List ℕ) (lines : List ScriptLine) (known : Known) : Type 0 where
  pub short : length text ≤ LONGEST_SCRIPT
  pub lines_are : AreLines (lines_of_text text).ended lines known
  pub nothing_more : (lines_of_text text).tail ≡ []
  pub finished : known.place ≡ Finished

-- the bytes are the text of this script: none of its lines is refused, each module that is loaded is given, each label and each
-- function that is called in its module is there, and the script is what is known then
pub record ScriptText (text : List ℕ) (s : Script) : Type 0 where
  pub lines : List ScriptLine
  pub known : Known
  pub whole : AreAllLines text lines known
  pub found : known.unknown ≡ None
  pub value : s ≡ script_of known

-- this is the text of a line of the script, ended or not; none of the lines before it is refused, and this is known with them
pub record Reaches (text : List ℕ) (before : List ScriptLine) (known : Known) (line : List ℕ) : Type 0 where
  pub short : length text ≤ LONGEST_SCRIPT
  pub before_are : AreLines (take (length before) (lines_of_text text).ended) before known
  pub line_at : slice_get (all_lines text) (length before) ≡ Some line

-- why a line of at most 4,096 bytes is no line of a script at its place: it has no line feed; or the text ends with it, and it
-- does not end the script; or, whatever its form, it may not stand there
abbrev pub IsMisplaced : List ℕ → List ScriptLine → Known → List ℕ → Type 0
IsMisplaced text before known line =
    (length (lines_of_text text).ended ≡ length before)
    ⊎ (((length (all_lines text) ≡ length before + 1) × (line ≡ codes "go" → ⊥))
    ⊎ ((form : ScriptLine) → IsLine line form → step known (length before + 1) form ≡ Err causes.Syntax))

-- a line behind lines that are not refused that is too long
pub record TooLongAt (text : List ℕ) (number : ℕ) : Type 0 where
  pub before : List ScriptLine
  pub known : Known
  pub line : List ℕ
  pub reached : Reaches text before known line
  pub number_is : number ≡ length before + 1
  pub long : LONGEST_LINE < length line

-- a line behind lines that are not refused that is no line of a script there
pub record MisplacedAt (text : List ℕ) (number : ℕ) : Type 0 where
  pub before : List ScriptLine
  pub known : Known
  pub line : List ℕ
  pub reached : Reaches text before known line
  pub number_is : number ≡ length before + 1
  pub short : length line ≤ LONGEST_LINE
  pub misplaced : IsMisplaced text before known line

-- a line behind lines that are not refused, with others behind it, that is refused for this cause
pub record FaultyAt (text : List ℕ) (number : ℕ) (cause : LineCause) : Type 0 where
  pub before : List ScriptLine
  pub known : Known
  pub line : List ℕ
  pub reached : Reaches text before known line
  pub number_is : number ≡ length before + 1
  pub short : length line ≤ LONGEST_LINE
  pub more : length before + 1 < length (all_lines text)
  pub ended : length before < length (lines_of_text text).ended
  pub form : ScriptLine
  pub form_is : IsLine line form
  pub cause_is : step known (length before + 1) form ≡ Err cause

-- no line is refused, and this is the first that names what is not there
pub record UnknownAt (text : List ℕ) (number : ℕ) : Type 0 where
  pub lines : List ScriptLine
  pub known : Known
  pub whole : AreAllLines text lines known
  pub first : known.unknown ≡ Some number

-- the text is that of no script, and this is its fault
abbrev pub FaultOf : List ℕ → ScriptFault → Type 0
FaultOf text faults.FileTooLong = LONGEST_SCRIPT < length text
FaultOf text (faults.LineTooLong number) = TooLongAt text number
FaultOf text (faults.Syntax number) = ((text ≡ []) × (number ≡ 1)) ⊎ MisplacedAt text number
FaultOf text (faults.UnknownName number) = UnknownAt text number
FaultOf text (faults.Duplicate number) = FaultyAt text number causes.Duplicate
FaultOf text (faults.Limit number which) = FaultyAt text number (causes.Limit which)
FaultOf text faults.NoMemory = ⊥
