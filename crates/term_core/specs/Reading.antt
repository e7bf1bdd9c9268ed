-- The order in which the code judges a text: its syntax, the range of its integers, its words, its new names.
-- A law says that it is read as a term exactly where the grammar has it, and refused with a fault exactly where that fault has its cause.
use Rattle.std.specs.Prelude.{◌≡◌, ◌⊎◌, ℕ, false, nat_lt, if◌then◌else◌, List, [], length, Option, None, Some, Result, Ok, Err}
use Rattle.term_core.specs.declared.names.NameFault.{NameFault}
use Rattle.term_core.specs.declared.names.NameFault.TheVariants.{Full, NoMemory}
use Rattle.term_core.specs.declared.names.TheConstants.{MOST_NAMES}
use Rattle.term_core.specs.declared.term.Term.{Term}
use Rattle.term_core.specs.declared.term_fault.TermFault.{TermFault}
use Rattle.term_core.specs.declared.term_fault.TermFault.TheVariants as faults
use Rattle.term_core.specs.declared.term_text.TheConstants.{MOST_WORDS}
use Rattle.term_core.specs.Plain.{term_of}
use Rattle.term_core.specs.PlainTerm.{PlainTerm}
use Rattle.term_core.specs.Scanning.{at_start, syntax_fault}
use Rattle.term_core.specs.TermText.{names_with_all, number_in}
use Rattle.term_core.specs.Tokens.{tokens_in, starts, atoms_among, built, outside_at}
use Rattle.term_core.specs.Tops.{top_of}
use Rattle.term_core.specs.Written.{integer_of}

-- the fault of a text whose atom got no number
abbrev pub term_fault_of : NameFault → TermFault
term_fault_of Full = faults.Names
term_fault_of NoMemory = faults.NoMemory

-- a term and the names after it, or why there is none
abbrev pub TermOutcome : Type 0
TermOutcome = Result (Term × List (List ℕ)) TermFault

-- first the place of the first byte with which no term's text goes on
abbrev pub judge_syntax : Option ℕ → TermOutcome → TermOutcome
judge_syntax (Some at) later = Err (faults.Syntax at)
judge_syntax None later = later

-- then that of the leftmost integer out of range
abbrev pub judge_range : Option ℕ → TermOutcome → TermOutcome
judge_range (Some at) later = Err (faults.IntRange at)
judge_range None later = later

-- then the number of words
abbrev pub judge_length : ℕ → TermOutcome → TermOutcome
judge_length words later = if nat_lt MOST_WORDS words then Err faults.TooLong else later

-- then the number of names
abbrev pub judge_names : List (List ℕ) → TermOutcome → TermOutcome
judge_names after later = if nat_lt MOST_NAMES (length after) then Err faults.Names else later

-- then there is a term; no other text comes so far
abbrev pub read_as : Option PlainTerm → List (List ℕ) → TermOutcome
read_as (Some term) after = Ok (term_of term, after)
read_as None after = Err faults.NoMemory

-- the names after a text
abbrev pub names_after_text : List (List ℕ) → List ℕ → List (List ℕ)
names_after_text names text = names_with_all names (atoms_among (tokens_in false text))

-- what a text is read as, under the names before
abbrev pub term_reading : List (List ℕ) → List ℕ → TermOutcome
term_reading names text =
    judge_syntax (syntax_fault at_start text) (judge_range (outside_at false text) (judge_length (starts (tokens_in false text)) (judge_names (names_after_text names text)
    (read_as (top_of (built integer_of (number_in (names_after_text names text)) (tokens_in false text) [] [])) (names_after_text names text)))))

-- the result is what a text is read as, with the names after it, or want of memory
abbrev pub ReadsAs : TermOutcome → Result Term TermFault → List (List ℕ) → Type 0
ReadsAs reading (Ok term) after = reading ≡ Ok (term, after)
ReadsAs reading (Err fault) after = (reading ≡ Err fault) ⊎ (fault ≡ faults.NoMemory)
