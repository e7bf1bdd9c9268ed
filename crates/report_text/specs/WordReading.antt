-- How the words of a report's line are read: numbers within their bounds, and atoms that have a name.
-- Source: this project's report text. The texts of words stand in run_log; laws say that both agree.
use Rattle.std.specs.Prelude.{◌≡◌, ℕ, ◌==◌, List, [], ◌∷◌, Option, Some, None, Result, Ok, Err, option_map, if◌then◌else◌}
use Rattle.term_core.specs.declared.atom.AtomId.{AtomId}
use Rattle.term_core.specs.Names.{number_of}
use Rattle.term_core.specs.Text.Cuts.{with_first}
use Rattle.report_text.specs.declared.line_fault.LineFault.{LineFault}
use Rattle.report_text.specs.declared.line_fault.LineFault.TheVariants.{Form, NoMemory}

-- what was answered, seen by view, is what is read; nothing is read where the form is refused; want of memory is free
abbrev pub ReadsWord : {X A : Type 0} → (X → A) → Result X LineFault → Option A → Type 0
ReadsWord view (Ok x) read = read ≡ Some (view x)
ReadsWord view (Err Form) read = read ≡ None
ReadsWord view (Err NoMemory) read = Unit {0}

-- the two sides of a byte, if there is one further on; else of this byte, if it is the one
abbrev pub cut_or : ℕ → ℕ → List ℕ → Option (List ℕ × List ℕ) → Option (List ℕ × List ℕ)
cut_or byte b bs (Some later) = Some (with_first b later)
cut_or byte b bs None = if b == byte then Some ([], bs) else None

-- what stands before and behind the last such byte, if there is one
abbrev pub cut_last : ℕ → List ℕ → Option (List ℕ × List ℕ)
cut_last byte [] = None
cut_last byte (b ∷ bs) = cut_or byte b bs (cut_last byte bs)

-- the atom of a number
abbrev pub atom_numbered : ℕ → AtomId
atom_numbered number = record { 0 = number }

-- an atom that has a name
abbrev pub atom_reading : List (List ℕ) → List ℕ → Option AtomId
atom_reading names text = option_map atom_numbered (number_of names text)
