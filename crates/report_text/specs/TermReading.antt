-- How terms, functions and calls of a report's line are read.
-- Source: this project's report text. The texts stand in run_log; laws say that both agree.
use Rattle.std.specs.Prelude.{ℕ, ◌&&◌, not, nat_le, Bool, List, [], ◌∷◌, length, Option, Some, None, bytes_eq, if◌then◌else◌}
use Rattle.term_core.specs.declared.atom.AtomId.{AtomId}
use Rattle.term_core.specs.declared.atom.Mfa.{Mfa}
use Rattle.term_core.specs.declared.term_text.TheConstants.{MOST_WORDS}
use Rattle.term_core.specs.PlainTerm.{PlainTerm}
use Rattle.term_core.specs.TermForms.{is_term_text, is_wide_text, term_in, text_words}
use Rattle.term_core.specs.TermParts.{parts_of_terms}
use Rattle.mod_core.specs.declared.code.TheConstants.{MOST_ARGUMENTS}
use Rattle.term_core.specs.Text.Steps.{◌>>=◌}
use Rattle.term_core.specs.Text.Cuts.{cut_at}
use Rattle.term_core.specs.Text.Parts.{each_reading}
use Rattle.mod_text.specs.LineReading.{arity_reading}
pub use Rattle.mod_text.specs.Sides.{sided, paired, ended_reading, behind}
use Rattle.run_log.specs.Report.{plain_text}
use Rattle.report_text.specs.declared.terms.Call.{Call}
use Rattle.report_text.specs.WordReading.{atom_reading}

-- whether a text is that of a term of at most 64 words, with integers of 60 bits
abbrev pub is_short_text : List ℕ → Bool
is_short_text text = is_term_text text && (not (is_wide_text text) && nat_le (text_words text) MOST_WORDS)

-- the term that a text says, where it has just this text: else an atom has no name
abbrev pub named_term : List (List ℕ) → List ℕ → PlainTerm → Option PlainTerm
named_term names text term = if bytes_eq (plain_text names term) text then Some term else None

-- a term whose atoms have names
abbrev pub plain_reading : List (List ℕ) → List ℕ → Option PlainTerm
plain_reading names text = if is_short_text text then named_term names text (term_in names text) else None

-- terms with commas between them, at least one
abbrev pub some_terms : List (List ℕ) → List ℕ → Option (List PlainTerm)
some_terms names text = if nat_le (length (parts_of_terms text)) MOST_ARGUMENTS then each_reading (plain_reading names) (parts_of_terms text) else None

-- the arguments of a call
abbrev pub terms_reading : List (List ℕ) → List ℕ → Option (List PlainTerm)
terms_reading names [] = Some []
terms_reading names (c ∷ text) = some_terms names (c ∷ text)

-- the arguments in front of a bracket that ends the text
abbrev pub closed_reading : List (List ℕ) → List ℕ → Option (List PlainTerm)
closed_reading names text = cut_at 41 text >>= λ sides. ended_reading (terms_reading names) sides

-- a name and an arity
abbrev pub arity_part : List (List ℕ) → List ℕ → Option (AtomId × ℕ)
arity_part names text = paired 47 (atom_reading names) arity_reading text

-- a function
abbrev pub function_reading : List (List ℕ) → List ℕ → Option Mfa
function_reading names text = paired 58 (atom_reading names) (arity_part names) text >>= λ p. Some (record { «module» = p.0; name = p.1.0; arity = p.1.1 })

-- a name and arguments
abbrev pub arguments_part : List (List ℕ) → List ℕ → Option (AtomId × List PlainTerm)
arguments_part names text = paired 40 (atom_reading names) (closed_reading names) text

-- a call, whose arity is the number of its arguments
abbrev pub call_reading : List (List ℕ) → List ℕ → Option Call
call_reading names text = paired 58 (atom_reading names) (arguments_part names) text >>= λ p. Some (record { target = record { «module» = p.0; name = p.1.0; arity = length p.1.1 }; args = p.1.1 })
