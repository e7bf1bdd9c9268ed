-- Why a text is not read as a term. Each cause is said of the whole text; the code finds it byte by byte.
-- Source: this project's profile. The causes are tried in the order in which they stand here.
use Rattle.std.specs.Prelude.{◌≡◌, ℕ, ◌+◌, ◌<◌, ◌≤◌, ◌⊎◌, List, ◌++◌, length, take, Some}
use Rattle.term_core.specs.declared.names.TheConstants.{MOST_NAMES}
use Rattle.term_core.specs.declared.term_text.TheConstants.{MOST_WORDS}
use Rattle.term_core.specs.declared.term_fault.TermFault.{TermFault}
use Rattle.term_core.specs.declared.term_fault.TermFault.TheVariants.{Syntax, IntRange, TooLong, Names, NoMemory}
use Rattle.term_core.specs.PlainTerm.{term_words, atoms_of}
use Rattle.term_core.specs.Written.{WrittenTerm, written, HasLeafTexts, IntegersFit, outside_of}
use Rattle.term_core.specs.TermText.{names_with_all}

-- the text is that of this written term, whatever the size of its numbers
pub record IsTextOf (text : List ℕ) (form : WrittenTerm) : Type 0 where
  pub whole : text ≡ written form
  pub leaves : HasLeafTexts form

-- the text is a term's, with each integer in range
pub record IsReadable (text : List ℕ) : Type 0 where
  pub form : WrittenTerm
  pub is_text : IsTextOf text form
  pub fits : IntegersFit form

-- some text of a term, with numbers of any size, begins so
pub record BeginsTermText (front : List ℕ) : Type 0 where
  pub rest : List ℕ
  pub form : WrittenTerm
  pub is_text : IsTextOf (front ++ rest) form

-- the text is no term's, and this is the least place such that no term's text begins with the bytes up to it, or the text's length where it only stops too early
pub record SyntaxAt (text : List ℕ) (at : ℕ) : Type 0 where
  pub no_form : (form : WrittenTerm) → IsTextOf text form → ⊥
  pub goes_on : BeginsTermText (take at text)
  pub stops : (at ≡ length text) ⊎ ((at < length text) × (BeginsTermText (take (at + 1) text) → ⊥))

-- the text is a term's but for a number out of range, the leftmost of which begins here
pub record RangeAt (text : List ℕ) (at : ℕ) : Type 0 where
  pub form : WrittenTerm
  pub is_text : IsTextOf text form
  pub first : outside_of form ≡ Some at

-- the text is that of a term of too many words
pub record IsTooLong (text : List ℕ) : Type 0 where
  pub form : WrittenTerm
  pub is_text : IsTextOf text form
  pub fits : IntegersFit form
  pub long : MOST_WORDS < term_words form

-- the text is that of a term whose new atoms are too many for the table
pub record OverfillsNames (names : List (List ℕ)) (text : List ℕ) : Type 0 where
  pub form : WrittenTerm
  pub is_text : IsTextOf text form
  pub fits : IntegersFit form
  pub short : term_words form ≤ MOST_WORDS
  pub over : MOST_NAMES < length (names_with_all names (atoms_of form))

-- what each fault says of a text, under the names before
abbrev pub HasCause : List (List ℕ) → List ℕ → TermFault → Type 0
HasCause names text (Syntax at) = SyntaxAt text at
HasCause names text (IntRange at) = RangeAt text at
HasCause names text TooLong = IsTooLong text
HasCause names text Names = OverfillsNames names text
HasCause names text NoMemory = Unit {0}
