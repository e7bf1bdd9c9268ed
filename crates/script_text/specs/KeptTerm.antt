-- A term of a line as the code keeps it: an integer by its value, and any other by its text.
use Rattle.std.specs.Prelude.{ℤ, Bool, true, List, ℕ, Option, Some, None, if◌then◌else◌}
use Rattle.term_core.specs.PlainTerm.{integer_leaf, atom_leaf, tuple_of, list_of}
use Rattle.term_core.specs.TermForms.{is_term_text}
use Rattle.term_core.specs.Written.{WrittenTerm, written, integer_of, is_term_integer}
use Rattle.script_text.specs.declared.reading.written.WrittenArgument.{WrittenArgument}
use Rattle.script_text.specs.declared.reading.written.WrittenArgument.TheVariants as kept

-- the integer that a text says, where it is a term's
abbrev pub term_integer : List ℕ → Option ℤ
term_integer text = if is_term_integer (integer_of text) then Some (integer_of text) else None

-- an argument: an integer, if it is a term's, or the text of an atom, or that of a tuple or a list
pub data ArgumentWords : Type 0 where
  integer : Option ℤ → ArgumentWords
  atom : List ℕ → ArgumentWords
  complex : List ℕ → ArgumentWords

-- a written term, as the reader keeps its words
abbrev pub argument_words : WrittenTerm → ArgumentWords
argument_words (integer_leaf text) = integer (term_integer text)
argument_words (atom_leaf text) = atom text
argument_words (tuple_of row) = complex (written (tuple_of row))
argument_words (list_of row) = complex (written (list_of row))

-- what the reader kept of a term
abbrev pub kept_argument : WrittenArgument → ArgumentWords
kept_argument (kept.Integer value) = integer value
kept_argument (kept.Atom text) = atom text.now
kept_argument (kept.Complex text) = complex text.now

-- whether the text of a tuple or a list is a term's
abbrev pub is_sound_word : ArgumentWords → Bool
is_sound_word (integer z) = true
is_sound_word (atom text) = true
is_sound_word (complex text) = is_term_text text
