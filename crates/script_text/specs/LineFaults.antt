-- What a line of a script may have that is over a limit, wherever it stands.
-- Source: this project's script text.
use Rattle.std.specs.Prelude.{nat_lt, Bool, false, is_some}
use Rattle.std.specs.List.{list_any}
use Rattle.term_core.specs.declared.term_text.TheConstants.{MOST_WORDS}
use Rattle.term_core.specs.PlainTerm.{term_words}
use Rattle.term_core.specs.Written.{WrittenTerm, outside_of}
use Rattle.mod_text.specs.LineFaults.{has_wide_integer, has_long_term}
use Rattle.script_text.specs.ScriptLine.{ScriptLine, code, put, spawn}

-- whether a term has an integer of more than 60 bits
abbrev pub is_wide_term : WrittenTerm → Bool
is_wide_term term = is_some (outside_of term)

-- whether a term has more than 64 words
abbrev pub is_long_term : WrittenTerm → Bool
is_long_term term = nat_lt MOST_WORDS (term_words term)

-- whether a line has an integer of more than 60 bits
abbrev pub is_wide : ScriptLine → Bool
is_wide (code line) = has_wide_integer line
is_wide (put key term) = is_wide_term term
is_wide (spawn «module» name args) = list_any is_wide_term args
is_wide line = false

-- whether a line has a term of more than 64 words
abbrev pub is_long : ScriptLine → Bool
is_long (code line) = has_long_term line
is_long (put key term) = is_long_term term
is_long (spawn «module» name args) = list_any is_long_term args
is_long line = false
