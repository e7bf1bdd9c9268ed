-- The parts of a line as the code keeps them: names as slices of the text, versions by their values.
use Rattle.std.specs.Prelude.{ℕ, Bool, List, map}
use Rattle.term_core.specs.Text.Numbers.{number_value}
use Rattle.script_text.specs.declared.reading.written.WrittenRef.{WrittenRef}
use Rattle.script_text.specs.declared.reading.written.AtomWord.{AtomWord}
use Rattle.script_text.specs.declared.reading.written.AtomWord.TheVariants as words
use Rattle.script_text.specs.declared.reading.written.WrittenTrace.{WrittenTrace}
use Rattle.script_text.specs.declared.reading.written.WrittenPut.{WrittenPut}
use Rattle.script_text.specs.declared.reading.written.WrittenCall.{WrittenCall}
use Rattle.script_text.specs.ScriptLine.{RefForm, AtomCommand, delete, soft_purge, purge, check_old, erase}
use Rattle.script_text.specs.LineReading.{PutForm, TraceForm, CallForm}
pub use Rattle.script_text.specs.KeptTerm.{term_integer, ArgumentWords, integer, atom, complex, argument_words, is_sound_word, kept_argument}

-- a version of a module: the text of its name, and the number
abbrev pub RefWords : Type 0
RefWords = List ℕ × ℕ

-- a written version of a module, by its words
abbrev pub ref_words : RefForm → RefWords
ref_words r = (r.name, number_value r.version)

-- what the reader kept of one
abbrev pub kept_ref : WrittenRef → RefWords
kept_ref r = (r.name.now, r.version)

-- which command of one atom it is
abbrev pub kept_word : AtomWord → AtomCommand
kept_word words.Delete = delete
kept_word words.SoftPurge = soft_purge
kept_word words.Purge = purge
kept_word words.CheckOld = check_old
kept_word words.Erase = erase

-- a function: the text of its name, and the number of its arity
abbrev pub function_written_words : List ℕ × List ℕ → List ℕ × ℕ
function_written_words f = (f.0, number_value f.1)

-- a breakpoint: the texts of its names, and the number of the arity
pub record TraceWords : Type 0 where
  pub «module» : List ℕ
  pub name : List ℕ
  pub arity : ℕ
  pub on : Bool

-- a written breakpoint, by its words
abbrev pub trace_words : TraceForm → TraceWords
trace_words t = record { «module» = t.«module»; name = t.name; arity = number_value t.arity; on = t.on }

-- what the reader kept of one
abbrev pub kept_trace : WrittenTrace → TraceWords
kept_trace t = record { «module» = t.«module».now; name = t.name.now; arity = t.arity; on = t.on }

-- a put: the text of its key, and its term
pub record PutWords : Type 0 where
  pub key : List ℕ
  pub term : ArgumentWords

-- a written put, by its words
abbrev pub put_words : PutForm → PutWords
put_words p = record { key = p.key; term = argument_words p.term }

-- what the reader kept of one
abbrev pub kept_put : WrittenPut → PutWords
kept_put p = record { key = p.key.now; term = kept_argument p.term }

-- a call
pub record CallWords : Type 0 where
  pub «module» : List ℕ
  pub name : List ℕ
  pub args : List ArgumentWords

-- a written call, by its words
abbrev pub call_words : CallForm → CallWords
call_words c = record { «module» = c.«module»; name = c.name; args = map argument_words c.args }

-- what the reader kept of one
abbrev pub kept_call : WrittenCall → CallWords
kept_call c = record { «module» = c.«module».now; name = c.name.now; args = map kept_argument c.args.items }
