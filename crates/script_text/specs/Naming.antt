-- The names of a line get their numbers in order, until one finds the table full.
use Rattle.std.specs.Prelude.{ℕ, not, nat_lt, Bool, true, false, List, [], ◌∷◌, length, Option, Some, None, Result, Ok, Err, if◌then◌else◌}
use Rattle.std.specs.List.{list_any}
use Rattle.term_core.specs.declared.atom.Mfa.{Mfa}
use Rattle.term_core.specs.declared.names.TheConstants.{MOST_NAMES}
use Rattle.term_core.specs.Names.{is_atom_text, names_with}
use Rattle.term_core.specs.PlainTerm.{PlainTerm, integer_leaf, atom_leaf}
use Rattle.term_core.specs.declared.term_text.TheConstants.{MOST_WORDS}
use Rattle.term_core.specs.TermForms.{is_wide_text, term_atoms, term_in, text_words}
use Rattle.term_core.specs.TermText.{names_with_all, number_in}
use Rattle.server_core.specs.declared.command.ModRef.{ModRef}
use Rattle.script_text.specs.declared.fault.Which.TheVariants as which
use Rattle.script_text.specs.declared.reading.cause.LineCause.{LineCause}
use Rattle.script_text.specs.declared.reading.cause.LineCause.TheVariants as causes
use Rattle.script_text.specs.WrittenLine.{RefWords, TraceWords, ArgumentWords, integer, atom, complex, PutWords, CallWords}
use Rattle.script_text.specs.Causes.{◌>>=◌}

-- what was read, or a line of no form
abbrev pub or_syntax : {X : Type 0} → Option X → Result X LineCause
or_syntax None = Err causes.Syntax
or_syntax (Some x) = Ok x

-- an atom's number and the names after it
abbrev pub atom_named : List (List ℕ) → List ℕ → Result (ℕ × List (List ℕ)) LineCause
atom_named names text =
    if not (is_atom_text text) then Err causes.Syntax
    else (if nat_lt MOST_NAMES (length (names_with names text)) then Err (causes.Limit which.Names)
    else Ok (number_in (names_with names text) text, names_with names text))

-- each item in turn, and the names after them
unfoldable pub each_named : {X Y : Type 0} → (List (List ℕ) → X → Result (Y × List (List ℕ)) LineCause) → List (List ℕ) → List X → Result (List Y × List (List ℕ)) LineCause
each_named step names [] = Ok ([], names)
each_named step names (x ∷ xs) = do
  y ← step names x
  more ← each_named step y.1 xs
  Ok (y.0 ∷ more.0, more.1)

-- a version of a module, and the names after it
abbrev pub ref_named : List (List ℕ) → RefWords → Result (ModRef × List (List ℕ)) LineCause
ref_named names r = atom_named names r.0 >>= λ a. Ok (record { name = record { 0 = a.0 }; version = r.1 }, a.1)

-- the modules of a load, and the names after them
abbrev pub refs_named : List (List ℕ) → List RefWords → Result (List ModRef × List (List ℕ)) LineCause
refs_named names refs = each_named ref_named names refs

-- the function of a breakpoint, and the names after it
unfoldable pub trace_named : List (List ℕ) → TraceWords → Result (Mfa × List (List ℕ)) LineCause
trace_named names t = do
  target ← atom_named names t.«module»
  name ← atom_named target.1 t.name
  Ok (record { «module» = record { 0 = target.0 }; name = record { 0 = name.0 }; arity = t.arity }, name.1)

-- an argument, and the names after it
abbrev pub argument_named : List (List ℕ) → ArgumentWords → Result (PlainTerm × List (List ℕ)) LineCause
argument_named names (integer (Some z)) = Ok (integer_leaf z, names)
argument_named names (integer None) = Err (causes.Limit which.Integer)
argument_named names (atom text) = atom_named names text >>= λ a. Ok (atom_leaf a.0, a.1)
argument_named names (complex text) =
    if nat_lt MOST_NAMES (length (names_with_all names (term_atoms text))) then Err (causes.Limit which.Names)
    else Ok (term_in (names_with_all names (term_atoms text)) text, names_with_all names (term_atoms text))

-- arguments, and the names after them
abbrev pub arguments_named : List (List ℕ) → List ArgumentWords → Result (List PlainTerm × List (List ℕ)) LineCause
arguments_named names args = each_named argument_named names args

-- whether an argument has an integer of more than 60 bits
abbrev pub is_wide_word : ArgumentWords → Bool
is_wide_word (integer (Some z)) = false
is_wide_word (integer None) = true
is_wide_word (atom text) = false
is_wide_word (complex text) = is_wide_text text

-- whether an argument is a term of more than 64 words
abbrev pub is_long_word : ArgumentWords → Bool
is_long_word (integer z) = false
is_long_word (atom text) = false
is_long_word (complex text) = nat_lt MOST_WORDS (text_words text)

-- the key of a put, its term, and the names after them
unfoldable pub key_with_term : List (List ℕ) → PutWords → Result (ℕ × PlainTerm × List (List ℕ)) LineCause
key_with_term names p = do
  key ← atom_named names p.key
  term ← argument_named key.1 p.term
  Ok (key.0, term.0, term.1)

-- the same, where no integer is too wide and the term is not too long
abbrev pub put_named : List (List ℕ) → PutWords → Result (ℕ × PlainTerm × List (List ℕ)) LineCause
put_named names p =
    if is_wide_word p.term then Err (causes.Limit which.Integer)
    else (if is_long_word p.term then Err (causes.Limit which.Term) else key_with_term names p)

-- the target of a call, its arguments, and the names after them
unfoldable pub target_named : List (List ℕ) → CallWords → Result (Mfa × List PlainTerm × List (List ℕ)) LineCause
target_named names call = do
  target ← atom_named names call.«module»
  name ← atom_named target.1 call.name
  args ← arguments_named name.1 call.args
  Ok (record { «module» = record { 0 = target.0 }; name = record { 0 = name.0 }; arity = length args.0 }, args.0, args.1)

-- the same, where no integer is too wide and no term too long
abbrev pub call_named : List (List ℕ) → CallWords → Result (Mfa × List PlainTerm × List (List ℕ)) LineCause
call_named names call =
    if list_any is_wide_word call.args then Err (causes.Limit which.Integer)
    else (if list_any is_long_word call.args then Err (causes.Limit which.Term) else target_named names call)
