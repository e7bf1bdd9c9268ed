-- Parts of a text that are read one after the other.
use Rattle.std.specs.Prelude.{ℕ, Bool, List, Option, Some, None, if◌then◌else◌}
use Rattle.term_core.specs.Names.{is_atom_text}
use Rattle.term_core.specs.Text.Cuts.{cut_at}

infixl 10 ◌>>=◌
-- the second part is read where the first one was
abbrev pub ◌>>=◌ : {A B : Type 0} → Option A → (A → Option B) → Option B
None >>= f = None
(Some x) >>= f = f x

-- the text, where it passes the test
abbrev pub text_tested : (List ℕ → Bool) → List ℕ → Option (List ℕ)
text_tested test text = if test text then Some text else None

-- a name and a number with a byte between them
abbrev pub numbered_reading : ℕ → (List ℕ → Bool) → List ℕ → Option (List ℕ × List ℕ)
numbered_reading byte test text = do
  parts ← cut_at byte text
  name ← text_tested is_atom_text parts.0
  number ← text_tested test parts.1
  Some (name, number)
