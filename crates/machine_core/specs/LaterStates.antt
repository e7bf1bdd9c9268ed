-- A later state of the server that knows all that an earlier one knew.
-- Source: this project's own. An area that a process still holds keeps its words as long as it is held, so what a process sees stays.
use Rattle.std.specs.Prelude.{◌≡◌, ℕ, List, Some}
use Rattle.term_core.specs.PlainTerm.{PlainTerm}
use Rattle.mod_core.specs.declared.code.Module.{Module}
use Rattle.server_core.specs.ServerState.{ServerState, code_of, term_of_area, words_of_area}

-- the instances that one state has, another has too
abbrev pub HasInstances : ServerState → ServerState → Type 0
HasInstances before after = (serial : ℕ) (m : Module) → code_of before serial ≡ Some m → code_of after serial ≡ Some m

-- so it has the areas of complex terms
abbrev pub HasTerms : ServerState → ServerState → Type 0
HasTerms before after = (serial : ℕ) (t : PlainTerm) → term_of_area before serial ≡ Some t → term_of_area after serial ≡ Some t

-- and the words of each area
abbrev pub HasWords : ServerState → ServerState → Type 0
HasWords before after = (serial : ℕ) (words : List ℕ) → words_of_area before serial ≡ Some words → words_of_area after serial ≡ Some words

-- each area that one state knows, another knows as what it was
pub record HasAreas (before after : ServerState) : Type 0 where
  pub instances : HasInstances before after
  pub terms : HasTerms before after
  pub words : HasWords before after
