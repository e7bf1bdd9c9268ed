-- What a run has published: the generations of its journal, as the words show them.
-- Source: Erlang/OTP erts internal documentation, CodeLoading. The definition replays the journal; the writer of the words keeps one server and one root.
use Rattle.std.specs.Prelude.{◌≡◌, ℕ, zero, suc, ◌+◌, List, length, slice_get, Some, All}
use Rattle.term_core.specs.declared.atom.Mfa.{Mfa}
use Rattle.term_core.specs.declared.generation.Generation.{Generation}
use Rattle.mod_core.specs.declared.code.Module.{Module}
use Rattle.mod_core.specs.Module.{IsModule}
use Rattle.area_core.specs.declared.table.Published.{Published}
use Rattle.area_core.specs.Step.{empty_generation}
use Rattle.server_core.specs.CommandTable.{IsOfText}
use Rattle.server_core.specs.Generations.{generation_of}
use Rattle.server_core.specs.ServerState.{ServerState, empty_state}
use Rattle.change_laws.specs.Names.{IsNumbered}
use Rattle.run_log.specs.declared.logs.Entry.{Entry}
use Rattle.run_log.specs.Journal.{published_count, state_at}
use Rattle.run_log.specs.Legal.{Replays}

-- ---- the journal

-- the states of a journal's generations, from the empty one on
abbrev pub states_of : List Module → List Entry → ℕ → ServerState
states_of texts journal = state_at texts empty_state journal

-- the journal is replayed from texts that can be loaded, each name that they export has a number, and a text can say each of its commands
pub record IsJournal (names : List Mfa) (texts : List Module) (journal : List Entry) : Type 0 where
  pub texts_sound : All IsModule texts
  pub numbered : All (IsNumbered names) texts
  pub said : All (λ e. IsOfText e.cmd) journal
  pub replays : Replays texts empty_state journal

-- ---- the words

-- a generation of a journal as the words show it; generation 0 is the empty one, which has no entry for a name
abbrev pub shown_at : List Mfa → List Module → List Entry → ℕ → Generation
shown_at names texts journal zero = empty_generation
shown_at names texts journal (suc k) = generation_of names (states_of texts journal (suc k))

-- the published generations are those of the journal, each at its number
pub record ArePublished (names : List Mfa) (texts : List Module) (journal : List Entry) (published : List Published) : Type 0 where
  pub many : length published ≡ published_count journal + 1
  pub each : (k : ℕ) (p : Published) → slice_get published k ≡ Some p → p.state ≡ shown_at names texts journal k
