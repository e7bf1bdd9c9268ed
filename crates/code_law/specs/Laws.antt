-- What holds of generations of the code server.
-- Source: Erlang/OTP erts internal documentation, CodeLoading and Tracing: a turn sees one state of the code, and the breakpoints in it.
use Rattle.std.specs.Prelude.{◌≡◌, ℕ, ◌<◌, ◌⊎◌, ◌==◌, ◌&&◌, Bool, true, false, List}
use Rattle.std.specs.List.{list_any}
use Rattle.term_core.specs.declared.atom.Mfa.{Mfa}
use Rattle.term_core.specs.declared.generation.Generation.{Generation}
use Rattle.area_core.specs.Generations.{has_serial}
use Rattle.area_core.specs.Step.{empty_generation}
use Rattle.server_core.specs.Generations.{AreNumbered, generation_of}
use Rattle.server_core.specs.ServerState.{IsSound, ServerState, empty_state}
use Rattle.machine_core.specs.GenerationReads.{reads_in, shown_in}
use Rattle.machine_core.specs.Process.{PlainProcess}
use Rattle.machine_core.specs.Turn.{ArePlaced, held_after, turn_by, turn_of}
use Rattle.machine_core.specs.View.{IsLawful}
use Rattle.code_law.specs.Served.{IsOfServer}

-- a generation that is served is lawful, whatever the blocks are
abbrev pub ServedAreLawful : Type 0
ServedAreLawful = (names : List Mfa) (g : Generation) → IsOfServer names g → (block : ℕ → ℕ) → IsLawful (shown_in names block g)

-- a sound state of the server, which is that of the generation
pub record IsStateOf (names : List Mfa) (g : Generation) (s : ServerState) : Type 0 where
  pub sound : IsSound s
  pub numbered : AreNumbered names s
  -- generation 0 is that of the empty state, before it has an entry for each name
  pub of : (g ≡ generation_of names s) ⊎ ((g ≡ empty_generation) × (s ≡ empty_state))

-- a turn by a generation is the turn under a state of the server that it is of
pub record IsTurnOfServer (names : List Mfa) (g : Generation) (p : PlainProcess) : Type 0 where
  pub state : ServerState
  pub is : IsStateOf names g state
  pub turn : turn_by (reads_in names g) p ≡ turn_of state p
  pub held : held_after (reads_in names g) p ≡ held_after (reads_in names (generation_of names state)) p

-- so is each turn of a process that stands at places of the generation
abbrev pub ServedTurnsAgree : Type 0
ServedTurnsAgree = (names : List Mfa) (g : Generation) → IsOfServer names g → (p : PlainProcess) → ArePlaced (reads_in names g) p.frames → IsTurnOfServer names g p

-- calls of the function are traced in this generation
abbrev pub traces : Generation → ℕ → ℕ → Bool
traces g serial function = list_any (λ f. (f.serial == serial) && (f.function == function)) g.traced

-- no code is forgotten: no function of what was dropped is traced, and an area that has functions is current or old code, if it was not dropped
pub record ForgetsNoCode (names : List Mfa) (g : Generation) : Type 0 where
  pub traced : (serial function : ℕ) → has_serial g.retired serial ≡ true → traces g serial function ≡ false
  pub kept : (serial : ℕ) → 0 < (reads_in names g).functions serial → has_serial g.retired serial ≡ false → (has_serial g.current serial ≡ true) ⊎ (has_serial g.old serial ≡ true)

-- so it is of each generation that is served
abbrev pub ServedCodeIsKnown : Type 0
ServedCodeIsKnown = (names : List Mfa) (g : Generation) → IsOfServer names g → ForgetsNoCode names g
