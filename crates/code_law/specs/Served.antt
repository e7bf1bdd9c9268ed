-- Which generations in the shared words are those of the code server.
-- Source: Erlang/OTP erts internal documentation, CodeLoading and Tracing: what a thread sees is one state of the code.
use Rattle.std.specs.Prelude.{◌≡◌, ◌≤◌, ◌^◌, ◌⊎◌, true, List}
use Rattle.term_core.specs.declared.area.AreaRef.{AreaRef}
use Rattle.term_core.specs.declared.atom.Mfa.{Mfa}
use Rattle.term_core.specs.declared.generation.Generation.{Generation}
use Rattle.area_core.specs.declared.map.TheConstants.{BIG_BLOCKS}
use Rattle.area_core.specs.declared.table.Published.{Published}
use Rattle.area_core.specs.Blocks.{Among}
use Rattle.area_core.specs.Step.{empty_generation}
use Rattle.server_core.specs.Generations.{AreNumbered, generation_of}
use Rattle.server_core.specs.ServerState.{IsSound, ServerState}
use Rattle.change_laws.specs.Breakpoints.{KnowsItsCode}
use Rattle.machine_core.specs.GenerationReads.{is_term_image, words_in}

-- it is the generation of a sound state of the server
pub record IsOfState (names : List Mfa) (g : Generation) : Type 0 where
  pub state : ServerState
  pub sound : IsSound state
  -- each name that its current instances export has a number
  pub numbered : AreNumbered names state
  -- each serial has room in an anchor, beside the two kinds
  pub narrow : state.next_serial ≤ 2 ^ 62
  -- each breakpoint is in current or old code, and other code was dropped
  pub knows : KnowsItsCode state
  pub is : g ≡ generation_of names state

-- it is the empty one with which the words begin, or that of a state of the server
abbrev pub IsOfServer : List Mfa → Generation → Type 0
IsOfServer names g = (g ≡ empty_generation) ⊎ IsOfState names g

-- the areas of complex terms have small blocks, in which no word is an entry word
abbrev pub TermsPlaced : Published → Type 0
TermsPlaced p = (a : AreaRef) → Among p.areas a → is_term_image (words_in p.state a.serial) ≡ true → BIG_BLOCKS ≤ a.block

-- so is what is published with its areas
pub record IsServed (names : List Mfa) (p : Published) : Type 0 where
  pub of : IsOfServer names p.state
  pub terms : TermsPlaced p
