-- What is published next: the generation of the state that a change leaves, over the blocks in which its areas stand.
-- Source: Erlang/OTP erts internal documentation, CodeLoading; blocks are this project's own.
use Rattle.std.specs.Prelude.{◌≡◌, ℕ, suc, List, [], ◌∷◌, ◌++◌}
use Rattle.std.specs.Option.{option_map, option_to_list}
use Rattle.term_core.specs.declared.area.AreaRef.{AreaRef}
use Rattle.term_core.specs.declared.atom.Mfa.{Mfa}
use Rattle.area_core.specs.declared.map.TheConstants.{AREAS_START, BIG_BLOCKS}
use Rattle.area_core.specs.declared.table.Published.{Published}
use Rattle.server_core.specs.Generations.{generation_of}
use Rattle.server_core.specs.ServerState.{ServerState}
use Rattle.literal_areas.specs.declared.blocks.BlockUse.{BlockUse}
use Rattle.literal_areas.specs.declared.areas.Areas.{Areas}
use Rattle.literal_areas.specs.Blocks.{serial_of}

-- the areas in blocks that are numbered from this one on
abbrev pub areas_from : ℕ → List BlockUse → List AreaRef
areas_from block [] = []
areas_from block (used ∷ uses) = option_to_list (option_map (λ serial. record { serial = serial; block = block }) (serial_of used)) ++ areas_from (suc block) uses

-- the areas of the pools, live and retired, each in its block
abbrev pub areas_in : Areas → List AreaRef
areas_in pools = areas_from AREAS_START pools.big ++ areas_from BIG_BLOCKS pools.small

-- it is the generation of this state, over the blocks of these pools
pub record IsUpcoming (names : List Mfa) (s : ServerState) (pools : Areas) (p : Published) : Type 0 where
  pub state : p.state ≡ generation_of names s
  pub areas : p.areas ≡ areas_in pools
