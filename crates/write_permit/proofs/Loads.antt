-- Modules that come in leave the generation.
use Rattle.std.proofs.Common.{◌≡◌, List, [], ◌∷◌, refl}
use Rattle.mod_core.specs.declared.code.Module.{Module}
use Rattle.server_core.specs.ServerState.{ServerState}
use Rattle.server_core.specs.CommandTable.{with_all, with_loaded}

pub all_generation : (s : ServerState) (modules : List Module) → (with_all s modules).generation ≡ s.generation
all_generation s [] = refl
all_generation s (m ∷ ms) = all_generation (with_loaded s m) ms
