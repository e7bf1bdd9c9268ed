-- What of a state a turn reads: all but the areas that were released, and those that are retired and that its process does not name for literals.
use Rattle.std.proofs.Common.{◌≡◌, ℕ, IsTrue, [], sym, ap, ◌∙◌}
use Rattle.server_core.specs.ServerState.{ServerState, is_retired}
use Rattle.machine_core.specs.Holds.{is_among}
use Rattle.machine_core.specs.Process.{PlainProcess, names_of}
use Rattle.machine_core.specs.Turn.{turn_of}
use Rattle.machine_core.proofs.TurnAgrees.{turn_agrees}
-- a turn that ends the process leaves no frame
pub use Rattle.machine_core.proofs.TurnLaws.{turn_ended}

-- a state with nothing retired and nothing released
abbrev pub for_turns : ServerState → ServerState
for_turns s = record s { retired = []; released = [] }

-- a turn is the same under two states that differ in what is retired and released, where they retire the same of what its process names for literals
pub turn_alike : (s t : ServerState) (p : PlainProcess) → for_turns s ≡ for_turns t → ((serial : ℕ) → IsTrue (is_among (names_of p).literals serial) → is_retired s serial ≡ is_retired t serial) → turn_of s p ≡ turn_of t p
turn_alike s t p e same = sym (turn_agrees s t.retired t.released p (λ serial named. sym (same serial named))) ∙ ap (λ (x : ServerState). turn_of (record x { retired = t.retired; released = t.released }) p) e
