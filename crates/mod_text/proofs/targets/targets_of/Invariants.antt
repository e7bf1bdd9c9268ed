-- The places that the instructions so far go to are marked.
use Rattle.mod_text.proofs.Common.{◌≡◌, ℕ, ◌<◌, false, length, take, get_or, list_any}
use Rattle.mod_text.proofs.Forms.{goes_to}
use Rattle.mod_text.proofs.targets.targets_of.Given as goal

abbrev pub invariant-loop-instr : goal.invariant-loop-instr
invariant-loop-instr l =
    (length l.places ≡ 1025) × ((number : ℕ) → number < 1025 → get_or l.places number false ≡ list_any (goes_to number) (take l.instr-index l.code))
