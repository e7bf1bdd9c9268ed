use Rattle.std.proofs.Common.{◌≡◌, ◌↔◌, ℕ, drop}
use Rattle.run_log.specs.Legal.{commands_in}
use Rattle.legality.specs.Places.{AreLeft}
use Rattle.script_core.specs.Processes.{commands_at}
use Rattle.legality.proofs.shape.order.has_commands_in_order.Given as goal

-- the journal has each loader's commands where the entries that are left have those that are left
abbrev pub invariant-loop-entry : goal.invariant-loop-entry
invariant-loop-entry l =
    ((loader : ℕ) → commands_in loader l.log.journal ≡ commands_at l.script.loaders loader) ↔ AreLeft l.script.loaders l.places (drop l.entry-index l.entry-items)
