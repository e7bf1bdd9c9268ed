use Rattle.std.proofs.Common.{◌≡◌, take}
use Rattle.legality.specs.Sweeps.{watches_in}
use Rattle.legality.proofs.watches.watches_of.Given as goal

abbrev pub invariant-loop-entry : goal.invariant-loop-entry
invariant-loop-entry l = l.watches.items ≡ watches_in l.server l.number (take l.entry-index l.ahead)
