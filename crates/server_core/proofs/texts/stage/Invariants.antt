-- The modules staged and the texts of the rest are the texts of the list.
use Rattle.std.proofs.Common.{◌≡◌, ◌++◌, drop, option_map}
use Rattle.server_core.specs.CommandTable.{texts_of}
use Rattle.server_core.proofs.texts.stage.Given as goal

abbrev pub invariant-loop-to : goal.invariant-loop-to
invariant-loop-to l = option_map (λ rest. l.staged.items ++ rest) (texts_of l.texts (drop l.to-index l.refs)) ≡ texts_of l.texts l.refs
