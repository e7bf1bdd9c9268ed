-- All texts are given where those of the rest are.
use Rattle.std.proofs.Common.{◌≡◌, drop, is_some}
use Rattle.server_core.specs.CommandTable.{texts_of}
use Rattle.server_core.proofs.texts.are_given.Given as goal

abbrev pub invariant-loop-to : goal.invariant-loop-to
invariant-loop-to l = is_some (texts_of l.texts (drop l.to-index l.refs)) ≡ is_some (texts_of l.texts l.refs)
