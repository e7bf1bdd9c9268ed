-- What repeats a name of the set, or one before it in the rest, is the first that repeats one of the list.
use Rattle.std.proofs.Common.{◌≡◌, [], drop}
use Rattle.server_core.specs.CommandTable.{names_of, repeated_after}
use Rattle.server_core.proofs.texts.repeated.Given as goal

abbrev pub invariant-loop-to : goal.invariant-loop-to
invariant-loop-to l = repeated_after l.before.keys (names_of (drop l.to-index l.refs)) ≡ repeated_after [] (names_of l.refs)
