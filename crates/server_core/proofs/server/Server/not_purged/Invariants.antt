-- The names found and those of the rest are all that are not purged.
use Rattle.std.proofs.Common.{◌≡◌, ◌++◌, drop}
use Rattle.server_core.specs.CommandTable.{not_purged}
use Rattle.server_core.proofs.server.Server.not_purged.Given as goal

abbrev pub invariant-loop-to : goal.invariant-loop-to
invariant-loop-to l = l.names ++ not_purged l.self (drop l.to-index l.refs) ≡ not_purged l.self l.refs
