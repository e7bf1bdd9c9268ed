use Rattle.std.proofs.Common.{◌≡◌, drop}
use Rattle.legality.specs.Looks.{some_names}
use Rattle.legality.proofs.looks.some_names.Given as goal

abbrev pub invariant-loop-standing : goal.invariant-loop-standing
invariant-loop-standing l = some_names l.serial (drop l.standing-index l.standings) ≡ some_names l.serial l.standings
