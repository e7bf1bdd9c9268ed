use Rattle.std.proofs.Common.{◌≡◌, drop}
use Rattle.legality.specs.Looks.{some_stands}
use Rattle.legality.proofs.looks.some_stands.Given as goal

abbrev pub invariant-loop-standing : goal.invariant-loop-standing
invariant-loop-standing l = some_stands l.serial (drop l.standing-index l.standings) ≡ some_stands l.serial l.standings
