use Rattle.std.proofs.Common.{◌≡◌, ◌++◌, take, drop}
use Rattle.legality.specs.Sweeps.{stretch}
use Rattle.legality.proofs.spans.stretch.Given as goal

abbrev pub invariant-loop-place : goal.invariant-loop-place
invariant-loop-place l = stretch l.journal ≡ take l.place l.journal ++ stretch (drop l.place l.journal)
