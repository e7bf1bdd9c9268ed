use Rattle.std.proofs.Common.{◌≡◌}
use Rattle.word_run.proofs.Hearing.{FirstHaveHeard}
use Rattle.word_run.proofs.telling.tell_all.Given as goal

-- the first schedulers were told, and nothing was posted meanwhile
abbrev pub invariant-loop-home : goal.invariant-loop-home
invariant-loop-home g l = record {
  posters : l.posters ≡ l.fn.posters;
  seats : FirstHaveHeard l.home l.fn.posters l.fn.seats l.seats;
}
