use Rattle.span_check.specs.Standings.{MayGoOn}
use Rattle.beam_why.proofs.course.walk_spans.Given as goal

abbrev pub invariant-loop-place : goal.invariant-loop-place
invariant-loop-place l = MayGoOn l.inquiry.replay.server l.process
