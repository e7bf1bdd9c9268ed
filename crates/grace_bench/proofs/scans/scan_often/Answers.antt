-- The token stays the writer's, and a look leaves what a look asks for.
use Rattle.marks.specs.declared.kept.LookKind.TheVariants.{Both}
use Rattle.progress_words.specs.Tokens.{written_by}
use Rattle.grace_bench.proofs.Looking.{may_again}
use Rattle.grace_bench.proofs.scans.scan_often.Goals as goal

pub scan-requires-clause-token : goal.scan-requires-clause-token
scan-requires-clause-token c = c.loop.invariant.token

pub scan-requires-clause-may : goal.scan-requires-clause-may
scan-requires-clause-may c = c.loop.invariant.may

pub loop-preserved : goal.loop-preserved
loop-preserved c = record { token = c.scan.ensures.token; may = may_again (written_by c.loop.writer) (written_by c.scan.new.writer) Both 2 c.scan.ensures.more c.loop.invariant.may }
