-- Nothing but the empty generation was published.
use Rattle.progress_words.specs.Tokens.{written_by}
use Rattle.grace_bench.proofs.Waiting.{still_empty}
use Rattle.grace_bench.proofs.grace.wait_once.Goals as goal

pub returns-clause-empty : goal.returns-clause-empty
returns-clause-empty g c = still_empty (written_by c.publish.new.writer) (written_by c.wait_over.new.writer) c.wait_over.ensures.asked c.publish.ensures.empty
