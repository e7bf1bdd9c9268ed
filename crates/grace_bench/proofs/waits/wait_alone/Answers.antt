-- What was taken stays, and is over once its value is reached.
use Rattle.shared_words.specs.Views.{newest_number}
use Rattle.progress_words.specs.Tokens.{written_by}
use Rattle.grace_bench.proofs.Waiting.{over_now}
use Rattle.grace_bench.proofs.waits.wait_alone.Goals as goal

pub returns-then-ask-clause-over : goal.returns-then-ask-clause-over
returns-then-ask-clause-over g c =
    over_now (written_by c.loop.writer) (written_by c.ask.new.writer) (newest_number (written_by c.args.writer.now).published) _ c.loop.invariant.taken
    c.ask.ensures.asked (c.ask.ensures.reached c.if-ask.true)
