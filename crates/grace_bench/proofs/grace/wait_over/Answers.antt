-- What was taken stays, and is over once its value is reached.
use Rattle.shared_words.specs.Views.{newest_number}
use Rattle.progress_words.specs.Tokens.{written_by}
use Rattle.grace_bench.proofs.Waiting.{over_now}
use Rattle.grace_bench.proofs.grace.wait_over.Goals as goal

pub returns-then-ask_often-clause-over : goal.returns-then-ask_often-clause-over
returns-then-ask_often-clause-over g c =
    over_now (written_by c.loop.writer) (written_by c.ask_often.new.writer) (newest_number (written_by c.args.writer.now).published) _ c.loop.invariant.taken
    c.ask_often.ensures.asked (c.ask_often.ensures.reached c.if-ask_often.true)
