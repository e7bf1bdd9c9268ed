-- Once the wait is over, the writer may look.
use Rattle.progress_words.specs.Tokens.{written_by}
use Rattle.grace_bench.proofs.Looking.{may_look}
use Rattle.grace_bench.proofs.scans.scan_after.Goals as goal

pub scan_often-requires-clause-may : goal.scan_often-requires-clause-may
scan_often-requires-clause-may g c =
    may_look (written_by c.args.writer.now) (written_by c.publish_used.new.writer) (written_by c.wait_alone.new.writer) c.publish_used.ensures.published c.wait_alone.ensures.asked
    c.wait_alone.ensures.over
