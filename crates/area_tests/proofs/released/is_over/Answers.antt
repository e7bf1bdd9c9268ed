use Rattle.progress_words.specs.Tokens.{written_by}
use Rattle.area_tests.proofs.Gone.{gone_counted, taken_still}
use Rattle.area_tests.proofs.released.is_over.Goals as goal

-- a load of the counter leaves both as they are
pub returns-in-Ok-clause-gone : goal.returns-in-Ok-clause-gone
returns-in-Ok-clause-gone c = gone_counted 0 3 c.args.pools.now (written_by c.args.writer.now) (written_by c.reached.new.writer) c.reached.ensures.loaded c.requires.gone

pub returns-in-Ok-clause-taken : goal.returns-in-Ok-clause-taken
returns-in-Ok-clause-taken c = taken_still (written_by c.args.writer.now) (written_by c.reached.new.writer) c.args.need c.reached.ensures.loaded c.requires.taken

pub returns-in-Err-clause-gone : goal.returns-in-Err-clause-gone
returns-in-Err-clause-gone c = gone_counted 0 3 c.args.pools.now (written_by c.args.writer.now) (written_by c.reached.new.writer) c.reached.ensures.loaded c.requires.gone

pub returns-in-Err-clause-taken : goal.returns-in-Err-clause-taken
returns-in-Err-clause-taken c = taken_still (written_by c.args.writer.now) (written_by c.reached.new.writer) c.args.need c.reached.ensures.loaded c.requires.taken
