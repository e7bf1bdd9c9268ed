use Rattle.progress_words.specs.Tokens.{written_by}
use Rattle.area_tests.proofs.Gone.{gone_counted}
use Rattle.area_tests.proofs.released.take_need.Goals as goal

-- a load of the counter leaves it as it is
pub returns-clause-gone : goal.returns-clause-gone
returns-clause-gone c = gone_counted 0 c.args.areas c.args.pools.now (written_by c.args.writer.now) (written_by c.later.new.writer) c.later.ensures.loaded c.requires.gone
