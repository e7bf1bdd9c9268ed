-- The generation may be published, and all areas are retired in it.
use Rattle.std.proofs.Common.{ap}
use Rattle.shared_words.specs.Seats.{writer_of}
use Rattle.progress_words.specs.Tokens.{written_by}
use Rattle.area_tests.proofs.Retiring.{may_publish_retired, all_gone}
use Rattle.area_tests.proofs.several.publish_retired.Goals as goal

pub store_root-requires-clause-may : goal.store_root-requires-clause-may
store_root-requires-clause-may c = may_publish_retired c.args.pools.now (written_by c.args.writer.now) c.requires.retiring _ tt

pub returns-clause-gone : goal.returns-clause-gone
returns-clause-gone c = all_gone c.args.pools.now (written_by c.args.writer.now) c.requires.retiring (written_by c.store_root.new.writer) c.roots_keep_pools.ensures (ap writer_of c.store_root.ensures.view)
