-- The generation may be published, and nothing else is published then.
use Rattle.std.proofs.Common.{ap}
use Rattle.shared_words.specs.Seats.{writer_of}
use Rattle.progress_words.specs.Tokens.{written_by}
use Rattle.grace_bench.proofs.Used.{may_publish_used}
use Rattle.grace_bench.proofs.tables.publish_used.Goals as goal

pub store_root-requires-clause-may : goal.store_root-requires-clause-may
store_root-requires-clause-may c = may_publish_used (written_by c.args.writer.now) c.requires.empty _ tt

pub returns-clause-published : goal.returns-clause-published
returns-clause-published c = ap writer_of c.store_root.ensures.view
