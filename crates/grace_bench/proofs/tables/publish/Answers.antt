-- The empty generation may be published again, and nothing else is published then.
use Rattle.shared_words.specs.Seats.{writer_of}
use Rattle.progress_words.specs.Tokens.{written_by}
use Rattle.new_tables.proofs.Emptied.{may_publish_empty, still_empty, written_next}
use Rattle.grace_bench.proofs.tables.publish.Goals as goal

pub store_root-requires-clause-may : goal.store_root-requires-clause-may
store_root-requires-clause-may c = may_publish_empty _ (writer_of c.args.writer.now.seat.me.0) tt c.requires.empty

pub returns-clause-empty : goal.returns-clause-empty
returns-clause-empty c = still_empty (written_by c.args.writer.now) (written_by c.store_root.new.writer) c.requires.empty (written_next c.store_root.new.writer.seat _ c.store_root.ensures.view)
