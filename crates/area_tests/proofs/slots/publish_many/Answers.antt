use Rattle.progress_words.specs.Tokens.{written_by}
use Rattle.area_tests.proofs.Many.{may_publish_many}
use Rattle.area_tests.proofs.slots.publish_many.Goals as goal

pub store_root-requires-clause-may : goal.store_root-requires-clause-may
store_root-requires-clause-may c = may_publish_many (written_by c.args.writer.now) c.requires.prepared _ tt
