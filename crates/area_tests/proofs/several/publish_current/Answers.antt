-- The generation may be published, and none of its areas is retired then.
use Rattle.std.proofs.Common.{ap}
use Rattle.shared_words.specs.declared.view.WriterView.{WriterView}
use Rattle.shared_words.specs.Seats.{writer_of}
use Rattle.progress_words.specs.Tokens.{written_by}
use Rattle.area_tests.proofs.Retiring.{may_publish_three, none_retired}
use Rattle.area_tests.proofs.several.publish_current.Goals as goal

pub store_root-requires-clause-may : goal.store_root-requires-clause-may
store_root-requires-clause-may c = may_publish_three (written_by c.args.writer.now) c.requires.blank _ tt

pub returns-clause-notes : goal.returns-clause-notes
returns-clause-notes c = ap (λ (w : WriterView). w.notes) (ap writer_of c.store_root.ensures.view)

pub returns-clause-retiring : goal.returns-clause-retiring
returns-clause-retiring c = none_retired (written_by c.args.writer.now) c.requires.blank c.args.pools.now c.requires.taken (written_by c.store_root.new.writer) c.roots_keep_pools.ensures c.requires.owned (ap writer_of c.store_root.ensures.view)
