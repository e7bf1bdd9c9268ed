use Rattle.term_table.proofs.Filled.{inserted}
use Rattle.term_table.proofs.buckets.Buckets.insert.Goals as goal

pub returns : goal.returns
returns c = inserted c.args.self.now c.fill.new.self c.args.key c.args.value c.free_for-bucket.result c.requires.built c.requires.new c.free_for-bucket.ensures c.fill.ensures
