use Rattle.term_table.specs.Built.{words_of}
use Rattle.term_table.proofs.Searching.{begun}
use Rattle.term_table.proofs.buckets.Buckets.holds.Goals as goal

pub loop-tried-init : goal.loop-tried-init
loop-tried-init c = begun (words_of c.args.self.now) c.args.key
