-- One more word is stored.
use Rattle.term_table.proofs.Copies.{stores_more}
use Rattle.term_table.proofs.copying.store_table.Goals as goal

pub loop-at-preserved : goal.loop-at-preserved
loop-at-preserved g c =
    stores_more _ _ c.args.table c.loop-at.at c.word.result c.args.built.now c.args.writer.now c.loop-at.writer c.store_at.new.writer c.loop-at.invariant c.loop-at-test.true c.word.ensures
    c.store_at.ensures.token c.store_at.ensures.same c.store_at.ensures.stored
