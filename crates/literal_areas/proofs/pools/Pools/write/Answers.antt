-- Each word of the list goes to its place in the block.
use Rattle.std.proofs.Common.{arith}
use Rattle.literal_areas.proofs.WordByWord.{writes_none, may_store, writes_more, all_written, others_stay}
use Rattle.literal_areas.proofs.pools.Pools.write.Goals as goal

-- none is written at first
pub loop-at-init : goal.loop-at-init
loop-at-init g c = writes_none c.args.shared.now.table.shared.table_id c.args.shared.now.table.shared.key c.args.self.now c.args.area c.args.words.now c.args.writer.now c.requires.token c.requires.owned c.requires.unpublished

-- the next one may be stored
pub store_word-requires-clause-token : goal.store_word-requires-clause-token
store_word-requires-clause-token g c = c.loop-at.invariant.token

pub store_word-requires-clause-may : goal.store_word-requires-clause-may
store_word-requires-clause-may g c =
    may_store c.args.shared.now.table.shared.table_id c.args.shared.now.table.shared.key c.args.self.now c.args.area c.loop-at.at c.args.words.now c.args.writer.now c.loop-at.writer c.loop-at.invariant c.requires.taken c.requires.room c.loop-at-test.true
    c.block_word.result c.block_word.ensures

-- one more is written
pub loop-at-preserved : goal.loop-at-preserved
loop-at-preserved g c =
    let store = c.store_word.ensures in
    writes_more c.args.shared.now.table.shared.table_id c.args.shared.now.table.shared.key c.args.self.now c.args.area c.loop-at.at c.args.words.now c.args.writer.now c.loop-at.writer c.loop-at.invariant c.requires.taken c.requires.room c.loop-at-test.true
    c.store_word.new.writer c.block_word.result c.block_word.ensures store.token store.same store.generation store.view

-- all are written
pub returns-clause-token : goal.returns-clause-token
returns-clause-token g c = c.loop-at.invariant.token

pub returns-clause-same : goal.returns-clause-same
returns-clause-same g c = c.loop-at.invariant.same

pub returns-clause-written : goal.returns-clause-written
returns-clause-written g c = all_written c.args.shared.now.table.shared.table_id c.args.shared.now.table.shared.key c.args.self.now c.args.area c.loop-at.at c.args.words.now c.args.writer.now c.loop-at.writer c.loop-at.invariant (omega (arith, c.loop-at-test.false, c.loop-at.auto.at-end))

pub returns-clause-others : goal.returns-clause-others
returns-clause-others g c = others_stay c.args.shared.now.table.shared.table_id c.args.shared.now.table.shared.key c.args.self.now c.args.area c.loop-at.at c.args.words.now c.args.writer.now c.loop-at.writer c.loop-at.invariant (omega (arith, c.loop-at-test.false, c.loop-at.auto.at-end)) c.requires.taken c.requires.room

pub returns-clause-owned : goal.returns-clause-owned
returns-clause-owned g c = c.loop-at.invariant.state.owned

pub returns-clause-unpublished : goal.returns-clause-unpublished
returns-clause-unpublished g c = c.loop-at.invariant.state.unpublished
