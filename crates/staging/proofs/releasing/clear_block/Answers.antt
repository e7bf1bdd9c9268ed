-- A small block has no decisions; those of a block for instances are cleared.
use Rattle.std.proofs.Common.{refl, arith}
use Rattle.progress_words.specs.Tokens.{written_by}
use Rattle.staging.proofs.ClearedBlocks.{areas_behind, clears, may_still, retired_block, stand_cleared, stand_same, tables_cleared}
use Rattle.staging.proofs.releasing.clear_block.Goals as goal

pub returns-then-area-ge-BIG_BLOCKS-clause-cleared : goal.returns-then-area-ge-BIG_BLOCKS-clause-cleared
returns-then-area-ge-BIG_BLOCKS-clause-cleared g c = λ for. absurd (let low = for.last in let high = c.if-area-ge-BIG_BLOCKS.true in omega (arith, low, high))

pub returns-then-area-ge-BIG_BLOCKS-clause-stands : goal.returns-then-area-ge-BIG_BLOCKS-clause-stands
returns-then-area-ge-BIG_BLOCKS-clause-stands g c = stand_same g.K.Naming.names c.args.tables.now

pub clear_decisions-requires-clause-block : goal.clear_decisions-requires-clause-block
clear_decisions-requires-clause-block g c = retired_block c.args.tables.now.pools (written_by c.args.tables.now.writer) c.args.area c.requires.may (omega (arith, c.if-area-ge-BIG_BLOCKS.false))

pub clear_decisions-requires-clause-areas : goal.clear_decisions-requires-clause-areas
clear_decisions-requires-clause-areas g c = areas_behind c.args.tables.now.pools (written_by c.args.tables.now.writer) c.requires.tables.pools

pub returns-clause-tables : goal.returns-clause-tables
returns-clause-tables g c =
    let for = retired_block c.args.tables.now.pools (written_by c.args.tables.now.writer) c.args.area c.requires.may (omega (arith, c.if-area-ge-BIG_BLOCKS.false)) in
    tables_cleared _ _ c.args.tables.now (record c.args.tables.now { writer = c.clear_decisions.new.writer }) c.args.area c.writes_keep_index.ensures c.writes_keep_tables.ensures c.requires.tables refl refl refl refl for c.requires.uncalled c.clear_decisions.ensures.cleared c.clear_decisions.ensures.token

pub returns-clause-may : goal.returns-clause-may
returns-clause-may g c =
    let for = retired_block c.args.tables.now.pools (written_by c.args.tables.now.writer) c.args.area c.requires.may (omega (arith, c.if-area-ge-BIG_BLOCKS.false)) in
    may_still c.args.tables.now.pools (written_by c.args.tables.now.writer) (written_by c.clear_decisions.new.writer) c.args.area
    (clears _ _ c.args.tables.now (record c.args.tables.now { writer = c.clear_decisions.new.writer }) c.args.area c.writes_keep_index.ensures c.writes_keep_tables.ensures c.requires.tables refl refl refl refl for c.requires.uncalled c.clear_decisions.ensures.cleared) c.requires.may

pub returns-clause-cleared : goal.returns-clause-cleared
returns-clause-cleared g c = λ for. c.clear_decisions.ensures.cleared.cleared

pub returns-clause-stands : goal.returns-clause-stands
returns-clause-stands g c =
    let for = retired_block c.args.tables.now.pools (written_by c.args.tables.now.writer) c.args.area c.requires.may (omega (arith, c.if-area-ge-BIG_BLOCKS.false)) in
    stand_cleared _ _ c.args.tables.now (record c.args.tables.now { writer = c.clear_decisions.new.writer }) c.args.area c.writes_keep_index.ensures c.writes_keep_tables.ensures c.requires.tables refl refl refl refl for c.requires.uncalled c.clear_decisions.ensures.cleared g.K.Naming.names

pub clear_decisions-requires-clause-all : goal.clear_decisions-requires-clause-all
clear_decisions-requires-clause-all g c = c.requires.tables.pools.all
