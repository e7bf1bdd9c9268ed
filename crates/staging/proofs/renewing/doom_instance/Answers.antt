-- The instance is live and was published, and is doomed.
use Rattle.std.proofs.Common.{refl}
use Rattle.progress_words.specs.Tokens.{written_by}
use Rattle.staging.proofs.Announced.{live_block, tables_doomed, there_published}
use Rattle.staging.proofs.renewing.doom_instance.Goals as goal

pub live_area-requires : goal.live_area-requires
live_area-requires g c = record { sound = c.requires.tables.pools.sound; live = live_block c.args.serial c.args.tables.now.pools (written_by c.args.tables.now.writer) c.requires.live }

pub doom-requires-clause-live : goal.doom-requires-clause-live
doom-requires-clause-live g c = c.in-Some.ensures.0

pub doom-requires-clause-published : goal.doom-requires-clause-published
doom-requires-clause-published g c = there_published c.args.serial c.args.tables.now.pools (written_by c.args.tables.now.writer) c.in-Some.area c.requires.tables.pools.sound c.requires.live c.in-Some.ensures.0 c.in-Some.ensures.1

pub doom-requires-clause-instance : goal.doom-requires-clause-instance
doom-requires-clause-instance g c = c.requires.big c.in-Some.area c.in-Some.ensures.0 c.in-Some.ensures.1

pub doom-requires-clause-undoomed : goal.doom-requires-clause-undoomed
doom-requires-clause-undoomed g c = c.requires.undoomed c.in-Some.area c.in-Some.ensures.1

pub returns-clause-tables : goal.returns-clause-tables
returns-clause-tables g c =
    tables_doomed _ _ c.args.tables.now _ c.in-Some.area _ c.stores_keep_index.ensures c.stores_keep_tables.ensures c.requires.tables (c.requires.big c.in-Some.area c.in-Some.ensures.0 c.in-Some.ensures.1) c.doom.ensures.token c.doom.ensures.owned c.doom.ensures.stored refl refl refl

pub returns-clause-doomed : goal.returns-clause-doomed
returns-clause-doomed g c = record { area = c.in-Some.area; serial_is = c.in-Some.ensures.1; live = c.in-Some.ensures.0; big = c.requires.big c.in-Some.area c.in-Some.ensures.0 c.in-Some.ensures.1; stored = c.doom.ensures.stored }
