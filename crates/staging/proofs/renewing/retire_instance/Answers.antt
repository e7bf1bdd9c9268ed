-- The instance is live and was published, and is retired.
use Rattle.std.proofs.Common.{refl}
use Rattle.progress_words.specs.Tokens.{written_by}
use Rattle.progress_words.proofs.Rooted.{some_published}
use Rattle.staging.proofs.Announced.{live_block, there_published}
use Rattle.staging.proofs.FormerAreas.{tables_retired}
use Rattle.staging.proofs.renewing.retire_instance.Goals as goal

pub live_area-requires : goal.live_area-requires
live_area-requires g c = record { sound = c.requires.tables.pools.sound; live = live_block c.args.serial c.args.tables.now.pools (written_by c.args.tables.now.writer) c.requires.live }

pub retire-requires-clause-live : goal.retire-requires-clause-live
retire-requires-clause-live g c = c.in-Some.ensures.0

pub retire-requires-clause-published : goal.retire-requires-clause-published
retire-requires-clause-published g c = there_published c.args.serial c.args.tables.now.pools (written_by c.args.tables.now.writer) c.in-Some.area c.requires.tables.pools.sound c.requires.live c.in-Some.ensures.0 c.in-Some.ensures.1

pub returns-clause-tables : goal.returns-clause-tables
returns-clause-tables g c =
    tables_retired _ _ c.args.tables.now _ c.in-Some.area _ c.stores_keep_index.ensures c.stores_keep_tables.ensures c.requires.tables c.in-Some.ensures.0 c.retire.ensures.token c.retire.ensures.owned c.retire.ensures.stored refl refl refl (some_published _ _ c.args.tables.now.writer c.requires.tables.token)

pub returns-clause-serial : goal.returns-clause-serial
returns-clause-serial g c = c.in-Some.ensures.1

pub returns-clause-retired : goal.returns-clause-retired
returns-clause-retired g c = record { area = c.in-Some.area; serial_is = c.in-Some.ensures.1; live = c.in-Some.ensures.0; pools = c.retire.ensures.retired; stored = c.retire.ensures.stored }
