-- The former area is live and was published, and is retired.
use Rattle.std.proofs.Common.{refl, subst}
use Rattle.std.specs.Prelude.{Some, ◌≡◌}
use Rattle.progress_words.specs.Tokens.{written_by}
use Rattle.progress_words.proofs.Rooted.{some_published}
use Rattle.server_core.specs.ServerState.{key_area}
use Rattle.literal_areas.specs.declared.blocks.BlockUse.TheVariants.{Live}
use Rattle.literal_areas.specs.Blocks.{use_of}
use Rattle.staging.proofs.FormerAreas.{former_published, none_retired, tables_retired, was_retired}
use Rattle.staging.proofs.former.retire_former.Goals as goal

pub former_area-requires : goal.former_area-requires
former_area-requires g c = record {
  sound = c.requires.tables.pools.sound;
  stand = λ serial is. let there = c.requires.live serial is in (there.area.block, subst (λ n. use_of c.args.tables.now.pools there.area.block ≡ Some (Live n)) there.serial_is there.live);
}

pub retire-requires-clause-live : goal.retire-requires-clause-live
retire-requires-clause-live g c = c.in-Some.ensures.live

pub retire-requires-clause-published : goal.retire-requires-clause-published
retire-requires-clause-published g c =
    former_published c.args.server.now c.args.key.0 c.args.tables.now.pools (written_by c.args.tables.now.writer) c.in-Some.former c.requires.tables.pools.sound c.requires.live c.in-Some.ensures

pub returns-in-Some-clause-tables : goal.returns-in-Some-clause-tables
returns-in-Some-clause-tables g c =
    tables_retired _ _ c.args.tables.now _ c.in-Some.former _ c.stores_keep_index.ensures c.stores_keep_tables.ensures c.requires.tables c.in-Some.ensures.live c.retire.ensures.token c.retire.ensures.owned c.retire.ensures.stored refl refl refl (some_published _ _ c.args.tables.now.writer c.requires.tables.token)

pub returns-in-Some-clause-retired : goal.returns-in-Some-clause-retired
returns-in-Some-clause-retired g c =
    was_retired (key_area c.args.server.now c.args.key.0) c.args.tables.now.pools _ (written_by c.args.tables.now.writer) _ c.in-Some.former c.in-Some.ensures.held c.in-Some.ensures.live c.retire.ensures.retired c.retire.ensures.stored

pub returns-in_default-clause-retired : goal.returns-in_default-clause-retired
returns-in_default-clause-retired g c = none_retired (key_area c.args.server.now c.args.key.0) c.args.tables.now.pools (written_by c.args.tables.now.writer) c.in_default.ensures
