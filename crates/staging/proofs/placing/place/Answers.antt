-- An area that is taken is written, and the tables are still the writer's.
use Rattle.std.proofs.Common.{refl, sym, subst}
use Rattle.literal_areas.specs.Blocks.{HasAnswered, HasTaken}
use Rattle.staging.proofs.PlacedAreas.{area_placed, tables_placed}
use Rattle.staging.proofs.placing.place.Goals as goal

pub returns-in-Area-clause-answers : goal.returns-in-Area-clause-answers
returns-in-Area-clause-answers g c =
    let write = c.write.ensures in
    area_placed _ _ c.args.pool c.args.words.now c.in-Area.area c.args.tables.now _ c.writes_keep_index.ensures c.writes_keep_tables.ensures c.requires.tables
    (subst (HasTaken c.args.pool c.in-Area.area c.args.tables.now.pools) (sym write.pools) (subst (HasAnswered c.args.pool c.args.tables.now.pools c.take-take.new.self) c.in-Area.is c.take-take.ensures.answered))
    write.token write.written write.others write.owned write.unpublished (record { exports = refl; index = refl; terms = refl; patch = refl })

pub returns-in-Area-clause-tables : goal.returns-in-Area-clause-tables
returns-in-Area-clause-tables g c =
    let write = c.write.ensures in
    tables_placed _ _ c.args.pool c.args.words.now c.in-Area.area c.args.tables.now _ c.writes_keep_index.ensures c.writes_keep_tables.ensures c.requires.tables
    (subst (HasTaken c.args.pool c.in-Area.area c.args.tables.now.pools) (sym write.pools) (subst (HasAnswered c.args.pool c.args.tables.now.pools c.take-take.new.self) c.in-Area.is c.take-take.ensures.answered))
    write.token write.written write.others write.owned write.unpublished (record { exports = refl; index = refl; terms = refl; patch = refl })
