-- The area may be released, and is.
use Rattle.std.proofs.Common.{refl}
use Rattle.progress_words.specs.Tokens.{written_by}
use Rattle.staging.proofs.ReleasedStages.{settling_released, stages_released}
use Rattle.staging.proofs.ReleasedTables.{keeps_release, rest_released, tables_released}
use Rattle.staging.proofs.releasing.free_block.Goals as goal

pub returns-clause-tables : goal.returns-clause-tables
returns-clause-tables g c =
    tables_released _ _ c.args.tables.now _ c.args.area c.stores_keep_index.ensures c.stores_keep_tables.ensures c.requires.tables c.requires.may c.release.ensures.token c.release.ensures.owned c.release.ensures.stored refl refl refl c.requires.cleared

pub returns-clause-stands : goal.returns-clause-stands
returns-clause-stands g c = rest_released g.K.Naming.names c.args.area.serial c.args.tables.now _ c.args.area c.requires.tables.pools c.requires.may refl c.release.ensures.released c.release.ensures.stored refl refl refl

pub returns-clause-stages : goal.returns-clause-stages
returns-clause-stages g c =
    stages_released g.K.Naming.names c.args.area.serial c.args.tables.now _ c.args.area c.requires.tables.pools c.requires.may refl c.release.ensures.released c.release.ensures.stored refl refl refl
    c.exports_that_stay_are_staged.ensures c.stores_keep_index.ensures c.stores_keep_tables.ensures c.requires.tables.index c.requires.tables.terms

pub returns-clause-settling : goal.returns-clause-settling
returns-clause-settling g c = settling_released g.K.Naming.names c.args.area.serial c.args.tables.now _ c.args.area c.requires.tables.pools c.requires.may refl c.release.ensures.released c.release.ensures.stored refl refl refl

pub returns-clause-drop : goal.returns-clause-drop
returns-clause-drop g c = keeps_release c.args.area.serial c.args.tables.now.pools (written_by c.args.tables.now.writer) _ c.args.area c.requires.tables.pools c.requires.may refl c.release.ensures.stored
