-- The tables are still the writer's.
use Rattle.std.proofs.Common.{refl}
use Rattle.code_index.specs.Exports.{code_word}
use Rattle.staging.proofs.SetNames.{tables_set}
use Rattle.staging.proofs.exporting.set_name.Goals as goal

pub returns-clause-tables : goal.returns-clause-tables
returns-clause-tables g c =
    tables_set _ _ c.args.tables.now _ c.args.number (code_word c.args.to) c.requires.number c.stores_keep_tables.ensures c.stores_keep_pools.ensures c.requires.tables c.set.ensures.token c.set.ensures.owned c.set.ensures.stored refl refl refl
