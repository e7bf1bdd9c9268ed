-- The tables are still the writer's.
use Rattle.std.proofs.Common.{refl, arith}
use Rattle.progress_words.specs.Tokens.{written_by}
use Rattle.code_index.specs.Staging.{staging_index}
use Rattle.staging.proofs.IndexStores.{copy_stored}
use Rattle.staging.proofs.SetNames.{tables_started}
use Rattle.staging.proofs.exporting.start_exports.Goals as goal

pub returns-clause-tables : goal.returns-clause-tables
returns-clause-tables g c =
    tables_started _ _ c.args.tables.now _ c.writes_keep_tables.ensures c.requires.tables c.start.ensures.token c.start.ensures.owned
    (copy_stored (staging_index (written_by c.args.tables.now.writer)) _ _ (omega (arith)) c.start.ensures.copied) refl refl refl
