-- The words stand for the state before the first command.
use Rattle.std.proofs.Common.{refl}
use Rattle.std.specs.Prelude.{None}
use Rattle.staging.proofs.AtFirst.{rest_first}
use Rattle.staging.proofs.tables.Tables.new.Goals as goal

pub returns-clause-rest : goal.returns-clause-rest
returns-clause-rest c =
    rest_first c.args.exports (record { writer = c.args.writer; exports = c.args.exports; index = c.new-index.result; terms = c.new-terms.result; pools = c.in_ok-pools.pools; patch = None }) c.requires.first c.new-index.ensures.nothing c.new-terms.ensures.nothing c.in_ok-pools.ensures.opening refl
