-- The store of the root is allowed, and what each answer leaves.
use Rattle.std.proofs.Common.{refl}
use Rattle.staging.proofs.CommitAnswers.{if_err, known_after, published_after, tables_after, waits_after}
use Rattle.staging.proofs.Committed.{may_commit}
use Rattle.staging.proofs.committing.commit_exports.Goals as goal

pub commit-requires-clause-next : goal.commit-requires-clause-next
commit-requires-clause-next g c =
    may_commit g.K.Naming.names c.args.server.now c.args.change.now c.args.shared.now.table.shared.table_id c.args.shared.now.table.shared.key c.args.tables.now c.args.areas.now.items
    c.requires.tables c.generation-generation.ensures.sound c.requires.fits c.requires.exported c.requires.numbered c.args.tables.now.exports c.requires.names

pub returns-clause-tables : goal.returns-clause-tables
returns-clause-tables g c =
    tables_after g.K.Naming.names c.args.server.now c.args.change.now c.args.shared.now.table.shared.table_id c.args.shared.now.table.shared.key c.args.tables.now c.args.areas.now.items
    c.requires.tables c.generation-generation.ensures.sound c.requires.fits c.requires.exported c.requires.numbered c.args.tables.now.exports (record c.args.tables.now { writer = c.commit.new.writer; index = c.commit.new.self }) c.commit.result
    (record { named = c.requires.names; by_roots = c.roots_keep_tables.ensures; terms = refl; pools = refl; patch = refl; owned = c.commit.ensures.owned; committed = c.commit.ensures.committed; waits = c.commit.ensures.waits })
    c.commit.ensures.token c.commit.ensures.owned

pub returns-clause-published : goal.returns-clause-published
returns-clause-published g c =
    published_after g.K.Naming.names c.args.server.now c.args.change.now c.args.shared.now.table.shared.table_id c.args.shared.now.table.shared.key c.args.tables.now c.args.areas.now.items
    c.requires.tables c.generation-generation.ensures.sound c.requires.fits c.requires.exported c.requires.numbered c.args.tables.now.exports (record c.args.tables.now { writer = c.commit.new.writer; index = c.commit.new.self }) c.commit.result
    (record { named = c.requires.names; by_roots = c.roots_keep_tables.ensures; terms = refl; pools = refl; patch = refl; owned = c.commit.ensures.owned; committed = c.commit.ensures.committed; waits = c.commit.ensures.waits })

pub returns-clause-waits : goal.returns-clause-waits
returns-clause-waits g c =
    if_err _ _ c.commit.result (λ answer waits. record { published = waits.published; stands = waits.stands; why = waits.why })
    (waits_after g.K.Naming.names c.args.server.now c.args.change.now c.args.shared.now.table.shared.table_id c.args.shared.now.table.shared.key c.args.tables.now c.args.areas.now.items
    c.requires.tables c.generation-generation.ensures.sound c.requires.fits c.requires.exported c.requires.numbered c.args.tables.now.exports (record c.args.tables.now { writer = c.commit.new.writer; index = c.commit.new.self }) c.commit.result
    (record { named = c.requires.names; by_roots = c.roots_keep_tables.ensures; terms = refl; pools = refl; patch = refl; owned = c.commit.ensures.owned; committed = c.commit.ensures.committed; waits = c.commit.ensures.waits }))

pub returns-clause-known : goal.returns-clause-known
returns-clause-known g c =
    known_after g.K.Naming.names c.args.server.now c.args.change.now c.args.shared.now.table.shared.table_id c.args.shared.now.table.shared.key c.args.tables.now c.args.areas.now.items
    c.requires.tables c.generation-generation.ensures.sound c.requires.fits c.requires.exported c.requires.numbered c.args.tables.now.exports (record c.args.tables.now { writer = c.commit.new.writer; index = c.commit.new.self }) c.commit.result
    (record { named = c.requires.names; by_roots = c.roots_keep_tables.ensures; terms = refl; pools = refl; patch = refl; owned = c.commit.ensures.owned; committed = c.commit.ensures.committed; waits = c.commit.ensures.waits })
