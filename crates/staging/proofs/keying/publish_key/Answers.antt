-- The store of the root is allowed, and the words then stand for the new state.
use Rattle.std.proofs.Common.{refl, sym, subst}
use Rattle.shared_words.specs.Publishing.{with_next}
use Rattle.progress_words.specs.Tokens.{written_by}
use Rattle.staging.specs.Whose.{KeepsKnown}
use Rattle.staging.proofs.KeyPublished.{are_published, may_publish}
use Rattle.staging.proofs.Known.{known_counted, known_next, known_on}
use Rattle.staging.proofs.keying.publish_key.Goals as goal

pub publish-requires-clause-next : goal.publish-requires-clause-next
publish-requires-clause-next g c =
    may_publish g.K.Naming.names c.args.server.now c.args.change.now _ _ c.args.tables.now c.args._areas.now c.requires.tables c.generation-generation.ensures.sound c.requires.fits c.requires.key c.requires.replaced c.exports_that_stay_are_staged.ensures c.args.tables.now.exports c.requires.names

pub returns-clause-tables : goal.returns-clause-tables
returns-clause-tables g c =
    (are_published g.K.Naming.names c.args.server.now c.args.change.now _ _ c.args.tables.now c.args._areas.now c.requires.tables c.generation-generation.ensures.sound c.requires.fits c.requires.key c.requires.replaced
    _ c.publish.result c.args.tables.now.exports c.requires.names c.exports_that_stay_are_staged.ensures c.roots_keep_index.ensures c.counters_keep_index.ensures c.publish.ensures.token c.publish.ensures.owned c.requires.index refl refl refl c.publish.ensures.published).tables

pub returns-clause-published : goal.returns-clause-published
returns-clause-published g c =
    (are_published g.K.Naming.names c.args.server.now c.args.change.now _ _ c.args.tables.now c.args._areas.now c.requires.tables c.generation-generation.ensures.sound c.requires.fits c.requires.key c.requires.replaced
    _ c.publish.result c.args.tables.now.exports c.requires.names c.exports_that_stay_are_staged.ensures c.roots_keep_index.ensures c.counters_keep_index.ensures c.publish.ensures.token c.publish.ensures.owned c.requires.index refl refl refl c.publish.ensures.published).published

pub returns-clause-known : goal.returns-clause-known
returns-clause-known g c =
    let done = c.publish.ensures.published in
    let before = written_by c.args.tables.now.writer in
    subst (KeepsKnown before) (sym done.view) (known_on before (with_next _ before) _ (known_next before _) (known_counted (with_next _ before) done.counter))
