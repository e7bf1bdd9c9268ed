-- The store of the root is allowed, and the words then stand for the new state.
use Rattle.std.proofs.Common.{refl, ap}
use Rattle.shared_words.specs.declared.view.WriterView.{WriterView}
use Rattle.progress_words.specs.Tokens.{written_by}
use Rattle.change_laws.specs.Changes.{changed_state}
use Rattle.staging.specs.Renewed.{renewed}
use Rattle.staging.specs.Upcoming.{areas_in}
use Rattle.staging.proofs.Announced.{announced_renewed, but_looks, clear_of, keeps_drop}
use Rattle.staging.proofs.Renewals.{are_renewed, may_renew}
use Rattle.staging.proofs.Known.{waits_same}
use Rattle.staging.proofs.renewing.publish_announced.Goals as goal
use Rattle.server_core.specs.Generations.{generation_of}

pub publish_next-requires-clause-next : goal.publish_next-requires-clause-next
publish_next-requires-clause-next g c =
    may_renew g.K.Naming.names c.args.server.now (changed_state c.args.server.now c.args.change.now) c.args.shared.now.table.shared.table_id c.args.shared.now.table.shared.key c.args.tables.now c.requires.tables
    (announced_renewed g.K.Naming.names c.args.server.now c.args.shared.now.table.shared.table_id c.args.shared.now.table.shared.key c.args.tables.now c.generation-generation.ensures.sound c.requires.tables c.args.change.now c.requires.fits c.requires.renewal c.requires.announced) c.requires.announced.staged.patch
    c.exports_that_stay_are_staged.ensures c.args.tables.now.exports c.requires.names

pub publish_next-requires-clause-clear : goal.publish_next-requires-clause-clear
publish_next-requires-clause-clear g c = clear_of c.args.change.now c.args.dropped (written_by c.args.tables.now.writer) c.requires.dropped c.requires.clear

pub returns-clause-tables : goal.returns-clause-tables
returns-clause-tables g c =
    (are_renewed g.K.Naming.names c.args.server.now (changed_state c.args.server.now c.args.change.now) c.args.shared.now.table.shared.table_id c.args.shared.now.table.shared.key c.args.tables.now c.requires.tables
    (announced_renewed g.K.Naming.names c.args.server.now c.args.shared.now.table.shared.table_id c.args.shared.now.table.shared.key c.args.tables.now c.generation-generation.ensures.sound c.requires.tables c.args.change.now c.requires.fits c.requires.renewal c.requires.announced) c.requires.announced.staged.patch
    c.args.tables.now.exports (record c.args.tables.now { writer = c.publish_next.new.writer }) c.publish_next.result
    (record {
      named = c.requires.names;
      alike = c.exports_that_stay_are_staged.ensures;
      by_roots = c.roots_keep_index.ensures;
      tables_by_roots = c.roots_keep_tables.ensures;
      nothing = c.requires.announced.staged;
      index = refl;
      terms = refl;
      pools = refl;
      patch = refl;
      token = c.publish_next.ensures.token;
      stored = but_looks c.args.dropped (written_by c.args.tables.now.writer) _ (written_by c.publish_next.new.writer) c.publish_next.ensures.published;
      number = c.publish_next.ensures.number;
    })).tables

pub returns-clause-published : goal.returns-clause-published
returns-clause-published g c =
    (are_renewed g.K.Naming.names c.args.server.now (changed_state c.args.server.now c.args.change.now) c.args.shared.now.table.shared.table_id c.args.shared.now.table.shared.key c.args.tables.now c.requires.tables
    (announced_renewed g.K.Naming.names c.args.server.now c.args.shared.now.table.shared.table_id c.args.shared.now.table.shared.key c.args.tables.now c.generation-generation.ensures.sound c.requires.tables c.args.change.now c.requires.fits c.requires.renewal c.requires.announced) c.requires.announced.staged.patch
    c.args.tables.now.exports (record c.args.tables.now { writer = c.publish_next.new.writer }) c.publish_next.result
    (record {
      named = c.requires.names;
      alike = c.exports_that_stay_are_staged.ensures;
      by_roots = c.roots_keep_index.ensures;
      tables_by_roots = c.roots_keep_tables.ensures;
      nothing = c.requires.announced.staged;
      index = refl;
      terms = refl;
      pools = refl;
      patch = refl;
      token = c.publish_next.ensures.token;
      stored = but_looks c.args.dropped (written_by c.args.tables.now.writer) _ (written_by c.publish_next.new.writer) c.publish_next.ensures.published;
      number = c.publish_next.ensures.number;
    })).published

pub returns-clause-notes : goal.returns-clause-notes
returns-clause-notes g c = ap (λ (w : WriterView). w.notes) (but_looks c.args.dropped (written_by c.args.tables.now.writer) _ (written_by c.publish_next.new.writer) c.publish_next.ensures.published)

pub returns-clause-waits : goal.returns-clause-waits
returns-clause-waits g c =
    waits_same (written_by c.args.tables.now.writer) (written_by c.publish_next.new.writer)
    (ap (λ (w : WriterView). w.pairs) (but_looks c.args.dropped (written_by c.args.tables.now.writer) _ (written_by c.publish_next.new.writer) c.publish_next.ensures.published))

pub returns-clause-drop : goal.returns-clause-drop
returns-clause-drop g c =
    keeps_drop c.args.change.now c.args.dropped (written_by c.args.tables.now.writer) (written_by c.publish_next.new.writer) (renewed (written_by c.args.tables.now.writer) (generation_of c.args.tables.now.exports (changed_state c.args.server.now c.args.change.now)) (areas_in c.args.tables.now.pools))
    c.requires.dropped c.publish_next.ensures.published c.publish_next.ensures.agree
