-- What is published since the change was announced is published since before.
use Rattle.std.proofs.Common.{ap, sym, subst, ◌∙◌, ◌<◌, ◌^◌, length}
use Rattle.shared_words.specs.declared.view.WriterView.{WriterView}
use Rattle.progress_words.specs.Tokens.{written_by}
use Rattle.server_core.specs.Decided.{change_made}
use Rattle.staging.proofs.Announced.{clear_still, keeps_from}
use Rattle.staging.proofs.StagedEnds.{published_from}
use Rattle.staging.proofs.Known.{waits_same}
use Rattle.staging.proofs.renewing.publish_same.Goals as goal

pub publish_announced-requires-clause-clear : goal.publish_announced-requires-clause-clear
publish_announced-requires-clause-clear g c =
    clear_still c.args.change.now (written_by c.args.tables.now.writer) (written_by c.announce-dropped.new.tables.writer) c.announce-dropped.ensures.same c.requires.clear

pub publish_announced-requires-clause-room : goal.publish_announced-requires-clause-room
publish_announced-requires-clause-room g c = subst (λ (w : WriterView). length w.published < 2 ^ 40) (sym c.announce-dropped.ensures.same) c.requires.room

pub returns-clause-published : goal.returns-clause-published
returns-clause-published g c =
    published_from g.K.Naming.names (change_made c.args.server.now c.args.change.now).state c.args.tables.now c.announce-dropped.new.tables c.publish_announced.new.tables c.publish_announced.result
    (ap (λ (w : WriterView). w.published) c.announce-dropped.ensures.same) c.publish_announced.ensures.published

pub returns-clause-notes : goal.returns-clause-notes
returns-clause-notes g c = c.publish_announced.ensures.notes ∙ ap (λ (w : WriterView). w.notes) c.announce-dropped.ensures.same

pub returns-clause-waits : goal.returns-clause-waits
returns-clause-waits g c = λ pair had.
    c.publish_announced.ensures.waits pair (waits_same (written_by c.args.tables.now.writer) (written_by c.announce-dropped.new.tables.writer) (ap (λ (w : WriterView). w.pairs) c.announce-dropped.ensures.same) pair had)

pub returns-clause-drop : goal.returns-clause-drop
returns-clause-drop g c =
    keeps_from c.args.change.now (written_by c.args.tables.now.writer) (written_by c.announce-dropped.new.tables.writer) (written_by c.publish_announced.new.tables.writer) c.announce-dropped.ensures.same c.publish_announced.ensures.drop
