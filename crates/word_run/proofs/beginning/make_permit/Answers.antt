use Rattle.std.proofs.Common.{[], All, sym, ap, subst, ◌∙◌}
use Rattle.change_laws.specs.Names.{IsNumbered}
use Rattle.progress_words.specs.Tokens.{written_by}
use Rattle.script_core.specs.declared.script.Script.{Script}
use Rattle.script_core.specs.Sound.{IsScript}
use Rattle.server_core.specs.ServerState.{empty_state}
use Rattle.shared_words.specs.declared.seats.Writer as writers
use Rattle.staging.specs.Stages.{AreAtRest}
use Rattle.word_permit.specs.Runs.{IsBegunWith}
use Rattle.word_run.specs.Beginning.{exports_after}
use Rattle.word_run.proofs.Made.{begun_with}
use Rattle.word_run.proofs.Names.{texts_numbered}
use Rattle.word_run.proofs.beginning.make_permit.Goals as goal

-- the writer made no step
pub new-requires : goal.new-requires
new-requires g c = record { first = c.requires.writer.first }

-- the copy is the script
pub new-requires-2-clause-script : goal.new-requires-2-clause-script
new-requires-2-clause-script g c = subst IsScript (sym c.in_ok-copy.ensures) c.requires.script

pub new-requires-2-clause-run : goal.new-requires-2-clause-run
new-requires-2-clause-run g c =
    subst (λ (s : Script). IsBegunWith c.in_ok-tables.tables s g.N.RunName.run) (sym c.in_ok-copy.ensures)
    (begun_with c.args.writer c.args.script.now c.in_ok-tables.tables c.in_ok-tables.ensures.tables g.N.RunName.run c.requires.writer.of_run)

-- each name that a text exports has a number
pub new-requires-2-clause-texts : goal.new-requires-2-clause-texts
new-requires-2-clause-texts g c =
    subst (λ (s : Script). All (IsNumbered g.K.Naming.names) s.modules) (sym c.in_ok-copy.ensures)
    (texts_numbered c.args.script.now.names c.args.script.now.modules c.args.functions.now g.K.Naming.names c.requires.functions c.requires.names)

-- the names of the tables are those that are picked
pub new-requires-2-clause-exports : goal.new-requires-2-clause-exports
new-requires-2-clause-exports g c = c.in_ok-tables.ensures.exports ∙ c.in_ok-exports.ensures ∙ ap (exports_after []) c.as_slice.ensures ∙ sym c.requires.names

pub new-requires-2-clause-rest : goal.new-requires-2-clause-rest
new-requires-2-clause-rest g c =
    subst (λ names. AreAtRest names empty_state c.in_ok-tables.tables) (c.in_ok-exports.ensures ∙ ap (exports_after []) c.as_slice.ensures ∙ sym c.requires.names) c.in_ok-tables.ensures.rest

-- the writer of the tables is this one
pub new-requires-2-clause-opening : goal.new-requires-2-clause-opening
new-requires-2-clause-opening g c = ap (λ (w : writers.Writer). (written_by w).published) c.in_ok-tables.ensures.writer ∙ c.requires.writer.first.published

pub new-requires-2-clause-notes : goal.new-requires-2-clause-notes
new-requires-2-clause-notes g c = ap (λ (w : writers.Writer). (written_by w).notes) c.in_ok-tables.ensures.writer ∙ c.requires.writer.notes

pub new-requires-2-clause-drops : goal.new-requires-2-clause-drops
new-requires-2-clause-drops g c = ap (λ (w : writers.Writer). (written_by w).looks.dropped) c.in_ok-tables.ensures.writer ∙ c.requires.writer.drops

pub returns-clause-script_is : goal.returns-clause-script_is
returns-clause-script_is g c = c.in_ok-permit.ensures.begun.script_is ∙ c.in_ok-copy.ensures

pub returns-clause-journal : goal.returns-clause-journal
returns-clause-journal g c = c.in_ok-permit.ensures.begun.journal
