-- Behind the beginning the writer has stored nothing.
use Rattle.std.proofs.Common.{◌<◌, ◌^◌, length, ap, sym, subst, ◌∙◌}
use Rattle.shared_words.specs.declared.seats.Writer as writers
use Rattle.progress_words.specs.Tokens.{written_by}
use Rattle.staging.specs.Whose.{KeepsKnown}
use Rattle.staging.proofs.PatchNeeds.{need_none, need_on}
use Rattle.staging.proofs.TraceRounds.{traced_from}
use Rattle.staging.proofs.tracing.begin_trace.Goals as goal

pub go_on-requires-clause-names : goal.go_on-requires-clause-names
go_on-requires-clause-names g c = c.begin_patch.ensures.exports ∙ c.requires.names

pub go_on-requires-clause-room : goal.go_on-requires-clause-room
go_on-requires-clause-room g c = subst (λ (w : writers.Writer). length (written_by w).published < 2 ^ 40) (sym c.begin_patch.ensures.writer) c.requires.room

pub returns-clause-exports : goal.returns-clause-exports
returns-clause-exports g c = c.go_on.ensures.exports ∙ c.begin_patch.ensures.exports

pub returns-clause-answers : goal.returns-clause-answers
returns-clause-answers g c =
    traced_from g.K.Naming.names c.args.server.now c.args.change.now c.args.tables.now c.begin_patch.new.tables c.go_on.new.tables c.go_on.result.0 c.go_on.result.1
    (ap (λ (w : writers.Writer). (written_by w).published) c.begin_patch.ensures.writer)
    (need_none c.args.tables.now c.begin_patch.new.tables c.requires.rest.staged.patch c.begin_patch.ensures.writer)
    (need_on c.args.tables.now c.begin_patch.new.tables c.go_on.new.tables (need_none c.args.tables.now c.begin_patch.new.tables c.requires.rest.staged.patch c.begin_patch.ensures.writer) c.go_on.ensures.need) c.go_on.ensures.answers

pub returns-clause-need : goal.returns-clause-need
returns-clause-need g c =
    need_on c.args.tables.now c.begin_patch.new.tables c.go_on.new.tables (need_none c.args.tables.now c.begin_patch.new.tables c.requires.rest.staged.patch c.begin_patch.ensures.writer) c.go_on.ensures.need

pub returns-clause-known : goal.returns-clause-known
returns-clause-known g c = subst (λ (w : writers.Writer). KeepsKnown (written_by w) (written_by c.go_on.new.tables.writer)) c.begin_patch.ensures.writer c.go_on.ensures.known
