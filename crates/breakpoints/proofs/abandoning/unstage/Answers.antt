-- What the active index says is stored in the other one, and the indices are at rest.
use Rattle.std.proofs.Common.{sym, ap, subst, ◌∙◌}
use Rattle.std.specs.Prelude.{Some}
use Rattle.area_core.specs.Stores.{entry_word}
use Rattle.shared_words.specs.declared.view.WriterView.{WriterView}
use Rattle.shared_words.specs.Publishing.{with_word}
use Rattle.progress_words.specs.Tokens.{written_by}
use Rattle.breakpoints.specs.Indices.{AreIndices, IsStagingUnread, decision_place, staging_breakpoints}
use Rattle.breakpoints.specs.Patches.{IsPatchable}
use Rattle.breakpoints.proofs.PhaseSteps.{decide_patched, decide_rest}
use Rattle.breakpoints.proofs.TakenBack.{decided_words}
use Rattle.breakpoints.proofs.abandoning.unstage.Goals as goal

pub decide-requires-clause-patchable : goal.decide-requires-clause-patchable
decide-requires-clause-patchable g c = subst (λ (w : WriterView). IsPatchable w c.args.at) (sym c.active_decision-on.ensures.view) c.requires.patchable

pub decide-requires-clause-indices : goal.decide-requires-clause-indices
decide-requires-clause-indices g c = subst (AreIndices (Some c.args.at)) (sym c.active_decision-on.ensures.view) c.requires.indices

pub decide-requires-clause-unread : goal.decide-requires-clause-unread
decide-requires-clause-unread g c = subst IsStagingUnread (sym c.active_decision-on.ensures.view) c.requires.unread

pub returns-clause-rest : goal.returns-clause-rest
returns-clause-rest g c =
    let stored = c.decide.ensures.stored ∙ ap (λ (v : WriterView). with_word (decision_place (staging_breakpoints v) c.args.at) (entry_word c.active_decision-on.result) v) c.active_decision-on.ensures.view in
    decide_rest c.args.at c.active_decision-on.result (written_by c.args.writer.now) (written_by c.decide.new.writer) c.requires.patchable c.requires.indices c.requires.unread stored (sym c.active_decision-on.ensures.value)

pub returns-clause-patched : goal.returns-clause-patched
returns-clause-patched g c =
    let stored = c.decide.ensures.stored ∙ ap (λ (v : WriterView). with_word (decision_place (staging_breakpoints v) c.args.at) (entry_word c.active_decision-on.result) v) c.active_decision-on.ensures.view in
    decide_patched c.args.at c.active_decision-on.result (written_by c.args.writer.now) (written_by c.decide.new.writer) c.requires.patchable c.requires.indices c.requires.unread stored

pub returns-clause-words : goal.returns-clause-words
returns-clause-words g c =
    let stored = c.decide.ensures.stored ∙ ap (λ (v : WriterView). with_word (decision_place (staging_breakpoints v) c.args.at) (entry_word c.active_decision-on.result) v) c.active_decision-on.ensures.view in
    decided_words (written_by c.args.writer.now) c.args.at c.requires.patchable c.requires.indices c.active_decision-on.result (written_by c.decide.new.writer) stored
