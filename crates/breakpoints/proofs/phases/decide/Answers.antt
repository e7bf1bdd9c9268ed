-- The decision may be stored in the staging index.
use Rattle.std.proofs.Common.{ℕ, ◌+◌, ◌%◌, sym, ap, subst, ◌∙◌}
use Rattle.area_core.specs.Map.{breakpoint_place}
use Rattle.shared_words.specs.declared.view.WriterView.{WriterView}
use Rattle.shared_words.specs.Publishing.{MayStoreWord}
use Rattle.progress_words.specs.Tokens.{written_by}
use Rattle.breakpoints.proofs.Decided.{may_decide}
use Rattle.breakpoints.proofs.phases.decide.Goals as goal

pub store_word-requires-clause-may : goal.store_word-requires-clause-may
store_word-requires-clause-may g c =
    let w = written_by c.args.writer.now in
    let root = c.newest_root-root.ensures in
    let place = c.decision_word-word.ensures ∙ ap (λ (n : ℕ). breakpoint_place ((n + 1) % 2) c.args.at.area.block c.args.at.function) root.root.bp in
    subst (λ (z : WriterView × ℕ). MayStoreWord z.0 z.1 c.decision_value.result) (λ i. (sym root.view i, sym place i))
    (may_decide w c.args.at c.decision_value.result c.requires.patchable c.requires.indices c.requires.unread)
