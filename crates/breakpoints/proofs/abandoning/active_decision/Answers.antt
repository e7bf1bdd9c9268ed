-- The writer loads the decision of the active index, and knows by it what the newest generation traces.
use Rattle.std.proofs.Common.{ℕ, ◌<◌, sym, ap, subst, ◌∙◌}
use Rattle.area_core.specs.Map.{breakpoint_place, word_at}
use Rattle.shared_words.specs.declared.view.View.{View}
use Rattle.shared_words.specs.declared.view.View.TheVariants.{Writer}
use Rattle.shared_words.specs.declared.view.WriterView.{WriterView}
use Rattle.shared_words.specs.Seats.{writer_of}
use Rattle.shared_words.specs.Publishing.{MayLoadWord}
use Rattle.shared_words.proofs.WriterSeats.{writer_loads_word}
use Rattle.progress_words.specs.Tokens.{written_by}
use Rattle.progress_words.proofs.Rooted.{some_published}
use Rattle.breakpoints.proofs.TakenBack.{for, may_load, says_traced}
use Rattle.breakpoints.proofs.abandoning.active_decision.Goals as goal

pub decision_word-requires-clause-bp : goal.decision_word-requires-clause-bp
decision_word-requires-clause-bp g c = subst (λ (n : ℕ). n < 2) (sym c.newest_root-root.ensures.root.bp) c.requires.indices.fits

pub decision_word-requires-clause-block : goal.decision_word-requires-clause-block
decision_word-requires-clause-block g c = (for (written_by c.args.writer.now) c.args.at c.requires.patchable c.requires.indices).0

pub decision_word-requires-clause-function : goal.decision_word-requires-clause-function
decision_word-requires-clause-function g c = (for (written_by c.args.writer.now) c.args.at c.requires.patchable c.requires.indices).1

pub load_word-word-requires-clause-may : goal.load_word-word-requires-clause-may
load_word-word-requires-clause-may g c =
    let w = written_by c.args.writer.now in
    let root = c.newest_root-root.ensures in
    let place = c.decision_word.ensures ∙ ap (λ (n : ℕ). breakpoint_place n c.args.at.area.block c.args.at.function) root.root.bp in
    subst (λ (z : ℕ × View). MayLoadWord z.0 z.1) (λ i. (sym place i, (sym (ap (λ (v : WriterView). Writer v) root.view) ∙ sym root.token.view) i))
    (may_load w c.args.at c.requires.patchable c.requires.indices (some_published _ _ c.args.writer.now c.requires.token))

pub returns-clause-view : goal.returns-clause-view
returns-clause-view g c =
    let same = writer_loads_word _ _ _ _ c.newest_root-root.ensures.token.view c.load_word-word.ensures.view in
    ap writer_of same ∙ c.newest_root-root.ensures.view

pub returns-clause-value : goal.returns-clause-value
returns-clause-value g c =
    let w = written_by c.args.writer.now in
    let root = c.newest_root-root.ensures in
    let place = c.decision_word.ensures ∙ ap (λ (n : ℕ). breakpoint_place n c.args.at.area.block c.args.at.function) root.root.bp in
    let own = c.load_word-word.ensures.own (written_by c.newest_root-root.new.writer) root.token.view in
    says_traced w c.args.at c.requires.patchable c.requires.indices c.load_word-word.result (own ∙ (λ i. word_at (root.view i).words (place i)))
