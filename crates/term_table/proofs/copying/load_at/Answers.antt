-- The word may be loaded, and is the one that the writer has stored.
use Rattle.std.proofs.Common.{ℕ, sym, ap, subst, ◌∙◌}
use Rattle.area_core.specs.Map.{word_at}
use Rattle.shared_words.specs.declared.view.View.{View}
use Rattle.shared_words.specs.Publishing.{MayLoadWord}
use Rattle.progress_words.specs.Tokens.{written_by}
use Rattle.progress_words.proofs.Rooted.{some_published}
use Rattle.term_table.proofs.Copies.{may_load}
use Rattle.term_table.proofs.copying.load_at.Goals as goal

pub load_word-requires-clause-may : goal.load_word-requires-clause-may
load_word-requires-clause-may g c =
    subst (λ (z : ℕ × View). MayLoadWord z.0 z.1) (λ i. (sym c.term_word.ensures i, sym c.requires.token.view i))
    (may_load (written_by c.args.writer.now) c.args.table c.args.at (some_published _ _ c.args.writer.now c.requires.token) c.requires.table c.requires.active c.requires.at)

pub returns-clause-word : goal.returns-clause-word
returns-clause-word g c = c.load_word.ensures.own (written_by c.args.writer.now) c.requires.token.view ∙ ap (word_at (written_by c.args.writer.now).words) c.term_word.ensures
