-- The word may be stored.
use Rattle.std.proofs.Common.{ℕ, sym, ap, subst, ◌∙◌}
use Rattle.shared_words.specs.Seats.{writer_of}
use Rattle.shared_words.specs.Publishing.{MayStoreWord, with_word}
use Rattle.progress_words.specs.Tokens.{written_by}
use Rattle.term_table.proofs.Copies.{may_store}
use Rattle.term_table.proofs.copying.store_at.Goals as goal

pub store_word-requires-clause-may : goal.store_word-requires-clause-may
store_word-requires-clause-may g c =
    subst (λ (n : ℕ). MayStoreWord (written_by c.args.writer.now) n c.args.value) (sym c.term_word.ensures) (may_store (written_by c.args.writer.now) c.args.table c.args.at c.args.value c.requires.at c.requires.free)

pub returns-clause-stored : goal.returns-clause-stored
returns-clause-stored g c = ap writer_of c.store_word.ensures.view ∙ ap (λ (n : ℕ). with_word n c.args.value (written_by c.args.writer.now)) c.term_word.ensures
