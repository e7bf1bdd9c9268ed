-- The decision may be cleared.
use Rattle.std.proofs.Common.{ℕ, sym, subst}
use Rattle.shared_words.specs.Publishing.{MayStoreWord}
use Rattle.progress_words.specs.Tokens.{written_by}
use Rattle.breakpoints.proofs.Clears.{may_clear}
use Rattle.breakpoints.proofs.clearing.clear_decision.Goals as goal

pub store_word-requires-clause-may : goal.store_word-requires-clause-may
store_word-requires-clause-may g c =
    let w = written_by c.args.writer.now in
    subst (λ (n : ℕ). MayStoreWord w n 0) (sym c.decision_word.ensures) (may_clear w c.args.bp c.args.block c.args.function c.requires.bp c.requires.block c.requires.function c.requires.areas c.requires.called)
