-- The word may be stored, leads the name to the function, and leaves the indices those of the writer.
use Rattle.std.proofs.Common.{ℕ, sym, ap, subst, ◌∙◌}
use Rattle.area_core.specs.Map.{block_place}
use Rattle.shared_words.specs.Seats.{writer_of}
use Rattle.shared_words.specs.Publishing.{MayStoreWord, with_word}
use Rattle.progress_words.specs.Tokens.{written_by}
use Rattle.code_index.specs.Staging.{block_of, Stages, IsIndexOf}
use Rattle.code_index.proofs.Words.{stages_set}
use Rattle.code_index.proofs.Owned.{goes_fits}
use Rattle.code_index.proofs.Copying.{may_stage, owned_staged, staged_block}
use Rattle.code_index.proofs.index.CodeIndex.set.Goals as goal

pub store_word-requires-clause-may : goal.store_word-requires-clause-may
store_word-requires-clause-may g c =
    let w = written_by c.args.writer.now in
    let place = c.index_word-word.ensures ∙ ap (λ (n : ℕ). block_place n c.args.entry) (c.block.ensures ∙ ap block_of c.self.view_is ∙ staged_block c.args.self.now w c.requires.staged c.requires.owned.staged) in
    subst (λ (n : ℕ). MayStoreWord w n c.code_word.result) (sym place) (may_stage c.args.self.now w c.args.entry c.code_word.result c.requires.entry c.requires.owned)

pub returns-clause-staged : goal.returns-clause-staged
returns-clause-staged g c = λ p q staged with.
    let w = written_by c.args.writer.now in
    let place = c.index_word-word.ensures ∙ ap (λ (n : ℕ). block_place n c.args.entry) (c.block.ensures ∙ ap block_of c.self.view_is) in
    subst (Stages c.args.self.now q) (sym (ap writer_of c.store_word.ensures.view))
    (stages_set c.args.self.now w c.args.entry c.index_word-word.result c.code_word.result c.args.to p q c.requires.owned.all (goes_fits c.args.self.now w c.requires.owned.staged) c.requires.entry place c.code_word.ensures staged with)

pub returns-clause-owned : goal.returns-clause-owned
returns-clause-owned g c =
    let w = written_by c.args.writer.now in
    let place = c.index_word-word.ensures ∙ ap (λ (n : ℕ). block_place n c.args.entry) (c.block.ensures ∙ ap block_of c.self.view_is ∙ staged_block c.args.self.now w c.requires.staged c.requires.owned.staged) in
    subst (IsIndexOf c.args.self.now) (sym (ap writer_of c.store_word.ensures.view ∙ ap (λ (n : ℕ). with_word n c.code_word.result w) place)) (owned_staged c.args.self.now w c.args.entry c.code_word.result c.requires.entry c.requires.owned)
