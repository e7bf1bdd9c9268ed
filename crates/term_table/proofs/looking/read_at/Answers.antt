-- The word may be loaded, and is one under the generation that is held.
use Rattle.std.proofs.Common.{◌≡◌, ℕ, sym, ap, subst, ◌∙◌}
use Rattle.area_core.specs.Map.{term_place}
use Rattle.shared_words.specs.declared.view.View.{View}
use Rattle.shared_words.specs.Seats.{member_of}
use Rattle.shared_words.specs.Publishing.{MayLoadWord, WordTells, word_found, with_block_word}
use Rattle.progress_words.specs.Tokens.{view_of}
use Rattle.term_table.specs.Looked.{HasReadWord}
use Rattle.term_table.proofs.Lookups.{may_read, reads_word}
use Rattle.term_table.proofs.looking.read_at.Goals as goal

pub load_word-requires-clause-may : goal.load_word-requires-clause-may
load_word-requires-clause-may g c =
    subst (λ (z : ℕ × View). MayLoadWord z.0 z.1) (λ i. (sym c.term_word.ensures i, sym c.requires.token.view i)) (may_read (view_of c.args.member.now) c.args.table c.args.at c.requires.may c.requires.at)

pub returns-clause-read : goal.returns-clause-read
returns-clause-read g c =
    let m = view_of c.args.member.now in
    let found = c.load_word.result in
    let tells = subst (λ (z : View × ℕ). WordTells z.0 z.1 found) (λ i. (c.requires.token.view i, c.term_word.ensures i)) c.load_word.ensures.tells in
    let view_is : view_of c.load_word.new.pass ≡ with_block_word (term_place c.args.table c.args.at) found m = ap member_of c.load_word.ensures.view ∙ (λ i. member_of (word_found (c.term_word.ensures i) found (c.requires.token.view i))) in
    subst (HasReadWord c.args.table c.args.at found m) (sym view_is) (reads_word m c.args.table c.args.at found c.requires.may tells)
