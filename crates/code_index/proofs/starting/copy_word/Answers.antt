-- The word may be loaded and stored, and leads the name to what the newest generation exports.
use Rattle.std.proofs.Common.{ℕ, sym, ap, subst, ◌∙◌}
use Rattle.area_core.specs.Map.{block_place}
use Rattle.shared_words.specs.declared.view.View.{View}
use Rattle.shared_words.specs.declared.view.WriterView.{WriterView}
use Rattle.shared_words.specs.Seats.{writer_of}
use Rattle.shared_words.specs.Publishing.{MayLoadWord, MayStoreWord, WordTells, with_word}
use Rattle.shared_words.proofs.WriterSeats.{writer_loads_word}
use Rattle.progress_words.specs.Tokens.{written_by}
use Rattle.code_index.specs.declared.index.Staging.TheVariants.{Nothing}
use Rattle.progress_words.proofs.Rooted.{some_published}
use Rattle.code_index.proofs.Copying.{may_load, load_leads, may_stage}
use Rattle.code_index.proofs.starting.copy_word.Goals as goal

pub load_word-word-requires-clause-may : goal.load_word-word-requires-clause-may
load_word-word-requires-clause-may g c =
    let place = c.index_word.ensures ∙ ap (λ (n : ℕ). block_place n c.args.entry) c.requires.active in
    subst (λ (z : ℕ × View). MayLoadWord z.0 z.1) (λ i. (sym place i, sym c.requires.token.view i))
    (may_load (written_by c.args.writer.now) c.args.entry (some_published _ _ c.args.writer.now c.requires.token) c.requires.owned.fits c.requires.entry)

pub store_word-requires-clause-may : goal.store_word-requires-clause-may
store_word-requires-clause-may g c =
    let place = c.index_word-2.ensures ∙ ap (λ (n : ℕ). block_place n c.args.entry) c.requires.staging in
    let same = writer_loads_word _ _ _ _ c.requires.token.view c.load_word-word.ensures.view in
    subst (λ (z : WriterView × ℕ). MayStoreWord z.0 z.1 c.load_word-word.result) (λ i. (sym (ap writer_of same) i, sym place i))
    (may_stage Nothing (written_by c.args.writer.now) c.args.entry c.load_word-word.result c.requires.entry c.requires.owned)

pub returns-clause-copied : goal.returns-clause-copied
returns-clause-copied g c =
    let place = c.index_word.ensures ∙ ap (λ (n : ℕ). block_place n c.args.entry) c.requires.active in
    let found = c.load_word-word.result in
    let same = writer_loads_word _ _ _ _ c.requires.token.view c.load_word-word.ensures.view in
    record {
      value = found;
      leads = load_leads (written_by c.args.writer.now) c.args.entry found (some_published _ _ c.args.writer.now c.requires.token) c.requires.entry
          (subst (λ (z : View × ℕ). WordTells z.0 z.1 found) (λ i. (c.requires.token.view i, place i)) c.load_word-word.ensures.tells);
      view = ap writer_of c.store_word.ensures.view ∙ (λ i. with_word (c.index_word-2.ensures i) found (writer_of (same i)));
    }
