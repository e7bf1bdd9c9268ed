-- The area is live and published, and is then retired as those before it.
use Rattle.std.proofs.Common.{◌≡◌, List, length, sym, ap, subst, ◌∙◌}
use Rattle.area_core.specs.declared.table.Published.{Published}
use Rattle.area_core.specs.Map.{retire_place}
use Rattle.shared_words.specs.declared.view.WriterView.{WriterView}
use Rattle.shared_words.specs.Publishing.{with_word}
use Rattle.progress_words.specs.Tokens.{written_by}
use Rattle.literal_areas.specs.Blocks.{IsLive, with_retired}
use Rattle.literal_areas.specs.Written.{IsPublished}
use Rattle.area_tests.proofs.Retiring.{one_live, one_published, one_retired}
use Rattle.area_tests.proofs.several.retire_next.Goals as goal

pub retire-requires-clause-owned : goal.retire-requires-clause-owned
retire-requires-clause-owned c = c.requires.retiring.owned

pub retire-requires-clause-live : goal.retire-requires-clause-live
retire-requires-clause-live c = subst (IsLive c.args.pools.now) (sym c.area_of-area.ensures) (one_live c.args.at c.args.pools.now (written_by c.args.writer.now) c.requires.few c.requires.retiring)

pub retire-requires-clause-published : goal.retire-requires-clause-published
retire-requires-clause-published c = subst (IsPublished (written_by c.args.writer.now)) (sym c.area_of-area.ensures) (one_published c.args.at c.args.pools.now (written_by c.args.writer.now) c.requires.few c.requires.retiring)

pub returns-clause-notes : goal.returns-clause-notes
returns-clause-notes c = ap (λ (w : WriterView). w.notes) c.retire.ensures.stored

pub returns-clause-retiring : goal.returns-clause-retiring
returns-clause-retiring c =
    let w = written_by c.args.writer.now in
    let two : length w.published ≡ 2 = ap (λ (xs : List Published). length xs) c.requires.retiring.published in
    one_retired c.args.at c.requires.few c.args.pools.now c.retire.new.self w (written_by c.retire.new.writer) c.requires.retiring
    (c.retire.ensures.retired ∙ (λ i. with_retired (c.area_of-area.ensures i) (two i) c.args.pools.now))
    (c.retire.ensures.stored ∙ (λ i. with_word (retire_place (c.area_of-area.ensures i).block) (two i) w))
    c.retire.ensures.owned
