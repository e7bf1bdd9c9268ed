-- What each word makes of the terms of those behind it.
use Rattle.std.proofs.Common.{map, ap, ◌∙◌, IsTrue}
use Rattle.term_core.specs.ImageWords.{is_image_word}
use Rattle.term_core.specs.Plain.{plain}
use Rattle.term_core.proofs.TakenTerms.{passed_none, passed_more, passed_all, passed_next}
use Rattle.term_core.proofs.image_reading.terms_in.Goals as goal

-- at the start none was passed
pub loop-word-init : goal.loop-word-init
loop-word-init c =
    passed_none c.args.words.now c.into_iter-word-iterator.result.iter.rest.now (map plain c.new-terms.result)
    (ap (λ it. it.iter.rest.now) c.into_iter-word-iterator.ensures.into_iter_gives ∙ ap (λ it. it.rest.now) c.rev-word-items.ensures.source ∙ c.iter.ensures.rest) (ap (map plain) c.new-terms.ensures)

-- each may stand in an image
pub take_word-requires : goal.take_word-requires
take_word-requires c =
    passed_next (λ word. IsTrue (is_image_word word)) c.args.words.now c.loop-word.word-iterator.iter.rest.now c.next.new.self.iter.rest.now c.in-Some.word.now (map plain c.loop-word.terms)
    c.loop-word.invariant c.in-Some.ensures.steps c.requires

-- one more
pub loop-word-preserved : goal.loop-word-preserved
loop-word-preserved c =
    passed_more c.args.words.now c.loop-word.word-iterator.iter.rest.now c.next.new.self.iter.rest.now c.in-Some.word.now (map plain c.loop-word.terms) (map plain c.take_word.new.terms)
    c.loop-word.invariant c.in-Some.ensures.steps c.in_ok-take_word.ensures

-- at the end all were
pub returns : goal.returns
returns c = passed_all c.args.words.now c.loop-word.word-iterator.iter.rest.now (map plain c.loop-word.terms) c.loop-word.invariant c.in-None.ensures.steps.0
