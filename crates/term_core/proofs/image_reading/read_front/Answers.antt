-- The one term that the words are found to be.
use Rattle.std.proofs.Common.{map, sym, ap, ◌∙◌}
use Rattle.std.proofs.lemmas.List.{length-take-le}
use Rattle.term_core.specs.Plain.{plain}
use Rattle.term_core.proofs.ImageReadings.{found_within, found_fit, found_one, last_one, none_is_not_one}
use Rattle.term_core.proofs.image_reading.read_front.Goals as goal

-- the words are there
pub slice_bounds-terms_in-end : goal.slice_bounds-terms_in-end
slice_bounds-terms_in-end c = sym (length-take-le c.args.len c.args.words.now (found_within c.args.words.now 1 c.args.len c.requires))

-- each may stand in an image
pub terms_in-requires : goal.terms_in-requires
terms_in-requires c = found_fit c.args.words.now 1 c.args.len c.requires

-- there is a term
pub unreachable-requires : goal.unreachable-requires
unreachable-requires c =
    let one = found_one c.args.words.now c.args.len c.requires in
    none_is_not_one one.0 (ap (map plain) (sym c.in-None.ensures.0) ∙ c.in_ok-terms.ensures ∙ one.1)

-- and no more than one
pub returns : goal.returns
returns c =
    let one = found_one c.args.words.now c.args.len c.requires in
    one.1 ∙ last_one one.0 (plain c.in-Some.term) (map plain c.pop.new.self) (ap (map plain) (sym c.in-Some.ensures) ∙ c.in_ok-terms.ensures ∙ one.1)
