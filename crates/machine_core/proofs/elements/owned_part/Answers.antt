-- The part is copied.
use Rattle.std.proofs.Common.{◌∙◌, ap, slice_get}
use Rattle.machine_core.proofs.LiteralParts.{owned_found, parts_either}
use Rattle.machine_core.proofs.elements.owned_part.Goals as goal

pub returns-in_ok-clone-in-Some-clause-value : goal.returns-in_ok-clone-in-Some-clause-value
returns-in_ok-clone-in-Some-clause-value c = λ words.
    owned_found words c.args.term.now c.in-Some.part.now c.in_ok-clone-in-Some.field-0 c.args.place c.in_ok-clone-in-Some.ensures.cases (c.in-Some.ensures ∙ ap (λ ts. slice_get ts c.args.place) (parts_either c.args.term.now c.in-Tuple.terms c.in-Tuple.is))
