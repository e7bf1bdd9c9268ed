use Rattle.std.proofs.Common.{sym, ◌∙◌}
use Rattle.std.proofs.lemmas.Bool.Decides.{Decides-like}
use Rattle.std.proofs.lemmas.Slice.Eq.{slice_eq-Decides}
use Rattle.legality.proofs.SameCommands.{same_reference}
use Rattle.legality.proofs.shape.same.are_same_references.Goals as goal

-- reference by reference
pub returns : goal.returns
returns c =
    let d = slice_eq-Decides (λ a b. same_reference a b) _ _ _ c.eq.ensures in
    Decides-like _ (λ e. sym c.as_slice.ensures ∙ e ∙ c.as_slice-2.ensures) (λ e. c.as_slice.ensures ∙ e ∙ sym c.as_slice-2.ensures) d
