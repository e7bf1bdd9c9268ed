use Rattle.std.proofs.lemmas.Bool.Decides.{Decides-at}
use Rattle.legality.proofs.SameCommands.{are_same-Decides}
use Rattle.legality.proofs.shape.same.are_same_terms.Goals as goal

-- by their rows
pub returns : goal.returns
returns c = Decides-at _ _ c.eq.ensures (are_same-Decides _ _)
