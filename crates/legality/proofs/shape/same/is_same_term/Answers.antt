use Rattle.std.proofs.lemmas.Bool.Decides.{Decides-at}
use Rattle.term_core.proofs.PlainTerms.{same_term-Decides}
use Rattle.legality.proofs.shape.same.is_same_term.Goals as goal

-- by their plain terms
pub returns : goal.returns
returns c = Decides-at _ _ c.eq.ensures (same_term-Decides _ _)
