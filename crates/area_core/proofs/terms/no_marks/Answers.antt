use Rattle.std.proofs.Common.{false}
use Rattle.std.proofs.lemmas.List.{get_or-replicate}
use Rattle.area_core.proofs.terms.no_marks.Goals as goal

-- each of so many equal elements is that element
pub returns-clause-none : goal.returns-clause-none
returns-clause-none c = λ number below. get_or-replicate 512 number false false below
