-- By the instance or the term that stands in the area.
use Rattle.change_laws.proofs.KeptImages.{code_comes, code_stays, images_before, images_new}
use Rattle.change_laws.proofs.laws.images_stay.Goals as goal

pub returns-clause-stay : goal.returns-clause-stay
returns-clause-stay c = λ s change serial known. images_before s change serial known

pub returns-clause-incoming : goal.returns-clause-incoming
returns-clause-incoming c = λ s change place comes sound at. images_new s change place comes sound at

pub returns-clause-code : goal.returns-clause-code
returns-clause-code c = λ s change serial known. code_stays s change serial known

pub returns-clause-modules : goal.returns-clause-modules
returns-clause-modules c = λ s change place comes sound at. code_comes s change place comes sound at
