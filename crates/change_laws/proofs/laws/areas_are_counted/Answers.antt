-- By what each kind of change makes of versions and keys.
use Rattle.std.proofs.Common.{arith}
use Rattle.change_laws.proofs.Counted.{instances_counted, keys_once, terms_counted}
use Rattle.change_laws.proofs.laws.areas_are_counted.Goals as goal

pub returns-clause-instances : goal.returns-clause-instances
returns-clause-instances c = λ s change fits. instances_counted s change fits

pub returns-clause-begin : goal.returns-clause-begin
returns-clause-begin c = λ i j d before within. absurd (omega (arith, within))

pub returns-clause-once : goal.returns-clause-once
returns-clause-once c = λ s change once. keys_once s change once

pub returns-clause-terms : goal.returns-clause-terms
returns-clause-terms c = λ s change once. terms_counted s change once
