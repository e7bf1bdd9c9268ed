-- By what each kind of change makes of versions, instances and traced functions.
use Rattle.change_laws.proofs.DecidedTraces.{decided_in_code}
use Rattle.change_laws.proofs.KnownCode.{empty_knows, knows_after}
use Rattle.change_laws.proofs.laws.no_code_is_forgotten.Goals as goal

pub returns-clause-begin : goal.returns-clause-begin
returns-clause-begin c = empty_knows

pub returns-clause-stays : goal.returns-clause-stays
returns-clause-stays c = λ s change sound fits sets knows. knows_after s change sound fits sets knows

pub returns-clause-decided : goal.returns-clause-decided
returns-clause-decided c = λ texts s cmd change is. decided_in_code texts s cmd change is
