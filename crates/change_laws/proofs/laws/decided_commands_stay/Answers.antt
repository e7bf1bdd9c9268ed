-- What the command leaves and what the change makes are both what they were, but for what is retired and released.
use Rattle.change_laws.proofs.KeptCases.{decided_stays}
use Rattle.change_laws.proofs.laws.decided_commands_stay.Goals as goal

pub returns : goal.returns
returns c = λ texts s serial cmd change other e. decided_stays texts s serial cmd change other e
