-- By what a call reaches after each change, and after each case of the command table.
use Rattle.change_laws.proofs.NumberedNames.{changes_numbered, commands_numbered}
use Rattle.change_laws.proofs.laws.changes_keep_numbers.Goals as goal

pub returns-clause-changes : goal.returns-clause-changes
returns-clause-changes c = λ names s change sound exports numbered. changes_numbered names s change sound exports numbered

pub returns-clause-commands : goal.returns-clause-commands
returns-clause-commands c = λ names texts s cmd o sound exports numbered e. commands_numbered names texts s cmd o sound exports numbered e
