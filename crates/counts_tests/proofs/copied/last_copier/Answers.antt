use Rattle.std.proofs.Common.{◌≡◌, None}
use Rattle.copy_turns.specs.Copiers.{CopierState}
use Rattle.counts_tests.proofs.Tokens.{pop_all}
use Rattle.counts_tests.proofs.copied.last_copier.Goals as goal

-- what holds of all copiers holds of the last one and of the rest
pub returns-clause-theirs : goal.returns-clause-theirs
returns-clause-theirs c = (pop_all (λ (copier : CopierState). copier.table ≡ c.args.turns.now.table) _ _ _ c.pop.ensures c.requires.theirs).0

pub returns-clause-idle : goal.returns-clause-idle
returns-clause-idle c = (pop_all (λ (copier : CopierState). copier.held ≡ None) _ _ _ c.pop.ensures c.requires.idle).0

pub returns-clause-table : goal.returns-clause-table
returns-clause-table c = (pop_all (λ (copier : CopierState). copier.table ≡ c.args.turns.now.table) _ _ _ c.pop.ensures c.requires.theirs).1

pub returns-clause-held : goal.returns-clause-held
returns-clause-held c = (pop_all (λ (copier : CopierState). copier.held ≡ None) _ _ _ c.pop.ensures c.requires.idle).1
