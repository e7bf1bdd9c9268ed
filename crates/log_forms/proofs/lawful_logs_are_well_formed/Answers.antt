-- Each part of such a log can be said.
use Rattle.log_forms.proofs.SaidLogs.{well_formed}
use Rattle.log_forms.proofs.ShortJournals.{fits_of}
use Rattle.log_forms.proofs.lawful_logs_are_well_formed.Goals as goal

pub returns-clause-formed : goal.returns-clause-formed
returns-clause-formed c = λ s log is_script legal whole fits. well_formed s is_script log legal fits whole

pub returns-clause-fits : goal.returns-clause-fits
returns-clause-fits c = fits_of
