use Rattle.progress_words.proofs.Confirming.{leads_on}
use Rattle.progress_words.proofs.reports.report.Goals as goal

-- who led before the report leads after it
pub returns-clause-leads : goal.returns-clause-leads
returns-clause-leads g c = leads_on g.N.Served.served _ _ _ c.confirm_newest.ensures.reported
