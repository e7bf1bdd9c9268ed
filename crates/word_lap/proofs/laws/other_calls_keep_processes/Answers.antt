use Rattle.word_lap.proofs.Lapped.{lead_keeps}
use Rattle.word_lap.proofs.Reports.{report_keeps}
use Rattle.word_lap.proofs.laws.other_calls_keep_processes.Goals as goal

pub returns-clause-reports : goal.returns-clause-reports
returns-clause-reports c = λ functions opening old new generation taken processes learnt awake r kept. report_keeps functions opening old new generation learnt awake r taken processes kept

pub returns-clause-attempts : goal.returns-clause-attempts
returns-clause-attempts c = λ functions opening old new taken processes tried kept. lead_keeps functions opening old new taken processes tried kept
