use Rattle.anchors.specs.Holds.{view_of}
use Rattle.word_view.proofs.Reporting.{report_begins}
use Rattle.word_view.proofs.laws.reports_begin_turns.Goals as goal

pub returns : goal.returns
returns c = λ v b generation h awake r. report_begins v.names v.opening v.process (view_of v.token) (view_of b) generation h.reader h.reading.rooted.learnt awake r
