use Rattle.word_lap.proofs.Caught.{caught_more, caught_once}
use Rattle.word_lap.proofs.reporting.catch_up.Goals as goal

pub loop-init : goal.loop-init
loop-init g c =
    let once = c.report_once-generation.ensures in
    caught_once _ _ _ _ _ once.token once.number once.between once.reported

pub loop-preserved : goal.loop-preserved
loop-preserved g c =
    let again = c.report_once-generation-in-loop.ensures in
    caught_more _ _ _ _ _ _ _ c.loop.invariant again.token again.number again.between again.reported
