use Rattle.word_lap.proofs.HavingRun.{other_has_not_run, taken_has_run}
use Rattle.word_lap.proofs.laws.kept_processes_have_run.Goals as goal

pub returns-clause-taken : goal.returns-clause-taken
returns-clause-taken c = λ functions opening m last taken processes texts journal number line kept ended same learnt below own here.
    taken_has_run functions opening m last taken processes same number texts journal line learnt own here ended kept below

pub returns-clause-others : goal.returns-clause-others
returns-clause-others c = λ functions opening m last taken processes number kept same below none. other_has_not_run functions opening m last taken processes same number none kept below
