use Rattle.std.proofs.Common.{[]}
use Rattle.std.proofs.lemmas.Result.{IfOk-weaker}
use Rattle.word_run.specs.Beginning.{exports_after}
use Rattle.word_run.proofs.running.run_script.Goals as goal

pub returns-clause-closes : goal.returns-clause-closes
returns-clause-closes g c = IfOk-weaker c.run_over.result _ _ (λ ran h. (exports_after [] c.in_ok-functions.functions, h)) c.run_over.ensures.closes
