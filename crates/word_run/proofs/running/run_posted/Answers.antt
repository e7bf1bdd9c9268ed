use Rattle.std.proofs.Common.{refl, ap, ◌∙◌}
use Rattle.std.specs.Prelude.{Vec}
use Rattle.std.specs.declared.alloc.Global.{Global}
use Rattle.std.proofs.lemmas.Result.{IfOk-weaker}
use Rattle.word_run.specs.declared.onlooker.Onlooker.{Onlooker}
use Rattle.word_run.proofs.RoundLoop.{words_as}
use Rattle.word_run.proofs.Watching.{onlookers_as}
use Rattle.word_run.proofs.running.run_posted.Goals as goal

-- the words of the run are these
pub run_rounds-requires-clause-words : goal.run_rounds-requires-clause-words
run_rounds-requires-clause-words g c κs within =
    words_as g.N.RunName.run c.args.shared.table.shared.table_id c.in_ok-run.run'.shared.table.shared.table_id c.args.shared.table.shared.key c.in_ok-run.run'.shared.table.shared.key
    (λ i. (c.in_ok-run.ensures.shared i).table.shared.table_id) (λ i. (c.in_ok-run.ensures.shared i).table.shared.key) c.requires.words

-- its observers are these
pub run_rounds-requires-clause-onlookers : goal.run_rounds-requires-clause-onlookers
run_rounds-requires-clause-onlookers g c κs within =
    onlookers_as g.K.Naming.names c.args.functions.now c.args.shared.table.shared.table_id c.in_ok-run.run'.shared.table.shared.table_id c.args.script.now.observers c.args.script.now.observers c.args.onlookers.items c.in_ok-run.run'.onlookers.items
    (λ i. (c.in_ok-run.ensures.shared i).table.shared.table_id) refl (ap (λ (v : Vec Onlooker Global). v.items) c.in_ok-run.ensures.onlookers) c.requires.onlookers

-- the words at the end are these
pub returns-clause-table : goal.returns-clause-table
returns-clause-table g c = IfOk-weaker c.run_rounds.result _ _ (λ ran is. is ∙ (λ i. (c.in_ok-run.ensures.shared i).table.shared.table_id)) c.run_rounds.ensures.table

pub returns-clause-members : goal.returns-clause-members
returns-clause-members g c = IfOk-weaker c.run_rounds.result _ _ (λ ran is. is ∙ (λ i. (c.in_ok-run.ensures.shared i).table.shared.key.members)) c.run_rounds.ensures.members
