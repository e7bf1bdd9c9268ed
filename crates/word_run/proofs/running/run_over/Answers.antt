use Rattle.std.proofs.Common.{◌+◌, [], ◌<◌, sym, ap, ap₂, subst, ◌∙◌, arith}
use Rattle.std.proofs.lemmas.Result.{IfOk-weaker}
use Rattle.shared_words.specs.Making.{AreMembersBegun, AreWatchersBegun, IsHanding}
use Rattle.word_run.specs.Beginning.{exports_after}
use Rattle.word_run.proofs.Exported.{functions_are_one}
use Rattle.word_run.proofs.running.run_over.Goals as goal

-- there are as many members as schedulers
pub run_on-requires-clause-some : goal.run_on-requires-clause-some
run_on-requires-clause-some g c κs within = subst (λ n. 0 < n) (sym c.in_ok-shared.ensures.opening.0) c.requires.some

-- the script has one list of exported functions
pub run_on-requires-clause-names : goal.run_on-requires-clause-names
run_on-requires-clause-names g c κs within = λ functions exported.
    c.requires.picked ∙ ap (exports_after []) (functions_are_one c.args.script.now.names c.args.script.now.modules c.args._functions.now functions c.requires.functions exported)

pub run_on-requires-clause-writer : goal.run_on-requires-clause-writer
run_on-requires-clause-writer g c κs within =
    subst (λ n. IsHanding c.in_ok-shared.shared.table.shared.table_id c.in_ok-shared.shared.table.shared.key n c.in_ok-shared.parts.writer.seat) (ap₂ ◌+◌ (sym c.in_ok-shared.ensures.opening.0) (sym c.in_ok-shared.ensures.opening.1)) c.in_ok-shared.ensures.writer

pub run_on-requires-clause-members : goal.run_on-requires-clause-members
run_on-requires-clause-members g c κs within = subst (λ n. AreMembersBegun c.in_ok-shared.shared.table.shared.table_id n c.in_ok-shared.parts.members.items) (sym c.in_ok-shared.ensures.opening.0) c.in_ok-shared.ensures.members

-- and a watcher for each observer
pub new-requires-clause-watchers : goal.new-requires-clause-watchers
new-requires-clause-watchers g c = omega (arith, c.len-observers.ensures, c.requires.script.few_observers)

pub run_on-requires-clause-watchers : goal.run_on-requires-clause-watchers
run_on-requires-clause-watchers g c κs within = subst (λ n. AreWatchersBegun c.in_ok-shared.shared.table.shared.table_id n c.in_ok-shared.parts.watchers.items) (sym c.in_ok-shared.ensures.opening.1) c.in_ok-shared.ensures.watchers

pub run_on-requires-clause-enough : goal.run_on-requires-clause-enough
run_on-requires-clause-enough g c κs within = omega (arith, c.in_ok-shared.ensures.opening.1, c.len-observers.ensures, c.requires.script.few_observers)

-- as many as were asked for
pub returns-clause-members : goal.returns-clause-members
returns-clause-members g c = IfOk-weaker c.run_on.result _ _ (λ ran is. is ∙ c.in_ok-shared.ensures.opening.0) c.run_on.ensures.members
