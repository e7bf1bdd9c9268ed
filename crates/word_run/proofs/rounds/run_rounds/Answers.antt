use Rattle.std.proofs.Common.{refl, sym, ap, ◌∙◌}
use Rattle.std.proofs.lemmas.Result.{IfOk-weaker}
use Rattle.script_core.specs.declared.script.Script.{Script}
use Rattle.word_run.proofs.RoundLoop.{on_at, own_run, run_as, words_as}
use Rattle.word_run.proofs.RoundSeats.{if_at}
use Rattle.word_run.proofs.Watching.{onlookers_as}
use Rattle.word_run.proofs.rounds.run_rounds.Goals as goal

-- the script is the one on the desk
pub turn_round-turned-requires-clause-run : goal.turn_round-turned-requires-clause-run
turn_round-turned-requires-clause-run g c = λ κs within.
    own_run g.K.Naming.names c.args.script.now _ _ c.loop.run.desk c.loop.run.inboxes.items c.loop.run.seats.items c.loop.run.sight c.loop.invariant.run

pub turn_round-turned-requires-clause-onlookers : goal.turn_round-turned-requires-clause-onlookers
turn_round-turned-requires-clause-onlookers g c = λ κs within.
    onlookers_as g.K.Naming.names c.args.functions.now c.loop.run.shared.table.shared.table_id c.loop.run.shared.table.shared.table_id c.args.script.now.observers c.loop.run.desk.book.plain.script.observers
    c.loop.run.onlookers.items c.loop.run.onlookers.items refl (ap (λ (s : Script). s.observers) c.loop.invariant.run.script_is) refl c.loop.invariant.onlookers

-- the next round begins as this one did
pub loop-preserved : goal.loop-preserved
loop-preserved g c =
    let words = c.turn_round-turned.ensures.shared in
    let had = c.turn_round-turned.result in
    record {
      table = (λ i. (words i).table.shared.table_id) ∙ c.loop.invariant.table;
      members = (λ i. (words i).table.shared.key.members) ∙ c.loop.invariant.members;
      words = words_as g.N.RunName.run _ _ _ _ (λ i. (words i).table.shared.table_id) (λ i. (words i).table.shared.key) c.loop.invariant.words;
      run =
          run_as g.K.Naming.names c.loop.run.desk.book.plain.script c.args.script.now c.loop.run.shared.table.shared.table_id had.0.shared.table.shared.table_id c.loop.run.shared.table.shared.key had.0.shared.table.shared.key
          had.0.desk had.0.inboxes.items had.0.seats.items had.0.sight (sym c.loop.invariant.run.script_is)
          (λ i. (words i).table.shared.table_id) (λ i. (words i).table.shared.key) (on_at _ had.1 c.in_ok-over.over c.in_ok-over.was c.turn_round-turned.ensures.run);
      onlookers =
          onlookers_as g.K.Naming.names c.args.functions.now c.loop.run.shared.table.shared.table_id had.0.shared.table.shared.table_id c.loop.run.desk.book.plain.script.observers c.args.script.now.observers
          had.0.onlookers.items had.0.onlookers.items (λ i. (words i).table.shared.table_id) (ap (λ (s : Script). s.observers) (sym c.loop.invariant.run.script_is)) refl
          (on_at _ had.1 c.in_ok-over.over c.in_ok-over.was c.turn_round-turned.ensures.onlookers);
    }

-- so does the end
pub finish-requires-clause-words : goal.finish-requires-clause-words
finish-requires-clause-words g c =
    let words = c.turn_round-turned.ensures.shared in
    words_as g.N.RunName.run _ _ _ _ (λ i. (words i).table.shared.table_id) (λ i. (words i).table.shared.key) c.loop.invariant.words

pub finish-requires-clause-run : goal.finish-requires-clause-run
finish-requires-clause-run g c =
    let words = c.turn_round-turned.ensures.shared in
    let had = c.turn_round-turned.result in
    run_as g.K.Naming.names c.loop.run.desk.book.plain.script c.args.script.now c.loop.run.shared.table.shared.table_id had.0.shared.table.shared.table_id c.loop.run.shared.table.shared.key had.0.shared.table.shared.key
    had.0.desk had.0.inboxes.items had.0.seats.items had.0.sight (sym c.loop.invariant.run.script_is)
    (λ i. (words i).table.shared.table_id) (λ i. (words i).table.shared.key) (on_at _ had.1 c.in_ok-over.over c.in_ok-over.was c.turn_round-turned.ensures.run)

pub finish-requires-clause-done : goal.finish-requires-clause-done
finish-requires-clause-done g c = (if_at _ c.turn_round-turned.result.1 c.in_ok-over.over c.in_ok-over.was c.turn_round-turned.ensures.over c.if-over.true).0

pub finish-requires-clause-idle : goal.finish-requires-clause-idle
finish-requires-clause-idle g c = (if_at _ c.turn_round-turned.result.1 c.in_ok-over.over c.in_ok-over.was c.turn_round-turned.ensures.over c.if-over.true).1

pub finish-requires-clause-onlookers : goal.finish-requires-clause-onlookers
finish-requires-clause-onlookers g c =
    let words = c.turn_round-turned.ensures.shared in
    let had = c.turn_round-turned.result in
    onlookers_as g.K.Naming.names c.args.functions.now c.loop.run.shared.table.shared.table_id had.0.shared.table.shared.table_id c.loop.run.desk.book.plain.script.observers c.args.script.now.observers
    had.0.onlookers.items had.0.onlookers.items (λ i. (words i).table.shared.table_id) (ap (λ (s : Script). s.observers) (sym c.loop.invariant.run.script_is)) refl
    (on_at _ had.1 c.in_ok-over.over c.in_ok-over.was c.turn_round-turned.ensures.onlookers)

-- the words at the end are those of the beginning
pub returns-then-over-clause-table : goal.returns-then-over-clause-table
returns-then-over-clause-table g c = IfOk-weaker c.finish.result _ _ (λ ran is. is ∙ (λ i. (c.turn_round-turned.ensures.shared i).table.shared.table_id) ∙ c.loop.invariant.table) c.finish.ensures.table

-- and so are their members
pub returns-then-over-clause-members : goal.returns-then-over-clause-members
returns-then-over-clause-members g c =
    IfOk-weaker c.finish.result _ _ (λ ran is. is ∙ (λ i. (c.turn_round-turned.ensures.shared i).table.shared.key.members) ∙ c.loop.invariant.members) c.finish.ensures.members
