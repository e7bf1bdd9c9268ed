use Rattle.std.proofs.Common.{ℕ, ap}
use Rattle.std.proofs.lemmas.Result.{IfOk-weaker, on_ok_weaker}
use Rattle.std.specs.Prelude.{Vec}
use Rattle.std.specs.declared.alloc.Global.{Global}
use Rattle.word_run.proofs.Hearing.{hear_nothing, taken_told}
use Rattle.word_run.proofs.Rounding.{idle_round, round_run}
use Rattle.word_run.proofs.Watching.{onlookers_kept}
use Rattle.word_run.proofs.rounds.slice_round.Goals as goal

pub returns-clause-run : goal.returns-clause-run
returns-clause-run g c =
    on_ok_weaker c.was_last-over.result
    (λ ok. round_run g.K.Naming.names _ _ c.args.run.desk c.whole_round-after.result.desk c.args.run.inboxes.items c.args.run.seats.items c.whole_round-after.result.seats.items c.args.run.sight c.requires.run c.whole_round-after.ensures.adds c.whole_round-after.ensures.seats
    c.deref.result.now c.deref.ensures.value ok _ (ap (λ (v : Vec ℕ Global). v.items) c.whole_round-after.ensures.inboxes) _ c.whole_round-after.ensures.sight)
    c.was_last-over.ensures.ok

pub returns-clause-onlookers : goal.returns-clause-onlookers
returns-clause-onlookers g c =
    on_ok_weaker c.was_last-over.result
    (λ ok. onlookers_kept g.K.Naming.names c.args.functions.now c.args.run.shared.table.shared.table_id c.args.run.desk.book.plain.script.observers c.args.run.onlookers.items c.whole_round-after.result.onlookers.items c.deref-2.result.now
    c.deref-2.ensures.value c.whole_round-after.ensures.onlookers c.requires.onlookers ok)
    c.was_last-over.ensures.looked

pub returns-clause-over : goal.returns-clause-over
returns-clause-over g c =
    IfOk-weaker c.was_last-over.result _ _
    (λ over had last.
    let h = had last in
    (h.0, idle_round g.K.Naming.names _ _ c.args.run.seats.items c.whole_round-after.result.seats.items c.deref.result.now c.deref.ensures.value c.whole_round-after.ensures.seats h.1))
    c.was_last-over.ensures.over

-- no slice told a scheduler of anything
pub returns-clause-told : goal.returns-clause-told
returns-clause-told g c = hear_nothing g.K.Naming.names _ _ c.args.run.seats.items c.whole_round-after.result.seats.items c.whole_round-after.ensures.seats

pub returns-clause-taken : goal.returns-clause-taken
returns-clause-taken g c =
    on_ok_weaker c.was_last-over.result
    (λ ok. taken_told g.K.Naming.names _ _ c.args.run.seats.items c.whole_round-after.result.seats.items c.deref.result.now c.deref.ensures.value c.whole_round-after.ensures.seats ok)
    c.was_last-over.ensures.ok
