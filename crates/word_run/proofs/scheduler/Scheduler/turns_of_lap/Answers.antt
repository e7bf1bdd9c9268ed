use Rattle.std.proofs.Common.{sym, ◌∙◌}
use Rattle.word_run.proofs.Laps.{keeps_turned}
use Rattle.word_run.proofs.SliceTurns.{turned_once}
use Rattle.word_run.proofs.scheduler.Scheduler.turns_of_lap.Goals as goal

-- each process had its turn
pub returns-clause-kept : goal.returns-clause-kept
returns-clause-kept g c =
    let had = c.take_turns-member.ensures in
    let led = c.try_lead.ensures in
    keeps_turned g.K.Naming.names _ _ c.args.self.now c.in-Some.member (sym c.take.ensures.value ∙ c.in-Some.is) c.requires.awake c.args.sight.now.exports c.requires.exports
    c.take_turns-member.result.1 c.in_ok-turned.field-0 c.take_turns-member.result.0 c.try_lead.new.member c.take_turns-member.new.processes c.in_ok-turned.was
    c.other_calls_keep_processes.ensures.attempts had.number had.same had.kept led.token led.number led.between led.tried c.requires.kept

pub returns-clause-turns : goal.returns-clause-turns
returns-clause-turns g c =
    let had = c.take_turns-member.ensures in
    turned_once g.K.Naming.names c.args.self.now c.in-Some.member (sym c.take.ensures.value ∙ c.in-Some.is) c.args.sight.now.exports c.requires.exports
    c.take_turns-member.result.1 c.in_ok-turned.field-0 c.take_turns-member.result.0 c.try_lead.new.member c.take_turns-member.new.processes c.in_ok-turned.was had.same had.turns c.try_lead.ensures.tried
