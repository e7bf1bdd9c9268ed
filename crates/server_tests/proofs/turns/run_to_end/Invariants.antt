-- The process may have a turn, and the view holds what it names.
use Rattle.machine_core.specs.Turn.{MayTurn}
use Rattle.machine_core.specs.View.{IsLawful, shown_of}
use Rattle.server_tests.proofs.turns.run_to_end.Given as goal

abbrev pub invariant-loop : goal.invariant-loop
invariant-loop l = record {
  lawful : IsLawful (shown_of l.view.state);
  ready : MayTurn (shown_of l.view.state) l.view.held l.process;
}
