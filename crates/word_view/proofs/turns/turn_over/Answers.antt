-- The clauses of the turn are those of one record over the view that is taken apart.
use Rattle.std.proofs.Common.{◌≡◌, List, Result, Ok, Err}
use Rattle.std.specs.Prelude.{IfOk}
use Rattle.term_core.specs.declared.no_memory.NoMemory.{NoMemory}
use Rattle.machine_core.specs.declared.process.Line.{Line}
use Rattle.machine_core.specs.declared.process.Process.{Process}
use Rattle.machine_core.specs.declared.process.TurnEnd.{TurnEnd}
use Rattle.machine_core.specs.declared.process.TurnEnd.TheVariants.{Again}
use Rattle.machine_core.specs.Process.{process_of}
use Rattle.machine_core.specs.Turn.{MayTurn, TurnGives, held_after}
use Rattle.word_view.specs.Turned.{IsTurn}
use Rattle.machine_core.specs.Holds.{Holds}
use Rattle.machine_core.specs.View.{Shown}
use Rattle.word_view.specs.Views.{held_of_view, shown_of_view}
use Rattle.word_view.proofs.turns.turn_over.Goals as goal

turned : (shown : Shown) (held : Holds) (old new : Process) (lines made : List Line) (r : Result TurnEnd NoMemory) → IfOk r (λ end. TurnGives shown.reads (process_of shown.words old) (process_of shown.words new) lines made end)
    → IfOk r (λ _. held ≡ held_after shown.reads (process_of shown.words old)) → IfOk r (λ end. end ≡ Again → MayTurn shown held new) → IfOk r (IsTurn shown held old new lines made)
turned shown held old new lines made (Ok end) gives holds again = record { gives = gives; holds = holds; again = again }
turned shown held old new lines made (Err f) gives holds again = tt

pub returns : goal.returns
returns g c = record {
  after = c.turn-end.new.view;
  token = c.into_member.ensures.token;
  view = c.into_member.ensures.is_view;
  from = c.into_member.ensures.from;
  turn = turned (shown_of_view c.args.view) (held_of_view c.turn-end.new.view) c.args.process.now c.turn-end.new.process c.args.lines.now c.turn-end.new.lines c.turn-end.result c.turn-end.ensures.ok c.turn-end.ensures.held c.turn-end.ensures.again;
}
