-- Those that are left are to come in to what the others left.
use Rattle.std.proofs.Common.{◌≡◌, ◌+◌, length, All}
use Rattle.copy_turns.specs.declared.turn.Turn.{Turn}
use Rattle.copy_turns.specs.Seats.{IsSameTurnSeat}
use Rattle.copy_turns.specs.Copiers.{CopierState, turn_holder}
use Rattle.copy_turns.specs.Holdings.{copiers_in, turn_held_in}
use Rattle.copy_turns.proofs.closing.take_in_all.Given as goal

abbrev pub invariant-copiers : goal.invariant-copiers
invariant-copiers l = record {
  token : IsSameTurnSeat l.initial.all l.all;
  theirs : All (λ (copier : CopierState). copier.table ≡ l.table.table_id) l.copiers;
  held : (turn : Turn) → turn_holder turn l.copiers (turn_held_in turn l.all.me.0) ≡ turn_holder turn l.initial.copiers (turn_held_in turn l.initial.all.me.0);
  counted : copiers_in l.all.me.0 + length l.copiers ≡ copiers_in l.initial.all.me.0 + length l.initial.copiers;
}

abbrev pub decreases-copiers : goal.decreases-copiers
decreases-copiers l = length l.copiers
