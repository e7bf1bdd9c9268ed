use Rattle.std.proofs.Common.{◌≡◌, ◌≤◌, ◌-◌, All}
use Rattle.std.specs.Vec.{vec_len, vec_capacity}
use Rattle.copy_turns.specs.Seats.{IsSameTurnSeat}
use Rattle.copy_turns.specs.Copiers.{CopierState, new_copier}
use Rattle.copy_turns.specs.Holdings.{idle_copiers}
use Rattle.copy_turns.proofs.making.hand_out_all.Given as goal

-- so many are handed out, and there is room for all
abbrev pub invariant-loop-number : goal.invariant-loop-number
invariant-loop-number l = record {
  seat : IsSameTurnSeat l.initial.seat l.seat;
  view : l.seat.me.0 ≡ idle_copiers (l.copiers - l._number);
  new : All (λ (copier : CopierState). copier ≡ new_copier l.table.table_id) l.tokens.items;
  room : l.copiers ≤ vec_capacity l.tokens;
  many : vec_len l.tokens ≡ l._number;
}
