-- What is true of a seat at the turns, whatever it holds.
use Rattle.std.specs.Prelude.{◌≡◌, []}
use Rattle.atomic_table.specs.Seated.{TableId}
use Rattle.atomic_table.specs.declared.shared.Seat.{Seat}
use Rattle.copy_turns.specs.declared.holdings.Holdings.{Holdings}

-- it is one of this table, and has no slot
pub record IsTurnSeat (table : TableId) (seat : Seat (Unit {0}) Holdings) : Type 0 where
  pub of_table : seat.table_id ≡ table
  pub no_slots : seat.me.1 ≡ []

-- the same seat, with or without a new view
pub record IsSameTurnSeat (old new : Seat (Unit {0}) Holdings) : Type 0 where
  pub same_table : new.table_id ≡ old.table_id
  pub same_number : new.id ≡ old.id
  pub same_slots : new.me.1 ≡ old.me.1
