-- What is true of a seat at the counts, whatever it has hit.
use Rattle.std.specs.Prelude.{◌≡◌, []}
use Rattle.atomic_table.specs.Seated.{TableId}
use Rattle.atomic_table.specs.declared.shared.Seat.{Seat}
use Rattle.bp_counts.specs.declared.tally.Tally.{Tally}

-- it is one of this table, and has no slot
pub record IsTallySeat (table : TableId) (seat : Seat (Unit {0}) Tally) : Type 0 where
  pub of_table : seat.table_id ≡ table
  pub no_slots : seat.me.1 ≡ []

-- the same seat, with or without a new view
pub record IsSameTallySeat (old new : Seat (Unit {0}) Tally) : Type 0 where
  pub same_table : new.table_id ≡ old.table_id
  pub same_number : new.id ≡ old.id
  pub same_slots : new.me.1 ≡ old.me.1
