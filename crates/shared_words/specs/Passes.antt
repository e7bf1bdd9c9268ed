-- What a load by any token may be, and what it leaves of the seat.
use Rattle.std.specs.Prelude.{◌≡◌, ℕ, ◌<◌}
use mathlib.Core.Option.{none}
use Rattle.atomic_table.specs.Table.{Step, step, Allows}
use Rattle.atomic_table.specs.Seated.{TableId}
use Rattle.area_core.specs.declared.table.Published.{Published}
use Rattle.shared_words.specs.declared.opening.Opening.{Opening}
use Rattle.shared_words.specs.Kinds.{Sat}
use Rattle.shared_words.specs.Rule.{RunningRule}
use Rattle.shared_words.specs.Seats.{SeatPlace}

-- what a step tells, of the step, the seat before, the number found and the seat after
abbrev pub Tells : Type 1
Tells = Step (Unit {0}) → Sat → ℕ → Sat → Type 0

-- the load of a word
abbrev pub load_pass_of : TableId → ℕ → Step (Unit {0})
load_pass_of table word = step table.slots word 0 0 none

-- whatever the table is then, the load of this word keeps the rule and tells what it tells
pub record MayLoad (Served : Published → Type 0) (opening : Opening) (table : TableId) (tells : Tells) (seat : SeatPlace) (word : ℕ) : Type 0 where
  pub same_table : seat.table_id ≡ table
  pub there : word < table.words
  pub allowed : Allows (RunningRule Served opening) table.slots seat.id seat.me word (λ n. n) (tells (load_pass_of table word) seat.me)

-- the word was loaded, and this was found
pub record HasLoaded (table : TableId) (tells : Tells) (old new : SeatPlace) (word found : ℕ) : Type 0 where
  pub same_table : new.table_id ≡ old.table_id
  pub same_number : new.id ≡ old.id
  pub told : tells (load_pass_of table word) old.me found new.me
