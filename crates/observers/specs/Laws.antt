-- The law on how an observer begins.
use Rattle.std.specs.Prelude.{ℕ, List, []}
use Rattle.atomic_table.specs.Seated.{TableId}
use Rattle.term_core.specs.declared.atom.Mfa.{Mfa}
use Rattle.shared_words.specs.declared.seats.Watcher as watching
use Rattle.shared_words.specs.Making.{IsWatcherBegun}
use Rattle.observers.specs.Observing.{Observes}

-- with the token of a watcher that has just begun, and no snapshots, an observer is between two looks, whatever it is to take
abbrev pub ObserversBegin : Type 0
ObserversBegin =
    (names functions : List Mfa) (table : TableId) (number left : ℕ) (token : watching.Watcher) → IsWatcherBegun table number token
    → Observes names functions table (record { watcher = token; left = left; shots = [] })
