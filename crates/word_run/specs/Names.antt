-- What the names of a run stand for: its words, and the table of the notes.
-- Source: this project's own; who makes the words of a run picks its names once.
use Rattle.std.specs.Prelude.{◌≡◌, Option, Some, IsSomeAnd}
use Rattle.atomic_table.specs.Seated.{TableId}
use Rattle.word_permit.specs.Runs.{Run}

-- notes are of the words of the run
abbrev pub HasTable : Option Run → Option TableId → Type 0
HasTable run table = IsSomeAnd run (λ r. table ≡ Some r.table)
