-- Which run a permit is of.
-- Source: this project's own; who makes the words of a run picks its name once.
use Rattle.std.specs.Prelude.{◌≡◌, Option, IsSomeAnd}
use Rattle.atomic_table.specs.Seated.{TableId}
use Rattle.shared_words.specs.declared.opening.Opening.{Opening}
use Rattle.script_core.specs.declared.script.Script.{Script}
use Rattle.staging.specs.declared.tables.Tables.{Tables}
use Rattle.staging.specs.Whose.{AreTablesOf}

-- a run is over these words, and by this script
pub record Run : Type 0 where
  pub table : TableId
  pub opening : Opening
  pub script : Script

-- the words are those of the run
abbrev pub IsOverWords : TableId → Opening → Option Run → Type 0
IsOverWords table opening run = IsSomeAnd run (λ r. (r.table ≡ table) × (r.opening ≡ opening))

-- the tables and the script are those of the run
abbrev pub IsBegunWith : Tables → Script → Option Run → Type 0
IsBegunWith t script run = IsSomeAnd run (λ r. AreTablesOf r.table r.opening t × (r.script ≡ script))
