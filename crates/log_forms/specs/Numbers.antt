-- The numbers of a log that a report writes: generations, and the serials of areas.
-- Source: this project's report text.
use Rattle.std.specs.Prelude.{◌*◌, ◌^◌, ◌<◌, ◌≤◌, List, length}
use Rattle.server_core.specs.ServerState.{empty_state}
use Rattle.script_core.specs.declared.script.Script.{Script}
use Rattle.run_log.specs.declared.logs.Entry.{Entry}
use Rattle.run_log.specs.declared.logs.RunLog.{RunLog}
use Rattle.run_log.specs.Journal.{newest_state, published_count}

-- the generations that the log publishes, and the serials that it gives to areas, are numbers of 64 bits
pub record FitsWords (s : Script) (log : RunLog) : Type 0 where
  pub generations : published_count log.journal < 2 ^ 64
  pub serials : (newest_state s.modules empty_state log.journal).next_serial ≤ 2 ^ 64

-- a journal that stands in memory: an entry loads at most 55 instances, so its serials are numbers of 64 bits
abbrev pub IsShortJournal : List Entry → Type 0
IsShortJournal journal = length journal * 55 < 2 ^ 63
