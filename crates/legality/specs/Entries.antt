-- What each entry of a lawful log's journal meets by itself, beside those before it.
-- Source: this project's profile. The lawful log says it clause by clause, over all entries; here it is said entry by entry, over all clauses.
use Rattle.std.specs.Prelude.{◌≡◌, ℕ, ◌<◌, Bool, List, [], ◌∷◌, take, slice_get, Option, Some, None, IfSome, IsSomeAnd}
use Rattle.std.specs.List.{list_any}
use Rattle.term_core.specs.declared.atom.AtomId.{AtomId}
use Rattle.server_core.specs.declared.command.Cmd.TheVariants.{SoftPurge, Purge, Release}
use Rattle.server_core.specs.declared.command.Linger.{Linger}
use Rattle.server_core.specs.ServerState.{old_of}
use Rattle.script_core.specs.declared.script.Script.{Script}
use Rattle.run_log.specs.declared.logs.Entry.{Entry}
use Rattle.run_log.specs.declared.logs.ProcessLog.{ProcessLog}
use Rattle.run_log.specs.declared.logs.RunLog.{RunLog}
use Rattle.run_log.specs.Legal.{EntryFollows, Lingers, MayStand, NamesNot, StandsNotIn, dropped_by, half_after, is_killed_by, last_up_to, published_to, state_before, turns_in_log}
use Rattle.run_log.specs.declared.underway.HalfPurge.{HalfPurge}

-- the purge that waits after these entries, if one does, where this one waited before them
abbrev pub half_over : Option HalfPurge → List Entry → Option HalfPurge
half_over half [] = half
half_over half (e ∷ journal) = half_over (half_after half e.who e.cmd) journal

-- the purge that waits before the entry at a place of the journal
abbrev pub half_before : ℕ → List Entry → Option HalfPurge
half_before place journal = half_over None (take place journal)

-- what a lawful log says of the entry at a place, apart from processes that linger
pub record EntryMeets (s : Script) (log : RunLog) (place : ℕ) (e : Entry) : Type 0 where
  pub follows : EntryFollows s.modules (state_before s.modules place log.journal) e
  pub stands : MayStand (state_before s.modules place log.journal) (half_before place log.journal) e
  pub released : (serial number : ℕ) (process : ProcessLog) → e.cmd ≡ Release serial → slice_get log.processes number ≡ Some process
      → IfSome (last_up_to (published_to place log.journal) (turns_in_log s log number process)) (λ m. NamesNot serial m.process)
  pub unnamed : (serial number : ℕ) (process : ProcessLog) → dropped_by (state_before s.modules place log.journal) e.cmd ≡ Some serial → slice_get log.processes number ≡ Some process
      → IfSome (last_up_to (published_to place log.journal) (turns_in_log s log number process)) (λ m. StandsNotIn serial m.process)
  pub told : (serial : ℕ) (name : AtomId) (killed : Bool) → e.cmd ≡ Purge name killed → old_of (state_before s.modules place log.journal) name.0 ≡ Some serial
      → killed ≡ list_any (λ process. is_killed_by serial process.fin) log.processes

-- each entry of the journal before a place does
abbrev pub MeetBefore : Script → RunLog → ℕ → Type 0
MeetBefore s log place = (k : ℕ) (e : Entry) → k < place → slice_get log.journal k ≡ Some e → EntryMeets s log k e

-- what a lawful log says of the entry at a place that tells of a process that lingers
abbrev pub EntryLingers : Script → RunLog → ℕ → Entry → Type 0
EntryLingers s log place e =
    (serial : ℕ) (name : AtomId) (linger : Linger) → e.cmd ≡ SoftPurge name (Some linger) → old_of (state_before s.modules place log.journal) name.0 ≡ Some serial
    → IsSomeAnd (slice_get log.processes linger.process) (λ process. Lingers serial (published_to place log.journal) linger.turn (turns_in_log s log linger.process process))

-- each entry of the journal before a place does so
abbrev pub LingerBefore : Script → RunLog → ℕ → Type 0
LingerBefore s log place = (k : ℕ) (e : Entry) → k < place → slice_get log.journal k ≡ Some e → EntryLingers s log k e
