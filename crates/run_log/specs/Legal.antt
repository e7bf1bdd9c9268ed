-- Which logs are lawful for a script: those of a history of one code server.
-- Source: this project's profile, as the sequential reading of erts internal documentation, CodeLoading, and of the manual page `persistent_term`.
-- The definition replays the journal and the turns; the run keeps one server and its processes.
use Rattle.std.specs.Prelude.{◌≡◌, ◌≢◌, ℕ, zero, suc, ◌+◌, ◌<◌, ◌≤◌, ◌==◌, nat_le, Bool, true, false, List, [], ◌∷◌, ◌++◌, length, take, slice_get, Option, Some, None, is_some, IfSome, IsSomeAnd, All, if◌then◌else◌}
use Rattle.std.specs.List.{AllByRecursion, flat_map, list_any}
use Rattle.term_core.specs.declared.atom.AtomId.{AtomId}
use Rattle.mod_core.specs.declared.code.Module.{Module}
use Rattle.server_core.specs.declared.command.Cmd.{Cmd}
use Rattle.server_core.specs.declared.command.Cmd.TheVariants as cmds
use Rattle.server_core.specs.declared.command.Linger.{Linger}
use Rattle.server_core.specs.ServerState.{ServerState, empty_state, old_of}
use Rattle.server_core.specs.CommandTable.{apply_of}
use Rattle.machine_core.specs.declared.process.Line.{Line}
use Rattle.machine_core.specs.declared.process.End.{End}
use Rattle.machine_core.specs.declared.process.End.TheVariants as ends
use Rattle.machine_core.specs.declared.process.TurnEnd.{TurnEnd}
use Rattle.machine_core.specs.declared.process.TurnEnd.TheVariants.{Again, Ended}
use Rattle.machine_core.specs.Holds.{is_among}
use Rattle.machine_core.specs.Process.{PlainProcess, names_of, new_process}
use Rattle.machine_core.specs.Turn.{Turn, turn_of}
use Rattle.script_core.specs.declared.script.Script.{Script}
use Rattle.script_core.specs.declared.script.ScriptCmd.{ScriptCmd}
use Rattle.script_core.specs.declared.script.ScriptCmd.TheVariants as script
use Rattle.script_core.specs.Processes.{SpawnLine, commands_at, spawns_of}
use Rattle.run_log.specs.declared.logs.Who.{Who}
use Rattle.run_log.specs.declared.logs.Who.TheVariants.{Loader, Runtime}
use Rattle.run_log.specs.declared.logs.Entry.{Entry}
use Rattle.run_log.specs.declared.logs.Span.{Span}
use Rattle.run_log.specs.declared.logs.ProcessLog.{ProcessLog}
use Rattle.run_log.specs.declared.logs.RunLog.{RunLog}
use Rattle.run_log.specs.declared.logs.Snapshot.{Snapshot}
use Rattle.run_log.specs.declared.underway.HalfPurge.{HalfPurge}
use Rattle.run_log.specs.Snapshots.{AreExports}
use Rattle.run_log.specs.Journal.{next_state, newest_state, state_at, published_count, entries_of, published_before}

-- whether an entry is the runtime's
abbrev pub is_runtime : Who → Bool
is_runtime (Loader number) = false
is_runtime Runtime = true

-- whether a command is the runtime's own: it alone gives areas back
abbrev pub is_release : Cmd → Bool
is_release (cmds.Release serial) = true
is_release _ = false

-- an entry is enabled in a state, and has the reply and the generation of the command table; the runtime makes releases alone, and no loader makes one
pub record EntryFollows (texts : List Module) (s : ServerState) (e : Entry) : Type 0 where
  pub by_whom : is_runtime e.who ≡ is_release e.cmd
  pub applied : apply_of texts s e.cmd ≡ Some (record { state = next_state texts s e.cmd; answer = record { reply = e.reply; published = e.published } })

-- replayed from a state on, each entry of the journal has its reply and its generation
abbrev pub Replays : List Module → ServerState → List Entry → Type 0
Replays texts s [] = Unit {0}
Replays texts s (e ∷ journal) = EntryFollows texts s e × Replays texts (next_state texts s e.cmd) journal

-- the commands of a loader of the script, or none where there is no such loader
abbrev pub commands_of : Script → ℕ → List ScriptCmd
commands_of s loader = commands_at s.loaders loader

-- the command of the script that a command of the server ends: a doom ends none, since its purge is still to come; which process lingered and
-- whether one was killed is not in the script
abbrev pub ended_by : Cmd → List ScriptCmd
ended_by (cmds.Load refs) = script.Load refs ∷ []
ended_by (cmds.Delete name) = script.Delete name ∷ []
ended_by (cmds.SoftPurge name lingers) = script.SoftPurge name ∷ []
ended_by (cmds.Doom name) = []
ended_by (cmds.Purge name killed) = script.Purge name ∷ []
ended_by (cmds.CheckOld name) = script.CheckOld name ∷ []
ended_by (cmds.Put key term) = script.Put key term ∷ []
ended_by (cmds.Erase key) = script.Erase key ∷ []
ended_by (cmds.Trace target on) = script.Trace target on ∷ []
ended_by (cmds.Spawn target args) = script.Spawn target args ∷ []
ended_by (cmds.Release serial) = []

-- the commands of the script that the entries of a loader end, in order
abbrev pub commands_in : ℕ → List Entry → List ScriptCmd
commands_in loader journal = flat_map (λ e. ended_by e.cmd) (entries_of loader journal)

-- a command that may stand while no purge waits: a purge without a doom before it only where there is no old code
abbrev pub MayStart : ServerState → Cmd → Type 0
MayStart s (cmds.Purge name killed) = old_of s name.0 ≡ None
MayStart s _ = Unit {0}

-- a command that may stand while a purge waits: its second half, or of others a release, a spawn, a look for old code
abbrev pub MayStandBetween : HalfPurge → Who → Cmd → Type 0
MayStandBetween half who (cmds.Purge name killed) = (who ≡ half.who) × (name ≡ half.«module»)
MayStandBetween half who (cmds.CheckOld name) = who ≢ half.who
MayStandBetween half who (cmds.Spawn target args) = who ≢ half.who
MayStandBetween half who (cmds.Release serial) = who ≢ half.who
MayStandBetween half who _ = ⊥

-- the purge that waits after a command, if one does
abbrev pub half_after : Option HalfPurge → Who → Cmd → Option HalfPurge
half_after half who (cmds.Doom name) = Some (record { who = who; «module» = name })
half_after half who (cmds.Purge name killed) = None
half_after half who _ = half

-- an entry may stand where no purge waits, or where this one does
abbrev pub MayStand : ServerState → Option HalfPurge → Entry → Type 0
MayStand s None e = MayStart s e.cmd
MayStand s (Some half) e = MayStandBetween half e.who e.cmd

-- replayed from a state on in which one purge waits, or none, the purges of these entries stand in their two halves where there is old code, and the
-- last state has this purge waiting, or none
abbrev pub PurgesGo : List Module → ServerState → Option HalfPurge → List Entry → Option HalfPurge → Type 0
PurgesGo texts s half [] last = half ≡ last
PurgesGo texts s half (e ∷ journal) last = MayStand s half e × PurgesGo texts (next_state texts s e.cmd) (half_after half e.who e.cmd) journal last

-- the entries of each loader are its commands, in order, each once and all of them; a purge stands as a doom and then a purge where there is old code,
-- else as a purge alone
pub record LoadersInOrder (s : Script) (journal : List Entry) : Type 0 where
  pub commands : (loader : ℕ) → commands_in loader journal ≡ commands_of s loader
  pub purges : PurgesGo s.modules empty_state None journal None

-- the generation of the first turn, if there is one
abbrev pub first_generation : List Span → Option ℕ
first_generation [] = None
first_generation (span ∷ spans) = Some span.generation

-- the first turn of each process is under a generation that its spawn had seen, or a later one
abbrev pub SpawnBeforeTurns : Script → RunLog → Type 0
SpawnBeforeTurns s log =
    (number : ℕ) (line : SpawnLine) (process : ProcessLog) → slice_get (spawns_of 0 s.loaders) number ≡ Some line → slice_get log.processes number ≡ Some process
    → IfSome (first_generation process.spans) (λ g. published_before line.loader line.place log.journal ≤ g)

-- what is left of a run of turns after one of them, with so many to come: none may come after the end
abbrev pub after_turn : ℕ → (PlainProcess → List Line → Option Turn) → List Line → PlainProcess → List Line → TurnEnd → Option Turn
after_turn left rest made process more Again = rest process (made ++ more)
after_turn left rest made process more (Ended end) = if left == 0 then Some (record { process = process; made = made ++ more; end = Ended end }) else None

-- so many turns of a process in a row under one state, after these lines; none where the process ends before the last
unfoldable pub turns_of : ServerState → ℕ → PlainProcess → List Line → Option Turn
turns_of s zero p made = Some (record { process = p; made = made; end = Again })
turns_of s (suc n) p made = after_turn n (turns_of s n) made (turn_of s p).process (turn_of s p).made (turn_of s p).end

-- the spans are the process's turns, each under its generation, with just their lines; the last turn ends so, and no earlier one ends
abbrev pub SpansFollow : (ℕ → ServerState) → PlainProcess → List Span → End → Type 0
SpansFollow states p [] fin = ⊥
SpansFollow states p (span ∷ []) fin =
    IsSomeAnd (turns_of (states span.generation) span.turns p []) (λ t. (t.made ≡ span.lines) × (t.end ≡ Ended fin))
SpansFollow states p (span ∷ other ∷ spans) fin =
    (span.generation ≤ other.generation) × IsSomeAnd (turns_of (states span.generation) span.turns p []) (λ t. (t.made ≡ span.lines) × (t.end ≡ Again) × SpansFollow states t.process (other ∷ spans) fin)

-- the spans are the turns of a process so far, up to the present process, each under its generation, with just their lines; none has ended it
abbrev pub SpansGo : (ℕ → ServerState) → PlainProcess → List Span → PlainProcess → Type 0
SpansGo states p [] now = p ≡ now
SpansGo states p (span ∷ spans) now =
    IfSome (first_generation spans) (λ g. span.generation ≤ g)
    × IsSomeAnd (turns_of (states span.generation) span.turns p []) (λ t. (t.made ≡ span.lines) × (t.end ≡ Again) × SpansGo states t.process spans now)

-- the turns of each process follow one after the other from the process without frames, each under one generation
abbrev pub TurnsFollow : Script → RunLog → Type 0
TurnsFollow s log =
    (number : ℕ) (process : ProcessLog) → slice_get log.processes number ≡ Some process
    → SpansFollow (state_at s.modules empty_state log.journal) (new_process number process.target process.args) process.spans process.fin

-- a turn of a process that is over: its generation, and the process after it
pub record Mark : Type 0 where
  pub generation : ℕ
  pub process : PlainProcess

-- a process after so many turns in a row under one state
unfoldable pub after_turns : ServerState → ℕ → PlainProcess → PlainProcess
after_turns s zero p = p
after_turns s (suc n) p = after_turns s n (turn_of s p).process

-- so many turns in a row under the state of one generation
unfoldable pub marks_in : ServerState → ℕ → ℕ → PlainProcess → List Mark
marks_in s generation zero p = []
marks_in s generation (suc n) p = record { generation = generation; process = (turn_of s p).process } ∷ marks_in s generation n (turn_of s p).process

-- the turns of a process that its spans tell, in order
abbrev pub marks_of : (ℕ → ServerState) → PlainProcess → List Span → List Mark
marks_of states p [] = []
marks_of states p (span ∷ spans) =
    marks_in (states span.generation) span.generation span.turns p ++ marks_of states (after_turns (states span.generation) span.turns p) spans

-- a process after the turns that its spans tell
abbrev pub process_after : (ℕ → ServerState) → PlainProcess → List Span → PlainProcess
process_after states p [] = p
process_after states p (span ∷ spans) = process_after states (after_turns (states span.generation) span.turns p) spans

-- the turns of a process of a log
abbrev pub turns_in_log : Script → RunLog → ℕ → ProcessLog → List Mark
turns_in_log s log number process = marks_of (state_at s.modules empty_state log.journal) (new_process number process.target process.args) process.spans

-- the last of these turns that is under no later generation than this one, if there is one
abbrev pub last_up_to : ℕ → List Mark → Option Mark
last_up_to generation [] = None
last_up_to generation (m ∷ marks) = if is_some (last_up_to generation marks) then last_up_to generation marks else if nat_le m.generation generation then Some m else None

-- how many generations were published before the entry at a place of the journal, counted from 0
abbrev pub published_to : ℕ → List Entry → ℕ
published_to place journal = published_count (take place journal)

-- the state in which the entry at a place of the journal was made
abbrev pub state_before : List Module → ℕ → List Entry → ServerState
state_before texts place journal = newest_state texts empty_state (take place journal)

-- no frame of the process is of this instance
abbrev pub StandsNotIn : ℕ → PlainProcess → Type 0
StandsNotIn serial p = is_among (names_of p).frames serial ≡ false

-- the process names the area in no way
pub record NamesNot (serial : ℕ) (p : PlainProcess) : Type 0 where
  pub frames : is_among (names_of p).frames serial ≡ false
  pub literals : is_among (names_of p).literals serial ≡ false

-- an area is released where no process names it: after the last turn of each process that is under no later generation than the newest one then
abbrev pub ReleasedUnnamed : Script → RunLog → Type 0
ReleasedUnnamed s log =
    (place serial number : ℕ) (e : Entry) (process : ProcessLog) → slice_get log.journal place ≡ Some e → e.cmd ≡ cmds.Release serial → slice_get log.processes number ≡ Some process
    → IfSome (last_up_to (published_to place log.journal) (turns_in_log s log number process)) (λ m. NamesNot serial m.process)

-- a process lingers in an instance after one of its turns, counted from 1, when so many generations were published: that turn is under none later, after it a
-- frame is of the instance, and the next turn is under none older
pub record Lingers (serial published turn : ℕ) (marks : List Mark) : Type 0 where
  pub place : ℕ
  pub mark : Mark
  pub counted : turn ≡ place + 1
  pub had : slice_get marks place ≡ Some mark
  pub seen : mark.generation ≤ published
  pub stands : is_among (names_of mark.process).frames serial ≡ true
  pub later : IfSome (slice_get marks (place + 1)) (λ m. published ≤ m.generation)

-- a soft purge that tells of a process that lingers tells the truth
abbrev pub LingersTold : Script → RunLog → Type 0
LingersTold s log =
    (place serial : ℕ) (e : Entry) (name : AtomId) (linger : Linger) → slice_get log.journal place ≡ Some e → e.cmd ≡ cmds.SoftPurge name (Some linger)
    → old_of (state_before s.modules place log.journal) name.0 ≡ Some serial
    → IsSomeAnd (slice_get log.processes linger.process) (λ process. Lingers serial (published_to place log.journal) linger.turn (turns_in_log s log linger.process process))

-- the instance that a command drops in a state, if it drops one
abbrev pub dropped_by : ServerState → Cmd → Option ℕ
dropped_by s (cmds.SoftPurge name None) = old_of s name.0
dropped_by s (cmds.Purge name killed) = old_of s name.0
dropped_by s _ = None

-- whether a process was killed since it stood in this instance
abbrev pub is_killed_by : ℕ → End → Bool
is_killed_by serial (ends.Killed by) = by == serial
is_killed_by serial _ = false

-- an instance is dropped where no process stands in it, and a purge tells whether it killed one
pub record PurgedUnnamed (s : Script) (log : RunLog) : Type 0 where
  pub unnamed : (place serial number : ℕ) (e : Entry) (process : ProcessLog) → slice_get log.journal place ≡ Some e → dropped_by (state_before s.modules place log.journal) e.cmd ≡ Some serial
      → slice_get log.processes number ≡ Some process → IfSome (last_up_to (published_to place log.journal) (turns_in_log s log number process)) (λ m. StandsNotIn serial m.process)
  pub told : (place serial : ℕ) (e : Entry) (name : AtomId) (killed : Bool) → slice_get log.journal place ≡ Some e → e.cmd ≡ cmds.Purge name killed
      → old_of (state_before s.modules place log.journal) name.0 ≡ Some serial → killed ≡ list_any (λ process. is_killed_by serial process.fin) log.processes

-- the generations of an observer's snapshots never fall
abbrev pub AreRising : List Snapshot → Type 0
AreRising [] = Unit {0}
AreRising (shot ∷ []) = Unit {0}
AreRising (shot ∷ other ∷ shots) = (shot.generation ≤ other.generation) × AreRising (other ∷ shots)

-- each observer has as many snapshots as its line says; each is of the exports of its generation, and no generation is older than that of the snapshot before
pub record SnapshotsTrue (s : Script) (log : RunLog) : Type 0 where
  pub counts : (observer count : ℕ) (shots : List Snapshot) → slice_get s.observers observer ≡ Some count → slice_get log.observers observer ≡ Some shots → length shots ≡ count
  pub exports : AllByRecursion (λ shots. AllByRecursion (λ shot. AreExports s.names (state_at s.modules empty_state log.journal shot.generation) shot.exports) shots) log.observers
  pub rising : AllByRecursion AreRising log.observers

-- after the last entry no area waits for its release
abbrev pub NothingRetired : Script → RunLog → Type 0
NothingRetired s log = (newest_state s.modules empty_state log.journal).retired ≡ []

-- a process log is that of a spawn line
pub record IsLogOf (line : SpawnLine) (process : ProcessLog) : Type 0 where
  pub target : process.target ≡ line.target
  pub args : process.args ≡ line.args

-- there is a log for each spawn line, in order
abbrev pub LogsMatch : List SpawnLine → List ProcessLog → Type 0
LogsMatch [] [] = Unit {0}
LogsMatch [] (process ∷ processes) = ⊥
LogsMatch (line ∷ lines) [] = ⊥
LogsMatch (line ∷ lines) (process ∷ processes) = IsLogOf line process × LogsMatch lines processes

-- a process has had a turn, and so has each of its spans
abbrev pub HasTurns : ProcessLog → Type 0
HasTurns process = (length process.spans ≢ 0) × All (λ span. 0 < span.turns) process.spans

-- nothing is missing: each process of the script has its log and at least one turn, each observer has its snapshots, no span is without a turn, and no turn
-- and no snapshot is of a generation that was not published
pub record Complete (s : Script) (log : RunLog) : Type 0 where
  pub processes : LogsMatch (spawns_of 0 s.loaders) log.processes
  pub turns : All HasTurns log.processes
  pub generations : All (λ process. All (λ span. span.generation ≤ published_count log.journal) process.spans) log.processes
  pub observers : length log.observers ≡ length s.observers
  pub snapshots : AllByRecursion (λ shots. AllByRecursion (λ shot. shot.generation ≤ published_count log.journal) shots) log.observers

-- the log is a history of one code server for this script
pub record Legal (s : Script) (log : RunLog) : Type 0 where
  pub replays : Replays s.modules empty_state log.journal
  pub loaders_in_order : LoadersInOrder s log.journal
  pub spawn_before_turns : SpawnBeforeTurns s log
  pub turns_follow : TurnsFollow s log
  pub released_unnamed : ReleasedUnnamed s log
  pub lingers_told : LingersTold s log
  pub purged_unnamed : PurgedUnnamed s log
  pub snapshots_true : SnapshotsTrue s log
  pub nothing_retired : NothingRetired s log
  pub complete : Complete s log
