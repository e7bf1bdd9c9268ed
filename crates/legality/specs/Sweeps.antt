-- What is known of a log after the entries of its journal before a place.
-- Source: this project's profile. The definitions replay journal and turns; the code keeps one server and where each process stands.
use Rattle.std.specs.Prelude.{◌≡◌, ℕ, ◌+◌, ◌<◌, ◌≤◌, ◌==◌, Bool, true, false, is_some, List, [], ◌∷◌, length, drop, slice_get, Option, Some, None, if◌then◌else◌, All}
use Rattle.std.specs.List.{filter_map}
use Rattle.std.specs.List.Sorted.{IsPermutation}
use Rattle.term_core.specs.declared.atom.AtomId.{AtomId}
use Rattle.mod_core.specs.declared.code.Module.{Module}
use Rattle.server_core.specs.declared.command.Cmd.{Cmd}
use Rattle.server_core.specs.declared.command.Cmd.TheVariants as cmds
use Rattle.server_core.specs.declared.command.Linger.{Linger}
use Rattle.server_core.specs.ServerState.{ServerState, IsSound, empty_state, old_of}
use Rattle.machine_core.specs.Process.{Words}
use Rattle.machine_core.specs.View.{server_words}
use Rattle.script_core.specs.declared.script.Script.{Script}
use Rattle.run_log.specs.declared.logs.Entry.{Entry}
use Rattle.run_log.specs.declared.logs.ProcessLog.{ProcessLog}
use Rattle.run_log.specs.declared.logs.RunLog.{RunLog}
use Rattle.run_log.specs.declared.logs.Snapshot.{Snapshot}
use Rattle.run_log.specs.Journal.{next_state, state_at}
use Rattle.run_log.specs.Legal.{EntryFollows, Lingers, MayStand, is_release, is_runtime, published_to, state_before, turns_in_log}
use Rattle.run_log.specs.declared.underway.HalfPurge.{HalfPurge}
use Rattle.run_log.specs.Snapshots.{AreExports}
use Rattle.span_check.specs.declared.standing.Standing.{Standing}
use Rattle.span_check.specs.declared.watch.Watch.{Watch}
use Rattle.run_log.specs.ExportedFunctions.{AreExportedFunctions}
use Rattle.span_check.specs.Standings.{HasItsNames, IsReached, IsReady, NeverFall, StandsAt}
use Rattle.span_check.specs.Sweeps.{IsRefused, IsTaken}
use Rattle.span_check.specs.Watches.{AreInOrder}
use Rattle.legality.specs.declared.known.Known.{Known}
use Rattle.legality.specs.declared.sweep.Sweep.{Sweep}
use Rattle.legality.specs.declared.breach.Clause.{Clause}
use Rattle.legality.specs.declared.breach.Clause.TheVariants as clauses
use Rattle.legality.specs.Entries.{LingerBefore, MeetBefore, half_before}
use Rattle.legality.specs.Looks.{AreKilled, IsTold}

-- ---- processes

-- a process stands where the spans under the generations before this one have brought it, and may go on
pub record IsStanding (s : Script) (log : RunLog) (server : ServerState) (generation number : ℕ) (process : ProcessLog) (standing : Standing) : Type 0 where
  pub stands : StandsAt (state_at s.modules empty_state log.journal) (server_words server) number process standing
  pub reached : IsReached generation process standing
  pub ready : IsReady server standing
  pub named : HasItsNames standing

-- so does each process of the log
pub record AreStanding (s : Script) (log : RunLog) (server : ServerState) (generation : ℕ) (standings : List Standing) : Type 0 where
  pub many : length standings ≡ length log.processes
  pub each : (number : ℕ) (process : ProcessLog) (standing : Standing) → slice_get log.processes number ≡ Some process → slice_get standings number ≡ Some standing → IsStanding s log server generation number process standing

-- nothing of a process was judged
pub record IsBegun (number : ℕ) (process : ProcessLog) (standing : Standing) : Type 0 where
  pub stands : (states : ℕ → ServerState) (words : Words) → StandsAt states words number process standing
  pub reached : (generation : ℕ) → generation ≡ 0 → IsReached generation process standing
  pub ready : (s : ServerState) → IsReady s standing
  pub named : HasItsNames standing

-- so many processes stand there of which nothing was judged
pub record AreBegun (processes : List ProcessLog) (count : ℕ) (standings : List Standing) : Type 0 where
  pub many : length standings ≡ count
  pub each : (number : ℕ) (process : ProcessLog) (standing : Standing) → slice_get processes number ≡ Some process → slice_get standings number ≡ Some standing → IsBegun number process standing

-- what the entries from a place on tell of processes that linger, up to the next generation, is so
abbrev pub LingersAhead : Script → RunLog → ServerState → ℕ → Type 0
LingersAhead s log server place =
    (k serial : ℕ) (e : Entry) (name : AtomId) (linger : Linger) (process : ProcessLog) → place ≤ k → slice_get log.journal k ≡ Some e → published_to k log.journal ≡ server.generation
    → e.cmd ≡ cmds.SoftPurge name (Some linger) → old_of server name.0 ≡ Some serial → slice_get log.processes linger.process ≡ Some process
    → Lingers serial server.generation linger.turn (turns_in_log s log linger.process process)

-- the entries up to the one that makes the next generation, that one with them
abbrev pub stretch : List Entry → List Entry
stretch [] = []
stretch (e ∷ journal) = if is_some e.published then e ∷ [] else e ∷ stretch journal

-- what a lingering answer makes to be watched: the turn, and the old code of the module
abbrev pub watch_for : Option ℕ → Linger → Option Watch
watch_for None linger = None
watch_for (Some serial) linger = Some (record { turn = linger.turn; serial = serial })

-- what a command makes to be watched of a process in a state
abbrev pub watch_in : ServerState → ℕ → Cmd → Option Watch
watch_in s number (cmds.SoftPurge name (Some linger)) = if linger.process == number then watch_for (old_of s name.0) linger else None
watch_in s number _ = None

-- what these entries make to be watched of a process in a state, in order
abbrev pub watches_in : ServerState → ℕ → List Entry → List Watch
watches_in s number journal = filter_map (λ e. watch_in s number e.cmd) journal

-- these are the watches of a process, in the order of their turns
pub record AreWatches (s : ServerState) (number : ℕ) (journal : List Entry) (watches : List Watch) : Type 0 where
  pub order : AreInOrder watches
  pub all : IsPermutation (watches_in s number journal) watches

-- the spans of a process under the state's generation may be taken
pub record MayBeTaken (s : ServerState) (process : ProcessLog) (standing : Standing) : Type 0 where
  pub falls : NeverFall process.spans
  pub reached : IsReached s.generation process standing
  pub ready : IsReady s standing
  pub named : HasItsNames standing

-- the spans of a process under the state's generation were taken, with the watches that these entries make
pub record IsTakenWith (s : ServerState) (journal : List Entry) (number : ℕ) (process : ProcessLog) (before after : Standing) : Type 0 where
  pub watches : List Watch
  pub are : AreWatches s number journal watches
  pub taken : IsTaken s process watches before after

-- so were those of each process
pub record AllTaken (s : ServerState) (journal : List Entry) (processes : List ProcessLog) (before after : List Standing) : Type 0 where
  pub many : length after ≡ length before
  pub each : (number : ℕ) (process : ProcessLog) (b a : Standing) → slice_get processes number ≡ Some process → slice_get before number ≡ Some b → slice_get after number ≡ Some a → IsTakenWith s journal number process b a

-- those of some process cannot be taken
pub record SomeRefused (s : ServerState) (journal : List Entry) (processes : List ProcessLog) (before : List Standing) : Type 0 where
  pub number : ℕ
  pub process : ProcessLog
  pub standing : Standing
  pub watches : List Watch
  pub process_at : slice_get processes number ≡ Some process
  pub standing_at : slice_get before number ≡ Some standing
  pub are : AreWatches s number journal watches
  pub refused : IsRefused s process watches standing

-- how the spans of a generation were judged
abbrev pub AreSpansJudged : ServerState → List Entry → List ProcessLog → List Standing → List Standing → Bool → Type 0
AreSpansJudged s journal processes before after true = AllTaken s journal processes before after
AreSpansJudged s journal processes before after false = SomeRefused s journal processes before

-- ---- observers

-- a snapshot is of the exports of its generation
abbrev pub IsTrueShot : Script → RunLog → Snapshot → Type 0
IsTrueShot s log shot = AreExports s.names (state_at s.modules empty_state log.journal shot.generation) shot.exports

-- so many snapshots of an observer were seen: each of them is true, and the others are not of generations before this one
pub record IsSeen (s : Script) (log : RunLog) (generation : ℕ) (shots : List Snapshot) (seen : ℕ) : Type 0 where
  pub within : seen ≤ length shots
  pub each : (k : ℕ) (shot : Snapshot) → k < seen → slice_get shots k ≡ Some shot → IsTrueShot s log shot
  pub behind : (k : ℕ) (shot : Snapshot) → seen ≤ k → slice_get shots k ≡ Some shot → generation ≤ shot.generation

-- so it is of each observer
pub record AreSeen (s : Script) (log : RunLog) (generation : ℕ) (seen : List ℕ) : Type 0 where
  pub many : length seen ≡ length log.observers
  pub each : (observer count : ℕ) (shots : List Snapshot) → slice_get log.observers observer ≡ Some shots → slice_get seen observer ≡ Some count → IsSeen s log generation shots count

-- ---- the sweep

-- the entries before a place meet what a lawful log says of them, the server has the state before that place, and the purge that waits there waits
pub record IsAt (s : Script) (log : RunLog) (place : ℕ) (server : ServerState) (half : Option HalfPurge) : Type 0 where
  pub within : place ≤ length log.journal
  pub meet : MeetBefore s log place
  pub server_is : server ≡ state_before s.modules place log.journal
  pub sound : IsSound server
  pub half_is : half ≡ half_before place log.journal

-- a generation was just made, and nothing of it is judged yet; of lingering processes only what is watched
pub record IsMade (s : Script) (log : RunLog) (watched : Bool) (place : ℕ) (sweep : Sweep) : Type 0 where
  pub here : IsAt s log place sweep.server sweep.half
  pub linger : watched ≡ true → LingerBefore s log place
  pub first : state_at s.modules empty_state log.journal sweep.server.generation ≡ sweep.server
  pub standings : AreStanding s log sweep.server sweep.server.generation sweep.standings.items
  pub seen : AreSeen s log sweep.server.generation sweep.seen.items

-- all up to the newest generation is judged; of lingering processes only what is watched
pub record IsSwept (s : Script) (log : RunLog) (watched : Bool) (place : ℕ) (sweep : Sweep) : Type 0 where
  pub here : IsAt s log place sweep.server sweep.half
  pub linger : watched ≡ true → LingerBefore s log place
  pub standings : AreStanding s log sweep.server (sweep.server.generation + 1) sweep.standings.items
  pub ahead : watched ≡ true → LingersAhead s log sweep.server place
  pub seen : AreSeen s log (sweep.server.generation + 1) sweep.seen.items

-- what is looked up of a script and a log is right
pub record IsKnown (s : Script) (log : RunLog) (known : Known) : Type 0 where
  pub functions : AreExportedFunctions s.names s.modules known.functions
  pub killed : AreKilled known.killed log.processes

-- ---- steps

-- an entry is made by whom it may be, stands where it may, and tells the truth of the processes as they stand
pub record MayBeMade (sweep : Sweep) (processes : List ProcessLog) (e : Entry) : Type 0 where
  pub by_whom : is_runtime e.who ≡ is_release e.cmd
  pub stands : MayStand sweep.server sweep.half e
  pub told : IsTold sweep.server sweep.standings.items processes e.cmd

-- an entry was made on the server: it follows from the state before, and the server has the state after it
pub record HasFollowed (texts : List Module) (before after : ServerState) (e : Entry) : Type 0 where
  pub follows : EntryFollows texts before e
  pub next : after ≡ next_state texts before e.cmd
  pub sound : IsSound after

-- what is known after an entry: where it made a generation, nothing of that is judged yet
abbrev pub AfterEntry : Script → RunLog → Bool → ℕ → Sweep → Option ℕ → Type 0
AfterEntry s log watched place sweep None = IsSwept s log watched place sweep
AfterEntry s log watched place sweep (Some generation) = IsMade s log watched place sweep

-- what is known after the entry at a place
abbrev pub AfterPlace : Script → RunLog → Bool → ℕ → Sweep → Type 0
AfterPlace s log watched place sweep = (e : Entry) → slice_get log.journal place ≡ Some e → AfterEntry s log watched (place + 1) sweep e.published

-- the entries that are looked at ahead for processes that linger: those up to the next generation where these are watched, else none
abbrev pub watched_ahead : Bool → ℕ → List Entry → List Entry
watched_ahead watched place journal = if watched then stretch (drop place journal) else []

-- the clause that refused spans break: where it is watched who lingers, what is told of that, else the turns
abbrev pub clause_of_spans : Bool → Clause
clause_of_spans watched = if watched then clauses.LingersTold else clauses.TurnsFollow

-- after the last entry nothing waits: no purge, no area, no process
pub record HasEnded (sweep : Sweep) : Type 0 where
  pub half : sweep.half ≡ None
  pub retired : sweep.server.retired ≡ []
  pub ended : All (λ standing. standing.ended ≡ true) sweep.standings.items

-- something still waits after the last entry, and so a clause does not hold
abbrev pub IsLeft : Sweep → Clause → Type 0
IsLeft sweep clauses.LoadersInOrder = sweep.half ≡ None → ⊥
IsLeft sweep clauses.NothingRetired = sweep.server.retired ≡ [] → ⊥
IsLeft sweep clauses.TurnsFollow = All (λ standing. standing.ended ≡ true) sweep.standings.items → ⊥
IsLeft sweep _ = ⊥

-- the clause that an entry breaks where what its command tells of the processes is not so
abbrev pub told_by : Cmd → Clause
told_by (cmds.SoftPurge name (Some linger)) = clauses.LingersTold
told_by (cmds.Release serial) = clauses.ReleasedUnnamed
told_by _ = clauses.PurgedUnnamed
