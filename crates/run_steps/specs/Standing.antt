-- Where a process of the script stands between two steps of a run: it waits for its spawn, or its turns so far belong to the journal.
-- Source: this project's profile. The definitions replay the turns; a program keeps the process that they led to.
use Rattle.std.specs.Prelude.{◌≡◌, ℕ, ◌<◌, ◌≤◌, List, [], Option, Some, None, IfSome}
use Rattle.std.specs.List.{AllByRecursion}
use Rattle.server_core.specs.ServerState.{ServerState}
use Rattle.machine_core.specs.declared.process.End.{End}
use Rattle.machine_core.specs.Process.{PlainProcess, new_process}
use Rattle.script_core.specs.Processes.{SpawnLine}
use Rattle.run_log.specs.declared.logs.Entry.{Entry}
use Rattle.run_log.specs.Journal.{published_before}
use Rattle.run_log.specs.Legal.{SpansFollow, SpansGo, first_generation}
use Rattle.run_log.specs.WholeSpans.{AreWhole}
use Rattle.run_steps.specs.declared.phase.Phase.{Phase}
use Rattle.run_steps.specs.declared.phase.Phase.TheVariants.{Waiting, Going, Ended}
use Rattle.run_steps.specs.Stands.{Stand}

-- a process whose spawn is still to come: so many commands of its loader were made
pub record Waits (done number : ℕ) (line : SpawnLine) (stand : Stand) : Type 0 where
  pub process : stand.process ≡ new_process number line.target line.args
  pub spans : stand.spans ≡ []
  pub still : done ≤ line.place

-- a process that was spawned and has had turns: what they were under belongs to the journal
pub record WasSpawned (top done number : ℕ) (journal : List Entry) (line : SpawnLine) (stand : Stand) : Type 0 where
  pub spawned : line.place < done
  pub numbered : stand.process.number ≡ number
  pub target : stand.process.target ≡ line.target
  pub args : stand.process.args ≡ line.args
  pub started : IfSome (first_generation stand.spans) (λ g. published_before line.loader line.place journal ≤ g)
  pub known : AllByRecursion (λ span. span.generation ≤ top) stand.spans
  pub whole : AreWhole stand.spans

-- its turns are those that its spans tell, up to now or up to its end
abbrev pub Follows : (ℕ → ServerState) → PlainProcess → Stand → Option End → Type 0
Follows states first stand None = SpansGo states first stand.spans stand.process
Follows states first stand (Some fin) = SpansFollow states first stand.spans fin

-- a process that was spawned, with its end, if it has ended
pub record IsSpawned (journal : List Entry) (states : ℕ → ServerState) (top done number : ℕ) (line : SpawnLine) (stand : Stand) (fin : Option End) : Type 0 where
  pub was : WasSpawned top done number journal line stand
  pub follow : Follows states (new_process number line.target line.args) stand fin

-- what is known of a process in a phase
abbrev pub StandsIn : List Entry → (ℕ → ServerState) → ℕ → ℕ → ℕ → SpawnLine → Stand → Phase → Type 0
StandsIn journal states top done number line stand Waiting = Waits done number line stand
StandsIn journal states top done number line stand Going = IsSpawned journal states top done number line stand None
StandsIn journal states top done number line stand (Ended fin) = IsSpawned journal states top done number line stand (Some fin)
