-- Turns of a process made one by one, each by what its generation let it read.
-- Source: this project's profile. The definitions go from process to process; a program keeps the last one, and its spans.
use Rattle.std.specs.Prelude.{◌≡◌, ℕ, ◌<◌, ◌≤◌, List, [], ◌∷◌, ◌++◌}
use Rattle.std.specs.List.{AllByRecursion}
use Rattle.server_core.specs.ServerState.{ServerState}
use Rattle.machine_core.specs.Process.{PlainProcess, new_process}
use Rattle.machine_core.specs.Reads.{Reads}
use Rattle.machine_core.specs.ServerReads.{reads_of}
use Rattle.machine_core.specs.Turn.{ArePlaced, turn_by}
use Rattle.script_core.specs.Processes.{SpawnLine}
use Rattle.run_log.specs.declared.logs.Entry.{Entry}
use Rattle.run_log.specs.Journal.{published_before}
use Rattle.run_log.specs.Legal.{Mark, marks_of}
use Rattle.run_steps.specs.declared.phase.Phase.TheVariants.{Going}
use Rattle.run_steps.specs.Stands.{Stand, going_stand, phase_after}
use Rattle.run_steps.specs.Standing.{StandsIn}
use Rattle.run_steps.specs.Turns.{joined}

-- a process after a turn under a generation, by what is read of that
abbrev pub turned_by : Reads → ℕ → Stand → Stand
turned_by r generation x = record {
  process = (turn_by r x.process).process;
  spans = joined generation (turn_by r x.process).made x.spans;
  phase = phase_after (turn_by r x.process).end;
}

-- one process became another by turns under these generations, oldest first: each turn is of a process that goes on
abbrev pub TurnsMade : (ℕ → Reads) → List ℕ → Stand → Stand → Type 0
TurnsMade reads [] x y = y ≡ x
TurnsMade reads (g ∷ generations) x y = (x.phase ≡ Going) × TurnsMade reads generations (turned_by (reads g) g x) y

-- before each of these turns the frames of the process stand at places
abbrev pub ArePlacedOver : (ℕ → Reads) → List ℕ → Stand → Type 0
ArePlacedOver reads [] x = Unit {0}
ArePlacedOver reads (g ∷ generations) x = ArePlaced (reads g) x.process.frames × ArePlacedOver reads generations (turned_by (reads g) g x)

-- what these turns left, each with its generation
abbrev pub marks_made : (ℕ → Reads) → List ℕ → Stand → List Mark
marks_made reads [] x = []
marks_made reads (g ∷ generations) x = record { generation = g; process = (turn_by (reads g) x.process).process } ∷ marks_made reads generations (turned_by (reads g) g x)

-- generations that do not fall, none below the first nor above the last
abbrev pub AreBetween : ℕ → ℕ → List ℕ → Type 0
AreBetween first top [] = Unit {0}
AreBetween first top (g ∷ generations) = (first ≤ g) × ((g ≤ top) × AreBetween g top generations)

-- what a process stands for after its turns, and that they are the turns of its log
pub record MadeAs (journal : List Entry) (states : ℕ → ServerState) (top done number : ℕ) (line : SpawnLine) (generations : List ℕ) (y : Stand) : Type 0 where
  pub stands : StandsIn journal states top done number line y y.phase
  pub marks : marks_of states (new_process number line.target line.args) y.spans ≡ marks_made (λ g. reads_of (states g)) generations (going_stand number line.target line.args)

-- a process that was spawned and had turns under states of the journal, none before its spawn, stands where a run has it
abbrev pub MadeTurnsFollow : Type 0
MadeTurnsFollow =
    (journal : List Entry) (states : ℕ → ServerState) (top done number : ℕ) (line : SpawnLine) (generations : List ℕ) (y : Stand) → line.place < done
    → ((g : ℕ) → g ≤ top → (states g).generation ≡ g) → published_before line.loader line.place journal ≤ top
    → AreBetween (published_before line.loader line.place journal) top generations → TurnsMade (λ g. reads_of (states g)) generations (going_stand number line.target line.args) y
    → MadeAs journal states top done number line generations y

-- two ways to read let each process at places have the same turn
abbrev pub TurnsAlike : Reads → Reads → Type 0
TurnsAlike r other = (p : PlainProcess) → ArePlaced r p.frames → turn_by r p ≡ turn_by other p

-- the same turns were made by another way to read, and left the same
pub record AreAlsoMade (others : ℕ → Reads) (generations : List ℕ) (marks : List Mark) (x y : Stand) : Type 0 where
  pub made : TurnsMade others generations x y
  pub marks_are : marks ≡ marks_made others generations x

-- turns that were made by one way to read are made by another that lets each process have the same turn, under each of their generations
abbrev pub MadeAlike : Type 0
MadeAlike =
    (reads others : ℕ → Reads) (generations : List ℕ) (x y : Stand) → AllByRecursion (λ g. TurnsAlike (reads g) (others g)) generations → ArePlacedOver reads generations x
    → TurnsMade reads generations x y → AreAlsoMade others generations (marks_made reads generations x) x y

-- one turn more, of a process at places
pub record HasOneMore (reads : ℕ → Reads) (generations : List ℕ) (g : ℕ) (x y : Stand) : Type 0 where
  pub made : TurnsMade reads (generations ++ g ∷ []) x (turned_by (reads g) g y)
  pub placed : ArePlacedOver reads (generations ++ g ∷ []) x
  pub marks_are : marks_made reads (generations ++ g ∷ []) x
      ≡ marks_made reads generations x ++ record { generation = g; process = (turn_by (reads g) y.process).process } ∷ []

-- a process that goes on, at places, may have one turn more
abbrev pub OneMoreMade : Type 0
OneMoreMade =
    (reads : ℕ → Reads) (generations : List ℕ) (g : ℕ) (x y : Stand) → TurnsMade reads generations x y → ArePlacedOver reads generations x → y.phase ≡ Going
    → ArePlaced (reads g) y.process.frames → HasOneMore reads generations g x y
