-- Processes on their way to their schedulers: what is posted for the spawn lines of a script that were done, and what was taken.
-- Source: this project's profile.
use Rattle.std.specs.Prelude.{◌≡◌, ℕ, ◌<◌, ◌%◌, List, length, slice_get, Some}
use Rattle.term_core.specs.declared.atom.Mfa.{Mfa}
use Rattle.term_core.specs.PlainTerm.{PlainTerm}
use Rattle.area_core.specs.Blocks.{Among}
use Rattle.script_core.specs.declared.script.Script.{Script}
use Rattle.script_core.specs.Processes.{SpawnLine, spawns_of}
use Rattle.run_log.specs.declared.logs.Entry.{Entry}
use Rattle.run_log.specs.Journal.{published_before}
use Rattle.run_log.specs.Legal.{commands_of}

-- a process that was spawned, with how many generations were published then
pub record SpawnedProcess : Type 0 where
  pub number : ℕ
  pub target : Mfa
  pub args : List PlainTerm
  pub published : ℕ

-- what is posted for the process of a spawn line
abbrev pub spawn_for : List Entry → ℕ → SpawnLine → SpawnedProcess
spawn_for journal number line = record { number = number; target = line.target; args = line.args; published = published_before line.loader line.place journal }

-- the spawn line of this process was done, where so many commands of each loader were, and this is what was posted for it
pub record IsSpawnIn (s : Script) (done : ℕ → ℕ) (journal : List Entry) (number : ℕ) (spawn : SpawnedProcess) : Type 0 where
  pub line : SpawnLine
  pub at : slice_get (spawns_of 0 s.loaders) number ≡ Some line
  pub was_done : line.place < done line.loader
  pub is : spawn ≡ spawn_for journal number line

-- what is posted to one of so many homes is the spawns of its processes, and each of these was posted
pub record ArePosted (s : Script) (done : ℕ → ℕ) (journal : List Entry) (homes home : ℕ) (put : List SpawnedProcess) : Type 0 where
  pub sound : (spawn : SpawnedProcess) → Among put spawn → IsSpawnIn s done journal spawn.number spawn × (spawn.number % homes ≡ home)
  pub whole : (number : ℕ) (spawn : SpawnedProcess) → number % homes ≡ home → IsSpawnIn s done journal number spawn → Among put spawn

-- all that was posted was taken, and nothing else
pub record AreTaken (put taken : List SpawnedProcess) : Type 0 where
  pub all : (spawn : SpawnedProcess) → Among put spawn → Among taken spawn
  pub only : (spawn : SpawnedProcess) → Among taken spawn → Among put spawn

-- each loader has made all its commands
abbrev pub AreAllDone : Script → (ℕ → ℕ) → Type 0
AreAllDone s done = (loader : ℕ) → done loader ≡ length (commands_of s loader)

-- the process of a line was taken, and whatever was taken under its number is just that
pub record IsTaken (journal : List Entry) (number : ℕ) (line : SpawnLine) (taken : List SpawnedProcess) : Type 0 where
  pub among : Among taken (spawn_for journal number line)
  pub one : (spawn : SpawnedProcess) → Among taken spawn → spawn.number ≡ number → spawn ≡ spawn_for journal number line
