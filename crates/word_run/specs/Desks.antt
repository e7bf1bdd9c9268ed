-- What lies under the lock of a run: the permit, and what was posted to the schedulers.
-- Source: this project's profile. Whoever takes the lock knows what is told here, and nothing of what lay there before.
use Rattle.std.specs.Prelude.{◌≡◌, ℕ, ◌<◌, ◌≤◌, List, ◌++◌, length, slice_get, Option, Some, IsSomeAnd}
use Rattle.area_core.specs.Blocks.{Among}
use Rattle.run_log.specs.declared.logs.Entry.{Entry}
use Rattle.run_law.specs.Newcomers.{IsSpawnIn, SpawnedProcess}
use Rattle.inbox.specs.Ends.{Posting}
use Rattle.write_permit.specs.Permit.{PermitState, done_of}
use Rattle.write_permit.specs.Book.{shown}
use Rattle.word_permit.specs.declared.book.WordBook.{WordBook}

-- what contracts see of a desk
pub record DeskState : Type 0 where
  pub book : WordBook
  pub posted : List (Posting SpawnedProcess)

-- ---- what was posted

-- a process was spawned so: its spawn line was done
abbrev pub WasSpawned : PermitState → SpawnedProcess → Type 0
WasSpawned p spawn = IsSpawnIn p.script (done_of p.loaders) p.journal spawn.number spawn

-- each home has its number, and what was posted to it was spawned
pub record ArePosted (p : PermitState) (posted : List (Posting SpawnedProcess)) : Type 0 where
  pub number : (home : ℕ) (end : Posting SpawnedProcess) → slice_get posted home ≡ Some end → end.number ≡ home
  pub each : (home : ℕ) (end : Posting SpawnedProcess) → slice_get posted home ≡ Some end → (spawn : SpawnedProcess) → Among end.put spawn → WasSpawned p spawn

-- there is a home, and what was posted was spawned
pub record IsDesk (d : DeskState) : Type 0 where
  pub some : 0 < length d.posted
  pub posted : ArePosted (shown d.book.plain) d.posted

-- ---- what calls on the permit leave

-- entries joined, and commands may be done
pub record GoesOn (p q : PermitState) : Type 0 where
  pub script : q.script ≡ p.script
  pub more : List Entry
  pub journal : q.journal ≡ p.journal ++ more
  pub done : (loader : ℕ) → done_of p.loaders loader ≤ done_of q.loaders loader

-- a step under the lock leaves this of the permit and of what was posted
pub record MakesOn (p q : PermitState) (ends after : List (Posting SpawnedProcess)) : Type 0 where
  pub goes : GoesOn p q
  pub posted : ArePosted p ends → ArePosted q after
  pub homes : length after ≡ length ends

-- ---- since a round began

-- since the desk was another one, entries may have joined, and there are as many homes
pub record AddsInSlices (began now : DeskState) : Type 0 where
  pub goes : GoesOn (shown began.book.plain) (shown now.book.plain)
  pub homes : length now.posted ≡ length began.posted

-- the same of what a name stands for
abbrev pub IsSliceOf : Option DeskState → DeskState → Type 0
IsSliceOf began now = IsSomeAnd began (λ d. AddsInSlices d now)

-- so many homes there were when the round began
abbrev pub HasHomes : Option DeskState → ℕ → Type 0
HasHomes began count = IsSomeAnd began (λ d. length d.posted ≡ count)
