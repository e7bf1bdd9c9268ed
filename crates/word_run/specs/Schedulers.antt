-- What a scheduler keeps between two of its calls.
-- Source: this project's profile. What a scheduler knows of its processes is over what its member has learnt: nothing that another thread does changes it.
use Rattle.std.specs.Prelude.{◌≡◌, ℕ, ◌+◌, Bool, true, false, List, length, Option, Some}
use Rattle.atomic_table.specs.Seated.{TableId}
use Rattle.term_core.specs.declared.atom.Mfa.{Mfa}
use Rattle.shared_words.specs.declared.opening.Opening.{Opening}
use Rattle.shared_words.specs.declared.seats.Member as tokens
use Rattle.shared_words.specs.declared.view.MemberView.{MemberView}
use Rattle.anchors.specs.Holds.{view_of}
use Rattle.run_law.specs.Newcomers.{SpawnedProcess}
use Rattle.word_lap.specs.declared.process_run.ProcessRun.{ProcessRun}
use Rattle.word_lap.specs.Schedulers.{IsBetweenTurns, IsToken, KeepsProcesses}
use Rattle.word_lap.specs.Waiting.{WaitsAfter}
use Rattle.word_run.specs.declared.scheduler.Scheduler.{Scheduler}

-- a member that waits knew this before; one that does not is between two turns, and knows this
abbrev pub StandsBy : Bool → TableId → MemberView → tokens.Member → Type 0
StandsBy true table before token = WaitsAfter table before token
StandsBy false table before token = IsToken table token × (IsBetweenTurns (view_of token) × (before ≡ view_of token))

-- the token of the member of this number, between two calls: it knows of the generations up to the one that it holds
pub record IsSeatedBy (table : TableId) (number : ℕ) (waits : Bool) (generation : ℕ) (token : tokens.Member) : Type 0 where
  pub own : token.number ≡ number
  pub before : MemberView
  pub stands : StandsBy waits table before token
  pub held : before.member.generation ≡ generation
  pub learnt : length before.seen ≡ generation + 1

-- and what it knew then keeps these processes
pub record KeepsBy (functions : List Mfa) (table : TableId) (opening : Opening) (number : ℕ) (waits : Bool) (generation : ℕ) (token : tokens.Member) (taken : List SpawnedProcess) (processes : List (Option ProcessRun)) : Type 0 where
  pub seated : IsSeatedBy table number waits generation token
  pub kept : KeepsProcesses functions opening seated.before taken processes

module _ {T : Type 0} {I : Type 0} where
  -- a scheduler between two of its calls: the token of its member is there, and it keeps what it knows of its processes
  pub record Keeps (functions : List Mfa) (table : TableId) (opening : Opening) (s : Scheduler T I) : Type 0 where
    pub inbox : s.taker.number ≡ s.number
    pub token : tokens.Member
    pub there : s.member ≡ Some token
    pub by : KeepsBy functions table opening s.number s.waits s.generation token s.taker.taken s.processes.items
