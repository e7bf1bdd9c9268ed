-- A member with one process that makes turns.
use Rattle.std.specs.Prelude.{◌≡◌, ℕ, ◌+◌, ◌<◌, length, IsTrue}
use Rattle.atomic_table.specs.Seated.{TableId}
use Rattle.prgr_core.specs.Step.{follows}
use Rattle.area_core.specs.declared.table.Published.{Published}
use Rattle.marks.specs.Names.{IsAtRest}
use Rattle.shared_words.specs.declared.opening.Opening.{Opening}
use Rattle.shared_words.specs.declared.seats.Member as tokens
use Rattle.shared_words.specs.declared.view.MemberView.{MemberView}
use Rattle.shared_words.specs.Views.{published_at}
use Rattle.shared_words.specs.Processes.{process_of, AreCopied}
use Rattle.progress_words.specs.Tokens.{view_of, IsMemberOf}
use Rattle.anchors.specs.Holds.{anchors_of, MayRun, IsUnkilled}

-- the process may end a turn: its member's token is one of this table and awake, and its other processes have no turn under way
pub record MayEnd (table : TableId) (opening : Opening) (process : ℕ) (token : tokens.Member) : Type 0 where
  pub of : IsMemberOf table token
  pub copied : AreCopied token.anchors.items (view_of token)
  pub run : MayRun opening process (view_of token)
  pub learnt : (view_of token).member.generation < length (view_of token).seen
  pub follows : IsTrue (follows (view_of token).member.role)
  pub others : (other : ℕ) → (other ≡ process → ⊥) → IsAtRest (process_of (view_of token) other)

-- it may name areas too: nothing has killed it
pub record IsWorking (table : TableId) (opening : Opening) (process : ℕ) (token : tokens.Member) : Type 0 where
  pub ends : MayEnd table opening process token
  pub unkilled : IsUnkilled (anchors_of (view_of token) process)

-- the member holds this generation
abbrev pub IsUnder : Published → MemberView → Type 0
IsUnder p m = published_at m.seen m.member.generation ≡ p

-- how many turns the process has done
abbrev pub turns_done : ℕ → MemberView → ℕ
turns_done process m = length (process_of m process).marks

-- the process is about to make its first turn, under this generation
pub record IsPlaying (table : TableId) (opening : Opening) (process : ℕ) (p : Published) (token : tokens.Member) : Type 0 where
  pub works : IsWorking table opening process token
  pub under : IsUnder p (view_of token)
  pub turns : turns_done process (view_of token) ≡ 0

-- the process goes on, under what it was under, and has ended no turn
pub record GoesOn (table : TableId) (opening : Opening) (process : ℕ) (old new : tokens.Member) : Type 0 where
  pub works : IsWorking table opening process new
  pub under : (p : Published) → IsUnder p (view_of old) → IsUnder p (view_of new)
  pub turns : turns_done process (view_of new) ≡ turns_done process (view_of old)
  pub number : new.number ≡ old.number

-- it goes on, and has ended one turn more
pub record HasEndedTurn (table : TableId) (opening : Opening) (process : ℕ) (old new : tokens.Member) : Type 0 where
  pub works : IsWorking table opening process new
  pub rests : IsAtRest (process_of (view_of new) process)
  pub under : (p : Published) → IsUnder p (view_of old) → IsUnder p (view_of new)
  pub turns : turns_done process (view_of new) ≡ turns_done process (view_of old) + 1
  pub number : new.number ≡ old.number
