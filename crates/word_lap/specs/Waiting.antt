-- A scheduler's member while the scheduler has no lap: it waits, and holds back no progress.
-- Source: Erlang/OTP erts internal documentation, ThreadProgress: a thread that sleeps reports nothing.
use Rattle.std.specs.Prelude.{◌≡◌, ◌<◌, length}
use Rattle.atomic_table.specs.Seated.{TableId}
use Rattle.shared_words.specs.declared.seats.Member as tokens
use Rattle.shared_words.specs.declared.view.MemberView.{MemberView}
use Rattle.shared_words.specs.Kinds.{now_waiting}
use Rattle.shared_words.specs.Processes.{AreCopied}
use Rattle.shared_words.specs.Seats.{IsMemberSeat}
use Rattle.anchors.specs.Holds.{view_of}
use Rattle.word_lap.specs.Schedulers.{IsBetweenTurns}

-- the token is that of a member of this table, with a right copy of its anchors, who waits and knew this before
pub record WaitsAfter (table : TableId) (before : MemberView) (token : tokens.Member) : Type 0 where
  pub seat : IsMemberSeat table token.number token.seat
  pub copied : AreCopied token.anchors.items (view_of token)
  pub learnt : before.member.generation < length before.seen
  pub between : IsBetweenTurns before
  pub waits : view_of token ≡ now_waiting before

-- it is that of a member who waits
abbrev pub IsWaiting : TableId → tokens.Member → Type 0
IsWaiting table token = (before : MemberView) × WaitsAfter table before token
