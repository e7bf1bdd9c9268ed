-- What holds of the generations that the shared words show.
-- Source: Erlang/OTP erts internal documentation, CodeLoading: a turn sees one state of the code.
use Rattle.std.specs.Prelude.{◌≢◌, ℕ}
use Rattle.shared_words.specs.declared.seats.Member as tokens
use Rattle.progress_words.specs.Reports.{IsAwake, HoldsReported}
use Rattle.shared_words.specs.Processes.{held_by_view}
use Rattle.anchors.specs.Holds.{anchors_of, view_of}
use Rattle.machine_core.specs.declared.process.Process.{Process}
use Rattle.machine_core.specs.Turn.{MayTurn}
use Rattle.word_view.specs.Anchored.{holds_by}
use Rattle.code_law.specs.Served.{IsServed}
use Rattle.word_view.specs.Views.{HasGoneOn, IsReader, IsView, MayBegin, Viewed, held_of_view, shown_by, shown_of_view}

-- a member that reports may make turns of the process under the generation that it holds then
abbrev pub ReportsBegin : Type 0
ReportsBegin =
    (v : Viewed) (b : tokens.Member) (generation : ℕ) → IsView v → IsAwake (view_of b) → HoldsReported (IsServed v.names) (view_of v.token) (view_of b) generation → MayBegin v.names v.opening v.process (view_of b)

-- what was known of another process of the member is known of it once a view has gone on
abbrev pub OthersStay : Type 0
OthersStay =
    (v w : Viewed) (other : ℕ) → HasGoneOn v w → other ≢ v.process → IsReader v.names v.opening other (view_of v.token) → IsReader w.names w.opening other (view_of w.token)

-- a process that may have its next turn under one generation may have it under the one that its member holds once it has reported
abbrev pub TurnsGoOn : Type 0
TurnsGoOn =
    (v : Viewed) (b : tokens.Member) (generation : ℕ) (process : Process) → IsView v → HoldsReported (IsServed v.names) (view_of v.token) (view_of b) generation → MayTurn (shown_of_view v) (held_of_view v) process
    → MayTurn (shown_by v.names (held_by_view (view_of b))) (holds_by (anchors_of (view_of b) v.process)) process
