-- What the parts of a span come to: one turn with those that only repeat it, the lines, and the whole span.
-- Source: this project's report text. The definitions speak of turns in a row under one state; the code takes those at once that leave a process as it was.
use Rattle.std.specs.Prelude.{◌≡◌, ◌≢◌, ℕ, ◌+◌, ◌<◌, ◌≤◌, Bool, true, false, List, [], ◌++◌, length, take, Option, Some, None}
use Rattle.std.specs.List.{AllByRecursion}
use Rattle.server_core.specs.ServerState.{ServerState}
use Rattle.machine_core.specs.declared.process.Line.{Line}
use Rattle.machine_core.specs.declared.process.TurnEnd.{TurnEnd}
use Rattle.machine_core.specs.declared.process.TurnEnd.TheVariants.{Again, Ended}
use Rattle.machine_core.specs.Process.{PlainProcess}
use Rattle.machine_core.specs.Turn.{Turn, turn_of}
use Rattle.run_log.specs.declared.logs.Span.{Span}
use Rattle.run_log.specs.Legal.{after_turns, turns_of}
use Rattle.span_check.specs.declared.watch.Watch.{Watch}
use Rattle.span_check.specs.declared.spans.Rest.{Rest}
use Rattle.span_check.specs.Watches.{AreSeen, AreSeenToEnd, Sees}

-- a turn that goes on, makes no line and leaves the frames as they were
pub record LeavesFrames (s : ServerState) (p : PlainProcess) : Type 0 where
  pub goes : (turn_of s p).end ≡ Again
  pub silent : (turn_of s p).made ≡ []
  pub same : (turn_of s p).process.frames ≡ p.frames

-- a process had so many turns in a row: after the first one, with these lines and this end, the others left its frames as they were
pub record GoesOn (s : ServerState) (p now : PlainProcess) (turns : ℕ) (made : List Line) (end : TurnEnd) : Type 0 where
  pub some : 0 < turns
  pub made_is : (turn_of s p).made ≡ made
  pub end_is : (turn_of s p).end ≡ end
  pub reached : after_turns s turns p ≡ now
  pub alone : end ≢ Again → turns ≡ 1
  pub counted : end ≡ Again → now.turns ≡ p.turns + turns
  pub still : end ≡ Again → (k : ℕ) → 0 < k → k ≤ turns → (after_turns s k p).frames ≡ now.frames
  pub rest : end ≡ Again → (left : ℕ) (lines : List Line) → turns_of s (turns + left) p lines ≡ turns_of s left now (lines ++ made)

-- some turns of a span were taken, and their lines are the next ones of the span
pub record IsStep (s : ServerState) (p now : PlainProcess) (span : Span) (before after : Rest) (end : TurnEnd) : Type 0 where
  pub turns : ℕ
  pub made : List Line
  pub goes : GoesOn s p now turns made end
  pub turns_left : before.turns ≡ turns + after.turns
  pub lines_taken : take after.lines span.lines ≡ take before.lines span.lines ++ made
  pub within : after.lines ≤ length span.lines

-- the lines of a turn are not the next ones of the span
pub record HasOtherLines (s : ServerState) (p : PlainProcess) (span : Span) (before : Rest) : Type 0 where
  pub differ : (rest : List Line) → span.lines ≡ take before.lines span.lines ++ ((turn_of s p).made ++ rest) → ⊥

-- a step of a span, or none where its lines are others
abbrev pub StepsSo : ServerState → PlainProcess → PlainProcess → Span → Rest → Rest → Option TurnEnd → Type 0
StepsSo s p now span before after None = HasOtherLines s p span before
StepsSo s p now span before after (Some end) = IsStep s p now span before after end

-- nothing of a span is left, and the last turn ended so
pub record IsWhole (span : Span) (rest : Rest) (end wanted : TurnEnd) : Type 0 where
  pub turns : rest.turns ≡ 0
  pub all_lines : rest.lines ≡ length span.lines
  pub end_is : end ≡ wanted

-- what is known of watches after so many turns under a state, the last of which had this end
abbrev pub SeenSo : ServerState → PlainProcess → ℕ → List Watch → List Watch → TurnEnd → Type 0
SeenSo s p turns watches left Again = AreSeen s p turns watches left
SeenSo s p turns watches left (Ended fin) = AreSeenToEnd s p turns watches left

-- the turns of a span are those of the process, with just its lines and this end of the last, and the watches up to them were seen
pub record IsSpanTaken (s : ServerState) (p now : PlainProcess) (span : Span) (wanted : TurnEnd) (watches left : List Watch) : Type 0 where
  pub turns : turns_of s span.turns p [] ≡ Some (record { process = now; made = span.lines; end = wanted })
  pub reached : after_turns s span.turns p ≡ now
  pub counted : wanted ≡ Again → now.turns ≡ p.turns + span.turns
  pub seen : SeenSo s p span.turns watches left wanted

-- not both: the turns of the span are those of the process, with just its lines and this end, and each watch sees what it tells
pub record IsSpanRefused (s : ServerState) (p : PlainProcess) (span : Span) (wanted : TurnEnd) (watches : List Watch) : Type 0 where
  pub no : (t : Turn) → turns_of s span.turns p [] ≡ Some t → t.made ≡ span.lines → t.end ≡ wanted → AllByRecursion (Sees s p) watches → ⊥

-- how a span was judged
abbrev pub IsSpanJudged : ServerState → PlainProcess → PlainProcess → Span → TurnEnd → List Watch → List Watch → Bool → Type 0
IsSpanJudged s p now span wanted watches left true = IsSpanTaken s p now span wanted watches left
IsSpanJudged s p now span wanted watches left false = IsSpanRefused s p span wanted watches
