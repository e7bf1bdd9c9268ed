-- What the spans of a process under one generation come to: they are its turns, and what soft purges told of it is so; or else not both.
-- Source: this project's profile. The definitions hold for all states of the other generations; the code has the server's alone.
use Rattle.std.specs.Prelude.{◌≡◌, ℕ, ◌+◌, ◌≤◌, ◌==◌, Bool, true, false, List, [], ◌∷◌, ◌++◌, length, take, drop, Option, Some, None, is_some, if◌then◌else◌}
use Rattle.std.specs.List.{AllByRecursion, prefix_len}
use Rattle.server_core.specs.ServerState.{ServerState}
use Rattle.machine_core.specs.declared.process.End.{End}
use Rattle.machine_core.specs.Process.{PlainProcess, process_of}
use Rattle.machine_core.specs.View.{server_words}
use Rattle.run_log.specs.declared.logs.ProcessLog.{ProcessLog}
use Rattle.run_log.specs.declared.logs.Span.{Span}
use Rattle.run_log.specs.Legal.{SpansFollow, SpansGo, after_turns}
use Rattle.span_check.specs.declared.standing.Standing.{Standing}
use Rattle.span_check.specs.declared.watch.Watch.{Watch}
use Rattle.span_check.specs.Standings.{AreTold, HasItsNames, IsReached, IsReady, StandsAt, first_of}
use Rattle.span_check.specs.Watches.{AreSeen, AreSeenToEnd, Sees}

-- how many spans from the front on are under this generation
abbrev pub count_under : ℕ → List Span → ℕ
count_under generation spans = prefix_len (λ span. span.generation == generation) spans

-- how many turns spans have
abbrev pub turns_in : List Span → ℕ
turns_in [] = 0
turns_in (span ∷ spans) = span.turns + turns_in spans

-- the spans of a generation were taken: the log was judged up to the next one, and what soft purges told of its process is so
pub record IsTaken (s : ServerState) (log : ProcessLog) (watches : List Watch) (before after : Standing) : Type 0 where
  pub stands : (states : ℕ → ServerState) (number : ℕ) → states s.generation ≡ s → StandsAt states (server_words s) number log before → StandsAt states (server_words s) number log after
  pub told : (states : ℕ → ServerState) (number : ℕ) → states s.generation ≡ s → StandsAt states (server_words s) number log before → AreTold states number log s.generation watches
  pub reached : IsReached (s.generation + 1) log after
  pub ready : IsReady s after
  pub named : HasItsNames after

-- not both: the turns of the process follow as the log tells, and what soft purges told of it is so
pub record IsRefused (s : ServerState) (log : ProcessLog) (watches : List Watch) (before : Standing) : Type 0 where
  pub no : (states : ℕ → ServerState) (number : ℕ) → states s.generation ≡ s → StandsAt states (server_words s) number log before → SpansFollow states (first_of number log) log.spans log.fin → AreTold states number log s.generation watches → ⊥

-- spans in a row, all under the state's generation, are the turns of a process that goes on, and the watches up to them were seen
pub record AreTaken (s : ServerState) (here : List Span) (p now : PlainProcess) (watches left : List Watch) : Type 0 where
  pub goes : (states : ℕ → ServerState) (first : PlainProcess) (before : List Span) → states s.generation ≡ s → AllByRecursion (λ span. span.generation ≤ s.generation) before → SpansGo states first before p
      → SpansGo states first (before ++ here) now
  pub reached : after_turns s (turns_in here) p ≡ now
  pub counted : now.turns ≡ p.turns + turns_in here
  pub seen : AreSeen s p (turns_in here) watches left

-- not both: such spans, behind which there are more, are the turns of the process, and each watch sees what it tells
pub record AreNotTaken (s : ServerState) (here : List Span) (p : PlainProcess) (watches : List Watch) : Type 0 where
  pub no : (states : ℕ → ServerState) (first : PlainProcess) (before : List Span) (next : Span) (after : List Span) (fin : End) → states s.generation ≡ s → AllByRecursion (λ span. span.generation ≤ s.generation) before → SpansGo states first before p
      → SpansFollow states first (before ++ (here ++ next ∷ after)) fin → AllByRecursion (Sees s p) watches → ⊥

-- how spans that do not end their process were judged
abbrev pub AreJudged : ServerState → List Span → PlainProcess → PlainProcess → List Watch → List Watch → Bool → Type 0
AreJudged s here p now watches left true = AreTaken s here p now watches left
AreJudged s here p now watches left false = AreNotTaken s here p watches

-- spans in a row are the turns of a process that ends so with the last of them, and the watches up to them were seen
pub record EndsSo (s : ServerState) (here : List Span) (fin : End) (p now : PlainProcess) (watches left : List Watch) : Type 0 where
  pub over : (states : ℕ → ServerState) (first : PlainProcess) (before : List Span) → states s.generation ≡ s → AllByRecursion (λ span. span.generation ≤ s.generation) before → SpansGo states first before p
      → SpansFollow states first (before ++ here) fin
  pub reached : after_turns s (turns_in here) p ≡ now
  pub seen : AreSeenToEnd s p (turns_in here) watches left

-- not both: such spans are the turns of the process that ends so, and each watch sees what it tells
pub record EndsNotSo (s : ServerState) (here : List Span) (fin : End) (p : PlainProcess) (watches : List Watch) : Type 0 where
  pub no : (states : ℕ → ServerState) (first : PlainProcess) (before : List Span) → states s.generation ≡ s → AllByRecursion (λ span. span.generation ≤ s.generation) before → SpansGo states first before p
      → SpansFollow states first (before ++ here) fin → AllByRecursion (Sees s p) watches → ⊥

-- how the last spans of a process were judged
abbrev pub IsEndJudged : ServerState → List Span → End → PlainProcess → PlainProcess → List Watch → List Watch → Bool → Type 0
IsEndJudged s here fin p now watches left true = EndsSo s here fin p now watches left
IsEndJudged s here fin p now watches left false = EndsNotSo s here fin p watches

-- how spans up to a place of a log were judged: those that reach its end are to end the process
abbrev pub AreJudgedSo : ServerState → List Span → Option End → PlainProcess → PlainProcess → List Watch → List Watch → Bool → Type 0
AreJudgedSo s here None p now watches left taken = AreJudged s here p now watches left taken
AreJudgedSo s here (Some fin) p now watches left taken = IsEndJudged s here fin p now watches left taken

-- the end of the process of a log, where this place is the log's end
abbrev pub end_at : ProcessLog → ℕ → Option End
end_at log place = if place == length log.spans then Some log.fin else None

-- so many spans of a log from where it stands on: its next ones under this generation
abbrev pub spans_from : ProcessLog → ℕ → ℕ → List Span
spans_from log gone here = take here (drop gone log.spans)

-- so many spans of a log were judged, and the log stands behind them
pub record IsMoved (s : ServerState) (log : ProcessLog) (here : ℕ) (before after : Standing) (watches left : List Watch) (taken : Bool) : Type 0 where
  pub gone : after.gone ≡ before.gone + here
  pub ended : after.ended ≡ is_some (end_at log (before.gone + here))
  pub judged : AreJudgedSo s (spans_from log before.gone here) (end_at log (before.gone + here)) (process_of (server_words s) before.process) (process_of (server_words s) after.process) watches left taken
  pub named : HasItsNames after
  pub ready : taken ≡ true → IsReady s after
