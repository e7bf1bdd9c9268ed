-- How far the log of a process was judged: the spans that are gone, and where the process then stands.
-- Source: this project's profile. The definitions replay all spans that are gone; the code keeps the process.
use Rattle.std.specs.Prelude.{◌≡◌, ℕ, ◌<◌, ◌≤◌, Bool, true, false, List, [], ◌∷◌, length, take, drop, IfSome}
use Rattle.std.specs.List.{AllByRecursion}
use Rattle.term_core.specs.declared.hold.TheConstants.{MOST_AREAS}
use Rattle.server_core.specs.ServerState.{ServerState}
use Rattle.machine_core.specs.declared.process.Frame.{Frame}
use Rattle.machine_core.specs.declared.process.Process.{Process}
use Rattle.machine_core.specs.Holds.{area_count, is_among}
use Rattle.machine_core.specs.Process.{PlainProcess, Words, code_names, names_of, new_process, process_of}
use Rattle.machine_core.specs.Turn.{MayTurn}
use Rattle.machine_core.specs.View.{server_words, shown_of}
use Rattle.run_log.specs.declared.logs.ProcessLog.{ProcessLog}
use Rattle.run_log.specs.declared.logs.Span.{Span}
use Rattle.run_log.specs.Legal.{Lingers, Mark, SpansFollow, SpansGo, first_generation, marks_of, process_after}
use Rattle.span_check.specs.declared.named.Named.{Named}
use Rattle.span_check.specs.declared.standing.Standing.{Standing}
use Rattle.span_check.specs.declared.watch.Watch.{Watch}

-- the process of a log before its first turn
abbrev pub first_of : ℕ → ProcessLog → PlainProcess
first_of number log = new_process number log.target log.args

-- the turns that the spans of a log tell
abbrev pub marks_in_log : (ℕ → ServerState) → ℕ → ProcessLog → List Mark
marks_in_log states number log = marks_of states (first_of number log) log.spans

-- no span is under an earlier generation than the one before it
abbrev pub NeverFall : List Span → Type 0
NeverFall [] = Unit {0}
NeverFall (span ∷ spans) = IfSome (first_generation spans) (λ g. span.generation ≤ g) × NeverFall spans

-- the spans that are gone are those under the generations before this one; where the process has ended, all are gone
pub record IsReached (generation : ℕ) (log : ProcessLog) (standing : Standing) : Type 0 where
  pub within : standing.gone ≤ length log.spans
  pub before : AllByRecursion (λ span. span.generation < generation) (take standing.gone log.spans)
  pub behind : AllByRecursion (λ span. generation ≤ span.generation) (drop standing.gone log.spans)
  pub over : standing.ended ≡ true → standing.gone ≡ length log.spans

-- all spans of a log are gone, and the process has ended as it tells
pub record IsOver (states : ℕ → ServerState) (number : ℕ) (log : ProcessLog) (gone : ℕ) (now : PlainProcess) : Type 0 where
  pub all_gone : gone ≡ length log.spans
  pub follow : SpansFollow states (first_of number log) log.spans log.fin
  pub process : now ≡ process_after states (first_of number log) log.spans

-- the process has had the turns of the spans that are gone, and ended with the last of them, or not
abbrev pub StandsSo : (ℕ → ServerState) → ℕ → ProcessLog → ℕ → PlainProcess → Bool → Type 0
StandsSo states number log gone now false = SpansGo states (first_of number log) (take gone log.spans) now
StandsSo states number log gone now true = IsOver states number log gone now

-- a log was judged so far: each span that is gone tells the turns of the process, and they led to where it stands
abbrev pub StandsAt : (ℕ → ServerState) → Words → ℕ → ProcessLog → Standing → Type 0
StandsAt states words number log standing = StandsSo states number log standing.gone (process_of words standing.process) standing.ended

-- a process may have a turn beside a server in this state
pub record MayGoOn (s : ServerState) (p : Process) : Type 0 where
  pub may_turn : MayTurn (shown_of s) (names_of (process_of (server_words s) p)) p
  pub few : area_count (names_of (process_of (server_words s) p)) ≤ MOST_AREAS

-- unless it has ended
abbrev pub IsReady : ServerState → Standing → Type 0
IsReady s standing = standing.ended ≡ false → MayGoOn s standing.process

-- these are the areas that frames name: their instances, and the areas of their literals
pub record AreNames (frames : List Frame) (named : Named) : Type 0 where
  pub instances : (serial : ℕ) → is_among named.frames serial ≡ is_among (code_names frames).frames serial
  pub quoted : (serial : ℕ) → is_among named.literals serial ≡ is_among (code_names frames).literals serial

-- what is kept of a process's names is what it names
abbrev pub HasItsNames : Standing → Type 0
HasItsNames standing = AreNames standing.process.frames standing.named

-- what soft purges told of a process when so many generations were published is so
abbrev pub AreTold : (ℕ → ServerState) → ℕ → ProcessLog → ℕ → List Watch → Type 0
AreTold states number log generation watches = AllByRecursion (λ watch. Lingers watch.serial generation watch.turn (marks_in_log states number log)) watches
