-- The observers of a run, between two rounds, over one, and at its end.
-- Source: this project's profile. Each is a thread that is no scheduler and delays progress while it reads, as in Erlang/OTP erts internal documentation,
-- ThreadProgress. What an observer saw is over what its watcher has learnt: nothing that another thread does changes it.
use Rattle.std.specs.Prelude.{◌≡◌, ℕ, ◌+◌, List, [], ◌∷◌, ◌++◌, length, slice_get, Some, IfOk}
use Rattle.atomic_table.specs.Seated.{TableId}
use Rattle.term_core.specs.declared.atom.Mfa.{Mfa}
use Rattle.shared_words.specs.declared.seats.Watcher as watching
use Rattle.progress_words.specs.Tokens.{IsWatcherOf, watched_by}
use Rattle.run_log.specs.declared.logs.Snapshot.{Snapshot}
use Rattle.run_law.specs.Observing.{HaveSeen}
use Rattle.observers.specs.declared.observer.Observer.{Observer}
use Rattle.observers.specs.Observing.{HasLooked, Observes}
use Rattle.word_run.specs.declared.onlooker.Onlooker.{Onlooker}

-- how many snapshots an observer takes in all: those that it has, and those that it lacks
abbrev pub taken_in_all : Observer → ℕ
taken_in_all o = o.left + length o.shots

-- ---- between two rounds

-- an observer of a line of the script with this count
pub record Watches (names functions : List Mfa) (table : TableId) (count : ℕ) (o : Onlooker) : Type 0 where
  pub observes : Observes names functions table o.observer
  pub counted : taken_in_all o.observer ≡ count

-- there is one for each line of the script, in order, and no other
pub record AreOnlookers (names functions : List Mfa) (table : TableId) (counts : List ℕ) (onlookers : List Onlooker) : Type 0 where
  pub many : length onlookers ≡ length counts
  pub each : (number count : ℕ) (o : Onlooker) → slice_get counts number ≡ Some count → slice_get onlookers number ≡ Some o → Watches names functions table count o

-- ---- over a round

-- an observer had its look: unless it met want of memory it observes as before, took one snapshot if it lacked one, and none else, and so takes as many in all
pub record HadLook (names functions : List Mfa) (table : TableId) (before after : Onlooker) : Type 0 where
  pub looked : IfOk after.answer (λ _. HasLooked names before.observer after.observer)
  pub observes : IfOk after.answer (λ _. Observes names functions table after.observer)
  pub counted : IfOk after.answer (λ _. taken_in_all after.observer ≡ taken_in_all before.observer)

-- ---- as it begins

-- the observer of a line with this count: it has this token, and took no snapshot
pub record IsWaiting (count : ℕ) (token : watching.Watcher) (o : Onlooker) : Type 0 where
  pub watcher_is : o.observer.watcher ≡ token
  pub left : o.observer.left ≡ count
  pub none : o.observer.shots ≡ []

-- there is one for each of these counts, with the token of its number
pub record AreWaiting (counts : List ℕ) (watchers : List watching.Watcher) (onlookers : List Onlooker) : Type 0 where
  pub many : length onlookers ≡ length counts
  pub each : (number count : ℕ) (token : watching.Watcher) (o : Onlooker) → slice_get counts number ≡ Some count → slice_get watchers number ≡ Some token
      → slice_get onlookers number ≡ Some o → IsWaiting count token o

-- ---- at the end of a run

-- an observer took all its snapshots: the token of its watcher, and what it saw
pub record HasLeft (names functions : List Mfa) (table : TableId) (o : Onlooker) (token : watching.Watcher) (shots : List Snapshot) : Type 0 where
  pub token_of : IsWatcherOf table token
  pub counted : length shots ≡ taken_in_all o.observer
  pub saw : HaveSeen names functions (watched_by token).seen shots

-- so did each, by number
pub record HaveLeft (names functions : List Mfa) (table : TableId) (onlookers : List Onlooker) (watchers : List watching.Watcher) (logs : List (List Snapshot)) : Type 0 where
  pub watchers_are : length watchers ≡ length onlookers
  pub logs_are : length logs ≡ length onlookers
  pub each : (number : ℕ) (o : Onlooker) (token : watching.Watcher) (shots : List Snapshot) → slice_get onlookers number ≡ Some o → slice_get watchers number ≡ Some token
      → slice_get logs number ≡ Some shots → HasLeft names functions table o token shots

-- what one more observer leaves joined what those before it left
pub record AddsLeft (names functions : List Mfa) (table : TableId) (o : Onlooker) (watchers watchers_after : List watching.Watcher) (logs logs_after : List (List Snapshot)) : Type 0 where
  pub token : watching.Watcher
  pub shots : List Snapshot
  pub left : HasLeft names functions table o token shots
  pub watcher_joins : watchers_after ≡ watchers ++ token ∷ []
  pub log_joins : logs_after ≡ logs ++ shots ∷ []
