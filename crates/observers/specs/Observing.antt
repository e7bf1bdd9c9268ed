-- An observer between two looks, and what one look leaves of it.
-- Source: Erlang/OTP erts internal documentation, ThreadProgress, for the thread that is no scheduler; snapshots are this project's own.
use Rattle.std.specs.Prelude.{◌≡◌, ◌+◌, ◌<◌, List, [], ◌∷◌, ◌++◌}
use Rattle.atomic_table.specs.Seated.{TableId}
use Rattle.term_core.specs.declared.atom.Mfa.{Mfa}
use Rattle.shared_words.specs.declared.view.WatcherView.{WatcherView}
use Rattle.shared_words.specs.Rule.{IsBeginning}
use Rattle.shared_words.specs.Views.{newest_number, published_at}
use Rattle.progress_words.specs.Delays.{IsIdle}
use Rattle.progress_words.specs.Tokens.{IsWatcherOf, watched_by}
use Rattle.run_log.specs.declared.logs.Snapshot.{Snapshot}
use Rattle.code_law.specs.Served.{IsServed}
use Rattle.run_law.specs.Observing.{HaveSeen, IsSeenOf}
use Rattle.observers.specs.declared.observer.Observer.{Observer}

-- the snapshot is of the newest generation that the watcher has learnt of, which the code server has made; what it had learnt of before, it still has
pub record HasSeen (names functions : List Mfa) (old new : WatcherView) (shot : Snapshot) : Type 0 where
  pub newest : shot.generation ≡ newest_number new.seen
  pub learnt : IsBeginning old.seen new.seen
  pub seen : IsSeenOf names functions new.seen shot
  pub served : IsServed names (published_at new.seen shot.generation)

-- an observer between two looks: its watcher does not delay, and its snapshots are of generations that the watcher has learnt of
pub record Observes (names functions : List Mfa) (table : TableId) (o : Observer) : Type 0 where
  pub token : IsWatcherOf table o.watcher
  pub idle : IsIdle (watched_by o.watcher)
  pub saw : HaveSeen names functions (watched_by o.watcher).seen o.shots

-- one snapshot more, of the generation of the root that was loaded in this look, the newest that the watcher has learnt of;
-- that it is one that the code server has made only a load of the root tells, so the snapshot of an earlier look cannot be given again
pub record TakesOne (names : List Mfa) (old new : Observer) : Type 0 where
  pub shot : Snapshot
  pub newest : shot.generation ≡ newest_number (watched_by new.watcher).seen
  pub served : IsServed names (published_at (watched_by new.watcher).seen shot.generation)
  pub learnt : IsBeginning (watched_by old.watcher).seen (watched_by new.watcher).seen
  pub shots : new.shots ≡ old.shots ++ shot ∷ []
  pub left : old.left ≡ new.left + 1

-- one snapshot more if one was lacking, and none else
abbrev pub HasLooked : List Mfa → Observer → Observer → Type 0
HasLooked names old new = ((0 < old.left) → TakesOne names old new) × (old.left ≡ 0 → (new.left ≡ 0) × (new.shots ≡ old.shots))
