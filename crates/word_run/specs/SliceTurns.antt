-- What the processes of a scheduler had between two of its calls.
-- Source: this project's profile; what each of them had is word_lap's.
use Rattle.std.specs.Prelude.{◌≡◌, ℕ, List, Some}
use Rattle.term_core.specs.declared.atom.Mfa.{Mfa}
use Rattle.shared_words.specs.declared.seats.Member as tokens
use Rattle.anchors.specs.Holds.{view_of}
use Rattle.word_lap.specs.LapTurns.{HaveGoneOn, HoldsAsBefore}
use Rattle.word_lap.specs.RowTurns.{HadLaps, IsReported}
use Rattle.word_lap.specs.Taking.{HaveCome}
use Rattle.word_run.specs.declared.scheduler.Scheduler.{Scheduler}

module _ {T : Type 0} {I : Type 0} where
  -- in so many laps each process that the scheduler had, and each that came to it, had its turns
  pub record HadItsLaps (functions : List Mfa) (laps : ℕ) (old new : Scheduler T I) : Type 0 where
    pub since : tokens.Member
    pub now : tokens.Member
    pub was : old.member ≡ Some since
    pub is : new.member ≡ Some now
    pub laps_are : HadLaps functions laps (view_of since) (view_of now) old.processes.items new.processes.items

  -- processes came, none had a turn, and the member reported behind them: it holds the generation of that report
  pub record HasArrived (functions : List Mfa) (old new : Scheduler T I) : Type 0 where
    pub since : tokens.Member
    pub now : tokens.Member
    pub was : old.member ≡ Some since
    pub is : new.member ≡ Some now
    pub come : HaveCome (view_of since) (view_of now) old.processes.items new.processes.items
    pub reported : IsReported functions (view_of since) (view_of now) (view_of now).member.generation

  -- each process that goes on had one turn, under the generation that the member held throughout
  pub record HadOneTurn (functions : List Mfa) (old new : Scheduler T I) : Type 0 where
    pub since : tokens.Member
    pub now : tokens.Member
    pub was : old.member ≡ Some since
    pub is : new.member ≡ Some now
    pub same : HoldsAsBefore (view_of since) (view_of now)
    pub went : HaveGoneOn functions (view_of since) (view_of now) old.processes.items new.processes.items
