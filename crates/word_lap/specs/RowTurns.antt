-- What the processes of a scheduler had in a row of laps: the turns of each, of those that it had before and of those that came meanwhile.
-- Source: Erlang/OTP erts internal documentation, CodeLoading (a turn sees one state of the code) and ThreadProgress (what a thread that has reported may read
-- is what was published before); rows of laps are this project's own. The definition speaks of each process alone, and of no order among them; code goes lap by lap.
use Rattle.std.specs.Prelude.{◌≡◌, ℕ, ◌<◌, ◌≤◌, ◌⊎◌, List, [], ◌++◌, length, reverse, slice_get, Option, Some, None, IsSome}
use Rattle.std.specs.List.{AllByRecursion}
use Rattle.term_core.specs.declared.atom.Mfa.{Mfa}
use Rattle.marks.specs.declared.mark.Mark.{Mark}
use Rattle.shared_words.specs.declared.view.MemberView.{MemberView}
use Rattle.shared_words.specs.Processes.{note_in, process_of}
use Rattle.shared_words.specs.Rule.{IsBeginning}
use Rattle.progress_words.specs.Reports.{HoldsReported}
use Rattle.run_steps.specs.MadeTurns.{TurnsMade, marks_made}
use Rattle.run_steps.specs.Stands.{Stand}
use Rattle.code_law.specs.Served.{IsServed}
use Rattle.run_law.specs.Reading.{MarksTell, reads_under}
use Rattle.word_lap.specs.declared.process_run.ProcessRun.{ProcessRun}
use Rattle.word_lap.specs.Reading.{stand_under}
use Rattle.word_lap.specs.Schedulers.{first_stand}

-- the same member, which has learnt of all that it had learnt of, and maybe of more
pub record KnowsMore (old new : MemberView) : Type 0 where
  pub learnt : IsBeginning old.seen new.seen
  pub number : new.member.number ≡ old.member.number

-- the generation is that of a report which the member made meanwhile
pub record IsReported (functions : List Mfa) (since now : MemberView) (generation : ℕ) : Type 0 where
  pub old : MemberView
  pub new : MemberView
  pub behind : KnowsMore since old
  pub reports : HoldsReported (IsServed functions) old new generation
  pub before : KnowsMore new now

-- a process that stood so, and had these marks, had turns and stands so now. Each was the turn of the definition under a generation that the member reported
-- meanwhile, none older than the note of the process; and each left a mark, of that generation and of what the process then named. No other mark joined
pub record HadTurnsSince (functions : List Mfa) (since now : MemberView) (p : ℕ) (had : List Mark) (first last : Stand) : Type 0 where
  pub generations : List ℕ
  pub reported : AllByRecursion (IsReported functions since now) generations
  pub reach : (published : ℕ) → note_in now.notes p ≡ Some published → AllByRecursion (λ g. published ≤ g) generations
  pub made : TurnsMade (reads_under functions now.seen) generations first last
  -- the marks that joined, the newest first
  pub marks : List Mark
  pub joined : (process_of now p).marks ≡ marks ++ had
  pub told : MarksTell (reverse marks) (marks_made (reads_under functions now.seen) generations first)

-- a process that the scheduler had before had a turn in each of so many laps, or fewer where it has ended. It has its number, target and arguments still, and
-- the note with which it came
pub record HadEachLap (functions : List Mfa) (laps : ℕ) (since now : MemberView) (p : ℕ) (run left : ProcessRun) : Type 0 where
  pub same : first_stand left ≡ first_stand run
  pub turns : HadTurnsSince functions since now p (process_of since p).marks (stand_under since run) (stand_under now left)
  pub all : (length turns.generations ≡ laps) ⊎ ((length turns.generations < laps) × IsSome left.fin)
  pub published : ℕ
  pub noted : note_in since.notes p ≡ Some published
  pub noted_still : note_in now.notes p ≡ Some published

-- one that came meanwhile had its very first turn, and no more turns than there were laps
pub record HadFirstTurn (functions : List Mfa) (laps : ℕ) (since now : MemberView) (p : ℕ) (left : ProcessRun) : Type 0 where
  pub turns : HadTurnsSince functions since now p [] (first_stand left) (stand_under now left)
  pub some : 0 < length turns.generations
  pub few : length turns.generations ≤ laps
  pub published : ℕ
  pub noted : note_in now.notes p ≡ Some published

-- in so many laps each process that stood at a place had its turns, and stands there still; and each that stands where none stood had its first one
pub record HadLaps (functions : List Mfa) (laps : ℕ) (since now : MemberView) (before after : List (Option ProcessRun)) : Type 0 where
  pub knows : KnowsMore since now
  pub held : (p : ℕ) (run : ProcessRun) → slice_get before p ≡ Some (Some run)
      → (left : ProcessRun) × ((slice_get after p ≡ Some (Some left)) × HadEachLap functions laps since now p run left)
  pub came : (p : ℕ) (left : ProcessRun) → slice_get before p ≡ Some None → slice_get after p ≡ Some (Some left) → HadFirstTurn functions laps since now p left
  pub many : length after ≡ length before
