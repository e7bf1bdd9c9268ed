-- What each step keeps, a run and a turn keep: a law on turns is then one on steps, on a pause and on an end.
use Rattle.std.proofs.Common.{◌≡◌, ◌==◌, ℕ, zero, suc, refl, Bool, true, false, List, [], ◌++◌, Option, Some, None}
use Rattle.machine_core.specs.declared.process.End.{End}
use Rattle.machine_core.specs.declared.process.End.TheVariants.{Killed, SystemLimit}
use Rattle.machine_core.specs.declared.process.Line.{Line}
use Rattle.machine_core.specs.declared.process.TheConstants.{MOST_TURNS, TURN_INSTRUCTIONS}
use Rattle.machine_core.specs.Holds.{Holds}
use Rattle.machine_core.specs.Process.{PlainFrame, PlainProcess, frame_names, names_of}
use Rattle.machine_core.specs.Turn.{Ran, Step, after_step, begun, copied, doomed_serial, ended_with, ends, goes_on, paused, ran_of, ran_unless_doomed, run_of, step_of, yields}
use Rattle.machine_core.specs.Reads.{Reads}

module _ (s : Reads) (Stands : List PlainFrame → Holds → Type 0) (IsEnd : End → Type 0) (Leaves : Ran → Type 0) where
  -- a step leaves what stands so, or an end that may be
  abbrev pub KeepsSo : Holds → Step → Type 0
  KeepsSo held (goes_on frames now line) = Stands frames now
  KeepsSo held (yields frames) = Stands frames held
  KeepsSo held (ends end) = IsEnd end

  -- each step keeps it, and what then pauses or ends is as wanted
  pub record IsKept : Type 0 where
    pub step : (frames : List PlainFrame) (held : Holds) → Stands frames held → KeepsSo held (step_of s frames held)
    pub pause : (frames : List PlainFrame) (held : Holds) (made : List Line) → Stands frames held → Leaves (paused frames made)
    pub end : (held : Holds) (made : List Line) (end : End) → IsEnd end → Leaves (ended_with held made end)

  after_kept : (n : ℕ) (held : Holds) (made : List Line) (step : Step) → IsKept → KeepsSo held step →
      ((frames : List PlainFrame) (held : Holds) (made : List Line) → Stands frames held → Leaves (run_of s n frames held made)) → Leaves (after_step (run_of s n) held made step)
  after_kept n held made (goes_on frames now line) kept k next = next frames now (made ++ line) k
  after_kept n held made (yields frames) kept k next = kept.pause frames held made k
  after_kept n held made (ends end) kept k next = kept.end held made end k

  -- a run
  pub run_kept : (n : ℕ) (frames : List PlainFrame) (held : Holds) (made : List Line) → IsKept → Stands frames held → Leaves (run_of s n frames held made)
  unfolding run_of
  run_kept zero frames held made kept h = kept.pause frames held made h
  run_kept (suc n) frames held made kept h = after_kept n held made (step_of s frames held) kept (kept.step frames held h) (λ frames held made h. run_kept n frames held made kept h)

  -- with what a turn begins once literals are copied
  abbrev BeginsSo : PlainProcess → Type 0
  BeginsSo p = KeepsSo (frame_names (copied s p.frames)) (begun s p.target p.args (frame_names (copied s p.frames)) (copied s p.frames))

  -- what a turn leaves that kills
  abbrev KillsSo : PlainProcess → Type 0
  KillsSo p = (serial : ℕ) → (p.turns == MOST_TURNS) ≡ false → doomed_serial s p.frames ≡ Some serial → Leaves (ended_with (names_of p) [] (Killed serial))

  unless_kept : (p : PlainProcess) (o : Option ℕ) → (p.turns == MOST_TURNS) ≡ false → doomed_serial s p.frames ≡ o → IsKept → BeginsSo p → KillsSo p → Leaves (ran_unless_doomed s p o)
  unless_kept p None t e kept begins kills =
      after_kept TURN_INSTRUCTIONS (frame_names (copied s p.frames)) [] (begun s p.target p.args (frame_names (copied s p.frames)) (copied s p.frames)) kept begins
      (λ frames held made h. run_kept TURN_INSTRUCTIONS frames held made kept h)
  unless_kept p (Some serial) t e kept begins kills = kills serial t e

  ran_case : (p : PlainProcess) (b : Bool) → (p.turns == MOST_TURNS) ≡ b → IsKept → BeginsSo p → KillsSo p → Leaves (ended_with (names_of p) [] SystemLimit) → Leaves (ran_of s p)
  ran_case p true t kept begins kills limit = rw t limit
  ran_case p false t kept begins kills limit = rw t (unless_kept p (doomed_serial s p.frames) t refl kept begins kills)

  -- a turn
  pub ran_kept : (p : PlainProcess) → IsKept → BeginsSo p → KillsSo p → Leaves (ended_with (names_of p) [] SystemLimit) → Leaves (ran_of s p)
  ran_kept p kept begins kills limit = ran_case p (p.turns == MOST_TURNS) refl kept begins kills limit
