-- What is kept, over the turns of a process from the first on, as a log has them.
-- Source: Erlang/OTP, the manual page of the module code (purge, soft_purge).
use Rattle.std.specs.Prelude.{◌≡◌, ℕ, ◌+◌, ◌≤◌, nat_le, if◌then◌else◌, List, [], ◌∷◌, Option, Some, None, is_some, slice_get, reverse}
use Rattle.std.specs.Option.{IfSome}
use Rattle.area_core.specs.Generations.{names_frame}
use Rattle.area_core.specs.Blocks.{Among}
use Rattle.marks.specs.declared.kept.DroppedArea.{DroppedArea}
use Rattle.marks.specs.declared.kept.LingeringFrame.{LingeringFrame}
use Rattle.marks.specs.declared.kept.WriterKept.{WriterKept}
use Rattle.marks.specs.declared.mark.Mark.{Mark}
use Rattle.marks.specs.declared.mark.ProcessView.{ProcessView}
use Rattle.marks.specs.Names.{HasAnchor, IsAtRest}
use Rattle.marks.specs.Kept.{Under, MarksNameNot, mark_now, IsKnown}

-- the last of these turns that is under no later generation than this one, if there is one
abbrev pub last_turn_up_to : ℕ → List Mark → Option Mark
last_turn_up_to generation [] = None
last_turn_up_to generation (m ∷ turns) = if is_some (last_turn_up_to generation turns) then last_turn_up_to generation turns else if nat_le m.generation generation then Some m else None

-- after this turn, counted from 1, a frame was in the instance; it is under no generation after those that were published, and the next
-- turn, if there is one, under none before
pub record LingersAfter (serial published turn : ℕ) (turns : List Mark) : Type 0 where
  pub place : ℕ
  pub mark : Mark
  pub counted : turn ≡ place + 1
  pub had : slice_get turns place ≡ Some mark
  pub seen : mark.generation ≤ published
  pub stands : HasAnchor names_frame mark.anchors serial
  pub next : IfSome (slice_get turns (place + 1)) (λ m. published ≤ m.generation)

-- ---- the laws

-- the last turn up to a drop does not name what was dropped: of the turns that are done, once the process is at rest
abbrev pub DropsAreTrue : Type 0
DropsAreTrue =
    (u : Under) (process : ℕ) (p : ProcessView) (k : WriterKept) (d : DroppedArea) → IsKnown u process p k → IsAtRest p → Among k.dropped d
    → IfSome (last_turn_up_to d.generation (reverse p.marks)) (MarksNameNot d.wait.kind d.wait.serial)

-- and at any time where the turn under way counts as one more
abbrev pub DropsStayTrue : Type 0
DropsStayTrue =
    (u : Under) (process : ℕ) (p : ProcessView) (k : WriterKept) (d : DroppedArea) → IsKnown u process p k → Among k.dropped d
    → IfSome (last_turn_up_to d.generation (reverse (mark_now u.generation p ∷ p.marks))) (MarksNameNot d.wait.kind d.wait.serial)

-- a process that the writer answered to linger did so
abbrev pub AnswersAreTrue : Type 0
AnswersAreTrue =
    (u : Under) (process : ℕ) (p : ProcessView) (k : WriterKept) (l : LingeringFrame) → IsKnown u process p k → Among k.lingering l → l.process ≡ process
    → LingersAfter l.wait.serial l.wait.generation l.turns (reverse p.marks)
