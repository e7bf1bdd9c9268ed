-- How a run of instructions goes on from one to the next, and what its lines are.
use Rattle.std.proofs.Common.{◌≡◌, ◌<◌, ◌+◌, ◌-◌, ℕ, zero, suc, refl, arith, ap, sym, ◌∙◌, subst, List, [], ◌++◌, append_assoc, Result, Ok, Err, IfOk}
use Rattle.std.proofs.lemmas.List.{append-nil}
use Rattle.term_core.specs.declared.no_memory.NoMemory.{NoMemory}
use Rattle.machine_core.specs.declared.process.Line.{Line}
use Rattle.machine_core.specs.declared.process.End.{End}
use Rattle.machine_core.specs.declared.process.TurnEnd.{TurnEnd}
use Rattle.machine_core.specs.Holds.{Holds}
use Rattle.machine_core.specs.Process.{PlainFrame}
use Rattle.machine_core.specs.Turn.{Step, goes_on, yields, ends, Ran, after_step, ended_with, paused, run_of, step_of}
use Rattle.machine_core.specs.Stand.{AreStanding, runs, pauses, over, stand_after}
use Rattle.machine_core.proofs.Placing.{Keeps, KeepsStanding}
use Rattle.machine_core.specs.Reads.{Reads}

-- a run, its lines behind those that stood
abbrev pub with_lines : List Line → Ran → Ran
with_lines before ran = record ran { made = before ++ ran.made }

after_runs : (rest : List PlainFrame → Holds → List Line → Ran) (held now : Holds) (made : List Line) (step : Step) (frames : List PlainFrame) (lines : List Line) →
    stand_after held made step ≡ runs frames now lines → after_step rest held made step ≡ rest frames now lines
after_runs rest held now made (goes_on before then line) frames lines e = cc
after_runs rest held now made (yields before) frames lines e = absurd (cc)
after_runs rest held now made (ends end) frames lines e = absurd (cc)

after_pauses : (rest : List PlainFrame → Holds → List Line → Ran) (held now : Holds) (made : List Line) (step : Step) (frames : List PlainFrame) (lines : List Line) →
    stand_after held made step ≡ pauses frames now lines → after_step rest held made step ≡ paused frames lines
after_pauses rest held now made (goes_on before then line) frames lines e = absurd (cc)
after_pauses rest held now made (yields before) frames lines e = cc
after_pauses rest held now made (ends end) frames lines e = absurd (cc)

-- an instruction or a beginning that ended the process
pub after_over : (rest : List PlainFrame → Holds → List Line → Ran) (held now : Holds) (made : List Line) (step : Step) (end : End) (lines : List Line) →
    stand_after held made step ≡ over end now lines → after_step rest held made step ≡ ended_with now lines end
after_over rest held now made (goes_on before then line) end lines e = absurd (cc)
after_over rest held now made (yields before) end lines e = absurd (cc)
after_over rest held now made (ends last) end lines e = cc

-- one after which others follow
pub after_on : (rest : List PlainFrame → Holds → List Line → Ran) (held now : Holds) (made : List Line) (step : Step) (frames : List PlainFrame) (lines : List Line) →
    stand_after held made step ≡ runs frames now lines → after_step rest held made step ≡ rest frames now lines
after_on = after_runs

module _ (s : Reads) where
  run_on : (n : ℕ) (before frames : List PlainFrame) (held now : Holds) (made lines : List Line) → stand_after held made (step_of s before held) ≡ runs frames now lines →
      run_of s (suc n) before held made ≡ run_of s n frames now lines
  unfolding run_of
  run_on n before frames held now made lines e = after_runs (run_of s n) held now made (step_of s before held) frames lines e

  run_pauses : (n : ℕ) (before frames : List PlainFrame) (held now : Holds) (made lines : List Line) → stand_after held made (step_of s before held) ≡ pauses frames now lines →
      run_of s (suc n) before held made ≡ paused frames lines
  unfolding run_of
  run_pauses n before frames held now made lines e = after_pauses (run_of s n) held now made (step_of s before held) frames lines e

  run_over : (n : ℕ) (before : List PlainFrame) (end : End) (held now : Holds) (made lines : List Line) → stand_after held made (step_of s before held) ≡ over end now lines →
      run_of s (suc n) before held made ≡ ended_with now lines end
  unfolding run_of
  run_over n before end held now made lines e = after_over (run_of s n) held now made (step_of s before held) end lines e

  -- what is left from a place of the loop is the whole
  abbrev pub IsLeft : ℕ → List PlainFrame → Holds → List Line → Ran → Type 0
  IsLeft counter frames held made whole = (n : ℕ) → n + counter ≡ 200 → run_of s n frames held made ≡ whole

  pub left_on : (counter : ℕ) (before frames : List PlainFrame) (held now : Holds) (made lines : List Line) (whole : Ran) → IsLeft counter before held made whole →
      stand_after held made (step_of s before held) ≡ runs frames now lines → IsLeft (counter + 1) frames now lines whole
  left_on counter before frames held now made lines whole left e n h = sym (run_on n before frames held now made lines e) ∙ left (suc n) (omega arith)

  pub left_pauses : (counter : ℕ) (before frames : List PlainFrame) (held now : Holds) (made lines : List Line) (whole : Ran) → IsLeft counter before held made whole →
      counter < 200 → stand_after held made (step_of s before held) ≡ pauses frames now lines → whole ≡ paused frames lines
  left_pauses counter before frames held now made lines whole left h e = sym (left (suc (199 - counter)) (omega arith)) ∙ run_pauses (199 - counter) before frames held now made lines e

  pub left_over : (counter : ℕ) (before : List PlainFrame) (end : End) (held now : Holds) (made lines : List Line) (whole : Ran) → IsLeft counter before held made whole →
      counter < 200 → stand_after held made (step_of s before held) ≡ over end now lines → whole ≡ ended_with now lines end
  left_over counter before end held now made lines whole left h e = sym (left (suc (199 - counter)) (omega arith)) ∙ run_over (199 - counter) before end held now made lines e

  pub left_none : (counter : ℕ) (frames : List PlainFrame) (held : Holds) (made : List Line) (whole : Ran) → IsLeft counter frames held made whole →
      counter ≡ 200 → whole ≡ paused frames made
  unfolding run_of
  left_none counter frames held made whole left h = sym (left zero (omega arith))

  -- frames that stand so after an instruction
  pub standing_runs : (held now : Holds) (made : List Line) (step : Step) (frames : List PlainFrame) (lines : List Line) → Keeps s held step →
      stand_after held made step ≡ runs frames now lines → AreStanding s now frames
  unfolding Keeps
  standing_runs held now made (goes_on before then line) frames lines k e =
      let f : before ≡ frames = cc in let h : then ≡ now = cc in subst (λ fs. AreStanding s now fs) f (subst (λ (x : Holds). AreStanding s x before) h k)
  standing_runs held now made (yields before) frames lines k e = absurd (cc)
  standing_runs held now made (ends end) frames lines k e = absurd (cc)

  standing_pauses : (held now : Holds) (made : List Line) (step : Step) (frames : List PlainFrame) (lines : List Line) → Keeps s held step →
      stand_after held made step ≡ pauses frames now lines → AreStanding s now frames
  unfolding Keeps
  standing_pauses held now made (goes_on before then line) frames lines k e = absurd (cc)
  standing_pauses held now made (yields before) frames lines k e =
      let f : before ≡ frames = cc in let h : held ≡ now = cc in subst (λ fs. AreStanding s now fs) f (subst (λ (x : Holds). AreStanding s x before) h k)
  standing_pauses held now made (ends end) frames lines k e = absurd (cc)

  pub standing_on : (held now : Holds) (made : List Line) (before frames : List PlainFrame) (lines : List Line) → KeepsStanding s → AreStanding s held before →
      stand_after held made (step_of s before held) ≡ runs frames now lines → AreStanding s now frames
  standing_on held now made before frames lines keeps h e = standing_runs held now made (step_of s before held) frames lines (keeps.step held before h) e

  pub standing_paused : (held now : Holds) (made : List Line) (before frames : List PlainFrame) (lines : List Line) → KeepsStanding s → AreStanding s held before →
      stand_after held made (step_of s before held) ≡ pauses frames now lines → AreStanding s now frames
  standing_paused held now made before frames lines keeps h e = standing_pauses held now made (step_of s before held) frames lines (keeps.step held before h) e

  after_with : (n : ℕ) (before made : List Line) (held : Holds) (step : Step) →
      ((frames : List PlainFrame) (held : Holds) (made : List Line) → run_of s n frames held (before ++ made) ≡ with_lines before (run_of s n frames held made)) →
      after_step (run_of s n) held (before ++ made) step ≡ with_lines before (after_step (run_of s n) held made step)
  after_with n before made held (goes_on frames now line) next = rw append_assoc (next frames now (made ++ line))
  after_with n before made held (yields frames) next = refl
  after_with n before made held (ends end) next = refl

  run_with : (n : ℕ) (frames : List PlainFrame) (held : Holds) (before made : List Line) → run_of s n frames held (before ++ made) ≡ with_lines before (run_of s n frames held made)
  unfolding run_of
  run_with zero frames held before made = refl
  run_with (suc n) frames held before made = after_with n before made held (step_of s frames held) (λ frames held made. run_with n frames held before made)

  -- the lines of a beginning and its run stand behind those that stood
  pub after_behind : (n : ℕ) (before : List Line) (held : Holds) (step : Step) → after_step (run_of s n) held before step ≡ with_lines before (after_step (run_of s n) held [] step)
  after_behind n before held step =
      ap (λ lines. after_step (run_of s n) held lines step) (sym (append-nil before)) ∙ after_with n before [] held step (λ frames held made. run_with n frames held before made)

-- a turn that pauses here gives what is left of it
pub paused_ok : (r : Result TurnEnd NoMemory) (whole : Ran) (frames after : List PlainFrame) (now : Holds) (lines : List Line) →
    IfOk r (λ end. (made : List Line) → paused frames made ≡ record { frames = after; held = now; made = made; end = end }) → whole ≡ paused frames lines →
    IfOk r (λ end. whole ≡ record { frames = after; held = now; made = lines; end = end })
paused_ok (Ok end) whole frames after now lines h e = e ∙ h lines
paused_ok (Err refused) whole frames after now lines h e = tt
