-- A turn that leaves the frames as they were, makes no line and goes on is repeated by the next one, as long as the count of turns allows.
use Rattle.std.proofs.Common.{◌≡◌, ◌==◌, ◌+◌, ◌≤◌, ◌<◌, ◌∙◌, ℕ, zero, suc, refl, sym, ap, arith, false, List, [], ◌++◌, Option, Some, None}
use Rattle.std.proofs.lemmas.Bool.{ne_eqb}
use Rattle.std.proofs.lemmas.List.{append-nil}
use Rattle.server_core.specs.ServerState.{ServerState}
use Rattle.machine_core.specs.declared.process.Line.{Line}
use Rattle.machine_core.specs.declared.process.TheConstants.{MOST_TURNS}
use Rattle.machine_core.specs.declared.process.End.TheVariants.{SystemLimit}
use Rattle.machine_core.specs.declared.process.TurnEnd.{TurnEnd}
use Rattle.machine_core.specs.declared.process.TurnEnd.TheVariants.{Again}
use Rattle.machine_core.specs.Process.{PlainProcess}
use Rattle.machine_core.specs.ServerReads.{reads_of}
use Rattle.machine_core.specs.Turn.{Ran, Turn, counted, doomed_serial, ran_of, ran_unless_doomed, turn_from, turn_of}
use Rattle.run_log.specs.Legal.{after_turn, after_turns, turns_of}
use Rattle.machine_core.proofs.TurnLaws.{limit_ends}
use Rattle.run_log.proofs.TurnRuns.{ended_again}
use Rattle.run_log.proofs.Marks.{again_counts}
use Rattle.span_check.specs.Steps.{GoesOn, LeavesFrames}

-- the process with another count of turns
abbrev pub at_turn : PlainProcess → ℕ → PlainProcess
at_turn p turns = record p { turns = turns }

module _ (s : ServerState) (p : PlainProcess) where
  ran_same : (turns : ℕ) (o : Option ℕ) → ran_unless_doomed (reads_of s) (at_turn p turns) o ≡ ran_unless_doomed (reads_of s) p o
  ran_same turns None = refl
  ran_same turns (Some serial) = refl

  ran_below : (turns : ℕ) → (turns == MOST_TURNS) ≡ false → ran_of (reads_of s) (at_turn p turns) ≡ ran_unless_doomed (reads_of s) p (doomed_serial (reads_of s) p.frames)
  ran_below turns e = rw e (ran_same turns (doomed_serial (reads_of s) p.frames))

  counted_at : (turns : ℕ) → (turns == MOST_TURNS) ≡ false → counted (at_turn p turns) ≡ at_turn p (turns + 1)
  counted_at turns e = rw e refl

  -- below the limit a turn does not depend on the count
  turn_at : (turns : ℕ) → (turns == MOST_TURNS) ≡ false → turn_of s (at_turn p turns) ≡ turn_from (at_turn p (turns + 1)) (ran_unless_doomed (reads_of s) p (doomed_serial (reads_of s) p.frames))
  turn_at turns e = ap (λ (ran : Ran). turn_from (counted (at_turn p turns)) ran) (ran_below turns e) ∙ ap (λ (q : PlainProcess). turn_from q (ran_unless_doomed (reads_of s) p (doomed_serial (reads_of s) p.frames))) (counted_at turns e)

-- a turn that goes on is below the limit
goes_below : (s : ServerState) (p : PlainProcess) → (turn_of s p).end ≡ Again → (p.turns == MOST_TURNS) ≡ false
goes_below s p goes = ne_eqb p.turns MOST_TURNS (λ e. ended_again SystemLimit (sym (limit_ends s p e) ∙ goes))

-- turns that are known, and then the others
pub turns_first : (s : ServerState) (p q : PlainProcess) (made : List Line) (n : ℕ) (lines : List Line) → turn_of s p ≡ record { process = q; made = made; end = Again } → turns_of s (suc n) p lines ≡ turns_of s n q (lines ++ made)
unfolding turns_of
turns_first s p q made n lines e = ap (λ (t : Turn). after_turn n (turns_of s n) lines t.process t.made t.end) e

pub after_first : (s : ServerState) (p q : PlainProcess) (made : List Line) (end : TurnEnd) (n : ℕ) → turn_of s p ≡ record { process = q; made = made; end = end } → after_turns s (suc n) p ≡ after_turns s n q
unfolding after_turns
after_first s p q made end n e = ap (λ (t : Turn). after_turns s n t.process) e

pub no_turn : (s : ServerState) (p : PlainProcess) → after_turns s 0 p ≡ p
unfolding after_turns
no_turn s p = refl

module _ (s : ServerState) (p : PlainProcess) (leaves : LeavesFrames s p) where
  abbrev what : Ran
  what = ran_unless_doomed (reads_of s) p (doomed_serial (reads_of s) p.frames)

  here : turn_of s p ≡ turn_from (at_turn p (p.turns + 1)) what
  here = turn_at s p p.turns (goes_below s p leaves.goes)

  frames_here : what.frames ≡ p.frames
  frames_here = sym (ap (λ (t : Turn). t.process.frames) here) ∙ leaves.same

  made_here : what.made ≡ []
  made_here = sym (ap (λ (t : Turn). t.made) here) ∙ leaves.silent

  end_here : what.end ≡ Again
  end_here = sym (ap (λ (t : Turn). t.end) here) ∙ leaves.goes

  -- below the limit the turn only counts, whatever the count is
  pub each_turn : (turns : ℕ) → (turns == MOST_TURNS) ≡ false → turn_of s (at_turn p turns) ≡ record { process = at_turn p (turns + 1); made = []; end = Again }
  each_turn turns e =
      turn_at s p turns e
      ∙ (λ i. record { process = record { number = p.number; target = p.target; args = p.args; turns = turns + 1; frames = frames_here i }; made = made_here i; end = end_here i })

  below : (turns k : ℕ) → turns + suc k ≤ MOST_TURNS → (turns == MOST_TURNS) ≡ false
  below turns k h = ne_eqb turns MOST_TURNS (λ e. omega (arith, h, e))

  -- so do those after it
  pub after_at : (k turns : ℕ) → turns + k ≤ MOST_TURNS → after_turns s k (at_turn p turns) ≡ at_turn p (turns + k)
  after_at zero turns h = no_turn s (at_turn p turns) ∙ ap (at_turn p) (omega arith)
  after_at (suc k) turns h =
      after_first s (at_turn p turns) (at_turn p (turns + 1)) [] Again k (each_turn turns (below turns k h))
      ∙ after_at k (turns + 1) (omega (arith, h))
      ∙ ap (at_turn p) (omega arith)

  pub turns_at : (k turns left : ℕ) (lines : List Line) → turns + k ≤ MOST_TURNS → turns_of s (k + left) (at_turn p turns) lines ≡ turns_of s left (at_turn p (turns + k)) lines
  turns_at zero turns left lines h = ap (λ n. turns_of s n (at_turn p turns) lines) (omega arith) ∙ ap (λ n. turns_of s left (at_turn p n) lines) (omega arith)
  turns_at (suc k) turns left lines h =
      let e : suc k + left ≡ suc (k + left) = omega arith in
      ap (λ n. turns_of s n (at_turn p turns) lines) e
      ∙ turns_first s (at_turn p turns) (at_turn p (turns + 1)) [] (k + left) lines (each_turn turns (below turns k h))
      ∙ ap (turns_of s (k + left) (at_turn p (turns + 1))) (append-nil lines)
      ∙ turns_at k (turns + 1) left lines (omega (arith, h))
      ∙ ap (λ n. turns_of s left (at_turn p n) lines) (omega arith)

-- turns that were counted without being run are like the one before
abbrev pub AreLike : PlainProcess → PlainProcess → List Line → TurnEnd → ℕ → Type 0
AreLike p middle made end more = (end ≡ Again) × (made ≡ []) × (middle.frames ≡ p.frames) × (middle.turns + more ≤ MOST_TURNS)

module _ (s : ServerState) (p middle now : PlainProcess) (made : List Line) (end : TurnEnd) (more : ℕ) (t : turn_of s p ≡ record { process = middle; made = made; end = end }) (is : now ≡ at_turn middle (middle.turns + more)) where
  end_same : (turn_of s p).end ≡ end
  end_same = ap (λ (t : Turn). t.end) t

  counted_one : end ≡ Again → middle.turns ≡ p.turns + 1
  counted_one again = ap (λ (t : Turn). t.process.turns) (sym t) ∙ again_counts s p (end_same ∙ again)

  same_now : more ≡ 0 → now ≡ middle
  same_now none = is ∙ ap (at_turn middle) (omega (arith, none))

  one_reached : more ≡ 0 → after_turns s (1 + more) p ≡ now
  one_reached none = ap (λ n. after_turns s n p) (omega (arith, none)) ∙ after_first s p middle made end 0 t ∙ no_turn s middle ∙ sym (same_now none)

  one_still : more ≡ 0 → (k : ℕ) → 0 < k → k ≤ 1 + more → (after_turns s k p).frames ≡ now.frames
  one_still none k some few = ap (λ (q : PlainProcess). q.frames) (ap (λ n. after_turns s n p) (omega (arith, none, some, few)) ∙ one_reached none)

  again_at : end ≡ Again → turn_of s p ≡ record { process = middle; made = made; end = Again }
  again_at again = t ∙ ap (λ e. record { process = middle; made = made; end = e }) again

  one_rest : more ≡ 0 → end ≡ Again → (left : ℕ) (lines : List Line) → turns_of s (1 + more + left) p lines ≡ turns_of s left now (lines ++ made)
  one_rest none again left lines =
      ap (λ n. turns_of s n p lines) (omega (arith, none)) ∙ turns_first s p middle made left lines (again_at again) ∙ ap (λ (q : PlainProcess). turns_of s left q (lines ++ made)) (sym (same_now none))

  -- a turn alone
  pub went_once : more ≡ 0 → GoesOn s p now (1 + more) made end
  went_once none = record {
    some = omega arith;
    made_is = ap (λ (t : Turn). t.made) t;
    end_is = end_same;
    reached = one_reached none;
    alone = λ _. omega (arith, none);
    counted = λ again. omega (arith, counted_one again, ap (λ (q : PlainProcess). q.turns) (same_now none), none);
    still = λ again k some few. one_still none k some few;
    rest = λ again left lines. one_rest none again left lines;
  }

  module _ (like : AreLike p middle made end more) where
    leaves_frames : LeavesFrames s p
    leaves_frames = record { goes = end_same ∙ like.0; silent = ap (λ (t : Turn). t.made) t ∙ like.1; same = ap (λ (t : Turn). t.process.frames) t ∙ like.2 }

    middle_is : middle ≡ at_turn p (p.turns + 1)
    middle_is = ap (λ (t : Turn). t.process) (sym t) ∙ ap (λ (t : Turn). t.process) (each_turn s p leaves_frames p.turns (goes_below s p leaves_frames.goes))

    now_is : now ≡ at_turn p (p.turns + (1 + more))
    now_is = is ∙ ap (λ (q : PlainProcess). at_turn q (q.turns + more)) middle_is ∙ ap (at_turn p) (omega arith)

    few_turns : p.turns + (1 + more) ≤ MOST_TURNS
    few_turns = omega (arith, like.3, counted_one like.0)

    -- a turn, and others that are like it
    pub went_often : GoesOn s p now (1 + more) made end
    went_often = record {
      some = omega arith;
      made_is = ap (λ (t : Turn). t.made) t;
      end_is = end_same;
      reached = after_at s p leaves_frames (1 + more) p.turns few_turns ∙ sym now_is;
      alone = λ other. absurd (other like.0);
      counted = λ again. ap (λ (q : PlainProcess). q.turns) now_is;
      still = λ again k some few. ap (λ (q : PlainProcess). q.frames) (after_at s p leaves_frames k p.turns (omega (arith, few_turns, few))) ∙ ap (λ (q : PlainProcess). q.frames) (sym now_is);
      rest = λ again left lines.
          turns_at s p leaves_frames (1 + more) p.turns left lines few_turns
          ∙ ap (λ (q : PlainProcess). turns_of s left q lines) (sym now_is)
          ∙ ap (turns_of s left now) (sym (append-nil lines) ∙ ap (λ ms. lines ++ ms) (sym like.1));
    }
