-- A span step by step: what is left of it gives the whole.
use Rattle.std.proofs.Common.{◌≡◌, ◌+◌, ◌-◌, ◌≤◌, ◌<◌, ◌∙◌, ℕ, zero, suc, refl, sym, ap, subst, arith, Bool, true, false, List, [], ◌++◌, append_assoc, length, take, drop, Some}
use Rattle.std.proofs.lemmas.List.{take_all, length-take}
use Rattle.std.specs.List.{list_all}
use Rattle.server_core.specs.ServerState.{ServerState}
use Rattle.machine_core.specs.declared.process.Line.{Line}
use Rattle.machine_core.specs.declared.process.TurnEnd.{TurnEnd}
use Rattle.machine_core.specs.declared.process.TurnEnd.TheVariants.{Again, Ended}
use Rattle.machine_core.specs.Process.{PlainProcess}
use Rattle.machine_core.specs.Turn.{Turn, turn_of}
use Rattle.machine_core.proofs.TurnLaws.{turn_ended}
use Rattle.run_log.specs.declared.logs.Span.{Span}
use Rattle.run_log.specs.Legal.{after_turns, turns_of}
use Rattle.run_log.proofs.TurnRuns.{no_turns, some_turn}
use Rattle.span_check.specs.declared.spans.Rest.{Rest}
use Rattle.span_check.specs.declared.watch.Watch.{Watch}
use Rattle.span_check.specs.Watches.{AreInOrder, AreLater, AreSeen, AreSeenToEnd, due_count, stands_in}
use Rattle.span_check.specs.Steps.{HasOtherLines, IsSpanJudged, IsSpanRefused, IsSpanTaken, IsStep, IsWhole, SeenSo}
use Rattle.span_check.proofs.Repeats.{no_turn}
use Rattle.span_check.proofs.TurnRows.{after_add, end_is, first_lines, made_is, no_more, one_turn}
use Rattle.span_check.proofs.Watching.{ended_here, looked, none_seen, not_looked, seen_on, unseen_on}
use Rattle.run_log.proofs.ListPlaces.{all_weaker}

-- some turns of a span were taken: where the process then stands, what is left gives the whole, and the watches so far were seen
pub record AtRest (s : ServerState) (p now : PlainProcess) (span : Span) (rest : Rest) (watches left : List Watch) : Type 0 where
  pub taken : ℕ
  pub turns : taken + rest.turns ≡ span.turns
  pub reached : after_turns s taken p ≡ now
  pub counted : now.turns ≡ p.turns + taken
  pub row : turns_of s span.turns p [] ≡ turns_of s rest.turns now (take rest.lines span.lines)
  pub within : rest.lines ≤ length span.lines
  pub seen : AreSeen s p taken watches left

-- at first all of it is left
pub at_first : (s : ServerState) (p : PlainProcess) (span : Span) (watches : List Watch) → AreLater p.turns watches → AtRest s p p span (record { turns = span.turns; lines = 0 }) watches watches
at_first s p span watches later = record {
  taken = 0;
  turns = omega arith;
  reached = no_turn s p;
  counted = omega arith;
  row = refl;
  within = omega arith;
  seen = none_seen s p watches later;
}

after_one : (s : ServerState) (p : PlainProcess) → after_turns s 1 p ≡ (turn_of s p).process
unfolding after_turns
after_one s p = refl

seen_so : (s : ServerState) (p : PlainProcess) (n : ℕ) (watches left : List Watch) (e : TurnEnd) → (e ≡ Again → ⊥) → AreSeenToEnd s p n watches left → SeenSo s p n watches left e
seen_so s p n watches left Again other h = absurd (other refl)
seen_so s p n watches left (Ended fin) other h = h

frameless : (s : ServerState) (p : PlainProcess) (e : TurnEnd) → (turn_of s p).end ≡ e → (e ≡ Again → ⊥) → (turn_of s p).process.frames ≡ []
frameless s p Again is other = absurd (other refl)
frameless s p (Ended fin) is other = turn_ended s p fin is

pub true_false : {A : Type 0} → true ≡ false → A
true_false h = cc

module _ (s : ServerState) (p now : PlainProcess) (span : Span) (rest : Rest) (watches between : List Watch) (at : AtRest s p now span rest watches between) where
  abbrev lines : List Line
  lines = take rest.lines span.lines

  later_now : AreLater now.turns between
  later_now = all_weaker (λ w. p.turns + at.taken < w.turn) (λ w. now.turns < w.turn) (λ w k. omega (arith, k, at.counted)) between at.seen.later

  -- the lines of the next turn are others
  pub other_lines : (wanted : TurnEnd) → 0 < rest.turns → HasOtherLines s now span rest → IsSpanRefused s p span wanted watches
  other_lines wanted some other = record {
    no = λ t row made end all.
        let e : rest.turns ≡ suc (rest.turns - 1) = omega (arith, some) in
        let h = first_lines s (rest.turns - 1) now lines t (ap (λ n. turns_of s n now lines) (sym e) ∙ sym at.row ∙ row) in
        other.differ h.0 (sym made ∙ h.1 ∙ append_assoc lines (turn_of s now).made h.0);
  }

  module _ (next : PlainProcess) (after : Rest) where
    -- the process goes on, and each watch that comes due is seen
    pub one_step : IsStep s now next span rest after Again → AreInOrder between → list_all (λ w. stands_in next w.serial) (take (due_count next.turns between) between) ≡ true
        → AtRest s p next span after watches (drop (due_count next.turns between) between)
    one_step step order all =
        let goes = step.goes in
        let counted = goes.counted refl in
        record {
          taken = at.taken + step.turns;
          turns = omega (arith, at.turns, step.turns_left);
          reached = after_add s at.taken step.turns p ∙ ap (after_turns s step.turns) at.reached ∙ goes.reached;
          counted = omega (arith, counted, at.counted);
          row = at.row ∙ ap (λ n. turns_of s n now lines) step.turns_left ∙ goes.rest refl after.turns lines ∙ ap (turns_of s after.turns next) (sym step.lines_taken);
          within = step.within;
          seen = seen_on s p now at.taken at.reached at.counted watches between at.seen step.turns (drop (due_count next.turns between) between)
              (looked s now next step.turns counted (goes.still refl) between order later_now all);
        }

    -- not each watch that comes due is seen
    pub one_unseen : (wanted : TurnEnd) → IsStep s now next span rest after Again → AreInOrder between → list_all (λ w. stands_in next w.serial) (take (due_count next.turns between) between) ≡ false → IsSpanRefused s p span wanted watches
    one_unseen wanted step order some = record {
      no = λ t row made end all.
          unseen_on s p now at.taken at.reached at.counted watches between at.seen
          (not_looked s now next step.turns (step.goes.counted refl) (step.goes.still refl) between order later_now some) all;
    }

    module _ (end : TurnEnd) (step : IsStep s now next span rest after end) (other : end ≡ Again → ⊥) where
      alone : step.turns ≡ 1
      alone = step.goes.alone other

      other_end : (turn_of s now).end ≡ Again → ⊥
      other_end h = other (sym step.goes.end_is ∙ h)

      last_is : (turn_of s now).process ≡ next
      last_is = sym (after_one s now) ∙ ap (λ n. after_turns s n now) (sym alone) ∙ step.goes.reached

      lines_now : lines ++ (turn_of s now).made ≡ take after.lines span.lines
      lines_now = ap (λ ms. lines ++ ms) step.goes.made_is ∙ sym step.lines_taken

      last_turn : after.turns ≡ 0 → turns_of s span.turns p [] ≡ some_turn next (take after.lines span.lines) end
      last_turn none =
          at.row
          ∙ ap (λ n. turns_of s n now lines) (omega (arith, step.turns_left, alone, none))
          ∙ one_turn s now lines
          ∙ (λ i. some_turn (last_is i) (lines_now i) (step.goes.end_is i))

      whole_lines : after.lines ≡ length span.lines → take after.lines span.lines ≡ span.lines
      whole_lines all = take_all after.lines span.lines (omega (arith, all))

      lines_all : take after.lines span.lines ≡ span.lines → after.lines ≡ length span.lines
      lines_all e = let k = ap length e in omega (arith, k, length-take after.lines span.lines, step.within)

      end_whole : (wanted : TurnEnd) → IsWhole span after end wanted → IsSpanTaken s p next span wanted watches between
      end_whole wanted whole = record {
        turns = last_turn whole.turns ∙ (λ i. some_turn next (whole_lines whole.all_lines i) (whole.end_is i));
        reached = ap (λ n. after_turns s n p) (omega (arith, at.turns, step.turns_left, alone, whole.turns)) ∙ after_add s at.taken 1 p ∙ ap (after_turns s 1) at.reached ∙ after_one s now ∙ last_is;
        counted = λ goes. absurd (other (whole.end_is ∙ goes));
        seen = subst (SeenSo s p span.turns watches between) whole.end_is
            (seen_so s p span.turns watches between end other
            (subst (λ n. AreSeenToEnd s p n watches between) (omega (arith, at.turns, step.turns_left, alone, whole.turns))
            (ended_here s p now at.taken at.reached at.counted watches between at.seen next (after_one s now ∙ last_is) (ap (λ (q : PlainProcess). q.frames) (sym last_is) ∙ frameless s now end step.goes.end_is other))));
      }

      whole_by : (wanted : TurnEnd) (t : Turn) (left : ℕ) → after.turns ≡ left → turns_of s span.turns p [] ≡ Some t → t.made ≡ span.lines → t.end ≡ wanted → IsWhole span after end wanted
      whole_by wanted t zero is row made end_same =
          let e = sym (last_turn is) ∙ row in
          record {
            turns = is;
            all_lines = lines_all (made_is next (take after.lines span.lines) end t e ∙ made);
            end_is = end_is next (take after.lines span.lines) end t e ∙ end_same;
          }
      whole_by wanted t (suc left) is row made end_same =
          let n : rest.turns ≡ suc (suc left) = omega (arith, step.turns_left, alone, is) in
          absurd (no_more s left now lines t other_end (ap (λ k. turns_of s k now lines) (sym n) ∙ sym at.row ∙ row))

      -- the process ended
      pub ended_so : (wanted : TurnEnd) (yes : Bool) → (yes ≡ true → IsWhole span after end wanted) → (IsWhole span after end wanted → yes ≡ true) → IsSpanJudged s p next span wanted watches between yes
      ended_so wanted true whole is = end_whole wanted (whole refl)
      ended_so wanted false whole is = record { no = λ t row made end_same all. true_false (sym (is (whole_by wanted t after.turns refl row made end_same))) }

  zero_left : rest.turns ≡ 0 → turns_of s span.turns p [] ≡ some_turn now lines Again
  zero_left none = at.row ∙ ap (λ n. turns_of s n now lines) none ∙ no_turns s now lines

  over_whole : (wanted : TurnEnd) → IsWhole span rest Again wanted → IsSpanTaken s p now span wanted watches between
  over_whole wanted whole = record {
    turns = zero_left whole.turns ∙ (λ i. some_turn now (take_all rest.lines span.lines (omega (arith, whole.all_lines)) i) (whole.end_is i));
    reached = ap (λ n. after_turns s n p) (omega (arith, at.turns, whole.turns)) ∙ at.reached;
    counted = λ goes. omega (arith, at.turns, at.counted, whole.turns);
    seen = subst (SeenSo s p span.turns watches between) whole.end_is (subst (λ n. AreSeen s p n watches between) (omega (arith, at.turns, whole.turns)) at.seen);
  }

  whole_now : (wanted : TurnEnd) (t : Turn) → rest.turns ≡ 0 → turns_of s span.turns p [] ≡ Some t → t.made ≡ span.lines → t.end ≡ wanted → IsWhole span rest Again wanted
  whole_now wanted t none row made end_same =
      let e = sym (zero_left none) ∙ row in
      let k = ap length (made_is now lines Again t e ∙ made) in
      record {
        turns = none;
        all_lines = omega (arith, k, length-take rest.lines span.lines, at.within);
        end_is = end_is now lines Again t e ∙ end_same;
      }

  -- no turn is left, and the process goes on
  pub over_so : (wanted : TurnEnd) (yes : Bool) → rest.turns ≡ 0 → (yes ≡ true → IsWhole span rest Again wanted) → (IsWhole span rest Again wanted → yes ≡ true) → IsSpanJudged s p now span wanted watches between yes
  over_so wanted true none whole is = over_whole wanted (whole refl)
  over_so wanted false none whole is = record { no = λ t row made end_same all. true_false (sym (is (whole_now wanted t none row made end_same))) }
