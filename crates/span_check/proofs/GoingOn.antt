-- What a turn, and the count of those that are like it, come to; and what is then left of a span.
use Rattle.std.proofs.Common.{◌≡◌, ◌≤◌, ◌+◌, ◌-◌, ◌∙◌, ◌&&◌, ℕ, ap, sym, refl, arith, Bool, true, false, IsTrue, List, [], ◌∷◌, ◌++◌, length, take, drop, Option, Some, None, IfSome, IsSomeAnd}
use Rattle.std.proofs.Math.Seq.{drop-append_seam, take-add, take-append_seam}
use Rattle.std.proofs.lemmas.List.{length-drop, length-take-le, take_all}
use Rattle.std.specs.List.{list_all, starts_with}
use Rattle.server_core.specs.ServerState.{ServerState}
use Rattle.machine_core.specs.declared.process.Frame.{Frame}
use Rattle.machine_core.specs.declared.process.Line.{Line}
use Rattle.machine_core.specs.declared.process.Process.{Process}
use Rattle.machine_core.specs.declared.process.TheConstants.{MOST_TURNS}
use Rattle.machine_core.specs.declared.process.TurnEnd.{TurnEnd}
use Rattle.machine_core.specs.declared.process.TurnEnd.TheVariants.{Again}
use Rattle.machine_core.specs.Process.{PlainProcess, Words, frames_of, process_of}
use Rattle.machine_core.specs.Turn.{turn_of}
use Rattle.run_log.specs.declared.logs.Span.{Span}
use Rattle.span_check.specs.declared.spans.Rest.{Rest}
use Rattle.span_check.specs.declared.watch.Watch.{Watch}
use Rattle.span_check.specs.Watches.{all_run, due_count, stands_in}
use Rattle.span_check.specs.Steps.{GoesOn, HasOtherLines, IsStep}
use Rattle.span_check.proofs.Lists.{drop_more}
use Rattle.span_check.proofs.Equal.{begins, line_eq, not_begins}
use Rattle.span_check.proofs.Names.{stands_by}
use Rattle.span_check.proofs.Repeats.{at_turn, went_often, went_once}

some_both : (before : Option (List Frame)) (xs ys : List Frame) → IfSome before (λ fs. fs ≡ xs) → IsSomeAnd before (λ fs. fs ≡ ys) → ys ≡ xs
some_both None xs ys h k = absurd k
some_both (Some fs) xs ys h k = sym k ∙ h

module _ (s : ServerState) (words : Words) (old middle now : Process) (made : List Line) (end : TurnEnd) (more : ℕ) (before : Option (List Frame))
    (gives : turn_of s (process_of words old) ≡ record { process = process_of words middle; made = made; end = end }) (kept : IfSome before (λ fs. fs ≡ old.frames)) (counted : now ≡ record middle { turns = middle.turns + more }) where
  now_is : process_of words now ≡ at_turn (process_of words middle) (middle.turns + more)
  now_is = ap (process_of words) counted

  -- a turn, and those that were counted as like it
  pub goes_by : (repeats : Bool) → (IsTrue repeats → end ≡ Again) → (IsTrue repeats → made ≡ []) → (IsTrue repeats → IsSomeAnd before (λ fs. fs ≡ middle.frames)) → (repeats ≡ false → more ≡ 0) → middle.turns + more ≤ MOST_TURNS
      → GoesOn s (process_of words old) (process_of words now) (1 + more) made end
  goes_by true goes silent same none limit =
      went_often s (process_of words old) (process_of words middle) (process_of words now) made end more gives now_is
      (goes refl, silent refl, ap (frames_of words) (some_both before old.frames middle.frames kept (same refl)), limit)
  goes_by false goes silent same none limit = went_once s (process_of words old) (process_of words middle) (process_of words now) made end more gives now_is (none refl)

-- the lines from a place on, as the code takes them
abbrev pub lines_from : List Line → ℕ → List Line
lines_from lines k = take (length lines - k) (drop k lines)

pub from_is : (xs lines : List Line) (k : ℕ) → xs ≡ lines → lines_from xs k ≡ drop k lines
from_is xs lines k e = take_all (length xs - k) (drop k xs) (omega (arith, length-drop k xs)) ∙ ap (drop k) e

-- what stands behind a front of a list
behind_front : (xs ys : List Line) (k : ℕ) → k ≤ length xs → xs ≡ take k xs ++ ys → drop k xs ≡ ys
behind_front xs ys k within e =
    let n : length (take k xs) ≡ k = length-take-le k xs within in
    ap (drop k) e ∙ ap (λ m. drop m (take k xs ++ ys)) (sym n) ∙ drop-append_seam (take k xs) ys

module _ (s : ServerState) (p now : PlainProcess) (span : Span) (rest : Rest) (turns : ℕ) (made : List Line) (end : TurnEnd) (goes : GoesOn s p now turns made end) (within : rest.lines ≤ length span.lines) (lines : List Line)
    (is : lines ≡ drop rest.lines span.lines) (test : Bool) (tested : test ≡ starts_with line_eq lines made) where
  -- the lines of the turn are not the next ones
  pub others_by : test ≡ false → HasOtherLines s p span rest
  others_by h = record {
    differ = λ tail e.
        not_begins lines made test tested h tail
        (is ∙ behind_front span.lines ((turn_of s p).made ++ tail) rest.lines within e ∙ ap (λ ms. ms ++ tail) goes.made_is);
  }

  -- they are
  pub steps_by : (after : Rest) → test ≡ true → rest.turns ≡ turns + after.turns → after.lines ≡ rest.lines + length made → after.lines ≤ length span.lines → IsStep s p now span rest after end
  steps_by after h left more few =
      let e : drop rest.lines span.lines ≡ made ++ drop (length made) lines = sym is ∙ begins lines made test tested h in
      record {
        turns = turns;
        made = made;
        goes = goes;
        turns_left = left;
        lines_taken =
            ap (λ n. take n span.lines) more
            ∙ take-add rest.lines (length made) span.lines
            ∙ ap (λ ms. take rest.lines span.lines ++ ms) (ap (take (length made)) e ∙ take-append_seam made (drop (length made) lines));
        within = few;
      }

-- a look by the code's frames is one at the process
pub run_is : (words : Words) (p : Process) (watches : List Watch) → all_run p.frames watches ≡ list_all (λ w. stands_in (process_of words p) w.serial) watches
run_is words p [] = refl
run_is words p (w ∷ watches) = (λ i. stands_by words p w.serial i && run_is words p watches i)

-- lines that stand from a place on end within the list
pub steps_within : (xs lines ys made : List Line) (k count : ℕ) → k ≤ length lines → xs ≡ lines → ys ≡ made → count ≡ length made → length ys ≤ length (lines_from xs k) → k + count ≤ length lines
steps_within xs lines ys made k count within e f n bound =
    let a = ap length e in
    let b = ap length f in
    let d = ap length (from_is xs lines k e) in
    omega (arith, within, n, bound, a, b, d, length-drop k lines)

-- a look at those that come due, and those that are then left
pub look_is : (words : Words) (p : Process) (watches : List Watch) (told : ℕ) (result : Bool) → result ≡ all_run p.frames (take (due_count p.turns (drop told watches)) (drop told watches))
    → list_all (λ w. stands_in (process_of words p) w.serial) (take (due_count p.turns (drop told watches)) (drop told watches)) ≡ result
look_is words p watches told result is = sym (is ∙ run_is words p (take (due_count p.turns (drop told watches)) (drop told watches)))

pub left_is : (p : Process) (watches : List Watch) (told now : ℕ) → now ≡ told + due_count p.turns (drop told watches) → drop now watches ≡ drop (due_count p.turns (drop told watches)) (drop told watches)
left_is p watches told now is = ap (λ n. drop n watches) is ∙ drop_more told (due_count p.turns (drop told watches)) watches
