-- A process lingers in an instance where a watch sees it: at its place before the turns of the generation, or after one of them.
use Rattle.std.proofs.Common.{◌≡◌, ◌≤◌, ◌<◌, ◌+◌, ◌-◌, ◌∙◌, ◌==◌, ℕ, zero, suc, refl, sym, ap, subst, arith, Bool, true, false, List, [], ◌∷◌, ◌++◌, length}
use Rattle.std.proofs.lemmas.Bool.{eqb-true, eqb-false}
use Rattle.std.proofs.lemmas.Option.{same_Some, slice_get_within}
use Rattle.std.specs.List.{AllByRecursion}
use Rattle.server_core.specs.ServerState.{ServerState}
use Rattle.machine_core.specs.Process.{PlainProcess}
use Rattle.run_log.specs.declared.logs.Span.{Span}
use Rattle.run_log.specs.Legal.{Lingers, Mark, after_turns, marks_in, marks_of, process_after}
use Rattle.run_log.proofs.Marks.{last_of, last_process, process_of_last}
use Rattle.span_check.specs.declared.watch.Watch.{Watch}
use Rattle.span_check.specs.Watches.{stands_in}
use Rattle.span_check.specs.Sweeps.{turns_in}
use Rattle.span_check.proofs.Repeats.{no_turn}
use Rattle.span_check.proofs.Watching.{stands_nowhere}
use Rattle.span_check.proofs.MarkPlaces.{LingersAt, at_lingers, at_start, at_turn, last_stands, lingers_at, mark_at, marks_all, marks_join, marks_length, marks_under}
use Rattle.run_log.proofs.ListPlaces.{get_within}

-- a watch within so many turns that come behind so many others, of a process that stands here between them
pub record SeesWithin (s : ServerState) (earlier turns : ℕ) (p : PlainProcess) (watch : Watch) : Type 0 where
  pub from : earlier ≤ watch.turn
  pub to : watch.turn ≤ earlier + turns
  pub stands : stands_in (after_turns s (watch.turn - earlier) p) watch.serial ≡ true

no_marks : (marks : List Mark) → length marks ≡ 0 → marks ≡ []
no_marks [] h = refl
no_marks (m ∷ marks) h = absurd (omega (arith, h))

module _ (s : ServerState) (states : ℕ → ServerState) (g : ℕ) (state : states g ≡ s) (first : PlainProcess) (bare : first.frames ≡ []) (before here after : List Span)
    (low : AllByRecursion (λ x. x.generation < g) before) (under : AllByRecursion (λ x. x.generation ≡ g) here) (high : AllByRecursion (λ x. g < x.generation) after) where
  abbrev p : PlainProcess
  p = process_after states first before

  abbrev old : List Mark
  old = marks_of states first before

  abbrev now : List Mark
  now = marks_in s g (turns_in here) p

  abbrev rest : List Mark
  rest = marks_of states (process_after states p here) after

  marks_parts : marks_of states first (before ++ (here ++ after)) ≡ old ++ (now ++ rest)
  marks_parts = marks_join states first before (here ++ after) ∙ ap (λ ms. old ++ ms) (marks_join states p here after ∙ ap (λ ms. ms ++ rest) (marks_under s states g p here state under))

  old_low : AllByRecursion (λ m. m.generation < g) old
  old_low = marks_all (λ n. n < g) states first before low

  now_here : AllByRecursion (λ m. m.generation ≡ g) now
  now_here = subst (AllByRecursion (λ m. m.generation ≡ g)) (marks_under s states g p here state under) (marks_all (λ n. n ≡ g) states p here under)

  rest_high : AllByRecursion (λ m. g < m.generation) rest
  rest_high = marks_all (λ n. g < n) states (process_after states p here) after high

  now_length : length now ≡ turns_in here
  now_length = marks_length s g (turns_in here) p

  at_sees : (watch : Watch) → LingersAt watch.serial watch.turn old now → SeesWithin s (length old) (turns_in here) p watch
  at_sees watch (at_start m place counted last had stands) =
      let e : watch.turn - length old ≡ 0 = omega (arith, counted, last) in
      record {
        from = omega (arith, counted, last);
        to = omega (arith, counted, last);
        stands = ap (λ (q : PlainProcess). stands_in q watch.serial) (ap (λ n. after_turns s n p) e ∙ no_turn s p ∙ sym (last_stands states first before m place had last)) ∙ stands;
      }
  at_sees watch (at_turn m place counted had stands) =
      let within = slice_get_within now place m had in
      let e : watch.turn - length old ≡ suc place = omega (arith, counted) in
      let is = same_Some (record { generation = g; process = after_turns s (suc place) p }) m (sym (mark_at s g (turns_in here) p place (omega (arith, within, now_length))) ∙ had) in
      record {
        from = omega (arith, counted);
        to = omega (arith, counted, within, now_length);
        stands = ap (λ (q : PlainProcess). stands_in q watch.serial) (ap (λ n. after_turns s n p) e ∙ ap (λ (x : Mark). x.process) is) ∙ stands;
      }

  -- what lingers is seen
  pub lingers_sees : (watch : Watch) → Lingers watch.serial g watch.turn (marks_of states first (before ++ (here ++ after))) → SeesWithin s (length old) (turns_in here) p watch
  lingers_sees watch h = at_sees watch (lingers_at g old now rest old_low now_here rest_high watch.serial watch.turn (subst (Lingers watch.serial g watch.turn) marks_parts h))

  -- a process that stands somewhere has had a turn
  stood : (watch : Watch) → watch.turn ≡ 0 → SeesWithin s (length old) (turns_in here) p watch → ⊥
  stood watch none seen =
      let empty = no_marks old (omega (arith, seen.from, none)) in
      let is : p ≡ first = sym (last_process states first before) ∙ ap (λ ms. process_of_last first (last_of ms)) empty in
      let e : watch.turn - length old ≡ 0 = omega (arith, none) in
      stands_nowhere p watch.serial (ap (λ (q : PlainProcess). q.frames) is ∙ bare) (sym (ap (λ (q : PlainProcess). stands_in q watch.serial) (ap (λ n. after_turns s n p) e ∙ no_turn s p)) ∙ seen.stands)

  sees_start : (watch : Watch) (place : ℕ) → watch.turn ≡ suc place → watch.turn ≡ length old → SeesWithin s (length old) (turns_in here) p watch → LingersAt watch.serial watch.turn old now
  sees_start watch place is last seen =
      let m = get_within old place (omega (arith, is, last)) in
      let e : watch.turn - length old ≡ 0 = omega (arith, last) in
      let last_place : place + 1 ≡ length old = omega (arith, is, last) in
      at_start m.0 place (omega (arith, is)) last_place m.1
      (ap (λ (q : PlainProcess). stands_in q watch.serial) (last_stands states first before m.0 place m.1 last_place ∙ sym (ap (λ n. after_turns s n p) e ∙ no_turn s p)) ∙ seen.stands)

  sees_turn : (watch : Watch) → length old < watch.turn → SeesWithin s (length old) (turns_in here) p watch → LingersAt watch.serial watch.turn old now
  sees_turn watch past seen =
      let place = watch.turn - length old - 1 in
      let e : watch.turn - length old ≡ suc place = omega (arith, past) in
      at_turn (record { generation = g; process = after_turns s (suc place) p }) place (omega (arith, past)) (mark_at s g (turns_in here) p place (omega (arith, past, seen.to)))
      (ap (λ n. stands_in (after_turns s n p) watch.serial) (sym e) ∙ seen.stands)

  sees_at : (watch : Watch) (turn : ℕ) → watch.turn ≡ turn → (b : Bool) → (watch.turn == length old) ≡ b → SeesWithin s (length old) (turns_in here) p watch → LingersAt watch.serial watch.turn old now
  sees_at watch zero is b test seen = absurd (stood watch is seen)
  sees_at watch (suc place) is true test seen = sees_start watch place is (eqb-true watch.turn (length old) test) seen
  sees_at watch (suc place) is false test seen = sees_turn watch (omega (arith, seen.from, eqb-false watch.turn (length old) test)) seen

  -- what is seen lingers
  pub sees_lingers : (watch : Watch) → SeesWithin s (length old) (turns_in here) p watch → Lingers watch.serial g watch.turn (marks_of states first (before ++ (here ++ after)))
  sees_lingers watch seen =
      subst (Lingers watch.serial g watch.turn) (sym marks_parts)
      (at_lingers g old now rest old_low now_here rest_high watch.serial watch.turn (sees_at watch watch.turn refl (watch.turn == length old) refl seen))
