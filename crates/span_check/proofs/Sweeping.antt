-- The spans of a generation and the watches of their process, judged together.
use Rattle.std.proofs.Common.{◌≡◌, ◌≤◌, ◌<◌, ◌+◌, ◌-◌, ◌∙◌, ◌==◌, ℕ, refl, sym, ap, subst, arith, Bool, true, false, List, [], ◌∷◌, ◌++◌, length, take, drop, Option, Some, None, is_some, if◌then◌else◌}
use Rattle.std.proofs.Math.Seq.{drop-length, take-add}
use Rattle.std.proofs.lemmas.Bool.{eqb-true, eqb-false}
use Rattle.std.proofs.lemmas.List.{append-nil, length-drop, length-take-le, take-append-drop, take_all}
use Rattle.std.proofs.lemmas.List.Sums.{prefix_len-le-length}
use Rattle.std.proofs.lemmas.Option.{none-some, same_Some}
use Rattle.std.specs.List.{AllByRecursion, list_all}
use Rattle.term_core.proofs.Lists.{all_behind}
use Rattle.server_core.specs.ServerState.{ServerState}
use Rattle.machine_core.specs.declared.process.End.{End}
use Rattle.machine_core.specs.Process.{PlainProcess, process_of}
use Rattle.machine_core.specs.View.{server_words}
use Rattle.run_log.specs.declared.logs.ProcessLog.{ProcessLog}
use Rattle.run_log.specs.declared.logs.Span.{Span}
use Rattle.run_log.specs.Legal.{Lingers, SpansFollow, SpansGo, after_turns, marks_of, process_after}
use Rattle.run_log.proofs.Marks.{marks_counted, process_now, process_over}
use Rattle.span_check.specs.declared.standing.Standing.{Standing}
use Rattle.span_check.specs.declared.watch.Watch.{Watch}
use Rattle.span_check.specs.Standings.{AreTold, HasItsNames, IsOver, IsReached, IsReady, NeverFall, StandsAt, StandsSo, first_of}
use Rattle.span_check.specs.Sweeps.{AreJudgedSo, AreNotTaken, IsMoved, IsRefused, IsTaken, count_under, end_at, spans_from, turns_in}
use Rattle.span_check.specs.Watches.{AreFrom, AreInOrder, AreLater, AreSeen, AreSeenToEnd, Sees, due_count, stands_in}
use Rattle.span_check.proofs.Lists.{all_both, all_take, drop_more}
use Rattle.span_check.proofs.Lingering.{SeesWithin, lingers_sees, sees_lingers}
use Rattle.span_check.proofs.MarkPlaces.{process_join, process_under}
use Rattle.span_check.proofs.Moving.{falls_drop, under_split}
use Rattle.span_check.proofs.Repeats.{no_turn}
use Rattle.span_check.proofs.Watching.{all_tested, due_split, each_seen, seen_on, seen_to_end, stands_nowhere}
use Rattle.run_log.proofs.ListPlaces.{all_weaker, all_join}
use Rattle.span_check.proofs.Spanning.{true_false}

-- ---- watches at the first look, before any turn of the generation

module _ (s : ServerState) (p : PlainProcess) where
  abbrev stands : Watch → Bool
  stands watch = stands_in p watch.serial

  stands_here : (watch : Watch) → watch.turn ≤ p.turns → stands_in (after_turns s (watch.turn - p.turns) p) watch.serial ≡ stands_in p watch.serial
  stands_here watch low = let e : watch.turn - p.turns ≡ 0 = omega (arith, low) in ap (λ (q : PlainProcess). stands_in q watch.serial) (ap (λ n. after_turns s n p) e ∙ no_turn s p)

  -- what is due looks at the process as it is
  pub first_seen : (watches : List Watch) → AreInOrder watches → AreFrom p.turns watches → list_all stands (take (due_count p.turns watches) watches) ≡ true → AreSeen s p 0 watches (drop (due_count p.turns watches) watches)
  first_seen watches order from all =
      let n = due_count p.turns watches in
      let split = due_split p.turns watches order in
      let placed = all_both (λ w. p.turns ≤ w.turn) (λ w. w.turn ≤ p.turns) (λ w. (p.turns ≤ w.turn) × (w.turn ≤ p.turns)) (take n watches) (λ w a b. (a, b)) (all_take (λ w. p.turns ≤ w.turn) n watches from) split.0 in
      record {
        front = take n watches;
        parts = sym (take-append-drop n watches);
        seen = all_both (λ w. (p.turns ≤ w.turn) × (w.turn ≤ p.turns)) (λ w. stands w ≡ true) (Sees s p) (take n watches) (λ w at is. record { from = at.0; stands = stands_here w at.1 ∙ is }) placed
            (each_seen (λ w. stands w ≡ true) stands (take n watches) (λ w k. k) all);
        low = all_weaker (λ w. w.turn ≤ p.turns) (λ w. w.turn ≤ p.turns + 0) (λ w k. omega (arith, k)) (take n watches) split.0;
        later = all_weaker (λ w. p.turns < w.turn) (λ w. p.turns + 0 < w.turn) (λ w k. omega (arith, k)) (drop n watches) split.1;
      }

  pub first_unseen : (watches : List Watch) → AreInOrder watches → list_all stands (take (due_count p.turns watches) watches) ≡ false → AllByRecursion (Sees s p) watches → ⊥
  first_unseen watches order some all =
      let n = due_count p.turns watches in
      let split = due_split p.turns watches order in
      let implied = all_weaker (λ w. w.turn ≤ p.turns) (λ w. Sees s p w → stands w ≡ true) (λ w low seen. sym (stands_here w low) ∙ seen.stands) (take n watches) split.0 in
      differ (sym (all_tested (Sees s p) stands (take n watches) implied (all_take (Sees s p) n watches all)) ∙ some)
    where
      differ : true ≡ false → ⊥
      differ k = cc

  -- both, by what the look answered
  module _ (watches : List Watch) (told : ℕ) (order : AreInOrder watches) (left : drop told watches ≡ drop (due_count p.turns watches) watches) where
    pub looked_seen : AreFrom p.turns watches → list_all stands (take (due_count p.turns watches) watches) ≡ true → AreSeen s p 0 watches (drop told watches)
    looked_seen from all = subst (AreSeen s p 0 watches) (sym left) (first_seen watches order from all)

  pub seen_later : (watches left : List Watch) → AreSeen s p 0 watches left → AreLater p.turns left
  seen_later watches left seen = all_weaker (λ w. p.turns + 0 < w.turn) (λ w. p.turns < w.turn) (λ w k. omega (arith, k)) left seen.later

-- ---- watches within the turns of the generation

-- what is known of watches after turns that end the process, or do not
abbrev pub SeenBy : ServerState → PlainProcess → ℕ → List Watch → List Watch → Option End → Type 0
SeenBy s p n watches left None = AreSeen s p n watches left
SeenBy s p n watches left (Some fin) = AreSeenToEnd s p n watches left

module _ (s : ServerState) (p : PlainProcess) (n : ℕ) where
  abbrev Within : Watch → Type 0
  Within watch = SeesWithin s p.turns n p watch

  front_within : (front : List Watch) → AllByRecursion (Sees s p) front → AllByRecursion (λ w. w.turn ≤ p.turns + n) front → AllByRecursion Within front
  front_within front seen low = all_both (Sees s p) (λ w. w.turn ≤ p.turns + n) Within front (λ w a b. record { from = a.from; to = b; stands = a.stands }) seen low

  -- where none is left, each was seen
  pub all_within : (fin : Option End) (watches left : List Watch) → left ≡ [] → SeenBy s p n watches left fin → AllByRecursion Within watches
  all_within None watches left none seen =
      subst (AllByRecursion Within) (sym (seen.parts ∙ ap (λ ws. seen.front ++ ws) none ∙ append-nil seen.front)) (front_within seen.front seen.seen seen.low)
  all_within (Some fin) watches left none seen =
      subst (AllByRecursion Within) (sym (seen.parts ∙ ap (λ ws. seen.front ++ ws) none ∙ append-nil seen.front)) (front_within seen.front seen.seen seen.low)

  past : (left : List Watch) → (left ≡ [] → ⊥) → AreLater (p.turns + n) left → AllByRecursion Within left → ⊥
  past [] some later h = some refl
  past (w ∷ left) some later h = omega (arith, later.0, h.0.to)

  at_end : (left : List Watch) → (left ≡ [] → ⊥) → (after_turns s n p).frames ≡ [] → AreFrom (p.turns + n) left → AllByRecursion Within left → ⊥
  at_end [] some none from h = some refl
  at_end (w ∷ left) some none from h =
      let e : w.turn - p.turns ≡ n = omega (arith, from.0, h.0.to) in
      stands_nowhere (after_turns s n p) w.serial none (sym (ap (λ k. stands_in (after_turns s k p) w.serial) e) ∙ h.0.stands)

  -- where some are left, not each is seen within these turns
  pub not_within : (fin : Option End) (watches left : List Watch) → (left ≡ [] → ⊥) → SeenBy s p n watches left fin → AllByRecursion Within watches → ⊥
  not_within None watches left some seen h = past left some seen.later (all_behind Within seen.front left (subst (AllByRecursion Within) seen.parts h))
  not_within (Some fin) watches left some seen h = at_end left some seen.none seen.from (all_behind Within seen.front left (subst (AllByRecursion Within) seen.parts h))

  -- what is seen within them is seen
  pub within_sees : (watches : List Watch) → AllByRecursion Within watches → AllByRecursion (Sees s p) watches
  within_sees watches h = all_weaker Within (Sees s p) (λ w a. record { from = a.from; stands = a.stands }) watches h

-- ---- a log and its spans under the generation

-- what the end of a log at a place says of the place
abbrev EndIs : ProcessLog → ℕ → Option End → Type 0
EndIs log place None = place ≡ length log.spans → ⊥
EndIs log place (Some fin) = (place ≡ length log.spans) × (log.fin ≡ fin)

end_by : (log : ProcessLog) (place : ℕ) (b : Bool) → (place == length log.spans) ≡ b → (fin : Option End) → (if b then Some log.fin else None) ≡ fin → EndIs log place fin
end_by log place true test None e = absurd (none-some log.fin (sym e))
end_by log place true test (Some fin) e = (eqb-true place (length log.spans) test, same_Some log.fin fin e)
end_by log place false test None e = eqb-false place (length log.spans) test
end_by log place false test (Some fin) e = absurd (none-some fin e)

end_is : (log : ProcessLog) (place : ℕ) (fin : Option End) → end_at log place ≡ fin → EndIs log place fin
end_is log place fin e = end_by log place (place == length log.spans) refl fin e

module _ (s : ServerState) (log : ProcessLog) (old : Standing) (watches : List Watch) (falls : NeverFall log.spans) (reached : IsReached s.generation log old) where
  abbrev g : ℕ
  g = s.generation

  abbrev p : PlainProcess
  p = process_of (server_words s) old.process

  abbrev behind : List Span
  behind = drop old.gone log.spans

  abbrev before : List Span
  before = take old.gone log.spans

  -- how many spans are under the generation
  abbrev count : ℕ
  count = count_under g behind

  abbrev here : List Span
  here = spans_from log old.gone count

  abbrev after : List Span
  after = drop count behind

  parts : log.spans ≡ before ++ (here ++ after)
  parts = sym (take-append-drop old.gone log.spans) ∙ ap (λ xs. before ++ xs) (sym (take-append-drop count behind))

  pub under : AllByRecursion (λ x. x.generation ≡ g) here
  under = (under_split g behind (falls_drop old.gone log.spans falls) reached.behind).0

  next : AllByRecursion (λ x. g + 1 ≤ x.generation) after
  next = (under_split g behind (falls_drop old.gone log.spans falls) reached.behind).1

  high : AllByRecursion (λ x. g < x.generation) after
  high = all_weaker (λ x. g + 1 ≤ x.generation) (λ x. g < x.generation) (λ x h. omega (arith, h)) after next

  low : AllByRecursion (λ x. x.generation ≤ g) before
  low = all_weaker (λ x. x.generation < g) (λ x. x.generation ≤ g) (λ x h. omega (arith, h)) before reached.before

  abbrev Here : Watch → Type 0
  Here watch = SeesWithin s p.turns (turns_in here) p watch

  module _ (states : ℕ → ServerState) (number : ℕ) (state : states g ≡ s) (go : SpansGo states (first_of number log) before p) where
    abbrev first : PlainProcess
    first = first_of number log

    process_is : process_after states first before ≡ p
    process_is = process_now states first before p go

    turns_are : length (marks_of states first before) ≡ p.turns
    turns_are = let e = marks_counted states first before p go in omega (arith, e)

    told_is : (watch : Watch) → Here watch → Lingers watch.serial g watch.turn (marks_of states first log.spans)
    told_is watch seen =
        subst (λ spans. Lingers watch.serial g watch.turn (marks_of states first spans)) (sym parts)
        (sees_lingers s states g state first refl before here after reached.before under high watch
        (subst (λ q. SeesWithin s (length (marks_of states first before)) (turns_in here) q watch) (sym process_is) (subst (λ n. SeesWithin s n (turns_in here) p watch) (sym turns_are) seen)))

    seen_is : (watch : Watch) → Lingers watch.serial g watch.turn (marks_of states first log.spans) → Here watch
    seen_is watch told =
        subst (λ n. SeesWithin s n (turns_in here) p watch) turns_are
        (subst (λ q. SeesWithin s (length (marks_of states first before)) (turns_in here) q watch) process_is
        (lingers_sees s states g state first refl before here after reached.before under high watch (subst (λ spans. Lingers watch.serial g watch.turn (marks_of states first spans)) parts told)))

    all_told : AllByRecursion Here watches → AreTold states number log g watches
    all_told h = all_weaker Here (λ w. Lingers w.serial g w.turn (marks_of states first log.spans)) told_is watches h

    all_seen : AreTold states number log g watches → AllByRecursion Here watches
    all_seen h = all_weaker (λ w. Lingers w.serial g w.turn (marks_of states first log.spans)) Here seen_is watches h

  -- spans that are gone before a generation are gone before the next one
  before_next : AllByRecursion (λ x. x.generation < g + 1) before
  before_next = all_weaker (λ x. x.generation < g) (λ x. x.generation < g + 1) (λ x h. omega (arith, h)) before reached.before

  module _ (going : old.ended ≡ false) where
    stood : (states : ℕ → ServerState) (number : ℕ) → StandsAt states (server_words s) number log old → SpansGo states (first_of number log) before p
    stood states number at = subst (StandsSo states number log old.gone p) going at

    -- what can not be, if the watches see what they tell
    pub refused_by : ((states : ℕ → ServerState) (number : ℕ) → states g ≡ s → SpansGo states (first_of number log) before p → SpansFollow states (first_of number log) log.spans log.fin → AllByRecursion Here watches → ⊥) → IsRefused s log watches old
    refused_by f = record { no = λ states number state at follow told. f states number state (stood states number at) follow (all_seen states number state (stood states number at) told) }

    -- a watch looks at an earlier turn
    pub early_refused : (AreFrom p.turns watches → ⊥) → IsRefused s log watches old
    early_refused other = refused_by (λ states number state go follow seen. other (all_weaker Here (λ w. p.turns ≤ w.turn) (λ w a. a.from) watches seen))

    -- not each sees what it tells
    pub sees_refused : (AllByRecursion (Sees s p) watches → ⊥) → IsRefused s log watches old
    sees_refused unseen = refused_by (λ states number state go follow seen. unseen (within_sees s p (turns_in here) watches seen))

    module _ (left : List Watch) (seen : AreSeen s p 0 watches left) where
      none_under : count ≡ 0 → turns_in here ≡ 0
      none_under none = ap turns_in (ap (λ n. take n behind) none)

      -- no span is under the generation, and each watch was seen
      pub none_taken : count ≡ 0 → left ≡ [] → IsReady s old → HasItsNames old → IsTaken s log watches old old
      none_taken none empty ready named = record {
        stands = λ states number state at. at;
        told = λ states number state at.
            all_told states number state (stood states number at)
            (all_within s p (turns_in here) None watches left empty (subst (λ n. AreSeen s p n watches left) (sym (none_under none)) seen));
        reached = record {
          within = reached.within;
          before = before_next;
          behind = subst (λ n. AllByRecursion (λ x. g + 1 ≤ x.generation) (drop n behind)) none next;
          over = reached.over;
        };
        ready = ready;
        named = named;
      }

      pub none_refused : count ≡ 0 → (left ≡ [] → ⊥) → IsRefused s log watches old
      none_refused none some =
          refused_by (λ states number state go follow within. not_within s p (turns_in here) None watches left some (subst (λ n. AreSeen s p n watches left) (sym (none_under none)) seen) within)

    -- ---- the log was moved on

    module _ (new : Standing) (between left : List Watch) (seen : AreSeen s p 0 watches between) where
      abbrev now : PlainProcess
      now = process_of (server_words s) new.process

      abbrev place : ℕ
      place = old.gone + count

      counted : count ≤ length behind
      counted = prefix_len-le-length (λ span. span.generation == g) behind

      within_log : place ≤ length log.spans
      within_log = omega (arith, counted, length-drop old.gone log.spans, reached.within)

      taken_are : take place log.spans ≡ before ++ here
      taken_are = take-add old.gone count log.spans

      left_are : drop place log.spans ≡ after
      left_are = drop_more old.gone count log.spans

      all_here : place ≡ length log.spans → log.spans ≡ before ++ here
      all_here e = sym (take_all place log.spans (omega (arith, e))) ∙ taken_are

      still : (xs : List Watch) → AreSeen s p (turns_in here) between xs → AreSeen s p (turns_in here) watches xs
      still xs h = let e : 0 + turns_in here ≡ turns_in here = omega arith in subst (λ n. AreSeen s p n watches xs) e (seen_on s p p 0 (no_turn s p) (omega arith) watches between seen (turns_in here) xs h)

      to_end : (xs : List Watch) → AreSeenToEnd s p (turns_in here) between xs → AreSeenToEnd s p (turns_in here) watches xs
      to_end xs h = let e : 0 + turns_in here ≡ turns_in here = omega arith in subst (λ n. AreSeenToEnd s p n watches xs) e (seen_to_end s p p 0 (no_turn s p) (omega arith) watches between seen (turns_in here) xs h)

      seen_by : (fin : Option End) → AreJudgedSo s here fin p now between left true → SeenBy s p (turns_in here) watches left fin
      seen_by None judged = still left judged.seen
      seen_by (Some fin) judged = to_end left judged.seen

      stands_so : (fin : Option End) → EndIs log place fin → AreJudgedSo s here fin p now between left true → (states : ℕ → ServerState) (number : ℕ) → states g ≡ s → SpansGo states (first_of number log) before p → StandsSo states number log place now (is_some fin)
      stands_so None is judged states number state go = subst (λ spans. SpansGo states (first_of number log) spans now) (sym taken_are) (judged.goes states (first_of number log) before state low go)
      stands_so (Some fin) is judged states number state go =
          let first = first_of number log in
          let e = all_here is.0 in
          record {
            all_gone = is.0;
            follow = subst (SpansFollow states first log.spans) (sym is.1) (subst (λ spans. SpansFollow states first spans fin) (sym e) (judged.over states first before state low go));
            process =
                sym (ap (process_after states first) e ∙ process_join states first before here ∙ ap (λ q. process_after states q here) (process_now states first before p go)
                ∙ process_under s states g p here state under ∙ judged.reached);
          }

      over_so : (fin : Option End) → EndIs log place fin → is_some fin ≡ true → place ≡ length log.spans
      over_so None is h = true_false (sym h)
      over_so (Some fin) is h = is.0

      -- it stands behind the spans of the generation, and each watch was seen
      pub moved_taken : IsMoved s log count old new between left true → left ≡ [] → IsTaken s log watches old new
      moved_taken moved empty =
          let is = end_is log place (end_at log place) refl in
          record {
            stands = λ states number state at.
                subst (λ n. StandsSo states number log n now new.ended) (sym moved.gone)
                (subst (StandsSo states number log place now) (sym moved.ended) (stands_so (end_at log place) is moved.judged states number state (stood states number at)));
            told = λ states number state at. all_told states number state (stood states number at) (all_within s p (turns_in here) (end_at log place) watches left empty (seen_by (end_at log place) moved.judged));
            reached = record {
              within = omega (arith, within_log, moved.gone);
              before = subst (λ n. AllByRecursion (λ x. x.generation < g + 1) (take n log.spans)) (sym moved.gone)
                  (subst (AllByRecursion (λ x. x.generation < g + 1)) (sym taken_are)
                  (all_join (λ x. x.generation < g + 1) before here before_next (all_weaker (λ x. x.generation ≡ g) (λ x. x.generation < g + 1) (λ x h. omega (arith, h)) here under)));
              behind = subst (λ n. AllByRecursion (λ x. g + 1 ≤ x.generation) (drop n log.spans)) (sym moved.gone) (subst (AllByRecursion (λ x. g + 1 ≤ x.generation)) (sym left_are) next);
              over = λ h. moved.gone ∙ over_so (end_at log place) is (sym moved.ended ∙ h);
            };
            ready = moved.ready refl;
            named = moved.named;
          }

      -- or not each was
      pub moved_refused : IsMoved s log count old new between left true → (left ≡ [] → ⊥) → IsRefused s log watches old
      moved_refused moved some =
          refused_by (λ states number state go follow within. not_within s p (turns_in here) (end_at log place) watches left some (seen_by (end_at log place) moved.judged) within)

      sees_between : AllByRecursion Here watches → AllByRecursion (Sees s p) between
      sees_between h = all_behind (Sees s p) seen.front between (subst (AllByRecursion (Sees s p)) seen.parts (within_sees s p (turns_in here) watches h))

      some_after : (rest : List Span) → log.spans ≡ before ++ (here ++ rest) → (place ≡ length log.spans → ⊥) → rest ≡ [] → ⊥
      some_after rest e other none =
          let all = e ∙ ap (λ xs. before ++ (here ++ xs)) none ∙ ap (λ xs. before ++ xs) (append-nil here) ∙ sym taken_are in
          let n = ap length all in
          other (omega (arith, n, length-take-le place log.spans within_log))

      not_taken : (rest : List Span) → log.spans ≡ before ++ (here ++ rest) → (rest ≡ [] → ⊥) → AreNotTaken s here p between → (states : ℕ → ServerState) (number : ℕ) → states g ≡ s → SpansGo states (first_of number log) before p
          → SpansFollow states (first_of number log) log.spans log.fin → AllByRecursion Here watches → ⊥
      not_taken [] e some judged states number state go follow within = some refl
      not_taken (x ∷ rest) e some judged states number state go follow within =
          judged.no states (first_of number log) before x rest log.fin state low go (subst (λ spans. SpansFollow states (first_of number log) spans log.fin) e follow) (sees_between within)

      not_judged : (fin : Option End) → EndIs log place fin → AreJudgedSo s here fin p now between left false → (states : ℕ → ServerState) (number : ℕ) → states g ≡ s → SpansGo states (first_of number log) before p
          → SpansFollow states (first_of number log) log.spans log.fin → AllByRecursion Here watches → ⊥
      not_judged None is judged states number state go follow within = not_taken after parts (some_after after parts is) judged states number state go follow within
      not_judged (Some fin) is judged states number state go follow within =
          let first = first_of number log in
          judged.no states first before state low go (subst (λ spans. SpansFollow states first spans fin) (all_here is.0) (subst (SpansFollow states first log.spans) is.1 follow)) (sees_between within)

      -- the spans of the generation were refused
      pub spans_refused : IsMoved s log count old new between left false → IsRefused s log watches old
      spans_refused moved = refused_by (not_judged (end_at log place) (end_is log place (end_at log place) refl) moved.judged)

  -- ---- the process has ended before the generation

  module _ (ended : old.ended ≡ true) where
    all_gone : old.gone ≡ length log.spans
    all_gone = reached.over ended

    over : (states : ℕ → ServerState) (number : ℕ) → StandsAt states (server_words s) number log old → IsOver states number log old.gone p
    over states number at = subst (StandsSo states number log old.gone p) ended at

    all_before : AllByRecursion (λ x. x.generation < g) log.spans
    all_before = subst (AllByRecursion (λ x. x.generation < g)) (take_all old.gone log.spans (omega (arith, all_gone))) reached.before

    never_told : (states : ℕ → ServerState) (number : ℕ) → states g ≡ s → SpansFollow states (first_of number log) log.spans log.fin → (watch : Watch) → Lingers watch.serial g watch.turn (marks_of states (first_of number log) log.spans) → ⊥
    never_told states number state follow watch told =
        let first = first_of number log in
        let e : log.spans ≡ log.spans ++ ([] ++ []) = sym (append-nil log.spans) in
        let seen = lingers_sees s states g state first refl log.spans [] [] all_before tt tt watch (subst (λ spans. Lingers watch.serial g watch.turn (marks_of states first spans)) e told) in
        let n : watch.turn - length (marks_of states first log.spans) ≡ 0 = omega (arith, seen.to, seen.from) in
        let q = process_after states first log.spans in
        stands_nowhere q watch.serial (process_over states first log.spans log.fin follow) (sym (ap (λ (x : PlainProcess). stands_in x watch.serial) (ap (λ k. after_turns s k q) n ∙ no_turn s q)) ∙ seen.stands)

    some_told : (ws : List Watch) → (ws ≡ [] → ⊥) → (states : ℕ → ServerState) (number : ℕ) → states g ≡ s → SpansFollow states (first_of number log) log.spans log.fin → AreTold states number log g ws → ⊥
    some_told [] some states number state follow told = some refl
    some_told (w ∷ ws) some states number state follow told = never_told states number state follow w told.0

    -- nothing was told of it
    pub ended_taken : watches ≡ [] → HasItsNames old → IsTaken s log watches old old
    ended_taken empty named = record {
      stands = λ states number state at. at;
      told = λ states number state at. subst (AreTold states number log g) (sym empty) tt;
      reached = record {
        within = reached.within;
        before = before_next;
        behind = subst (λ n. AllByRecursion (λ x. g + 1 ≤ x.generation) (drop n log.spans)) (sym all_gone) (subst (AllByRecursion (λ x. g + 1 ≤ x.generation)) (sym (drop-length log.spans)) tt);
        over = reached.over;
      };
      ready = λ going. true_false (sym ended ∙ going);
      named = named;
    }

    -- or something was
    pub ended_refused : (watches ≡ [] → ⊥) → IsRefused s log watches old
    ended_refused some = record { no = λ states number state at follow told. some_told watches some states number state follow told }
