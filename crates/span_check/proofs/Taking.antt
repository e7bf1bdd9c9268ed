-- Spans of one generation in a row: they grow by one behind them, and the first that is refused refuses all.
use Rattle.std.proofs.Common.{◌≡◌, ◌<◌, ◌+◌, ◌∙◌, ℕ, sym, ap, subst, arith, refl, Bool, true, false, List, [], ◌∷◌, ◌++◌, append_assoc, Some, Result, Ok, Err, IfOk}
use Rattle.std.proofs.lemmas.List.{append-nil}
use Rattle.std.specs.List.{AllByRecursion}
use Rattle.term_core.specs.declared.no_memory.NoMemory.{NoMemory}
use Rattle.server_core.specs.ServerState.{ServerState}
use Rattle.machine_core.specs.declared.process.End.{End}
use Rattle.machine_core.specs.declared.process.TurnEnd.TheVariants.{Again, Ended}
use Rattle.machine_core.specs.Process.{PlainProcess}
use Rattle.machine_core.specs.Turn.{Turn}
use Rattle.run_log.specs.declared.logs.Span.{Span}
use Rattle.run_log.specs.Legal.{SpansFollow, SpansGo, after_turns, turns_of}
use Rattle.span_check.specs.declared.watch.Watch.{Watch}
use Rattle.span_check.specs.Watches.{AreLater, AreSeen, AreSeenToEnd}
use Rattle.span_check.specs.Steps.{IsSpanJudged, IsSpanRefused, IsSpanTaken}
use Rattle.span_check.specs.Sweeps.{AreNotTaken, AreTaken, EndsNotSo, EndsSo, IsEndJudged, turns_in}
use Rattle.span_check.proofs.Repeats.{no_turn}
use Rattle.span_check.proofs.TurnRows.{after_add}
use Rattle.span_check.proofs.Watching.{none_seen, seen_on, seen_to_end, unseen_on}
use Rattle.span_check.proofs.Following.{ends_at, ends_behind, goes_at, goes_behind}
use Rattle.run_log.proofs.ListPlaces.{all_weaker}

turns_push : (xs : List Span) (span : Span) → turns_in (xs ++ span ∷ []) ≡ turns_in xs + span.turns
turns_push [] span = omega arith
turns_push (x ∷ xs) span = omega (arith, turns_push xs span)

-- no span was taken
pub none_taken : (s : ServerState) (p : PlainProcess) (watches : List Watch) → AreLater p.turns watches → AreTaken s [] p p watches watches
none_taken s p watches later = record {
  goes = λ states first before here low go. subst (λ spans. SpansGo states first spans p) (sym (append-nil before)) go;
  reached = no_turn s p;
  counted = omega arith;
  seen = none_seen s p watches later;
}

module _ (s : ServerState) (xs : List Span) (p now : PlainProcess) (watches between : List Watch) (under : AllByRecursion (λ x. x.generation ≡ s.generation) xs) (taken : AreTaken s xs p now watches between) where
  -- the watches that are left look later than where the process stands
  pub left_later : AreLater now.turns between
  left_later = all_weaker (λ w. p.turns + turns_in xs < w.turn) (λ w. now.turns < w.turn) (λ w k. omega (arith, k, taken.counted)) between taken.seen.later

  module _ (span : Span) (same : span.generation ≡ s.generation) where
    row_under : (states : ℕ → ServerState) (t : Turn) → states s.generation ≡ s → turns_of (states span.generation) span.turns now [] ≡ Some t → turns_of s span.turns now [] ≡ Some t
    row_under states t here row = ap (λ x. turns_of x span.turns now []) (sym (ap states same ∙ here)) ∙ row

    reached_more : (next : PlainProcess) → after_turns s span.turns now ≡ next → after_turns s (turns_in (xs ++ span ∷ [])) p ≡ next
    reached_more next h = ap (λ n. after_turns s n p) (turns_push xs span) ∙ after_add s (turns_in xs) span.turns p ∙ ap (after_turns s span.turns) taken.reached ∙ h

    -- one span more
    pub one_taken : (next : PlainProcess) (left : List Watch) → IsSpanTaken s now next span Again between left → AreTaken s (xs ++ span ∷ []) p next watches left
    one_taken next left more =
        let counted = more.counted refl in
        record {
          goes = λ states first before here low go. goes_behind s states here first now next before xs span same low under (taken.goes states first before here low go) more.turns;
          reached = reached_more next more.reached;
          counted = omega (arith, counted, taken.counted, turns_push xs span);
          seen = subst (λ n. AreSeen s p n watches left) (sym (turns_push xs span)) (seen_on s p now (turns_in xs) taken.reached taken.counted watches between taken.seen span.turns left more.seen);
        }

    -- it is refused, and more spans stand behind it
    pub one_refused : (rest : List Span) → IsSpanRefused s now span Again between → AreNotTaken s (xs ++ span ∷ rest) p watches
    one_refused rest refused = record {
      no = λ states first before next after fin here low go follow all.
          let e : before ++ ((xs ++ span ∷ rest) ++ next ∷ after) ≡ (before ++ xs) ++ span ∷ (rest ++ next ∷ after) =
          ap (λ ys. before ++ ys) (append_assoc xs (span ∷ rest) (next ∷ after)) ∙ sym (append_assoc before xs (span ∷ (rest ++ next ∷ after))) in
          let h = goes_at states span rest next after fin first now (before ++ xs) (taken.goes states first before here low go) (subst (λ spans. SpansFollow states first spans fin) e follow) in
          unseen_on s p now (turns_in xs) taken.reached taken.counted watches between taken.seen
          (λ k. refused.no h.0 (row_under states h.0 here h.1.0) h.1.1.0 h.1.1.1 k) all;
    }

    -- it ends the process
    pub last_taken : (fin : End) (next : PlainProcess) (left : List Watch) → IsSpanTaken s now next span (Ended fin) between left → EndsSo s (xs ++ span ∷ []) fin p next watches left
    last_taken fin next left more = record {
      over = λ states first before here low go. ends_behind s states here first now next before xs span same low under fin (taken.goes states first before here low go) more.turns;
      reached = reached_more next more.reached;
      seen = subst (λ n. AreSeenToEnd s p n watches left) (sym (turns_push xs span)) (seen_to_end s p now (turns_in xs) taken.reached taken.counted watches between taken.seen span.turns left more.seen);
    }

    -- it is refused as the last one
    pub last_refused : (fin : End) → IsSpanRefused s now span (Ended fin) between → EndsNotSo s (xs ++ span ∷ []) fin p watches
    last_refused fin refused = record {
      no = λ states first before here low go follow all.
          let h = ends_at states span fin first now (before ++ xs) (taken.goes states first before here low go) (subst (λ spans. SpansFollow states first spans fin) (sym (append_assoc before xs (span ∷ []))) follow) in
          unseen_on s p now (turns_in xs) taken.reached taken.counted watches between taken.seen
          (λ k. refused.no h.0 (row_under states h.0 here h.1.0) h.1.1.0 h.1.1.1 k) all;
    }

-- spans before the last are refused
pub front_refused : (s : ServerState) (xs : List Span) (span : Span) (fin : End) (p : PlainProcess) (watches : List Watch) → AreNotTaken s xs p watches → EndsNotSo s (xs ++ span ∷ []) fin p watches
front_refused s xs span fin p watches refused = record { no = λ states first before here low go follow all. refused.no states first before span [] fin here low go follow all }

-- ends judged at the last span
module _ (s : ServerState) (xs : List Span) (p now next : PlainProcess) (watches between left : List Watch) (under : AllByRecursion (λ x. x.generation ≡ s.generation) xs) (taken : AreTaken s xs p now watches between)
    (span : Span) (same : span.generation ≡ s.generation) (fin : End) where
  end_at_last : (yes : Bool) → IsSpanJudged s now next span (Ended fin) between left yes → IsEndJudged s (xs ++ span ∷ []) fin p next watches left yes
  end_at_last true judged = last_taken s xs p now watches between under taken span same fin next left judged
  end_at_last false judged = last_refused s xs p now watches between under taken span same fin judged

  pub end_judged : (r : Result Bool NoMemory) → IfOk r (IsSpanJudged s now next span (Ended fin) between left) → IfOk r (IsEndJudged s (xs ++ span ∷ []) fin p next watches left)
  end_judged (Ok done) judged = end_at_last done judged
  end_judged (Err refused) judged = judged
