-- A generation, judged.
use Rattle.std.proofs.Common.{◌≡◌, ℕ, ◌+◌, ◌-◌, Bool, true, false, List, [], ◌∷◌, length, drop, take, slice_get, Some, refl, sym, ap, subst, ◌∙◌, arith}
use Rattle.std.proofs.lemmas.List.{length-drop, take_all, with_items_is}
use Rattle.std.proofs.lemmas.List.Elements.{recursion_from_All}
use Rattle.std.specs.Vec.{with_items}
use Rattle.server_core.specs.ServerState.{ServerState, empty_state}
use Rattle.script_core.specs.declared.script.Script.{Script}
use Rattle.run_log.specs.declared.logs.Entry.{Entry}
use Rattle.run_log.specs.declared.logs.ProcessLog.{ProcessLog}
use Rattle.run_log.specs.declared.logs.Snapshot.{Snapshot}
use Rattle.run_log.specs.declared.logs.Span.{Span}
use Rattle.legality.specs.RisingSpans.{AreRisingSpans}
use Rattle.run_log.specs.declared.logs.RunLog.{RunLog}
use Rattle.run_log.specs.Legal.{SnapshotsTrue}
use Rattle.run_log.specs.InstanceTexts.{AreOfTexts}
use Rattle.run_log.proofs.KeptTexts.{empty_of_texts, newest_of_texts}
use Rattle.span_check.specs.declared.standing.Standing.{Standing}
use Rattle.span_check.specs.Standings.{NeverFall}
use Rattle.legality.specs.declared.sweep.Sweep.{Sweep}
use Rattle.legality.specs.Observers.{AllSee, AreShotsJudged, OneErrs}
use Rattle.legality.specs.Breaches.{IsBroken}
use Rattle.legality.specs.Shape.{IsShaped}
use Rattle.legality.specs.Sweeps.{AllTaken, AreSeen, AreSpansJudged, AreStanding, IsAt, IsMade, IsSwept, LingersAhead, MayBeTaken, SomeRefused, clause_of_spans, watched_ahead}
use Rattle.legality.proofs.Clauses.{legal_with}
use Rattle.legality.proofs.Ends.{all_at}
use Rattle.legality.proofs.Shots.{all_seen, none_errs}
use Rattle.legality.proofs.Turns.{lingers_next, not_refused, not_refused_unwatched, standings_next}

-- spans that rise never fall
pub never_fall : (spans : List Span) → AreRisingSpans spans → NeverFall spans
never_fall [] h = tt
never_fall (span ∷ []) h = (tt, tt)
never_fall (span ∷ next ∷ spans) h = (h.0, never_fall (next ∷ spans) h.1)

-- where spans are refused, a clause does not hold: that turns follow, or what is told of lingering processes, beside the others
refused_so : (s : Script) (log : RunLog) (place : ℕ) (before : Sweep) (watched : Bool) → IsMade s log watched place before
    → SomeRefused before.server (watched_ahead watched place log.journal) log.processes before.standings.items → IsBroken watched s log (clause_of_spans watched)
refused_so s log place before true made h others told = not_refused s log true place before made (legal_with s log (others refl refl) told) h
refused_so s log place before false made h others follow = not_refused_unwatched s log false place before made follow h

module _ (s : Script) (log : RunLog) (watched : Bool) (place : ℕ) (before : Sweep) (made : IsMade s log watched place before) where
  -- the server's instances are of the script's texts
  pub of_texts : AreOfTexts s.modules before.server
  of_texts = subst (AreOfTexts s.modules) (sym made.here.server_is) (newest_of_texts s.modules empty_state (take place log.journal) (empty_of_texts s.modules))

  -- the spans of each process may be taken
  pub may_be_taken : IsShaped s log → (number : ℕ) (process : ProcessLog) (standing : Standing) → slice_get log.processes number ≡ Some process → slice_get before.standings.items number ≡ Some standing → MayBeTaken before.server process standing
  may_be_taken shaped number process standing at is =
      let h = made.standings.each number process standing at is in
      record {
        falls = never_fall process.spans (all_at (λ (x : ProcessLog). AreRisingSpans x.spans) log.processes number process (recursion_from_All (λ (x : ProcessLog). AreRisingSpans x.spans) log.processes shaped.rise) at);
        reached = h.reached;
        ready = h.ready;
        named = h.named;
      }

  -- all up to the generation is judged
  pub generation_judged : IsShaped s log → (after : Sweep) → after.server ≡ before.server → after.half ≡ before.half → AllSee s.names before.server log.observers before.seen.items after.seen.items
      → AllTaken before.server (watched_ahead watched place log.journal) log.processes before.standings.items after.standings.items → IsSwept s log watched place after
  generation_judged shaped after server half shots spans = record {
    here = subst (λ x. IsAt s log place x after.half) (sym server) (subst (IsAt s log place before.server) (sym half) made.here);
    linger = made.linger;
    standings = subst (λ (x : ServerState). AreStanding s log x (x.generation + 1) after.standings.items) (sym server) (standings_next s log watched place before made (watched_ahead watched place log.journal) after.standings.items spans);
    ahead = λ is. subst (λ (x : ServerState). LingersAhead s log x place) (sym server)
        (lingers_next s log watched place before made (watched_ahead watched place log.journal) after.standings.items spans (ap (λ w. watched_ahead w place log.journal) is));
    seen = subst (λ (x : ServerState). AreSeen s log (x.generation + 1) after.seen.items) (sym server)
        (all_seen s log before.server made.first before.seen.items after.seen.items made.seen shots shaped.fit.rising);
  }

  module _ (shaped : IsShaped s log) (observers : List (List Snapshot)) (observers_is : observers ≡ log.observers) (seen_before seen_after : List ℕ) (seen_was : seen_before ≡ before.seen.items) (seen_many : length seen_after ≡ length seen_before) where
    -- a snapshot that is not true
    pub shots_refused : (judged : Bool) → judged ≡ false → AreShotsJudged s.names before.server observers seen_before seen_after judged → SnapshotsTrue s log → ⊥
    shots_refused judged is_no h holds =
        none_errs s log before.server made.first holds (subst (OneErrs s.names before.server) observers_is (subst (AreShotsJudged s.names before.server observers seen_before seen_after) is_no h))

    module _ (ahead : List Entry) (ahead_is : ahead ≡ watched_ahead watched place log.journal) (processes : List ProcessLog) (processes_is : processes ≡ log.processes) (stood stands : List Standing) (stood_was : stood ≡ before.standings.items)
        (stands_many : length stands ≡ length stood) where
      read_judged : (judged : Bool) → AreSpansJudged before.server ahead processes stood stands judged → AreSpansJudged before.server (watched_ahead watched place log.journal) log.processes before.standings.items stands judged
      read_judged judged h =
          subst (λ j. AreSpansJudged before.server j log.processes before.standings.items stands judged) ahead_is
          (subst (λ ps. AreSpansJudged before.server ahead ps before.standings.items stands judged) processes_is (subst (λ xs. AreSpansJudged before.server ahead processes xs stands judged) stood_was h))

      -- spans that are refused
      pub spans_refused : (judged : Bool) → judged ≡ false → AreSpansJudged before.server ahead processes stood stands judged → IsBroken watched s log (clause_of_spans watched)
      spans_refused judged is_no h =
          refused_so s log place before watched made (subst (AreSpansJudged before.server (watched_ahead watched place log.journal) log.processes before.standings.items stands) is_no (read_judged judged h))

      seen_items : (with_items before.seen seen_after).items ≡ seen_after
      seen_items = with_items_is before.seen seen_after (omega (arith, seen_many, ap length seen_was, before.seen.ok.0))

      standings_items : (with_items before.standings stands).items ≡ stands
      standings_items = with_items_is before.standings stands (omega (arith, stands_many, ap length stood_was, before.standings.ok.0))

      -- all is judged
      pub all_judged : (shots_judged spans_judged : Bool) → shots_judged ≡ true → spans_judged ≡ true → AreShotsJudged s.names before.server observers seen_before seen_after shots_judged
          → AreSpansJudged before.server ahead processes stood stands spans_judged → IsSwept s log watched place (record before { seen = with_items before.seen seen_after; standings = with_items before.standings stands })
      all_judged shots_judged spans_judged shots_yes spans_yes shots spans =
          generation_judged shaped (record before { seen = with_items before.seen seen_after; standings = with_items before.standings stands }) refl refl
          (subst (AllSee s.names before.server log.observers before.seen.items) (sym seen_items)
          (subst (λ xs. AllSee s.names before.server log.observers xs seen_after) seen_was
          (subst (λ xs. AllSee s.names before.server xs seen_before seen_after) observers_is (subst (AreShotsJudged s.names before.server observers seen_before seen_after) shots_yes shots))))
          (subst (AllTaken before.server (watched_ahead watched place log.journal) log.processes before.standings.items) (sym standings_items)
          (subst (AreSpansJudged before.server (watched_ahead watched place log.journal) log.processes before.standings.items stands) spans_yes (read_judged spans_judged spans)))

-- the entries from a place on, as the code takes them
pub rest_read : (journal read : List Entry) (place : ℕ) → read ≡ journal → take (length read - place) (drop place read) ≡ drop place journal
rest_read journal read place is = take_all (length read - place) (drop place read) (let n = length-drop place read in omega (arith, n)) ∙ ap (drop place) is
