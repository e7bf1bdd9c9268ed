-- What a scheduler knows of its processes over the turns of a lap, place by place.
use Rattle.std.proofs.Common.{◌≡◌, ℕ, zero, suc, ◌+◌, ◌<◌, ◌≤◌, true, false, List, [], ◌∷◌, length, length-set, Option, Some, None, Result, Ok, IsSome, refl, sym, ap, subst, ◌∙◌, arith}
use Rattle.std.specs.Prelude.{IfOk, is_some, slice_get, slice_set, unwrap_or}
use Rattle.std.proofs.lemmas.Option.{none-some}
use mathlib.Core.Logic.{dite}
use native.Mathlib.Decide.{ℕ_discrete}
use Rattle.atomic_table.specs.Seated.{TableId}
use Rattle.term_core.specs.declared.atom.Mfa.{Mfa}
use Rattle.term_core.specs.declared.no_memory.NoMemory.{NoMemory}
use Rattle.term_core.proofs.Truths.{none_by}
use Rattle.area_core.specs.declared.table.Published.{Published}
use Rattle.marks.specs.declared.mark.Mark.{Mark}
use Rattle.marks.specs.declared.mark.ProcessView.{ProcessView}
use Rattle.shared_words.specs.declared.opening.Opening.{Opening}
use Rattle.shared_words.specs.declared.seats.Member as tokens
use Rattle.shared_words.specs.declared.view.MemberView.{MemberView}
use Rattle.shared_words.specs.Processes.{held_by_view, process_of as known_of}
use Rattle.shared_words.specs.Views.{published_at}
use Rattle.shared_words.proofs.ShownMembers.{set_same}
use Rattle.anchors.specs.Holds.{anchors_of, view_of}
use Rattle.machine_core.specs.declared.process.End.{End}
use Rattle.machine_core.specs.GenerationReads.{reads_in, words_in}
use Rattle.machine_core.specs.Process.{names_of, process_of}
use Rattle.machine_core.specs.Reads.{Reads}
use Rattle.run_log.proofs.ListPlaces.{set_here, set_there}
use Rattle.run_steps.specs.MadeTurns.{turned_by}
use Rattle.run_steps.specs.Stands.{Stand, phase_of}
use Rattle.word_view.specs.Anchored.{holds_by}
use Rattle.word_lap.specs.declared.process_run.ProcessRun.{ProcessRun}
use Rattle.word_lap.specs.LapTurns.{HadTurnAt, HadTurns, HoldsAsBefore, IsOverAt, IsReadyAt, SomeKept, WentOnAt, rested, stayed, turned, went_on}
use Rattle.word_lap.specs.Reading.{stand_under}
use Rattle.word_lap.specs.Schedulers.{IsBetweenTurns, IsToken, KeepsProcesses, MayGoOn, Rests, rests_ended, rests_going}
use Rattle.word_lap.specs.Turning.{HadItsTurn, IsReady}
use Rattle.word_lap.proofs.Lapped.{turn_keeps, turn_rests}

-- ---- lists

set_twice : {X : Type 0} (xs : List X) (k : ℕ) (x y : X) → slice_set (slice_set xs k x) k y ≡ slice_set xs k y
set_twice [] k x y = refl
set_twice (z ∷ xs) zero x y = refl
set_twice (z ∷ xs) (suc k) x y = ap (λ zs. z ∷ zs) (set_twice xs k x y)

-- ---- one place

-- where nobody stands, or one that has ended, all stays as it is
pub nobody_here : (functions : List Mfa) (opening : Opening) (m : MemberView) (place : Option ProcessRun) → place ≡ None → HadTurnAt functions opening m m place None
nobody_here functions opening m place is = rested (subst IsOverAt (sym is) tt) refl (sym is)

pub over_here : (functions : List Mfa) (opening : Opening) (m : MemberView) (place : Option ProcessRun) (run : ProcessRun) → place ≡ Some run → is_some run.fin ≡ true → HadTurnAt functions opening m m place (Some run)
over_here functions opening m place run is over = rested (subst IsOverAt (sym is) over) refl (sym is)

-- the same where there was memory for the turn
pub turns_where_ok : (functions : List Mfa) (opening : Opening) (old new : MemberView) (place : Option ProcessRun) (run left : ProcessRun) (r : Result (Unit {0}) NoMemory) (u : Unit {0}) → place ≡ Some run → is_some run.fin ≡ false → r ≡ Ok u
    → IfOk r (λ _. HadItsTurn functions opening old new run left) → HadTurnAt functions opening old new place (Some left)
turns_where_ok functions opening old new place run left r u is going ok had =
    turned run left is (none_by run.fin going) refl (subst (λ (x : Result (Unit {0}) NoMemory). IfOk x (λ _. HadItsTurn functions opening old new run left)) ok had)

no_end : (fin : Option End) → fin ≡ None → IsSome fin → ⊥
no_end None is some = absurd (cc)
no_end (Some end) is some = none-some end (sym is)

ready_by : (functions : List Mfa) (opening : Opening) (m : MemberView) (p : ℕ) (run : ProcessRun) → run.process.number ≡ p → run.fin ≡ None → Rests functions opening m p run → IsReady functions opening m run
ready_by functions opening m p run is going (rests_going fin h) =
    let own : MayGoOn functions opening m run.process.number run = subst (λ (n : ℕ). MayGoOn functions opening m n run) (sym is) h in
    record { going = going; begins = own.knows.begins; turn = own.turn; counted = own.counted; spans = own.spans }
ready_by functions opening m p run is going (rests_ended h) = absurd (no_end run.fin going h.over)

pub ready_at : (functions : List Mfa) (opening : Opening) (m : MemberView) (processes : List (Option ProcessRun)) (p : ℕ) (place : Option ProcessRun) → SomeKept functions opening m processes → slice_get processes p ≡ Some place
    → IsReadyAt functions opening m place
ready_at functions opening m processes p None h at = tt
ready_at functions opening m processes p (Some run) h at = λ going. let is = (h.kept.each p (Some run) at).1.1.1 in ready_by functions opening m p run is.number going is.rests

-- it holds the same state of the code
held_before : (old new : MemberView) → HoldsAsBefore old new → held_by_view new ≡ held_by_view old
held_before old new h = λ i. published_at (h.seen i) (h.generation i)

holds_on : (old mid new : MemberView) → HoldsAsBefore old mid → HoldsAsBefore mid new → HoldsAsBefore old new
holds_on old mid new h then = record { seen = then.seen ∙ h.seen; notes = then.notes ∙ h.notes; number = then.number ∙ h.number; generation = then.generation ∙ h.generation }

-- a process that went on did so still where its marks stay
pub went_still : (functions : List Mfa) (m mid new : MemberView) (p : ℕ) (before after : Option ProcessRun) → (known_of new p).marks ≡ (known_of mid p).marks → WentOnAt functions m mid p before after → WentOnAt functions m new p before after
went_still functions m mid new p before after same (stayed over is marks) = stayed over is (same ∙ marks)
went_still functions m mid new p before after same (went_on run left b going a stands mark) = went_on run left b going a stands (record { anchors = mark.anchors; joined = same ∙ mark.joined; names_it = mark.names_it })

module _ (functions : List Mfa) (opening : Opening) (old new : MemberView) (before after : Option ProcessRun) where
  pub place_turns : (processes : List (Option ProcessRun)) (p : ℕ) → old.member.generation < length old.seen → slice_get processes p ≡ Some before → HadTurnAt functions opening old new before after → HadTurns functions opening old new processes (slice_set processes p after)
  place_turns processes p learnt at (rested over same is) = λ taken h.
      subst (λ (m : MemberView). KeepsProcesses functions opening m taken (slice_set processes p after)) (sym same)
      (subst (KeepsProcesses functions opening old taken) (sym (ap (λ x. slice_set processes p x) is ∙ set_same processes p before at)) h)
  place_turns processes p learnt at (turned run left b going a had) = λ taken h.
      subst (λ (x : Option ProcessRun). KeepsProcesses functions opening new taken (slice_set processes p x)) (sym a)
      (turn_keeps functions opening old new run left learnt had p taken processes going (at ∙ ap (λ (x : Option ProcessRun). Some x) b) h)

  pub between_at : old.member.generation < length old.seen → HadTurnAt functions opening old new before after → IsBetweenTurns old → IsBetweenTurns new
  between_at learnt (rested over same is) h = subst IsBetweenTurns (sym same) h
  between_at learnt (turned run left b going a had) h = turn_rests functions opening old new run left learnt had h

  pub holds_at : HadTurnAt functions opening old new before after → HoldsAsBefore old new
  holds_at (rested over same is) = record { seen = ap (λ (m : MemberView). m.seen) same; notes = ap (λ (m : MemberView). m.notes) same; number = ap (λ (m : MemberView). m.member.number) same; generation = ap (λ (m : MemberView). m.member.generation) same }
  holds_at (turned run left b going a had) = record {
    seen = ap (λ (m : MemberView). m.seen) had.view.same;
    notes = ap (λ (m : MemberView). m.notes) had.view.same;
    number = ap (λ (m : MemberView). m.member.number) had.view.same;
    generation = ap (λ (m : MemberView). m.member.generation) had.view.same;
  }

  module _ (p : ℕ) (own : (run : ProcessRun) → before ≡ Some run → run.process.number ≡ p) where
    -- the marks of other processes stay
    pub others_at : (q : ℕ) → (q ≡ p → ⊥) → HadTurnAt functions opening old new before after → (known_of new q).marks ≡ (known_of old q).marks
    others_at q apart (rested over same is) = ap (λ (m : MemberView). (known_of m q).marks) same
    others_at q apart (turned run left b going a had) = ap (λ (x : ProcessView). x.marks) (had.view.others q (λ same. apart (same ∙ own run b)))

    -- what the member holds was the same at the start of the lap, and the process had no turn since
    pub went_there : (m : MemberView) → HoldsAsBefore m old → (known_of old p).marks ≡ (known_of m p).marks → HadTurnAt functions opening old new before after → WentOnAt functions m new p before after
    went_there m holds marks (rested over same is) = stayed over is (ap (λ (n : MemberView). (known_of n p).marks) same ∙ marks)
    went_there m holds marks (turned run left b going a had) =
        let stands : (g : Published) → ProcessRun → Stand = λ g x. record { process = process_of (words_in g.state) x.process; spans = x.spans; phase = phase_of x.fin } in
        let reads : Published → Reads = λ g. reads_in functions g.state in
        let held : held_by_view old ≡ held_by_view m = held_before m old holds in
        let at : run.process.number ≡ p = own run b in
        let left_is : stands (held_by_view new) left ≡ stands (held_by_view m) left = ap (λ (g : Published). stands g left) (ap held_by_view had.view.same ∙ held) in
        let joined : (known_of new p).marks ≡ record { generation = old.member.generation; anchors = anchors_of new p } ∷ (known_of old p).marks =
        subst (λ (n : ℕ). (known_of new n).marks ≡ record { generation = old.member.generation; anchors = anchors_of new n } ∷ (known_of old n).marks) at had.marks in
        let names : holds_by (anchors_of new p) ≡ names_of (stand_under new left).process = subst (λ (n : ℕ). holds_by (anchors_of new n) ≡ names_of (stand_under new left).process) at had.names_it in
        went_on run left b going a
        (sym left_is ∙ had.turn ∙ (λ i. turned_by (reads (held i)) (holds.generation i) (stands (held i) run)))
        (record {
          anchors = anchors_of new p;
          joined = joined ∙ ap (λ (g : ℕ). record { generation = g; anchors = anchors_of new p } ∷ (known_of old p).marks) holds.generation
              ∙ ap (λ (ms : List Mark). record { generation = m.member.generation; anchors = anchors_of new p } ∷ ms) marks;
          names_it = names ∙ ap (λ (x : Stand). names_of x.process) left_is;
        })

-- ---- so many places

pub record LapSteps (functions : List Mfa) (opening : Opening) (table : TableId) (old : tokens.Member) (before : List (Option ProcessRun)) (at : ℕ) (new : tokens.Member) (after : List (Option ProcessRun)) : Type 0 where
  pub token : IsToken table new
  pub number : new.number ≡ old.number
  pub between : IsBetweenTurns (view_of new)
  pub same : HoldsAsBefore (view_of old) (view_of new)
  pub as_many : length after ≡ length before
  pub had : HadTurns functions opening (view_of old) (view_of new) before after
  -- those before the place went on, the others are as they were, and have no mark more
  pub went : (p : ℕ) (place : Option ProcessRun) → p < at → slice_get before p ≡ Some place → (left : Option ProcessRun) × ((slice_get after p ≡ Some left) × WentOnAt functions (view_of old) (view_of new) p place left)
  pub later : (p : ℕ) → at ≤ p → slice_get after p ≡ slice_get before p
  pub unmarked : (p : ℕ) → at ≤ p → (known_of (view_of new) p).marks ≡ (known_of (view_of old) p).marks

module _ (functions : List Mfa) (opening : Opening) (table : TableId) (old : tokens.Member) (before : List (Option ProcessRun)) (some : SomeKept functions opening (view_of old) before) where
  pub lap_begins : IsToken table old → IsBetweenTurns (view_of old) → LapSteps functions opening table old before 0 old before
  lap_begins token between = record { token = token; number = refl; between = between; same = record { seen = refl; notes = refl; number = refl; generation = refl }; as_many = refl; had = λ taken h. h; went = λ p place none at. absurd (omega (arith, none)); later = λ p all. refl; unmarked = λ p all. refl }

  module _ (p : ℕ) (mid : tokens.Member) (now : List (Option ProcessRun)) (h : LapSteps functions opening table old before p mid now) where
    pub some_now : SomeKept functions opening (view_of mid) now
    some_now = record { taken = some.taken; kept = h.had some.taken some.kept }

    pub lap_goes_on : (new : tokens.Member) (place left : Option ProcessRun) (after : List (Option ProcessRun)) → slice_get now p ≡ Some place → after ≡ slice_set (slice_set now p None) p left → length after ≡ length now → IsToken table new → new.number ≡ mid.number
        → HadTurnAt functions opening (view_of mid) (view_of new) place left → LapSteps functions opening table old before (p + 1) new after
    lap_goes_on new place left after at is as_many token number turn =
        let learnt = h.token.rooted.learnt in
        let stored : (q : ℕ) → (q ≡ p → ⊥) → slice_get after q ≡ slice_get now q = λ q apart. ap (λ (xs : List (Option ProcessRun)). slice_get xs q) (is ∙ set_twice now p None left) ∙ set_there now p left q apart in
        let stored_here : slice_get after p ≡ Some left = ap (λ (xs : List (Option ProcessRun)). slice_get xs p) (is ∙ set_twice now p None left) ∙ set_here now p place left at in
        let own : (run : ProcessRun) → place ≡ Some run → run.process.number ≡ p = λ run is_run. (some_now.kept.each p (Some run) (at ∙ ap (λ (x : Option ProcessRun). Some x) is_run)).1.1.1.number in
        let others : (q : ℕ) → (q ≡ p → ⊥) → (known_of (view_of new) q).marks ≡ (known_of (view_of mid) q).marks = λ q apart. others_at functions opening (view_of mid) (view_of new) place left p own q apart turn in
        let went_here = went_there functions opening (view_of mid) (view_of new) place left p own (view_of old) h.same (h.unmarked p (omega arith)) turn in
        record {
          token = token;
          number = number ∙ h.number;
          between = between_at functions opening (view_of mid) (view_of new) place left learnt turn h.between;
          same = holds_on (view_of old) (view_of mid) (view_of new) h.same (holds_at functions opening (view_of mid) (view_of new) place left turn);
          as_many = as_many ∙ h.as_many;
          went = λ q was below at_q. dite (ℕ_discrete q p)
              (λ (same : q ≡ p).
              let was_is : place ≡ was = ap (λ (o : Option (Option ProcessRun)). unwrap_or o place) (sym at ∙ h.later p (omega arith) ∙ ap (slice_get before) (sym same) ∙ at_q) in
              (left, (ap (slice_get after) same ∙ stored_here, subst (λ (x : Option ProcessRun). WentOnAt functions (view_of old) (view_of new) q x left) was_is (subst (λ (n : ℕ). WentOnAt functions (view_of old) (view_of new) n place left) (sym same) went_here))))
              (λ (apart : q ≡ p → ⊥).
              let left_q = h.went q was (omega (arith, below, apart)) at_q in
              (left_q.0, (stored q apart ∙ left_q.1.0, went_still functions (view_of old) (view_of mid) (view_of new) q was left_q.0 (others q apart) left_q.1.1)));
          later = λ q past. stored q (λ same. omega (arith, same, past)) ∙ h.later q (omega (arith, past));
          unmarked = λ q past. others q (λ same. omega (arith, same, past)) ∙ h.unmarked q (omega (arith, past));
          had = λ taken kept.
              subst (KeepsProcesses functions opening (view_of new) taken) (sym (is ∙ set_twice now p None left))
              (place_turns functions opening (view_of mid) (view_of new) place left now p learnt at turn taken (h.had taken kept));
        }

    -- the same where there was memory for the turn, and the place was empty meanwhile
    pub lap_where_ok : (new : tokens.Member) (place left gone : Option ProcessRun) (r : Result (Option ProcessRun) NoMemory) → slice_get now p ≡ Some place → gone ≡ None → r ≡ Ok left → IfOk r (λ _. IsToken table new) → IfOk r (λ _. new.number ≡ mid.number)
        → IfOk r (λ after. HadTurnAt functions opening (view_of mid) (view_of new) place after) → LapSteps functions opening table old before (p + 1) new (slice_set (slice_set now p gone) p left)
    lap_where_ok new place left gone r at empty ok token number turn =
        lap_goes_on new place left (slice_set (slice_set now p gone) p left) at (ap (λ (x : Option ProcessRun). slice_set (slice_set now p x) p left) empty) (length-set (slice_set now p gone) p left ∙ length-set now p gone)
        (subst (λ (x : Result (Option ProcessRun) NoMemory). IfOk x (λ _. IsToken table new)) ok token) (subst (λ (x : Result (Option ProcessRun) NoMemory). IfOk x (λ _. new.number ≡ mid.number)) ok number)
        (subst (λ (x : Result (Option ProcessRun) NoMemory). IfOk x (λ after. HadTurnAt functions opening (view_of mid) (view_of new) place after)) ok turn)
