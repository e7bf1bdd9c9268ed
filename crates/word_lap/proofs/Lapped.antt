-- What a scheduler knows of its processes over the turns of a lap, and over the calls that store no slot.
use Rattle.std.proofs.Common.{◌≡◌, ◌≢◌, ℕ, ◌<◌, ◌≤◌, ◌↔◌, ◌+◌, inl, inr, Bool, true, false, IsSome, List, [], ◌∷◌, ◌++◌, length, length-set, reverse, Option, Some, None, refl, sym, ap, subst, ◌∙◌}
use Rattle.std.specs.Prelude.{IsTrue, ◌==◌, slice_get, slice_set, if◌then◌else◌}
use Rattle.std.specs.List.{AllByRecursion}
use Rattle.std.proofs.lemmas.List.{append-nil, reverse-append}
use mathlib.Core.Logic.{dite}
use native.Mathlib.Decide.{ℕ_discrete}
use Rattle.prgr_core.specs.Members as members
use Rattle.prgr_core.proofs.Parts.{slice_get-slice_set}
use Rattle.term_core.specs.declared.atom.Mfa.{Mfa}
use Rattle.area_core.specs.declared.table.Published.{Published}
use Rattle.area_core.specs.Generations as tests
use Rattle.marks.specs.declared.mark.Mark.{Mark as WordMark}
use Rattle.marks.specs.declared.mark.ProcessView.{ProcessView}
use Rattle.marks.specs.Names.{HasAnchor, IsAtRest, tells_kill}
use Rattle.marks.specs.Steps.{HasNote}
use Rattle.shared_words.specs.declared.opening.Opening.{Opening}
use Rattle.shared_words.specs.declared.view.MemberView.{MemberView}
use Rattle.shared_words.specs.declared.view.NoteNumber.{NoteNumber}
use Rattle.shared_words.specs.declared.view.ProcessSlot.{ProcessSlot}
use Rattle.shared_words.specs.Processes.{held_by_view, note_in, process_of as known_of, slot_in, under_of}
use Rattle.shared_words.specs.Rule.{HasItsAreas}
use Rattle.shared_words.specs.Views.{published_at}
use Rattle.anchors.specs.Holds as slots
use Rattle.anchors.specs.Holds.{AnchorsApart, IsUnkilled, anchors_of}
use Rattle.machine_core.specs.declared.process.End.{End}
use Rattle.machine_core.specs.declared.process.End.TheVariants.{Killed}
use Rattle.machine_core.specs.GenerationReads.{words_in}
use Rattle.machine_core.specs.Process.{PlainProcess, names_of, process_of}
use Rattle.machine_core.specs.Reads.{Reads}
use Rattle.machine_core.specs.Turn.{MayTurn, ran_of, turn_by, turn_from}
use Rattle.machine_core.specs.declared.process.TheConstants.{MOST_TURNS}
use Rattle.run_log.specs.Legal.{Mark}
use Rattle.run_log.proofs.ListPlaces.{all_push}
use Rattle.run_steps.specs.MadeTurns.{ArePlacedOver, TurnsMade, marks_made, turned_by}
use Rattle.run_steps.specs.Stands.{Stand, going_stand, phase_of}
use Rattle.run_steps.proofs.MadeTurns.{one_more}
use Rattle.code_law.specs.Served.{IsServed}
use Rattle.word_view.specs.Anchored.{holds_by}
use Rattle.word_view.specs.Laps.{NamesNothing}
use Rattle.word_view.specs.Views.{NamedListed, StandsIn, shown_by}
use Rattle.run_law.specs.Ended.{HasTurned}
use Rattle.run_law.specs.Newcomers.{SpawnedProcess}
use Rattle.run_law.specs.Reading.{MarksTell, reads_under}
use Rattle.word_lap.specs.declared.process_run.ProcessRun.{ProcessRun}
use Rattle.word_lap.specs.Laps.{HasTried}
use Rattle.word_lap.specs.Reading.{stand_under}
use Rattle.word_lap.specs.Schedulers.{IsAtHand, IsBetweenTurns, IsHeld, IsHeldAt, KeepsProcesses, Rests, first_stand, rests_ended, rests_going}
use Rattle.word_lap.specs.Turning.{HadItsTurn}
use Rattle.word_lap.proofs.Reports.{turned_on}

-- ---- a process whose slot is not stored

-- the member has learnt of the same, holds the same, and is as awake
pub record IsSameBut (old new : MemberView) : Type 0 where
  pub seen : new.seen ≡ old.seen
  pub notes : new.notes ≡ old.notes
  pub number : new.member.number ≡ old.member.number
  pub generation : new.member.generation ≡ old.member.generation
  pub word : new.member.word ≡ old.member.word

note_by : (o : Option ℕ) (old new : MemberView) → new.member.generation ≡ old.member.generation → HasNote o (under_of old) → HasNote o (under_of new)
note_by None old new same h = h
note_by (Some n) old new same h = subst (λ (g : ℕ). n ≤ g) (sym same) h

module _ (functions : List Mfa) (opening : Opening) (old new : MemberView) (same : IsSameBut old new) (p : ℕ) (known : (known_of new p).slot.anchors ≡ (known_of old p).slot.anchors) (marks : (known_of new p).marks ≡ (known_of old p).marks) where
  held_same : held_by_view new ≡ held_by_view old
  held_same = λ i. published_at (same.seen i) (same.generation i)

  at_hand_still : IsAtHand functions opening p old → IsAtHand functions opening p new
  at_hand_still h = record {
    begins = record {
      run = record {
        awake = subst (λ (n : ℕ). IsTrue (members.is_value n)) (sym same.word) h.begins.run.awake;
        below = h.begins.run.below;
        own = h.begins.run.own ∙ sym same.number;
        noted = subst (λ (ns : List NoteNumber). HasNote (note_in ns p) (under_of new)) (sym same.notes) (note_by (note_in old.notes p) old new same.generation h.begins.run.noted);
      };
      unkilled = subst IsUnkilled (sym known) h.begins.unkilled;
      apart = subst AnchorsApart (sym known) h.begins.apart;
      served = subst (IsServed functions) (sym held_same) h.begins.served;
      areas = subst HasItsAreas (sym held_same) h.begins.areas;
      named = subst (λ (xs : List ℕ). NamedListed (held_by_view new) xs) (sym known) (subst (λ (g : Published). NamedListed g (anchors_of old p)) (sym held_same) h.begins.named);
    };
    named = λ serial anchor. subst (λ (g : Published). StandsIn g serial) (sym held_same) (h.named serial (subst (λ (xs : List ℕ). HasAnchor tests.anchor_names_area xs serial) known anchor));
  }

  rests_still : (run : ProcessRun) → Rests functions opening old p run → Rests functions opening new p run
  rests_still run (rests_going fin h) = rests_going fin (record {
    knows = at_hand_still h.knows;
    turn =
        subst (λ (g : Published). MayTurn (shown_by functions g) (holds_by (anchors_of new p)) run.process) (sym held_same)
        (subst (λ (xs : List ℕ). MayTurn (shown_by functions (held_by_view old)) (holds_by xs) run.process) (sym known) h.turn);
    counted = h.counted ∙ ap (λ (xs : List WordMark). length xs) (sym marks);
    spans = h.spans;
  })
  rests_still run (rests_ended h) = rests_ended (record {
    over = h.over;
    left = h.left;
    empty = λ kind serial held. h.empty kind serial (subst (λ (xs : List ℕ). slots.HoldsAnchors kind xs serial) known held);
    killed = λ serial some_serial. subst (λ (xs : List ℕ). HasAnchor tells_kill xs serial ↔ (run.fin ≡ Some (Killed serial))) (sym known) (h.killed serial some_serial);
  })

  held_still : (spawn : SpawnedProcess) (run : ProcessRun) → IsHeld functions opening old p spawn run → IsHeld functions opening new p spawn run
  held_still spawn run h =
      let stands : stand_under new run ≡ stand_under old run = ap (λ (g : Published). record { process = process_of (words_in g.state) run.process; spans = run.spans; phase = phase_of run.fin }) held_same in
      record {
        number = h.number;
        target = h.target;
        args = h.args;
        noted = ap (λ (ns : List NoteNumber). note_in ns p) same.notes ∙ h.noted;
        turns = turned_on functions old new p run ([], same.seen ∙ sym (append-nil old.seen)) marks stands h.turns;
        rests = rests_still run h.rests;
      }

  pub place_still : (taken : List SpawnedProcess) (place : Option ProcessRun) → IsHeldAt functions opening old taken p place → IsHeldAt functions opening new taken p place
  place_still taken None h = (
    record {
      marks = marks ∙ h.0.marks;
      empty = subst NamesNothing (sym known) h.0.empty;
      note = ap (λ (ns : List NoteNumber). note_in ns p) same.notes ∙ h.0.note;
    },
    λ spawn among is own. h.1 spawn among is (own ∙ same.number),
  )
  place_still taken (Some run) h = (h.0, (h.1.0, (h.1.1.0, held_still h.0 run h.1.1.1)))

-- an attempt to lead keeps what a scheduler knows of its processes
pub lead_keeps : (functions : List Mfa) (opening : Opening) (old new : MemberView) (taken : List SpawnedProcess) (processes : List (Option ProcessRun)) → HasTried old new → KeepsProcesses functions opening old taken processes
    → KeepsProcesses functions opening new taken processes
lead_keeps functions opening old new taken processes tried h = record {
  all = h.all;
  each = λ p place at.
      let known : known_of new p ≡ known_of old p = λ i. known_at (tried.slots i) (tried.notes i) p in
      place_still functions opening old new (record { seen = tried.seen; notes = tried.notes; number = tried.number; generation = tried.generation; word = tried.word }) p
      (ap (λ (x : ProcessView). x.slot.anchors) known) (ap (λ (x : ProcessView). x.marks) known) taken place (h.each p place at);
}
  where
    known_at : List ProcessSlot → List NoteNumber → ℕ → ProcessView
    known_at own notes p = record { slot = (slot_in own p).slot; marks = (slot_in own p).marks; note = note_in notes p }

-- ---- the process that had its turn

-- name, target and arguments of a process stay
pub kept_as : (r : Reads) (p : PlainProcess) → ((turn_by r p).process.target ≡ p.target) × ((turn_by r p).process.args ≡ p.args)
kept_as r p = by_test (p.turns == MOST_TURNS)
  where
    by_test : (b : Bool) → ((turn_from (if b then p else record p { turns = p.turns + 1 }) (ran_of r p)).process.target ≡ p.target) × ((turn_from (if b then p else record p { turns = p.turns + 1 }) (ran_of r p)).process.args ≡ p.args)
    by_test true = (refl, refl)
    by_test false = (refl, refl)

-- one mark more at the end
tells_more : (marks : List WordMark) (turns : List Mark) (mark : WordMark) (turn : Mark) → MarksTell marks turns → mark.generation ≡ turn.generation → holds_by mark.anchors ≡ names_of turn.process → MarksTell (marks ++ mark ∷ []) (turns ++ turn ∷ [])
tells_more [] [] mark turn h same names = (same, (names, tt))
tells_more [] (t ∷ turns) mark turn h same names = absurd h
tells_more (m ∷ marks) [] mark turn h same names = absurd h
tells_more (m ∷ marks) (t ∷ turns) mark turn h same names = (h.0, (h.1.0, tells_more marks turns mark turn h.1.1 same names))

module _ (functions : List Mfa) (opening : Opening) (old new : MemberView) (before after : ProcessRun) (learnt : old.member.generation < length old.seen) (had : HadItsTurn functions opening old new before after) where
  abbrev number : ℕ
  number = before.process.number

  abbrev g : ℕ
  g = old.member.generation

  abbrev reads : ℕ → Reads
  reads = reads_under functions old.seen

  same_seen : new.seen ≡ old.seen
  same_seen = ap (λ (m : MemberView). m.seen) had.view.same

  stands : stand_under new after ≡ turned_by (reads g) g (stand_under old before)
  stands = had.turn

  own : turned_by (reads g) g (stand_under old before) ≡ stand_under new after
  own = sym stands

  first_same : first_stand after ≡ first_stand before
  first_same =
      let kept = kept_as (reads g) (stand_under old before).process in
      let target : after.process.target ≡ before.process.target = ap (λ (x : Stand). x.process.target) stands ∙ kept.0 in
      let args : after.process.args ≡ before.process.args = ap (λ (x : Stand). x.process.args) stands ∙ kept.1 in
      λ i. going_stand (had.number i) (target i) (args i)

  turned_more : before.fin ≡ None → HasTurned functions old number (first_stand before) (stand_under old before) → HasTurned functions new number (first_stand after) (stand_under new after)
  turned_more going h =
      let x : Stand = first_stand before in
      let y : Stand = stand_under old before in
      let more = one_more reads h.generations g x y h.made h.placed (ap phase_of going) had.placed in
      let last : Mark = record { generation = g; process = (turn_by (reads g) y.process).process } in
      let names : holds_by (anchors_of new number) ≡ names_of last.process = had.names_it ∙ ap (λ (z : Stand). names_of z.process) stands in
      let told = tells_more (reverse (known_of old number).marks) (marks_made reads h.generations x) (record { generation = g; anchors = anchors_of new number }) last h.marks refl names in
      let marks : reverse (known_of new number).marks ≡ reverse (known_of old number).marks ++ record { generation = g; anchors = anchors_of new number } ∷ [] =
      ap reverse had.marks ∙ reverse-append (record { generation = g; anchors = anchors_of new number } ∷ []) (known_of old number).marks in
      let again : List ℕ = h.generations ++ g ∷ [] in
      record {
        generations = again;
        made =
            subst (λ (seen : List Published). TurnsMade (reads_under functions seen) again (first_stand after) (stand_under new after)) (sym same_seen)
            (subst (λ (z : Stand). TurnsMade reads again z (stand_under new after)) (sym first_same) (subst (TurnsMade reads again x) own more.made));
        placed =
            subst (λ (seen : List Published). ArePlacedOver (reads_under functions seen) again (first_stand after)) (sym same_seen)
            (subst (ArePlacedOver reads again) (sym first_same) more.placed);
        learnt = subst (λ (seen : List Published). AllByRecursion (λ k. k < length seen) again) (sym same_seen) (all_push (λ k. k < length old.seen) h.generations g h.learnt learnt);
        marks =
            subst (λ (seen : List Published). MarksTell (reverse (known_of new number).marks) (marks_made (reads_under functions seen) again (first_stand after))) (sym same_seen)
            (subst (λ (z : Stand). MarksTell (reverse (known_of new number).marks) (marks_made reads again z)) (sym first_same)
            (subst (λ ms. MarksTell ms (marks_made reads again x)) (sym marks) (subst (MarksTell (reverse (known_of old number).marks ++ record { generation = g; anchors = anchors_of new number } ∷ [])) (sym more.marks_are) told)));
      }

  rests_after : (fin : Option End) → after.fin ≡ fin → Rests functions opening new number after
  rests_after None is = rests_going is (had.again is)
  rests_after (Some fin) is = rests_ended (had.over (subst IsSome (sym is) refl))

  held_after : (p : ℕ) (spawn : SpawnedProcess) → before.fin ≡ None → IsHeld functions opening old p spawn before → IsHeld functions opening new p spawn after
  held_after p spawn going h =
      let at : number ≡ p = h.number in
      let kept = kept_as (reads g) (stand_under old before).process in
      record {
        number = had.number ∙ at;
        target = ap (λ (x : Stand). x.process.target) stands ∙ kept.0 ∙ h.target;
        args = ap (λ (x : Stand). x.process.args) stands ∙ kept.1 ∙ h.args;
        noted = ap (λ (m : MemberView). note_in m.notes p) had.view.same ∙ h.noted;
        turns = subst (λ (n : ℕ). HasTurned functions new n (first_stand after) (stand_under new after)) at (turned_more going (subst (λ (n : ℕ). HasTurned functions old n (first_stand before) (stand_under old before)) (sym at) h.turns));
        rests = subst (λ (n : ℕ). Rests functions opening new n after) at (rests_after after.fin refl);
      }

  same_but : IsSameBut old new
  same_but = record {
    seen = same_seen;
    notes = ap (λ (m : MemberView). m.notes) had.view.same;
    number = ap (λ (m : MemberView). m.member.number) had.view.same;
    generation = ap (λ (m : MemberView). m.member.generation) had.view.same;
    word = ap (λ (m : MemberView). m.member.word) had.view.same;
  }

  -- the turn of the process at a place keeps what a scheduler knows of its processes
  pub turn_keeps : (p : ℕ) (taken : List SpawnedProcess) (processes : List (Option ProcessRun)) → before.fin ≡ None → slice_get processes p ≡ Some (Some before) → KeepsProcesses functions opening old taken processes
      → KeepsProcesses functions opening new taken (slice_set processes p (Some after))
  turn_keeps p taken processes going at h =
      let own_place = h.each p (Some before) at in
      let spawn : SpawnedProcess = own_place.0 in
      let is_held : IsHeld functions opening old p spawn before = own_place.1.1.1 in
      record {
        all = length-set processes p (Some after) ∙ h.all;
        each = λ q place now. elim (slice_get-slice_set processes p (Some after) q place now) as (λ _. IsHeldAt functions opening new taken q place) [
          | inl this ↦ subst (λ (x : Option ProcessRun). IsHeldAt functions opening new taken q x) (sym this.1)
              (spawn, (own_place.1.0, (own_place.1.1.0 ∙ sym this.0, subst (λ (n : ℕ). IsHeld functions opening new n spawn after) (sym this.0) (held_after p spawn going is_held))))
          | inr other ↦
              let apart : q ≢ number = λ same. other.0 (same ∙ is_held.number) in
              place_still functions opening old new same_but q (ap (λ (x : ProcessView). x.slot.anchors) (had.view.others q apart)) (ap (λ (x : ProcessView). x.marks) (had.view.others q apart)) taken place (h.each q place other.1)
        ];
      }

  -- the process is at rest again
  rest_own : IsAtRest (known_of new number)
  rest_own = subst (λ (ms : List WordMark). IsAtRest (record { slot = (known_of new number).slot; marks = ms; note = (known_of new number).note })) (sym had.marks)
      (record { frames = λ serial. (λ x. x, λ x. x); literals = λ serial. (λ x. x, λ x. x) })

  pub turn_rests : IsBetweenTurns old → IsBetweenTurns new
  turn_rests h = record {
    awake = subst (λ (n : ℕ). IsTrue (members.is_value n)) (sym same_but.word) h.awake;
    follows = ap (λ (m : MemberView). m.member.role) had.view.same ∙ h.follows;
    rest = λ p. dite (ℕ_discrete p number) (λ (same : p ≡ number). subst (λ (n : ℕ). IsAtRest (known_of new n)) (sym same) rest_own) (λ (apart : p ≡ number → ⊥). subst IsAtRest (sym (had.view.others p apart)) (h.rest p));
  }
