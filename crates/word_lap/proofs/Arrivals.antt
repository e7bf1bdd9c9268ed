-- What a scheduler knows of its processes once another one has come.
use Rattle.std.proofs.Common.{◌≡◌, ◌≢◌, ℕ, ◌<◌, ◌≤◌, ◌%◌, inl, inr, Bool, true, false, List, [], ◌∷◌, ◌++◌, length, length-set, reverse, Option, Some, None, refl, sym, ap, subst, ◌∙◌, arith}
use Rattle.std.specs.Prelude.{◌==◌, nat_lt, slice_get, slice_set, if◌then◌else◌}
use Rattle.std.specs.List.{AllByRecursion}
use Rattle.std.proofs.lemmas.Bool.{and_parts, both_ways, eq-eqb, false_from_ne_true, ltb-true, ne_eqb}
use Rattle.std.proofs.lemmas.Option.{none-some}
use Rattle.prgr_core.proofs.Parts.{slice_get-push_at, slice_get-slice_set}
use Rattle.term_core.specs.declared.atom.Mfa.{Mfa}
use Rattle.term_core.specs.declared.hold.Kind.{Kind}
use Rattle.term_core.specs.declared.hold.Kind.TheVariants.{Frame, Literal}
use Rattle.area_core.specs.declared.map.TheConstants.{PROCESSES}
use Rattle.area_core.specs.Blocks.{Among}
use Rattle.area_core.specs.Generations as tests
use Rattle.marks.specs.declared.mark.Mark.{Mark}
use Rattle.marks.specs.Names.{HasAnchor, tells_kill}
use Rattle.marks.specs.Steps.{HasNote}
use Rattle.shared_words.specs.declared.opening.Opening.{Opening}
use Rattle.shared_words.specs.declared.view.MemberView.{MemberView}
use Rattle.shared_words.specs.declared.view.NoteNumber.{NoteNumber}
use Rattle.shared_words.specs.declared.view.NoteView.{NoteView}
use Rattle.shared_words.specs.Notes.{note_joined}
use Rattle.shared_words.specs.Processes.{held_by_view, note_in, under_of}
use Rattle.shared_words.specs.Rule.{HasItsAreas}
use Rattle.anchors.specs.Holds.{HoldsAnchors, IsUnkilled, MayRun, anchors_of}
use Rattle.machine_core.specs.GenerationReads.{words_in}
use Rattle.machine_core.specs.Holds.{Holds as HoldsOf, serials_of}
use Rattle.machine_core.specs.Process.{Words, frames_of, names_of, new_process, process_of}
use Rattle.machine_core.specs.Turn.{MayTurn}
use Rattle.machine_core.specs.View.{Shown}
use Rattle.machine_core.proofs.TurnLaws.{may_turn_new}
use Rattle.run_log.specs.declared.logs.Span.{Span}
use Rattle.run_steps.specs.Stands.{phase_of}
use Rattle.script_core.proofs.JoinedPlaces.{get_front}
use Rattle.code_law.specs.Served.{IsServed}
use Rattle.word_view.specs.Anchored.{holds_by}
use Rattle.word_view.specs.Laps.{NamesNothing}
use Rattle.word_view.specs.Views.{shown_by}
use Rattle.word_view.proofs.Anchoring.{named_any}
use Rattle.run_law.specs.Newcomers.{SpawnedProcess}
use Rattle.run_law.specs.Reading.{MarksTell}
use Rattle.word_lap.specs.declared.process_run.ProcessRun.{ProcessRun}
use Rattle.word_lap.specs.Reading.{stand_under}
use Rattle.word_lap.specs.Schedulers.{IsAtHand, IsBetweenTurns, IsEmpty, IsHeld, IsHeldAt, KeepsProcesses, Rests, first_stand, rests_ended, rests_going}
use Rattle.word_lap.proofs.Clearing.{zero_tells}
use Rattle.word_lap.proofs.HadTurns.{none_named_for}

got_last : {X : Type 0} (xs : List X) (x : X) → slice_get (xs ++ x ∷ []) (length xs) ≡ Some x
got_last [] x = refl
got_last (y ∷ xs) x = got_last xs x

-- ---- what was learnt

-- a note that has learnt of no more leaves what the member has learnt of
pub learnt_already : (n : NoteView) (m : MemberView) → length n.seen ≤ length m.seen → note_joined n m ≡ record m { notes = m.notes ++ n.note ∷ [] }
learnt_already n m few = ap (λ (b : Bool). record m { seen = if b then n.seen else m.seen; notes = m.notes ++ n.note ∷ [] }) (false_from_ne_true (nat_lt (length m.seen) (length n.seen)) (λ more. let less = ltb-true (length m.seen) (length n.seen) more in absurd (omega (arith, less, few))))

-- ---- the numbers of notes

pub note_stays : (notes : List NoteNumber) (n : NoteNumber) (p published : ℕ) → note_in notes p ≡ Some published → note_in (notes ++ n ∷ []) p ≡ Some published
note_stays [] n p published is = absurd (none-some published is)
note_stays (m ∷ notes) n p published is = by_test (m.process == p) (note_stays notes n p published) is
  where
    by_test : (b : Bool) → (note_in notes p ≡ Some published → note_in (notes ++ n ∷ []) p ≡ Some published) → (if b then Some m.published else note_in notes p) ≡ Some published → (if b then Some m.published else note_in (notes ++ n ∷ []) p) ≡ Some published
    by_test true rest same = same
    by_test false rest later = rest later

note_else : (notes : List NoteNumber) (n : NoteNumber) (p : ℕ) → note_in notes p ≡ None → (n.process ≡ p → ⊥) → note_in (notes ++ n ∷ []) p ≡ None
note_else [] n p is other = ap (λ (b : Bool). if b then Some n.published else None) (ne_eqb n.process p other)
note_else (m ∷ notes) n p is other = by_test (m.process == p) (λ later. note_else notes n p later other) is
  where
    by_test : (b : Bool) → (note_in notes p ≡ None → note_in (notes ++ n ∷ []) p ≡ None) → (if b then Some m.published else note_in notes p) ≡ None → (if b then Some m.published else note_in (notes ++ n ∷ []) p) ≡ None
    by_test true rest same = absurd (none-some m.published (sym same))
    by_test false rest later = rest later

note_here : (notes : List NoteNumber) (n : NoteNumber) (p : ℕ) → note_in notes p ≡ None → n.process ≡ p → note_in (notes ++ n ∷ []) p ≡ Some n.published
note_here [] n p is own = ap (λ (b : Bool). if b then Some n.published else None) (eq-eqb n.process p own)
note_here (m ∷ notes) n p is own = by_test (m.process == p) (λ later. note_here notes n p later own) is
  where
    by_test : (b : Bool) → (note_in notes p ≡ None → note_in (notes ++ n ∷ []) p ≡ Some n.published) → (if b then Some m.published else note_in notes p) ≡ None → (if b then Some m.published else note_in (notes ++ n ∷ []) p) ≡ Some n.published
    by_test true rest same = absurd (none-some m.published (sym same))
    by_test false rest later = rest later

-- ---- the others

module _ (functions : List Mfa) (opening : Opening) (m : MemberView) (n : NoteNumber) where
  abbrev now : MemberView
  now = record m { notes = m.notes ++ n ∷ [] }

  run_noted : (p published : ℕ) → note_in m.notes p ≡ Some published → MayRun opening p m → MayRun opening p now
  run_noted p published came run = record {
    awake = run.awake;
    below = run.below;
    own = run.own;
    noted = subst (λ (o : Option ℕ). HasNote o (under_of m)) (came ∙ sym (note_stays m.notes n p published came)) run.noted;
  }

  at_hand_noted : (p published : ℕ) → note_in m.notes p ≡ Some published → IsAtHand functions opening p m → IsAtHand functions opening p now
  at_hand_noted p published came h = record {
    begins = record {
      run = run_noted p published came h.begins.run;
      unkilled = h.begins.unkilled;
      apart = h.begins.apart;
      served = h.begins.served;
      areas = h.begins.areas;
      named = h.begins.named;
    };
    named = h.named;
  }

  rests_noted : (p published : ℕ) (run : ProcessRun) → note_in m.notes p ≡ Some published → Rests functions opening m p run → Rests functions opening now p run
  rests_noted p published run came (rests_going fin h) = rests_going fin (record { knows = at_hand_noted p published came h.knows; turn = h.turn; counted = h.counted; spans = h.spans })
  rests_noted p published run came (rests_ended h) = rests_ended (record { over = h.over; left = h.left; empty = h.empty; killed = h.killed })

  held_noted : (p : ℕ) (spawn : SpawnedProcess) (run : ProcessRun) → IsHeld functions opening m p spawn run → IsHeld functions opening now p spawn run
  held_noted p spawn run h = record {
    number = h.number;
    target = h.target;
    args = h.args;
    noted = note_stays m.notes n p spawn.published h.noted;
    turns = record { generations = h.turns.generations; made = h.turns.made; placed = h.turns.placed; learnt = h.turns.learnt; marks = h.turns.marks };
    rests = rests_noted p spawn.published run h.noted h.rests;
  }

  empty_noted : (p : ℕ) → (n.process ≡ p → ⊥) → IsEmpty m p → IsEmpty now p
  empty_noted p other h = record { marks = h.marks; empty = h.empty; note = note_else m.notes n p h.note other }

-- ---- the newcomer

-- anchors that are 0 name nothing
none_names : (anchors : List ℕ) → NamesNothing anchors → (serial : ℕ) → HasAnchor tests.anchor_names_area anchors serial → ⊥
none_names anchors empty serial anchor = both_ways (tests.is_naming anchor.word) (ap tests.is_naming (empty anchor.place anchor.word anchor.at)) (and_parts (tests.is_naming anchor.word) (tests.serial_in anchor.word == serial) anchor.passes).0

none_held : (kind : Kind) (anchors : List ℕ) → NamesNothing anchors → (serial : ℕ) → HoldsAnchors kind anchors serial → ⊥
none_held kind anchors empty serial held = none_names anchors empty serial (named_any kind anchors serial held)

pub none_kills : (anchors : List ℕ) → NamesNothing anchors → IsUnkilled anchors
none_kills anchors empty place word serial at told = zero_tells serial (subst (λ (w : ℕ). tells_kill w serial ≡ true) (empty place word at) told)

-- a process before its first turn, whose note came in this state
module _ (functions : List Mfa) (opening : Opening) (m : MemberView) (n : NoteNumber) (spawn : SpawnedProcess) (run : ProcessRun) where
  abbrev later : MemberView
  later = record m { notes = m.notes ++ n ∷ [] }

  module _ (between : IsBetweenTurns m) (served : IsServed functions (held_by_view m)) (areas : HasItsAreas (held_by_view m)) (below : spawn.number < PROCESSES) (own : spawn.number % opening.members ≡ m.member.number) (learnt : spawn.published ≤ m.member.generation) (noted : n.process ≡ spawn.number) (told : n.published ≡ spawn.published)
      (number : run.process.number ≡ spawn.number) (target : run.process.target ≡ spawn.target) (args : run.process.args ≡ spawn.args) (turns : run.process.turns ≡ 0) (frames : run.process.frames ≡ []) (spans : run.spans ≡ []) (fin : run.fin ≡ None) (free : IsEmpty m spawn.number) where
    came : note_in later.notes spawn.number ≡ Some spawn.published
    came = note_here m.notes n spawn.number free.note noted ∙ ap (λ (k : ℕ). Some k) told

    at_hand : IsAtHand functions opening spawn.number later
    at_hand = record {
      begins = record {
        run = record { awake = between.awake; below = below; own = own; noted = subst (λ (o : Option ℕ). HasNote o (under_of m)) (sym came) learnt };
        unkilled = none_kills (anchors_of m spawn.number) free.empty;
        apart = λ i j v w at_i at_j some_v some_w same. absurd (some_v (free.empty i v at_i));
        served = served;
        areas = areas;
        named = λ serial anchor. absurd (none_names (anchors_of m spawn.number) free.empty serial anchor);
      };
      named = λ serial anchor. absurd (none_names (anchors_of m spawn.number) free.empty serial anchor);
    }

    plain_frames : (words : Words) → frames_of words run.process.frames ≡ []
    plain_frames words = ap (frames_of words) frames

    stands : stand_under later run ≡ first_stand run
    stands = λ i. record {
      process = record { number = run.process.number; target = run.process.target; args = run.process.args; turns = turns i; frames = plain_frames (words_in (held_by_view m).state) i };
      spans = spans i;
      phase = phase_of (fin i);
    }

    may_turn : MayTurn (shown_by functions (held_by_view m)) (holds_by (anchors_of m spawn.number)) run.process
    may_turn =
        let shown : Shown = shown_by functions (held_by_view m) in
        let new : process_of shown.words run.process ≡ new_process run.process.number run.process.target run.process.args = λ i. record {
          number = run.process.number;
          target = run.process.target;
          args = run.process.args;
          turns = turns i;
          frames = plain_frames shown.words i;
        } in
        let frame = none_named_for Frame (anchors_of m spawn.number) (none_held Frame (anchors_of m spawn.number) free.empty) in
        let literal = none_named_for Literal (anchors_of m spawn.number) (none_held Literal (anchors_of m spawn.number) free.empty) in
        let none : names_of (process_of shown.words run.process) ≡ holds_by (anchors_of m spawn.number) = ap names_of new ∙ sym (λ i. record { frames = serials_of (frame i); literals = serials_of (literal i) }) in
        subst (λ (held : HoldsOf). MayTurn shown held run.process) none (may_turn_new shown run.process run.process.number run.process.target run.process.args new)

    pub newcomer_held : IsHeld functions opening later spawn.number spawn run
    newcomer_held = record {
      number = number;
      target = target;
      args = args;
      noted = came;
      turns = record { generations = []; made = stands; placed = tt; learnt = tt; marks = subst (λ (ms : List Mark). MarksTell (reverse ms) []) (sym free.marks) tt };
      rests = rests_going fin (record {
        knows = at_hand;
        turn = may_turn;
        counted = turns ∙ sym (ap length free.marks);
        spans = record { bound = (let none = turns in omega (arith, none)); each = subst (AllByRecursion (λ (s : Span). s.turns ≤ run.process.turns)) (sym spans) tt };
      });
    }

-- ---- all places

-- nothing but the list of what was taken is changed: what came does not belong here, or its place is taken
module _ (functions : List Mfa) (opening : Opening) (m : MemberView) (taken : List SpawnedProcess) (spawn : SpawnedProcess) where
  abbrev more : List SpawnedProcess
  more = taken ++ spawn ∷ []

  among_more : (x : SpawnedProcess) → Among taken x → Among more x
  among_more x (i, at) = (i, get_front taken (spawn ∷ []) i x at)

  at_more : (p : ℕ) (place : Option ProcessRun) → (place ≡ None → spawn.number ≡ p → p % opening.members ≢ m.member.number) → IsHeldAt functions opening m taken p place → IsHeldAt functions opening m more p place
  at_more p None apart h = (
    h.0,
    λ x among is own. elim (slice_get-push_at taken spawn among.0 x among.1) as (λ _. ⊥) [
      | inl before ↦ h.1 x (among.0, before) is own
      | inr last ↦ apart refl (ap (λ (y : SpawnedProcess). y.number) (sym last.1) ∙ is) own
    ],
  )
  at_more p (Some run) apart h = (h.0, (among_more h.0 h.1.0, h.1.1))

  pub let_go : (processes : List (Option ProcessRun)) → ((p : ℕ) → slice_get processes p ≡ Some None → spawn.number ≡ p → p % opening.members ≢ m.member.number) → KeepsProcesses functions opening m taken processes → KeepsProcesses functions opening m more processes
  let_go processes apart h = record { all = h.all; each = λ p place at. at_more p place (λ none is. apart p (at ∙ ap (λ (x : Option ProcessRun). Some x) none) is) (h.each p place at) }

  -- it comes to its place
  module _ (n : NoteNumber) (run : ProcessRun) (noted : n.process ≡ spawn.number) where
    abbrev after : MemberView
    after = record m { notes = m.notes ++ n ∷ [] }

    other_place : (p : ℕ) (place : Option ProcessRun) → (p ≡ spawn.number → ⊥) → IsHeldAt functions opening m taken p place → IsHeldAt functions opening after more p place
    other_place p None other h = (
      empty_noted functions opening m n p (λ same. other (sym same ∙ noted)) h.0,
      λ x among is own. elim (slice_get-push_at taken spawn among.0 x among.1) as (λ _. ⊥) [
        | inl before ↦ h.1 x (among.0, before) is own
        | inr last ↦ other (sym is ∙ ap (λ (y : SpawnedProcess). y.number) last.1)
      ],
    )
    other_place p (Some held) other h = (h.0, (among_more h.0 h.1.0, (h.1.1.0, held_noted functions opening m n p h.0 held h.1.1.1)))

    pub comes_here : (processes : List (Option ProcessRun)) → IsHeld functions opening after spawn.number spawn run → KeepsProcesses functions opening m taken processes
        → KeepsProcesses functions opening after more (slice_set processes spawn.number (Some run))
    comes_here processes own h = record {
      all = length-set processes spawn.number (Some run) ∙ h.all;
      each = λ p place at. elim (slice_get-slice_set processes spawn.number (Some run) p place at) as (λ _. IsHeldAt functions opening after more p place) [
        | inl here ↦ subst (λ (x : Option ProcessRun). IsHeldAt functions opening after more p x) (sym here.1)
            (spawn, ((length taken, got_last taken spawn), (sym here.0, subst (λ (k : ℕ). IsHeld functions opening after k spawn run) (sym here.0) own)))
        | inr other ↦ other_place p place other.0 (h.each p place other.1)
      ];
    }
