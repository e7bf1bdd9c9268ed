-- What stays known of a member's processes over its reports.
use Rattle.std.proofs.Common.{◌≡◌, ℕ, ◌+◌, ◌<◌, ◌≤◌, ◌↔◌, true, inl, inr, List, [], ◌∷◌, ◌++◌, length, reverse, Option, Some, None, refl, sym, ap, subst, ◌∙◌, arith}
use Rattle.std.specs.Prelude.{unwrap_or}
use Rattle.std.specs.List.{AllByRecursion}
use Rattle.std.proofs.lemmas.Bool.{or_cases}
use Rattle.std.proofs.lemmas.List.{append_assoc}
use Rattle.prgr_core.specs.declared.member.Role.{Role}
use Rattle.prgr_core.specs.declared.member.Role.TheVariants.{Follows, Leads}
use Rattle.prgr_core.specs.declared.member.Loaded.TheVariants.{Nothing}
use Rattle.prgr_core.specs.Members.{role_knowing}
use Rattle.term_core.specs.declared.atom.Mfa.{Mfa}
use Rattle.term_core.specs.declared.hold.Kind.TheVariants.{Frame, Literal}
use Rattle.area_core.specs.declared.table.Published.{Published}
use Rattle.area_core.specs.Generations as tests
use Rattle.area_core.specs.Roots.{serial_image}
use Rattle.marks.specs.declared.mark.ProcessView.{ProcessView}
use Rattle.marks.specs.Names.{HasAnchor, tells_kill}
use Rattle.marks.specs.Steps.{HasNote}
use Rattle.shared_words.specs.declared.opening.Opening.{Opening}
use Rattle.shared_words.specs.declared.view.MemberView.{MemberView}
use Rattle.shared_words.specs.Kinds.{IsSameIn}
use Rattle.shared_words.specs.Processes.{NamesArea, held_by_view, note_in, process_of as known_of, under_of}
use Rattle.shared_words.specs.Rule.{IsBeginning}
use Rattle.shared_words.specs.Views.{newest_number, published_at}
use Rattle.shared_words.proofs.RootLoads.{shorter}
use Rattle.shared_words.proofs.SlotFrames.{published_begins}
use Rattle.progress_words.specs.Reports.{IsAwake, HoldsReported, having_reported}
use Rattle.anchors.specs.Holds as slots
use Rattle.anchors.specs.Holds.{AnchorsApart, IsUnkilled, anchors_of}
use Rattle.machine_core.specs.declared.process.End.TheVariants.{Killed}
use Rattle.machine_core.specs.declared.process.Process.{Process}
use Rattle.machine_core.specs.GenerationReads.{block_among, reads_in, words_in}
use Rattle.machine_core.specs.Holds.{is_area_held, is_held}
use Rattle.machine_core.specs.Process.{PlainFrame, frames_of}
use Rattle.machine_core.specs.Reads.{Reads}
use Rattle.machine_core.specs.Turn.{ArePlaced, MayTurn, turn_by}
use Rattle.run_log.specs.Legal.{Mark}
use Rattle.run_steps.specs.MadeTurns.{ArePlacedOver, TurnsMade, marks_made, turned_by}
use Rattle.run_steps.specs.Stands.{Stand, phase_of}
use Rattle.code_law.specs.Served.{IsServed}
use Rattle.code_law.proofs.ServedAreas.{image_same}
use Rattle.word_view.specs.Anchored.{holds_by}
use Rattle.word_view.specs.Laps.{NamesNothing}
use Rattle.word_view.specs.Views.{NamedListed, StandsIn, shown_by}
use Rattle.word_view.proofs.Anchoring.{held_names, named_any}
use Rattle.word_view.proofs.Coming.{block_listed}
use Rattle.word_view.proofs.GoingOn.{IsSame, frames_stay, may_go_on}
use Rattle.run_law.specs.Ended.{HasTurned}
use Rattle.run_law.specs.Newcomers.{SpawnedProcess}
use Rattle.run_law.specs.Reading.{MarksTell, reads_under}
use Rattle.word_lap.specs.declared.process_run.ProcessRun.{ProcessRun}
use Rattle.word_lap.specs.Reading.{stand_under}
use Rattle.word_lap.specs.Schedulers.{IsAtHand, IsHeld, IsHeldAt, KeepsProcesses, Rests, first_stand, rests_ended, rests_going}

-- ---- reports one after another

knowing_again : (c d : ℕ) (r : Role) → role_knowing d (role_knowing c r) ≡ role_knowing d r
knowing_again c d Follows = refl
knowing_again c d (Leads scans) = refl

pub begins_through : (a b c : List Published) → IsBeginning a b → IsBeginning b c → IsBeginning a c
begins_through a b c first second = (first.0 ++ second.0, second.1 ∙ ap (λ (xs : List Published). xs ++ second.0) first.1 ∙ append_assoc a first.0 second.0)

-- two reports are one by what they leave
pub reports_on : (Served : Published → Type 0) (a b c : MemberView) (g h : ℕ) → HoldsReported Served a b g → HoldsReported Served b c h → HoldsReported Served a c h
reports_on Served a b c g h first second = record {
  counter = second.counter;
  range = second.range;
  learnt = begins_through a.seen b.seen c.seen first.learnt second.learnt;
  some = second.some;
  newest = second.newest;
  holds = second.holds;
  served = second.served;
  areas = second.areas;
  named = λ x named among.
      let one : IsSameIn (held_by_view a) (held_by_view b) x = first.named x named among in
      let named_now : NamesArea b x.serial = subst (λ (m : MemberView). NamesArea m x.serial) (sym first.view) named in
      let two : IsSameIn (held_by_view b) (held_by_view c) x = second.named x named_now one.listed in
      record { listed = two.listed; image = two.image ∙ one.image };
  view = second.view ∙ ap (having_reported second.counter c.seen) first.view
      ∙ ap (λ (r : Role). record a { member = record a.member { word = second.counter + 1; loaded = Nothing; generation = newest_number c.seen; role = r }; seen = c.seen }) (knowing_again first.counter second.counter a.member.role);
}

-- ---- one process that may go on

-- the note of a process came with no later generation than the newest one
note_still : (o : Option ℕ) (old new : MemberView) → old.member.generation ≤ new.member.generation → HasNote o (under_of old) → HasNote o (under_of new)
note_still None old new more h = h
note_still (Some n) old new more h = omega (arith, more, h)

module _ (functions : List Mfa) (opening : Opening) (p : ℕ) (old new : MemberView) (generation : ℕ) (learnt : old.member.generation < length old.seen) (awake : IsAwake new) (r : HoldsReported (IsServed functions) old new generation) where
  own_newest : new.member.generation ≡ newest_number new.seen
  own_newest = ap (λ (m : MemberView). m.member.generation) r.view

  same_anchors : anchors_of new p ≡ anchors_of old p
  same_anchors = ap (λ (m : MemberView). anchors_of m p) r.view

  later : old.member.generation ≤ new.member.generation
  later =
      let more = shorter old.seen new.seen r.learnt old.member.generation learnt in
      let is = own_newest in
      omega (arith, more, is)

  module _ (h : IsAtHand functions opening p old) where
    -- an area that the slot names is the same in the new generation
    same_in : (serial : ℕ) (anchor : HasAnchor tests.anchor_names_area (anchors_of old p) serial) → IsSameIn (held_by_view old) (held_by_view new) (h.named serial anchor).area
    same_in serial anchor =
        let s : StandsIn (held_by_view old) serial = h.named serial anchor in
        r.named s.area (p, subst (HasAnchor tests.anchor_names_area (anchors_of old p)) (sym s.is) anchor) s.stands.listed

    own : (serial : ℕ) → HasAnchor tests.anchor_names_area (anchors_of new p) serial → HasAnchor tests.anchor_names_area (anchors_of old p) serial
    own serial anchor = subst (λ (xs : List ℕ). HasAnchor tests.anchor_names_area xs serial) same_anchors anchor

    listed : NamedListed (held_by_view new) (anchors_of new p)
    listed serial anchor =
        let before = own serial anchor in
        ((h.named serial before).area, (same_in serial before).listed, (h.named serial before).is)

    stands : (serial : ℕ) → HasAnchor tests.anchor_names_area (anchors_of new p) serial → StandsIn (held_by_view new) serial
    stands serial anchor =
        let before = own serial anchor in
        let s : StandsIn (held_by_view old) serial = h.named serial before in
        let there = same_in serial before in
        record { area = s.area; words = s.words; is = s.is; stands = record { listed = there.listed; image = there.image ∙ s.stands.image; fits = s.stands.fits } }

    pub at_hand_on : IsAtHand functions opening p new
    at_hand_on = record {
      begins = record {
        run = record {
          awake = awake;
          below = h.begins.run.below;
          own = h.begins.run.own ∙ sym (ap (λ (m : MemberView). m.member.number) r.view);
          noted = subst (λ (o : Option ℕ). HasNote o (under_of new)) (sym (ap (λ (m : MemberView). note_in m.notes p) r.view)) (note_still (note_in old.notes p) old new later h.begins.run.noted);
        };
        unkilled = subst IsUnkilled (sym same_anchors) h.begins.unkilled;
        apart = subst AnchorsApart (sym same_anchors) h.begins.apart;
        served = subst (λ (n : ℕ). IsServed functions (published_at new.seen n)) (r.newest ∙ sym own_newest) r.served;
        areas = r.areas;
        named = listed;
      };
      named = stands;
    }

    names_held : (serial : ℕ) → is_area_held (holds_by (anchors_of old p)) serial ≡ true → HasAnchor tests.anchor_names_area (anchors_of old p) serial
    names_held serial held =
        elim (or_cases (is_held (holds_by (anchors_of old p)) serial Frame) (is_held (holds_by (anchors_of old p)) serial Literal) held) as (λ _. HasAnchor tests.anchor_names_area (anchors_of old p) serial) [
          | inl frame ↦ named_any Frame (anchors_of old p) serial (held_names Frame (anchors_of old p) serial frame)
          | inr literal ↦ named_any Literal (anchors_of old p) serial (held_names Literal (anchors_of old p) serial literal)
        ]

    same_area : (serial : ℕ) → is_area_held (holds_by (anchors_of old p)) serial ≡ true → IsSame functions (held_by_view old) (held_by_view new) serial
    same_area serial held =
        let anchor = names_held serial held in
        let s : StandsIn (held_by_view old) serial = h.named serial anchor in
        let there = same_in serial anchor in
        record {
          words = ap (λ (o : Option (List ℕ)). unwrap_or o [])
              (sym (image_same (held_by_view old).state.areas serial) ∙ ap (serial_image (held_by_view old).state.areas) (sym s.is) ∙ sym there.image ∙ ap (serial_image (held_by_view new).state.areas) s.is ∙ image_same (held_by_view new).state.areas serial);
          block = ap (block_among (held_by_view old).areas) (sym s.is) ∙ block_listed (held_by_view old).areas h.begins.areas.apart s.area s.stands.listed ∙ sym (block_listed (held_by_view new).areas r.areas.apart s.area there.listed)
              ∙ ap (block_among (held_by_view new).areas) s.is;
        }

    pub turn_on : (process : Process) → MayTurn (shown_by functions (held_by_view old)) (holds_by (anchors_of old p)) process → MayTurn (shown_by functions (held_by_view new)) (holds_by (anchors_of new p)) process
    turn_on process ready =
        subst (λ (xs : List ℕ). MayTurn (shown_by functions (held_by_view new)) (holds_by xs) process) (sym same_anchors)
        (may_go_on functions (held_by_view old) (held_by_view new) (holds_by (anchors_of old p)) process same_area ready)

    pub frames_on : (process : Process) → MayTurn (shown_by functions (held_by_view old)) (holds_by (anchors_of old p)) process → frames_of (words_in (held_by_view old).state) process.frames ≡ frames_of (words_in (held_by_view new).state) process.frames
    frames_on process ready = frames_stay functions (held_by_view old) (held_by_view new) (holds_by (anchors_of old p)) process same_area ready

-- ---- the turns so far

-- what two ways to read make of turns is the same where they read the same
record StillMade (others : ℕ → Reads) (generations : List ℕ) (x y : Stand) (marks : List Mark) : Type 0 where
  made : TurnsMade others generations x y
  placed : ArePlacedOver others generations x
  marks_are : marks_made others generations x ≡ marks

module _ (Kind : ℕ → Type 0) (reads others : ℕ → Reads) (same : (g : ℕ) → Kind g → reads g ≡ others g) where
  still_made : (generations : List ℕ) (x y : Stand) → AllByRecursion Kind generations → TurnsMade reads generations x y → ArePlacedOver reads generations x → StillMade others generations x y (marks_made reads generations x)
  still_made [] x y each made placed = record { made = made; placed = tt; marks_are = refl }
  still_made (g ∷ generations) x y each made placed =
      let here : reads g ≡ others g = same g each.0 in
      let rest = still_made generations (turned_by (reads g) g x) y each.1 made.1 placed.1 in
      record {
        made = (made.0, subst (λ (r : Reads). TurnsMade others generations (turned_by r g x) y) here rest.made);
        placed = (subst (λ (r : Reads). ArePlaced r x.process.frames) here placed.0, subst (λ (r : Reads). ArePlacedOver others generations (turned_by r g x)) here rest.placed);
        marks_are = ap (λ (r : Reads). record { generation = g; process = (turn_by r x.process).process } ∷ marks_made others generations (turned_by r g x)) (sym here)
            ∙ ap (λ (ms : List Mark). record { generation = g; process = (turn_by (reads g) x.process).process } ∷ ms) rest.marks_are;
      }

weaker : (P Q : ℕ → Type 0) → ((g : ℕ) → P g → Q g) → (generations : List ℕ) → AllByRecursion P generations → AllByRecursion Q generations
weaker P Q f [] h = tt
weaker P Q f (g ∷ generations) h = (f g h.0, weaker P Q f generations h.1)

-- they stay what they were where the member has learnt of more, the marks are the same, and the process stands for the same
pub turned_on : (functions : List Mfa) (old new : MemberView) (p : ℕ) (run : ProcessRun) → IsBeginning old.seen new.seen → (known_of new p).marks ≡ (known_of old p).marks → stand_under new run ≡ stand_under old run
    → HasTurned functions old p (first_stand run) (stand_under old run) → HasTurned functions new p (first_stand run) (stand_under new run)
turned_on functions old new p run begins marks stands h =
    let still = still_made (λ g. g < length old.seen) (reads_under functions old.seen) (reads_under functions new.seen)
    (λ g below. ap (λ (x : Published). reads_in functions x.state) (sym (published_begins old.seen new.seen g begins below)))
    h.generations (first_stand run) (stand_under old run) h.learnt h.made h.placed in
    record {
      generations = h.generations;
      made = subst (TurnsMade (reads_under functions new.seen) h.generations (first_stand run)) (sym stands) still.made;
      placed = still.placed;
      learnt = weaker (λ g. g < length old.seen) (λ g. g < length new.seen) (λ g below. shorter old.seen new.seen begins g below) h.generations h.learnt;
      marks = subst (λ xs. MarksTell (reverse xs) (marks_made (reads_under functions new.seen) h.generations (first_stand run))) (sym marks)
          (subst (MarksTell (reverse (known_of old p).marks)) (sym still.marks_are) h.marks);
    }

-- ---- all of them

module _ (functions : List Mfa) (opening : Opening) (old new : MemberView) (generation : ℕ) (learnt : old.member.generation < length old.seen) (awake : IsAwake new) (r : HoldsReported (IsServed functions) old new generation) where
  same_known : (p : ℕ) → known_of new p ≡ known_of old p
  same_known p = ap (λ (m : MemberView). known_of m p) r.view

  same_named : (p : ℕ) → anchors_of new p ≡ anchors_of old p
  same_named p = ap (λ (x : ProcessView). x.slot.anchors) (same_known p)

  same_frames : (p : ℕ) (run : ProcessRun) → Rests functions opening old p run → frames_of (words_in (held_by_view old).state) run.process.frames ≡ frames_of (words_in (held_by_view new).state) run.process.frames
  same_frames p run (rests_going fin h) = frames_on functions opening p old new generation learnt awake r h.knows run.process h.turn
  same_frames p run (rests_ended h) = ap (frames_of (words_in (held_by_view old).state)) h.left ∙ sym (ap (frames_of (words_in (held_by_view new).state)) h.left)

  rests_on : (p : ℕ) (run : ProcessRun) → Rests functions opening old p run → Rests functions opening new p run
  rests_on p run (rests_going fin h) = rests_going fin (record {
    knows = at_hand_on functions opening p old new generation learnt awake r h.knows;
    turn = turn_on functions opening p old new generation learnt awake r h.knows run.process h.turn;
    counted = h.counted ∙ ap (λ (x : ProcessView). length x.marks) (sym (same_known p));
    spans = h.spans;
  })
  rests_on p run (rests_ended h) = rests_ended (record {
    over = h.over;
    left = h.left;
    empty = λ kind serial held. h.empty kind serial (subst (λ (xs : List ℕ). slots.HoldsAnchors kind xs serial) (same_named p) held);
    killed = λ serial some_serial. subst (λ (xs : List ℕ). HasAnchor tells_kill xs serial ↔ (run.fin ≡ Some (Killed serial))) (sym (same_named p)) (h.killed serial some_serial);
  })

  held_on : (p : ℕ) (spawn : SpawnedProcess) (run : ProcessRun) → IsHeld functions opening old p spawn run → IsHeld functions opening new p spawn run
  held_on p spawn run h =
      let process : Process = run.process in
      let stands : stand_under new run ≡ stand_under old run =
      ap (λ (fs : List PlainFrame). record {
        process = record { number = process.number; target = process.target; args = process.args; turns = process.turns; frames = fs };
        spans = run.spans;
        phase = phase_of run.fin;
      }) (sym (same_frames p run h.rests)) in
      record {
        number = h.number;
        target = h.target;
        args = h.args;
        noted = ap (λ (m : MemberView). note_in m.notes p) r.view ∙ h.noted;
        turns = turned_on functions old new p run r.learnt (ap (λ (x : ProcessView). x.marks) (same_known p)) stands h.turns;
        rests = rests_on p run h.rests;
      }

  place_on : (taken : List SpawnedProcess) (p : ℕ) (place : Option ProcessRun) → IsHeldAt functions opening old taken p place → IsHeldAt functions opening new taken p place
  place_on taken p None h = (
    record {
      marks = ap (λ (x : ProcessView). x.marks) (same_known p) ∙ h.0.marks;
      empty = subst NamesNothing (sym (same_named p)) h.0.empty;
      note = ap (λ (m : MemberView). note_in m.notes p) r.view ∙ h.0.note;
    },
    λ spawn among is own. h.1 spawn among is (own ∙ ap (λ (m : MemberView). m.member.number) r.view),
  )
  place_on taken p (Some run) h = (h.0, (h.1.0, (h.1.1.0, held_on p h.0 run h.1.1.1)))

  -- a report keeps what a scheduler knows of its processes
  pub report_keeps : (taken : List SpawnedProcess) (processes : List (Option ProcessRun)) → KeepsProcesses functions opening old taken processes → KeepsProcesses functions opening new taken processes
  report_keeps taken processes h = record { all = h.all; each = λ p place at. place_on taken p place (h.each p place at) }
