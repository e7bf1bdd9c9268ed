-- What a scheduler's processes had in a lap, and in one lap behind others.
use Rattle.std.proofs.Common.{◌≡◌, ◌⊎◌, inl, inr, Bool, true, false, ℕ, ◌+◌, ◌<◌, ◌≤◌, List, [], ◌∷◌, ◌++◌, length, length-append, reverse, Option, Some, None, IsSome, refl, sym, ap, subst, ◌∙◌, arith}
use Rattle.std.specs.Prelude.{slice_get}
use Rattle.std.specs.List.{AllByRecursion}
use Rattle.std.proofs.lemmas.List.{append-nil, append_assoc, reverse-append}
use Rattle.std.proofs.lemmas.Option.{none-some, same_Some, slice_get_within}
use Rattle.term_core.specs.declared.atom.Mfa.{Mfa}
use Rattle.area_core.specs.declared.table.Published.{Published}
use Rattle.marks.specs.declared.mark.Mark.{Mark}
use Rattle.marks.specs.Steps.{HasNote}
use Rattle.shared_words.specs.declared.opening.Opening.{Opening}
use Rattle.shared_words.specs.declared.view.MemberView.{MemberView}
use Rattle.shared_words.specs.declared.view.NoteNumber.{NoteNumber}
use Rattle.shared_words.specs.declared.view.ProcessSlot.{ProcessSlot}
use Rattle.shared_words.specs.Kinds.{now_waiting}
use Rattle.shared_words.specs.Processes.{note_in, process_of as known_of, slot_in, under_of}
use Rattle.shared_words.proofs.RootLoads.{shorter}
use Rattle.shared_words.proofs.SlotFrames.{published_begins}
use Rattle.progress_words.specs.Reports.{HoldsReported}
use Rattle.machine_core.specs.declared.process.End.{End}
use Rattle.machine_core.specs.Reads.{Reads}
use Rattle.machine_core.specs.GenerationReads.{reads_in}
use Rattle.run_log.proofs.ListPlaces.{get_within}
use Rattle.run_steps.specs.declared.phase.Phase.{Phase}
use Rattle.run_steps.specs.declared.phase.Phase.TheVariants.{Going}
use Rattle.run_steps.specs.MadeTurns.{TurnsMade, marks_made, turned_by}
use Rattle.run_steps.specs.Stands.{Stand, going_stand, phase_of}
use Rattle.code_law.specs.Served.{IsServed}
use Rattle.run_law.specs.Ended.{HasTurned}
use Rattle.run_law.specs.Newcomers.{SpawnedProcess}
use Rattle.run_law.specs.Reading.{MarksTell, reads_under}
use Rattle.word_lap.specs.declared.process_run.ProcessRun.{ProcessRun}
use Rattle.word_lap.specs.LapTurns.{HasOneMark, HaveGoneOn, HoldsAsBefore, IsOverAt, WentOnAt, stayed, went_on}
use Rattle.word_lap.specs.Laps.{HasTried}
use Rattle.word_lap.specs.Reading.{stand_under}
use Rattle.word_lap.specs.RowTurns.{HadEachLap, HadFirstTurn, HadLaps, HadTurnsSince, IsReported, KnowsMore}
use Rattle.word_lap.specs.Schedulers.{KeepsProcesses, Rests, first_stand, rests_ended, rests_going}
use Rattle.word_lap.specs.Taking.{CameAt, HaveCome, TurnsNone, as_before, came_here}
use Rattle.word_lap.specs.Turning.{reads_held}
use Rattle.word_lap.proofs.Lapped.{kept_as}
use Rattle.word_lap.proofs.MadeOn.{MadeBehind, all_joined, all_weaker, made_behind, made_joined, made_same, marks_joined, marks_same, tells_joined, told_under, under_which}
use Rattle.word_lap.proofs.Reports.{begins_through}
use Rattle.word_lap.proofs.TurnsOfLap.{went_still}

-- ---- what a member has learnt of

pub knows_on : (a b c : MemberView) → KnowsMore a b → KnowsMore b c → KnowsMore a c
knows_on a b c first second = record { learnt = begins_through a.seen b.seen c.seen first.learnt second.learnt; number = second.number ∙ first.number }

pub knows_by : (a b : MemberView) → TurnsNone a b → KnowsMore a b
knows_by a b h = record { learnt = h.learnt; number = h.number }

module _ (functions : List Mfa) (a b c : MemberView) (g : ℕ) where
  pub reported_later : KnowsMore b c → IsReported functions a b g → IsReported functions a c g
  reported_later more h = record { old = h.old; new = h.new; behind = h.behind; reports = h.reports; before = knows_on h.new b c h.before more }

  pub reported_sooner : KnowsMore a b → IsReported functions b c g → IsReported functions a c g
  reported_sooner more h = record { old = h.old; new = h.new; behind = knows_on a b h.old more h.behind; reports = h.reports; before = h.before }

  -- the generation is one that the member has learnt of
  pub reported_below : IsReported functions a b g → g < length b.seen
  reported_below h = let newest = h.reports.newest in let some = h.reports.some in shorter h.new.seen b.seen h.before.learnt g (omega (arith, newest, some))

-- what the last report made known
pub reported_now : (functions : List Mfa) (a b c : MemberView) (generation : ℕ) → TurnsNone a b → HoldsReported (IsServed functions) b c generation → IsReported functions a c c.member.generation
reported_now functions a b c generation none r =
    let held : c.member.generation ≡ generation = ap (λ (m : MemberView). m.member.generation) r.view ∙ sym r.newest in
    subst (IsReported functions a c) (sym held)
    (record { old = b; new = c; behind = knows_by a b none; reports = r; before = record { learnt = ([], sym (append-nil c.seen)); number = refl } })

-- a member that waited and has reported had no turn meanwhile
pub none_reported : (Served : Published → Type 0) (before a b : MemberView) (generation : ℕ) → a ≡ now_waiting before → HoldsReported Served before b generation → TurnsNone a b
none_reported Served before a b generation waits r = subst (λ (m : MemberView). TurnsNone m b) (sym waits) (record {
  slots = ap (λ (m : MemberView). m.slots) r.view;
  learnt = r.learnt;
  notes = λ p published at. ap (λ (m : MemberView). note_in m.notes p) r.view ∙ at;
  number = ap (λ (m : MemberView). m.member.number) r.view;
})

reads_on : (functions : List Mfa) (a b : MemberView) → KnowsMore a b → (g : ℕ) → g < length a.seen → reads_under functions a.seen g ≡ reads_under functions b.seen g
reads_on functions a b more g below = ap (λ (x : Published). reads_in functions x.state) (sym (published_begins a.seen b.seen g more.learnt below))

-- an attempt to lead leaves marks
pub went_tried : (functions : List Mfa) (a b c : MemberView) (before after : List (Option ProcessRun)) → HasTried b c → HaveGoneOn functions a b before after → HaveGoneOn functions a c before after
went_tried functions a b c before after tried went = λ p place at.
    let gone = went p place at in
    (gone.0, (gone.1.0, went_still functions a b c p place gone.0 (ap (λ (slots : List ProcessSlot). (slot_in slots p).marks) tried.slots) gone.1.1))

-- ---- what is kept of one process

-- it is that of its place, its marks tell its turns, and its note has come
pub record Stood (functions : List Mfa) (m : MemberView) (p : ℕ) (run : ProcessRun) : Type 0 where
  pub number : run.process.number ≡ p
  pub turned : HasTurned functions m p (first_stand run) (stand_under m run)
  pub published : ℕ
  pub noted : note_in m.notes p ≡ Some published
  -- its next turn is under no generation before its note
  pub reaches : run.fin ≡ None → published ≤ m.member.generation

pub record HaveStood (functions : List Mfa) (m : MemberView) (processes : List (Option ProcessRun)) : Type 0 where
  pub held : (p : ℕ) (run : ProcessRun) → slice_get processes p ≡ Some (Some run) → Stood functions m p run
  pub none : (p : ℕ) → slice_get processes p ≡ Some None → (known_of m p).marks ≡ []

over_not : (fin : Option End) → fin ≡ None → IsSome fin → ⊥
over_not None is some = absurd (cc)
over_not (Some end) is some = none-some end (sym is)

reached : (functions : List Mfa) (opening : Opening) (m : MemberView) (p published : ℕ) (run : ProcessRun) → note_in m.notes p ≡ Some published → Rests functions opening m p run → run.fin ≡ None → published ≤ m.member.generation
reached functions opening m p published run noted (rests_going fin h) going = subst (λ (o : Option ℕ). HasNote o (under_of m)) noted h.knows.begins.run.noted
reached functions opening m p published run noted (rests_ended h) going = absurd (over_not run.fin going h.over)

pub kept_stood : (functions : List Mfa) (opening : Opening) (m : MemberView) (taken : List SpawnedProcess) (processes : List (Option ProcessRun)) → KeepsProcesses functions opening m taken processes → HaveStood functions m processes
kept_stood functions opening m taken processes h = record {
  held = λ p run at.
      let is = h.each p (Some run) at in
      let own = is.1.1.1 in
      record { number = own.number; turned = own.turns; published = is.0.published; noted = own.noted; reaches = reached functions opening m p is.0.published run own.noted own.rests };
  none = λ p at. (h.each p None at).0.marks;
}

-- a member that waits knows the same
pub waiting_stood : (functions : List Mfa) (m w : MemberView) (processes : List (Option ProcessRun)) → w ≡ now_waiting m → HaveStood functions m processes → HaveStood functions w processes
waiting_stood functions m w processes waits h = subst (λ (x : MemberView). HaveStood functions x processes) (sym waits) (record {
  held = λ p run at.
      let s = h.held p run at in
      record {
        number = s.number;
        turned = record { generations = s.turned.generations; made = s.turned.made; placed = s.turned.placed; learnt = s.turned.learnt; marks = s.turned.marks };
        published = s.published;
        noted = s.noted;
        reaches = s.reaches;
      };
  none = h.none;
})

-- ---- marks that joined tell the turns since

module _ (functions : List Mfa) (since b : MemberView) (p : ℕ) (had : List Mark) (x y : Stand) (marks : List Mark) where
  abbrev own_reads : ℕ → Reads
  own_reads = reads_under functions b.seen

  -- the process had turned from its first stand, and what it made then is told by the marks that it had
  pub turns_told : (first : Stand) → HasTurned functions b p first y → TurnsMade own_reads (under_which (reverse had)) first x → (known_of b p).marks ≡ marks ++ had
      → AllByRecursion (IsReported functions since b) (under_which (reverse marks)) → ((published : ℕ) → note_in b.notes p ≡ Some published → AllByRecursion (λ g. published ≤ g) (under_which (reverse marks)))
      → HadTurnsSince functions since b p had x y
  turns_told first turned before joined reported reach =
      let all : MarksTell (reverse had ++ reverse marks) (marks_made own_reads turned.generations first) =
      subst (λ (ms : List Mark). MarksTell ms (marks_made own_reads turned.generations first)) (ap reverse joined ∙ reverse-append marks had) turned.marks in
      let behind : MadeBehind own_reads (reverse marks) x y = made_behind own_reads (reverse had) (reverse marks) turned.generations first y x all turned.made before in
      record { generations = under_which (reverse marks); reported = reported; reach = reach; made = behind.made; marks = marks; joined = joined; told = behind.told }

-- so it is where the process had turned before, by what the member knew then
turned_before : (functions : List Mfa) (a b : MemberView) (p : ℕ) (first x : Stand) → KnowsMore a b → HasTurned functions a p first x → TurnsMade (reads_under functions b.seen) (under_which (reverse (known_of a p).marks)) first x
turned_before functions a b p first x more h =
    subst (λ (gs : List ℕ). TurnsMade (reads_under functions b.seen) gs first x) (sym (told_under (reads_under functions a.seen) (reverse (known_of a p).marks) h.generations first h.marks))
    (made_same (λ g. g < length a.seen) (reads_under functions a.seen) (reads_under functions b.seen) (reads_on functions a b more) h.generations first x h.learnt h.made)

none_few : 0 < 1
none_few = omega arith

one_few : 1 ≤ 1
one_few = omega arith

some_joined : (first later : List ℕ) → 0 < length first → 0 < length (first ++ later)
some_joined first later some = omega (arith, some, length-append first later)

few_joined : (n k : ℕ) (first later : List ℕ) → length first ≤ n → length later ≤ k → length (first ++ later) ≤ n + k
few_joined n k first later few more = omega (arith, few, more, length-append first later)

-- ---- no lap

module _ (functions : List Mfa) (a b : MemberView) (processes : List (Option ProcessRun)) (before : HaveStood functions a processes) (now : HaveStood functions b processes) (none : TurnsNone a b) where
  same_marks : (p : ℕ) → (known_of b p).marks ≡ (known_of a p).marks
  same_marks p = ap (λ (slots : List ProcessSlot). (slot_in slots p).marks) none.slots

  -- none had a turn, and none came
  pub no_laps : HadLaps functions 0 a b processes processes
  unfolding turns_told
  no_laps = record {
    knows = knows_by a b none;
    held = λ p run at.
        let was = before.held p run at in (
          run,
          (
            at,
            record {
              same = refl;
              turns = turns_told functions a b p (known_of a p).marks (stand_under a run) (stand_under b run) [] (first_stand run) (now.held p run at).turned
                  (turned_before functions a b p (first_stand run) (stand_under a run) (knows_by a b none) was.turned) (same_marks p) tt (λ published noted. tt);
              all = inl refl;
              published = was.published;
              noted = was.noted;
              noted_still = none.notes p was.published was.noted;
            },
          ),
        );
    came = λ p left free at. absurd (none-some left (same_Some None (Some left) (sym free ∙ at)));
    many = refl;
  }

-- ---- one lap

module _ (functions : List Mfa) (a b c : MemberView) (processes mid after : List (Option ProcessRun)) (before : HaveStood functions a processes) (between : HaveStood functions b mid) (now : HaveStood functions c after)
    (came : HaveCome a b processes mid) (reported : IsReported functions a b b.member.generation) (same : HoldsAsBefore b c) (went : HaveGoneOn functions b c mid after) where
  later : KnowsMore b c
  later = record { learnt = ([], same.seen ∙ sym (append-nil b.seen)); number = same.number }

  all_known : KnowsMore a c
  all_known = knows_on a b c (knows_by a b came.none) later

  marks_before : (p : ℕ) → (known_of b p).marks ≡ (known_of a p).marks
  marks_before p = ap (λ (slots : List ProcessSlot). (slot_in slots p).marks) came.none.slots

  notes_after : (p : ℕ) → note_in c.notes p ≡ note_in b.notes p
  notes_after p = ap (λ (ns : List NoteNumber). note_in ns p) same.notes

  module _ (p : ℕ) (run left : ProcessRun) (at : slice_get processes p ≡ Some (Some run)) (here : slice_get mid p ≡ Some (Some run)) (there : slice_get after p ≡ Some (Some left)) where
    was : Stood functions a p run
    was = before.held p run at

    is : Stood functions c p left
    is = now.held p left there

    noted_last : note_in c.notes p ≡ Some was.published
    noted_last = notes_after p ∙ came.none.notes p was.published was.noted

    turned_so : (marks : List Mark) → first_stand left ≡ first_stand run → (known_of c p).marks ≡ marks ++ (known_of a p).marks → AllByRecursion (IsReported functions a c) (under_which (reverse marks))
        → ((published : ℕ) → note_in c.notes p ≡ Some published → AllByRecursion (λ n. published ≤ n) (under_which (reverse marks)))
        → HadTurnsSince functions a c p (known_of a p).marks (stand_under a run) (stand_under c left)
    turned_so marks first joined each reach =
        turns_told functions a c p (known_of a p).marks (stand_under a run) (stand_under c left) marks (first_stand run)
        (subst (λ (s : Stand). HasTurned functions c p s (stand_under c left)) first is.turned)
        (turned_before functions a c p (first_stand run) (stand_under a run) all_known was.turned) joined each reach

    -- one that has ended stays
    rested_one : left ≡ run → IsSome run.fin → (known_of c p).marks ≡ (known_of b p).marks → HadEachLap functions 1 a c p run left
    unfolding turned_so turns_told
    rested_one stays over marks = record {
      same = ap first_stand stays;
      turns = turned_so [] (ap first_stand stays) (marks ∙ marks_before p) tt (λ published noted. tt);
      all = inr (none_few, subst (λ (r : ProcessRun). IsSome r.fin) (sym stays) over);
      published = was.published;
      noted = was.noted;
      noted_still = noted_last;
    }

    reach_one : run.fin ≡ None → (published : ℕ) → note_in c.notes p ≡ Some published → published ≤ b.member.generation
    reach_one going published noted =
        let mine = between.held p run here in
        let same_note : mine.published ≡ published = same_Some mine.published published (sym mine.noted ∙ sym (notes_after p) ∙ noted) in
        subst (λ (n : ℕ). n ≤ b.member.generation) same_note (mine.reaches going)

    -- one that goes on has one turn
    turned_one : run.fin ≡ None → first_stand left ≡ first_stand run → (mark : HasOneMark b.member.generation b c p (stand_under b left)) → HadEachLap functions 1 a c p run left
    unfolding turned_so turns_told
    turned_one going first mark = record {
      same = first;
      turns = turned_so (record { generation = b.member.generation; anchors = mark.anchors } ∷ []) first
          (mark.joined ∙ ap (λ (ms : List Mark). record { generation = b.member.generation; anchors = mark.anchors } ∷ ms) (marks_before p))
          (reported_later functions a b c b.member.generation later reported, tt) (λ published noted. (reach_one going published noted, tt));
      all = inl refl;
      published = was.published;
      noted = was.noted;
      noted_still = noted_last;
    }

  first_on : (p : ℕ) (run left : ProcessRun) → run.process.number ≡ p → left.process.number ≡ p → stand_under b left ≡ turned_by (reads_held functions b) b.member.generation (stand_under b run) → first_stand left ≡ first_stand run
  first_on p run left number number_left stands =
      let kept = kept_as (reads_held functions b) (stand_under b run).process in
      let target : left.process.target ≡ run.process.target = ap (λ (s : Stand). s.process.target) stands ∙ kept.0 in
      let args : left.process.args ≡ run.process.args = ap (λ (s : Stand). s.process.args) stands ∙ kept.1 in
      let numbers : left.process.number ≡ run.process.number = number_left ∙ sym number in
      λ i. going_stand (numbers i) (target i) (args i)

  -- what stands at the place of one that stood there
  held_went : (p : ℕ) (run : ProcessRun) (left : Option ProcessRun) → slice_get processes p ≡ Some (Some run) → slice_get mid p ≡ Some (Some run) → slice_get after p ≡ Some left → WentOnAt functions b c p (Some run) left
      → (one : ProcessRun) × ((slice_get after p ≡ Some (Some one)) × HadEachLap functions 1 a c p run one)
  held_went p run left at here there (stayed over is marks) =
      let there_still = there ∙ ap (λ (o : Option ProcessRun). Some o) is in
      (run, (there_still, rested_one p run run at here there_still refl over marks))
  held_went p run left at here there (went_on own one from going is stands mark) =
      let there_now = there ∙ ap (λ (o : Option ProcessRun). Some o) is in
      let own_is : own ≡ run = same_Some own run (sym from) in
      let stands_so : stand_under b one ≡ turned_by (reads_held functions b) b.member.generation (stand_under b run) = stands ∙ ap (λ (r : ProcessRun). turned_by (reads_held functions b) b.member.generation (stand_under b r)) own_is in
      let first : first_stand one ≡ first_stand run = first_on p run one (before.held p run at).number (now.held p one there_now).number stands_so in
      (one, (there_now, turned_one p run one at here there_now (ap (λ (r : ProcessRun). r.fin) (sym own_is) ∙ going) first mark))

  held_mid : (p : ℕ) (run : ProcessRun) (place : Option ProcessRun) → slice_get mid p ≡ Some place → CameAt (Some run) place → slice_get mid p ≡ Some (Some run)
  held_mid p run place at (as_before is) = at ∙ ap (λ (o : Option ProcessRun). Some o) is
  held_mid p run place at (came_here other none now new) = absurd (none-some run (sym none))

  -- what came had its first turn
  newcomer_had : (p : ℕ) (run left : ProcessRun) → slice_get processes p ≡ Some None → slice_get mid p ≡ Some (Some run) → slice_get after p ≡ Some (Some left) → run.fin ≡ None → HasOneMark b.member.generation b c p (stand_under b left)
      → HadFirstTurn functions 1 a c p left
  unfolding turns_told
  newcomer_had p run left free here there going mark =
      let is = now.held p left there in
      let mine = between.held p run here in
      let joined : (known_of c p).marks ≡ (record { generation = b.member.generation; anchors = mark.anchors } ∷ []) ++ [] =
      mark.joined ∙ ap (λ (ms : List Mark). record { generation = b.member.generation; anchors = mark.anchors } ∷ ms) (marks_before p ∙ before.none p free) in
      let reach : (published : ℕ) → note_in c.notes p ≡ Some published → published ≤ b.member.generation = λ published noted.
      subst (λ (n : ℕ). n ≤ b.member.generation) (same_Some mine.published published (sym mine.noted ∙ sym (notes_after p) ∙ noted)) (mine.reaches going) in
      record {
        turns = turns_told functions a c p [] (first_stand left) (stand_under c left) (record { generation = b.member.generation; anchors = mark.anchors } ∷ []) (first_stand left) is.turned refl joined
            (reported_later functions a b c b.member.generation later reported, tt) (λ published noted. (reach published noted, tt));
        some = none_few;
        few = one_few;
        published = is.published;
        noted = is.noted;
      }

  came_went : (p : ℕ) (left : ProcessRun) (place last : Option ProcessRun) → slice_get processes p ≡ Some None → slice_get mid p ≡ Some place → CameAt None place → slice_get after p ≡ Some last → slice_get after p ≡ Some (Some left) → WentOnAt functions b c p place last
      → HadFirstTurn functions 1 a c p left
  came_went p left place last free here (as_before none) there there_left (stayed over stays marks) = absurd (none-some left (sym (stays ∙ none) ∙ same_Some last (Some left) (sym there ∙ there_left)))
  came_went p left place last free here (as_before none) there there_left (went_on own one from going is stands mark) = absurd (none-some own (sym none ∙ from))
  came_went p left place last free here (came_here run none now_is new) there there_left (stayed over is marks) = absurd (over_not run.fin new.going (subst IsOverAt now_is over))
  came_went p left place last free here (came_here run none now_is new) there there_left (went_on own one from going is stands mark) =
      let one_is : one ≡ left = same_Some one left (sym is ∙ same_Some last (Some left) (sym there ∙ there_left)) in
      newcomer_had p run left free (here ∙ ap (λ (o : Option ProcessRun). Some o) now_is) there_left new.going (subst (λ (r : ProcessRun). HasOneMark b.member.generation b c p (stand_under b r)) one_is mark)

  pub one_lap : length after ≡ length processes → HadLaps functions 1 a c processes after
  one_lap many = record {
    knows = all_known;
    held = λ p run at.
        let at_mid = came.places p (Some run) at in
        let here = held_mid p run at_mid.0 at_mid.1.0 at_mid.1.1 in
        let gone = went p (Some run) here in
        held_went p run gone.0 at here gone.1.0 gone.1.1;
    came = λ p left free there.
        let at_mid = came.places p None free in
        let gone = went p at_mid.0 at_mid.1.0 in
        came_went p left at_mid.0 gone.0 free at_mid.1.0 at_mid.1.1 gone.1.0 there gone.1.1;
    many = many;
  }

-- ---- laps behind laps

module _ (functions : List Mfa) (a b c : MemberView) (p : ℕ) (sooner : KnowsMore a b) (later : KnowsMore b c) where
  module _ (had : List Mark) (x y z : Stand) (one : HadTurnsSince functions a b p had x y) (two : HadTurnsSince functions b c p (known_of b p).marks y z)
      (noted : (published : ℕ) → note_in c.notes p ≡ Some published → note_in b.notes p ≡ Some published) where
    abbrev reads_then : ℕ → Reads
    reads_then = reads_under functions b.seen

    abbrev reads_now : ℕ → Reads
    reads_now = reads_under functions c.seen

    below : AllByRecursion (λ g. g < length b.seen) one.generations
    below = all_weaker (IsReported functions a b) (λ g. g < length b.seen) (λ g. reported_below functions a b b g) one.generations one.reported

    first_made : TurnsMade reads_now one.generations x y
    first_made = made_same (λ g. g < length b.seen) reads_then reads_now (reads_on functions b c later) one.generations x y below one.made

    first_told : MarksTell (reverse one.marks) (marks_made reads_now one.generations x)
    first_told = subst (MarksTell (reverse one.marks)) (marks_same (λ g. g < length b.seen) reads_then reads_now (reads_on functions b c later) one.generations x below) one.told

    pub turns_on : HadTurnsSince functions a c p had x z
    turns_on = record {
      generations = one.generations ++ two.generations;
      reported = all_joined (IsReported functions a c) one.generations two.generations
          (all_weaker (IsReported functions a b) (IsReported functions a c) (λ g. reported_later functions a b c g later) one.generations one.reported)
          (all_weaker (IsReported functions b c) (IsReported functions a c) (λ g. reported_sooner functions a b c g sooner) two.generations two.reported);
      reach = λ published at. all_joined (λ g. published ≤ g) one.generations two.generations (one.reach published (noted published at)) (two.reach published at);
      made = made_joined reads_now one.generations two.generations x y z first_made two.made;
      marks = two.marks ++ one.marks;
      joined = two.joined ∙ ap (λ (ms : List Mark). two.marks ++ ms) one.joined ∙ sym (append_assoc two.marks one.marks had);
      told = subst (λ (ms : List Mark). MarksTell ms (marks_made reads_now (one.generations ++ two.generations) x)) (sym (reverse-append two.marks one.marks))
          (subst (MarksTell (reverse one.marks ++ reverse two.marks)) (sym (marks_joined reads_now one.generations two.generations x y first_made))
          (tells_joined (reverse one.marks) (reverse two.marks) (marks_made reads_now one.generations x) (marks_made reads_now two.generations y) first_told two.told));
    }

-- a process that has ended has no turn more, and has ended still
going_ended : (fin : Option End) → IsSome fin → phase_of fin ≡ Going → ⊥
going_ended None over is = absurd (cc)
going_ended (Some end) over is = ended_goes (ap is_going is)
  where
    is_going : Phase → Bool
    is_going Going = true
    is_going phase = false

    ended_goes : false ≡ true → ⊥
    ended_goes e = absurd (cc)

over_by : (fin other : Option End) → IsSome fin → phase_of other ≡ phase_of fin → IsSome other
over_by fin None over is = absurd (going_ended fin over (sym is))
over_by fin (Some end) over is = refl

none_more : (reads : ℕ → Reads) (generations : List ℕ) (x y : Stand) (fin : Option End) → IsSome fin → x.phase ≡ phase_of fin → TurnsMade reads generations x y → (length generations ≡ 0) × (y ≡ x)
none_more reads [] x y fin over is made = (refl, made)
none_more reads (g ∷ generations) x y fin over is made = absurd (going_ended fin over (sym is ∙ made.0))

module _ (functions : List Mfa) (n k : ℕ) (a b c : MemberView) where
  all_on : (first then : List ℕ) (left last : ProcessRun) → ((length first ≡ n) ⊎ ((length first < n) × IsSome left.fin)) → ((length then ≡ k) ⊎ ((length then < k) × IsSome last.fin))
      → TurnsMade (reads_under functions c.seen) then (stand_under b left) (stand_under c last) → (length (first ++ then) ≡ n + k) ⊎ ((length (first ++ then) < n + k) × IsSome last.fin)
  all_on first then left last (inl all) (inl more) made = inl (omega (arith, all, more, length-append first then))
  all_on first then left last (inl all) (inr few) made = inr (omega (arith, all, few.0, length-append first then), few.1)
  all_on first then left last (inr few) rest made =
      let none = none_more (reads_under functions c.seen) then (stand_under b left) (stand_under c last) left.fin few.1 refl made in
      inr (omega (arith, few.0, none.0, length-append first then), over_by left.fin last.fin few.1 (ap (λ (s : Stand). s.phase) none.1))

  same_note : (p published other : ℕ) → note_in b.notes p ≡ Some published → note_in c.notes p ≡ Some published → note_in c.notes p ≡ Some other → note_in b.notes p ≡ Some other
  same_note p published other before now at = before ∙ sym now ∙ at

  each_on : (p : ℕ) (run left last : ProcessRun) → KnowsMore a b → KnowsMore b c → HadEachLap functions n a b p run left → HadEachLap functions k b c p left last → HadEachLap functions (n + k) a c p run last
  unfolding turns_on
  each_on p run left last sooner later one two = record {
    same = two.same ∙ one.same;
    turns = turns_on functions a b c p sooner later (known_of a p).marks (stand_under a run) (stand_under b left) (stand_under c last) one.turns two.turns (λ published at. same_note p two.published published two.noted two.noted_still at);
    all = all_on one.turns.generations two.turns.generations left last one.all two.all two.turns.made;
    published = one.published;
    noted = one.noted;
    noted_still = two.noted_still ∙ sym two.noted ∙ one.noted_still;
  }

  all_within : (generations : List ℕ) (left : ProcessRun) → ((length generations ≡ k) ⊎ ((length generations < k) × IsSome left.fin)) → length generations ≤ k
  all_within generations left (inl all) = omega (arith, all)
  all_within generations left (inr few) = omega (arith, few.0)

  first_on_later : (p : ℕ) (left last : ProcessRun) → KnowsMore a b → KnowsMore b c → HadFirstTurn functions n a b p left → HadEachLap functions k b c p left last → HadFirstTurn functions (n + k) a c p last
  unfolding turns_on
  first_on_later p left last sooner later one two =
      let turns = turns_on functions a b c p sooner later [] (first_stand left) (stand_under b left) (stand_under c last) one.turns two.turns (λ published at. same_note p two.published published two.noted two.noted_still at) in
      let within = all_within two.turns.generations last two.all in
      record {
        turns = record {
          generations = turns.generations;
          reported = turns.reported;
          reach = turns.reach;
          made = subst (λ (s : Stand). TurnsMade (reads_under functions c.seen) turns.generations s (stand_under c last)) (sym two.same) turns.made;
          marks = turns.marks;
          joined = turns.joined;
          told = subst (λ (s : Stand). MarksTell (reverse turns.marks) (marks_made (reads_under functions c.seen) turns.generations s)) (sym two.same) turns.told;
        };
        some = some_joined one.turns.generations two.turns.generations one.some;
        few = few_joined n k one.turns.generations two.turns.generations one.few within;
        published = two.published;
        noted = two.noted_still;
      }

  first_later : (p : ℕ) (left : ProcessRun) → KnowsMore a b → HadFirstTurn functions k b c p left → HadFirstTurn functions (n + k) a c p left
  first_later p left sooner h = record {
    turns = record {
      generations = h.turns.generations;
      reported = all_weaker (IsReported functions b c) (IsReported functions a c) (λ g. reported_sooner functions a b c g sooner) h.turns.generations h.turns.reported;
      reach = h.turns.reach;
      made = h.turns.made;
      marks = h.turns.marks;
      joined = h.turns.joined;
      told = h.turns.told;
    };
    some = h.some;
    few = omega (arith, h.few);
    published = h.published;
    noted = h.noted;
  }

  module _ (before mid after : List (Option ProcessRun)) (one : HadLaps functions n a b before mid) (two : HadLaps functions k b c mid after) where
    came_on : (p : ℕ) (last : ProcessRun) (place : Option ProcessRun) → slice_get before p ≡ Some None → slice_get mid p ≡ Some place → slice_get after p ≡ Some (Some last) → HadFirstTurn functions (n + k) a c p last
    came_on p last None free here there = first_later p last one.knows (two.came p last here there)
    came_on p last (Some left) free here there =
        let then = two.held p left here in
        let same : then.0 ≡ last = same_Some then.0 last (same_Some (Some then.0) (Some last) (sym then.1.0 ∙ there)) in
        first_on_later p left last one.knows two.knows (one.came p left free here) (subst (λ (r : ProcessRun). HadEachLap functions k b c p left r) same then.1.1)

    pub laps_on : HadLaps functions (n + k) a c before after
    laps_on = record {
      knows = knows_on a b c one.knows two.knows;
      held = λ p run at.
          let first = one.held p run at in
          let then = two.held p first.0 first.1.0 in
          (then.0, (then.1.0, each_on p run first.0 then.0 one.knows two.knows first.1.1 then.1.1));
      came = λ p last free there.
          let here = get_within mid p (let low = slice_get_within before p None free in omega (arith, low, one.many)) in
          came_on p last here.0 free here.1 there;
      many = two.many ∙ one.many;
    }
