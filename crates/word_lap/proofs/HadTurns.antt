-- What is known of a process and of its member once its turn and the mark of it are done.
use Rattle.std.proofs.Common.{◌≡◌, ◌≢◌, ℕ, suc, ◌+◌, ◌≤◌, inl, inr, Bool, List, [], ◌∷◌, ◌++◌, length, map, Option, Some, None, Result, IsSome, refl, sym, ap, subst, ◌∙◌, arith}
use Rattle.std.specs.Prelude.{IfOk, if◌then◌else◌}
use Rattle.std.specs.List.{AllByRecursion}
use Rattle.std.proofs.lemmas.Bool.{cases_Bool}
use Rattle.std.proofs.lemmas.List.{length-map, length-reverse}
use Rattle.std.proofs.lemmas.Option.{none-some}
use Rattle.atomic_table.specs.Seated.{TableId}
use Rattle.term_core.specs.declared.atom.Mfa.{Mfa}
use Rattle.term_core.specs.declared.hold.Kind.{Kind}
use Rattle.term_core.specs.declared.hold.Kind.TheVariants.{Frame, Literal}
use Rattle.term_core.specs.declared.no_memory.NoMemory.{NoMemory}
use Rattle.area_core.specs.declared.table.Published.{Published}
use Rattle.area_core.specs.Generations.{serial_in}
use Rattle.marks.specs.declared.mark.Mark.{Mark}
use Rattle.marks.specs.declared.mark.ProcessView.{ProcessView}
use Rattle.marks.specs.Names.{HasAnchor, tells_kill}
use Rattle.marks.specs.Steps.{with_turn}
use Rattle.shared_words.specs.declared.opening.Opening.{Opening}
use Rattle.shared_words.specs.declared.seats.Member as tokens
use Rattle.shared_words.specs.declared.view.MemberView.{MemberView}
use Rattle.shared_words.specs.Processes.{held_by_view, process_of as known_of}
use Rattle.shared_words.specs.Slots.{with_slot}
use Rattle.shared_words.proofs.AnchorStores.{process_else, process_here}
use Rattle.anchors.specs.Holds.{HoldsAnchors, anchors_of, names_for, view_of}
use Rattle.machine_core.specs.declared.process.End.{End}
use Rattle.machine_core.specs.declared.process.End.TheVariants.{Killed, SystemLimit}
use Rattle.machine_core.specs.declared.process.Frame.{Frame as CodeFrame}
use Rattle.machine_core.specs.declared.process.Line.{Line}
use Rattle.machine_core.specs.declared.process.Process.{Process}
use Rattle.machine_core.specs.declared.process.TheConstants.{MOST_TURNS}
use Rattle.machine_core.specs.declared.process.TurnEnd.{TurnEnd}
use Rattle.machine_core.specs.declared.process.TurnEnd.TheVariants.{Again, Ended}
use Rattle.machine_core.specs.GenerationReads.{words_in}
use Rattle.machine_core.specs.Holds.{serials_of}
use Rattle.machine_core.specs.Process.{PlainProcess, Words, frame_names, frame_of, frames_of, names_of, process_of}
use Rattle.machine_core.specs.Turn.{MayTurn, turn_by}
use Rattle.machine_core.specs.View.{Shown}
use Rattle.machine_core.proofs.TurnLaws.{again_counts_by, limit_ends_by, turn_ended_by, turn_holds_by}
use Rattle.run_log.specs.declared.logs.Span.{Span}
use Rattle.run_log.proofs.ListPlaces.{all_push, all_weaker}
use Rattle.run_steps.specs.MadeTurns.{turned_by}
use Rattle.run_steps.specs.Stands.{phase_after, phase_of}
use Rattle.run_steps.specs.Turns.{IsTaken, joined}
use Rattle.word_view.specs.Anchored.{holds_by, named_for}
use Rattle.word_view.specs.Turned.{IsTurn}
use Rattle.word_view.specs.Views.{HasGoneOn, IsReader, IsView, Viewed, shown_by}
use Rattle.word_view.proofs.Lapping.{known_on}
use Rattle.word_lap.specs.declared.process_run.ProcessRun.{ProcessRun}
use Rattle.word_lap.specs.Reading.{stand_under}
use Rattle.word_lap.specs.Schedulers.{HasEnded, IsAtHand, MayGoOn}
use Rattle.word_lap.specs.Turning.{HadItsTurn, HasEndedWith, HasMarkedEnd, IsReady, JoinsTurn, fin_after, reads_held}
use Rattle.word_lap.proofs.Spans.{few_taken, joined_with}
use Rattle.word_lap.proofs.TakenTurns.{number_kept, on_ok}
use Rattle.word_lap.proofs.TurnEnds.{marks_ended}

-- ---- views that differ in slots and words found

IsLike : MemberView → MemberView → Type 0
IsLike m n = n ≡ record m { slots = n.slots; blocks = n.blocks }

like_on : (m n o : MemberView) → IsLike m n → IsLike n o → IsLike m o
unfolding IsLike
like_on m n o first second = second ∙ ap (λ (x : MemberView). record x { slots = o.slots; blocks = o.blocks }) first

-- ---- names

-- anchors that hold nothing name nothing
pub none_named_for : (kind : Kind) (anchors : List ℕ) → ((serial : ℕ) → HoldsAnchors kind anchors serial → ⊥) → named_for kind anchors ≡ []
none_named_for kind [] empty = refl
none_named_for kind (word ∷ words) empty =
    elim (cases_Bool (names_for kind word (serial_in word))) as (λ _. named_for kind (word ∷ words) ≡ []) [
      | inl names ↦ absurd (empty (serial_in word) (record { place = 0; word = word; at = refl; passes = names }))
      | inr not_so ↦ ap (λ (b : Bool). if b then serial_in word ∷ named_for kind words else named_for kind words) not_so
          ∙ none_named_for kind words (λ serial held. empty serial (record { place = suc held.place; word = held.word; at = held.at; passes = held.passes }))
    ]

none_reversed : (fs : List CodeFrame) (words : Words) → frames_of words fs ≡ [] → fs ≡ []
none_reversed [] words e = refl
none_reversed (f ∷ fs) words e = absurd (omega (arith, ap length e, length-reverse (map (frame_of words) (f ∷ fs)), length-map (f ∷ fs) (frame_of words)))

phase_end : (e : TurnEnd) → phase_of (fin_after e) ≡ phase_after e
phase_end Again = refl
phase_end (Ended fin) = refl

again_is : (e : TurnEnd) → fin_after e ≡ None → e ≡ Again
again_is Again is = refl
again_is (Ended fin) is = absurd (none-some fin (sym is))

-- what is known behind a turn of where areas stand
at_hand_of : (functions : List Mfa) (opening : Opening) (p : ℕ) (m : MemberView) → IsReader functions opening p m → IsAtHand functions opening p m
at_hand_of functions opening p m h = record {
  begins = record {
    run = h.run;
    unkilled = h.unkilled;
    apart = h.apart;
    served = h.served;
    areas = record { apart = h.areas; listed = λ serial used. let s = h.used serial used in (s.area, s.stands.listed, s.is) };
    named = λ serial anchor. let s = h.named serial anchor in (s.area, s.stands.listed, s.is);
  };
  named = h.named;
}

module _ (functions : List Mfa) (opening : Opening) (table : TableId) (a b : tokens.Member) (mc : MemberView) (before : ProcessRun) (p : Process) (span : Span) (others : List Span) (lines : List Line) (end : TurnEnd) where
  abbrev number : ℕ
  number = before.process.number

  abbrev seen_by : tokens.Member → Viewed
  seen_by token = record { table = table; opening = opening; token = token; names = functions; process = number }

  abbrev ma : MemberView
  ma = view_of a

  abbrev mb : MemberView
  mb = view_of b

  abbrev shown : Shown
  shown = shown_by functions (held_by_view ma)

  abbrev stood : PlainProcess
  stood = process_of shown.words before.process

  abbrev after : ProcessRun
  after = record { process = p; spans = others ++ record { generation = span.generation; turns = span.turns + 1; lines = lines } ∷ []; fin = fin_after end }

  module _ (ready : IsReady functions opening ma before) (viewed : IsView (seen_by b)) (gone : HasGoneOn (seen_by a) (seen_by b)) (turn : IsTurn shown (holds_by (anchors_of mb number)) before.process p span.lines lines end) (taken : IsTaken ma.member.generation before.spans others span) (h : HasMarkedEnd number p.turns end mb mc) where
    abbrev md : MemberView
    md = h.ended

    -- ---- the views

    like_b : IsLike ma mb
    unfolding IsLike
    like_b = gone.stored.same

    like_by : (e : TurnEnd) → HasEndedWith number e mb md → IsLike mb md
    unfolding IsLike
    like_by Again ends = subst (λ (m : MemberView). m ≡ record mb { slots = m.slots; blocks = m.blocks }) (sym ends) refl
    like_by (Ended fin) ends = subst (λ (m : MemberView). m ≡ record mb { slots = m.slots; blocks = m.blocks }) (sym ends.stored.same) refl

    like_c : IsLike md mc
    unfolding IsLike
    like_c = subst (λ (m : MemberView). m ≡ record md { slots = m.slots; blocks = m.blocks }) (sym h.marked) refl

    like_all : mc ≡ record ma { slots = mc.slots; blocks = mc.blocks }
    unfolding IsLike
    like_all = like_on ma mb mc like_b (like_on mb md mc (like_by end h.ends) like_c)

    generation_d : md.member.generation ≡ ma.member.generation
    unfolding IsLike
    generation_d = ap (λ (m : MemberView). m.member.generation) (like_by end h.ends) ∙ ap (λ (m : MemberView). m.member.generation) like_b

    held_c : held_by_view mc ≡ held_by_view ma
    held_c = ap held_by_view like_all

    known_c : known_of mc number ≡ with_turn (known_of md number) md.member.generation p.turns
    known_c = ap (λ (m : MemberView). known_of m number) h.marked ∙ process_here number 0 p.turns md

    anchors_c : anchors_of mc number ≡ anchors_of md number
    anchors_c = ap (λ (x : ProcessView). x.slot.anchors) known_c

    marks_d : (known_of md number).marks ≡ (known_of ma number).marks
    marks_d = marks_ended number end mb md h.ends ∙ ap (λ (x : ProcessView). x.marks) gone.stored.slot

    abbrev mark_of : ℕ → List ℕ → Mark
    mark_of generation anchors = record { generation = generation; anchors = anchors }

    marks_c : (known_of mc number).marks ≡ mark_of ma.member.generation (anchors_of mc number) ∷ (known_of ma number).marks
    marks_c = ap (λ (x : ProcessView). x.marks) known_c ∙ (λ i. mark_of (generation_d i) (sym anchors_c i) ∷ marks_d i)

    others_by : (e : TurnEnd) → HasEndedWith number e mb md → (other : ℕ) → other ≢ number → known_of md other ≡ known_of mb other
    others_by Again ends other apart = ap (λ (m : MemberView). known_of m other) ends
    others_by (Ended fin) ends other apart = ends.stored.others other apart

    others_c : (other : ℕ) → other ≢ number → known_of mc other ≡ known_of ma other
    others_c other apart = ap (λ (m : MemberView). known_of m other) h.marked ∙ process_else number 0 p.turns md other apart ∙ others_by end h.ends other apart ∙ gone.stored.others other apart

    -- ---- the process

    stood_c : process_of (words_in (held_by_view mc).state) p ≡ (turn_by shown.reads stood).process
    stood_c = ap (λ (g : Published). process_of (words_in g.state) p) held_c ∙ sym turn.gives.process

    turn_c : stand_under mc after ≡ turned_by (reads_held functions ma) ma.member.generation (stand_under ma before)
    turn_c =
        let spans : after.spans ≡ joined ma.member.generation (turn_by shown.reads stood).made before.spans = joined_with ma.member.generation (turn_by shown.reads stood).made lines before.spans others span taken turn.gives.lines in
        let phase : phase_of (fin_after end) ≡ phase_after (turn_by shown.reads stood).end = phase_end end ∙ ap phase_after (sym turn.gives.end_is) in
        λ i. record { process = stood_c i; spans = spans i; phase = phase i }

    ends_at : (e : TurnEnd) → end ≡ e → HasEndedWith number e mb md
    ends_at e is = subst (λ (x : TurnEnd). HasEndedWith number x mb md) is h.ends

    ended_at : (e : TurnEnd) → end ≡ e → (turn_by shown.reads stood).end ≡ e
    ended_at e is = turn.gives.end_is ∙ is

    names_by : (e : TurnEnd) → end ≡ e → holds_by (anchors_of mc number) ≡ names_of (turn_by shown.reads stood).process
    names_by Again is =
        ap holds_by anchors_c ∙ ap (λ (m : MemberView). holds_by (anchors_of m number)) (ends_at Again is) ∙ turn.holds ∙ turn_holds_by shown.reads stood (ended_at Again is)
    names_by (Ended fin) is =
        let ends = ends_at (Ended fin) is in
        let frames = none_named_for Frame (anchors_of md number) (ends.empty Frame) in
        let literals = none_named_for Literal (anchors_of md number) (ends.empty Literal) in
        let none : holds_by (anchors_of md number) ≡ frame_names [] = λ i. record { frames = serials_of (frames i); literals = serials_of (literals i) } in
        ap holds_by anchors_c ∙ none ∙ sym (ap frame_names (turn_ended_by shown.reads stood fin (ended_at (Ended fin) is)))

    reader_c : end ≡ Again → IsReader functions opening number mc
    reader_c is =
        let reader_d : IsReader functions opening number md = subst (IsReader functions opening number) (sym (ends_at Again is)) viewed.reader in
        subst (IsReader functions opening number) (sym h.marked)
        ((known_on functions opening number md (with_slot number 0 p.turns md) refl (sym (ap (λ (m : MemberView). anchors_of m number) h.marked) ∙ anchors_c)).1 reader_d)

    again_c : fin_after end ≡ None → MayGoOn functions opening mc number after
    again_c going =
        let is = again_is end going in
        let ready_b = turn.again is in
        let more : p.turns ≡ before.process.turns + 1 = sym (ap (λ (x : PlainProcess). x.turns) turn.gives.process) ∙ again_counts_by shown.reads stood (ended_at Again is) in
        let few = few_taken before.process.turns ma.member.generation before.spans others span taken ready.spans.each in
        let below : before.process.turns ≢ MOST_TURNS = λ limit. limit_again (sym (ended_at Again is) ∙ limit_ends_by shown.reads stood limit) in
        record {
          knows = at_hand_of functions opening number mc (reader_c is);
          turn =
              subst (λ (g : Published). MayTurn (shown_by functions g) (holds_by (anchors_of mc number)) p) (sym held_c)
              (subst (λ (xs : List ℕ). MayTurn (shown_by functions (held_by_view ma)) (holds_by xs) p) (sym (anchors_c ∙ ap (λ (m : MemberView). anchors_of m number) (ends_at Again is))) ready_b);
          counted = (let counted = ready.counted in let now = ap length marks_c in omega (arith, more, counted, now));
          spans = record {
            bound = (let most = ready.spans.bound in omega (arith, more, most, below));
            each = subst (λ (n : ℕ). AllByRecursion (λ (s : Span). s.turns ≤ n) after.spans) (sym more)
                (all_push (λ (s : Span). s.turns ≤ before.process.turns + 1) others (record { generation = span.generation; turns = span.turns + 1; lines = lines })
                (all_weaker (λ (s : Span). s.turns ≤ before.process.turns) (λ (s : Span). s.turns ≤ before.process.turns + 1) (λ s small. omega (arith, small)) others few.0) (let small = few.1 in omega (arith, small)));
          };
        }
      where
        limit_again : Again ≡ Ended SystemLimit → ⊥
        limit_again e = absurd (cc)

    over_by : (e : TurnEnd) → end ≡ e → IsSome (fin_after e) → HasEnded mc number after
    over_by Again is over = absurd (cc)
    over_by (Ended fin) is over =
        let ends = ends_at (Ended fin) is in
        let some : fin_after end ≡ Some fin = ap fin_after is in
        record {
          over = subst IsSome (sym some) refl;
          left = none_reversed p.frames shown.words (sym (ap (λ (x : PlainProcess). x.frames) turn.gives.process) ∙ turn_ended_by shown.reads stood fin (ended_at (Ended fin) is));
          empty = λ kind serial held. ends.empty kind serial (subst (λ (xs : List ℕ). HoldsAnchors kind xs serial) anchors_c held);
          killed = λ serial some_serial. (
            λ tells. some ∙ ap (λ (x : End). Some x) ((ends.killed serial some_serial).0 (subst (λ (xs : List ℕ). HasAnchor tells_kill xs serial) anchors_c tells)),
            λ ended. subst (λ (xs : List ℕ). HasAnchor tells_kill xs serial) (sym anchors_c) ((ends.killed serial some_serial).1 (same_end fin (Killed serial) (sym some ∙ ended))),
          );
        }
      where
        end_in : Option End → End
        end_in None = fin
        end_in (Some x) = x

        same_end : (x y : End) → Some x ≡ Some y → x ≡ y
        same_end x y e = ap end_in e

    pub had_its_turn : HadItsTurn functions opening ma mc before after
    had_its_turn = record {
      number = sym (ap (λ (x : PlainProcess). x.number) turn.gives.process) ∙ number_kept shown.reads stood;
      placed = ready.turn.placed;
      turn = turn_c;
      view = record { same = like_all; others = others_c };
      marks = marks_c;
      names_it = names_by end refl ∙ ap names_of (sym stood_c);
      again = again_c;
      over = over_by end refl;
    }

-- the turn of a process whose span was taken out, has had its turn, and was put back
pub had_taken : (functions : List Mfa) (opening : Opening) (table : TableId) (a c : tokens.Member) (before left : ProcessRun) (generation : ℕ) (span : Span) (others : List Span) → (view_of a).member.generation ≡ generation
    → IsReady functions opening (view_of a) before → IsTaken generation before.spans others span → JoinsTurn functions opening table a c span (record { process = before.process; spans = others; fin = before.fin }) left
    → HadItsTurn functions opening (view_of a) (view_of c) before left
had_taken functions opening table a c before left generation span others held ready taken j =
    subst (λ (x : ProcessRun). HadItsTurn functions opening (view_of a) (view_of c) before x) (sym j.joins)
    (had_its_turn functions opening table a j.made.mid (view_of c) before j.process span others j.lines j.end ready j.made.viewed j.made.gone j.made.turn
    (subst (λ (g : ℕ). IsTaken g before.spans others span) (sym held) taken) j.made.marked)

-- where there is memory for it
pub had_where_ok : (functions : List Mfa) (opening : Opening) (table : TableId) (a c : tokens.Member) (before left : ProcessRun) (generation : ℕ) (span : Span) (others : List Span) (r : Result (Unit {0}) NoMemory)
    → (view_of a).member.generation ≡ generation → IsReady functions opening (view_of a) before → IsTaken generation before.spans others span
    → IfOk r (λ _. JoinsTurn functions opening table a c span (record { process = before.process; spans = others; fin = before.fin }) left)
    → IfOk r (λ _. HadItsTurn functions opening (view_of a) (view_of c) before left)
had_where_ok functions opening table a c before left generation span others r held ready taken joins =
    on_ok r (JoinsTurn functions opening table a c span (record { process = before.process; spans = others; fin = before.fin }) left) (HadItsTurn functions opening (view_of a) (view_of c) before left)
    (had_taken functions opening table a c before left generation span others held ready taken) joins
