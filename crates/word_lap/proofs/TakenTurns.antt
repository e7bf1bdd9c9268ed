-- What a turn over the shared words leaves of a process and of what its member knows.
use Rattle.std.proofs.Common.{◌≡◌, ℕ, ◌+◌, ◌≤◌, inl, inr, Bool, true, false, List, [], ◌∷◌, ◌++◌, length, Result, Ok, Err, IsSome, refl, sym, ap, subst, ◌∙◌, arith}
use mathlib.Core.Logic.{dite}
use native.Mathlib.Decide.{ℕ_discrete}
use Rattle.std.specs.Prelude.{◌==◌, IfOk, if◌then◌else◌}
use Rattle.std.proofs.lemmas.Bool.{eq-eqb}
use Rattle.atomic_table.specs.Seated.{TableId}
use Rattle.term_core.specs.declared.atom.Mfa.{Mfa}
use Rattle.term_core.specs.declared.no_memory.NoMemory.{NoMemory}
use Rattle.term_core.specs.declared.hold.Kind.TheVariants.{Frame}
use Rattle.area_core.specs.declared.table.Published.{Published}
use Rattle.area_core.specs.Generations.{is_doomed_area}
use Rattle.marks.specs.declared.mark.ProcessView.{ProcessView}
use Rattle.shared_words.specs.declared.opening.Opening.{Opening}
use Rattle.shared_words.specs.declared.seats.Member as tokens
use Rattle.shared_words.specs.declared.view.MemberView.{MemberView}
use Rattle.shared_words.specs.Processes.{held_by_view, process_of as known_of}
use Rattle.anchors.specs.Holds.{IsUnkilled, MayRun, anchors_of, view_of}
use Rattle.anchors.specs.Turns.{LAST_TURN}
use Rattle.machine_core.specs.declared.process.End.TheVariants.{Killed, SystemLimit}
use Rattle.machine_core.specs.declared.process.Line.{Line}
use Rattle.machine_core.specs.declared.process.Process.{Process}
use Rattle.machine_core.specs.declared.process.TheConstants.{MOST_TURNS}
use Rattle.machine_core.specs.declared.process.TurnEnd.{TurnEnd}
use Rattle.machine_core.specs.declared.process.TurnEnd.TheVariants.{Again, Ended}
use Rattle.machine_core.specs.Holds.{Holds as HoldsOf, is_among}
use Rattle.machine_core.specs.Process.{PlainProcess, process_of}
use Rattle.machine_core.specs.Reads.{Reads}
use Rattle.machine_core.specs.Turn.{ran_of, turn_by, turn_from}
use Rattle.machine_core.specs.View.{Shown}
use Rattle.machine_core.proofs.Killing.{killed_for}
use Rattle.machine_core.proofs.TurnLaws.{limit_ends_by, turn_counts_by}
use Rattle.run_log.specs.declared.logs.Span.{Span}
use Rattle.run_steps.specs.Turns.{IsTaken}
use Rattle.word_view.specs.Anchored.{holds_by}
use Rattle.word_view.specs.Turned.{IsTurn}
use Rattle.word_view.specs.Views.{HasGoneOn, IsReading, IsView, MayBegin, Viewed, shown_by}
use Rattle.word_view.proofs.Anchoring.{held_names}
use Rattle.word_lap.specs.declared.process_run.ProcessRun.{ProcessRun}
use Rattle.word_lap.specs.Schedulers.{IsToken}
use Rattle.word_lap.specs.Turning.{CountsOn, HasMarkedEnd, IsReady, JoinsTurn, MadeTurn, MayEndWith, fin_after}
use Rattle.word_lap.proofs.Spans.{few_taken}

-- ---- before the turn

pub reading_of : (functions : List Mfa) (opening : Opening) (table : TableId) (number : ℕ) (token : tokens.Member) → IsToken table token → MayBegin functions opening number (view_of token) → IsReading token.root (view_of token)
reading_of functions opening table number token h begins = record { awake = begins.run.awake; rooted = h.rooted }

-- ---- behind it

-- the number of a process stays
pub number_kept : (r : Reads) (p : PlainProcess) → (turn_by r p).process.number ≡ p.number
number_kept r p = by_test (p.turns == MOST_TURNS)
  where
    by_test : (b : Bool) → (turn_from (if b then p else record p { turns = p.turns + 1 }) (ran_of r p)).process.number ≡ p.number
    by_test true = refl
    by_test false = refl

-- at the limit so does the count
turns_kept : (r : Reads) (p : PlainProcess) → p.turns ≡ MOST_TURNS → (turn_by r p).process.turns ≡ p.turns
turns_kept r p is = ap (λ (b : Bool). (turn_from (if b then p else record p { turns = p.turns + 1 }) (ran_of r p)).process.turns) (eq-eqb p.turns MOST_TURNS is)

module _ (functions : List Mfa) (opening : Opening) (table : TableId) (b : tokens.Member) (number : ℕ) (viewed : IsView (record { table = table; opening = opening; token = b; names = functions; process = number })) where
  pub turned_token : IsToken table b
  turned_token = record { seat = viewed.token; copied = viewed.copied; rooted = viewed.reading.rooted }

  pub turned_run : MayRun opening number (view_of b)
  turned_run = viewed.reader.run

  pub turned_unkilled : IsUnkilled (anchors_of (view_of b) number)
  turned_unkilled = viewed.reader.unkilled

module _ (functions : List Mfa) (opening : Opening) (table : TableId) (a b : tokens.Member) (before p : Process) (lines made : List Line) (end : TurnEnd) where
  abbrev seen_by : tokens.Member → Viewed
  seen_by token = record { table = table; opening = opening; token = token; names = functions; process = before.number }

  abbrev shown : Shown
  shown = shown_by functions (held_by_view (view_of a))

  abbrev stood : PlainProcess
  stood = process_of shown.words before

  module _ (gone : HasGoneOn (seen_by a) (seen_by b)) (turn : IsTurn shown (holds_by (anchors_of (view_of b) before.number)) before p lines made end) where
    held_still : held_by_view (view_of b) ≡ held_by_view (view_of a)
    held_still = ap held_by_view gone.stored.same

    marks_still : (known_of (view_of b) before.number).marks ≡ (known_of (view_of a) before.number).marks
    marks_still = ap (λ (x : ProcessView). x.marks) gone.stored.slot

    ends_by : (e : TurnEnd) → end ≡ e → MayEndWith before.number (view_of b) e
    ends_by Again is = tt
    ends_by (Ended (Killed serial)) is =
        let killed = killed_for shown.reads stood serial (turn.gives.end_is ∙ is) in
        record {
          named = held_names Frame (anchors_of (view_of b) before.number) serial (ap (λ (h : HoldsOf). is_among h.frames serial) turn.holds ∙ killed.held);
          doomed = ap (λ (g : Published). is_doomed_area g serial) held_still ∙ killed.doomed;
        }
    ends_by (Ended fin) is = tt

    pub turned_end : MayEndWith before.number (view_of b) end
    turned_end = ends_by end refl

    turns_are : p.turns ≡ (turn_by shown.reads stood).process.turns
    turns_are = sym (ap (λ (x : PlainProcess). x.turns) turn.gives.process)

    pub turned_counts : before.turns ≡ length (known_of (view_of a) before.number).marks → CountsOn p.turns (length (known_of (view_of b) before.number).marks) end
    turned_counts counted =
        dite (ℕ_discrete before.turns MOST_TURNS)
        (λ (is : before.turns ≡ MOST_TURNS).
        let marks : LAST_TURN ≤ length (known_of (view_of b) before.number).marks = subst (λ (n : ℕ). LAST_TURN ≤ n) (counted ∙ sym (ap length marks_still)) (full before.turns is) in
        let over : end ≡ Ended SystemLimit = sym turn.gives.end_is ∙ limit_ends_by shown.reads stood is in
        inr (turns_are ∙ turns_kept shown.reads stood is ∙ is, (marks, subst (λ (e : TurnEnd). IsSome (fin_after e)) (sym over) refl)))
        (λ (below : before.turns ≡ MOST_TURNS → ⊥).
        inl (turns_are ∙ turn_counts_by shown.reads stood below ∙ ap (λ (n : ℕ). n + 1) (counted ∙ sym (ap length marks_still))))
      where
        full : (n : ℕ) → n ≡ MOST_TURNS → LAST_TURN ≤ n
        full n is = omega (arith, is)

  -- the turn and its mark
  pub made_turn : (c : tokens.Member) → IsView (seen_by b) → HasGoneOn (seen_by a) (seen_by b) → IsTurn shown (holds_by (anchors_of (view_of b) before.number)) before p lines made end → HasMarkedEnd before.number p.turns end (view_of b) (view_of c)
      → MadeTurn functions opening table a c before p lines made end
  made_turn c viewed gone turn marked = record { mid = b; viewed = viewed; gone = gone; turn = turn; marked = marked }

  -- the same of a turn of which it is told where there was memory for it
  module _ (r : Result TurnEnd NoMemory) (is : r ≡ Ok end) (gone : HasGoneOn (seen_by a) (seen_by b)) (told : IfOk r (IsTurn shown (holds_by (anchors_of (view_of b) before.number)) before p lines made)) where
    turn_told : IsTurn shown (holds_by (anchors_of (view_of b) before.number)) before p lines made end
    turn_told = subst (λ (x : Result TurnEnd NoMemory). IfOk x (IsTurn shown (holds_by (anchors_of (view_of b) before.number)) before p lines made)) is told

    pub end_told : MayEndWith before.number (view_of b) end
    end_told = turned_end gone turn_told

    pub made_told : (c : tokens.Member) → IsView (seen_by b) → HasMarkedEnd before.number p.turns end (view_of b) (view_of c) → MadeTurn functions opening table a c before p lines made end
    made_told c viewed marked = made_turn c viewed gone turn_told marked

-- the span that was taken out has room for one turn more
pub span_few : (functions : List Mfa) (opening : Opening) (m : MemberView) (before : ProcessRun) (generation : ℕ) (others : List Span) (span : Span) → IsReady functions opening m before → IsTaken generation before.spans others span
    → span.turns ≤ LAST_TURN
span_few functions opening m before generation others span ready taken =
    let few = (few_taken before.process.turns generation before.spans others span taken ready.spans.each).1 in
    let most = ready.spans.bound in
    omega (arith, few, most)

-- ---- want of memory

pub on_ok : {A : Type 0} (r : Result A NoMemory) (P Q : Type 0) → (P → Q) → IfOk r (λ _. P) → IfOk r (λ _. Q)
on_ok (Ok a) P Q f h = f h
on_ok (Err e) P Q f h = tt

pub ok_any : {A : Type 0} (r : Result A NoMemory) (P : Type 0) → P → IfOk r (λ _. P)
ok_any (Ok a) P h = h
ok_any (Err e) P h = tt

-- the turn has joined its span, where there is memory for it
pub turn_joins : (functions : List Mfa) (opening : Opening) (table : TableId) (a c : tokens.Member) (before after : ProcessRun) (p : Process) (span : Span) (lines : List Line) (end : TurnEnd) (r : Result (Unit {0}) NoMemory)
    → MadeTurn functions opening table a c before.process p span.lines lines end
    → IfOk r (λ _. after ≡ record { process = p; spans = before.spans ++ record { generation = span.generation; turns = span.turns + 1; lines = lines } ∷ []; fin = fin_after end })
    → IfOk r (λ _. JoinsTurn functions opening table a c span before after)
turn_joins functions opening table a c before after p span lines end (Ok u) made joins = record { process = p; lines = lines; end = end; made = made; joins = joins }
turn_joins functions opening table a c before after p span lines end (Err e) made joins = tt
