-- The turns that the spans of a lawful log tell: what they show and how they end can be said, and their number fits.
use Rattle.std.proofs.Common.{◌≡◌, ℕ, zero, suc, ◌+◌, ◌<◌, ◌≤◌, ◌==◌, inl, inr, Bool, true, false, List, [], ◌∷◌, ◌++◌, length, length-append, Option, Some, None, IfSome, slice_get, if◌then◌else◌, refl, sym, ap, subst, ◌∙◌, arith}
use Rattle.std.proofs.lemmas.Bool.{cases_lt, eqb-true}
use Rattle.std.proofs.lemmas.Option.{none-some}
use Rattle.std.specs.List.{AllByRecursion}
use Rattle.server_core.specs.ServerState.{ServerState}
use Rattle.machine_core.specs.declared.process.TheConstants.{MOST_TURNS}
use Rattle.machine_core.specs.declared.process.Line.{Line}
use Rattle.machine_core.specs.declared.process.End.{End}
use Rattle.machine_core.specs.declared.process.End.TheVariants.{SystemLimit}
use Rattle.machine_core.specs.declared.process.TurnEnd.{TurnEnd}
use Rattle.machine_core.specs.declared.process.TurnEnd.TheVariants.{Again, Ended}
use Rattle.machine_core.specs.Holds.{is_among}
use Rattle.machine_core.specs.Process.{PlainFrame, PlainProcess, frame_names, names_of}
use Rattle.machine_core.specs.ServerReads.{reads_of}
use Rattle.machine_core.specs.Turn.{Turn, turn_of}
use Rattle.machine_core.proofs.TurnLaws.{limit_ends}
use Rattle.run_log.specs.declared.logs.Span.{Span}
use Rattle.run_log.specs.Legal.{Mark, SpansFollow, after_turn, after_turns, marks_in, marks_of, process_after, turns_of}
use Rattle.run_log.specs.WellFormed.{IsEndOf, IsLineOf}
use Rattle.run_log.proofs.TurnRuns.{ended_again}
use Rattle.run_log.proofs.SpanRuns.{some_and}
use Rattle.run_log.proofs.Marks.{after_is, again_counts, last_of, last_process, later_of, process_of_last, process_over}
use Rattle.log_forms.proofs.SaidValues.{said_join}
use Rattle.log_forms.proofs.SaidSteps.{IsSaidCode, IsSaidProcess, IsSaidTurnEnd, turn_said}

-- a turn after which a process goes on counts, and is not the last that can be
turn_low : (s : ServerState) (p : PlainProcess) → p.turns ≤ MOST_TURNS → (turn_of s p).end ≡ Again → (turn_of s p).process.turns ≤ MOST_TURNS
turn_low s p few again =
    let more = again_counts s p again in
    elim (cases_lt p.turns MOST_TURNS) as (λ _. (turn_of s p).process.turns ≤ MOST_TURNS) [
      | inl low ↦ omega (arith, low, more)
      | inr high ↦ let limit : p.turns ≡ MOST_TURNS = omega (arith, high, few) in absurd (ended_again {A = ⊥} SystemLimit (sym (limit_ends s p limit) ∙ again))
    ]

marks_length : (s : ServerState) (g n : ℕ) (p : PlainProcess) → length (marks_in s g n p) ≡ n
unfolding marks_in
marks_length s g zero p = refl
marks_length s g (suc n) p = ap suc (marks_length s g n (turn_of s p).process)

some_weaker : {X : Type 0} (P Q : X → Type 0) → ((x : X) → P x → Q x) → (o : Option X) → IfSome o P → IfSome o Q
some_weaker P Q f None h = tt
some_weaker P Q f (Some x) h = f x h

of_some : {A : Type 0} (P : A → Type 0) (o : Option A) (x : A) → o ≡ Some x → IfSome o P → P x
of_some P o x e h = subst (λ p. IfSome p P) e h

module _ (names : List (List ℕ)) where
  -- so many turns in a row: what they leave and show can be said, and there are no more than a process can have
  record AreSaidTurns (n : ℕ) (p : PlainProcess) (t : Turn) : Type 0 where
    process : IsSaidProcess names t.process
    made : AllByRecursion (IsLineOf names) t.made
    end : IsSaidTurnEnd names t.end
    few : p.turns + n ≤ MOST_TURNS + 1
    low : t.end ≡ Again → t.process.turns ≤ MOST_TURNS
    counts : t.end ≡ Again → t.process.turns ≡ p.turns + n

  one_more : (s : ServerState) (p : PlainProcess) (n : ℕ) → (turn_of s p).process.turns ≡ p.turns + 1 → (t : Turn) → AreSaidTurns n (turn_of s p).process t → AreSaidTurns (suc n) p t
  one_more s p n more t h =
      let few = h.few in
      record { process = h.process; made = h.made; end = h.end; few = omega (arith, few, more); low = h.low; counts = λ again. let counts = h.counts again in omega (arith, counts, more) }

  -- a turn that ends its process is the last
  last_turn : (p q : PlainProcess) (n : ℕ) (made : List Line) (end : End) (b : Bool) → (n == 0) ≡ b → IsSaidProcess names q → AllByRecursion (IsLineOf names) made → IsEndOf names end → p.turns ≤ MOST_TURNS
      → IfSome (if b then Some (record { process = q; made = made; end = Ended end }) else None) (AreSaidTurns (suc n) p)
  last_turn p q n made end true e h m d few = record {
    process = h;
    made = m;
    end = d;
    few = let none : n ≡ 0 = eqb-true n 0 e in omega (arith, none, few);
    low = λ again. ended_again end again;
    counts = λ again. ended_again end again;
  }
  last_turn p q n made end false e h m d few = tt

  by_end : (s : ServerState) (n : ℕ) (p : PlainProcess) (made : List Line) (e : TurnEnd) → (turn_of s p).end ≡ e → IsSaidProcess names (turn_of s p).process → AllByRecursion (IsLineOf names) (made ++ (turn_of s p).made) → IsSaidTurnEnd names e → p.turns ≤ MOST_TURNS
      → ((turn_of s p).process.turns ≤ MOST_TURNS → IfSome (turns_of s n (turn_of s p).process (made ++ (turn_of s p).made)) (AreSaidTurns n (turn_of s p).process))
      → IfSome (after_turn n (turns_of s n) made (turn_of s p).process (turn_of s p).made e) (AreSaidTurns (suc n) p)
  by_end s n p made Again e h m d few next =
      some_weaker (AreSaidTurns n (turn_of s p).process) (AreSaidTurns (suc n) p) (one_more s p n (again_counts s p e)) (turns_of s n (turn_of s p).process (made ++ (turn_of s p).made)) (next (turn_low s p few e))
  by_end s n p made (Ended end) e h m d few next = last_turn p (turn_of s p).process n (made ++ (turn_of s p).made) end (n == 0) refl h m d few

  turns_said : (s : ServerState) → IsSaidCode names (reads_of s) → (n : ℕ) (p : PlainProcess) (made : List Line) → IsSaidProcess names p → p.turns ≤ MOST_TURNS → AllByRecursion (IsLineOf names) made → IfSome (turns_of s n p made) (AreSaidTurns n p)
  unfolding turns_of
  turns_said s code zero p made h few m = record { process = h; made = m; end = tt; few = omega (arith, few); low = λ again. few; counts = λ again. omega arith }
  turns_said s code (suc n) p made h few m =
      let t = turn_said names (reads_of s) code p h in
      let shown = said_join (IsLineOf names) made (turn_of s p).made m t.1 in
      by_end s n p made (turn_of s p).end refl t.0 shown t.2 few (λ low. turns_said s code n (turn_of s p).process (made ++ (turn_of s p).made) t.0 low shown)

  -- a span whose lines can be said, of no more turns than a process can have
  pub record IsSaidSpan (span : Span) : Type 0 where
    pub lines_are : AllByRecursion (IsLineOf names) span.lines
    pub few : span.turns ≤ MOST_TURNS + 1

  -- the spans of a process that has ended, with how many turns they tell
  pub record AreSaidSpans (states : ℕ → ServerState) (p : PlainProcess) (spans : List Span) (fin : End) : Type 0 where
    pub each : AllByRecursion IsSaidSpan spans
    pub ends : IsEndOf names fin
    pub few : p.turns + length (marks_of states p spans) ≤ MOST_TURNS + 1

  module _ (states : ℕ → ServerState) (code : (g : ℕ) → IsSaidCode names (reads_of (states g))) where
    turns_are : (span : Span) (p : PlainProcess) (t : Turn) → IsSaidProcess names p → p.turns ≤ MOST_TURNS → turns_of (states span.generation) span.turns p [] ≡ Some t → AreSaidTurns span.turns p t
    turns_are span p t h few e = of_some (AreSaidTurns span.turns p) (turns_of (states span.generation) span.turns p []) t e (turns_said (states span.generation) (code span.generation) span.turns p [] h few tt)

    span_is : (span : Span) (p : PlainProcess) (t : Turn) → AreSaidTurns span.turns p t → t.made ≡ span.lines → IsSaidSpan span
    span_is span p t h same = let few = h.few in record { lines_are = subst (AllByRecursion (IsLineOf names)) same h.made; few = omega (arith, few) }

    last_span : (span : Span) (p : PlainProcess) (fin : End) → IsSaidProcess names p → p.turns ≤ MOST_TURNS → (t : Turn) × ((turns_of (states span.generation) span.turns p [] ≡ Some t) × ((t.made ≡ span.lines) × (t.end ≡ Ended fin))) → AreSaidSpans states p (span ∷ []) fin
    last_span span p fin h few found =
        let t = found.0 in
        let said = turns_are span p t h few found.1.0 in
        let all = said.few in
        let marks = length-append (marks_in (states span.generation) span.generation span.turns p) [] in
        record {
          each = (span_is span p t said found.1.1.0, tt);
          ends = subst (IsSaidTurnEnd names) found.1.1.1 said.end;
          few = omega (arith, all, marks, marks_length (states span.generation) span.generation span.turns p);
        }

    first_span : (span : Span) (spans : List Span) (p : PlainProcess) (fin : End) → IsSaidProcess names p → p.turns ≤ MOST_TURNS
        → ((q : PlainProcess) → IsSaidProcess names q → q.turns ≤ MOST_TURNS → SpansFollow states q spans fin → AreSaidSpans states q spans fin)
        → (t : Turn) × ((turns_of (states span.generation) span.turns p [] ≡ Some t) × ((t.made ≡ span.lines) × (t.end ≡ Again) × SpansFollow states t.process spans fin)) → AreSaidSpans states p (span ∷ spans) fin
    first_span span spans p fin h few next found =
        let t = found.0 in
        let s = states span.generation in
        let said = turns_are span p t h few found.1.0 in
        let rest = next t.process said.process (said.low found.1.1.1) found.1.1.2 in
        let same = after_is s span.turns p [] t found.1.0 in
        let behind : t.process.turns + length (marks_of states (after_turns s span.turns p) spans) ≤ MOST_TURNS + 1 = subst (λ (q : PlainProcess). t.process.turns + length (marks_of states q spans) ≤ MOST_TURNS + 1) (sym same) rest.few in
        let counts = said.counts found.1.1.1 in
        let marks = length-append (marks_in s span.generation span.turns p) (marks_of states (after_turns s span.turns p) spans) in
        record {
          each = (span_is span p t said found.1.1.0, rest.each);
          ends = rest.ends;
          few = omega (arith, behind, counts, marks, marks_length s span.generation span.turns p);
        }

    -- the spans that tell the turns of a process to its end
    pub spans_said : (p : PlainProcess) (spans : List Span) (fin : End) → IsSaidProcess names p → p.turns ≤ MOST_TURNS → SpansFollow states p spans fin → AreSaidSpans states p spans fin
    spans_said p [] fin h few follow = absurd follow
    spans_said p (span ∷ []) fin h few follow = last_span span p fin h few (some_and (turns_of (states span.generation) span.turns p []) (λ t. (t.made ≡ span.lines) × (t.end ≡ Ended fin)) follow)
    spans_said p (span ∷ next ∷ spans) fin h few follow =
        first_span span (next ∷ spans) p fin h few (λ q k low rest. spans_said q (next ∷ spans) fin k low rest)
        (some_and (turns_of (states span.generation) span.turns p []) (λ t. (t.made ≡ span.lines) × (t.end ≡ Again) × SpansFollow states t.process (next ∷ spans) fin) follow.1)

-- ---- turns after which a process stands

last_get : (marks : List Mark) (place : ℕ) (mark : Mark) → place + 1 ≡ length marks → slice_get marks place ≡ Some mark → last_of marks ≡ Some mark
last_get [] place mark whole e = absurd (none-some mark e)
last_get (m ∷ []) zero mark whole e = e
last_get (m ∷ n ∷ marks) zero mark whole e = absurd (omega (arith, whole))
last_get (m ∷ []) (suc place) mark whole e = absurd (omega (arith, whole))
last_get (m ∷ n ∷ marks) (suc place) mark whole e = ap (later_of (Some m)) (last_get (n ∷ marks) place mark (omega (arith, whole)) e)

within : (marks : List Mark) (place : ℕ) (mark : Mark) → slice_get marks place ≡ Some mark → place < length marks
within [] place mark e = absurd (none-some mark e)
within (m ∷ marks) zero mark e = omega arith
within (m ∷ marks) (suc place) mark e = let rest = within marks place mark e in omega (arith, rest)

no_frame : (p : PlainProcess) (serial : ℕ) → p.frames ≡ [] → is_among (names_of p).frames serial ≡ true → ⊥
no_frame p serial none stands = let gone : is_among (frame_names []).frames serial ≡ true = subst (λ (frames : List PlainFrame). is_among (frame_names frames).frames serial ≡ true) none stands in cc

-- a turn after which a frame stands is not the last, and its number fits
pub standing_turn : (states : ℕ → ServerState) (p : PlainProcess) (spans : List Span) (fin : End) (place serial : ℕ) (mark : Mark) → SpansFollow states p spans fin → p.turns + length (marks_of states p spans) ≤ MOST_TURNS + 1
    → slice_get (marks_of states p spans) place ≡ Some mark → is_among (names_of mark.process).frames serial ≡ true → place + 1 ≤ MOST_TURNS
standing_turn states p spans fin place serial mark follow few had stands =
    let marks = marks_of states p spans in
    let here = within marks place mark had in
    elim (cases_lt (place + 1) (length marks)) as (λ _. place + 1 ≤ MOST_TURNS) [
      | inl before ↦ omega (arith, before, few)
      | inr last ↦
          let whole : place + 1 ≡ length marks = omega (arith, here, last) in
          let same : mark.process ≡ process_after states p spans = ap (process_of_last p) (sym (last_get marks place mark whole had)) ∙ last_process states p spans in
          absurd (no_frame mark.process serial (ap (λ (q : PlainProcess). q.frames) same ∙ process_over states p spans fin follow) stands)
    ]
