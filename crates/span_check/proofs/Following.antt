-- The turns of a span at a place of a log that is followed: they come behind those of the spans before it.
use Rattle.std.proofs.Common.{◌≡◌, ◌≤◌, ◌∙◌, ℕ, refl, sym, ap, subst, arith, List, [], ◌∷◌, ◌++◌, append_assoc, Some, IsSomeAnd}
use Rattle.std.specs.List.{AllByRecursion}
use Rattle.server_core.specs.ServerState.{ServerState}
use Rattle.machine_core.specs.declared.process.End.{End}
use Rattle.machine_core.specs.declared.process.TurnEnd.{TurnEnd}
use Rattle.machine_core.specs.declared.process.TurnEnd.TheVariants.{Again, Ended}
use Rattle.machine_core.specs.Process.{PlainProcess}
use Rattle.machine_core.specs.Turn.{Turn}
use Rattle.run_log.specs.declared.logs.Span.{Span}
use Rattle.run_log.specs.Legal.{SpansFollow, SpansGo, turns_of}
use Rattle.run_log.proofs.SpanRuns.{go_more, go_over, some_and, some_and_then}
use Rattle.run_log.proofs.TurnRuns.{some_turn, process_in}
use Rattle.run_log.proofs.ListPlaces.{all_weaker, all_join}

-- how a span ends whose process ends so after these spans
abbrev pub EndsAs : List Span → TurnEnd → End → Type 0
EndsAs [] e fin = e ≡ Ended fin
EndsAs (span ∷ spans) e fin = e ≡ Again

-- the turns of a span are there, with its lines and this end
abbrev pub IsRow : (ℕ → ServerState) → Span → List Span → End → PlainProcess → Type 0
IsRow states span after fin p = IsSomeAnd (turns_of (states span.generation) span.turns p []) (λ t. (t.made ≡ span.lines) × EndsAs after t.end fin)

never_empty : (before : List Span) (span : Span) (after : List Span) → before ++ span ∷ after ≡ [] → ⊥
never_empty [] span after h = cc
never_empty (x ∷ before) span after h = cc

-- the first span, and what follows it
follow_first : (states : ℕ → ServerState) (p : PlainProcess) (x : Span) (rest : List Span) (fin : End) → (rest ≡ [] → ⊥) → SpansFollow states p (x ∷ rest) fin
    → (t : Turn) × ((turns_of (states x.generation) x.turns p [] ≡ Some t) × SpansFollow states t.process rest fin)
follow_first states p x [] fin some follow = absurd (some refl)
follow_first states p x (y ∷ rest) fin some follow =
    let h = some_and (turns_of (states x.generation) x.turns p []) (λ t. (t.made ≡ x.lines) × (t.end ≡ Again) × SpansFollow states t.process (y ∷ rest) fin) follow.1 in
    (h.0, (h.1.0, h.1.1.2))

row_first : (states : ℕ → ServerState) (p : PlainProcess) (span : Span) (after : List Span) (fin : End) → SpansFollow states p (span ∷ after) fin → IsRow states span after fin p
row_first states p span [] fin follow = follow
row_first states p span (next ∷ after) fin follow =
    some_and_then (turns_of (states span.generation) span.turns p []) (λ t. (t.made ≡ span.lines) × (t.end ≡ Again) × SpansFollow states t.process (next ∷ after) fin) (λ t. (t.made ≡ span.lines) × EndsAs (next ∷ after) t.end fin) (λ t h. (h.0, h.1)) follow.1

pub follow_at : (states : ℕ → ServerState) (span : Span) (after : List Span) (fin : End) (p now : PlainProcess) (before : List Span) → SpansGo states p before now → SpansFollow states p (before ++ span ∷ after) fin → IsRow states span after fin now
follow_at states span after fin p now [] go follow = subst (IsRow states span after fin) go (row_first states p span after fin follow)
follow_at states span after fin p now (x ∷ before) go follow =
    let f = follow_first states p x (before ++ span ∷ after) fin (never_empty before span after) follow in
    let g = some_and (turns_of (states x.generation) x.turns p []) (λ t. (t.made ≡ x.lines) × (t.end ≡ Again) × SpansGo states t.process before now) go.1 in
    let same : g.0.process ≡ f.0.process = ap (process_in p) (sym g.1.0 ∙ f.1.0) in
    follow_at states span after fin f.0.process now before (subst (λ q. SpansGo states q before now) same g.1.1.2) f.1.1

ends_again : (spans : List Span) (e : TurnEnd) (fin : End) → (spans ≡ [] → ⊥) → EndsAs spans e fin → e ≡ Again
ends_again [] e fin some h = absurd (some refl)
ends_again (span ∷ spans) e fin some h = h

-- a span behind which there are more goes on
pub goes_at : (states : ℕ → ServerState) (span : Span) (rest : List Span) (next : Span) (after : List Span) (fin : End) (p now : PlainProcess) (before : List Span) → SpansGo states p before now
    → SpansFollow states p (before ++ span ∷ (rest ++ next ∷ after)) fin → (t : Turn) × ((turns_of (states span.generation) span.turns now [] ≡ Some t) × ((t.made ≡ span.lines) × (t.end ≡ Again)))
goes_at states span rest next after fin p now before go follow =
    let h = some_and (turns_of (states span.generation) span.turns now []) (λ t. (t.made ≡ span.lines) × EndsAs (rest ++ next ∷ after) t.end fin) (follow_at states span (rest ++ next ∷ after) fin p now before go follow) in
    (h.0, (h.1.0, (h.1.1.0, ends_again (rest ++ next ∷ after) h.0.end fin (never_empty rest next after) h.1.1.1)))

-- and the last one ends the process
pub ends_at : (states : ℕ → ServerState) (span : Span) (fin : End) (p now : PlainProcess) (before : List Span) → SpansGo states p before now
    → SpansFollow states p (before ++ span ∷ []) fin → (t : Turn) × ((turns_of (states span.generation) span.turns now [] ≡ Some t) × ((t.made ≡ span.lines) × (t.end ≡ Ended fin)))
ends_at states span fin p now before go follow =
    some_and (turns_of (states span.generation) span.turns now []) (λ t. (t.made ≡ span.lines) × (t.end ≡ Ended fin)) (follow_at states span [] fin p now before go follow)

module _ (s : ServerState) (states : ℕ → ServerState) (here : states s.generation ≡ s) (first p now : PlainProcess) (before xs : List Span) (span : Span) (same : span.generation ≡ s.generation)
    (low : AllByRecursion (λ x. x.generation ≤ s.generation) before) (under : AllByRecursion (λ x. x.generation ≡ s.generation) xs) where
  state_is : states span.generation ≡ s
  state_is = ap states same ∙ here

  all_low : AllByRecursion (λ x. x.generation ≤ span.generation) (before ++ xs)
  all_low =
      all_join (λ x. x.generation ≤ span.generation) before xs
      (all_weaker (λ x. x.generation ≤ s.generation) (λ x. x.generation ≤ span.generation) (λ x h. omega (arith, h, same)) before low)
      (all_weaker (λ x. x.generation ≡ s.generation) (λ x. x.generation ≤ span.generation) (λ x h. omega (arith, h, same)) xs under)

  turns_under : (e : TurnEnd) → turns_of s span.turns p [] ≡ some_turn now span.lines e → turns_of (states span.generation) span.turns p [] ≡ some_turn now span.lines e
  turns_under e h = ap (λ x. turns_of x span.turns p []) state_is ∙ h

  -- one span of the generation more, after which the process goes on
  pub goes_behind : SpansGo states first (before ++ xs) p → turns_of s span.turns p [] ≡ some_turn now span.lines Again → SpansGo states first (before ++ (xs ++ span ∷ [])) now
  goes_behind go turns =
      subst (λ spans. SpansGo states first spans now) (append_assoc before xs (span ∷ [])) (go_more states first (before ++ xs) span p now all_low go (turns_under Again turns))

  -- or which ends it
  pub ends_behind : (fin : End) → SpansGo states first (before ++ xs) p → turns_of s span.turns p [] ≡ some_turn now span.lines (Ended fin) → SpansFollow states first (before ++ (xs ++ span ∷ [])) fin
  ends_behind fin go turns =
      subst (λ spans. SpansFollow states first spans fin) (append_assoc before xs (span ∷ [])) (go_over states first (before ++ xs) span p now fin all_low go (turns_under (Ended fin) turns))
