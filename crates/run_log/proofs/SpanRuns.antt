-- Spans of a process that goes on: they are cut before the last one, and grow by one behind it.
use Rattle.std.proofs.Common.{◌≡◌, ℕ, ◌≤◌, List, [], ◌∷◌, ◌++◌, Option, Some, None, IfSome, IsSomeAnd, refl, sym, ap, subst, ◌∙◌}
use Rattle.std.specs.List.{AllByRecursion}
use Rattle.server_core.specs.ServerState.{ServerState}
use Rattle.machine_core.specs.declared.process.Line.{Line}
use Rattle.machine_core.specs.declared.process.End.{End}
use Rattle.machine_core.specs.declared.process.TurnEnd.{TurnEnd}
use Rattle.machine_core.specs.declared.process.TurnEnd.TheVariants.{Again, Ended}
use Rattle.machine_core.specs.Process.{PlainProcess}
use Rattle.machine_core.specs.Turn.{Turn}
use Rattle.run_log.specs.declared.logs.Span.{Span}
use Rattle.run_log.specs.Legal.{SpansFollow, SpansGo, first_generation, turns_of}
use Rattle.run_log.proofs.TurnRuns.{some_turn}

-- what is known of a value that is there
pub some_and : {T : Type 0} (o : Option T) (P : T → Type 0) → IsSomeAnd o P → (t : T) × ((o ≡ Some t) × P t)
some_and None P h = absurd h
some_and (Some t) P h = (t, (refl, h))

pub some_and_then : {T : Type 0} (o : Option T) (P Q : T → Type 0) → ((t : T) → P t → Q t) → IsSomeAnd o P → IsSomeAnd o Q
some_and_then None P Q f h = h
some_and_then (Some t) P Q f h = f t h

pub some_at : {T : Type 0} (o : Option T) (P : T → Type 0) (t : T) → o ≡ Some t → P t → IsSomeAnd o P
some_at o P t e h = subst (λ x. IsSomeAnd x P) (sym e) h

turn_is : (t : Turn) (p : PlainProcess) (made : List Line) (e : TurnEnd) → t.process ≡ p → t.made ≡ made → t.end ≡ e → Some t ≡ some_turn p made e
turn_is t p made e a b c = rw (← a, ← b, ← c) refl

-- the states of the generations up to the newest decide
pub go_under : (states others : ℕ → ServerState) (top : ℕ) → ((g : ℕ) → g ≤ top → others g ≡ states g) → (p : PlainProcess) (spans : List Span) (now : PlainProcess) → AllByRecursion (λ span. span.generation ≤ top) spans
    → SpansGo states p spans now → SpansGo others p spans now
go_under states others top same p [] now known go = go
go_under states others top same p (span ∷ spans) now known go = (
  go.0,
  subst (λ s. IsSomeAnd (turns_of s span.turns p []) (λ t. (t.made ≡ span.lines) × (t.end ≡ Again) × SpansGo others t.process spans now)) (sym (same span.generation known.0))
      (some_and_then (turns_of (states span.generation) span.turns p []) _ (λ t. (t.made ≡ span.lines) × (t.end ≡ Again) × SpansGo others t.process spans now) (λ t h. (h.0, h.1, go_under states others top same t.process spans now known.1 h.2)) go.1),
)

pub follow_under : (states others : ℕ → ServerState) (top : ℕ) → ((g : ℕ) → g ≤ top → others g ≡ states g) → (p : PlainProcess) (spans : List Span) (fin : End) → AllByRecursion (λ span. span.generation ≤ top) spans
    → SpansFollow states p spans fin → SpansFollow others p spans fin
follow_under states others top same p [] fin known follow = follow
follow_under states others top same p (span ∷ []) fin known follow =
    subst (λ s. IsSomeAnd (turns_of s span.turns p []) (λ t. (t.made ≡ span.lines) × (t.end ≡ Ended fin))) (sym (same span.generation known.0)) follow
follow_under states others top same p (span ∷ next ∷ spans) fin known follow = (
  follow.0,
  subst (λ s. IsSomeAnd (turns_of s span.turns p []) (λ t. (t.made ≡ span.lines) × (t.end ≡ Again) × SpansFollow others t.process (next ∷ spans) fin)) (sym (same span.generation known.0))
      (some_and_then (turns_of (states span.generation) span.turns p []) _ (λ t. (t.made ≡ span.lines) × (t.end ≡ Again) × SpansFollow others t.process (next ∷ spans) fin) (λ t h. (h.0, h.1, follow_under states others top same t.process (next ∷ spans) fin known.1 h.2)) follow.1),
)

-- the first generation stands in a front
pub first_front : (P : ℕ → Type 0) (spans : List Span) (last : Span) → IfSome (first_generation (spans ++ last ∷ [])) P → IfSome (first_generation spans) P
first_front P [] last h = tt
first_front P (span ∷ spans) last h = h

-- and it stays where a span joins behind
pub first_more : (P : ℕ → Type 0) (spans : List Span) (last : Span) → IfSome (first_generation spans) P → P last.generation → IfSome (first_generation (spans ++ last ∷ [])) P
first_more P [] last h p = p
first_more P (span ∷ spans) last h p = h

-- the spans before the last one, and the turns of that
pub record GoesBefore (states : ℕ → ServerState) (p : PlainProcess) (spans : List Span) (last : Span) (now : PlainProcess) : Type 0 where
  pub between : PlainProcess
  pub front : SpansGo states p spans between
  pub turns : turns_of (states last.generation) last.turns between [] ≡ some_turn now last.lines Again

cut_one : (states : ℕ → ServerState) (p : PlainProcess) (last : Span) (now : PlainProcess) → (t : Turn) × ((turns_of (states last.generation) last.turns p [] ≡ Some t) × ((t.made ≡ last.lines) × (t.end ≡ Again) × (t.process ≡ now)))
    → GoesBefore states p [] last now
cut_one states p last now h = record { between = p; front = refl; turns = h.1.0 ∙ turn_is h.0 now last.lines Again h.1.1.2 h.1.1.0 h.1.1.1 }

cut_more : (states : ℕ → ServerState) (p : PlainProcess) (span : Span) (spans : List Span) (last : Span) (now : PlainProcess) (t : Turn) → IfSome (first_generation (spans ++ last ∷ [])) (λ g. span.generation ≤ g)
    → turns_of (states span.generation) span.turns p [] ≡ Some t → t.made ≡ span.lines → t.end ≡ Again → GoesBefore states t.process spans last now → GoesBefore states p (span ∷ spans) last now
cut_more states p span spans last now t order e made again rest = record {
  between = rest.between;
  front = (first_front (λ g. span.generation ≤ g) spans last order, some_at (turns_of (states span.generation) span.turns p []) (λ t. (t.made ≡ span.lines) × (t.end ≡ Again) × SpansGo states t.process spans rest.between) t e (made, again, rest.front));
  turns = rest.turns;
}

pub go_cut : (states : ℕ → ServerState) (p : PlainProcess) (spans : List Span) (last : Span) (now : PlainProcess) → SpansGo states p (spans ++ last ∷ []) now → GoesBefore states p spans last now
go_cut states p [] last now go = cut_one states p last now (some_and (turns_of (states last.generation) last.turns p []) _ go.1)
go_cut states p (span ∷ spans) last now go =
    let h = some_and (turns_of (states span.generation) span.turns p []) (λ t. (t.made ≡ span.lines) × (t.end ≡ Again) × SpansGo states t.process (spans ++ last ∷ []) now) go.1 in
    cut_more states p span spans last now h.0 go.0 h.1.0 h.1.1.0 h.1.1.1 (go_cut states h.0.process spans last now h.1.1.2)

-- a span joins behind the others
pub go_more : (states : ℕ → ServerState) (p : PlainProcess) (spans : List Span) (last : Span) (between now : PlainProcess) → AllByRecursion (λ span. span.generation ≤ last.generation) spans → SpansGo states p spans between
    → turns_of (states last.generation) last.turns between [] ≡ some_turn now last.lines Again → SpansGo states p (spans ++ last ∷ []) now
go_more states p [] last between now known go turns = (
  tt,
  some_at (turns_of (states last.generation) last.turns p []) (λ t. (t.made ≡ last.lines) × (t.end ≡ Again) × (t.process ≡ now)) (record { process = now; made = last.lines; end = Again })
      (ap (λ x. turns_of (states last.generation) last.turns x []) go ∙ turns) (refl, refl, refl),
)
go_more states p (span ∷ spans) last between now known go turns = (
  first_more (λ g. span.generation ≤ g) spans last go.0 known.0,
  some_and_then (turns_of (states span.generation) span.turns p []) _ (λ t. (t.made ≡ span.lines) × (t.end ≡ Again) × SpansGo states t.process (spans ++ last ∷ []) now) (λ t h. (h.0, h.1, go_more states t.process spans last between now known.1 h.2 turns)) go.1,
)

-- the last span ends the process
pub go_over : (states : ℕ → ServerState) (p : PlainProcess) (spans : List Span) (last : Span) (between now : PlainProcess) (fin : End) → AllByRecursion (λ span. span.generation ≤ last.generation) spans → SpansGo states p spans between
    → turns_of (states last.generation) last.turns between [] ≡ some_turn now last.lines (Ended fin) → SpansFollow states p (spans ++ last ∷ []) fin
go_over states p [] last between now fin known go turns =
    some_at (turns_of (states last.generation) last.turns p []) (λ t. (t.made ≡ last.lines) × (t.end ≡ Ended fin)) (record { process = now; made = last.lines; end = Ended fin })
    (ap (λ x. turns_of (states last.generation) last.turns x []) go ∙ turns) (refl, refl)
go_over states p (span ∷ []) last between now fin known go turns =
    (known.0, some_and_then (turns_of (states span.generation) span.turns p []) _ (λ t. (t.made ≡ span.lines) × (t.end ≡ Again) × SpansFollow states t.process (last ∷ []) fin) (λ t h. (h.0, h.1, go_over states t.process [] last between now fin tt h.2 turns)) go.1)
go_over states p (span ∷ next ∷ spans) last between now fin known go turns =
    (go.0, some_and_then (turns_of (states span.generation) span.turns p []) _ (λ t. (t.made ≡ span.lines) × (t.end ≡ Again) × SpansFollow states t.process (next ∷ (spans ++ last ∷ [])) fin) (λ t h. (h.0, h.1, go_over states t.process (next ∷ spans) last between now fin known.1 h.2 turns)) go.1)
