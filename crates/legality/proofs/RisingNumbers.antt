-- Generations that never fall, by the last one and those that are left.
use Rattle.std.proofs.Common.{◌≡◌, ◌↔◌, ℕ, ◌+◌, ◌<◌, ◌≤◌, List, [], ◌∷◌, length, drop, get_or, Option, None, Some, IsSomeAnd, sym, subst, arith}
use Rattle.std.proofs.lemmas.List.{drop_all}
use Rattle.server_core.specs.ServerState.{ServerState}
use Rattle.machine_core.specs.declared.process.End.{End}
use Rattle.machine_core.specs.declared.process.TurnEnd.TheVariants.{Again}
use Rattle.machine_core.specs.Process.{PlainProcess}
use Rattle.run_log.specs.declared.logs.Span.{Span}
use Rattle.run_log.specs.declared.logs.Snapshot.{Snapshot}
use Rattle.run_log.specs.Legal.{AreRising, SpansFollow, turns_of}
use Rattle.term_core.proofs.Lefts.{left_from}
use Rattle.legality.specs.RisingSpans.{AreRisingSpans}
use Rattle.legality.proofs.Equivalences.{through, of_equal}

-- numbers that begin at one or above it, and never fall
abbrev pub RisesFrom : {X : Type 0} → (X → ℕ) → ℕ → List X → Type 0
RisesFrom number last [] = Unit {0}
RisesFrom number last (x ∷ xs) = (last ≤ number x) × RisesFrom number (number x) xs

-- what is left begins with the element at its place
pub rises_at : {X : Type 0} (number : X → ℕ) (last : ℕ) (xs : List X) (i : ℕ) (x : X) → x ≡ get_or xs i x → i < length xs → RisesFrom number last (drop i xs) ↔ RisesFrom number last (x ∷ drop (i + 1) xs)
rises_at number last xs i x at less = of_equal (RisesFrom number last) (drop i xs) (x ∷ drop (i + 1) xs) (left_from xs i x at less)

abbrev pub generation_of_span : Span → ℕ
generation_of_span span = span.generation

abbrev pub generation_of_shot : Snapshot → ℕ
generation_of_shot shot = shot.generation

spans_from : (last : ℕ) (span : Span) (spans : List Span) → last ≤ span.generation → AreRisingSpans (span ∷ spans) → RisesFrom generation_of_span last (span ∷ spans)
spans_from last span [] less h = (less, tt)
spans_from last span (next ∷ spans) less h = (less, spans_from span.generation next spans h.0 h.1)

spans_back : (last : ℕ) (span : Span) (spans : List Span) → RisesFrom generation_of_span last (span ∷ spans) → AreRisingSpans (span ∷ spans)
spans_back last span [] h = tt
spans_back last span (next ∷ spans) h = (h.1.0, spans_back span.generation next spans h.1)

-- spans rise where they rise from 0 on
pub spans_rise_from : (spans : List Span) → AreRisingSpans spans ↔ RisesFrom generation_of_span 0 spans
spans_rise_from [] = (λ h. tt, λ h. tt)
spans_rise_from (span ∷ spans) = (spans_from 0 span spans (omega arith), spans_back 0 span spans)

shots_from : (last : ℕ) (shot : Snapshot) (shots : List Snapshot) → last ≤ shot.generation → AreRising (shot ∷ shots) → RisesFrom generation_of_shot last (shot ∷ shots)
shots_from last shot [] less h = (less, tt)
shots_from last shot (next ∷ shots) less h = (less, shots_from shot.generation next shots h.0 h.1)

shots_back : (last : ℕ) (shot : Snapshot) (shots : List Snapshot) → RisesFrom generation_of_shot last (shot ∷ shots) → AreRising (shot ∷ shots)
shots_back last shot [] h = tt
shots_back last shot (next ∷ shots) h = (h.1.0, shots_back shot.generation next shots h.1)

-- and so do snapshots
pub shots_rise_from : (shots : List Snapshot) → AreRising shots ↔ RisesFrom generation_of_shot 0 shots
shots_rise_from [] = (λ h. tt, λ h. tt)
shots_rise_from (shot ∷ shots) = (shots_from 0 shot shots (omega arith), shots_back 0 shot shots)

-- the next element is not below the last, and what is behind it rises from it
pub rises_on : {P : Type 0} {X : Type 0} (number : X → ℕ) (last : ℕ) (xs : List X) (i : ℕ) (x : X) → x ≡ get_or xs i x → i < length xs → last ≤ number x → P ↔ RisesFrom number last (drop i xs) → P ↔ RisesFrom number (number x) (drop (i + 1) xs)
rises_on number last xs i x at less above h = through (through h (rises_at number last xs i x at less)) (λ r. r.1, λ r. (above, r))

-- a next element below the last is a fall
pub falls_at : {P : Type 0} {X : Type 0} (number : X → ℕ) (last : ℕ) (xs : List X) (i : ℕ) (x : X) → x ≡ get_or xs i x → i < length xs → number x < last → P ↔ RisesFrom number last (drop i xs) → P → ⊥
falls_at number last xs i x at less below h p = let r = (through h (rises_at number last xs i x at less)).0 p in omega (arith, r.0)

some_then : {T : Type 0} (o : Option T) (P : T → Type 0) (Q : Type 0) → ((t : T) → P t → Q) → IsSomeAnd o P → Q
some_then None P Q f h = absurd h
some_then (Some t) P Q f h = f t h

-- where turns follow one after the other, spans rise
pub following_rises : (states : ℕ → ServerState) (p : PlainProcess) (spans : List Span) (fin : End) → SpansFollow states p spans fin → AreRisingSpans spans
following_rises states p [] fin h = tt
following_rises states p (span ∷ []) fin h = tt
following_rises states p (span ∷ next ∷ spans) fin h = (
  h.0,
  some_then (turns_of (states span.generation) span.turns p []) (λ t. (t.made ≡ span.lines) × (t.end ≡ Again) × SpansFollow states t.process (next ∷ spans) fin) (AreRisingSpans (next ∷ spans))
      (λ t r. following_rises states t.process (next ∷ spans) fin r.2) h.1,
)

-- where nothing is left it rises
pub rises_end : {X : Type 0} (number : X → ℕ) (last : ℕ) (xs : List X) (i : ℕ) → length xs ≤ i → RisesFrom number last (drop i xs)
rises_end number last xs i more = subst (RisesFrom number last) (sym (drop_all i xs more)) tt
