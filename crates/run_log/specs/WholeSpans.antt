-- Spans as a run makes them: turns in a row under one generation are one span.
-- Source: this project's report text. A log may be lawful without it; the definition looks at the spans of one process.
use Rattle.std.specs.Prelude.{◌≢◌, ℕ, ◌<◌, List, [], ◌∷◌, Option, Some, None, IfSome}
use Rattle.std.specs.List.{AllByRecursion}
use Rattle.run_log.specs.declared.logs.Span.{Span}
use Rattle.run_log.specs.Legal.{first_generation}

-- the generation of the last turn, if there is one
abbrev pub last_generation : List Span → Option ℕ
last_generation [] = None
last_generation (span ∷ []) = Some span.generation
last_generation (span ∷ next ∷ spans) = last_generation (next ∷ spans)

-- neighbouring spans are under different generations
abbrev pub AreApart : List Span → Type 0
AreApart [] = Unit {0}
AreApart (span ∷ spans) = IfSome (first_generation spans) (λ g. span.generation ≢ g) × AreApart spans

-- each span has a turn, and no two neighbours could be one
pub record AreWhole (spans : List Span) : Type 0 where
  pub turns : AllByRecursion (λ span. 0 < span.turns) spans
  pub apart : AreApart spans
