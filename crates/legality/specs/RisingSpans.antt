-- Spans whose generations never fall: turns under an older generation than the turn before are lawful in no log.
-- Source: this project's profile. The definition looks at neighbours; the code keeps the last generation.
use Rattle.std.specs.Prelude.{◌≤◌, List, [], ◌∷◌}
use Rattle.run_log.specs.declared.logs.Span.{Span}

-- no span is under an older generation than the one before it
abbrev pub AreRisingSpans : List Span → Type 0
AreRisingSpans [] = Unit {0}
AreRisingSpans (span ∷ []) = Unit {0}
AreRisingSpans (span ∷ next ∷ spans) = (span.generation ≤ next.generation) × AreRisingSpans (next ∷ spans)
