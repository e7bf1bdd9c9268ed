-- What turns do to a process and to the spans of its turns.
-- Source: this project's profile: turns in a row under one generation are one span. The definitions compute the process after a turn, or relate it to the one before.
use Rattle.std.specs.Prelude.{◌≡◌, ◌≢◌, ℕ, ◌+◌, ◌==◌, List, [], ◌∷◌, ◌++◌, IfSome, if◌then◌else◌}
use Rattle.server_core.specs.ServerState.{ServerState}
use Rattle.machine_core.specs.declared.process.Line.{Line}
use Rattle.machine_core.specs.Turn.{turn_of}
use Rattle.run_log.specs.declared.logs.Span.{Span}
use Rattle.run_log.specs.WholeSpans.{last_generation}
use Rattle.run_steps.specs.Stands.{Stand, phase_after}

-- ---- the process after a turn

-- a span of one turn
abbrev pub one_turn : ℕ → List Line → Span
one_turn generation made = record { generation = generation; turns = 1; lines = made }

-- the last span after one turn more under a generation, and a new one behind it where it is of another
abbrev pub joined_last : ℕ → List Line → Span → List Span
joined_last generation made last = if last.generation == generation then record { generation = last.generation; turns = last.turns + 1; lines = last.lines ++ made } ∷ [] else last ∷ one_turn generation made ∷ []

-- the spans after one turn more under a generation, which made these lines
abbrev pub joined : ℕ → List Line → List Span → List Span
joined generation made [] = one_turn generation made ∷ []
joined generation made (last ∷ []) = joined_last generation made last
joined generation made (span ∷ next ∷ spans) = span ∷ joined generation made (next ∷ spans)

-- a process after a turn under a state
abbrev pub turned : ServerState → Stand → Stand
turned s x = record { process = (turn_of s x.process).process; spans = joined s.generation (turn_of s x.process).made x.spans; phase = phase_after (turn_of s x.process).end }

-- ---- the same, as a program does it

-- the span that a turn under a generation joins was taken out of the spans: the last one where it is of that generation, else a new one
pub data IsTaken (generation : ℕ) (before after : List Span) (span : Span) : Type 0 where
  last_one : span.generation ≡ generation → before ≡ after ++ span ∷ [] → IsTaken generation before after span
  new_one : span ≡ record { generation = generation; turns = 0; lines = [] } → after ≡ before → IfSome (last_generation before) (λ g. g ≢ generation) → IsTaken generation before after span

-- a process had a turn under a state, and its span has one turn more, with the lines of the turn
pub record HadTurn (s : ServerState) (before after : Stand) : Type 0 where
  pub others : List Span
  pub span : Span
  pub taken : IsTaken s.generation before.spans others span
  pub process : (turn_of s before.process).process ≡ after.process
  pub spans : after.spans ≡ others ++ record { generation = s.generation; turns = span.turns + 1; lines = span.lines ++ (turn_of s before.process).made } ∷ []
  pub phase : after.phase ≡ phase_after (turn_of s before.process).end

-- ---- turns of all processes
