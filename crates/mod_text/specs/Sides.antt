-- The two sides of a cut, each read, what nothing follows, and what stands behind a byte in front.
use Rattle.std.specs.Prelude.{ℕ, ◌==◌, length, List, [], ◌∷◌, Option, Some, None, if◌then◌else◌}
use Rattle.term_core.specs.Text.Steps.{◌>>=◌}
use Rattle.term_core.specs.Text.Cuts.{cut_at}

-- the two sides of a cut, each read
abbrev pub sided : {A B : Type 0} → Option (List ℕ × List ℕ) → (List ℕ → Option A) → (List ℕ → Option B) → Option (A × B)
sided cut front behind = do
  sides ← cut
  a ← front sides.0
  b ← behind sides.1
  Some (a, b)

-- the two sides of a byte, each read
abbrev pub paired : {A B : Type 0} → ℕ → (List ℕ → Option A) → (List ℕ → Option B) → List ℕ → Option (A × B)
paired byte front behind text = sided (cut_at byte text) front behind

-- a text that nothing follows
abbrev pub ended_reading : {A : Type 0} → (List ℕ → Option A) → List ℕ × List ℕ → Option A
ended_reading read sides = if length sides.1 == 0 then read sides.0 else None

-- what stands behind this byte in front
abbrev pub behind : {A : Type 0} → ℕ → (List ℕ → Option A) → List ℕ → Option A
behind byte read [] = None
behind byte read (c ∷ text) = if c == byte then read text else None
