-- What a printer leaves of the text before it.
use Rattle.std.specs.Prelude.{◌≡◌, ℕ, ◌==◌, if◌then◌else◌, List, [], ◌∷◌, ◌++◌}

-- the new text begins with the old one
pub record StartsWith (old new : List ℕ) : Type 0 where
  pub more : List ℕ
  pub whole : new ≡ old ++ more

-- what parts the term at a place from the one before
abbrev pub comma_at : ℕ → List ℕ
comma_at at = if at == 0 then [] else 44 ∷ []
