-- Groups of items, of which the last grows.
use Rattle.std.specs.Prelude.{List, [], ◌∷◌, ◌++◌}

-- an item joins the last group
abbrev pub onto_last : {X : Type 0} → List (List X) → X → List (List X)
onto_last [] x = (x ∷ []) ∷ []
onto_last (group ∷ []) x = (group ++ x ∷ []) ∷ []
onto_last (group ∷ other ∷ groups) x = group ∷ onto_last (other ∷ groups) x
