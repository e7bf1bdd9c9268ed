-- The topmost element of a stack, which is the first of its list. The code keeps it last.
use Rattle.std.specs.Prelude.{List, [], ◌∷◌, Option, Some, None}

-- the first element, if there is one
abbrev pub top_of : {X : Type 0} → List X → Option X
top_of [] = None
top_of (x ∷ xs) = Some x

-- the elements without the first
abbrev pub without_top : {X : Type 0} → List X → List X
without_top [] = []
without_top (x ∷ xs) = xs
