-- Operations that wait until a counter has reached a value, in the order in which they were pushed.
-- Source: Erlang/OTP erts internal documentation, ThreadProgress, on operations that are scheduled for later. The room
-- is this project's own. A list of pairs, a value and an operation; the code keeps them in one block.
use Rattle.std.specs.Prelude.{ℕ, Bool, nat_le, ◌<◌, if◌then◌else◌, List, [], ◌∷◌, Option, None, Some}
use Rattle.std.specs.List.{All}

-- what is held, each with the value that it waits for, and how many there may be
abbrev pub Waiting : Type 0 → Type 0
Waiting T = List (ℕ × T) × ℕ

-- an operation may be done once its value is reached
abbrev pub is_due : {T : Type 0} → ℕ → ℕ × T → Bool
is_due current waiting = nat_le waiting.0 current

-- the first that may be done, if there is one
abbrev pub first_due : {T : Type 0} → ℕ → List (ℕ × T) → Option T
first_due current [] = None
first_due current (w ∷ ws) = if is_due current w then Some w.1 else first_due current ws

-- those that stay once it is taken out
abbrev pub without_due : {T : Type 0} → ℕ → List (ℕ × T) → List (ℕ × T)
without_due current [] = []
without_due current (w ∷ ws) = if is_due current w then ws else w ∷ without_due current ws

-- none may be done yet
abbrev pub NoneIsDue : {T : Type 0} → ℕ → List (ℕ × T) → Type 0
NoneIsDue current held = All (λ w. current < w.0) held
