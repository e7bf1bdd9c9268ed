-- Watches: a soft purge told that a process stands in old code after one of its turns. They are judged as the turns go by.
-- Source: the manual page `code`, on `soft_purge`; what a process and its turn in the answer mean is this project's own. The lawful log says it of all turns of a process;
-- here it is said of the turns under one generation, since no others can make it true.
use Rattle.std.specs.Prelude.{◌≡◌, ℕ, ◌+◌, ◌-◌, ◌<◌, ◌≤◌, ◌==◌, nat_le, Bool, true, List, [], ◌∷◌, ◌++◌, Option, Some, None, IfSome}
use Rattle.std.specs.List.{AllByRecursion, list_all, list_any, prefix_len}
use Rattle.server_core.specs.ServerState.{ServerState}
use Rattle.machine_core.specs.declared.process.Frame.{Frame}
use Rattle.machine_core.specs.Holds.{is_among}
use Rattle.machine_core.specs.Process.{PlainProcess, names_of}
use Rattle.run_log.specs.Legal.{after_turns}
use Rattle.span_check.specs.declared.watch.Watch.{Watch}

-- the turn of the first watch, if there is one
abbrev pub first_turn : List Watch → Option ℕ
first_turn [] = None
first_turn (watch ∷ watches) = Some watch.turn

-- no watch looks at an earlier turn than the one before it
abbrev pub AreInOrder : List Watch → Type 0
AreInOrder [] = Unit {0}
AreInOrder (watch ∷ watches) = IfSome (first_turn watches) (λ turn. watch.turn ≤ turn) × AreInOrder watches

-- no watch looks at an earlier turn than this one
abbrev pub AreFrom : ℕ → List Watch → Type 0
AreFrom turns watches = AllByRecursion (λ watch. turns ≤ watch.turn) watches

-- each watch looks at a later turn than this one
abbrev pub AreLater : ℕ → List Watch → Type 0
AreLater turns watches = AllByRecursion (λ watch. turns < watch.turn) watches

-- a frame of the process is of the instance
abbrev pub stands_in : PlainProcess → ℕ → Bool
stands_in p serial = is_among (names_of p).frames serial

-- whether one of the code's frames is of the instance
abbrev pub one_runs : List Frame → ℕ → Bool
one_runs frames serial = list_any (λ f. f.code.area.serial == serial) frames

-- whether in each of these watches' instances one of the code's frames is
abbrev pub all_run : List Frame → List Watch → Bool
all_run frames watches = list_all (λ watch. one_runs frames watch.serial) watches

-- a process that goes on from here under one state stands in the watched instance after the watched turn
pub record Sees (s : ServerState) (p : PlainProcess) (watch : Watch) : Type 0 where
  pub from : p.turns ≤ watch.turn
  pub stands : stands_in (after_turns s (watch.turn - p.turns) p) watch.serial ≡ true

-- how many of these watches look at no later turn than this one, up to the first that does
abbrev pub due_count : ℕ → List Watch → ℕ
due_count turns watches = prefix_len (λ watch. nat_le watch.turn turns) watches

-- a process had so many turns under one state and goes on: the watches in front were seen, those that are left look at later turns
pub record AreSeen (s : ServerState) (p : PlainProcess) (turns : ℕ) (watches left : List Watch) : Type 0 where
  pub front : List Watch
  pub parts : watches ≡ front ++ left
  pub seen : AllByRecursion (Sees s p) front
  pub low : AllByRecursion (λ watch. watch.turn ≤ p.turns + turns) front
  pub later : AreLater (p.turns + turns) left

-- a process had so many turns under one state, and the last one ended it: no watch that is left looks at an earlier turn
pub record AreSeenToEnd (s : ServerState) (p : PlainProcess) (turns : ℕ) (watches left : List Watch) : Type 0 where
  pub front : List Watch
  pub parts : watches ≡ front ++ left
  pub seen : AllByRecursion (Sees s p) front
  pub low : AllByRecursion (λ watch. watch.turn ≤ p.turns + turns) front
  pub none : (after_turns s turns p).frames ≡ []
  pub from : AreFrom (p.turns + turns) left
