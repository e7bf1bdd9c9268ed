-- A table of references as the list of the functions that they name.
use Rattle.std.proofs.Common.{◌≡◌, ◌||◌, Bool, true, false, cond, List, [], ◌∷◌, map, filter, refl, ap}
use Rattle.std.specs.List.{list_any}
use Rattle.term_core.specs.declared.area.CodeRef.{CodeRef}
use Rattle.server_core.specs.ServerState.{Entry, entry_of}

-- what a filter keeps of the references is what it keeps of the functions
pub filter_shown : (test : Entry → Bool) (xs : List CodeRef) → map entry_of (filter (λ x. test (entry_of x)) xs) ≡ filter test (map entry_of xs)
filter_shown test [] = refl
filter_shown test (x ∷ xs) = by (test (entry_of x)) (filter_shown test xs)
  where
    by : (b : Bool) → map entry_of (filter (λ x. test (entry_of x)) xs) ≡ filter test (map entry_of xs)
        → map entry_of (cond b (x ∷ filter (λ x. test (entry_of x)) xs) (filter (λ x. test (entry_of x)) xs)) ≡ cond b (entry_of x ∷ filter test (map entry_of xs)) (filter test (map entry_of xs))
    by true ih = ap (λ es. entry_of x ∷ es) ih
    by false ih = ih

-- and so what passes a test
pub any_shown : (test : Entry → Bool) (xs : List CodeRef) → list_any (λ x. test (entry_of x)) xs ≡ list_any test (map entry_of xs)
any_shown test [] = refl
any_shown test (x ∷ xs) = ap (λ b. test (entry_of x) || b) (any_shown test xs)
