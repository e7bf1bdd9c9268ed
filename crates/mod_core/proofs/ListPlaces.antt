-- An index of a list of modules: what it finds, and that it stands when a module joins the list.
use Rattle.std.proofs.Common.{◌≡◌, ℕ, suc, ◌+◌, Bool, true, false, cond, List, [], ◌∷◌, ◌++◌, length, Option, Some, None, option_map, option_and_then, is_some, find, position, slice_get, refl, sym, ap, ◌∙◌, arith}
use Rattle.std.specs.Map.{lookup}
use Rattle.std.proofs.lemmas.Bool.Decides.{nat_tests}
use Rattle.term_core.proofs.Places.{position-cons, position-append_one, position-append_found}
use Rattle.mod_core.specs.declared.code.Module.{Module}
use Rattle.mod_core.specs.declared.module_list.ModuleKey.{ModuleKey}
use Rattle.mod_core.specs.ModulePlaces.{TellsPlaces, is_of_key, is_same_key}

-- the first element that passes stands at the first place
pub find_in : {X : Type 0} (p : X → Bool) (xs : List X) → find p xs ≡ option_and_then (slice_get xs) (position p xs)
find_in p [] = refl
find_in p (x ∷ xs) = by (p x) (position p xs) (find_in p xs) ∙ sym (ap (option_and_then (slice_get (x ∷ xs))) (position-cons p x xs))
  where
    by : (b : Bool) (o : Option ℕ) → find p xs ≡ option_and_then (slice_get xs) o → cond b (Some x) (find p xs) ≡ option_and_then (slice_get (x ∷ xs)) (cond b (Some 0) (option_map (λ i. i + 1) o))
    by true o e = refl
    by false None e = e
    by false (Some i) e = let next : suc i ≡ i + 1 = omega arith in e ∙ ap (slice_get (x ∷ xs)) next

-- an element that does not pass leaves the first place
pub position-append_other : {X : Type 0} (p : X → Bool) (xs : List X) (y : X) → p y ≡ false → position p (xs ++ y ∷ []) ≡ position p xs
position-append_other p [] y fails = position-cons p y [] ∙ ap (λ b. cond {A = Option ℕ} b (Some 0) None) fails
position-append_other p (x ∷ xs) y fails =
    position-cons p x (xs ++ y ∷ []) ∙ ap (λ o. cond (p x) (Some 0) (option_map (λ i. i + 1) o)) (position-append_other p xs y fails) ∙ sym (position-cons p x xs)

-- the name and the version of a module
abbrev pub key_of : Module → ModuleKey
key_of m = record { name = m.name.0; version = m.version }

-- keys of one name and one version are the same
same_key : (a b : ModuleKey) → is_same_key a b ≡ true → a ≡ b
same_key a b h =
    let name : a.name ≡ b.name = grind (arith, nat_tests) in
    let version : a.version ≡ b.version = grind (arith, nat_tests) in
    λ i. record { name = name i; version = version i }

-- where a module has the name and version of one of the list, the index stays
pub places_kept : (es : List (ModuleKey × ℕ)) (ms : List Module) (m : Module) → TellsPlaces es ms → is_some (lookup (is_same_key (key_of m)) es) ≡ true → TellsPlaces es (ms ++ m ∷ [])
places_kept es ms m has held key = by (is_of_key key m) refl
  where
    found : (o : Option ℕ) → lookup (is_same_key (key_of m)) es ≡ o → is_some o ≡ true → key_of m ≡ key → lookup (is_same_key key) es ≡ position (is_of_key key) (ms ++ m ∷ [])
    found None at some same = cc
    found (Some n) at some same =
        let here : lookup (is_same_key key) es ≡ Some n = ap (λ k. lookup (is_same_key k) es) (sym same) ∙ at in
        here ∙ sym (position-append_found (is_of_key key) ms (m ∷ []) n (sym (has key) ∙ here))

    by : (b : Bool) → is_of_key key m ≡ b → lookup (is_same_key key) es ≡ position (is_of_key key) (ms ++ m ∷ [])
    by true e = found (lookup (is_same_key (key_of m)) es) refl held (same_key (key_of m) key e)
    by false e = has key ∙ sym (position-append_other (is_of_key key) ms m e)

-- where no module of the list has its name and version, the index has its place too
pub places_with : (es after : List (ModuleKey × ℕ)) (ms : List Module) (m : Module) → TellsPlaces es ms → is_some (lookup (is_same_key (key_of m)) es) ≡ false
    → ((key : ModuleKey) → lookup (is_same_key key) after ≡ cond (is_same_key (key_of m) key) (Some (length ms)) (lookup (is_same_key key) es)) → TellsPlaces after (ms ++ m ∷ [])
places_with es after ms m has new updates key = updates key ∙ by (is_of_key key m) refl
  where
    none : (o : Option ℕ) → lookup (is_same_key (key_of m)) es ≡ o → is_some o ≡ false → lookup (is_same_key (key_of m)) es ≡ None
    none None at is = at
    none (Some n) at is = cc

    by : (b : Bool) → is_of_key key m ≡ b → cond b (Some (length ms)) (lookup (is_same_key key) es) ≡ position (is_of_key key) (ms ++ m ∷ [])
    by true e =
        let here : lookup (is_same_key key) es ≡ None = ap (λ k. lookup (is_same_key k) es) (sym (same_key (key_of m) key e)) ∙ none (lookup (is_same_key (key_of m)) es) refl new in
        sym (position-append_one (is_of_key key) ms m (sym (has key) ∙ here) e)
    by false e = has key ∙ sym (position-append_other (is_of_key key) ms m e)
