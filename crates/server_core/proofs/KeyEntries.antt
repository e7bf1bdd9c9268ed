-- The hash map of what keys hold as the plain list of persistent terms: what is looked up, put and erased, and how many areas there are.
use Rattle.std.proofs.Common.{◌≡◌, ℕ, ◌+◌, Bool, true, false, cond, not, nat_eq, List, [], ◌∷◌, map, Option, Some, None, option_map, option_and_then, is_some, if◌then◌else◌, refl, sym, ap, ◌∙◌, arith}
use Rattle.std.proofs.lemmas.Bool.Decides.{nat_tests}
use Rattle.std.specs.Map.{lookup, remove_entry}
use Rattle.indexmap.specs.IndexMap.{insert_entry}
use Rattle.server_core.specs.declared.keys.Held.{Held}
use Rattle.server_core.specs.CommandTable.{with_key, without_key}
use Rattle.server_core.specs.KeyTable.{persistent_in}
use Rattle.server_core.specs.Rooms.{area_among}
use Rattle.server_core.specs.ServerState.{Persistent, live_areas, persistent_among}

-- 1 where there is an area
abbrev pub counted : Option ℕ → ℕ
counted area = if is_some area then 1 else 0

pub flipped : (a b : ℕ) → nat_eq a b ≡ nat_eq b a
flipped a b = grind (arith, nat_tests)

same_number : (a b : ℕ) → nat_eq a b ≡ true → a ≡ b
same_number a b e = grind (arith, nat_tests)

-- what a key holds is what the map has at its atom
pub held_lookup : (es : List (ℕ × Held)) (key : ℕ) → persistent_among (map persistent_in es) key ≡ option_map (λ h. persistent_in (key, h)) (lookup (nat_eq key) es)
held_lookup [] key = refl
held_lookup (e ∷ es) key = ap (λ b. cond b (Some (persistent_in e)) (persistent_among (map persistent_in es) key)) (flipped e.0 key) ∙ by (nat_eq key e.0) refl (held_lookup es key)
  where
    by : (b : Bool) → nat_eq key e.0 ≡ b → persistent_among (map persistent_in es) key ≡ option_map (λ h. persistent_in (key, h)) (lookup (nat_eq key) es)
        → cond b (Some (persistent_in e)) (persistent_among (map persistent_in es) key) ≡ option_map (λ h. persistent_in (key, h)) (cond b (Some e.1) (lookup (nat_eq key) es))
    by true same rest = ap (λ k. Some (persistent_in (k, e.1))) (sym (same_number key e.0 same))
    by false other rest = rest

area_mapped : (key : ℕ) (o : Option Held) → option_and_then (λ p. p.area) (option_map (λ h. persistent_in (key, h)) o) ≡ option_and_then (λ h. h.area) o
area_mapped key None = refl
area_mapped key (Some h) = refl

-- and so its area
pub area_lookup : (es : List (ℕ × Held)) (key : ℕ) → area_among (map persistent_in es) key ≡ option_and_then (λ h. h.area) (lookup (nat_eq key) es)
area_lookup es key = ap (option_and_then (λ p. p.area)) (held_lookup es key) ∙ area_mapped key (lookup (nat_eq key) es)

-- what is put stands in the place of what its key held, or behind the others
pub put_persistents : (es : List (ℕ × Held)) (key : ℕ) (held : Held) → map persistent_in (insert_entry nat_eq es key held) ≡ with_key (map persistent_in es) (persistent_in (key, held))
put_persistents [] key held = refl
put_persistents (e ∷ es) key held = by (nat_eq key e.0) refl (put_persistents es key held) ∙ ap (λ b. cond b (persistent_in (key, held) ∷ map persistent_in es) (persistent_in e ∷ with_key (map persistent_in es) (persistent_in (key, held)))) (flipped key e.0)
  where
    by : (b : Bool) → nat_eq key e.0 ≡ b → map persistent_in (insert_entry nat_eq es key held) ≡ with_key (map persistent_in es) (persistent_in (key, held))
        → map persistent_in (cond b ((e.0, held) ∷ es) (e ∷ insert_entry nat_eq es key held)) ≡ cond b (persistent_in (key, held) ∷ map persistent_in es) (persistent_in e ∷ with_key (map persistent_in es) (persistent_in (key, held)))
    by true same rest = ap (λ k. persistent_in (k, held) ∷ map persistent_in es) (sym (same_number key e.0 same))
    by false other rest = ap (λ ps. persistent_in e ∷ ps) rest

-- how many areas there are after a put
pub areas_put : (ps : List Persistent) (new : Persistent) → live_areas (with_key ps new) + counted (area_among ps new.key) ≡ live_areas ps + counted new.area
areas_put [] new = omega arith
areas_put (p ∷ ps) new = by (nat_eq p.key new.key) (areas_put ps new)
  where
    by : (b : Bool) → live_areas (with_key ps new) + counted (area_among ps new.key) ≡ live_areas ps + counted new.area
        → live_areas (cond b (new ∷ ps) (p ∷ with_key ps new)) + counted (option_and_then (λ q. q.area) (cond b (Some p) (persistent_among ps new.key))) ≡ (counted p.area + live_areas ps) + counted new.area
    by true rest = omega arith
    by false rest = omega (arith, rest)

-- where a key holds nothing, all are those of the other keys
none_erased : (es : List (ℕ × Held)) (key : ℕ) → lookup (nat_eq key) es ≡ None → map persistent_in es ≡ without_key key (map persistent_in es)
none_erased [] key none = refl
none_erased (e ∷ es) key none = by (nat_eq key e.0) (none_erased es key) none ∙ ap (λ b. cond (not b) (persistent_in e ∷ without_key key (map persistent_in es)) (without_key key (map persistent_in es))) (flipped key e.0)
  where
    by : (b : Bool) → (lookup (nat_eq key) es ≡ None → map persistent_in es ≡ without_key key (map persistent_in es)) → cond b (Some e.1) (lookup (nat_eq key) es) ≡ None
        → persistent_in e ∷ map persistent_in es ≡ cond (not b) (persistent_in e ∷ without_key key (map persistent_in es)) (without_key key (map persistent_in es))
    by true rest none = absurd (cc)
    by false rest none = ap (λ ps. persistent_in e ∷ ps) (rest none)

-- what is left where the first entry of a key was its only one
pub erased_persistents : (es : List (ℕ × Held)) (key : ℕ) → lookup (nat_eq key) (remove_entry (nat_eq key) es) ≡ None → map persistent_in (remove_entry (nat_eq key) es) ≡ without_key key (map persistent_in es)
erased_persistents [] key once = refl
erased_persistents (e ∷ es) key once = by (nat_eq key e.0) refl (erased_persistents es key) once ∙ ap (λ b. cond (not b) (persistent_in e ∷ without_key key (map persistent_in es)) (without_key key (map persistent_in es))) (flipped key e.0)
  where
    later : (b : Bool) → nat_eq key e.0 ≡ b → b ≡ false → lookup (nat_eq key) (e ∷ remove_entry (nat_eq key) es) ≡ None → lookup (nat_eq key) (remove_entry (nat_eq key) es) ≡ None
    later b is other once = sym (ap (λ d. cond d (Some e.1) (lookup (nat_eq key) (remove_entry (nat_eq key) es))) (is ∙ other)) ∙ once

    by : (b : Bool) → nat_eq key e.0 ≡ b → (lookup (nat_eq key) (remove_entry (nat_eq key) es) ≡ None → map persistent_in (remove_entry (nat_eq key) es) ≡ without_key key (map persistent_in es)) → lookup (nat_eq key) (cond b es (e ∷ remove_entry (nat_eq key) es)) ≡ None
        → map persistent_in (cond b es (e ∷ remove_entry (nat_eq key) es)) ≡ cond (not b) (persistent_in e ∷ without_key key (map persistent_in es)) (without_key key (map persistent_in es))
    by true same rest once = none_erased es key once
    by false other rest once = ap (λ ps. persistent_in e ∷ ps) (rest (later false other refl once))

-- how many areas there are after an erase
pub areas_erased : (es : List (ℕ × Held)) (key : ℕ) → live_areas (map persistent_in (remove_entry (nat_eq key) es)) + counted (option_and_then (λ h. h.area) (lookup (nat_eq key) es)) ≡ live_areas (map persistent_in es)
areas_erased [] key = refl
areas_erased (e ∷ es) key = by (nat_eq key e.0) (areas_erased es key)
  where
    by : (b : Bool) → live_areas (map persistent_in (remove_entry (nat_eq key) es)) + counted (option_and_then (λ h. h.area) (lookup (nat_eq key) es)) ≡ live_areas (map persistent_in es)
        → live_areas (map persistent_in (cond b es (e ∷ remove_entry (nat_eq key) es))) + counted (option_and_then (λ h. h.area) (cond b (Some e.1) (lookup (nat_eq key) es))) ≡ counted e.1.area + live_areas (map persistent_in es)
    by true rest = omega arith
    by false rest = omega (arith, rest)

-- the area that a key's term had, where it was looked up in the map
pub former_shown : (es : List (ℕ × Held)) (ps : List Persistent) (key : ℕ) (former : Option ℕ) → map persistent_in es ≡ ps → former ≡ option_and_then (λ h. h.area) (lookup (nat_eq key) es) → former ≡ area_among ps key
former_shown es ps key former seen found = found ∙ sym (area_lookup es key) ∙ ap (λ qs. area_among qs key) seen

-- the count after a put
pub count_put : (es after : List (ℕ × Held)) (key : ℕ) (held : Held) (areas : ℕ) (former : Option ℕ) → areas ≡ live_areas (map persistent_in es) → former ≡ option_and_then (λ h. h.area) (lookup (nat_eq key) es) → after ≡ insert_entry nat_eq es key held
    → live_areas (map persistent_in after) + counted former ≡ areas + counted held.area
count_put es after key held areas former count found put =
    omega (arith, areas_put (map persistent_in es) (persistent_in (key, held)), ap live_areas (ap (map persistent_in) put ∙ put_persistents es key held), ap counted (found ∙ sym (area_lookup es key)), count)

-- and after an erase
pub count_erased : (es after : List (ℕ × Held)) (key : ℕ) (areas : ℕ) (former : Option ℕ) → areas ≡ live_areas (map persistent_in es) → former ≡ option_and_then (λ h. h.area) (lookup (nat_eq key) es) → after ≡ remove_entry (nat_eq key) es
    → live_areas (map persistent_in after) + counted former ≡ areas
count_erased es after key areas former count found left =
    omega (arith, areas_erased es key, ap (λ es. live_areas (map persistent_in es)) left, ap counted found, count)

-- what a key holds, where it was looked up in the map
pub held_shown : (es : List (ℕ × Held)) (ps : List Persistent) (key : ℕ) (o : Option Held) → map persistent_in es ≡ ps → o ≡ lookup (nat_eq key) es → option_map (λ h. persistent_in (key, h)) o ≡ persistent_among ps key
held_shown es ps key o seen found = ap (option_map (λ h. persistent_in (key, h))) found ∙ sym (held_lookup es key) ∙ ap (λ qs. persistent_among qs key) seen

some_mapped : (key : ℕ) (o : Option Held) → is_some o ≡ is_some (option_map (λ h. persistent_in (key, h)) o)
some_mapped key None = refl
some_mapped key (Some h) = refl

-- a key holds a term where the map has its atom
pub holds_shown : (es : List (ℕ × Held)) (ps : List Persistent) (key : ℕ) (b : Bool) → map persistent_in es ≡ ps → b ≡ is_some (lookup (nat_eq key) es) → b ≡ is_some (persistent_among ps key)
holds_shown es ps key b seen found = found ∙ some_mapped key (lookup (nat_eq key) es) ∙ ap is_some (held_shown es ps key (lookup (nat_eq key) es) seen refl)
