-- The hash map of serials as the plain list of versions: what is looked up, what a load leaves, and how many are live.
use Rattle.std.proofs.Common.{◌≡◌, ℕ, ◌+◌, ◌<◌, ◌≤◌, drop, get_or, length, Bool, true, false, cond, nat_eq, List, [], ◌∷◌, map, refl, sym, ap, ◌∙◌, Option, Some, None, Result, Ok, Err, OnErr, option_and_then, is_some, if◌then◌else◌, arith}
use Rattle.std.proofs.lemmas.Bool.Decides.{nat_tests}
use Rattle.std.proofs.lemmas.List.{drop_more}
use Rattle.std.specs.Map.{lookup}
use Rattle.std.specs.Result.{IsOk}
use Rattle.indexmap.specs.IndexMap.{insert_entry}
use Rattle.mod_core.specs.declared.code.Module.{Module}
use Rattle.server_core.specs.declared.versions.Serials.{Serials}
use Rattle.server_core.specs.ServerState.{Versions, current_among, old_among, live_count, live_of}
use Rattle.server_core.specs.CommandTable.{with_versions}
use Rattle.server_core.specs.Rooms.{with_current, with_currents, with_made_old, without_old}
use Rattle.server_core.specs.VersionTable.{versions_of}

-- the current code of a module is what the map has at its atom
pub current_lookup : (es : List (ℕ × Serials)) (name : ℕ) → current_among (map versions_of es) name ≡ option_and_then (λ s. s.current) (lookup (nat_eq name) es)
current_lookup [] name = refl
current_lookup (e ∷ es) name =
    elim (nat_eq name e.0) as (λ b. cond b e.1.current (current_among (map versions_of es) name) ≡ option_and_then (λ s. s.current) (cond b (Some e.1) (lookup (nat_eq name) es)))
    [ true ↦ refl | false ↦ current_lookup es name ]

-- and so the old code
pub old_lookup : (es : List (ℕ × Serials)) (name : ℕ) → old_among (map versions_of es) name ≡ option_and_then (λ s. s.old) (lookup (nat_eq name) es)
old_lookup [] name = refl
old_lookup (e ∷ es) name =
    elim (nat_eq name e.0) as (λ b. cond b e.1.old (old_among (map versions_of es) name) ≡ option_and_then (λ s. s.old) (cond b (Some e.1) (lookup (nat_eq name) es)))
    [ true ↦ refl | false ↦ old_lookup es name ]

entry_named : (e : ℕ × Serials) (rest : List (ℕ × Serials)) (name : ℕ) (s : Serials) (b : Bool) → nat_eq name e.0 ≡ b
    → map versions_of (insert_entry nat_eq rest name s) ≡ with_versions (map versions_of rest) (versions_of (name, s))
    → map versions_of (cond b ((e.0, s) ∷ rest) (e ∷ insert_entry nat_eq rest name s))
    ≡ cond b (versions_of (name, s) ∷ map versions_of rest) (versions_of e ∷ with_versions (map versions_of rest) (versions_of (name, s)))
entry_named e rest name s true h ih = let same : name ≡ e.0 = grind (arith, nat_tests) in ap (λ n. versions_of (n, s) ∷ map versions_of rest) (sym same)
entry_named e rest name s false h ih = ap (λ vs. versions_of e ∷ vs) ih

-- an insertion puts the versions in the place of those that the module had
pub insert_versions : (es : List (ℕ × Serials)) (name : ℕ) (s : Serials) → map versions_of (insert_entry nat_eq es name s) ≡ with_versions (map versions_of es) (versions_of (name, s))
insert_versions [] name s = refl
insert_versions (e ∷ es) name s = entry_named e es name s (nat_eq name e.0) refl (insert_versions es name s)

-- a load makes one instance more live, but where it drops old code
pub live_after : (vs : List Versions) (name serial : ℕ) → live_count (with_current vs name serial) + (if is_some (old_among vs name) then 1 else 0) ≡ live_count vs + 1
live_after [] name serial = refl
live_after (v ∷ vs) name serial =
    elim (nat_eq name v.name) as
    (λ b. live_count (cond b (record { name = name; current = Some serial; old = cond b v.current (current_among vs name) } ∷ vs) (v ∷ with_versions vs (record { name = name; current = Some serial; old = cond b v.current (current_among vs name) })))
    + (if is_some (cond b v.old (old_among vs name)) then 1 else 0) ≡ live_of v + live_count vs + 1)
    [ true ↦ omega arith | false ↦ omega (arith, live_after vs name serial) ]

-- what is in the map after a load of one module
pub made_current : (es after : List (ℕ × Serials)) (vs : List Versions) (name serial : ℕ) (s : Serials) → map versions_of es ≡ vs → s.current ≡ Some serial → s.old ≡ current_among vs name → after ≡ insert_entry nat_eq es name s
    → map versions_of after ≡ with_current vs name serial
made_current es after vs name serial s seen current old put =
    ap (map versions_of) put ∙ insert_versions es name s ∙ (λ i. with_versions (seen i) (record { name = name; current = current i; old = old i }))

-- the old code of a module among versions that a map shows
pub old_shown : (es : List (ℕ × Serials)) (vs : List Versions) (name : ℕ) (previous : Option Serials) → map versions_of es ≡ vs → previous ≡ lookup (nat_eq name) es → is_some (old_among vs name) ≡ is_some (option_and_then (λ s. s.old) previous)
old_shown es vs name previous seen found =
    ap (λ all. is_some (old_among all name)) (sym seen) ∙ ap is_some (old_lookup es name) ∙ ap (λ p. is_some (option_and_then (λ s. s.old) p)) (sym found)

-- one more is live where there was no old code
pub live_more : (vs after : List Versions) (name serial : ℕ) → after ≡ with_current vs name serial → is_some (old_among vs name) ≡ false → live_count vs + 1 ≡ live_count after
live_more vs after name serial put none = omega (arith, rw none at (live_after vs name serial), ap live_count put)

-- and no more where it is dropped
pub live_same : (vs after : List Versions) (name serial : ℕ) → after ≡ with_current vs name serial → is_some (old_among vs name) ≡ true → live_count vs ≡ live_count after
live_same vs after name serial put some = omega (arith, rw some at (live_after vs name serial), ap live_count put)

-- at most one more is live
pub live_within : (vs after : List Versions) (name serial : ℕ) → after ≡ with_current vs name serial → live_count after ≤ live_count vs + 1
live_within vs after name serial put = omega (arith, live_after vs name serial, ap live_count put)

-- how many instances of a module are live, by its name
abbrev pub live_at : List Versions → ℕ → ℕ
live_at vs name = (if is_some (current_among vs name) then 1 else 0) + (if is_some (old_among vs name) then 1 else 0)

-- versions in the place of a module's: so many more or fewer are live
pub live_set : (vs : List Versions) (new : Versions) → live_count (with_versions vs new) + live_at vs new.name ≡ live_count vs + live_of new
live_set [] new = omega arith
live_set (v ∷ vs) new =
    elim (nat_eq new.name v.name) as
    (λ b. live_count (cond b (new ∷ vs) (v ∷ with_versions vs new)) + ((if is_some (cond b v.current (current_among vs new.name)) then 1 else 0) + (if is_some (cond b v.old (old_among vs new.name)) then 1 else 0)) ≡ live_of v + live_count vs + live_of new)
    [ true ↦ omega arith | false ↦ omega (arith, live_set vs new) ]

-- as many are live once current code became old
pub live_made_old : (vs after : List Versions) (name : ℕ) → after ≡ with_made_old vs name → old_among vs name ≡ None → live_count vs ≡ live_count after
live_made_old vs after name put none = omega (arith, rw none at (live_set vs (record { name = name; current = None; old = current_among vs name })), ap live_count put)

-- and one less once old code was dropped
pub live_dropped : (vs after : List Versions) (name : ℕ) → after ≡ without_old vs name → is_some (old_among vs name) ≡ true → live_count after + 1 ≡ live_count vs
live_dropped vs after name put some = omega (arith, rw some at (live_set vs (record { name = name; current = current_among vs name; old = None })), ap live_count put)

-- the versions that a map shows once a module has these serials
pub put_versions : (es after : List (ℕ × Serials)) (vs : List Versions) (name : ℕ) (s : Serials) (new : Versions) → map versions_of es ≡ vs → versions_of (name, s) ≡ new → after ≡ insert_entry nat_eq es name s
    → map versions_of after ≡ with_versions vs new
put_versions es after vs name s new seen is put = ap (map versions_of) put ∙ insert_versions es name s ∙ (λ i. with_versions (seen i) (is i))

-- a module that has current code is in the map
pub current_in_map : {E : Type 0} (r : Result (Option Serials) E) (es : List (ℕ × Serials)) (vs : List Versions) (name : ℕ) → map versions_of es ≡ vs → OnErr r (lookup (nat_eq name) es ≡ None) → is_some (current_among vs name) ≡ true → IsOk r
current_in_map (Ok x) es vs name seen absent some = refl
current_in_map (Err e) es vs name seen absent some =
    let gone : is_some (current_among vs name) ≡ false = ap (λ all. is_some (current_among all name)) (sym seen) ∙ ap is_some (current_lookup es name) ∙ ap (λ o. is_some (option_and_then (λ s. s.current) o)) absent in
    absurd (cc)

-- and so is one that has old code
pub old_in_map : {E : Type 0} (r : Result (Option Serials) E) (es : List (ℕ × Serials)) (vs : List Versions) (name : ℕ) → map versions_of es ≡ vs → OnErr r (lookup (nat_eq name) es ≡ None) → is_some (old_among vs name) ≡ true → IsOk r
old_in_map (Ok x) es vs name seen absent some = refl
old_in_map (Err e) es vs name seen absent some =
    let gone : is_some (old_among vs name) ≡ false = old_shown es vs name None seen (sym absent) in
    absurd (cc)

-- the names of modules
abbrev pub names_of_modules : List Module → List ℕ
names_of_modules ms = map (λ m. m.name.0) ms

-- one load of a row of them, and the rest of the row
pub currents_step : (vs after : List Versions) (serial i : ℕ) (ms : List Module) (d : Module) → i < length ms → after ≡ with_current vs (get_or ms i d).name.0 serial
    → with_currents after (serial + 1) (names_of_modules (drop (i + 1) ms)) ≡ with_currents vs serial (names_of_modules (drop i ms))
currents_step vs after serial i ms d within put =
    ap (λ v. with_currents v (serial + 1) (names_of_modules (drop (i + 1) ms))) put
    ∙ ap (λ rest. with_currents vs serial (names_of_modules rest)) (sym (drop_more ms i d within))
