-- The hash map of serials as the plain list of modules: what is looked up in it, and what a write leaves.
use Rattle.std.proofs.Common.{◌≡◌, ℕ, Bool, true, false, cond, nat_eq, List, [], ◌∷◌, map, refl, sym, ap, ◌∙◌, Option, Some, None, Result, Ok, Err, OnErr, ◌||◌, option_and_then, is_some, arith}
use Rattle.std.proofs.lemmas.Bool.Decides.{nat_tests}
use Rattle.std.specs.Map.{lookup}
use Rattle.std.specs.Result.{IsOk}
use Rattle.indexmap.specs.IndexMap.{insert_entry}
use Rattle.module_table.specs.declared.table.Serials.{Serials}
use Rattle.module_table.specs.Modules.{ModuleInstances, current_in, has_instance, old_in, with_instances}
use Rattle.module_table.specs.ModuleTable.{instances_of}

-- the current instance of a module is what the map has at its atom
pub current_lookup : (es : List (ℕ × Serials)) (name : ℕ) → current_in (map instances_of es) name ≡ option_and_then (λ s. s.current) (lookup (nat_eq name) es)
current_lookup [] name = refl
current_lookup (e ∷ es) name =
    elim (nat_eq name e.0) as (λ b. cond b e.1.current (current_in (map instances_of es) name) ≡ option_and_then (λ s. s.current) (cond b (Some e.1) (lookup (nat_eq name) es)))
    [ true ↦ refl | false ↦ current_lookup es name ]

-- and so the old one
pub old_lookup : (es : List (ℕ × Serials)) (name : ℕ) → old_in (map instances_of es) name ≡ option_and_then (λ s. s.old) (lookup (nat_eq name) es)
old_lookup [] name = refl
old_lookup (e ∷ es) name =
    elim (nat_eq name e.0) as (λ b. cond b e.1.old (old_in (map instances_of es) name) ≡ option_and_then (λ s. s.old) (cond b (Some e.1) (lookup (nat_eq name) es)))
    [ true ↦ refl | false ↦ old_lookup es name ]

entry_named : (e : ℕ × Serials) (rest : List (ℕ × Serials)) (name : ℕ) (s : Serials) (b : Bool) → nat_eq name e.0 ≡ b
    → map instances_of (insert_entry nat_eq rest name s) ≡ with_instances (map instances_of rest) (instances_of (name, s))
    → map instances_of (cond b ((e.0, s) ∷ rest) (e ∷ insert_entry nat_eq rest name s))
    ≡ cond b (instances_of (name, s) ∷ map instances_of rest) (instances_of e ∷ with_instances (map instances_of rest) (instances_of (name, s)))
entry_named e rest name s true h ih = let same : name ≡ e.0 = grind (arith, nat_tests) in ap (λ n. instances_of (n, s) ∷ map instances_of rest) (sym same)
entry_named e rest name s false h ih = ap (λ ms. instances_of e ∷ ms) ih

-- an insertion puts the instances in the place of those that the module had
pub insert_instances : (es : List (ℕ × Serials)) (name : ℕ) (s : Serials) → map instances_of (insert_entry nat_eq es name s) ≡ with_instances (map instances_of es) (instances_of (name, s))
insert_instances [] name s = refl
insert_instances (e ∷ es) name s = entry_named e es name s (nat_eq name e.0) refl (insert_instances es name s)

-- the modules that a map shows once one has these serials
pub put_instances : (es after : List (ℕ × Serials)) (ms : List ModuleInstances) (name : ℕ) (s : Serials) (new : ModuleInstances) → map instances_of es ≡ ms → instances_of (name, s) ≡ new → after ≡ insert_entry nat_eq es name s
    → map instances_of after ≡ with_instances ms new
put_instances es after ms name s new seen is put = ap (map instances_of) put ∙ insert_instances es name s ∙ (λ i. with_instances (seen i) (is i))

-- a module that has an instance is in the map
pub module_in_map : {E : Type 0} (r : Result (Option Serials) E) (es : List (ℕ × Serials)) (ms : List ModuleInstances) (name : ℕ) → map instances_of es ≡ ms → OnErr r (lookup (nat_eq name) es ≡ None) → has_instance ms name ≡ true → IsOk r
module_in_map (Ok x) es ms name seen absent some = refl
module_in_map (Err e) es ms name seen absent some =
    let current : is_some (current_in ms name) ≡ false = ap (λ all. is_some (current_in all name)) (sym seen) ∙ ap is_some (current_lookup es name) ∙ ap (λ o. is_some (option_and_then (λ s. s.current) o)) absent in
    let old : is_some (old_in ms name) ≡ false = ap (λ all. is_some (old_in all name)) (sym seen) ∙ ap is_some (old_lookup es name) ∙ ap (λ o. is_some (option_and_then (λ s. s.old) o)) absent in
    let gone : has_instance ms name ≡ false = (λ i. current i || old i) in
    absurd (cc)

-- what is looked up after a module's instances were replaced
pub current_set : (ms : List ModuleInstances) (new : ModuleInstances) (k : ℕ) → current_in (with_instances ms new) k ≡ cond (nat_eq k new.name) new.current (current_in ms k)
current_set [] new k = refl
current_set (m ∷ ms) new k = by (nat_eq new.name m.name) refl (current_set ms new k)
  where
    by : (b : Bool) → nat_eq new.name m.name ≡ b → current_in (with_instances ms new) k ≡ cond (nat_eq k new.name) new.current (current_in ms k)
        → current_in (cond b (new ∷ ms) (m ∷ with_instances ms new)) k ≡ cond (nat_eq k new.name) new.current (cond (nat_eq k m.name) m.current (current_in ms k))
    by true e ih = grind (arith, nat_tests)
    by false e ih = grind (arith, nat_tests)

pub old_set : (ms : List ModuleInstances) (new : ModuleInstances) (k : ℕ) → old_in (with_instances ms new) k ≡ cond (nat_eq k new.name) new.old (old_in ms k)
old_set [] new k = refl
old_set (m ∷ ms) new k = by (nat_eq new.name m.name) refl (old_set ms new k)
  where
    by : (b : Bool) → nat_eq new.name m.name ≡ b → old_in (with_instances ms new) k ≡ cond (nat_eq k new.name) new.old (old_in ms k)
        → old_in (cond b (new ∷ ms) (m ∷ with_instances ms new)) k ≡ cond (nat_eq k new.name) new.old (cond (nat_eq k m.name) m.old (old_in ms k))
    by true e ih = grind (arith, nat_tests)
    by false e ih = grind (arith, nat_tests)
