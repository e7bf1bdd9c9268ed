-- What a state exports is exported by some module text of its instances.
use Rattle.std.proofs.Common.{◌≡◌, List, Option, Some, None, IsSome, IfSome, IsSomeAnd, option_map, option_and_then, refl, ap, subst, Contains}
use Rattle.std.proofs.lemmas.Option.{none-some, option_and_then_some}
use Rattle.term_core.specs.declared.atom.AtomId.{AtomId}
use Rattle.term_core.specs.declared.atom.Mfa.{Mfa}
use Rattle.mod_core.specs.declared.code.Module.{Module}
use Rattle.server_core.specs.ServerState.{ServerState, Entry, IsInstanceOf, IsSound, code_of, current_of, dispatch_of, export_of}
use Rattle.run_log.specs.InstanceTexts.{AreOfTexts, IsExportedAmong}

map_some : {A B : Type 0} (f : A → B) (o : Option A) (b : B) → option_map f o ≡ Some b → IsSome o
map_some f None b h = absurd (none-some b h)
map_some f (Some a) b h = refl

if_some : {A : Type 0} (P : A → Type 0) (o : Option A) (a : A) → o ≡ Some a → IfSome o P → P a
if_some P o a e h = subst (λ x. IfSome x P) e h

some_and : {A : Type 0} (P : A → Type 0) (o : Option A) (a : A) → o ≡ Some a → IsSomeAnd o P → P a
some_and P o a e h = subst (λ x. IsSomeAnd x P) e h

same_atom : (a b : AtomId) → a.0 ≡ b.0 → a ≡ b
same_atom a b e = ap (λ n. record { 0 = n }) e

-- a function that the state reaches is exported by the module of an instance
pub dispatched_exported : (texts : List Module) (s : ServerState) (to : Mfa) (e : Entry) → IsSound s → AreOfTexts texts s → dispatch_of s to ≡ Some e → IsExportedAmong texts to
dispatched_exported texts s to e sound known h =
    option_and_then_some (λ serial. option_and_then (λ m. option_map (λ i. record { serial = serial; function = i }) (export_of m to)) (code_of s serial)) (current_of s to.«module».0) e h
    (λ serial current at.
    option_and_then_some (λ m. option_map (λ i. record { serial = serial; function = i }) (export_of m to)) (code_of s serial) e at
    (λ m code exports.
    let instance = some_and (λ (n : Module). n.name.0 ≡ to.«module».0) (code_of s serial) m code (if_some (IsInstanceOf s to.«module».0) (current_of s to.«module».0) serial current (sound.current to.«module».0)) in
    let given = if_some (Contains texts) (code_of s serial) m code (known serial) in
    (given.0, m, given.1, given.2, record { here = same_atom m.name to.«module» instance; exported = map_some (λ i. record { serial = serial; function = i }) (export_of m to) e exports })))
