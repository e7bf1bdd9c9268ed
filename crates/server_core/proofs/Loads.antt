-- What a load of modules leaves: their instances behind those before, their versions, and a sound state.
use Rattle.std.proofs.Common.{◌≡◌, ℕ, suc, map, ◌+◌, ◌<◌, ◌≤◌, Bool, true, false, cond, nat_eq, List, [], ◌∷◌, ◌++◌, length, Option, Some, None, IfSome, IsSomeAnd, All, refl, sym, ap, ◌∙◌, arith, append-nil, append_assoc, length-append}
use Rattle.std.proofs.lemmas.List.{length-map}
use Rattle.std.proofs.lemmas.Bool.Decides.{nat_tests}
use Rattle.std.proofs.lemmas.Option.{IfSome_then}
use Rattle.mod_core.specs.declared.code.Module.{Module}
use Rattle.mod_core.specs.Module.{IsModule}
use Rattle.server_core.specs.declared.command.TheConstants.{MOST_INSTANCES}
use Rattle.server_core.specs.ServerState.{Instance, ServerState, Versions, IsDropped, IsInstanceOf, IsSound, code_among, current_of, live_count, old_of}
use Rattle.server_core.specs.CommandTable.{with_all, with_loaded}
use Rattle.server_core.specs.Rooms.{with_current, with_currents}
use Rattle.server_core.specs.declared.areas.Area.{Area}
use Rattle.server_core.specs.declared.areas.Area.TheVariants.{Loaded, Stored}
use Rattle.server_core.specs.Areas.{instances_in, numbered, terms_in}
use Rattle.server_core.proofs.CurrentCode.{live_after, names_of_modules}
use Rattle.server_core.proofs.SoundParts.{sound_terms, sound_whole, terms_kept}
use Rattle.server_core.proofs.Soundness.{IsFit, at_some, instance_known, some_same, sound_versions, with_instance, gone_dropped}

-- instances that were loaded, behind those before
pub instances_loaded : (n : ℕ) (areas : List Area) (ms : List Module) → instances_in n (areas ++ map Loaded ms) ≡ instances_in n areas ++ numbered (n + length areas) ms
instances_loaded n [] [] = refl
instances_loaded n [] (m ∷ ms) =
    let e : n + 1 ≡ n + 1 + 0 = omega arith in
    let f : n ≡ n + 0 = omega arith in
    ap (λ is. record { serial = n; code = m } ∷ is) (instances_loaded (n + 1) [] ms) ∙ (λ i. record { serial = f i; code = m } ∷ numbered (add_one i) ms)
  where
    add_one : n + 1 + 0 ≡ n + 0 + 1
    add_one = omega arith
instances_loaded n (Loaded m ∷ areas) ms =
    let e : n + 1 + length areas ≡ n + suc (length areas) = omega arith in
    ap (λ is. record { serial = n; code = m } ∷ is) (instances_loaded (n + 1) areas ms ∙ ap (λ k. instances_in (n + 1) areas ++ numbered k ms) e)
instances_loaded n (Stored t ∷ areas) ms =
    let e : n + 1 + length areas ≡ n + suc (length areas) = omega arith in
    instances_loaded (n + 1) areas ms ∙ ap (λ k. instances_in (n + 1) areas ++ numbered k ms) e

-- modules are no terms
pub terms_loaded : (n : ℕ) (areas : List Area) (ms : List Module) → terms_in n (areas ++ map Loaded ms) ≡ terms_in n areas
terms_loaded n [] [] = refl
terms_loaded n [] (m ∷ ms) = terms_loaded (n + 1) [] ms
terms_loaded n (Loaded m ∷ areas) ms = terms_loaded (n + 1) areas ms
terms_loaded n (Stored t ∷ areas) ms = ap (λ ts. record { serial = n; term = t } ∷ ts) (terms_loaded (n + 1) areas ms)

-- the parts of a state after all loads
pub with_all_parts : (s : ServerState) (ms : List Module)
    → with_all s ms ≡ record s { next_serial = s.next_serial + length ms; instances = s.instances ++ numbered s.next_serial ms; versions = with_currents s.versions s.next_serial (names_of_modules ms) }
with_all_parts s [] =
    let e : s.next_serial ≡ s.next_serial + 0 = omega arith in
    λ i. record s { next_serial = e i; instances = sym (append-nil s.instances) i }
with_all_parts s (m ∷ ms) =
    let e : (s.next_serial + 1) + length ms ≡ s.next_serial + suc (length ms) = omega arith in
    let is : (s.instances ++ record { serial = s.next_serial; code = m } ∷ []) ++ numbered (s.next_serial + 1) ms ≡ s.instances ++ numbered s.next_serial (m ∷ ms) = append_assoc s.instances _ (numbered (s.next_serial + 1) ms) in
    with_all_parts (with_loaded s m) ms ∙ (λ i. record s { next_serial = e i; instances = is i; versions = with_currents s.versions s.next_serial (names_of_modules (m ∷ ms)) })

-- the instances before a load are modules with serials before the next one, and so with the new one
modules_push : (is : List Instance) (n : ℕ) (m : Module) (k : ℕ) → IfSome (code_among is k) (λ x. IsModule x × (k < n)) → IsModule m
    → IfSome (code_among (is ++ record { serial = n; code = m } ∷ []) k) (λ x. IsModule x × (k < n + 1))
modules_push [] n m k h sound = by (nat_eq n k) refl
  where
    by : (b : Bool) → nat_eq n k ≡ b → IfSome (cond b (Some m) None) (λ x. IsModule x × (k < n + 1))
    by true e = (sound, grind (arith, nat_tests))
    by false e = tt
modules_push (i ∷ is) n m k h sound = by (nat_eq i.serial k) (λ rest. modules_push is n m k rest sound) h
  where
    by : (b : Bool) → (IfSome (code_among is k) (λ x. IsModule x × (k < n)) → IfSome (code_among (is ++ record { serial = n; code = m } ∷ []) k) (λ x. IsModule x × (k < n + 1)))
        → IfSome (cond b (Some i.code) (code_among is k)) (λ x. IsModule x × (k < n)) → IfSome (cond b (Some i.code) (code_among (is ++ record { serial = n; code = m } ∷ []) k)) (λ x. IsModule x × (k < n + 1))
    by true rest h = (h.0, omega (arith, h.1))
    by false rest h = rest h

-- an instance stays the same module
pub instance_kept : (is more : List Instance) (k : ℕ) (P : Module → Type 0) → IsSomeAnd (code_among is k) P → IsSomeAnd (code_among (is ++ more) k) P
instance_kept [] more k P h = absurd h
instance_kept (i ∷ is) more k P h = by (nat_eq i.serial k) (instance_kept is more k P) h
  where
    by : (b : Bool) → (IsSomeAnd (code_among is k) P → IsSomeAnd (code_among (is ++ more) k) P) → IsSomeAnd (cond b (Some i.code) (code_among is k)) P → IsSomeAnd (cond b (Some i.code) (code_among (is ++ more) k)) P
    by true rest h = h
    by false rest h = rest h

-- and a new serial is that of the new one
instance_new : (is : List Instance) (n : ℕ) (m : Module) (P : Module → Type 0) → IfSome (code_among is n) (λ x. IsModule x × (n < n)) → P m → IsSomeAnd (code_among (is ++ record { serial = n; code = m } ∷ []) n) P
instance_new [] n m P h holds = by (nat_eq n n) refl
  where
    by : (b : Bool) → nat_eq n n ≡ b → IsSomeAnd (cond b (Some m) None) P
    by true e = holds
    by false e = absurd (grind (arith, nat_tests))
instance_new (i ∷ is) n m P h holds = by (nat_eq i.serial n) (λ rest. instance_new is n m P rest holds) h
  where
    by : (b : Bool) → (IfSome (code_among is n) (λ x. IsModule x × (n < n)) → IsSomeAnd (code_among (is ++ record { serial = n; code = m } ∷ []) n) P) → IfSome (cond b (Some i.code) (code_among is n)) (λ x. IsModule x × (n < n)) → IsSomeAnd (cond b (Some i.code) (code_among (is ++ record { serial = n; code = m } ∷ []) n)) P
    by true rest h = absurd (omega (arith, h.1))
    by false rest h = rest h

-- an instance of a module stays one
stays : (s : ServerState) (m : Module) (name : ℕ) (o : Option ℕ) → IfSome o (IsInstanceOf s name) → IfSome o (IsInstanceOf (with_instance s m) name)
stays s m name o h = IfSome_then o h (λ k at. instance_kept s.instances (record { serial = s.next_serial; code = m } ∷ []) k (λ x. x.name.0 ≡ name) at)

-- an area that was dropped stays one
dropped_stays : (s : ServerState) (m : Module) (serial : ℕ) → IsDropped s serial → IsDropped (with_instance s m) serial
dropped_stays s m serial d = record { known = omega (arith, d.known); not_current = d.not_current; not_old = d.not_old; not_held = d.not_held }

-- serials below the new one are those of the instances before
pub code_pushed : (is : List Instance) (n k : ℕ) (m : Module) → k < n → code_among (is ++ record { serial = n; code = m } ∷ []) k ≡ code_among is k
code_pushed [] n k m below = let other : nat_eq n k ≡ false = grind (arith, nat_tests) in ap (λ b. cond b (Some m) None) other
code_pushed (i ∷ is) n k m below = ap (cond (nat_eq i.serial k) (Some i.code)) (code_pushed is n k m below)

-- one more instance keeps a state sound
sound_instance : (s : ServerState) (m : Module) → IsSound s → IsModule m → IsSound (with_instance s m)
sound_instance s m sound module_sound = sound_whole (with_instance s m) (record {
  modules = λ serial. modules_push s.instances s.next_serial m serial (sound.modules serial) module_sound;
  current = λ name. stays s m name (current_of s name) (sound.current name);
  old = λ name. stays s m name (old_of s name) (sound.old name);
  apart = sound.apart;
  one_doomed = sound.one_doomed;
  doomed = sound.doomed;
  retired = λ serial h. dropped_stays s m serial (sound.retired serial h);
  released = λ serial h. dropped_stays s m serial (sound.released serial h);
  live = sound.live;
}) (terms_kept s (with_instance s m) (omega arith) (λ serial known none. code_pushed s.instances s.next_serial serial m known ∙ none) (sound_terms s sound))

-- an instance that came in has a serial below the next one
pub some_known : (s : ServerState) (name serial : ℕ) → IsSound s → current_of s name ≡ Some serial → serial < s.next_serial
some_known s name serial sound e = instance_known s sound name serial (at_some (IsInstanceOf s name) (current_of s name) serial e (sound.current name))

-- the new instance as current code, and what was current as old
loaded_fits : (s : ServerState) (m : Module) → IsSound s → IsFit (with_instance s m) (record { name = m.name.0; current = Some s.next_serial; old = current_of s m.name.0 })
loaded_fits s m sound = record {
  current = instance_new s.instances s.next_serial m (λ x. x.name.0 ≡ m.name.0) (sound.modules s.next_serial) refl;
  old = stays s m m.name.0 (current_of s m.name.0) (sound.current m.name.0);
  apart = λ serial c o. let known = some_known s m.name.0 serial sound o in absurd (omega (arith, known, some_same s.next_serial serial c));
  current_stands = λ serial gone c. let d = gone_dropped s serial sound gone in absurd (omega (arith, d.known, some_same s.next_serial serial c));
  old_stands = λ serial gone. (gone_dropped s serial sound gone).not_current m.name.0;
}

-- one load keeps a state sound
pub sound_loaded : (s : ServerState) (m : Module) → IsSound s → s.doomed ≡ [] → IsModule m → live_count s.versions < MOST_INSTANCES → IsSound (with_loaded s m)
sound_loaded s m sound rest module_sound place =
    let room : live_count (with_current s.versions m.name.0 s.next_serial) ≤ MOST_INSTANCES = omega (arith, live_after s.versions m.name.0 s.next_serial) in
    sound_versions (with_instance s m) (record { name = m.name.0; current = Some s.next_serial; old = current_of s m.name.0 }) (sound_instance s m sound module_sound) (loaded_fits s m sound) rest room

-- and so do all of them
pub sound_all : (s : ServerState) (ms : List Module) → IsSound s → s.doomed ≡ [] → All IsModule ms → live_count s.versions + length ms ≤ MOST_INSTANCES → IsSound (with_all s ms)
sound_all s [] sound rest modules places = sound
sound_all s (m ∷ ms) sound rest modules places =
    sound_all (with_loaded s m) ms (sound_loaded s m sound rest (modules 0 m (omega arith)) (omega arith)) rest (λ k d h. modules (suc k) d (omega arith)) (omega (arith, live_after s.versions m.name.0 s.next_serial))

-- the state that a server's tables show once the modules came in; what a load leaves alone is that of `other`
pub brought_in : (generation next : ℕ) (areas all : List Area) (staged : List Module) (vs after : List Versions) (other s : ServerState)
    → record other { generation = generation; next_serial = length areas + 1; instances = instances_in 1 areas; versions = vs; terms = terms_in 1 areas } ≡ s
    → next ≡ generation + 1 → all ≡ areas ++ map Loaded staged → after ≡ with_currents vs (length areas + 1) (names_of_modules staged)
    → record (with_all s staged) { generation = (with_all s staged).generation + 1 } ≡ record other { generation = next; next_serial = length all + 1; instances = instances_in 1 all; versions = after; terms = terms_in 1 all }
brought_in generation next areas all staged vs after other s shown gen appended put =
    let publish : ServerState → ServerState = λ t. record t { generation = t.generation + 1 } in
    let serial : (length areas + 1) + length staged ≡ length all + 1 = omega (arith, length-append areas (map Loaded staged), length-map staged Loaded, ap length appended) in
    let first : length areas + 1 ≡ 1 + length areas = omega arith in
    let is : instances_in 1 areas ++ numbered (length areas + 1) staged ≡ instances_in 1 all = ap (λ k. instances_in 1 areas ++ numbered k staged) first ∙ sym (instances_loaded 1 areas staged) ∙ ap (instances_in 1) (sym appended) in
    let ts : terms_in 1 areas ≡ terms_in 1 all = sym (terms_loaded 1 areas staged) ∙ ap (terms_in 1) (sym appended) in
    ap publish (ap (λ t. with_all t staged) (sym shown) ∙ with_all_parts (record other { generation = generation; next_serial = length areas + 1; instances = instances_in 1 areas; versions = vs; terms = terms_in 1 areas }) staged)
    ∙ (λ i. record other { generation = sym gen i; next_serial = serial i; instances = is i; versions = sym put i; terms = ts i })
