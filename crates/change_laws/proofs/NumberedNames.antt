-- Names that are reached after a change were reached before, or are exports of what came in.
use Rattle.std.proofs.Common.{◌≡◌, inl, inr, ℕ, ◌+◌, ◌<◌, ◌≤◌, Bool, true, false, cond, ◌&&◌, ◌==◌, nat_eq, List, [], ◌∷◌, Option, Some, None, IsSome, All, option_and_then, option_map, if◌then◌else◌, refl, sym, ap, ◌∙◌, subst, arith}
use Rattle.std.proofs.lemmas.Bool.Decides.{nat_tests}
use Rattle.std.proofs.lemmas.List.Elements.{All-cons, All-head, All-nil, All-tail}
use Rattle.term_core.specs.declared.atom.Mfa.{Mfa}
use Rattle.term_core.specs.Plain.{plain}
use Rattle.mod_core.specs.declared.code.Module.{Module}
use Rattle.server_core.specs.declared.change.Change.{Change}
use Rattle.server_core.specs.declared.change.Change.TheVariants.{BringIn, MakeOld, DropOld}
use Rattle.server_core.specs.declared.command.Cmd.{Cmd}
use Rattle.server_core.specs.declared.command.ModRef.{ModRef}
use Rattle.server_core.specs.CommandTable.{Outcome, apply_of, text_of, texts_of, with_all, with_deleted, with_dropped, with_loaded, with_purged, with_put}
use Rattle.server_core.specs.Generations.{AreNumbered, number_of_name}
use Rattle.server_core.specs.ServerState.{IsSound, ServerState, code_among, code_of, current_of, dispatch_of, export_of}
use Rattle.server_core.proofs.Changes.{Came, as_before, came, came_in, was_deleted, was_doomed, was_erased, was_purged, was_put, was_released, was_soft_purged, was_traced}
use Rattle.server_core.proofs.CommandLaws.{put_keeps}
use Rattle.server_core.proofs.Loads.{code_pushed, some_known}
use Rattle.server_core.proofs.Soundness.{current_set, some_same}
use Rattle.change_laws.specs.Changes.{modules_of, changed_state}
use Rattle.change_laws.specs.Names.{IsNumbered}
use Rattle.change_laws.proofs.LoadedCode.{code_behind, no_code_from, no_module, some_module}
use Rattle.change_laws.proofs.Reached.{current_purged, deleted_reached, delete_leaves, others_leave, reaches_export, reaches_same}
use Rattle.change_laws.proofs.VersionUses.{IsChosen, current_chosen}

some_modules : (a b : List Module) → Some a ≡ Some b → a ≡ b
some_modules a b e = cc

-- ---- loads

-- serials from the next one on are no instance's, and no current code's
pub record AreGiven (s : ServerState) : Type 0 where
  pub codes : (serial : ℕ) → s.next_serial ≤ serial → code_of s serial ≡ None
  pub current : (name serial : ℕ) → current_of s name ≡ Some serial → serial < s.next_serial

pub sound_given : (s : ServerState) → IsSound s → AreGiven s
sound_given s sound = record { codes = λ serial later. no_code_from s serial sound later; current = λ name serial e. some_known s name serial sound e }

-- what stands behind the instances is no other serial's
code_last : (n serial : ℕ) (m : Module) (b : Bool) → nat_eq n serial ≡ b → code_among (record { serial = n; code = m } ∷ []) serial ≡ (if b then Some m else None)
code_last n serial m b is = ap (λ d. if d then Some m else None) is

-- one load more
loaded_given : (s : ServerState) (m : Module) → AreGiven s → AreGiven (with_loaded s m)
loaded_given s m given = record {
  codes = λ serial later. code_behind s.instances (record { serial = s.next_serial; code = m } ∷ []) serial (given.codes serial (omega (arith, later))) ∙ code_last s.next_serial serial m false (grind (arith, nat_tests, later));
  current = λ name serial e. below name serial (current_chosen s (record { name = m.name.0; current = Some s.next_serial; old = current_of s m.name.0 }) name serial e);
}
  where
    below : (name serial : ℕ) → IsChosen name m.name.0 (Some s.next_serial) (current_of s name) serial → serial < s.next_serial + 1
    below name serial (inl p) = let same = some_same s.next_serial serial p.1 in omega (arith, same)
    below name serial (inr p) = let known = given.current name serial p.1 in omega (arith, known)

-- what is there once it is mapped was there before
some_before : {A B : Type 0} (f : A → B) (o : Option A) → IsSome (option_map f o) → IsSome o
some_before f None h = h
some_before f (Some x) h = refl

-- a state in which calls reach what they reached
as_was : (names : List Mfa) (s t : ServerState) → ((to : Mfa) → dispatch_of t to ≡ dispatch_of s to) → AreNumbered names s → AreNumbered names t
as_was names s t same numbered to reached = numbered to (subst IsSome (same to) reached)

-- one module comes in
numbered_loaded : (names : List Mfa) (s : ServerState) (m : Module) → AreGiven s → IsNumbered names m → AreNumbered names s → AreNumbered names (with_loaded s m)
numbered_loaded names s m given exports numbered to reached = by (nat_eq to.«module».0 m.name.0) refl
  where
    current : current_of (with_loaded s m) to.«module».0 ≡ cond (nat_eq to.«module».0 m.name.0) (Some s.next_serial) (current_of s to.«module».0)
    current = current_set s.versions (record { name = m.name.0; current = Some s.next_serial; old = current_of s m.name.0 }) to.«module».0

    stands : code_of (with_loaded s m) s.next_serial ≡ Some m
    stands = code_behind s.instances (record { serial = s.next_serial; code = m } ∷ []) s.next_serial (given.codes s.next_serial (omega arith)) ∙ code_last s.next_serial s.next_serial m true (grind (arith, nat_tests))

    by : (b : Bool) → nat_eq to.«module».0 m.name.0 ≡ b → IsSome (number_of_name names to)
    by true is =
        let here = reaches_export (with_loaded s m) to s.next_serial m (current ∙ ap (λ d. cond d (Some s.next_serial) (current_of s to.«module».0)) is) stands in
        exports to (grind (arith, nat_tests)) (some_before _ (export_of m to) (subst IsSome here reached))
    by false is =
        let there = reaches_same s (with_loaded s m) to (current ∙ ap (λ d. cond d (Some s.next_serial) (current_of s to.«module».0)) is) (λ serial e. code_pushed s.instances s.next_serial serial m (given.current to.«module».0 serial e)) in
        numbered to (subst IsSome there reached)

-- all of them
pub numbered_all : (names : List Mfa) (s : ServerState) (ms : List Module) → AreGiven s → All (IsNumbered names) ms → AreNumbered names s → AreNumbered names (with_all s ms)
numbered_all names s [] given exports numbered = numbered
numbered_all names s (m ∷ ms) given exports numbered =
    numbered_all names (with_loaded s m) ms (loaded_given s m given) (All-tail (IsNumbered names) m ms exports) (numbered_loaded names s m given (All-head (IsNumbered names) m ms exports) numbered)

-- ---- changes

-- a module's current code becomes old
numbered_deleted : (names : List Mfa) (s : ServerState) (name : ℕ) → AreNumbered names s → AreNumbered names (with_deleted s name)
numbered_deleted names s name numbered to reached = by (nat_eq name to.«module».0) refl
  where
    by : (b : Bool) → nat_eq name to.«module».0 ≡ b → IsSome (number_of_name names to)
    by true is = absurd (cc (subst IsSome (deleted_reached s name to (grind (arith, nat_tests))) reached))
    by false is = numbered to (subst IsSome (delete_leaves s name to (λ same. absurd (grind (arith, nat_tests, same)))) reached)

pub changes_numbered : (names : List Mfa) (s : ServerState) (change : Change) → IsSound s → All (IsNumbered names) (modules_of change) → AreNumbered names s → AreNumbered names (changed_state s change)
changes_numbered names s (BringIn generation modules areas versions) sound exports numbered = numbered_all names s modules.items (sound_given s sound) exports numbered
changes_numbered names s (MakeOld generation name) sound exports numbered = numbered_deleted names s name.0 numbered
changes_numbered names s (DropOld generation name serial says retired) sound exports numbered = as_was names s (changed_state s (DropOld generation name serial says retired)) (λ to. others_leave s (DropOld generation name serial says retired) to tt) numbered
changes_numbered names s change sound exports numbered = numbered

-- ---- commands

found_each : (P : Module → Type 0) (texts : List Module) (to : ModRef) (m : Module) → All P texts → text_of texts to ≡ Some m → P m
found_each P [] to m each found = no_module m found
found_each P (t ∷ ts) to m each found = by (t.name.0 == to.name.0 && t.version == to.version) found (found_each P ts to m (All-tail P t ts each))
  where
    by : (b : Bool) → cond b (Some t) (text_of ts to) ≡ Some m → (text_of ts to ≡ Some m → P m) → P m
    by true found more = subst P (some_module t m found) (All-head P t ts each)
    by false found more = more found

-- what holds of each text holds of each that a load finds
pub texts_each : (P : Module → Type 0) (texts : List Module) (refs : List ModRef) (ms : List Module) → All P texts → texts_of texts refs ≡ Some ms → All P ms
texts_each P texts [] ms each found = subst (All P) (some_modules [] ms found) (All-nil P)
texts_each P texts (to ∷ refs) ms each found = by (text_of texts to) (texts_of texts refs) found (λ m. found_each P texts to m each) (λ rest. texts_each P texts refs rest each)
  where
    by : (o : Option Module) (r : Option (List Module)) → option_and_then (λ m. option_map (λ rest. m ∷ rest) r) o ≡ Some ms → ((m : Module) → o ≡ Some m → P m) → ((rest : List Module) → r ≡ Some rest → All P rest) → All P ms
    by None r found first more = absurd (cc)
    by (Some m) None found first more = absurd (cc)
    by (Some m) (Some rest) found first more = subst (All P) (some_modules (m ∷ rest) ms found) (All-cons P m rest (first m refl) (more rest refl))

-- each case of the command table
case_numbered : (names : List Mfa) (texts : List Module) (s : ServerState) (cmd : Cmd) (o : Outcome) → IsSound s → All (IsNumbered names) texts → AreNumbered names s → Came texts s cmd o → AreNumbered names o.state
case_numbered names texts s cmd o sound exports numbered (as_before reply e) = subst (λ (p : Outcome). AreNumbered names p.state) (sym e) numbered
case_numbered names texts s cmd o sound exports numbered (came_in refs modules is rest comes e) =
    subst (λ (p : Outcome). AreNumbered names p.state) (sym e) (numbered_all names s modules (sound_given s sound) (texts_each (IsNumbered names) texts refs modules exports comes.given) numbered)
case_numbered names texts s cmd o sound exports numbered (was_deleted name is rest old current e) = subst (λ (p : Outcome). AreNumbered names p.state) (sym e) (numbered_deleted names s name.0 numbered)
case_numbered names texts s cmd o sound exports numbered (was_soft_purged name serial is rest old e) =
    subst (λ (p : Outcome). AreNumbered names p.state) (sym e) (as_was names s (with_dropped s name.0 serial) (λ to. reaches_same s (with_dropped s name.0 serial) to (current_purged s name.0 serial to.«module».0) (λ n at. refl)) numbered)
case_numbered names texts s cmd o sound exports numbered (was_doomed name serial is rest old e) = subst (λ (p : Outcome). AreNumbered names p.state) (sym e) numbered
case_numbered names texts s cmd o sound exports numbered (was_purged name killed serial is doomed old e) =
    subst (λ (p : Outcome). AreNumbered names p.state) (sym e) (as_was names s (with_purged s name.0 serial) (λ to. reaches_same s (with_purged s name.0 serial) to (current_purged s name.0 serial to.«module».0) (λ n at. refl)) numbered)
case_numbered names texts s cmd o sound exports numbered (was_put key term is rest put e) =
    subst (λ (p : Outcome). AreNumbered names p.state) (sym e) (as_was names s (with_put s key.0 (plain term)) (λ to. put_keeps (λ t. dispatch_of t to) s key.0 (plain term) (dispatch_of s to) refl refl) numbered)
case_numbered names texts s cmd o sound exports numbered (was_erased key held is rest was e) = subst (λ (p : Outcome). AreNumbered names p.state) (sym e) numbered
case_numbered names texts s cmd o sound exports numbered (was_traced target on at is rest found other e) = subst (λ (p : Outcome). AreNumbered names p.state) (sym e) numbered
case_numbered names texts s cmd o sound exports numbered (was_released serial is retired e) = subst (λ (p : Outcome). AreNumbered names p.state) (sym e) numbered

pub commands_numbered : (names : List Mfa) (texts : List Module) (s : ServerState) (cmd : Cmd) (o : Outcome) → IsSound s → All (IsNumbered names) texts → AreNumbered names s → apply_of texts s cmd ≡ Some o → AreNumbered names o.state
commands_numbered names texts s cmd o sound exports numbered e = case_numbered names texts s cmd o sound exports numbered (came texts s cmd o e)
