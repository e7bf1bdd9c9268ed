-- What a call reaches after each kind of change.
use Rattle.std.proofs.Common.{◌≡◌, ◌≢◌, ℕ, ◌+◌, Bool, true, false, cond, nat_eq, List, Option, Some, None, option_and_then, refl, sym, ap, ◌∙◌, arith}
use Rattle.std.specs.Prelude.{slice_get}
use Rattle.std.proofs.lemmas.Bool.Decides.{nat_tests}
use Rattle.term_core.specs.declared.atom.Mfa.{Mfa}
use Rattle.mod_core.specs.declared.code.Module.{Module}
use Rattle.server_core.specs.declared.change.Change.{Change}
use Rattle.server_core.specs.declared.change.Change.TheVariants.{BringIn, MakeOld, DropOld}
use Rattle.server_core.specs.CommandTable.{with_all, with_deleted, with_purged}
use Rattle.server_core.specs.Decided.{FitsIn}
use Rattle.server_core.specs.ServerState.{Entry, IsSound, ServerState, code_of, current_of, dispatch_of}
use Rattle.server_core.proofs.Loads.{some_known}
use Rattle.server_core.proofs.Soundness.{current_set}
use Rattle.change_laws.specs.Calls.{KeepsCurrent, export_at}
use Rattle.change_laws.specs.Changes.{changed_state}
use Rattle.change_laws.proofs.LoadedCode.{HaveOther, code_before, code_new, current_new, current_other}

-- what a call reaches in a state, by the current code of its module
abbrev pub reached_by : ServerState → Mfa → Option ℕ → Option Entry
reached_by s to o = option_and_then (λ serial. option_and_then (λ m. export_at serial m to) (code_of s serial)) o

-- a call to a current module reaches what it exports
pub reaches_export : (s : ServerState) (to : Mfa) (serial : ℕ) (m : Module) → current_of s to.«module».0 ≡ Some serial → code_of s serial ≡ Some m → dispatch_of s to ≡ export_at serial m to
reaches_export s to serial m current code = ap (reached_by s to) current ∙ ap (option_and_then (λ k. export_at serial k to)) code

-- a call to a module without current code reaches nothing
pub reaches_nothing : (s : ServerState) (to : Mfa) → current_of s to.«module».0 ≡ None → dispatch_of s to ≡ None
reaches_nothing s to none = ap (reached_by s to) none

-- a call reaches the same where the current code of its module is the same instance of the same module
pub reaches_same : (s t : ServerState) (to : Mfa) → current_of t to.«module».0 ≡ current_of s to.«module».0 → ((serial : ℕ) → current_of s to.«module».0 ≡ Some serial → code_of t serial ≡ code_of s serial) → dispatch_of t to ≡ dispatch_of s to
reaches_same s t to current codes = by (current_of s to.«module».0) refl
  where
    by : (o : Option ℕ) → current_of s to.«module».0 ≡ o → dispatch_of t to ≡ dispatch_of s to
    by None e = reaches_nothing t to (current ∙ e) ∙ sym (reaches_nothing s to e)
    by (Some serial) e = ap (reached_by t to) (current ∙ e) ∙ ap (option_and_then (λ m. export_at serial m to)) (codes serial e) ∙ sym (ap (reached_by s to) e)

-- ---- loads

pub load_reached : (s : ServerState) (ms : List Module) (place : ℕ) (m : Module) (to : Mfa) → IsSound s → FitsIn s ms → slice_get ms place ≡ Some m → m.name.0 ≡ to.«module».0 → dispatch_of (with_all s ms) to ≡ export_at (s.next_serial + place) m to
load_reached s ms place m to sound fits at named =
    reaches_export (with_all s ms) to (s.next_serial + place) m (ap (current_of (with_all s ms)) (sym named) ∙ current_new s ms place m fits.once at) (code_new s ms place m sound at)

pub load_leaves : (s : ServerState) (ms : List Module) (to : Mfa) → IsSound s → HaveOther to.«module».0 ms → dispatch_of (with_all s ms) to ≡ dispatch_of s to
load_leaves s ms to sound others =
    reaches_same s (with_all s ms) to (current_other s ms to.«module».0 others) (λ serial e. code_before s ms serial (some_known s to.«module».0 serial sound e))

-- ---- deletes

pub deleted_reached : (s : ServerState) (name : ℕ) (to : Mfa) → name ≡ to.«module».0 → dispatch_of (with_deleted s name) to ≡ None
deleted_reached s name to same =
    let here : nat_eq to.«module».0 name ≡ true = grind (arith, nat_tests, same) in
    reaches_nothing (with_deleted s name) to (current_set s.versions (record { name = name; current = None; old = current_of s name }) to.«module».0 ∙ ap (λ b. cond b None (current_of s to.«module».0)) here)

pub delete_leaves : (s : ServerState) (name : ℕ) (to : Mfa) → name ≢ to.«module».0 → dispatch_of (with_deleted s name) to ≡ dispatch_of s to
delete_leaves s name to other = by (nat_eq to.«module».0 name) refl
  where
    by : (b : Bool) → nat_eq to.«module».0 name ≡ b → dispatch_of (with_deleted s name) to ≡ dispatch_of s to
    by true e = absurd (other (grind (arith, nat_tests)))
    by false e =
        let current = current_set s.versions (record { name = name; current = None; old = current_of s name }) to.«module».0 in
        reaches_same s (with_deleted s name) to (current ∙ ap (λ b. cond b None (current_of s to.«module».0)) e) (λ serial at. refl)

-- ---- other changes

-- a drop of old code leaves what is current
pub current_purged : (s : ServerState) (name serial k : ℕ) → current_of (with_purged s name serial) k ≡ current_of s k
current_purged s name serial k = current_set s.versions (record { name = name; current = current_of s name; old = None }) k ∙ by (nat_eq k name) refl
  where
    by : (b : Bool) → nat_eq k name ≡ b → cond b (current_of s name) (current_of s k) ≡ current_of s k
    by true e = let same : name ≡ k = grind (arith, nat_tests) in ap (current_of s) same
    by false e = refl

pub others_leave : (s : ServerState) (change : Change) (to : Mfa) → KeepsCurrent change → dispatch_of (changed_state s change) to ≡ dispatch_of s to
others_leave s (BringIn generation modules areas versions) to keeps = absurd keeps
others_leave s (MakeOld generation name) to keeps = absurd keeps
others_leave s (DropOld generation name serial says retired) to keeps = reaches_same s (with_purged s name.0 serial) to (current_purged s name.0 serial to.«module».0) (λ n at. refl)
others_leave s change to keeps = refl
