-- Which areas are used or retired after each kind of change, by the state before.
use Rattle.std.proofs.Common.{◌≡◌, ◌⊎◌, inl, inr, ℕ, ◌≤◌, List, [], ◌∷◌, Option, Some, None, IsTrue, option_and_then, refl, sym, ap, ◌∙◌, arith}
use Rattle.term_core.specs.Plain.{plain}
use Rattle.mod_core.specs.declared.code.Module.{Module}
use Rattle.server_core.specs.declared.change.Change.{Change}
use Rattle.server_core.specs.declared.change.Change.TheVariants.{BringIn, MakeOld, DropOld, HoldWord, HoldArea, Forget, GiveBack}
use Rattle.server_core.specs.CommandTable.{with_all, with_key, with_loaded, without_key}
use Rattle.server_core.specs.Decided.{Fits}
use Rattle.server_core.specs.Rooms.{area_among}
use Rattle.server_core.specs.ServerState.{IsOldCode, Persistent, ServerState, current_of, is_retired, is_serial_in, key_area, old_of}
use Rattle.server_core.proofs.KeyChanges.{IsAreaOf, area_of_key, in_option, persistent_erased, persistent_put}
use Rattle.server_core.proofs.Loads.{with_all_parts}
use Rattle.server_core.proofs.Soundness.{held_before, held_later, some_same}
use Rattle.change_laws.specs.Changes.{changed_state}
use Rattle.change_laws.specs.Uses.{IsHeldArea, IsUsed}
use Rattle.change_laws.proofs.LoadedCode.{no_serial}
use Rattle.change_laws.proofs.VersionUses.{IsChosen, StoodOr, WasVersion, current_all, current_stood, old_chosen, old_deleted, old_purged}

-- ---- areas that are used

-- an area was used before, or has a serial from this one on
abbrev pub UsedOr : ServerState → ℕ → Type 0
UsedOr s serial = IsUsed s serial ⊎ (s.next_serial ≤ serial)

-- current code
from_current : (s : ServerState) (name serial : ℕ) → StoodOr s.next_serial (current_of s name) serial → UsedOr s serial
from_current s name serial (inl e) = inl (inl (name, e))
from_current s name serial (inr later) = inr later

-- old code
from_old : (s : ServerState) (name serial : ℕ) → WasVersion s name serial → UsedOr s serial
from_old s name serial (inl e) = inl (inl (name, e))
from_old s name serial (inr e) = inl (inr (inl (name, e)))

-- the area of a key, which holds what it held or something new
from_key : (s : ServerState) (key k serial : ℕ) (o : Option Persistent) → ((n : ℕ) → option_and_then (λ p. p.area) o ≡ Some n → s.next_serial ≤ n) → IsAreaOf s key o k serial → UsedOr s serial
from_key s key k serial o new (inl p) = inr (new serial p.1)
from_key s key k serial o new (inr p) = inl (inr (inr (k, p.1)))

-- a put
from_put : (s : ServerState) (new : Persistent) (k serial : ℕ) → ((n : ℕ) → new.area ≡ Some n → s.next_serial ≤ n) → area_among (with_key s.keys new) k ≡ Some serial → UsedOr s serial
from_put s new k serial later e = from_key s new.key k serial (Some new) later (area_of_key s new.key (Some new) (with_key s.keys new) k serial (persistent_put s.keys new k) e)

-- an erase
from_erase : (s : ServerState) (key k serial : ℕ) → area_among (without_key key s.keys) k ≡ Some serial → UsedOr s serial
from_erase s key k serial e = from_key s key k serial None (λ n gone. no_serial n gone) (area_of_key s key None (without_key key s.keys) k serial (persistent_erased s.keys key k) e)

-- whatever is used is one of the three
by_use : (s t : ServerState) (serial : ℕ) → ((name : ℕ) → current_of t name ≡ Some serial → UsedOr s serial) → ((name : ℕ) → old_of t name ≡ Some serial → UsedOr s serial) → ((key : ℕ) → key_area t key ≡ Some serial → UsedOr s serial) → IsUsed t serial → UsedOr s serial
by_use s t serial current old held (inl p) = current p.0 p.1
by_use s t serial current old held (inr (inl p)) = old p.0 p.1
by_use s t serial current old held (inr (inr p)) = held p.0 p.1

-- one load
used_loaded : (s : ServerState) (m : Module) (serial : ℕ) → IsUsed (with_loaded s m) serial → UsedOr s serial
used_loaded s m serial used =
    by_use s (with_loaded s m) serial (λ name e. from_current s name serial (current_all s (m ∷ []) name serial e))
    (λ name e. by name (old_chosen s (record { name = m.name.0; current = Some s.next_serial; old = current_of s m.name.0 }) name serial e)) (λ key e. inl (inr (inr (key, e)))) used
  where
    by : (name : ℕ) → IsChosen name m.name.0 (current_of s m.name.0) (old_of s name) serial → UsedOr s serial
    by name (inl p) = inl (inl (m.name.0, p.1))
    by name (inr p) = inl (inr (inl (name, p.1)))

-- all loads
used_all : (s : ServerState) (ms : List Module) (serial : ℕ) → IsUsed (with_all s ms) serial → UsedOr s serial
used_all s [] serial used = inl used
used_all s (m ∷ ms) serial used = by (used_all (with_loaded s m) ms serial used)
  where
    by : UsedOr (with_loaded s m) serial → UsedOr s serial
    by (inl p) = used_loaded s m serial p
    by (inr later) = inr (omega (arith, later))

-- a change that leaves old code to be what was current or old
with_versions_used : (s t : ServerState) (serial : ℕ) → ((name : ℕ) → current_of t name ≡ Some serial → StoodOr s.next_serial (current_of s name) serial) → ((name : ℕ) → old_of t name ≡ Some serial → WasVersion s name serial)
    → ((key : ℕ) → key_area t key ≡ key_area s key) → IsUsed t serial → UsedOr s serial
with_versions_used s t serial current old keys used =
    by_use s t serial (λ name e. from_current s name serial (current name e)) (λ name e. from_old s name serial (old name e)) (λ key e. inl (inr (inr (key, sym (keys key) ∙ e)))) used

-- a change of what a key holds
with_keys_used : (s t : ServerState) (serial : ℕ) → ((name : ℕ) → current_of t name ≡ current_of s name) → ((name : ℕ) → old_of t name ≡ old_of s name) → ((key : ℕ) → key_area t key ≡ Some serial → UsedOr s serial) → IsUsed t serial → UsedOr s serial
with_keys_used s t serial current old held used =
    by_use s t serial (λ name e. inl (inl (name, sym (current name) ∙ e))) (λ name e. inl (inr (inl (name, sym (old name) ∙ e)))) held used

pub used_stood : (s : ServerState) (change : Change) (serial : ℕ) → IsUsed (changed_state s change) serial → UsedOr s serial
used_stood s (BringIn generation modules areas versions) serial used = used_all s modules.items serial used
used_stood s (MakeOld generation name) serial used = with_versions_used s (changed_state s (MakeOld generation name)) serial (λ n e. current_stood s (MakeOld generation name) n serial e) (λ n e. old_deleted s name.0 n serial e) (λ key. refl) used
used_stood s (DropOld generation name old says retired) serial used = with_versions_used s (changed_state s (DropOld generation name old says retired)) serial (λ n e. current_stood s (DropOld generation name old says retired) n serial e) (λ n e. inr (old_purged s name.0 old n serial e)) (λ key. refl) used
used_stood s (HoldWord generation key term keys retired) serial used =
    with_keys_used s (changed_state s (HoldWord generation key term keys retired)) serial (λ name. refl) (λ name. refl)
    (λ k e. from_put s (record { key = key.0; term = plain term; area = None }) k serial (λ n gone. no_serial n gone) e) used
used_stood s (HoldArea generation key term stored areas keys retired) serial used =
    with_keys_used s (changed_state s (HoldArea generation key term stored areas keys retired)) serial (λ name. refl) (λ name. refl)
    (λ k e. from_put s (record { key = key.0; term = plain term; area = Some s.next_serial }) k serial (λ n is. let same = some_same s.next_serial n is in omega (arith, same)) e) used
used_stood s (Forget generation key retired) serial used =
    with_keys_used s (changed_state s (Forget generation key retired)) serial (λ name. refl) (λ name. refl) (λ k e. from_erase s key.0 k serial e) used
used_stood s change serial used = inl used

-- ---- areas that are retired

-- an area was retired before, or was old code or the area of a key
abbrev pub RetiredOr : ServerState → ℕ → Type 0
RetiredOr s serial = IsTrue (is_retired s serial) ⊎ (IsOldCode s serial ⊎ IsHeldArea s serial)

-- with the area of what a key held
with_former : (s : ServerState) (key serial : ℕ) → (IsTrue (is_serial_in s.retired serial)) ⊎ (key_area s key ≡ Some serial) → RetiredOr s serial
with_former s key serial (inl h) = inl h
with_former s key serial (inr e) = inr (inr (key, e))

-- with old code that was dropped
with_old : (s : ServerState) (name old serial : ℕ) → old_of s name ≡ Some old → (IsTrue (is_serial_in s.retired serial)) ⊎ (old ≡ serial) → RetiredOr s serial
with_old s name old serial was (inl h) = inl h
with_old s name old serial was (inr same) = inr (inl (name, was ∙ ap Some same))

pub retired_stood : (s : ServerState) (change : Change) (serial : ℕ) → Fits s change → IsTrue (is_retired (changed_state s change) serial) → RetiredOr s serial
retired_stood s (BringIn generation modules areas versions) serial fits h = inl (sym (ap (λ (t : ServerState). is_retired t serial) (with_all_parts s modules.items)) ∙ h)
retired_stood s (DropOld generation name old says retired) serial fits h = with_old s name.0 old serial fits.1.old (held_later s.retired old serial h)
retired_stood s (HoldWord generation key term keys retired) serial fits h = with_former s key.0 serial (in_option (key_area s key.0) s.retired serial h)
retired_stood s (HoldArea generation key term stored areas keys retired) serial fits h = with_former s key.0 serial (in_option (key_area s key.0) s.retired serial h)
retired_stood s (Forget generation key retired) serial fits h = with_former s key.0 serial (in_option (key_area s key.0) s.retired serial h)
retired_stood s (GiveBack old released) serial fits h = inl (held_before s.retired old serial h)
retired_stood s change serial fits h = inl h
