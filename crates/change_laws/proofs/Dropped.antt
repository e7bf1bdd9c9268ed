-- What each change retires, and that what is used is not among it.
use Rattle.std.proofs.Common.{◌≡◌, ℕ, ◌<◌, Bool, true, false, List, ◌++◌, inl, inr, refl, sym, ap, ◌∙◌, append-nil}
use Rattle.mod_core.specs.declared.code.Module.{Module}
use Rattle.server_core.specs.declared.change.Change.{Change}
use Rattle.server_core.specs.declared.change.Change.TheVariants.{BringIn, DropOld, HoldWord, HoldArea, Forget, GiveBack}
use Rattle.server_core.specs.CommandTable.{with_all}
use Rattle.server_core.specs.Decided.{IsNoRelease}
use Rattle.server_core.specs.ServerState.{IsDropped, IsInstanceOf, IsOldCode, IsSound, ServerState, current_of, is_retired, is_serial_in, old_of}
use Rattle.server_core.proofs.Loads.{some_known, with_all_parts}
use Rattle.server_core.proofs.Soundness.{area_is, at_some, instance_known, one_module}
use Rattle.change_laws.specs.Changes.{IsSameButCode, changed_state}
use Rattle.change_laws.specs.Uses.{IsCurrentCode, IsUsed, instances_dropped, terms_dropped}

-- ---- loads

pub load_leaves_rest : (s : ServerState) (ms : List Module) → IsSameButCode s (with_all s ms)
load_leaves_rest s ms =
    let parts = with_all_parts s ms in
    record {
      generation = ap (λ t. t.generation) parts;
      terms = ap (λ t. t.terms) parts;
      keys = ap (λ t. t.keys) parts;
      traced = ap (λ t. t.traced) parts;
      doomed = ap (λ t. t.doomed) parts;
      retired = ap (λ t. t.retired) parts;
      released = ap (λ t. t.released) parts;
    }

-- ---- what is retired

pub retired_after : (s : ServerState) (change : Change) → IsNoRelease change → (changed_state s change).retired ≡ s.retired ++ (instances_dropped change ++ terms_dropped s change)
retired_after s (BringIn generation modules areas versions) other = (load_leaves_rest s modules.items).retired ∙ sym (append-nil s.retired)
retired_after s (DropOld generation name serial says retired) other = refl
retired_after s (HoldWord generation key term keys retired) other = refl
retired_after s (HoldArea generation key term stored areas keys retired) other = refl
retired_after s (Forget generation key retired) other = refl
retired_after s (GiveBack serial released) other = absurd other
retired_after s change other = sym (append-nil s.retired)

pub released_after : (s : ServerState) (change : Change) → IsNoRelease change → (changed_state s change).released ≡ s.released
released_after s (BringIn generation modules areas versions) other = (load_leaves_rest s modules.items).released
released_after s (GiveBack serial released) other = absurd other
released_after s change other = refl

-- ---- what is used

pub used_known : (s : ServerState) (serial : ℕ) → IsSound s → IsUsed s serial → serial < s.next_serial
used_known s serial sound (inl p) = some_known s p.0 serial sound p.1
used_known s serial sound (inr (inl p)) = instance_known s sound p.0 serial (at_some (IsInstanceOf s p.0) (old_of s p.0) serial p.1 (sound.old p.0))
used_known s serial sound (inr (inr p)) = (area_is s p.0 serial sound p.1).2.known

-- an area that was dropped is not used
dropped_unused : (s : ServerState) (serial : ℕ) → IsDropped s serial → IsUsed s serial → ⊥
dropped_unused s serial dropped (inl p) = dropped.not_current p.0 p.1
dropped_unused s serial dropped (inr (inl p)) = dropped.not_old p.0 p.1
dropped_unused s serial dropped (inr (inr p)) = dropped.not_held p.0 p.1

-- a test that would be a fault
not_so : (b : Bool) → (b ≡ true → ⊥) → b ≡ false
not_so true never = absurd (never refl)
not_so false never = refl

pub used_not_dropped : (s : ServerState) (serial : ℕ) → IsSound s → IsUsed s serial → (is_retired s serial ≡ false) × (is_serial_in s.released serial ≡ false)
used_not_dropped s serial sound used =
    (not_so (is_retired s serial) (λ h. dropped_unused s serial (sound.retired serial h) used), not_so (is_serial_in s.released serial) (λ h. dropped_unused s serial (sound.released serial h) used))

pub old_not_current : (s : ServerState) (serial : ℕ) → IsSound s → IsOldCode s serial → IsCurrentCode s serial → ⊥
old_not_current s serial sound old current =
    let as_old = at_some (IsInstanceOf s old.0) (old_of s old.0) serial old.1 (sound.old old.0) in
    let as_current = at_some (IsInstanceOf s current.0) (current_of s current.0) serial current.1 (sound.current current.0) in
    let same : current.0 ≡ old.0 = one_module s current.0 old.0 serial as_current as_old in
    sound.apart old.0 serial (ap (current_of s) (sym same) ∙ current.1) old.1
