-- A change that fits leaves a sound state sound.
use Rattle.std.proofs.Common.{◌≡◌, ◌≤◌, ℕ, true, false, List, [], ◌∷◌, ◌++◌, length, IsTrue, inl, inr, ◌⊎◌, subst, ap, arith}
use Rattle.term_core.specs.Plain.{plain}
use Rattle.server_core.specs.declared.change.Change.{Change}
use Rattle.server_core.specs.declared.change.Change.TheVariants.{Nothing, BringIn, MakeOld, DropOld, Condemn, HoldWord, HoldArea, Forget, SetTrace, ClearTrace, GiveBack}
use Rattle.server_core.specs.CommandTable.{with_all, with_complex, with_deleted, with_erased, with_immediate, with_purged, with_trace}
use Rattle.server_core.specs.Decided.{CanBeDoomed, Fits, with_doomed}
use Rattle.server_core.specs.ServerState.{Entry, IsDropped, IsOldCode, IsSound, ServerState, entry_of, is_doomed}
use Rattle.server_core.proofs.KeyChanges.{sound_complex, sound_erased, sound_immediate}
use Rattle.server_core.proofs.Loads.{sound_all}
use Rattle.server_core.proofs.SoundParts.{sound_terms, sound_whole, terms_kept}
use Rattle.server_core.proofs.Soundness.{held_later, sound_deleted, sound_published, sound_purged, sound_released}
use Rattle.change_laws.specs.Changes.{changed_state}

-- what is dropped does not depend on traces
pub dropped_traced : (s : ServerState) (traced : List Entry) (serial : ℕ) → IsDropped s serial → IsDropped (record s { traced = traced }) serial
dropped_traced s traced serial d = record { known = d.known; not_current = d.not_current; not_old = d.not_old; not_held = d.not_held }

-- whatever is traced, a state stays sound
pub sound_traced : (s : ServerState) (traced : List Entry) → IsSound s → IsSound (record s { traced = traced })
sound_traced s traced sound = sound_whole (record s { traced = traced }) (record {
  modules = sound.modules;
  current = sound.current;
  old = sound.old;
  apart = sound.apart;
  one_doomed = sound.one_doomed;
  doomed = sound.doomed;
  retired = λ k h. dropped_traced s traced k (sound.retired k h);
  released = λ k h. dropped_traced s traced k (sound.released k h);
  live = sound.live;
}) (terms_kept s (record s { traced = traced }) (omega arith) (λ serial known none. none) (sound_terms s sound))

-- old code that is doomed, while nothing else is
pub sound_doomed : (s : ServerState) (serial : ℕ) → IsSound s → CanBeDoomed s serial → IsSound (with_doomed s serial)
sound_doomed s serial sound can = sound_whole (with_doomed s serial) (record {
  modules = sound.modules;
  current = sound.current;
  old = sound.old;
  apart = sound.apart;
  one_doomed = one;
  doomed = λ k h. is_old k (held_later s.doomed serial k h);
  retired = λ k h. dropped_as k (sound.retired k h);
  released = λ k h. dropped_as k (sound.released k h);
  live = sound.live;
}) (terms_kept s (with_doomed s serial) (omega arith) (λ k known none. none) (sound_terms s sound))
  where
    one : length (s.doomed ++ serial ∷ []) ≤ 1
    one = let alone = ap (λ (l : List ℕ). length (l ++ serial ∷ [])) can.rest in omega (arith, alone)

    dropped_as : (k : ℕ) → IsDropped s k → IsDropped (with_doomed s serial) k
    dropped_as k d = record { known = d.known; not_current = d.not_current; not_old = d.not_old; not_held = d.not_held }

    is_old : (k : ℕ) → IsTrue (is_doomed s k) ⊎ (serial ≡ k) → IsOldCode (with_doomed s serial) k
    is_old k (inl h) = sound.doomed k h
    is_old k (inr h) = subst (λ n. IsOldCode s n) h can.old

-- each change keeps a state sound
pub change_sound : (s : ServerState) (change : Change) → IsSound s → Fits s change → IsSound (changed_state s change)
change_sound s (Nothing reply) sound fits = sound
change_sound s (BringIn generation modules areas versions) sound fits = sound_published (with_all s modules.items) _ (sound_all s modules.items sound fits.1.rest fits.1.sound fits.1.places)
change_sound s (MakeOld generation name) sound fits = sound_published (with_deleted s name.0) _ (sound_deleted s name.0 sound fits.1.rest)
change_sound s (DropOld generation name serial says retired) sound fits = sound_published (with_purged s name.0 serial) _ (sound_purged s name.0 serial sound fits.1.old fits.1.doomed)
change_sound s (Condemn generation serial) sound fits = sound_published (with_doomed s serial) _ (sound_doomed s serial sound fits.1)
change_sound s (HoldWord generation key term keys retired) sound fits = sound_published (with_immediate s key.0 (plain term)) _ (sound_immediate s key.0 (plain term) sound fits.1.short fits.1.place fits.2)
change_sound s (HoldArea generation key term stored areas keys retired) sound fits = sound_published (with_complex s key.0 (plain term)) _ (sound_complex s key.0 (plain term) sound fits.1.short fits.1.place fits.2)
change_sound s (Forget generation key retired) sound fits = sound_published (with_erased s key.0) _ (sound_erased s key.0 sound)
change_sound s (SetTrace generation at traced) sound fits = sound_published (with_trace s (entry_of at) true) _ (sound_traced s _ sound)
change_sound s (ClearTrace generation at) sound fits = sound_published (with_trace s (entry_of at) false) _ (sound_traced s _ sound)
change_sound s (GiveBack serial released) sound fits = sound_released s serial sound fits.0
