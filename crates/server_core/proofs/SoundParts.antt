-- A sound state in two parts: what is known of its modules, and what is known of its persistent terms.
use Rattle.std.proofs.Common.{◌≡◌, ◌≢◌, ℕ, ◌<◌, ◌≤◌, IsTrue, length, Option, Some, None, IfSome, arith}
use Rattle.std.proofs.lemmas.Option.{IfSome_then}
use Rattle.term_core.specs.PlainTerm.{PlainTerm}
use Rattle.mod_core.specs.Module.{IsModule}
use Rattle.server_core.specs.declared.command.TheConstants.{MOST_INSTANCES, MOST_KEYS, MOST_TERMS}
use Rattle.server_core.specs.ServerState.{ServerState, IsDropped, IsInstanceOf, IsOldCode, IsPersistent, IsSound, IsTermArea, HasItsArea, code_of, current_of, is_doomed, is_retired, is_serial_in, key_area, live_areas, live_count, old_of, persistent_of, term_of_area}

-- what is known of modules, and of areas that were dropped
pub record HasSoundCode (s : ServerState) : Type 0 where
  pub modules : (serial : ℕ) → IfSome (code_of s serial) (λ m. IsModule m × (serial < s.next_serial))
  pub current : (name : ℕ) → IfSome (current_of s name) (IsInstanceOf s name)
  pub old : (name : ℕ) → IfSome (old_of s name) (IsInstanceOf s name)
  pub apart : (name serial : ℕ) → current_of s name ≡ Some serial → old_of s name ≢ Some serial
  pub one_doomed : length s.doomed ≤ 1
  pub doomed : (serial : ℕ) → IsTrue (is_doomed s serial) → IsOldCode s serial
  pub retired : (serial : ℕ) → IsTrue (is_retired s serial) → IsDropped s serial
  pub released : (serial : ℕ) → IsTrue (is_serial_in s.released serial) → IsDropped s serial
  pub live : live_count s.versions ≤ MOST_INSTANCES

-- what is known of persistent terms
pub record HasSoundTerms (s : ServerState) : Type 0 where
  pub terms : (serial : ℕ) → IfSome (term_of_area s serial) (IsTermArea s serial)
  pub keys : (key : ℕ) → IfSome (persistent_of s key) (IsPersistent s)
  pub keys_apart : (key other serial : ℕ) → key_area s key ≡ Some serial → key_area s other ≡ Some serial → key ≡ other
  pub few_keys : length s.keys ≤ MOST_KEYS
  pub few_areas : live_areas s.keys ≤ MOST_TERMS

-- both parts make a sound state
pub sound_whole : (s : ServerState) → HasSoundCode s → HasSoundTerms s → IsSound s
sound_whole s code terms = record {
  modules = code.modules;
  current = code.current;
  old = code.old;
  apart = code.apart;
  one_doomed = code.one_doomed;
  doomed = code.doomed;
  retired = code.retired;
  released = code.released;
  live = code.live;
  terms = terms.terms;
  keys = terms.keys;
  keys_apart = terms.keys_apart;
  few_keys = terms.few_keys;
  few_areas = terms.few_areas;
}

-- the second part of a sound state
pub sound_terms : (s : ServerState) → IsSound s → HasSoundTerms s
sound_terms s sound = record { terms = sound.terms; keys = sound.keys; keys_apart = sound.keys_apart; few_keys = sound.few_keys; few_areas = sound.few_areas }

-- what a key holds keeps its area where areas keep their terms
pub area_kept : (s t : ServerState) (term : PlainTerm) (area : Option ℕ) → ((serial : ℕ) → term_of_area s serial ≡ Some term → term_of_area t serial ≡ Some term) → HasItsArea s term area → HasItsArea t term area
area_kept s t term None kept h = h
area_kept s t term (Some serial) kept h = kept serial h

-- what is known of persistent terms stays where they stay, whatever else changes, but that no term's area becomes an instance
pub terms_kept : (s other : ServerState) → s.next_serial ≤ other.next_serial → ((serial : ℕ) → serial < s.next_serial → code_of s serial ≡ None → code_of other serial ≡ None) → HasSoundTerms s → HasSoundTerms (record other { terms = s.terms; keys = s.keys })
terms_kept s other later no_code h = record {
  terms = λ serial. IfSome_then (term_of_area s serial) (h.terms serial) (λ t area. record { sound = area.sound; complex = area.complex; known = omega (arith, area.known, later); no_code = no_code serial area.known area.no_code });
  keys = λ key. IfSome_then (persistent_of s key) (h.keys key) (λ p known. record { sound = known.sound; area = area_kept s (record other { terms = s.terms; keys = s.keys }) p.term p.area (λ serial at. at) known.area });
  keys_apart = h.keys_apart;
  few_keys = h.few_keys;
  few_areas = h.few_areas;
}
