-- What else a put or an erase leaves of the state, and what comes in with it.
use Rattle.std.proofs.Common.{◌≡◌, ℕ, zero, suc, ◌+◌, ◌≤◌, List, length, Some, None, refl, sym, ap, ◌∙◌, subst, arith}
use Rattle.std.specs.Prelude.{slice_get}
use Rattle.std.proofs.lemmas.Option.{none-some}
use Rattle.prgr_core.proofs.Parts.{some_same}
use Rattle.term_core.specs.declared.area.AreaRef.{AreaRef}
use Rattle.term_core.specs.declared.atom.Mfa.{Mfa}
use Rattle.term_core.specs.Plain.{plain}
use Rattle.term_core.specs.PlainTerm.{PlainTerm}
use Rattle.shared_words.specs.declared.view.WriterView.{WriterView}
use Rattle.server_core.specs.declared.change.Change.{Change}
use Rattle.server_core.specs.declared.change.Change.TheVariants.{HoldWord, HoldArea, Forget}
use Rattle.server_core.specs.Generations.{AreNumbered}
use Rattle.server_core.specs.ServerState.{ServerState}
use Rattle.server_core.proofs.KeyEntries.{counted}
use Rattle.change_laws.specs.Changes.{Incoming, incoming, changed_state, stored}
use Rattle.change_laws.specs.Images.{incoming_module}
use Rattle.staging.specs.Placed.{IsAreaOf}
use Rattle.staging.specs.Stages.{IsKeyChange}
use Rattle.staging.proofs.KeyLists.{StandOnce, erase_stand, put_stand}
use Rattle.staging.proofs.KeyStates.{came_with}

-- what else it leaves
pub record IsKeyAfter (names : List Mfa) (s t : ServerState) : Type 0 where
  pub versions : t.versions ≡ s.versions
  pub released : t.released ≡ s.released
  pub doomed : t.doomed ≡ s.doomed
  pub once : StandOnce s.keys → StandOnce t.keys
  pub numbered : AreNumbered names s → AreNumbered names t

pub key_after : (names : List Mfa) (s : ServerState) (change : Change) → IsKeyChange change → IsKeyAfter names s (changed_state s change)
key_after names s (HoldWord generation key term keys retired) is = record { versions = refl; released = refl; doomed = refl; once = λ once. put_stand s.keys (record { key = key.0; term = plain term; area = None }) once; numbered = λ numbered to. numbered to }
key_after names s (HoldArea generation key term kept areas keys retired) is = record { versions = refl; released = refl; doomed = refl; once = λ once. put_stand s.keys (record { key = key.0; term = plain term; area = Some s.next_serial }) once; numbered = λ numbered to. numbered to }
key_after names s (Forget generation key retired) is = record { versions = refl; released = refl; doomed = refl; once = λ once. erase_stand s.keys key.0 once; numbered = λ numbered to. numbered to }
key_after names s change is = absurd is

-- ---- what comes in

-- it is a term, in a small block, and the area of the key
pub record IsKeyTerm (s : ServerState) (change : Change) (place : ℕ) (i : Incoming) : Type 0 where
  pub small : (w : WriterView) (a : AreaRef) → IsAreaOf w i a → 64 ≤ a.block
  pub no_code : incoming_module i ≡ None
  pub came : came_with s change ≡ Some (s.next_serial + place)

key_term_is : (s : ServerState) (change : Change) (i : Incoming) → (term : PlainTerm) → stored term ≡ i → came_with s change ≡ Some s.next_serial → IsKeyTerm s change 0 i
key_term_is s change i term is came =
    subst (IsKeyTerm s change 0) is (record { small = λ w a of. of.first; no_code = refl; came = came ∙ ap Some (let same : s.next_serial ≡ s.next_serial + 0 = omega arith in same) })

pub key_comes : (s : ServerState) (change : Change) → IsKeyChange change → (place : ℕ) (i : Incoming) → slice_get (incoming change) place ≡ Some i → IsKeyTerm s change place i
key_comes s (HoldArea generation key term kept areas keys retired) is zero i at = key_term_is s (HoldArea generation key term kept areas keys retired) i (plain term) (some_same (stored (plain term)) i at) refl
key_comes s (HoldArea generation key term kept areas keys retired) is (suc place) i at = absurd (cc)
key_comes s (HoldWord generation key term keys retired) is place i at = absurd (cc)
key_comes s (Forget generation key retired) is place i at = absurd (cc)
key_comes s change is place i at = absurd is

-- it has the next serial, and is the only one
pub key_came : (s : ServerState) (change : Change) → IsKeyChange change → (serial : ℕ) → came_with s change ≡ Some serial → (serial ≡ s.next_serial) × (length (incoming change) ≡ 1)
key_came s (HoldArea generation key term kept areas keys retired) is serial came = (sym (some_same s.next_serial serial came), refl)
key_came s (HoldWord generation key term keys retired) is serial came = absurd (none-some serial came)
key_came s (Forget generation key retired) is serial came = absurd (none-some serial came)
key_came s change is serial came = absurd is

pub came_count : (s : ServerState) (change : Change) → IsKeyChange change → length (incoming change) ≡ counted (came_with s change)
came_count s (HoldArea generation key term kept areas keys retired) is = refl
came_count s (HoldWord generation key term keys retired) is = refl
came_count s (Forget generation key retired) is = refl
came_count s change is = absurd is
