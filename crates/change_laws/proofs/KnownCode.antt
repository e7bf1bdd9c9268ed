-- No code is forgotten: what was current or old code is so still, or is dropped and then retired.
use Rattle.std.proofs.Common.{◌≡◌, ◌⊎◌, inl, inr, ℕ, zero, suc, ◌+◌, ◌-◌, ◌<◌, ◌≤◌, Bool, true, false, cond, nat_eq, List, [], ◌∷◌, ◌++◌, length, Some, IfSome, IsTrue, refl, sym, ap, ◌∙◌, subst, arith}
use Rattle.std.specs.Prelude.{slice_get}
use Rattle.std.proofs.lemmas.Bool.{cases_lt}
use Rattle.std.proofs.lemmas.Bool.Decides.{nat_tests}
use Rattle.mod_core.specs.declared.code.Module.{Module}
use Rattle.mod_core.specs.Module.{IsModule}
use Rattle.server_core.specs.declared.change.Change.{Change}
use Rattle.server_core.specs.declared.change.Change.TheVariants.{BringIn, ClearTrace, DropOld, GiveBack, MakeOld, SetTrace}
use Rattle.server_core.specs.CommandTable.{with_released}
use Rattle.server_core.specs.Decided.{Fits}
use Rattle.server_core.specs.ServerState.{Entry, IsSound, ServerState, code_of, empty_state, entry_of, is_retired, is_same_entry, is_serial_in, is_traced}
use Rattle.server_core.proofs.Soundness.{area_is}
use Rattle.change_laws.specs.Breakpoints.{IsLiveCode, KnowsItsCode, SetsInCode, traced_then}
use Rattle.change_laws.specs.Changes.{incoming, changed_state}
use Rattle.change_laws.specs.Uses.{IsCurrentCode, IsUsed}
use Rattle.change_laws.proofs.Dropped.{load_leaves_rest}
use Rattle.change_laws.proofs.GivenSerials.{serials_given}
use Rattle.change_laws.proofs.KeptImages.{code_stays}
use Rattle.change_laws.proofs.KeptTraced.{same_serial, traced_since}
use Rattle.change_laws.proofs.LoadedCode.{no_module}
use Rattle.change_laws.proofs.NotForgotten.{deleted_current, deleted_old, in_pushed, incoming_used, kept_pushed, loaded_current, loaded_old, purged_old, released_or_kept, retired_kept}
use Rattle.change_laws.proofs.Reached.{current_purged}
use Rattle.change_laws.proofs.SoundChanges.{change_sound}

-- before the first command there is no code
pub empty_knows : KnowsItsCode empty_state
empty_knows = record { traced = λ e h. absurd (cc); kept = λ serial m code. absurd (cc) }

-- ---- what was current or old code

-- the instance is the old code that the change drops
abbrev pub IsDroppedBy : Change → ℕ → Type 0
IsDroppedBy (DropOld generation name old says retired) serial = old ≡ serial
IsDroppedBy change serial = ⊥

pub live_kept : (s : ServerState) (change : Change) (serial : ℕ) → Fits s change → IsLiveCode s serial → IsLiveCode (changed_state s change) serial ⊎ IsDroppedBy change serial
live_kept s (BringIn generation modules areas versions) serial fits (inl p) = inl (loaded_current s modules.items p.0 serial fits.1 p.1)
live_kept s (BringIn generation modules areas versions) serial fits (inr p) = inl (loaded_old s modules.items p.0 serial fits.1 p.1)
live_kept s (MakeOld generation at) serial fits (inl p) = inl (deleted_current s at.0 p.0 serial p.1)
live_kept s (MakeOld generation at) serial fits (inr p) = inl (deleted_old s at.0 p.0 serial fits.1 p.1)
live_kept s (DropOld generation at old says retired) serial fits (inl p) = inl (inl (p.0, current_purged s at.0 old p.0 ∙ p.1))
live_kept s (DropOld generation at old says retired) serial fits (inr p) = purged_old s at.0 old p.0 serial fits.1 p.1
live_kept s change serial fits live = inl live

-- what is dropped is retired
dropped_retired : (s : ServerState) (change : Change) (serial : ℕ) → IsDroppedBy change serial → IsTrue (is_retired (changed_state s change) serial)
dropped_retired s (DropOld generation name old says retired) serial one = ap (is_serial_in (s.retired ++ old ∷ [])) (sym one) ∙ in_pushed s.retired old
dropped_retired s change serial none = absurd none

-- what was released is so still
released_kept : (s : ServerState) (change : Change) (serial : ℕ) → IsTrue (is_serial_in s.released serial) → IsTrue (is_serial_in (changed_state s change).released serial)
released_kept s (BringIn generation modules areas versions) serial h = ap (λ xs. is_serial_in xs serial) (load_leaves_rest s modules.items).released ∙ h
released_kept s (GiveBack old released) serial h = kept_pushed s.released old serial h
released_kept s change serial h = h

-- ---- breakpoints

only : {A : Type 0} (B : Type 0) → (B → ⊥) → A ⊎ B → A
only B none (inl a) = a
only B none (inr b) = absurd (none b)

-- a function with a breakpoint had one, in code that is not dropped, or is one that was to get it
still_live : (s : ServerState) (change : Change) (e : Entry) → Fits s change → SetsInCode s change → KnowsItsCode s → traced_then s change e ≡ true → IsLiveCode (changed_state s change) e.serial
still_live s (DropOld generation name old says retired) e fits sets knows h = by (nat_eq e.serial old) refl h
  where
    by : (b : Bool) → nat_eq e.serial old ≡ b → cond b false (is_traced s e) ≡ true → IsLiveCode (changed_state s (DropOld generation name old says retired)) e.serial
    by true is h = absurd (cc)
    by false is h = only (old ≡ e.serial) (λ one. grind (arith, nat_tests, one)) (live_kept s (DropOld generation name old says retired) e.serial fits (knows.traced e h))
still_live s (SetTrace generation at traced) e fits sets knows h = by (is_same_entry e (entry_of at)) refl h
  where
    by : (b : Bool) → is_same_entry e (entry_of at) ≡ b → cond b true (is_traced s e) ≡ true → IsLiveCode s e.serial
    by true is h = inl (subst (IsCurrentCode s) (sym (same_serial e (entry_of at) is)) sets)
    by false is h = knows.traced e h
still_live s (ClearTrace generation at) e fits sets knows h = by (is_same_entry e (entry_of at)) h
  where
    by : (b : Bool) → cond b false (is_traced s e) ≡ true → IsLiveCode s e.serial
    by true h = absurd (cc)
    by false h = knows.traced e h
still_live s change e fits sets knows h = only (IsDroppedBy change e.serial) (λ none. none) (live_kept s change e.serial fits (knows.traced e h))

-- ---- instances

element_at : {X : Type 0} (xs : List X) (place : ℕ) → place < length xs → (x : X) × (slice_get xs place ≡ Some x)
element_at [] place within = absurd (omega (arith, within))
element_at (x ∷ xs) zero within = (x, refl)
element_at (x ∷ xs) (suc place) within = element_at xs place (omega (arith, within))

-- it is current or old code, or was dropped
abbrev pub IsKeptOrDropped : ServerState → ℕ → Type 0
IsKeptOrDropped t serial = IsLiveCode t serial ⊎ (IsTrue (is_retired t serial) ⊎ IsTrue (is_serial_in t.released serial))

module _ (s : ServerState) (change : Change) (sound : IsSound s) (fits : Fits s change) (serial : ℕ) where
  -- an instance of before
  stood : IsKeptOrDropped s serial → IsKeptOrDropped (changed_state s change) serial
  stood (inl live) = by (live_kept s change serial fits live)
    where
      by : IsLiveCode (changed_state s change) serial ⊎ IsDroppedBy change serial → IsKeptOrDropped (changed_state s change) serial
      by (inl now) = inl now
      by (inr dropped) = inr (inl (dropped_retired s change serial dropped))
  stood (inr (inl retired)) = inr (retired_kept s change serial retired)
  stood (inr (inr released)) = inr (inr (released_kept s change serial released))

  -- what is used and is an instance is current or old code
  used_live : (t : ServerState) (m : Module) → IsSound t → code_of t serial ≡ Some m → IsUsed t serial → IsLiveCode t serial
  used_live t m now code (inl p) = inl p
  used_live t m now code (inr (inl p)) = inr p
  used_live t m now code (inr (inr p)) = no_module m (sym (area_is t p.0 serial now p.1).2.no_code ∙ code)

  -- an instance that came in is used
  came : (m : Module) → code_of (changed_state s change) serial ≡ Some m → s.next_serial ≤ serial → IsLiveCode (changed_state s change) serial
  came m code later =
      let t = changed_state s change in
      let now : IsSound t = change_sound s change sound fits in
      let known : serial < t.next_serial = (subst (λ o. IfSome o (λ n. IsModule n × (serial < t.next_serial))) code (now.modules serial)).1 in
      let place : ℕ = serial - s.next_serial in
      let here : s.next_serial + place ≡ serial = omega (arith, later) in
      let comes = element_at (incoming change) place (omega (arith, known, later, serials_given s change)) in
      used_live t m now code (subst (IsUsed t) here (incoming_used s change place comes.0 fits comes.1))

  kept_after : KnowsItsCode s → (m : Module) → code_of (changed_state s change) serial ≡ Some m → IsKeptOrDropped (changed_state s change) serial
  kept_after knows m code = by (cases_lt serial s.next_serial)
    where
      by : (serial < s.next_serial) ⊎ (s.next_serial ≤ serial) → IsKeptOrDropped (changed_state s change) serial
      by (inl before) = stood (knows.kept serial m (sym (code_stays s change serial before) ∙ code))
      by (inr later) = inl (came m code later)

pub knows_after : (s : ServerState) (change : Change) → IsSound s → Fits s change → SetsInCode s change → KnowsItsCode s → KnowsItsCode (changed_state s change)
knows_after s change sound fits sets knows = record {
  traced = λ e h. still_live s change e fits sets knows (sym (traced_since s change e) ∙ h);
  kept = λ serial m code. kept_after s change sound fits serial knows m code;
}

-- an area that is released was dropped before
pub knows_released : (s : ServerState) (old : ℕ) → KnowsItsCode s → KnowsItsCode (with_released s old)
knows_released s old knows = record { traced = knows.traced; kept = λ serial m code. by serial (knows.kept serial m code) }
  where
    by : (serial : ℕ) → IsKeptOrDropped s serial → IsKeptOrDropped (with_released s old) serial
    by serial (inl live) = inl live
    by serial (inr (inl retired)) = inr (released_or_kept s old serial (nat_eq old serial) refl retired)
    by serial (inr (inr released)) = inr (inr (kept_pushed s.released old serial released))
