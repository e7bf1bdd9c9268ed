-- What the drop of old code leaves of the state: one instance is used no more and retired, nothing is doomed, and all else stays.
use Rattle.std.proofs.Common.{◌≡◌, ◌≢◌, ℕ, ◌+◌, ◌<◌, ◌≤◌, ◌⊎◌, inl, inr, Bool, true, false, cond, not, List, [], ◌∷◌, refl, sym, ap, ◌∙◌, arith}
use Rattle.std.specs.Prelude.{◌==◌, ◌||◌}
use Rattle.std.proofs.lemmas.Bool.{eqb-true, false_from_ne_true, true≢false}
use Rattle.term_core.specs.declared.atom.AtomId.{AtomId}
use Rattle.term_core.specs.declared.atom.Mfa.{Mfa}
use Rattle.server_core.specs.declared.slots.RetiredRoom.{RetiredRoom}
use Rattle.server_core.specs.declared.change.Change.TheVariants.{DropOld}
use Rattle.server_core.specs.CommandTable.{without_number}
use Rattle.server_core.specs.Decided.{Fits}
use Rattle.server_core.specs.Generations.{AreNumbered}
use Rattle.server_core.specs.ServerState.{IsOldCode, IsSound, ServerState, current_of, dispatch_of, is_doomed, is_retired, is_serial_in, live_count}
use Rattle.change_laws.specs.Breakpoints.{IsLiveCode, KnowsItsCode}
use Rattle.change_laws.specs.Changes.{changed_state}
use Rattle.change_laws.specs.Uses.{IsUsed}
use Rattle.change_laws.proofs.AreaUses.{used_stood}
use Rattle.change_laws.proofs.Counted.{instances_counted}
use Rattle.change_laws.proofs.Dropped.{used_known, used_not_dropped}
use Rattle.change_laws.proofs.KnownCode.{knows_after}
use Rattle.change_laws.proofs.NotForgotten.{in_pushed, kept_pushed, used_kept}
use Rattle.change_laws.proofs.NumberedNames.{changes_numbered}
use Rattle.change_laws.proofs.Reached.{current_purged, others_leave}
use Rattle.change_laws.proofs.SoundChanges.{change_sound}
use Rattle.change_laws.proofs.VersionUses.{old_purged}
use Rattle.staging.proofs.NextReads.{any_either, one_is}

pub record IsPurged (names : List Mfa) (s t : ServerState) (serial : ℕ) : Type 0 where
  pub sound : IsSound t
  pub old : IsOldCode s serial
  pub current : (name : ℕ) → current_of t name ≡ current_of s name
  pub calls : (to : Mfa) → dispatch_of t to ≡ dispatch_of s to
  pub numbered : AreNumbered names s → AreNumbered names t
  pub used : (n : ℕ) → IsUsed t n → IsUsed s n
  pub lives : (n : ℕ) → IsLiveCode t n → IsLiveCode s n
  pub knows : KnowsItsCode s → KnowsItsCode t
  pub stays : (n : ℕ) → IsUsed s n → n ≢ serial → IsUsed t n
  pub retired : (n : ℕ) → is_retired t n ≡ true → (is_retired s n ≡ true) ⊎ (serial ≡ n)
  pub still : (n : ℕ) → is_retired s n ≡ true → is_retired t n ≡ true
  pub gone : is_retired t serial ≡ true
  -- it alone was doomed, if anything was
  pub doomed : (n : ℕ) → is_doomed t n ≡ false
  pub undoomed : (n : ℕ) → n ≢ serial → is_doomed s n ≡ false
  pub count : live_count t.versions + 1 ≡ live_count s.versions

-- ---- numbers that are left out

-- where none is left without one number, no other was there
none_other : (serial : ℕ) (xs : List ℕ) (n : ℕ) → without_number serial xs ≡ [] → n ≢ serial → is_serial_in xs n ≡ false
none_other serial [] n none differ = refl
none_other serial (x ∷ xs) n none differ = by (x == serial) refl (none_other serial xs n)
  where
    by : (b : Bool) → (x == serial) ≡ b → (without_number serial xs ≡ [] → n ≢ serial → is_serial_in xs n ≡ false) → ((x == n) || is_serial_in xs n) ≡ false
    by true is rest =
        let other : (x == n) ≡ false = false_from_ne_true (x == n) (λ e. differ (sym (eqb-true x n e) ∙ eqb-true x serial is)) in
        ap (λ (b : Bool). b || is_serial_in xs n) other ∙ rest (sym (ap (λ (b : Bool). cond (not b) (x ∷ without_number serial xs) (without_number serial xs)) is) ∙ none) differ
    by false is rest = absurd (cons_none x (without_number serial xs) (sym (ap (λ (b : Bool). cond (not b) (x ∷ without_number serial xs) (without_number serial xs)) is) ∙ none))
      where
        cons_none : (y : ℕ) (ys : List ℕ) → y ∷ ys ≡ [] → ⊥
        cons_none y ys e = absurd (cc)

-- ---- the state

module _ (names : List Mfa) (s : ServerState) (generation : ℕ) (name : AtomId) (serial : ℕ) (says : Bool) (block : RetiredRoom) (was : IsSound s) (fits : Fits s (DropOld generation name serial says block)) where
  abbrev t : ServerState
  t = changed_state s (DropOld generation name serial says block)

  now : IsSound t
  now = change_sound s (DropOld generation name serial says block) was fits

  used_before : (n : ℕ) → IsUsed t n → IsUsed s n
  used_before n used = by (used_stood s (DropOld generation name serial says block) n used)
    where
      by : IsUsed s n ⊎ (s.next_serial ≤ n) → IsUsed s n
      by (inl stood) = stood
      by (inr past) = absurd (let known : n < s.next_serial = used_known t n now used in omega (arith, known, past))

  live_before : (n : ℕ) → IsLiveCode t n → IsLiveCode s n
  live_before n (inl current) = inl (current.0, sym (current_purged s name.0 serial current.0) ∙ current.1)
  live_before n (inr old) = inr (old.0, old_purged s name.0 serial old.0 n old.1)

  retired_before : (n : ℕ) → is_retired t n ≡ true → (is_retired s n ≡ true) ⊎ (serial ≡ n)
  retired_before n e =
      elim (any_either (λ (x : ℕ). x == n) s.retired (serial ∷ []) e) as (λ _. (is_retired s n ≡ true) ⊎ (serial ≡ n)) [
        | inl before ↦ inl before
        | inr last ↦ inr (one_is serial n last)
      ]

  used_still : (n : ℕ) → IsUsed s n → n ≢ serial → IsUsed t n
  used_still n used differ = by (used_kept s (DropOld generation name serial says block) n fits used)
    where
      gone : (is_retired s n ≡ true) ⊎ (serial ≡ n) → IsUsed t n
      gone (inl before) = absurd (true≢false (sym before ∙ (used_not_dropped s n was used).0))
      gone (inr same) = absurd (differ (sym same))

      by : IsUsed t n ⊎ (is_retired t n ≡ true) → IsUsed t n
      by (inl still) = still
      by (inr retired) = gone (retired_before n retired)

  pub purged : IsPurged names s t serial
  purged = record {
    sound = now;
    old = (name.0, fits.1.old);
    current = λ k. current_purged s name.0 serial k;
    calls = λ to. others_leave s (DropOld generation name serial says block) to tt;
    numbered = λ numbered. changes_numbered names s (DropOld generation name serial says block) was (λ k d below. absurd (omega (arith, below))) numbered;
    used = used_before;
    lives = live_before;
    knows = λ knew. knows_after s (DropOld generation name serial says block) was fits tt knew;
    stays = used_still;
    retired = retired_before;
    still = λ n e. kept_pushed s.retired serial n e;
    gone = in_pushed s.retired serial;
    doomed = λ n. ap (λ (xs : List ℕ). is_serial_in xs n) fits.1.doomed;
    undoomed = λ n differ. none_other serial s.doomed n fits.1.doomed differ;
    count = (let counted = instances_counted s (DropOld generation name serial says block) fits in omega (arith, counted));
  }
