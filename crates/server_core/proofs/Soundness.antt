-- What keeps a state sound: new versions of a module, an area that is retired, and one that is released.
use Rattle.std.proofs.Common.{◌≡◌, ◌≢◌, ℕ, ◌+◌, ◌<◌, ◌≤◌, Bool, true, false, not, cond, nat_eq, nat_lt, ◌&&◌, ◌||◌, IsTrue, List, [], ◌∷◌, ◌++◌, length, Option, Some, None, IfSome, IsSomeAnd, option_and_then, refl, sym, ap, ◌∙◌, subst, inl, inr, ◌⊎◌, arith}
use Rattle.std.proofs.lemmas.Bool.Decides.{nat_tests}
use Rattle.term_core.specs.PlainTerm.{PlainTerm}
use Rattle.mod_core.specs.declared.code.Module.{Module}
use Rattle.mod_core.specs.Module.{IsModule}
use Rattle.server_core.specs.declared.command.Applied.{Applied}
use Rattle.server_core.specs.declared.command.Linger.{Linger}
use Rattle.server_core.specs.declared.command.Reply.{Reply}
use Rattle.server_core.specs.declared.command.Reply.TheVariants as replies
use Rattle.server_core.specs.declared.command.TheConstants.{MOST_INSTANCES}
use Rattle.server_core.specs.ServerState.{Persistent, ServerState, Versions, HasItsArea, IsDropped, IsInstanceOf, IsPersistent, IsSound, IsTermArea, code_of, current_among, current_of, is_retired, is_serial_in, key_area, live_count, old_among, old_of, persistent_of, term_of_area}
use Rattle.server_core.specs.CommandTable.{Outcome, published, soft_purge_of, while_none_doomed, with_deleted, with_dropped, with_purged, with_released, with_versions, without_number}
use Rattle.server_core.proofs.CurrentCode.{live_set}
use Rattle.server_core.proofs.SoundParts.{sound_terms, sound_whole, terms_kept}

-- a serial among these and one more
pub held_push : (xs : List ℕ) (n k : ℕ) → is_serial_in (xs ++ n ∷ []) k ≡ (is_serial_in xs k || nat_eq n k)
held_push [] n k = by (nat_eq n k)
  where
    by : (b : Bool) → (b || false) ≡ b
    by true = refl
    by false = refl
held_push (x ∷ xs) n k = by (nat_eq x k) (held_push xs n k)
  where
    by : (b : Bool) → is_serial_in (xs ++ n ∷ []) k ≡ (is_serial_in xs k || nat_eq n k) → (b || is_serial_in (xs ++ n ∷ []) k) ≡ ((b || is_serial_in xs k) || nat_eq n k)
    by true ih = refl
    by false ih = ih

and_false : (b : Bool) → (b && false) ≡ false
and_false true = refl
and_false false = refl

-- a serial among these but one
pub held_without : (xs : List ℕ) (n k : ℕ) → is_serial_in (without_number n xs) k ≡ (is_serial_in xs k && not (nat_eq n k))
held_without [] n k = refl
held_without (x ∷ xs) n k = by (nat_eq x n) refl (nat_eq x k) refl (nat_eq n k) refl (held_without xs n k)
  where
    by : (b : Bool) → nat_eq x n ≡ b → (d : Bool) → nat_eq x k ≡ d → (e : Bool) → nat_eq n k ≡ e → is_serial_in (without_number n xs) k ≡ (is_serial_in xs k && not e)
        → is_serial_in (cond (not b) (x ∷ without_number n xs) (without_number n xs)) k ≡ ((d || is_serial_in xs k) && not e)
    by true p true q true r ih = ih ∙ and_false (is_serial_in xs k)
    by true p true q false r ih = absurd (grind (arith, nat_tests))
    by true p false q e r ih = ih
    by false p true q true r ih = absurd (grind (arith, nat_tests))
    by false p true q false r ih = ap (λ d. d || is_serial_in (without_number n xs) k) q
    by false p false q e r ih = ap (λ d. d || is_serial_in (without_number n xs) k) q ∙ ih

either_of : (a b : Bool) → (a || b) ≡ true → (a ≡ true) ⊎ (b ≡ true)
either_of true b h = inl refl
either_of false b h = inr h

first_of : (a b : Bool) → (a && b) ≡ true → a ≡ true
first_of true b h = refl
first_of false b h = h

-- what is among these but one is among these
pub held_before : (xs : List ℕ) (n k : ℕ) → is_serial_in (without_number n xs) k ≡ true → is_serial_in xs k ≡ true
held_before xs n k h = first_of (is_serial_in xs k) _ (sym (held_without xs n k) ∙ h)

-- what is among these and one more is among these, or is that one
pub held_later : (xs : List ℕ) (n k : ℕ) → is_serial_in (xs ++ n ∷ []) k ≡ true → (is_serial_in xs k ≡ true) ⊎ (n ≡ k)
held_later xs n k h = by (either_of (is_serial_in xs k) (nat_eq n k) (sym (held_push xs n k) ∙ h))
  where
    by : (is_serial_in xs k ≡ true) ⊎ (nat_eq n k ≡ true) → (is_serial_in xs k ≡ true) ⊎ (n ≡ k)
    by (inl p) = inl p
    by (inr p) = inr (grind (arith, nat_tests))

-- the current code after a module's versions were replaced
pub current_set : (vs : List Versions) (new : Versions) (k : ℕ) → current_among (with_versions vs new) k ≡ cond (nat_eq k new.name) new.current (current_among vs k)
current_set [] new k = refl
current_set (v ∷ vs) new k = by (nat_eq new.name v.name) refl (current_set vs new k)
  where
    by : (b : Bool) → nat_eq new.name v.name ≡ b → current_among (with_versions vs new) k ≡ cond (nat_eq k new.name) new.current (current_among vs k)
        → current_among (cond b (new ∷ vs) (v ∷ with_versions vs new)) k ≡ cond (nat_eq k new.name) new.current (cond (nat_eq k v.name) v.current (current_among vs k))
    by true e ih = grind (arith, nat_tests)
    by false e ih = grind (arith, nat_tests)

-- and the old code
pub old_set : (vs : List Versions) (new : Versions) (k : ℕ) → old_among (with_versions vs new) k ≡ cond (nat_eq k new.name) new.old (old_among vs k)
old_set [] new k = refl
old_set (v ∷ vs) new k = by (nat_eq new.name v.name) refl (old_set vs new k)
  where
    by : (b : Bool) → nat_eq new.name v.name ≡ b → old_among (with_versions vs new) k ≡ cond (nat_eq k new.name) new.old (old_among vs k)
        → old_among (cond b (new ∷ vs) (v ∷ with_versions vs new)) k ≡ cond (nat_eq k new.name) new.old (cond (nat_eq k v.name) v.old (old_among vs k))
    by true e ih = grind (arith, nat_tests)
    by false e ih = grind (arith, nat_tests)

-- what holds of either holds of the one that is chosen
chosen : (b : Bool) (o p : Option ℕ) (P : ℕ → Type 0) → (b ≡ true → IfSome o P) → IfSome p P → IfSome (cond b o p) P
chosen true o p P first second = first refl
chosen false o p P first second = second

-- what holds of the serial in a choice
pub at_some : (P : ℕ → Type 0) (o : Option ℕ) (k : ℕ) → o ≡ Some k → IfSome o P → P k
at_some P o k e h = subst (λ q. IfSome q P) e h

-- two equal choices have one serial
pub some_same : (a b : ℕ) → Some a ≡ Some b → a ≡ b
some_same a b e = cc

none_some : {A : Type 0} (k : ℕ) → None ≡ Some k → A
none_some k e = absurd (cc)

-- the state with one instance more
abbrev pub with_instance : ServerState → Module → ServerState
with_instance s m = record s { next_serial = s.next_serial + 1; instances = s.instances ++ (record { serial = s.next_serial; code = m }) ∷ [] }

-- an instance of a module came in
pub instance_known : (s : ServerState) → IsSound s → (name serial : ℕ) → IsInstanceOf s name serial → serial < s.next_serial
instance_known s sound name serial at = by (code_of s serial) at (sound.modules serial)
  where
    by : (o : Option Module) → IsSomeAnd o (λ m. m.name.0 ≡ name) → IfSome o (λ m. IsModule m × (serial < s.next_serial)) → serial < s.next_serial
    by None p h = absurd p
    by (Some m) p h = h.1

-- an instance is one of one module
pub one_module : (s : ServerState) (a b serial : ℕ) → IsInstanceOf s a serial → IsInstanceOf s b serial → a ≡ b
one_module s a b serial p q = by (code_of s serial) p q
  where
    by : (o : Option Module) → IsSomeAnd o (λ m. m.name.0 ≡ a) → IsSomeAnd o (λ m. m.name.0 ≡ b) → a ≡ b
    by None p q = absurd p
    by (Some m) p q = sym p ∙ q

-- what is known of a key's area: a complex term stands in it
pub area_is : (s : ServerState) (key serial : ℕ) → IsSound s → key_area s key ≡ Some serial → (term : PlainTerm) × (term_of_area s serial ≡ Some term) × IsTermArea s serial term
area_is s key serial sound e = by (persistent_of s key) e (sound.keys key)
  where
    found : (term : PlainTerm) (area : Option ℕ) → area ≡ Some serial → HasItsArea s term area → term_of_area s serial ≡ Some term
    found term None e h = none_some serial e
    found term (Some k) e h = ap (term_of_area s) (sym (some_same k serial e)) ∙ h

    stands : (term : PlainTerm) → term_of_area s serial ≡ Some term → IsTermArea s serial term
    stands term at = subst (λ o. IfSome o (IsTermArea s serial)) at (sound.terms serial)

    by : (o : Option Persistent) → option_and_then (λ p. p.area) o ≡ Some serial → IfSome o (IsPersistent s) → (term : PlainTerm) × (term_of_area s serial ≡ Some term) × IsTermArea s serial term
    by None e h = none_some serial e
    by (Some p) e h = let at = found p.term p.area e h.area in (p.term, at, stands p.term at)

-- no instance stands in the area of a term
pub no_instance : (s : ServerState) (serial : ℕ) → IsSound s → (term : PlainTerm) × (term_of_area s serial ≡ Some term) × IsTermArea s serial term → (name : ℕ) → IsInstanceOf s name serial → ⊥
no_instance s serial sound area name at = subst (λ o. IsSomeAnd o (λ m. m.name.0 ≡ name)) area.2.no_code at

-- an area that was dropped
abbrev pub IsGone : ServerState → ℕ → Type 0
IsGone s serial = IsTrue (is_retired s serial) ⊎ IsTrue (is_serial_in s.released serial)

-- versions that may take the place of a module's
pub record IsFit (s : ServerState) (new : Versions) : Type 0 where
  pub current : IfSome new.current (IsInstanceOf s new.name)
  pub old : IfSome new.old (IsInstanceOf s new.name)
  pub apart : (serial : ℕ) → new.current ≡ Some serial → new.old ≢ Some serial
  pub current_stands : (serial : ℕ) → IsGone s serial → new.current ≢ Some serial
  pub old_stands : (serial : ℕ) → IsGone s serial → new.old ≢ Some serial

neither : (b : Bool) (o p : Option ℕ) (k : ℕ) → o ≢ Some k → p ≢ Some k → cond b o p ≢ Some k
neither true o p k h g = h
neither false o p k h g = g

both_apart : (b : Bool) (c d o p : Option ℕ) (k : ℕ) → (c ≡ Some k → o ≢ Some k) → (d ≡ Some k → p ≢ Some k) → cond b c d ≡ Some k → cond b o p ≢ Some k
both_apart true c d o p k h g = h
both_apart false c d o p k h g = g

nobody_doomed : {A : Type 0} (doomed : List ℕ) (serial : ℕ) → doomed ≡ [] → IsTrue (is_serial_in doomed serial) → A
nobody_doomed doomed serial none h = let gone : is_serial_in doomed serial ≡ false = ap (λ l. is_serial_in l serial) none in absurd (cc)

-- versions that fit leave dropped areas dropped
dropped_set : (s : ServerState) (new : Versions) (serial : ℕ) → IsFit s new → IsGone s serial → IsDropped s serial → IsDropped (record s { versions = with_versions s.versions new }) serial
dropped_set s new serial fit gone d = record {
  known = d.known;
  not_current = λ name e. neither (nat_eq name new.name) new.current (current_of s name) serial (fit.current_stands serial gone) (d.not_current name) (sym (current_set s.versions new name) ∙ e);
  not_old = λ name e. neither (nat_eq name new.name) new.old (old_of s name) serial (fit.old_stands serial gone) (d.not_old name) (sym (old_set s.versions new name) ∙ e);
  not_held = d.not_held;
}

fits_at : (s : ServerState) (new : Versions) (name : ℕ) (o p : Option ℕ) → IfSome o (IsInstanceOf s new.name) → IfSome p (IsInstanceOf s name) → IfSome (cond (nat_eq name new.name) o p) (IsInstanceOf s name)
fits_at s new name o p first second =
    chosen (nat_eq name new.name) o p (IsInstanceOf s name) (λ e. let same : new.name ≡ name = grind (arith, nat_tests) in subst (λ n. IfSome o (IsInstanceOf s n)) same first) second

-- versions that fit keep a state sound while nothing is doomed
pub sound_versions : (s : ServerState) (new : Versions) → IsSound s → IsFit s new → s.doomed ≡ [] → live_count (with_versions s.versions new) ≤ MOST_INSTANCES → IsSound (record s { versions = with_versions s.versions new })
sound_versions s new sound fit rest room = sound_whole (record s { versions = with_versions s.versions new }) (record {
  modules = sound.modules;
  current = λ name. subst (λ o. IfSome o (IsInstanceOf s name)) (sym (current_set s.versions new name)) (fits_at s new name new.current (current_of s name) fit.current (sound.current name));
  old = λ name. subst (λ o. IfSome o (IsInstanceOf s name)) (sym (old_set s.versions new name)) (fits_at s new name new.old (old_of s name) fit.old (sound.old name));
  apart = λ name serial c o.
      both_apart (nat_eq name new.name) new.current (current_of s name) new.old (old_of s name) serial (fit.apart serial) (sound.apart name serial) (sym (current_set s.versions new name) ∙ c) (sym (old_set s.versions new name) ∙ o);
  one_doomed = sound.one_doomed;
  doomed = λ serial h. nobody_doomed s.doomed serial rest h;
  retired = λ serial h. dropped_set s new serial fit (inl h) (sound.retired serial h);
  released = λ serial h. dropped_set s new serial fit (inr h) (sound.released serial h);
  live = room;
}) (terms_kept s (record s { versions = with_versions s.versions new }) (omega arith) (λ serial known none. none) (sound_terms s sound))

-- the number of the generation is no part of what makes a state sound
pub sound_published : (s : ServerState) (generation : ℕ) → IsSound s → IsSound (record s { generation = generation })
sound_published s generation sound = sound_whole (record s { generation = generation }) (record {
  modules = sound.modules;
  current = sound.current;
  old = sound.old;
  apart = sound.apart;
  one_doomed = sound.one_doomed;
  doomed = sound.doomed;
  retired = λ k h. dropped_as (sound.retired k h);
  released = λ k h. dropped_as (sound.released k h);
  live = sound.live;
}) (terms_kept s (record s { generation = generation }) (omega arith) (λ serial known none. none) (sound_terms s sound))
  where
    dropped_as : {k : ℕ} → IsDropped s k → IsDropped (record s { generation = generation }) k
    dropped_as d = record { known = d.known; not_current = d.not_current; not_old = d.not_old; not_held = d.not_held }

pub gone_dropped : (s : ServerState) (serial : ℕ) → IsSound s → IsGone s serial → IsDropped s serial
gone_dropped s serial sound (inl h) = sound.retired serial h
gone_dropped s serial sound (inr h) = sound.released serial h

-- a module whose current code becomes old
pub sound_deleted : (s : ServerState) (name : ℕ) → IsSound s → s.doomed ≡ [] → IsSound (with_deleted s name)
sound_deleted s name sound rest =
    let new : Versions = record { name = name; current = None; old = current_of s name } in
    let fit : IsFit s new = record {
      current = tt;
      old = sound.current name;
      apart = λ serial c o. none_some serial c;
      current_stands = λ serial gone c. none_some serial c;
      old_stands = λ serial gone. (gone_dropped s serial sound gone).not_current name;
    } in
    sound_versions s new sound fit rest (omega (arith, live_set s.versions new, sound.live))

-- the instance that is dropped is no module's current or old code any more
dropped_now : (s : ServerState) (name serial : ℕ) → IsSound s → old_of s name ≡ Some serial → IsDropped (with_dropped s name serial) serial
dropped_now s name serial sound was =
    let new : Versions = record { name = name; current = current_of s name; old = None } in
    let at = at_some (IsInstanceOf s name) (old_of s name) serial was (sound.old name) in
    record {
      known = instance_known s sound name serial at;
      not_current = λ other e.
          elsewhere other (nat_eq other name) refl (current_of s name) (current_of s other) at (λ c. sound.apart name serial c was) (sound.current other) (sym (current_set s.versions new other) ∙ e);
      not_old = λ other e. elsewhere other (nat_eq other name) refl None (old_of s other) at (λ c. none_some serial c) (sound.old other) (sym (old_set s.versions new other) ∙ e);
      not_held = λ key e. no_instance s serial sound (area_is s key serial sound e) name at;
    }
  where
    elsewhere : (other : ℕ) (b : Bool) → nat_eq other name ≡ b → (o p : Option ℕ) → IsInstanceOf s name serial → o ≢ Some serial → IfSome p (IsInstanceOf s other) → cond b o p ≢ Some serial
    elsewhere other true e o p at h at_other = h
    elsewhere other false e o p at h at_other = λ is. let same = one_module s other name serial (at_some (IsInstanceOf s other) p serial is at_other) at in absurd (grind (arith, nat_tests, same))

-- a module whose old code is dropped
pub sound_purged : (s : ServerState) (name serial : ℕ) → IsSound s → old_of s name ≡ Some serial → without_number serial s.doomed ≡ [] → IsSound (with_purged s name serial)
sound_purged s name serial sound was rest =
    let new : Versions = record { name = name; current = current_of s name; old = None } in
    let one : IsSound (record s { doomed = without_number serial s.doomed }) = sound_whole (record s { doomed = without_number serial s.doomed }) (record {
      modules = sound.modules;
      current = sound.current;
      old = sound.old;
      apart = sound.apart;
      one_doomed = omega (arith, ap length rest);
      doomed = λ k h. nobody_doomed (without_number serial s.doomed) k rest h;
      retired = λ k h. let d = sound.retired k h in record { known = d.known; not_current = d.not_current; not_old = d.not_old; not_held = d.not_held };
      released = λ k h. let d = sound.released k h in record { known = d.known; not_current = d.not_current; not_old = d.not_old; not_held = d.not_held };
      live = sound.live;
    }) (terms_kept s (record s { doomed = without_number serial s.doomed }) (omega arith) (λ k known none. none) (sound_terms s sound)) in
    let fit : IsFit (record s { doomed = without_number serial s.doomed }) new = record {
      current = sound.current name;
      old = tt;
      apart = λ k c o. none_some k o;
      current_stands = λ k gone. (gone_dropped s k sound gone).not_current name;
      old_stands = λ k gone o. none_some k o;
    } in
    let two = sound_versions (record s { doomed = without_number serial s.doomed }) new one fit rest (omega (arith, live_set s.versions new, sound.live)) in
    sound_whole (with_purged s name serial) (record {
      modules = two.modules;
      current = two.current;
      old = two.old;
      apart = two.apart;
      one_doomed = two.one_doomed;
      doomed = two.doomed;
      retired = λ k h. at_retired k (held_later s.retired serial k h) (λ g. let d = two.retired k g in record { known = d.known; not_current = d.not_current; not_old = d.not_old; not_held = d.not_held });
      released = λ k h. let d = two.released k h in record { known = d.known; not_current = d.not_current; not_old = d.not_old; not_held = d.not_held };
      live = two.live;
    }) (terms_kept s (with_purged s name serial) (omega arith) (λ k known none. none) (sound_terms s sound))
  where
    at_retired : (k : ℕ) → (is_serial_in s.retired k ≡ true) ⊎ (serial ≡ k) → (is_serial_in s.retired k ≡ true → IsDropped (with_purged s name serial) k) → IsDropped (with_purged s name serial) k
    at_retired k (inl h) before = before h
    at_retired k (inr h) before = let d = dropped_now s name serial sound was in subst (λ n. IsDropped (with_purged s name serial) n) h (record { known = d.known; not_current = d.not_current; not_old = d.not_old; not_held = d.not_held })

-- an area that is released
pub sound_released : (s : ServerState) (serial : ℕ) → IsSound s → IsTrue (is_retired s serial) → IsSound (with_released s serial)
sound_released s serial sound was = sound_whole (with_released s serial) (record {
  modules = sound.modules;
  current = sound.current;
  old = sound.old;
  apart = sound.apart;
  one_doomed = sound.one_doomed;
  doomed = sound.doomed;
  retired = λ k h. dropped_as (sound.retired k (held_before s.retired serial k h));
  released = λ k h. at_released k (held_later s.released serial k h);
  live = sound.live;
}) (terms_kept s (with_released s serial) (omega arith) (λ k known none. none) (sound_terms s sound))
  where
    dropped_as : {k : ℕ} → IsDropped s k → IsDropped (with_released s serial) k
    dropped_as d = record { known = d.known; not_current = d.not_current; not_old = d.not_old; not_held = d.not_held }

    at_released : (k : ℕ) → (is_serial_in s.released k ≡ true) ⊎ (serial ≡ k) → IsDropped (with_released s serial) k
    at_released k (inl h) = dropped_as (sound.released k h)
    at_released k (inr h) = subst (λ n. IsDropped (with_released s serial) n) h (dropped_as (sound.retired serial was))

-- outside a purge, what a drop leaves is what the end of a purge leaves
pub purged_at_rest : (s : ServerState) (name serial : ℕ) → s.doomed ≡ [] → with_purged s name serial ≡ with_dropped s name serial
purged_at_rest s name serial rest =
    let same : without_number serial s.doomed ≡ s.doomed = ap (without_number serial) rest ∙ sym rest in
    ap (λ doomed. let t : ServerState = record (with_dropped s name serial) { doomed = doomed } in t) same

-- an outcome is that of a state and an answer
pub published_as : (s t : ServerState) (reply : Reply) (answer : Applied) → (published s reply).state ≡ t → answer ≡ record { reply = reply; published = Some t.generation }
    → published s reply ≡ record { state = t; answer = answer }
published_as s t reply answer e is =
    ap (λ (u : ServerState). let made : Outcome = record { state = u; answer = record { reply = reply; published = Some u.generation } } in made) e
    ∙ (λ i. record { state = t; answer = sym is i })

-- a soft purge of old code in which nobody lingers
pub soft_purged : (s : ServerState) (made : Outcome) (name serial : ℕ) (lingers : Option Linger) → s.doomed ≡ [] → lingers ≡ None → old_of s name ≡ Some serial → published (with_purged s name serial) replies.True ≡ made
    → while_none_doomed s (soft_purge_of s name lingers (old_of s name)) ≡ Some made
soft_purged s made name serial lingers rest none was is =
    let free : nat_lt 0 (length s.doomed) ≡ false = ap (λ l. nat_lt 0 (length l)) rest in
    let dropped : published (with_dropped s name serial) replies.True ≡ made = ap (λ u. published u replies.True) (sym (purged_at_rest s name serial rest)) ∙ is in
    ap (λ b. cond b None (soft_purge_of s name lingers (old_of s name))) free ∙ (λ i. soft_purge_of s name (none i) (was i)) ∙ ap Some dropped
