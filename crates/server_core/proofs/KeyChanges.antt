-- What a put and an erase leave: what each key holds, and a sound state.
use Rattle.std.proofs.Common.{◌≡◌, ◌≢◌, ℕ, ◌+◌, ◌<◌, ◌≤◌, Bool, true, false, cond, not, ◌&&◌, nat_eq, nat_le, List, [], ◌∷◌, ◌++◌, length, Option, Some, None, IfSome, is_none, option_and_then, if◌then◌else◌, refl, sym, ap, ◌∙◌, subst, inl, inr, ◌⊎◌, append-nil, arith}
use Rattle.std.proofs.lemmas.Bool.Decides.{nat_tests}
use Rattle.std.proofs.lemmas.Option.{IfSome_then}
use Rattle.std.specs.Option.{option_to_list}
use Rattle.term_core.specs.Image.{is_immediate}
use Rattle.term_core.specs.PlainTerm.{PlainTerm}
use Rattle.mod_core.specs.declared.code.Module.{Module}
use Rattle.mod_core.specs.Module.{IsModule}
use Rattle.server_core.specs.declared.command.TheConstants.{MOST_KEYS, MOST_TERMS}
use Rattle.server_core.specs.CommandTable.{with_complex, with_erased, with_immediate, with_key, without_key}
use Rattle.server_core.specs.Rooms.{HasPlace, area_among}
use Rattle.server_core.specs.ServerState.{Persistent, ServerState, TermArea, IsDropped, IsInstanceOf, IsPersistent, IsShortTerm, IsSound, IsTermArea, code_of, current_of, is_serial_in, key_area, live_areas, old_of, persistent_among, persistent_of, term_among, term_of_area}
use Rattle.server_core.proofs.KeyEntries.{areas_put, counted, flipped}
use Rattle.server_core.proofs.SoundParts.{area_kept, sound_whole}
use Rattle.server_core.proofs.Soundness.{area_is, at_some, held_later, no_instance, some_same}

-- ---- what each key holds

-- after a put
pub persistent_put : (ps : List Persistent) (new : Persistent) (k : ℕ) → persistent_among (with_key ps new) k ≡ cond (nat_eq k new.key) (Some new) (persistent_among ps k)
persistent_put [] new k = ap (λ b. cond b (Some new) None) (flipped new.key k)
persistent_put (p ∷ ps) new k = by (nat_eq p.key new.key) refl (persistent_put ps new k)
  where
    by : (b : Bool) → nat_eq p.key new.key ≡ b → persistent_among (with_key ps new) k ≡ cond (nat_eq k new.key) (Some new) (persistent_among ps k)
        → persistent_among (cond b (new ∷ ps) (p ∷ with_key ps new)) k ≡ cond (nat_eq k new.key) (Some new) (cond (nat_eq p.key k) (Some p) (persistent_among ps k))
    by true same rest = here (nat_eq new.key k) refl
      where
        here : (d : Bool) → nat_eq new.key k ≡ d → cond d (Some new) (persistent_among ps k) ≡ cond (nat_eq k new.key) (Some new) (cond (nat_eq p.key k) (Some p) (persistent_among ps k))
        here true at = ap (λ b. cond b (Some new) (cond (nat_eq p.key k) (Some p) (persistent_among ps k))) (sym (flipped k new.key ∙ at))
        here false at =
            let other : nat_eq p.key k ≡ false = grind (arith, nat_tests) in
            ap (λ b. cond b (Some p) (persistent_among ps k)) (sym other) ∙ ap (λ b. cond b (Some new) (cond (nat_eq p.key k) (Some p) (persistent_among ps k))) (sym (flipped k new.key ∙ at))
    by false other rest = there (nat_eq p.key k) refl rest
      where
        there : (d : Bool) → nat_eq p.key k ≡ d → persistent_among (with_key ps new) k ≡ cond (nat_eq k new.key) (Some new) (persistent_among ps k)
            → cond d (Some p) (persistent_among (with_key ps new) k) ≡ cond (nat_eq k new.key) (Some new) (cond d (Some p) (persistent_among ps k))
        there true at rest = let apart : nat_eq k new.key ≡ false = grind (arith, nat_tests) in ap (λ b. cond b (Some new) (Some p)) (sym apart)
        there false at rest = rest

either_none : (b : Bool) → cond {A = Option Persistent} b None None ≡ None
either_none true = refl
either_none false = refl

-- and after an erase
pub persistent_erased : (ps : List Persistent) (key k : ℕ) → persistent_among (without_key key ps) k ≡ cond (nat_eq k key) None (persistent_among ps k)
persistent_erased [] key k = sym (either_none (nat_eq k key))
persistent_erased (p ∷ ps) key k = by (nat_eq p.key key) refl (nat_eq p.key k) refl (persistent_erased ps key k)
  where
    by : (b : Bool) → nat_eq p.key key ≡ b → (d : Bool) → nat_eq p.key k ≡ d → persistent_among (without_key key ps) k ≡ cond (nat_eq k key) None (persistent_among ps k)
        → persistent_among (cond (not b) (p ∷ without_key key ps) (without_key key ps)) k ≡ cond (nat_eq k key) None (cond d (Some p) (persistent_among ps k))
    by true same true at rest = let here : nat_eq k key ≡ true = grind (arith, nat_tests) in rest ∙ ap (λ b. cond b None (persistent_among ps k)) here ∙ ap (λ b. cond b None (Some p)) (sym here)
    by true same false at rest = rest
    by false other true at rest =
        let apart : nat_eq k key ≡ false = grind (arith, nat_tests) in
        ap (λ b. cond b (Some p) (persistent_among (without_key key ps) k)) at ∙ ap (λ b. cond b None (Some p)) (sym apart)
    by false other false at rest = ap (λ b. cond b (Some p) (persistent_among (without_key key ps) k)) at ∙ rest

-- a put adds a key where it held nothing
pub length_put : (ps : List Persistent) (new : Persistent) → length (with_key ps new) ≡ length ps + (if is_none (persistent_among ps new.key) then 1 else 0)
length_put [] new = refl
length_put (p ∷ ps) new = by (nat_eq p.key new.key) (length_put ps new)
  where
    by : (b : Bool) → length (with_key ps new) ≡ length ps + (if is_none (persistent_among ps new.key) then 1 else 0)
        → length (cond b (new ∷ ps) (p ∷ with_key ps new)) ≡ length (p ∷ ps) + (if is_none (cond b (Some p) (persistent_among ps new.key)) then 1 else 0)
    by true rest = omega arith
    by false rest = omega (arith, rest)

-- an erase adds none
pub length_erased : (ps : List Persistent) (key : ℕ) → length (without_key key ps) ≤ length ps
length_erased [] key = omega arith
length_erased (p ∷ ps) key = by (nat_eq p.key key) (length_erased ps key)
  where
    by : (b : Bool) → length (without_key key ps) ≤ length ps → length (cond (not b) (p ∷ without_key key ps) (without_key key ps)) ≤ length (p ∷ ps)
    by true rest = omega (arith, rest)
    by false rest = omega (arith, rest)

pub areas_left : (ps : List Persistent) (key : ℕ) → live_areas (without_key key ps) ≤ live_areas ps
areas_left [] key = omega arith
areas_left (p ∷ ps) key = by (nat_eq p.key key) (areas_left ps key)
  where
    by : (b : Bool) → live_areas (without_key key ps) ≤ live_areas ps → live_areas (cond (not b) (p ∷ without_key key ps) (without_key key ps)) ≤ counted p.area + live_areas ps
    by true rest = omega (arith, rest)
    by false rest = omega (arith, rest)

-- ---- a state in which one key holds something else

-- the state with these terms and keys, where the area of what the key held is retired
abbrev pub rekeyed : ServerState → ℕ → ℕ → List TermArea → List Persistent → ServerState
rekeyed s key next terms keys = record s { next_serial = next; terms = terms; keys = keys; retired = s.retired ++ option_to_list (key_area s key) }

-- the key holds `o` from now on, whose area, if it has one, is new
pub record IsRekeyed (s : ServerState) (key : ℕ) (o : Option Persistent) (next : ℕ) (terms : List TermArea) (keys : List Persistent) : Type 0 where
  pub later : s.next_serial ≤ next
  pub held : (k : ℕ) → persistent_among keys k ≡ cond (nat_eq k key) o (persistent_of s k)
  pub fresh : (serial : ℕ) → serial < s.next_serial → option_and_then (λ p. p.area) o ≢ Some serial
  pub areas : (serial : ℕ) → IfSome (term_among terms serial) (IsTermArea (rekeyed s key next terms keys) serial)
  pub kept : (serial : ℕ) (term : PlainTerm) → term_of_area s serial ≡ Some term → term_among terms serial ≡ Some term
  pub known : IfSome o (IsPersistent (rekeyed s key next terms keys))
  pub few_keys : length keys ≤ MOST_KEYS
  pub few_areas : live_areas keys ≤ MOST_TERMS

-- the area of a key is the new one, or that of another key
abbrev pub IsAreaOf : ServerState → ℕ → Option Persistent → ℕ → ℕ → Type 0
IsAreaOf s key o k serial = ((nat_eq k key ≡ true) × (option_and_then (λ p. p.area) o ≡ Some serial)) ⊎ ((nat_eq k key ≡ false) × (key_area s k ≡ Some serial))

pub area_of_key : (s : ServerState) (key : ℕ) (o : Option Persistent) (keys : List Persistent) (k serial : ℕ) → persistent_among keys k ≡ cond (nat_eq k key) o (persistent_of s k) → area_among keys k ≡ Some serial → IsAreaOf s key o k serial
area_of_key s key o keys k serial held e = by (nat_eq k key) refl (sym (ap (option_and_then (λ p. p.area)) held) ∙ e)
  where
    by : (b : Bool) → nat_eq k key ≡ b → option_and_then (λ p. p.area) (cond b o (persistent_of s k)) ≡ Some serial → IsAreaOf s key o k serial
    by true here e = inl (here, e)
    by false there e = inr (there, e)

pub in_option : (o : Option ℕ) (xs : List ℕ) (k : ℕ) → is_serial_in (xs ++ option_to_list o) k ≡ true → (is_serial_in xs k ≡ true) ⊎ (o ≡ Some k)
in_option None xs k h = inl (ap (λ ys. is_serial_in ys k) (sym (append-nil xs)) ∙ h)
in_option (Some n) xs k h = by (held_later xs n k h)
  where
    by : (is_serial_in xs k ≡ true) ⊎ (n ≡ k) → (is_serial_in xs k ≡ true) ⊎ (Some n ≡ Some k)
    by (inl p) = inl p
    by (inr p) = inr (ap Some p)

-- what was dropped stays dropped
dropped_rekeyed : (s : ServerState) (key : ℕ) (o : Option Persistent) (next : ℕ) (terms : List TermArea) (keys : List Persistent) (serial : ℕ) → IsRekeyed s key o next terms keys → IsDropped s serial → IsDropped (rekeyed s key next terms keys) serial
dropped_rekeyed s key o next terms keys serial r d = record {
  known = omega (arith, d.known, r.later);
  not_current = d.not_current;
  not_old = d.not_old;
  not_held = λ k e. by k (area_of_key s key o keys k serial (r.held k) e);
}
  where
    by : (k : ℕ) → IsAreaOf s key o k serial → ⊥
    by k (inl p) = r.fresh serial d.known p.1
    by k (inr p) = d.not_held k p.1

-- and the area of what the key held is dropped
former_dropped : (s : ServerState) (key : ℕ) (o : Option Persistent) (next : ℕ) (terms : List TermArea) (keys : List Persistent) (serial : ℕ) → IsSound s → IsRekeyed s key o next terms keys → key_area s key ≡ Some serial → IsDropped (rekeyed s key next terms keys) serial
former_dropped s key o next terms keys serial sound r was =
    let area = area_is s key serial sound was in
    record {
      known = omega (arith, area.2.known, r.later);
      not_current = λ name e. no_instance s serial sound area name (at_some (IsInstanceOf s name) (current_of s name) serial e (sound.current name));
      not_old = λ name e. no_instance s serial sound area name (at_some (IsInstanceOf s name) (old_of s name) serial e (sound.old name));
      not_held = λ k e. by k area.2.known (area_of_key s key o keys k serial (r.held k) e);
    }
  where
    by : (k : ℕ) → serial < s.next_serial → IsAreaOf s key o k serial → ⊥
    by k known (inl p) = r.fresh serial known p.1
    by k known (inr p) = let same : k ≡ key = sound.keys_apart k key serial p.1 was in let here = p.0 in absurd (grind (arith, nat_tests, same, here))

-- such a state is sound
pub sound_rekeyed : (s : ServerState) (key : ℕ) (o : Option Persistent) (next : ℕ) (terms : List TermArea) (keys : List Persistent) → IsSound s → IsRekeyed s key o next terms keys → IsSound (rekeyed s key next terms keys)
sound_rekeyed s key o next terms keys sound r = sound_whole (rekeyed s key next terms keys) (record {
  modules = λ serial. IfSome_then (code_of s serial) (sound.modules serial) (λ m h. (h.0, omega (arith, h.1, r.later)));
  current = sound.current;
  old = sound.old;
  apart = sound.apart;
  one_doomed = sound.one_doomed;
  doomed = sound.doomed;
  retired = λ k h. at_retired k (in_option (key_area s key) s.retired k h);
  released = λ k h. dropped_rekeyed s key o next terms keys k r (sound.released k h);
  live = sound.live;
}) (record {
  terms = r.areas;
  keys = λ k. subst (λ p. IfSome p (IsPersistent (rekeyed s key next terms keys))) (sym (r.held k)) (held_known k (nat_eq k key));
  keys_apart = λ k l serial e f. apart k l serial (area_of_key s key o keys k serial (r.held k) e) (area_of_key s key o keys l serial (r.held l) f);
  few_keys = r.few_keys;
  few_areas = r.few_areas;
})
  where
    at_retired : (k : ℕ) → (is_serial_in s.retired k ≡ true) ⊎ (key_area s key ≡ Some k) → IsDropped (rekeyed s key next terms keys) k
    at_retired k (inl h) = dropped_rekeyed s key o next terms keys k r (sound.retired k h)
    at_retired k (inr h) = former_dropped s key o next terms keys k sound r h

    held_known : (k : ℕ) (b : Bool) → IfSome (cond b o (persistent_of s k)) (IsPersistent (rekeyed s key next terms keys))
    held_known k true = r.known
    held_known k false = IfSome_then (persistent_of s k) (sound.keys k) (λ p h. record { sound = h.sound; area = area_kept s (rekeyed s key next terms keys) p.term p.area (λ serial. r.kept serial p.term) h.area })

    known : (k serial : ℕ) → key_area s k ≡ Some serial → serial < s.next_serial
    known k serial e = (area_is s k serial sound e).2.known

    apart : (k l serial : ℕ) → IsAreaOf s key o k serial → IsAreaOf s key o l serial → k ≡ l
    apart k l serial (inl p) (inl q) = let a = p.0 in let b = q.0 in grind (arith, nat_tests, a, b)
    apart k l serial (inl p) (inr q) = absurd (r.fresh serial (known l serial q.1) p.1)
    apart k l serial (inr p) (inl q) = absurd (r.fresh serial (known k serial p.1) q.1)
    apart k l serial (inr p) (inr q) = sound.keys_apart k l serial p.1 q.1

-- ---- puts and erases

one_more : (keys : List Persistent) (new : Persistent) → (is_none (persistent_among keys new.key) && nat_le MOST_KEYS (length keys)) ≡ false → length keys ≤ MOST_KEYS → length (with_key keys new) ≤ MOST_KEYS
one_more keys new place few = by (is_none (persistent_among keys new.key)) place (length_put keys new)
  where
    by : (b : Bool) → (b && nat_le MOST_KEYS (length keys)) ≡ false → length (with_key keys new) ≡ length keys + (if b then 1 else 0) → length (with_key keys new) ≤ MOST_KEYS
    by true place len = grind (arith, nat_tests, few, len, place)
    by false place len = omega (arith, few, len)

-- what comes without an area adds none
areas_immediate : (keys : List Persistent) (key : ℕ) (term : PlainTerm) → live_areas keys ≤ MOST_TERMS → live_areas (with_key keys (record { key = key; term = term; area = None })) ≤ MOST_TERMS
areas_immediate keys key term few = omega (arith, areas_put keys (record { key = key; term = term; area = None }), few)

-- what comes with one adds one at most
areas_complex : (keys : List Persistent) (key serial : ℕ) (term : PlainTerm) → nat_le MOST_TERMS (live_areas keys) ≡ false → live_areas (with_key keys (record { key = key; term = term; area = Some serial })) ≤ MOST_TERMS
areas_complex keys key serial term place =
    let few : live_areas keys < MOST_TERMS = grind (arith, nat_tests) in
    omega (arith, areas_put keys (record { key = key; term = term; area = Some serial }), few)

nothing_held : {A : Type 0} (k : ℕ) → None ≡ Some k → A
nothing_held k e = absurd (cc)

-- a key that holds an integer or an atom
pub sound_immediate : (s : ServerState) (key : ℕ) (term : PlainTerm) → IsSound s → IsShortTerm term → HasPlace s.keys key term → is_immediate term ≡ true → IsSound (with_immediate s key term)
sound_immediate s key term sound short place immediate =
    let new : Persistent = record { key = key; term = term; area = None } in
    let t : ServerState = rekeyed s key s.next_serial s.terms (with_key s.keys new) in
    sound_rekeyed s key (Some new) s.next_serial s.terms (with_key s.keys new) sound (record {
      later = omega arith;
      held = λ k. persistent_put s.keys new k;
      fresh = λ serial known e. nothing_held serial e;
      areas = λ serial. IfSome_then (term_of_area s serial) (sound.terms serial) (λ u h. record { sound = h.sound; complex = h.complex; known = h.known; no_code = h.no_code });
      kept = λ serial u e. e;
      known = record { sound = short; area = immediate };
      few_keys = one_more s.keys new place.for_key sound.few_keys;
      few_areas = areas_immediate s.keys key term sound.few_areas;
    })

-- an area that came in keeps its term
pub term_stays : (ts more : List TermArea) (serial : ℕ) (term : PlainTerm) → term_among ts serial ≡ Some term → term_among (ts ++ more) serial ≡ Some term
term_stays [] more serial term h = none_term h
  where
    none_term : {A : Type 0} → None ≡ Some term → A
    none_term e = absurd (cc)
term_stays (a ∷ ts) more serial term h = by (nat_eq a.serial serial) (term_stays ts more serial term) h
  where
    by : (b : Bool) → (term_among ts serial ≡ Some term → term_among (ts ++ more) serial ≡ Some term) → cond b (Some a.term) (term_among ts serial) ≡ Some term → cond b (Some a.term) (term_among (ts ++ more) serial) ≡ Some term
    by true rest h = h
    by false rest h = rest h

-- what holds of the terms that came in before, and of the new one at its serial, holds of all
term_pushed : (P : ℕ → PlainTerm → Type 0) (ts : List TermArea) (n : ℕ) (term : PlainTerm) (k : ℕ) → IfSome (term_among ts k) (P k) → P n term → IfSome (term_among (ts ++ record { serial = n; term = term } ∷ []) k) (P k)
term_pushed P [] n term k h here = by (nat_eq n k) refl
  where
    by : (b : Bool) → nat_eq n k ≡ b → IfSome (cond b (Some term) None) (P k)
    by true e = let same : n ≡ k = grind (arith, nat_tests) in subst (λ j. P j term) same here
    by false e = tt
term_pushed P (a ∷ ts) n term k h here = by (nat_eq a.serial k) (λ rest. term_pushed P ts n term k rest here) h
  where
    by : (b : Bool) → (IfSome (term_among ts k) (P k) → IfSome (term_among (ts ++ record { serial = n; term = term } ∷ []) k) (P k)) → IfSome (cond b (Some a.term) (term_among ts k)) (P k)
        → IfSome (cond b (Some a.term) (term_among (ts ++ record { serial = n; term = term } ∷ []) k)) (P k)
    by true rest h = h
    by false rest h = rest h

-- the new term stands in its area, since no term had its serial
pub term_new : (ts : List TermArea) (n : ℕ) (term : PlainTerm) → term_among ts n ≡ None → term_among (ts ++ record { serial = n; term = term } ∷ []) n ≡ Some term
term_new [] n term none = let here : nat_eq n n ≡ true = grind (arith, nat_tests) in ap (λ b. cond b (Some term) None) here
term_new (a ∷ ts) n term none = by (nat_eq a.serial n) (term_new ts n term) none
  where
    by : (b : Bool) → (term_among ts n ≡ None → term_among (ts ++ record { serial = n; term = term } ∷ []) n ≡ Some term) → cond b (Some a.term) (term_among ts n) ≡ None → cond b (Some a.term) (term_among (ts ++ record { serial = n; term = term } ∷ []) n) ≡ Some term
    by true rest h = absurd (cc)
    by false rest h = rest h

-- nothing stands at the serial that comes next
pub no_term_next : (s : ServerState) → IsSound s → term_of_area s s.next_serial ≡ None
no_term_next s sound = by (term_of_area s s.next_serial) refl (sound.terms s.next_serial)
  where
    by : (o : Option PlainTerm) → term_of_area s s.next_serial ≡ o → IfSome o (IsTermArea s s.next_serial) → o ≡ None
    by None e h = refl
    by (Some t) e h = absurd (omega (arith, h.known))

pub no_code_next : (s : ServerState) → IsSound s → code_of s s.next_serial ≡ None
no_code_next s sound = by (code_of s s.next_serial) (sound.modules s.next_serial)
  where
    by : (o : Option Module) → IfSome o (λ m. IsModule m × (s.next_serial < s.next_serial)) → o ≡ None
    by None h = refl
    by (Some m) h = absurd (omega (arith, h.1))

-- a key that holds a complex term
pub sound_complex : (s : ServerState) (key : ℕ) (term : PlainTerm) → IsSound s → IsShortTerm term → HasPlace s.keys key term → is_immediate term ≡ false → IsSound (with_complex s key term)
sound_complex s key term sound short place complex =
    let new : Persistent = record { key = key; term = term; area = Some s.next_serial } in
    let terms : List TermArea = s.terms ++ record { serial = s.next_serial; term = term } ∷ [] in
    let t : ServerState = rekeyed s key (s.next_serial + 1) terms (with_key s.keys new) in
    let stands : term_among terms s.next_serial ≡ Some term = term_new s.terms s.next_serial term (no_term_next s sound) in
    let there : nat_le MOST_TERMS (live_areas s.keys) ≡ false = sym (ap (λ b. not b && nat_le MOST_TERMS (live_areas s.keys)) complex) ∙ place.for_area in
    sound_rekeyed s key (Some new) (s.next_serial + 1) terms (with_key s.keys new) sound (record {
      later = omega arith;
      held = λ k. persistent_put s.keys new k;
      fresh = λ serial known e. let same = some_same s.next_serial serial e in absurd (omega (arith, same, known));
      areas = λ serial. term_pushed (IsTermArea t) s.terms s.next_serial term serial (IfSome_then (term_of_area s serial) (sound.terms serial) (λ u h. record { sound = h.sound; complex = h.complex; known = omega (arith, h.known); no_code = h.no_code })) (record { sound = short; complex = complex; known = omega arith; no_code = no_code_next s sound });
      kept = λ serial u e. term_stays s.terms (record { serial = s.next_serial; term = term } ∷ []) serial u e;
      known = record { sound = short; area = stands };
      few_keys = one_more s.keys new place.for_key sound.few_keys;
      few_areas = areas_complex s.keys key s.next_serial term there;
    })

-- a key that holds nothing
pub sound_erased : (s : ServerState) (key : ℕ) → IsSound s → IsSound (with_erased s key)
sound_erased s key sound =
    sound_rekeyed s key None s.next_serial s.terms (without_key key s.keys) sound (record {
      later = omega arith;
      held = λ k. persistent_erased s.keys key k;
      fresh = λ serial known e. nothing_held serial e;
      areas = λ serial. IfSome_then (term_of_area s serial) (sound.terms serial) (λ u h. record { sound = h.sound; complex = h.complex; known = h.known; no_code = h.no_code });
      kept = λ serial u e. e;
      known = tt;
      few_keys = omega (arith, length_erased s.keys key, sound.few_keys);
      few_areas = omega (arith, areas_left s.keys key, sound.few_areas);
    })
