-- What a put or an erase does to the areas that the server uses and has retired.
use Rattle.std.proofs.Common.{◌≡◌, ◌≢◌, ◌⊎◌, inl, inr, ℕ, ◌+◌, Bool, true, false, cond, not, ◌||◌, nat_eq, List, [], ◌∷◌, ◌++◌, Option, Some, None, IsTrue, option_and_then, refl, sym, ap, ◌∙◌, subst, arith}
use Rattle.std.specs.Option.{option_to_list}
use Rattle.std.proofs.lemmas.Bool.Decides.{nat_tests}
use Rattle.std.proofs.lemmas.Bool.{cases_eq}
use Rattle.std.proofs.lemmas.Option.{none-some}
use Rattle.term_core.specs.Plain.{plain}
use Rattle.server_core.specs.declared.change.Change.{Change}
use Rattle.server_core.specs.declared.change.Change.TheVariants.{HoldWord, HoldArea, Forget}
use Rattle.server_core.specs.CommandTable.{with_key, without_key}
use Rattle.server_core.specs.Decided.{change_made}
use Rattle.server_core.specs.Rooms.{area_among}
use Rattle.server_core.specs.ServerState.{Persistent, ServerState, current_of, is_retired, is_serial_in, key_area, live_areas, old_of, persistent_among, persistent_of}
use Rattle.server_core.proofs.KeyChanges.{IsAreaOf, area_of_key, in_option, persistent_erased, persistent_put}
use Rattle.server_core.proofs.KeyEntries.{areas_put, counted}
use Rattle.change_laws.specs.Uses.{IsUsed}
use Rattle.staging.specs.Replaced.{former_of}
use Rattle.staging.specs.Stages.{IsKeyChange}
use Rattle.staging.proofs.KeyLists.{StandOnce, apart_none, same_key}

-- the serial of the area that comes in with a key
abbrev pub came_with : ServerState → Change → Option ℕ
came_with s (HoldArea generation key term stored areas keys retired) = Some s.next_serial
came_with s change = None

-- what was used is used still but for the former area, and what comes in is used
pub record Rekeys (s t : ServerState) (former came : Option ℕ) : Type 0 where
  pub used : (serial : ℕ) → IsUsed t serial → IsUsed s serial ⊎ (came ≡ Some serial)
  pub stays : (serial : ℕ) → IsUsed s serial → former ≢ Some serial → IsUsed t serial
  pub comes : (serial : ℕ) → came ≡ Some serial → IsUsed t serial
  pub held : (serial : ℕ) → former ≡ Some serial → (key : ℕ) × (key_area s key ≡ Some serial)
  pub retired : (serial : ℕ) → IsTrue (is_retired t serial) → IsTrue (is_retired s serial) ⊎ (former ≡ Some serial)
  pub still : (serial : ℕ) → IsTrue (is_retired s serial) → IsTrue (is_retired t serial)
  pub gone : (serial : ℕ) → former ≡ Some serial → IsTrue (is_retired t serial)
  pub areas : live_areas t.keys + counted former ≡ live_areas s.keys + counted came

-- ---- retired areas

in_front : (xs ys : List ℕ) (n : ℕ) → is_serial_in xs n ≡ true → is_serial_in (xs ++ ys) n ≡ true
in_front [] ys n e = absurd (cc)
in_front (x ∷ xs) ys n e = by (nat_eq x n) (in_front xs ys n) e
  where
    by : (b : Bool) → (is_serial_in xs n ≡ true → is_serial_in (xs ++ ys) n ≡ true) → (b || is_serial_in xs n) ≡ true → (b || is_serial_in (xs ++ ys) n) ≡ true
    by true rest e = refl
    by false rest e = rest e

same_true : (n : ℕ) → nat_eq n n ≡ true
same_true n = grind (arith, nat_tests)

in_behind : (xs : List ℕ) (n : ℕ) → is_serial_in (xs ++ n ∷ []) n ≡ true
in_behind [] n = ap (λ (b : Bool). b || false) (same_true n)
in_behind (x ∷ xs) n = by (nat_eq x n) (in_behind xs n)
  where
    by : (b : Bool) → is_serial_in (xs ++ n ∷ []) n ≡ true → (b || is_serial_in (xs ++ n ∷ []) n) ≡ true
    by true rest = refl
    by false rest = rest

gone_in : (xs : List ℕ) (o : Option ℕ) (n : ℕ) → o ≡ Some n → is_serial_in (xs ++ option_to_list o) n ≡ true
gone_in xs o n e = subst (λ (p : Option ℕ). is_serial_in (xs ++ option_to_list p) n ≡ true) (sym e) (in_behind xs n)

-- ---- the keys

-- how many areas there are after an erase
areas_erased : (ps : List Persistent) (key : ℕ) → StandOnce ps → live_areas (without_key key ps) + counted (area_among ps key) ≡ live_areas ps
areas_erased [] key once = refl
areas_erased (p ∷ ps) key once = by (nat_eq p.key key) refl (areas_erased ps key once.1)
  where
    by : (b : Bool) → nat_eq p.key key ≡ b → live_areas (without_key key ps) + counted (area_among ps key) ≡ live_areas ps
        → live_areas (cond (not b) (p ∷ without_key key ps) (without_key key ps)) + counted (option_and_then (λ q. q.area) (cond b (Some p) (persistent_among ps key))) ≡ counted p.area + live_areas ps
    by true is rest =
        let none : area_among ps key ≡ None = ap (option_and_then (λ q. q.area)) (apart_none ps key (λ j q e same. once.0 j q e (same_key p.key key is ∙ same))) in
        let zero = ap counted none in omega (arith, rest, zero)
    by false is rest = omega (arith, rest)

-- the area of a key that is another one stays
stays_put : (ps : List Persistent) (new : Persistent) (k serial : ℕ) → (k ≡ new.key → ⊥) → area_among ps k ≡ Some serial → area_among (with_key ps new) k ≡ Some serial
stays_put ps new k serial differ e =
    let other : nat_eq k new.key ≡ false = grind (arith, nat_tests) in
    ap (option_and_then (λ p. p.area)) (persistent_put ps new k ∙ ap (λ (b : Bool). cond b (Some new) (persistent_among ps k)) other) ∙ e

here_put : (ps : List Persistent) (new : Persistent) → area_among (with_key ps new) new.key ≡ new.area
here_put ps new = ap (option_and_then (λ p. p.area)) (persistent_put ps new new.key ∙ ap (λ (b : Bool). cond b (Some new) (persistent_among ps new.key)) (same_true new.key))

stays_erased : (ps : List Persistent) (key k serial : ℕ) → (k ≡ key → ⊥) → area_among ps k ≡ Some serial → area_among (without_key key ps) k ≡ Some serial
stays_erased ps key k serial differ e =
    let other : nat_eq k key ≡ false = grind (arith, nat_tests) in
    ap (option_and_then (λ p. p.area)) (persistent_erased ps key k ∙ ap (λ (b : Bool). cond b None (persistent_among ps k)) other) ∙ e

-- ---- whatever is used

by_key : (s : ServerState) (key k serial : ℕ) (o : Option Persistent) → IsAreaOf s key o k serial → IsUsed s serial ⊎ (option_and_then (λ p. p.area) o ≡ Some serial)
by_key s key k serial o (inl p) = inr p.1
by_key s key k serial o (inr p) = inl (inr (inr (k, p.1)))

module _ (s : ServerState) (key : ℕ) (o : Option Persistent) (keys : List Persistent) (held : (k : ℕ) → persistent_among keys k ≡ cond (nat_eq k key) o (persistent_of s k)) (t : ServerState) (keys_are : t.keys ≡ keys) (current : (name : ℕ) → current_of t name ≡ current_of s name) (old : (name : ℕ) → old_of t name ≡ old_of s name) where
  used_from : (serial : ℕ) → IsUsed t serial → IsUsed s serial ⊎ (option_and_then (λ p. p.area) o ≡ Some serial)
  used_from serial (inl p) = inl (inl (p.0, sym (current p.0) ∙ p.1))
  used_from serial (inr (inl p)) = inl (inr (inl (p.0, sym (old p.0) ∙ p.1)))
  used_from serial (inr (inr p)) = by_key s key p.0 serial o (area_of_key s key o keys p.0 serial (held p.0) (ap (λ (ks : List Persistent). area_among ks p.0) (sym keys_are) ∙ p.1))

  used_still : (serial : ℕ) → ((k : ℕ) → (k ≡ key → ⊥) → key_area s k ≡ Some serial → area_among keys k ≡ Some serial) → IsUsed s serial → key_area s key ≢ Some serial → IsUsed t serial
  used_still serial stays (inl p) differ = inl (p.0, current p.0 ∙ p.1)
  used_still serial stays (inr (inl p)) differ = inr (inl (p.0, old p.0 ∙ p.1))
  used_still serial stays (inr (inr p)) differ =
      elim (cases_eq p.0 key) as (λ _. IsUsed t serial) [
        | inl same ↦ absurd (differ (ap (key_area s) (sym same) ∙ p.1))
        | inr other ↦ inr (inr (p.0, ap (λ (ks : List Persistent). area_among ks p.0) keys_are ∙ stays p.0 other p.1))
      ]

pub rekeys : (s : ServerState) (change : Change) → StandOnce s.keys → IsKeyChange change → Rekeys s (change_made s change).state (former_of s change) (came_with s change)
rekeys s (HoldWord generation key term keys retired) once is = record {
  used = λ serial u. used_from s key.0 (Some new) (with_key s.keys new) (persistent_put s.keys new) t refl (λ name. refl) (λ name. refl) serial u;
  stays = λ serial u differ. used_still s key.0 (Some new) (with_key s.keys new) (persistent_put s.keys new) t refl (λ name. refl) (λ name. refl) serial (λ k other e. stays_put s.keys new k serial other e) u differ;
  comes = λ serial e. absurd (none-some serial e);
  held = λ serial e. (key.0, e);
  retired = λ serial h. in_option (key_area s key.0) s.retired serial h;
  still = λ serial h. in_front s.retired (option_to_list (key_area s key.0)) serial h;
  gone = λ serial e. gone_in s.retired (key_area s key.0) serial e;
  areas = areas_put s.keys new;
}
  where
    new : Persistent
    new = record { key = key.0; term = plain term; area = None }

    t : ServerState
    t = (change_made s (HoldWord generation key term keys retired)).state
rekeys s (HoldArea generation key term stored areas keys retired) once is = record {
  used = λ serial u. used_from s key.0 (Some new) (with_key s.keys new) (persistent_put s.keys new) t refl (λ name. refl) (λ name. refl) serial u;
  stays = λ serial u differ. used_still s key.0 (Some new) (with_key s.keys new) (persistent_put s.keys new) t refl (λ name. refl) (λ name. refl) serial (λ k other e. stays_put s.keys new k serial other e) u differ;
  comes = λ serial e. inr (inr (key.0, here_put s.keys new ∙ e));
  held = λ serial e. (key.0, e);
  retired = λ serial h. in_option (key_area s key.0) s.retired serial h;
  still = λ serial h. in_front s.retired (option_to_list (key_area s key.0)) serial h;
  gone = λ serial e. gone_in s.retired (key_area s key.0) serial e;
  areas = areas_put s.keys new;
}
  where
    new : Persistent
    new = record { key = key.0; term = plain term; area = Some s.next_serial }

    t : ServerState
    t = (change_made s (HoldArea generation key term stored areas keys retired)).state
rekeys s (Forget generation key retired) once is = record {
  used = λ serial u. used_from s key.0 None (without_key key.0 s.keys) (persistent_erased s.keys key.0) t refl (λ name. refl) (λ name. refl) serial u;
  stays = λ serial u differ. used_still s key.0 None (without_key key.0 s.keys) (persistent_erased s.keys key.0) t refl (λ name. refl) (λ name. refl) serial (λ k other e. stays_erased s.keys key.0 k serial other e) u differ;
  comes = λ serial e. absurd (none-some serial e);
  held = λ serial e. (key.0, e);
  retired = λ serial h. in_option (key_area s key.0) s.retired serial h;
  still = λ serial h. in_front s.retired (option_to_list (key_area s key.0)) serial h;
  gone = λ serial e. gone_in s.retired (key_area s key.0) serial e;
  areas = (let sum = areas_erased s.keys key.0 once in omega (arith, sum));
}
  where
    t : ServerState
    t = (change_made s (Forget generation key retired)).state
rekeys s change once is = absurd is
