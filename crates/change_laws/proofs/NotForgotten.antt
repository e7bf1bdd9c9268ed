-- No area is forgotten: what was used is used still or retired, what was retired is so still or released.
use Rattle.std.proofs.Common.{◌≡◌, ◌≢◌, ◌⊎◌, inl, inr, ℕ, zero, suc, ◌+◌, Bool, true, false, cond, not, ◌&&◌, ◌||◌, nat_eq, List, [], ◌∷◌, ◌++◌, Option, Some, None, All, IsTrue, option_and_then, refl, sym, ap, ◌∙◌, subst, arith}
use Rattle.std.specs.Prelude.{slice_get}
use Rattle.std.specs.Option.{option_to_list}
use Rattle.std.proofs.lemmas.Bool.Decides.{nat_tests}
use Rattle.std.proofs.lemmas.List.Elements.{All-cons, All-head, All-nil, All-tail}
use Rattle.term_core.specs.Plain.{plain}
use Rattle.mod_core.specs.declared.code.Module.{Module}
use Rattle.server_core.specs.declared.change.Change.{Change}
use Rattle.server_core.specs.declared.change.Change.TheVariants.{BringIn, MakeOld, DropOld, HoldWord, HoldArea, Forget, GiveBack}
use Rattle.server_core.specs.CommandTable.{with_all, with_deleted, with_key, with_purged, without_key, without_number}
use Rattle.server_core.specs.Decided.{CanBeOld, CanGo, Fits, FitsIn}
use Rattle.server_core.specs.Rooms.{area_among}
use Rattle.server_core.specs.ServerState.{Persistent, ServerState, Versions, current_of, is_retired, is_serial_in, key_area, old_of, persistent_of}
use Rattle.server_core.proofs.KeyChanges.{persistent_erased, persistent_put}
use Rattle.server_core.proofs.Loads.{with_all_parts}
use Rattle.server_core.proofs.Soundness.{current_set, held_push, held_without, old_set, some_same}
use Rattle.change_laws.specs.Breakpoints.{IsLiveCode}
use Rattle.change_laws.specs.Changes.{Incoming, incoming, changed_state}
use Rattle.change_laws.specs.Uses.{IsUsed}
use Rattle.change_laws.proofs.KeptImages.{module_at}
use Rattle.change_laws.proofs.LoadedCode.{HaveOther, current_new, current_other, no_module, no_serial, old_new, old_other, some_module}
use Rattle.change_laws.proofs.Reached.{current_purged}

-- ---- modules by their names

-- what holds of each holds of the one at a place
pub at_place : (P : Module → Type 0) (ms : List Module) (place : ℕ) (m : Module) → All P ms → slice_get ms place ≡ Some m → P m
at_place P [] place m all at = no_module m at
at_place P (n ∷ ms) zero m all at = subst P (some_module n m at) (All-head P n ms all)
at_place P (n ∷ ms) (suc place) m all at = at_place P ms place m (All-tail P n ms all) at

-- a module of this name is among these, or none is
abbrev pub IsAmong : ℕ → List Module → Type 0
IsAmong name ms = (place : ℕ) × (m : Module) × (slice_get ms place ≡ Some m) × (m.name.0 ≡ name)

pub among_or_other : (name : ℕ) (ms : List Module) → IsAmong name ms ⊎ HaveOther name ms
among_or_other name [] = inr (All-nil (λ (m : Module). m.name.0 ≢ name))
among_or_other name (m ∷ ms) = by (nat_eq m.name.0 name) refl (among_or_other name ms)
  where
    by : (b : Bool) → nat_eq m.name.0 name ≡ b → IsAmong name ms ⊎ HaveOther name ms → IsAmong name (m ∷ ms) ⊎ HaveOther name (m ∷ ms)
    by true is rest = inl (zero, m, refl, grind (arith, nat_tests))
    by false is (inl p) = inl (suc p.0, p.1, p.2, p.3)
    by false is (inr others) = inr (All-cons (λ (n : Module). n.name.0 ≢ name) m ms (λ same. absurd (grind (arith, nat_tests, same))) others)

-- ---- lists of serials

or_true : (b : Bool) → (b || true) ≡ true
or_true true = refl
or_true false = refl

-- a serial behind others is among them
pub in_pushed : (xs : List ℕ) (n : ℕ) → is_serial_in (xs ++ n ∷ []) n ≡ true
in_pushed xs n = held_push xs n n ∙ ap (λ b. is_serial_in xs n || b) (grind (arith, nat_tests)) ∙ or_true (is_serial_in xs n)

-- and the others are
pub kept_pushed : (xs : List ℕ) (n k : ℕ) → is_serial_in xs k ≡ true → is_serial_in (xs ++ n ∷ []) k ≡ true
kept_pushed xs n k h = held_push xs n k ∙ ap (λ b. b || nat_eq n k) h

pub kept_option : (xs : List ℕ) (o : Option ℕ) (k : ℕ) → is_serial_in xs k ≡ true → is_serial_in (xs ++ option_to_list o) k ≡ true
kept_option [] o k h = absurd (cc)
kept_option (x ∷ xs) o k h = by (nat_eq x k) (kept_option xs o k) h
  where
    by : (b : Bool) → (is_serial_in xs k ≡ true → is_serial_in (xs ++ option_to_list o) k ≡ true) → (b || is_serial_in xs k) ≡ true → (b || is_serial_in (xs ++ option_to_list o) k) ≡ true
    by true rest h = refl
    by false rest h = rest h

pub in_option_pushed : (xs : List ℕ) (o : Option ℕ) (k : ℕ) → o ≡ Some k → is_serial_in (xs ++ option_to_list o) k ≡ true
in_option_pushed xs o k is = ap (λ (p : Option ℕ). is_serial_in (xs ++ option_to_list p) k) is ∙ in_pushed xs k

-- ---- what was used

-- it is used still, or retired
abbrev pub UsedOrRetired : ServerState → ℕ → Type 0
UsedOrRetired t serial = IsUsed t serial ⊎ IsTrue (is_retired t serial)

from_live : (t : ServerState) (serial : ℕ) → IsLiveCode t serial → UsedOrRetired t serial
from_live t serial (inl p) = inl (inl p)
from_live t serial (inr p) = inl (inr (inl p))

is_held : (t : ServerState) (key serial : ℕ) → key_area t key ≡ Some serial → UsedOrRetired t serial
is_held t key serial e = inl (inr (inr (key, e)))

-- whatever was used was one of the three
by_use : (s t : ServerState) (serial : ℕ) → ((name : ℕ) → current_of s name ≡ Some serial → UsedOrRetired t serial) → ((name : ℕ) → old_of s name ≡ Some serial → UsedOrRetired t serial) → ((key : ℕ) → key_area s key ≡ Some serial → UsedOrRetired t serial)
    → IsUsed s serial → UsedOrRetired t serial
by_use s t serial current old held (inl p) = current p.0 p.1
by_use s t serial current old held (inr (inl p)) = old p.0 p.1
by_use s t serial current old held (inr (inr p)) = held p.0 p.1

-- a load: what was current becomes old, and there was no old code
pub loaded_current : (s : ServerState) (ms : List Module) (name serial : ℕ) → FitsIn s ms → current_of s name ≡ Some serial → IsLiveCode (with_all s ms) serial
loaded_current s ms name serial fits e = by (among_or_other name ms)
  where
    by : IsAmong name ms ⊎ HaveOther name ms → IsLiveCode (with_all s ms) serial
    by (inl p) = inr (p.1.name.0, old_new s ms p.0 p.1 fits.once p.2 ∙ ap (current_of s) p.3 ∙ e)
    by (inr others) = inl (name, current_other s ms name others ∙ e)

pub loaded_old : (s : ServerState) (ms : List Module) (name serial : ℕ) → FitsIn s ms → old_of s name ≡ Some serial → IsLiveCode (with_all s ms) serial
loaded_old s ms name serial fits e = by (among_or_other name ms)
  where
    by : IsAmong name ms ⊎ HaveOther name ms → IsLiveCode (with_all s ms) serial
    by (inl p) = no_serial serial (sym (at_place (λ m. old_of s m.name.0 ≡ None) ms p.0 p.1 fits.purged p.2) ∙ ap (old_of s) p.3 ∙ e)
    by (inr others) = inr (name, old_other s ms name others ∙ e)

loaded_held : (s : ServerState) (ms : List Module) (key serial : ℕ) → key_area s key ≡ Some serial → UsedOrRetired (with_all s ms) serial
loaded_held s ms key serial e = is_held (with_all s ms) key serial (ap (λ (t : ServerState). key_area t key) (with_all_parts s ms) ∙ e)

-- a delete: what was current becomes old, and there was no old code
pub deleted_current : (s : ServerState) (at name serial : ℕ) → current_of s name ≡ Some serial → IsLiveCode (with_deleted s at) serial
deleted_current s at name serial e = by (nat_eq name at) refl
  where
    new : Versions
    new = record { name = at; current = None; old = current_of s at }

    by : (b : Bool) → nat_eq name at ≡ b → IsLiveCode (with_deleted s at) serial
    by true is =
        let same : at ≡ name = grind (arith, nat_tests) in
        inr (name, old_set s.versions new name ∙ ap (λ b. cond b (current_of s at) (old_of s name)) is ∙ ap (current_of s) same ∙ e)
    by false is = inl (name, current_set s.versions new name ∙ ap (λ b. cond b None (current_of s name)) is ∙ e)

pub deleted_old : (s : ServerState) (at name serial : ℕ) → CanBeOld s at → old_of s name ≡ Some serial → IsLiveCode (with_deleted s at) serial
deleted_old s at name serial can e = by (nat_eq name at) refl
  where
    by : (b : Bool) → nat_eq name at ≡ b → IsLiveCode (with_deleted s at) serial
    by true is =
        let same : at ≡ name = grind (arith, nat_tests) in
        no_serial serial (sym can.old ∙ ap (old_of s) same ∙ e)
    by false is = inr (name, old_set s.versions (record { name = at; current = None; old = current_of s at }) name ∙ ap (λ b. cond b (current_of s at) (old_of s name)) is ∙ e)

-- a drop of old code: other old code stays
pub purged_old : (s : ServerState) (at old name serial : ℕ) → CanGo s at old → old_of s name ≡ Some serial → IsLiveCode (with_purged s at old) serial ⊎ (old ≡ serial)
purged_old s at old name serial can e = by (nat_eq name at) refl
  where
    by : (b : Bool) → nat_eq name at ≡ b → IsLiveCode (with_purged s at old) serial ⊎ (old ≡ serial)
    by true is =
        let same : at ≡ name = grind (arith, nat_tests) in
        inr (some_same old serial (sym can.old ∙ ap (old_of s) same ∙ e))
    by false is = inl (inr (name, old_set s.versions (record { name = at; current = current_of s at; old = None }) name ∙ ap (λ b. cond b None (old_of s name)) is ∙ e))

-- what is dropped is retired
purged_retired : (s : ServerState) (at old serial : ℕ) → IsLiveCode (with_purged s at old) serial ⊎ (old ≡ serial) → UsedOrRetired (with_purged s at old) serial
purged_retired s at old serial (inl live) = from_live (with_purged s at old) serial live
purged_retired s at old serial (inr one) = inr (ap (λ n. is_serial_in (s.retired ++ old ∷ []) n) (sym one) ∙ in_pushed s.retired old)

-- ---- keys

-- what a key held is retired once it holds something else; other keys hold what they held
rekeyed_held : (s t : ServerState) (at key serial : ℕ) (o : Option Persistent) → t.retired ≡ s.retired ++ option_to_list (key_area s at) → key_area t key ≡ option_and_then (λ p. p.area) (cond (nat_eq key at) o (persistent_of s key))
    → key_area s key ≡ Some serial → UsedOrRetired t serial
rekeyed_held s t at key serial o retired held e = by (nat_eq key at) refl held
  where
    by : (b : Bool) → nat_eq key at ≡ b → key_area t key ≡ option_and_then (λ p. p.area) (cond b o (persistent_of s key)) → UsedOrRetired t serial
    by true is held =
        let same : key ≡ at = grind (arith, nat_tests) in
        inr (ap (λ xs. is_serial_in xs serial) retired ∙ in_option_pushed s.retired (key_area s at) serial (ap (key_area s) (sym same) ∙ e))
    by false is held = is_held t key serial (held ∙ e)

-- a change of what a key holds leaves code
rekeyed : (s t : ServerState) (serial : ℕ) → ((name : ℕ) → current_of t name ≡ current_of s name) → ((name : ℕ) → old_of t name ≡ old_of s name) → ((key : ℕ) → key_area s key ≡ Some serial → UsedOrRetired t serial) → IsUsed s serial → UsedOrRetired t serial
rekeyed s t serial current old held used =
    by_use s t serial (λ name e. inl (inl (name, current name ∙ e))) (λ name e. inl (inr (inl (name, old name ∙ e)))) held used

put_held : (s t : ServerState) (new : Persistent) (key serial : ℕ) → t.keys ≡ with_key s.keys new → t.retired ≡ s.retired ++ option_to_list (key_area s new.key) → key_area s key ≡ Some serial → UsedOrRetired t serial
put_held s t new key serial keys retired e =
    rekeyed_held s t new.key key serial (Some new) retired (ap (λ ps. area_among ps key) keys ∙ ap (option_and_then (λ p. p.area)) (persistent_put s.keys new key)) e

erased_held : (s t : ServerState) (at key serial : ℕ) → t.keys ≡ without_key at s.keys → t.retired ≡ s.retired ++ option_to_list (key_area s at) → key_area s key ≡ Some serial → UsedOrRetired t serial
erased_held s t at key serial keys retired e =
    rekeyed_held s t at key serial None retired (ap (λ ps. area_among ps key) keys ∙ ap (option_and_then (λ p. p.area)) (persistent_erased s.keys at key)) e

-- ---- each change

pub used_kept : (s : ServerState) (change : Change) (serial : ℕ) → Fits s change → IsUsed s serial → UsedOrRetired (changed_state s change) serial
used_kept s (BringIn generation modules areas versions) serial fits used =
    let t = with_all s modules.items in
    by_use s t serial (λ name e. from_live t serial (loaded_current s modules.items name serial fits.1 e)) (λ name e. from_live t serial (loaded_old s modules.items name serial fits.1 e)) (λ key e. loaded_held s modules.items key serial e) used
used_kept s (MakeOld generation at) serial fits used =
    let t = with_deleted s at.0 in
    by_use s t serial (λ name e. from_live t serial (deleted_current s at.0 name serial e)) (λ name e. from_live t serial (deleted_old s at.0 name serial fits.1 e)) (λ key e. is_held t key serial e) used
used_kept s (DropOld generation at old says retired) serial fits used =
    let t = with_purged s at.0 old in
    by_use s t serial (λ name e. inl (inl (name, current_purged s at.0 old name ∙ e))) (λ name e. purged_retired s at.0 old serial (purged_old s at.0 old name serial fits.1 e)) (λ key e. is_held t key serial e) used
used_kept s (HoldWord generation key term keys retired) serial fits used =
    let t = changed_state s (HoldWord generation key term keys retired) in
    rekeyed s t serial (λ name. refl) (λ name. refl) (λ k e. put_held s t (record { key = key.0; term = plain term; area = None }) k serial refl refl e) used
used_kept s (HoldArea generation key term stored areas keys retired) serial fits used =
    let t = changed_state s (HoldArea generation key term stored areas keys retired) in
    rekeyed s t serial (λ name. refl) (λ name. refl) (λ k e. put_held s t (record { key = key.0; term = plain term; area = Some s.next_serial }) k serial refl refl e) used
used_kept s (Forget generation key retired) serial fits used =
    let t = changed_state s (Forget generation key retired) in
    rekeyed s t serial (λ name. refl) (λ name. refl) (λ k e. erased_held s t key.0 k serial refl refl e) used
used_kept s change serial fits used = inl used

-- ---- what was retired

-- it is retired still, or released
abbrev pub RetiredOrReleased : ServerState → ℕ → Type 0
RetiredOrReleased t serial = IsTrue (is_retired t serial) ⊎ IsTrue (is_serial_in t.released serial)

pub released_or_kept : (s : ServerState) (old serial : ℕ) (b : Bool) → nat_eq old serial ≡ b → is_serial_in s.retired serial ≡ true → IsTrue (is_serial_in (without_number old s.retired) serial) ⊎ IsTrue (is_serial_in (s.released ++ old ∷ []) serial)
released_or_kept s old serial true is h =
    let same : old ≡ serial = grind (arith, nat_tests) in
    inr (ap (λ n. is_serial_in (s.released ++ old ∷ []) n) (sym same) ∙ in_pushed s.released old)
released_or_kept s old serial false is h = inl (held_without s.retired old serial ∙ ap (λ b. b && not (nat_eq old serial)) h ∙ ap not is)

pub retired_kept : (s : ServerState) (change : Change) (serial : ℕ) → IsTrue (is_retired s serial) → RetiredOrReleased (changed_state s change) serial
retired_kept s (BringIn generation modules areas versions) serial h = inl (ap (λ (t : ServerState). is_retired t serial) (with_all_parts s modules.items) ∙ h)
retired_kept s (DropOld generation name old says retired) serial h = inl (kept_pushed s.retired old serial h)
retired_kept s (HoldWord generation key term keys retired) serial h = inl (kept_option s.retired (key_area s key.0) serial h)
retired_kept s (HoldArea generation key term stored areas keys retired) serial h = inl (kept_option s.retired (key_area s key.0) serial h)
retired_kept s (Forget generation key retired) serial h = inl (kept_option s.retired (key_area s key.0) serial h)
retired_kept s (GiveBack old released) serial h = released_or_kept s old serial (nat_eq old serial) refl h
retired_kept s change serial h = inl h

-- ---- what comes in

loaded_used : (s : ServerState) (ms : List Module) (place : ℕ) (m : Module) → FitsIn s ms → slice_get ms place ≡ Some m → IsUsed (with_all s ms) (s.next_serial + place)
loaded_used s ms place m fits at = inl (m.name.0, current_new s ms place m fits.once at)

put_used : (s t : ServerState) (new : Persistent) → new.area ≡ Some s.next_serial → t.keys ≡ with_key s.keys new → IsUsed t s.next_serial
put_used s t new area keys =
    let here : nat_eq new.key new.key ≡ true = grind (arith, nat_tests) in
    inr (inr (new.key, ap (λ ps. area_among ps new.key) keys ∙ ap (option_and_then (λ p. p.area)) (persistent_put s.keys new new.key ∙ ap (λ b. cond b (Some new) (persistent_of s new.key)) here) ∙ area))

pub incoming_used : (s : ServerState) (change : Change) (place : ℕ) (comes : Incoming) → Fits s change → slice_get (incoming change) place ≡ Some comes → IsUsed (changed_state s change) (s.next_serial + place)
incoming_used s (BringIn generation modules areas versions) place comes fits at =
    let found = module_at modules.items place comes at in
    loaded_used s modules.items place found.0 fits.1 found.1
incoming_used s (HoldArea generation key term kept areas keys retired) zero comes fits at =
    let t = changed_state s (HoldArea generation key term kept areas keys retired) in
    let first : s.next_serial ≡ s.next_serial + 0 = omega arith in
    subst (IsUsed t) first (put_used s t (record { key = key.0; term = plain term; area = Some s.next_serial }) refl refl)
incoming_used s change place comes fits at = absurd (cc)
