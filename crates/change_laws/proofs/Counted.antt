-- How many instances are live after each kind of change, and how many terms have areas.
use Rattle.std.proofs.Common.{◌≡◌, ◌≢◌, ℕ, zero, suc, ◌+◌, Bool, true, false, cond, not, nat_eq, List, [], ◌∷◌, length, get_or, Option, Some, None, is_some, All, option_and_then, refl, sym, ap, ◌∙◌, subst, arith}
use Rattle.std.specs.List.{AllPairs}
use Rattle.std.specs.Option.{option_to_list}
use Rattle.std.proofs.lemmas.Bool.Decides.{nat_tests}
use Rattle.std.proofs.lemmas.List.Elements.{All-cons, All-head, All-nil, All-tail}
use Rattle.std.proofs.lemmas.List.Kept.{AllPairs-cons, AllPairs-filter}
use Rattle.term_core.specs.Plain.{plain}
use Rattle.mod_core.specs.declared.code.Module.{Module}
use Rattle.server_core.specs.declared.change.Change.{Change}
use Rattle.server_core.specs.declared.change.Change.TheVariants.{BringIn, DropOld, Forget, HoldArea, HoldWord, MakeOld}
use Rattle.server_core.specs.CommandTable.{with_all, with_deleted, with_key, with_loaded, with_purged, without_key}
use Rattle.server_core.specs.Decided.{Fits}
use Rattle.server_core.specs.Rooms.{area_among}
use Rattle.server_core.specs.ServerState.{Persistent, ServerState, current_of, key_area, live_areas, live_count, old_of, persistent_among}
use Rattle.server_core.proofs.CurrentCode.{live_after, live_dropped, live_made_old}
use Rattle.server_core.proofs.KeyEntries.{areas_put, counted}
use Rattle.server_core.proofs.Loads.{with_all_parts}
use Rattle.server_core.proofs.Soundness.{old_set}
use Rattle.change_laws.specs.Changes.{modules_of, changed_state, incoming_terms}
use Rattle.change_laws.specs.Counts.{HasEachKeyOnce}
use Rattle.change_laws.specs.Uses.{instances_dropped, terms_dropped}
use Rattle.change_laws.proofs.LoadedCode.{AreApart, apart_head, apart_tail, unequal}

-- ---- instances

-- none of these modules has old code
abbrev pub HaveNoOld : ServerState → List Module → Type 0
HaveNoOld s ms = All (λ m. old_of s m.name.0 ≡ None) ms

-- and so once another one came in
still_none : (s : ServerState) (m : Module) (ms : List Module) → AreApart (m ∷ ms) → HaveNoOld s ms → HaveNoOld (with_loaded s m) ms
still_none s m ms apart none k d within =
    let name = (get_or ms k d).name.0 in
    let other : nat_eq name m.name.0 ≡ false = unequal m.name.0 name (λ same. apart_head m ms apart k d within (sym same)) in
    old_set s.versions (record { name = m.name.0; current = Some s.next_serial; old = current_of s m.name.0 }) name ∙ ap (λ b. cond b (current_of s m.name.0) (old_of s name)) other ∙ none k d within

-- one more is live for each module that comes in
live_all : (s : ServerState) (ms : List Module) → AreApart ms → HaveNoOld s ms → live_count (with_all s ms).versions ≡ live_count s.versions + length ms
live_all s [] apart none = omega arith
live_all s (m ∷ ms) apart none =
    let rest = live_all (with_loaded s m) ms (apart_tail m ms apart) (still_none s m ms apart (All-tail (λ n. old_of s n.name.0 ≡ None) m ms none)) in
    let first = rw (All-head (λ n. old_of s n.name.0 ≡ None) m ms none) at (live_after s.versions m.name.0 s.next_serial) in
    omega (arith, rest, first)

plus_none : (n : ℕ) → n ≡ n + 0
plus_none n = omega arith

pub instances_counted : (s : ServerState) (change : Change) → Fits s change → live_count (changed_state s change).versions + length (instances_dropped change) ≡ live_count s.versions + length (modules_of change)
instances_counted s (BringIn generation modules areas versions) fits = let live = live_all s modules.items fits.1.once fits.1.purged in omega (arith, live)
instances_counted s (MakeOld generation name) fits =
    let live = live_made_old s.versions (with_deleted s name.0).versions name.0 refl fits.1.old in
    omega (arith, live)
instances_counted s (DropOld generation name serial says retired) fits = live_dropped s.versions (with_purged s name.0 serial).versions name.0 refl (ap is_some fits.1.old) ∙ plus_none (live_count s.versions)
instances_counted s change fits = refl

-- ---- keys

-- what holds of each and of the new one holds of each after a put
all_put : (P : Persistent → Type 0) (ps : List Persistent) (new : Persistent) → All P ps → P new → All P (with_key ps new)
all_put P [] new each here = All-cons P new [] here each
all_put P (p ∷ ps) new each here = by (nat_eq p.key new.key) (all_put P ps new (All-tail P p ps each) here)
  where
    by : (b : Bool) → All P (with_key ps new) → All P (cond b (new ∷ ps) (p ∷ with_key ps new))
    by true rest = All-cons P new ps here (All-tail P p ps each)
    by false rest = All-cons P p (with_key ps new) (All-head P p ps each) rest

-- no key stands twice among these
abbrev pub AreKeysOnce : List Persistent → Type 0
AreKeysOnce ps = AllPairs (λ p q. p.key ≢ q.key) ps

once_head : (p : Persistent) (ps : List Persistent) → AreKeysOnce (p ∷ ps) → All (λ q. p.key ≢ q.key) ps
once_head p ps once k d within = once zero (suc k) d (omega arith) (omega (arith, within))

once_tail : (p : Persistent) (ps : List Persistent) → AreKeysOnce (p ∷ ps) → AreKeysOnce ps
once_tail p ps once i j d before within = once (suc i) (suc j) d (omega (arith, before)) (omega (arith, within))

once_put : (ps : List Persistent) (new : Persistent) → AreKeysOnce ps → AreKeysOnce (with_key ps new)
once_put [] new once = AllPairs-cons (λ p q. p.key ≢ q.key) new [] (All-nil (λ q. new.key ≢ q.key)) once
once_put (p ∷ ps) new once = by (nat_eq p.key new.key) refl (once_put ps new (once_tail p ps once))
  where
    by : (b : Bool) → nat_eq p.key new.key ≡ b → AreKeysOnce (with_key ps new) → AreKeysOnce (cond b (new ∷ ps) (p ∷ with_key ps new))
    by true is rest =
        let same : p.key ≡ new.key = grind (arith, nat_tests) in
        AllPairs-cons (λ q r. q.key ≢ r.key) new ps (λ k d within here. once_head p ps once k d within (same ∙ here)) (once_tail p ps once)
    by false is rest =
        AllPairs-cons (λ q r. q.key ≢ r.key) p (with_key ps new) (all_put (λ q. p.key ≢ q.key) ps new (once_head p ps once) (λ same. absurd (grind (arith, nat_tests, same)))) rest

pub keys_once : (s : ServerState) (change : Change) → HasEachKeyOnce s → HasEachKeyOnce (changed_state s change)
keys_once s (BringIn generation modules areas versions) once = subst AreKeysOnce (sym (ap (λ t. t.keys) (with_all_parts s modules.items))) once
keys_once s (HoldWord generation key term keys retired) once = once_put s.keys (record { key = key.0; term = plain term; area = None }) once
keys_once s (HoldArea generation key term stored areas keys retired) once = once_put s.keys (record { key = key.0; term = plain term; area = Some s.next_serial }) once
keys_once s (Forget generation key retired) once = AllPairs-filter (λ p q. p.key ≢ q.key) (λ p. not (nat_eq p.key key.0)) s.keys once
keys_once s change once = once

-- ---- terms

-- where none of these has the key, an erase leaves them
none_erased : (ps : List Persistent) (key : ℕ) → All (λ q. key ≢ q.key) ps → without_key key ps ≡ ps
none_erased [] key others = refl
none_erased (p ∷ ps) key others =
    let other : nat_eq p.key key ≡ false = unequal key p.key (All-head (λ q. key ≢ q.key) p ps others) in
    ap (λ b. cond (not b) (p ∷ without_key key ps) (without_key key ps)) other ∙ ap (λ rest. p ∷ rest) (none_erased ps key (All-tail (λ q. key ≢ q.key) p ps others))

-- an erase takes away the area of what the key held
areas_erased : (ps : List Persistent) (key : ℕ) → AreKeysOnce ps → live_areas (without_key key ps) + counted (area_among ps key) ≡ live_areas ps
areas_erased [] key once = refl
areas_erased (p ∷ ps) key once = by (nat_eq p.key key) refl (areas_erased ps key (once_tail p ps once))
  where
    by : (b : Bool) → nat_eq p.key key ≡ b → live_areas (without_key key ps) + counted (area_among ps key) ≡ live_areas ps
        → live_areas (cond (not b) (p ∷ without_key key ps) (without_key key ps)) + counted (option_and_then (λ q. q.area) (cond b (Some p) (persistent_among ps key))) ≡ counted p.area + live_areas ps
    by true is rest =
        let same : p.key ≡ key = grind (arith, nat_tests) in
        let all = ap live_areas (none_erased ps key (λ k d within here. once_head p ps once k d within (same ∙ here))) in
        omega (arith, all)
    by false is rest = omega (arith, rest)

counted_list : (o : Option ℕ) → counted o ≡ length (option_to_list o)
counted_list None = refl
counted_list (Some n) = refl

pub terms_counted : (s : ServerState) (change : Change) → HasEachKeyOnce s → live_areas (changed_state s change).keys + length (terms_dropped s change) ≡ live_areas s.keys + length (incoming_terms change)
terms_counted s (BringIn generation modules areas versions) once = ap (λ t. live_areas t.keys + 0) (with_all_parts s modules.items)
terms_counted s (HoldWord generation key term keys retired) once =
    let put = areas_put s.keys (record { key = key.0; term = plain term; area = None }) in
    omega (arith, put, counted_list (key_area s key.0))
terms_counted s (HoldArea generation key term stored areas keys retired) once =
    let put = areas_put s.keys (record { key = key.0; term = plain term; area = Some s.next_serial }) in
    omega (arith, put, counted_list (key_area s key.0))
terms_counted s (Forget generation key retired) once =
    let erased = areas_erased s.keys key.0 once in
    omega (arith, erased, counted_list (key_area s key.0))
terms_counted s change once = refl
