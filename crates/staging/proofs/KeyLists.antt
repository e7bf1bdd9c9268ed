-- What a put and an erase leave of the keys, one by one.
use Rattle.std.proofs.Common.{◌≡◌, ◌≢◌, ◌⊎◌, inl, inr, ℕ, zero, suc, ◌+◌, Bool, true, false, cond, not, nat_eq, List, [], ◌∷◌, length, map, Option, Some, None, refl, sym, ap, ◌∙◌, arith}
use Rattle.std.specs.Prelude.{slice_get}
use Rattle.std.proofs.lemmas.Bool.Decides.{nat_tests}
use Rattle.prgr_core.proofs.Parts.{some_same}
use Rattle.term_core.specs.declared.generation.KeyTerm.{KeyTerm}
use Rattle.area_core.specs.Blocks.{Among}
use Rattle.server_core.specs.CommandTable.{with_key, without_key}
use Rattle.server_core.specs.Generations.{key_term}
use Rattle.server_core.specs.ServerState.{Persistent, persistent_among}
use Rattle.staging.specs.Standing.{AreKeysOnce}

pub same_key : (a b : ℕ) → nat_eq a b ≡ true → a ≡ b
same_key a b e = grind (arith, nat_tests)

pub other_key : (a b : ℕ) → nat_eq a b ≡ false → a ≢ b
other_key a b e = grind (arith, nat_tests)

-- ---- each key stands once

-- it is none of these
abbrev pub IsApart : List Persistent → ℕ → Type 0
IsApart ps key = (j : ℕ) (q : Persistent) → slice_get ps j ≡ Some q → key ≢ q.key

-- each is none of those behind it
abbrev pub StandOnce : List Persistent → Type 0
StandOnce [] = Unit {0}
StandOnce (p ∷ ps) = IsApart ps p.key × StandOnce ps

pub once_stand : (ps : List Persistent) → AreKeysOnce ps → StandOnce ps
once_stand [] once = tt
once_stand (p ∷ ps) once = (λ j q e same. absurd (let at = once 0 (suc j) p q refl e same in cc), once_stand ps (λ i j a b e f same. let at = once (suc i) (suc j) a b e f same in omega (arith, at)))

pub stand_once : (ps : List Persistent) → StandOnce ps → AreKeysOnce ps
stand_once [] stand i j a b e f same = absurd (cc)
stand_once (p ∷ ps) stand zero zero a b e f same = refl
stand_once (p ∷ ps) stand zero (suc j) a b e f same = absurd (stand.0 j b f (ap (λ (x : Persistent). x.key) (some_same p a e) ∙ same))
stand_once (p ∷ ps) stand (suc i) zero a b e f same = absurd (stand.0 i a e (ap (λ (x : Persistent). x.key) (some_same p b f) ∙ sym same))
stand_once (p ∷ ps) stand (suc i) (suc j) a b e f same = ap suc (stand_once ps stand.1 i j a b e f same)

-- ---- a put

-- what stands then is the new one, or stood before
put_from : (ps : List Persistent) (new : Persistent) (j : ℕ) (q : Persistent) → slice_get (with_key ps new) j ≡ Some q → (q ≡ new) ⊎ Among ps q
put_from [] new zero q e = inl (sym (some_same new q e))
put_from [] new (suc j) q e = absurd (cc)
put_from (p ∷ ps) new j q e = by (nat_eq p.key new.key) j (λ k at. put_from ps new k q at) e
  where
    more : (q ≡ new) ⊎ Among ps q → (q ≡ new) ⊎ Among (p ∷ ps) q
    more (inl same) = inl same
    more (inr there) = inr (suc there.0, there.1)

    by : (b : Bool) (j : ℕ) → ((k : ℕ) → slice_get (with_key ps new) k ≡ Some q → (q ≡ new) ⊎ Among ps q) → slice_get (cond b (new ∷ ps) (p ∷ with_key ps new)) j ≡ Some q → (q ≡ new) ⊎ Among (p ∷ ps) q
    by true zero rest e = inl (sym (some_same new q e))
    by true (suc j) rest e = inr (suc j, e)
    by false zero rest e = inr (zero, e)
    by false (suc j) rest e = more (rest j e)

put_apart : (ps : List Persistent) (new : Persistent) (key : ℕ) → key ≢ new.key → IsApart ps key → IsApart (with_key ps new) key
put_apart ps new key differ apart j q e same = by (put_from ps new j q e)
  where
    by : (q ≡ new) ⊎ Among ps q → ⊥
    by (inl is) = differ (same ∙ ap (λ (x : Persistent). x.key) is)
    by (inr there) = apart there.0 q there.1 same

pub put_stand : (ps : List Persistent) (new : Persistent) → StandOnce ps → StandOnce (with_key ps new)
put_stand [] new stand = (λ j q e same. absurd (cc), tt)
put_stand (p ∷ ps) new stand = by (nat_eq p.key new.key) refl (put_stand ps new stand.1)
  where
    by : (b : Bool) → nat_eq p.key new.key ≡ b → StandOnce (with_key ps new) → StandOnce (cond b (new ∷ ps) (p ∷ with_key ps new))
    by true is rest = (λ j q e same. stand.0 j q e (same_key p.key new.key is ∙ same), stand.1)
    by false is rest = (put_apart ps new p.key (other_key p.key new.key is) stand.0, rest)

-- ---- the keys in plain numbers

-- the new one stands there
pub put_here : (ps : List Persistent) (new : Persistent) → Among (map key_term (with_key ps new)) (key_term new)
put_here [] new = (zero, refl)
put_here (p ∷ ps) new = by (nat_eq p.key new.key) (put_here ps new)
  where
    by : (b : Bool) → Among (map key_term (with_key ps new)) (key_term new) → Among (map key_term (cond b (new ∷ ps) (p ∷ with_key ps new))) (key_term new)
    by true rest = (zero, refl)
    by false rest = (suc rest.0, rest.1)

-- what an entry in plain numbers says, a key says
pub key_at : (ps : List Persistent) (i : ℕ) (k : KeyTerm) → slice_get (map key_term ps) i ≡ Some k → (p : Persistent) × (slice_get ps i ≡ Some p) × (key_term p ≡ k)
key_at [] i k e = absurd (cc)
key_at (p ∷ ps) zero k e = (p, refl, some_same (key_term p) k e)
key_at (p ∷ ps) (suc i) k e = key_at ps i k e

-- nothing else stands under its key
pub put_only : (ps : List Persistent) (new : Persistent) (i : ℕ) (k : KeyTerm) → StandOnce ps → slice_get (map key_term (with_key ps new)) i ≡ Some k → k.key.0 ≡ new.key → k ≡ key_term new
put_only [] new zero k stand e same = sym (some_same (key_term new) k e)
put_only [] new (suc i) k stand e same = absurd (cc)
put_only (p ∷ ps) new i k stand e same = by (nat_eq p.key new.key) refl i (λ j at. put_only ps new j k stand.1 at same) e
  where
    again : (i : ℕ) → nat_eq p.key new.key ≡ true → slice_get (map key_term ps) i ≡ Some k → k ≡ key_term new
    again i is at = let found = key_at ps i k at in absurd (stand.0 i found.0 found.1 (same_key p.key new.key is ∙ sym same ∙ sym (ap (λ (x : KeyTerm). x.key.0) found.2)))

    by : (b : Bool) → nat_eq p.key new.key ≡ b → (i : ℕ) → ((j : ℕ) → slice_get (map key_term (with_key ps new)) j ≡ Some k → k ≡ key_term new) → slice_get (map key_term (cond b (new ∷ ps) (p ∷ with_key ps new))) i ≡ Some k → k ≡ key_term new
    by true is zero rest e = sym (some_same (key_term new) k e)
    by true is (suc i) rest e = again i is e
    by false is zero rest e = absurd (other_key p.key new.key is (ap (λ (x : KeyTerm). x.key.0) (some_same (key_term p) k e) ∙ same))
    by false is (suc i) rest e = rest i e

-- and the other keys are as before
pub put_kept : (ps : List Persistent) (new : Persistent) (i : ℕ) (k : KeyTerm) → k.key.0 ≢ new.key → slice_get (map key_term ps) i ≡ Some k → Among (map key_term (with_key ps new)) k
put_kept [] new i k differ e = absurd (cc)
put_kept (p ∷ ps) new i k differ e = by (nat_eq p.key new.key) refl i (λ j at. put_kept ps new j k differ at) e
  where
    by : (b : Bool) → nat_eq p.key new.key ≡ b → (i : ℕ) → ((j : ℕ) → slice_get (map key_term ps) j ≡ Some k → Among (map key_term (with_key ps new)) k) → slice_get (map key_term (p ∷ ps)) i ≡ Some k → Among (map key_term (cond b (new ∷ ps) (p ∷ with_key ps new))) k
    by true is zero rest e = absurd (differ (sym (ap (λ (x : KeyTerm). x.key.0) (some_same (key_term p) k e)) ∙ same_key p.key new.key is))
    by true is (suc i) rest e = (suc i, e)
    by false is zero rest e = (zero, e)
    by false is (suc i) rest e = let more = rest i e in (suc more.0, more.1)

pub put_was : (ps : List Persistent) (new : Persistent) (i : ℕ) (k : KeyTerm) → k.key.0 ≢ new.key → slice_get (map key_term (with_key ps new)) i ≡ Some k → Among (map key_term ps) k
put_was [] new zero k differ e = absurd (differ (sym (ap (λ (x : KeyTerm). x.key.0) (some_same (key_term new) k e))))
put_was [] new (suc i) k differ e = absurd (cc)
put_was (p ∷ ps) new i k differ e = by (nat_eq p.key new.key) i (λ j at. put_was ps new j k differ at) e
  where
    by : (b : Bool) (i : ℕ) → ((j : ℕ) → slice_get (map key_term (with_key ps new)) j ≡ Some k → Among (map key_term ps) k) → slice_get (map key_term (cond b (new ∷ ps) (p ∷ with_key ps new))) i ≡ Some k → Among (map key_term (p ∷ ps)) k
    by true zero rest e = absurd (differ (sym (ap (λ (x : KeyTerm). x.key.0) (some_same (key_term new) k e))))
    by true (suc i) rest e = (suc i, e)
    by false zero rest e = (zero, e)
    by false (suc i) rest e = let more = rest i e in (suc more.0, more.1)

-- ---- an erase

pub erase_was : (ps : List Persistent) (key : ℕ) (i : ℕ) (q : Persistent) → slice_get (without_key key ps) i ≡ Some q → Among ps q × (q.key ≢ key)
erase_was [] key i q e = absurd (cc)
erase_was (p ∷ ps) key i q e = by (nat_eq p.key key) refl i (λ j at. erase_was ps key j q at) e
  where
    by : (b : Bool) → nat_eq p.key key ≡ b → (i : ℕ) → ((j : ℕ) → slice_get (without_key key ps) j ≡ Some q → Among ps q × (q.key ≢ key)) → slice_get (cond (not b) (p ∷ without_key key ps) (without_key key ps)) i ≡ Some q → Among (p ∷ ps) q × (q.key ≢ key)
    by true is i rest e = let more = rest i e in ((suc more.0.0, more.0.1), more.1)
    by false is zero rest e = ((zero, e), λ same. other_key p.key key is (ap (λ (x : Persistent). x.key) (some_same p q e) ∙ same))
    by false is (suc i) rest e = let more = rest i e in ((suc more.0.0, more.0.1), more.1)

pub erase_stand : (ps : List Persistent) (key : ℕ) → StandOnce ps → StandOnce (without_key key ps)
erase_stand [] key stand = tt
erase_stand (p ∷ ps) key stand = by (nat_eq p.key key) (erase_stand ps key stand.1)
  where
    by : (b : Bool) → StandOnce (without_key key ps) → StandOnce (cond (not b) (p ∷ without_key key ps) (without_key key ps))
    by true rest = rest
    by false rest = (λ j q e same. let was = erase_was ps key j q e in stand.0 was.0.0 q was.0.1 same, rest)

-- the other keys are as before
pub erase_kept : (ps : List Persistent) (key : ℕ) (i : ℕ) (k : KeyTerm) → k.key.0 ≢ key → slice_get (map key_term ps) i ≡ Some k → Among (map key_term (without_key key ps)) k
erase_kept [] key i k differ e = absurd (cc)
erase_kept (p ∷ ps) key i k differ e = by (nat_eq p.key key) refl i (λ j at. erase_kept ps key j k differ at) e
  where
    by : (b : Bool) → nat_eq p.key key ≡ b → (i : ℕ) → ((j : ℕ) → slice_get (map key_term ps) j ≡ Some k → Among (map key_term (without_key key ps)) k) → slice_get (map key_term (p ∷ ps)) i ≡ Some k → Among (map key_term (cond (not b) (p ∷ without_key key ps) (without_key key ps))) k
    by true is zero rest e = absurd (differ (sym (ap (λ (x : KeyTerm). x.key.0) (some_same (key_term p) k e)) ∙ same_key p.key key is))
    by true is (suc i) rest e = rest i e
    by false is zero rest e = (zero, e)
    by false is (suc i) rest e = let more = rest i e in (suc more.0, more.1)

pub erased_was : (ps : List Persistent) (key : ℕ) (i : ℕ) (k : KeyTerm) → slice_get (map key_term (without_key key ps)) i ≡ Some k → Among (map key_term ps) k × (k.key.0 ≢ key)
erased_was [] key i k e = absurd (cc)
erased_was (p ∷ ps) key i k e = by (nat_eq p.key key) refl i (λ j at. erased_was ps key j k at) e
  where
    by : (b : Bool) → nat_eq p.key key ≡ b → (i : ℕ) → ((j : ℕ) → slice_get (map key_term (without_key key ps)) j ≡ Some k → Among (map key_term ps) k × (k.key.0 ≢ key)) → slice_get (map key_term (cond (not b) (p ∷ without_key key ps) (without_key key ps))) i ≡ Some k → Among (map key_term (p ∷ ps)) k × (k.key.0 ≢ key)
    by true is i rest e = let more = rest i e in ((suc more.0.0, more.0.1), more.1)
    by false is zero rest e = ((zero, e), λ same. other_key p.key key is (ap (λ (x : KeyTerm). x.key.0) (some_same (key_term p) k e) ∙ same))
    by false is (suc i) rest e = let more = rest i e in ((suc more.0.0, more.0.1), more.1)

-- ---- how many there are

-- 1 where the key holds a term
abbrev pub held_one : Option Persistent → ℕ
held_one None = 0
held_one (Some p) = 1

pub length_put : (ps : List Persistent) (new : Persistent) → length (with_key ps new) + held_one (persistent_among ps new.key) ≡ length ps + 1
length_put [] new = refl
length_put (p ∷ ps) new = by (nat_eq p.key new.key) (length_put ps new)
  where
    by : (b : Bool) → length (with_key ps new) + held_one (persistent_among ps new.key) ≡ length ps + 1 → length (cond b (new ∷ ps) (p ∷ with_key ps new)) + held_one (cond b (Some p) (persistent_among ps new.key)) ≡ length (p ∷ ps) + 1
    by true rest = refl
    by false rest = omega (arith, rest)

pub apart_none : (ps : List Persistent) (key : ℕ) → IsApart ps key → persistent_among ps key ≡ None
apart_none [] key apart = refl
apart_none (p ∷ ps) key apart = by (nat_eq p.key key) refl (apart_none ps key (λ j q e. apart (suc j) q e))
  where
    by : (b : Bool) → nat_eq p.key key ≡ b → persistent_among ps key ≡ None → cond b (Some p) (persistent_among ps key) ≡ None
    by true is rest = absurd (apart 0 p refl (sym (same_key p.key key is)))
    by false is rest = rest

pub length_erased : (ps : List Persistent) (key : ℕ) → StandOnce ps → length (without_key key ps) + held_one (persistent_among ps key) ≡ length ps
length_erased [] key stand = refl
length_erased (p ∷ ps) key stand = by (nat_eq p.key key) refl (length_erased ps key stand.1)
  where
    by : (b : Bool) → nat_eq p.key key ≡ b → length (without_key key ps) + held_one (persistent_among ps key) ≡ length ps → length (cond (not b) (p ∷ without_key key ps) (without_key key ps)) + held_one (cond b (Some p) (persistent_among ps key)) ≡ length (p ∷ ps)
    by true is rest =
        let none : persistent_among ps key ≡ None = apart_none ps key (λ j q e same. stand.0 j q e (same_key p.key key is ∙ same)) in
        let zero_is = ap held_one none in omega (arith, rest, zero_is)
    by false is rest = omega (arith, rest)

-- ---- what a key holds

-- a key that holds a term stands among them
pub held_among : (ps : List Persistent) (key : ℕ) (p : Persistent) → persistent_among ps key ≡ Some p → Among ps p × (p.key ≡ key)
held_among [] key p e = absurd (cc)
held_among (q ∷ ps) key p e = by (nat_eq q.key key) refl (λ at. held_among ps key p at) e
  where
    by : (b : Bool) → nat_eq q.key key ≡ b → (persistent_among ps key ≡ Some p → Among ps p × (p.key ≡ key)) → cond b (Some q) (persistent_among ps key) ≡ Some p → Among (q ∷ ps) p × (p.key ≡ key)
    by true is rest e = let same : q ≡ p = some_same q p e in ((zero, ap Some same), sym (ap (λ (x : Persistent). x.key) same) ∙ same_key q.key key is)
    by false is rest e = let more = rest e in ((suc more.0.0, more.0.1), more.1)

-- a key that holds none does not
pub none_among : (ps : List Persistent) (key : ℕ) → persistent_among ps key ≡ None → IsApart ps key
none_among [] key e j q at same = absurd (cc)
none_among (p ∷ ps) key e j q at same = by (nat_eq p.key key) refl e j (λ none i there. none_among ps key none i q there same) at
  where
    by : (b : Bool) → nat_eq p.key key ≡ b → cond b (Some p) (persistent_among ps key) ≡ None → (j : ℕ) → (persistent_among ps key ≡ None → (i : ℕ) → slice_get ps i ≡ Some q → ⊥) → slice_get (p ∷ ps) j ≡ Some q → ⊥
    by true is e j rest at = (cc)
    by false is e zero rest at = other_key p.key key is (ap (λ (x : Persistent). x.key) (some_same p q at) ∙ sym same)
    by false is e (suc j) rest at = rest e j at

-- an entry of the keys in plain numbers
pub term_at : (ps : List Persistent) (i : ℕ) (p : Persistent) → slice_get ps i ≡ Some p → slice_get (map key_term ps) i ≡ Some (key_term p)
term_at [] i p e = absurd (cc)
term_at (q ∷ ps) zero p e = ap (λ (x : Persistent). Some (key_term x)) (some_same q p e)
term_at (q ∷ ps) (suc i) p e = term_at ps i p e

-- a key that stands among them holds what stands there
pub stand_held : (ps : List Persistent) (i : ℕ) (p : Persistent) → StandOnce ps → slice_get ps i ≡ Some p → persistent_among ps p.key ≡ Some p
stand_held [] i p once e = absurd (cc)
stand_held (q ∷ ps) i p once e = by (nat_eq q.key p.key) refl i (λ j at. stand_held ps j p once.1 at) e
  where
    by : (b : Bool) → nat_eq q.key p.key ≡ b → (i : ℕ) → ((j : ℕ) → slice_get ps j ≡ Some p → persistent_among ps p.key ≡ Some p) → slice_get (q ∷ ps) i ≡ Some p → cond b (Some q) (persistent_among ps p.key) ≡ Some p
    by true is zero rest e = e
    by true is (suc j) rest e = absurd (once.0 j p e (same_key q.key p.key is))
    by false is zero rest e = absurd (other_key q.key p.key is (ap (λ (x : Persistent). x.key) (some_same q p e)))
    by false is (suc j) rest e = rest j e
