-- Slots with gaps: which serials stand in them, and what a push, a gap more and a move without gaps leave of that.
use Rattle.std.proofs.Common.{◌≡◌, ◌≢◌, ℕ, zero, suc, ◌+◌, ◌<◌, ◌≤◌, Bool, true, false, not, cond, nat_eq, nat_lt, ◌||◌, List, [], ◌∷◌, ◌++◌, length, map, take, Option, Some, None, IfSome, is_some, slice_get, slice_set, refl, sym, ap, ◌∙◌, inl, inr, ◌⊎◌, append-nil, arith}
use Rattle.std.proofs.lemmas.Bool.{false≢true}
use Rattle.std.proofs.lemmas.Bool.Decides.{nat_tests}
use Rattle.std.specs.Option.{option_to_list}
use Rattle.server_core.specs.CommandTable.{without_number}
use Rattle.server_core.specs.RetiredSlots.{IsNextFull, TellSlots, serials_in, standing}
use Rattle.server_core.specs.ServerState.{is_serial_in, serial_behind}

-- ---- what stands where

pub itself : (n : ℕ) → nat_eq n n ≡ true
itself n = grind (arith, nat_tests)

-- the other way round, as a number that is not another one
apart_numbers : (n k : ℕ) → n ≢ k → nat_eq n k ≡ false
apart_numbers n k other = by (nat_eq n k) refl
  where
    by : (b : Bool) → nat_eq n k ≡ b → b ≡ false
    by true e = absurd (other (grind (arith, nat_tests)))
    by false e = refl

-- what stands in a slot is among the serials
pub stands_among : (slots : List (Option ℕ)) (slot serial : ℕ) → slice_get slots slot ≡ Some (Some serial) → is_serial_in (serials_in slots) serial ≡ true
stands_among [] slot serial e = absurd (cc)
stands_among (None ∷ slots) zero serial e = absurd (cc)
stands_among (Some n ∷ slots) zero serial e =
    let same : n ≡ serial = cc in
    let is : nat_eq n serial ≡ true = grind (arith, nat_tests) in
    ap (λ b. b || is_serial_in (serials_in slots) serial) is
stands_among (None ∷ slots) (suc slot) serial e = stands_among slots slot serial e
stands_among (Some n ∷ slots) (suc slot) serial e = by (nat_eq n serial) (stands_among slots slot serial e)
  where
    by : (b : Bool) → is_serial_in (serials_in slots) serial ≡ true → (b || is_serial_in (serials_in slots) serial) ≡ true
    by true h = refl
    by false h = h

-- a serial that stands in no slot is none of them
pub absent : (slots : List (Option ℕ)) (serial : ℕ) → ((slot : ℕ) → slice_get slots slot ≢ Some (Some serial)) → is_serial_in (serials_in slots) serial ≡ false
absent [] serial nowhere = refl
absent (None ∷ slots) serial nowhere = absent slots serial (λ slot. nowhere (suc slot))
absent (Some n ∷ slots) serial nowhere =
    let other : nat_eq n serial ≡ false = apart_numbers n serial (λ same. nowhere zero (ap (λ k. Some (Some k)) same)) in
    ap (λ b. b || is_serial_in (serials_in slots) serial) other ∙ absent slots serial (λ slot. nowhere (suc slot))

-- whether a serial's slot was found is whether it is one of them
pub found_or_not : (slots : List (Option ℕ)) (serial : ℕ) (found : Option ℕ) → IfSome found (λ slot. slice_get slots slot ≡ Some (Some serial)) → (found ≡ None → is_serial_in (serials_in slots) serial ≡ false) → is_some found ≡ is_serial_in (serials_in slots) serial
found_or_not slots serial None some none = sym (none refl)
found_or_not slots serial (Some slot) some none = sym (stands_among slots slot serial some)

-- no two slots have one serial
pub one_slot : (slots : List (Option ℕ)) (places : List ℕ) (serial slot other : ℕ) → TellSlots slots places → slice_get slots slot ≡ Some (Some serial) → slice_get slots other ≡ Some (Some serial) → other ≡ slot
one_slot slots places serial slot other tell here there =
    let first = tell slot serial here in
    let second = tell other serial there in
    cc

-- ---- a push

-- what stands in front stays there
pub in_front : {X : Type 0} (xs ys : List X) (k : ℕ) (x : X) → slice_get xs k ≡ Some x → slice_get (xs ++ ys) k ≡ Some x
in_front [] ys k x e = absurd (cc)
in_front (z ∷ zs) ys zero x e = e
in_front (z ∷ zs) ys (suc k) x e = in_front zs ys k x e

-- after a push, a place has what it had, or it is the last and has what was pushed
pub pushed_at : {X : Type 0} (xs : List X) (y : X) (j : ℕ) (x : X) → slice_get (xs ++ y ∷ []) j ≡ Some x → (slice_get xs j ≡ Some x) ⊎ ((j ≡ length xs) × (x ≡ y))
pushed_at [] y zero x e = inr (refl, cc)
pushed_at [] y (suc j) x e = absurd (cc)
pushed_at (z ∷ zs) y zero x e = inl e
pushed_at (z ∷ zs) y (suc j) x e =
    elim (pushed_at zs y j x e) as (λ _. (slice_get (z ∷ zs) (suc j) ≡ Some x) ⊎ ((suc j ≡ length (z ∷ zs)) × (x ≡ y))) [
      | inl here ↦ inl here
      | inr last ↦ inr (ap suc last.0, last.1)
    ]

set_here : {X : Type 0} (xs : List X) (k : ℕ) (y : X) → k < length xs → slice_get (slice_set xs k y) k ≡ Some y
set_here [] k y within = absurd (omega (arith, within))
set_here (z ∷ zs) zero y within = refl
set_here (z ∷ zs) (suc k) y within = set_here zs k y (omega (arith, within))

set_there : {X : Type 0} (xs : List X) (k : ℕ) (y : X) (j : ℕ) → j ≢ k → slice_get (slice_set xs k y) j ≡ slice_get xs j
set_there [] k y j other = refl
set_there (z ∷ zs) zero y zero other = absurd (other refl)
set_there (z ∷ zs) zero y (suc j) other = refl
set_there (z ∷ zs) (suc k) y zero other = refl
set_there (z ∷ zs) (suc k) y (suc j) other = set_there zs k y j (λ e. other (ap suc e))

-- the new serial's place tells the new slot, and the others tell what they told
pub tell_pushed : (slots : List (Option ℕ)) (places : List ℕ) (serial len : ℕ) → TellSlots slots places → is_serial_in (serials_in slots) serial ≡ false → serial < length places → len ≡ length slots → TellSlots (slots ++ Some serial ∷ []) (slice_set places serial len)
tell_pushed slots places serial len tell fresh within last slot other there = by (pushed_at slots (Some serial) slot (Some other) there)
  where
    by : (slice_get slots slot ≡ Some (Some other)) ⊎ ((slot ≡ length slots) × (Some other ≡ Some serial)) → slice_get (slice_set places serial len) other ≡ Some slot
    by (inl before) =
        let differ : other ≢ serial = λ same. false≢true (sym fresh ∙ stands_among slots slot serial (before ∙ ap (λ k. Some (Some k)) same)) in
        set_there places serial len other differ ∙ tell slot other before
    by (inr now) =
        let same : other ≡ serial = cc in
        ap (slice_get (slice_set places serial len)) same ∙ set_here places serial len within ∙ ap Some (last ∙ sym now.0)

pub serials_pushed : (slots : List (Option ℕ)) (serial : ℕ) → serials_in (slots ++ Some serial ∷ []) ≡ serials_in slots ++ serial ∷ []
serials_pushed [] serial = refl
serials_pushed (None ∷ slots) serial = serials_pushed slots serial
serials_pushed (Some n ∷ slots) serial = ap (λ ns. n ∷ ns) (serials_pushed slots serial)

-- the first slot that is no gap stays
pub first_pushed : (slots : List (Option ℕ)) (serial first : ℕ) → IsNextFull slots 0 first → IsNextFull (slots ++ Some serial ∷ []) 0 first
first_pushed slots serial first is = record {
  behind = is.behind;
  gaps = λ slot from less. in_front slots (Some serial ∷ []) slot None (is.gaps slot from less);
  full = λ gap. by (pushed_at slots (Some serial) first None gap);
}
  where
    by : (slice_get slots first ≡ Some None) ⊎ ((first ≡ length slots) × (None ≡ Some serial)) → ⊥
    by (inl before) = is.full before
    by (inr now) = absurd (cc)

pub fewer_serials : (slots : List (Option ℕ)) → length (serials_in slots) ≤ length slots
fewer_serials [] = omega arith
fewer_serials (None ∷ slots) = omega (arith, fewer_serials slots)
fewer_serials (Some n ∷ slots) = omega (arith, fewer_serials slots)

-- ---- a gap more

-- after a write at a place, each other place has what it had
written_at : {X : Type 0} (xs : List X) (k : ℕ) (y : X) (j : ℕ) (x : X) → slice_get (slice_set xs k y) j ≡ Some x → ((j ≡ k) × (x ≡ y)) ⊎ (slice_get xs j ≡ Some x)
written_at [] k y j x e = absurd (cc)
written_at (z ∷ zs) zero y zero x e = inl (refl, cc)
written_at (z ∷ zs) zero y (suc j) x e = inr e
written_at (z ∷ zs) (suc k) y zero x e = inr e
written_at (z ∷ zs) (suc k) y (suc j) x e =
    elim (written_at zs k y j x e) as (λ _. ((suc j ≡ suc k) × (x ≡ y)) ⊎ (slice_get (z ∷ zs) (suc j) ≡ Some x)) [
      | inl here ↦ inl (ap suc here.0, here.1)
      | inr there ↦ inr there
    ]

-- the places tell of what is left what they told
pub tell_cleared : (slots : List (Option ℕ)) (places : List ℕ) (slot : ℕ) → TellSlots slots places → TellSlots (slice_set slots slot None) places
tell_cleared slots places slot tell k serial there = by (written_at slots slot None k (Some serial) there)
  where
    by : ((k ≡ slot) × (Some serial ≡ None)) ⊎ (slice_get slots k ≡ Some (Some serial)) → slice_get places serial ≡ Some k
    by (inl here) = absurd (cc)
    by (inr before) = tell k serial before

gap_stays : (slots : List (Option ℕ)) (slot k : ℕ) → slice_get slots k ≡ Some None → slice_get (slice_set slots slot None) k ≡ Some None
gap_stays [] slot k gap = absurd (cc)
gap_stays (x ∷ slots) zero zero gap = refl
gap_stays (x ∷ slots) zero (suc k) gap = gap
gap_stays (x ∷ slots) (suc slot) zero gap = gap
gap_stays (x ∷ slots) (suc slot) (suc k) gap = gap_stays slots slot k gap

-- from what was the first slot that is no gap, the next one is found
pub first_cleared : (slots : List (Option ℕ)) (slot first next : ℕ) → IsNextFull slots 0 first → IsNextFull (slice_set slots slot None) first next → IsNextFull (slice_set slots slot None) 0 next
first_cleared slots slot first next is on = record {
  behind = omega arith;
  gaps = λ k from less. by k (nat_lt k first) refl less;
  full = on.full;
}
  where
    by : (k : ℕ) (b : Bool) → nat_lt k first ≡ b → k < next → slice_get (slice_set slots slot None) k ≡ Some None
    by k true h less = gap_stays slots slot k (is.gaps k (omega arith) (grind (arith, nat_tests)))
    by k false h less = on.gaps k (grind (arith, nat_tests)) less

pub without_absent : (xs : List ℕ) (n : ℕ) → is_serial_in xs n ≡ false → without_number n xs ≡ xs
without_absent [] n none = refl
without_absent (x ∷ xs) n none = by (nat_eq x n) (without_absent xs n) none
  where
    by : (b : Bool) → (is_serial_in xs n ≡ false → without_number n xs ≡ xs) → (b || is_serial_in xs n) ≡ false → cond (not b) (x ∷ without_number n xs) (without_number n xs) ≡ x ∷ xs
    by true rest h = absurd (false≢true (sym h))
    by false rest h = ap (λ ys. x ∷ ys) (rest h)

-- a serial without which the others are left
pub cleared : (slots : List (Option ℕ)) (slot serial : ℕ) → slice_get slots slot ≡ Some (Some serial) → ((k : ℕ) → slice_get slots k ≡ Some (Some serial) → k ≡ slot) → serials_in (slice_set slots slot None) ≡ without_number serial (serials_in slots)
cleared [] slot serial there alone = absurd (cc)
cleared (None ∷ slots) zero serial there alone = absurd (cc)
cleared (Some n ∷ slots) zero serial there alone =
    let same : n ≡ serial = cc in
    let is : nat_eq n serial ≡ true = grind (arith, nat_tests) in
    let nowhere : is_serial_in (serials_in slots) serial ≡ false = absent slots serial (λ k e. let last = alone (suc k) e in absurd (omega (arith, last))) in
    sym (ap (λ b. cond (not b) (n ∷ without_number serial (serials_in slots)) (without_number serial (serials_in slots))) is ∙ without_absent (serials_in slots) serial nowhere)
cleared (None ∷ slots) (suc slot) serial there alone = cleared slots slot serial there (λ k e. let at = alone (suc k) e in omega (arith, at))
cleared (Some n ∷ slots) (suc slot) serial there alone =
    let differ : n ≢ serial = λ same. let at = alone zero (ap (λ k. Some (Some k)) same) in omega (arith, at) in
    let other : nat_eq n serial ≡ false = apart_numbers n serial differ in
    ap (λ ns. n ∷ ns) (cleared slots slot serial there (λ k e. let at = alone (suc k) e in omega (arith, at)))
    ∙ sym (ap (λ b. cond (not b) (n ∷ without_number serial (serials_in slots)) (without_number serial (serials_in slots))) other)

pub one_fewer : (slots : List (Option ℕ)) (slot serial : ℕ) → slice_get slots slot ≡ Some (Some serial) → length (serials_in (slice_set slots slot None)) + 1 ≡ length (serials_in slots)
one_fewer [] slot serial there = absurd (cc)
one_fewer (None ∷ slots) zero serial there = absurd (cc)
one_fewer (Some n ∷ slots) zero serial there = omega arith
one_fewer (None ∷ slots) (suc slot) serial there = one_fewer slots slot serial there
one_fewer (Some n ∷ slots) (suc slot) serial there = omega (arith, one_fewer slots slot serial there)

-- ---- the oldest, and the next

-- the end is not passed
pub first_within : (slots : List (Option ℕ)) (first : ℕ) → IsNextFull slots 0 first → first ≤ length slots
first_within [] zero is = omega arith
first_within [] (suc first) is = let gap = is.gaps zero (omega arith) (omega arith) in absurd (cc)
first_within (x ∷ slots) zero is = omega arith
first_within (x ∷ slots) (suc first) is = omega (arith, first_within slots first (from_next x slots first is))
  where
    from_next : (x : Option ℕ) (slots : List (Option ℕ)) (first : ℕ) → IsNextFull (x ∷ slots) 0 (suc first) → IsNextFull slots 0 first
    from_next x slots first is = record {
      behind = omega arith;
      gaps = λ slot above below. is.gaps (suc slot) (omega arith) (omega (arith, below));
      full = is.full;
    }

-- where the first slot that is no gap is known, so is the first serial
pub oldest_is : (slots : List (Option ℕ)) (first : ℕ) → IsNextFull slots 0 first → standing slots first ≡ slice_get (serials_in slots) 0
oldest_is [] first is = refl
oldest_is (None ∷ slots) zero is = absurd (is.full refl)
oldest_is (Some n ∷ slots) zero is = refl
oldest_is (None ∷ slots) (suc first) is = oldest_is slots first (record {
  behind = omega arith;
  gaps = λ slot above below. is.gaps (suc slot) (omega arith) (omega (arith, below));
  full = is.full;
})
oldest_is (Some n ∷ slots) (suc first) is = let gap = is.gaps zero (omega arith) (omega arith) in absurd (cc)

behind_on : (x : Option ℕ) (slots : List (Option ℕ)) (slot next : ℕ) → IsNextFull (x ∷ slots) (suc slot + 1) (suc next) → IsNextFull slots (slot + 1) next
behind_on x slots slot next is = record {
  behind = omega (arith, is.behind);
  gaps = λ k above below. is.gaps (suc k) (omega (arith, above)) (omega (arith, below));
  full = is.full;
}

behind_first : (x : Option ℕ) (slots : List (Option ℕ)) (next : ℕ) → IsNextFull (x ∷ slots) (zero + 1) (suc next) → IsNextFull slots 0 next
behind_first x slots next is = record {
  behind = omega arith;
  gaps = λ k above below. is.gaps (suc k) (omega arith) (omega (arith, below));
  full = is.full;
}

-- where the next slot behind a serial's that is no gap is known, so is the serial behind it
pub behind_is : (slots : List (Option ℕ)) (slot serial next : ℕ) → slice_get slots slot ≡ Some (Some serial) → ((k : ℕ) → slice_get slots k ≡ Some (Some serial) → k ≡ slot) → IsNextFull slots (slot + 1) next → standing slots next ≡ serial_behind (serials_in slots) serial
behind_is [] slot serial next there alone is = absurd (cc)
behind_is (x ∷ slots) slot serial zero there alone is = absurd (omega (arith, is.behind))
behind_is (None ∷ slots) zero serial (suc next) there alone is = absurd (cc)
behind_is (Some n ∷ slots) zero serial (suc next) there alone is =
    let same : n ≡ serial = cc in
    let here : nat_eq n serial ≡ true = grind (arith, nat_tests) in
    oldest_is slots next (behind_first (Some n) slots next is) ∙ sym (ap (λ b. cond b (slice_get (serials_in slots) 0) (serial_behind (serials_in slots) serial)) here)
behind_is (None ∷ slots) (suc slot) serial (suc next) there alone is = behind_is slots slot serial next there (λ k e. let at = alone (suc k) e in omega (arith, at)) (behind_on None slots slot next is)
behind_is (Some n ∷ slots) (suc slot) serial (suc next) there alone is =
    let differ : n ≢ serial = λ same. let at = alone zero (ap (λ k. Some (Some k)) same) in omega (arith, at) in
    let other : nat_eq n serial ≡ false = apart_numbers n serial differ in
    behind_is slots slot serial next there (λ k e. let at = alone (suc k) e in omega (arith, at)) (behind_on (Some n) slots slot next is)
    ∙ sym (ap (λ b. cond b (slice_get (serials_in slots) 0) (serial_behind (serials_in slots) serial)) other)

-- no serial, none behind it
pub none_behind : (xs : List ℕ) (serial : ℕ) → is_serial_in xs serial ≡ false → serial_behind xs serial ≡ None
none_behind [] serial none = refl
none_behind (x ∷ xs) serial none = by (nat_eq x serial) (none_behind xs serial) none
  where
    by : (b : Bool) → (is_serial_in xs serial ≡ false → serial_behind xs serial ≡ None) → (b || is_serial_in xs serial) ≡ false → cond b (slice_get xs 0) (serial_behind xs serial) ≡ None
    by true rest h = absurd (false≢true (sym h))
    by false rest h = rest h

-- ---- a move without gaps

pub serials_moved : (xs : List ℕ) → serials_in (map Some xs) ≡ xs
serials_moved [] = refl
serials_moved (x ∷ xs) = ap (λ ys. x ∷ ys) (serials_moved xs)

pub no_gap : (xs : List ℕ) (slot : ℕ) → slice_get (map Some xs) slot ≢ Some None
no_gap [] slot e = absurd (cc)
no_gap (x ∷ xs) zero e = absurd (cc)
no_gap (x ∷ xs) (suc slot) e = no_gap xs slot e

-- without gaps the first slot is the first that is none
pub first_moved : (xs : List ℕ) → IsNextFull (map Some xs) 0 0
first_moved xs = record { behind = omega arith; gaps = λ slot above below. absurd (omega (arith, below)); full = no_gap xs 0 }

-- one slot more is gone through
pub one_more : (slots : List (Option ℕ)) (k : ℕ) (x : Option ℕ) → slice_get slots k ≡ Some x → serials_in (take (k + 1) slots) ≡ serials_in (take k slots) ++ option_to_list x
one_more [] k x e = absurd (cc)
one_more (None ∷ slots) zero x e = let same : x ≡ None = cc in rw same refl
one_more (Some n ∷ slots) zero x e = let same : x ≡ Some n = cc in rw same refl
one_more (None ∷ slots) (suc k) x e = let next : suc k + 1 ≡ suc (k + 1) = omega arith in ap (λ i. serials_in (take i (None ∷ slots))) next ∙ one_more slots k x e
one_more (Some n ∷ slots) (suc k) x e = let next : suc k + 1 ≡ suc (k + 1) = omega arith in ap (λ i. serials_in (take i (Some n ∷ slots))) next ∙ ap (λ ns. n ∷ ns) (one_more slots k x e)

-- there are fewer in front of a slot that is no gap than there are in all
pub fewer_in_front : (slots : List (Option ℕ)) (k serial : ℕ) → slice_get slots k ≡ Some (Some serial) → length (serials_in (take k slots)) < length (serials_in slots)
fewer_in_front [] k serial e = absurd (cc)
fewer_in_front (None ∷ slots) zero serial e = absurd (cc)
fewer_in_front (Some n ∷ slots) zero serial e = omega arith
fewer_in_front (None ∷ slots) (suc k) serial e = fewer_in_front slots k serial e
fewer_in_front (Some n ∷ slots) (suc k) serial e = omega (arith, fewer_in_front slots k serial e)

-- a slot in front of a place stands in the whole
taken_at : {X : Type 0} (xs : List X) (k j : ℕ) (x : X) → slice_get (take k xs) j ≡ Some x → (slice_get xs j ≡ Some x) × (j < k)
taken_at xs zero j x e = absurd (cc)
taken_at [] (suc k) j x e = absurd (cc)
taken_at (z ∷ zs) (suc k) zero x e = (e, omega arith)
taken_at (z ∷ zs) (suc k) (suc j) x e = let on = taken_at zs k j x e in (on.0, omega (arith, on.1))

-- a serial is none of those in front of its slot
pub fresh_in_front : (slots : List (Option ℕ)) (places : List ℕ) (k serial : ℕ) → TellSlots slots places → slice_get slots k ≡ Some (Some serial) → is_serial_in (serials_in (take k slots)) serial ≡ false
fresh_in_front slots places k serial tell here = absent (take k slots) serial (λ j there. let at = taken_at slots k j (Some serial) there in absurd (omega (arith, at.1, one_slot slots places serial k j tell here at.0)))

some_pushed : (xs : List ℕ) (y : ℕ) → map Some (xs ++ y ∷ []) ≡ map Some xs ++ Some y ∷ []
some_pushed [] y = refl
some_pushed (x ∷ xs) y = ap (λ ys. Some x ∷ ys) (some_pushed xs y)

-- a serial more is moved
pub moved_on : (slots : List (Option ℕ)) (k serial : ℕ) (block : List (Option ℕ)) → slice_get slots k ≡ Some (Some serial) → block ≡ map Some (serials_in (take k slots)) → block ++ Some serial ∷ [] ≡ map Some (serials_in (take (k + 1) slots))
moved_on slots k serial block here is = ap (λ xs. xs ++ Some serial ∷ []) is ∙ sym (ap (map Some) (one_more slots k (Some serial) here) ∙ some_pushed (serials_in (take k slots)) serial)

-- a gap is left out
pub moved_past : (slots : List (Option ℕ)) (k : ℕ) (block : List (Option ℕ)) → slice_get slots k ≡ Some None → block ≡ map Some (serials_in (take k slots)) → block ≡ map Some (serials_in (take (k + 1) slots))
moved_past slots k block here is = is ∙ sym (ap (map Some) (one_more slots k None here ∙ append-nil (serials_in (take k slots))))
