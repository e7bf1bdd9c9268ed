-- That a lawful hold has room, and how many areas frames name.
use Rattle.std.proofs.Common.{◌≡◌, ◌<◌, ◌≤◌, ◌∙◌, ◌+◌, ℕ, zero, suc, refl, sym, ap, arith, Bool, true, false, not, ◌&&◌, ◌||◌, ◌==◌, cond, List, [], ◌∷◌, length, take, filter, get_or, subst}
use Rattle.std.proofs.lemmas.Bool.Decides.{nat_tests}
use Rattle.std.proofs.lemmas.List.{take_more}
use Rattle.std.specs.List.{list_any}
use Rattle.term_core.specs.declared.area.AreaRef.{AreaRef}
use Rattle.machine_core.specs.Holds.{Holds, IsIncreasing, area_count, is_among, other_areas, serials_of, with_serial, without_serial}
use Rattle.machine_core.specs.Process.{area_serials, names_of_areas}
use Rattle.machine_core.proofs.AreaLists.{among-areas, serials-pushed}
use Rattle.machine_core.proofs.SerialLists.{among-filter, among-serials_of, among-without, increasing-filter, increasing-serials_of, length-among, length-more, length-parts, without-none}

-- there is room for a frame's instance that is not held yet
pub room_of_frames : (held : Holds) (serial : ℕ) → other_areas held serial < 16 → is_among held.frames serial ≡ false → length held.frames < 16
room_of_frames held serial few fresh = let e = ap length (without-none held.frames serial fresh) in omega (arith, few)

not_it : (ns : List ℕ) (p : ℕ → Bool) (k : ℕ) → is_among ns k ≡ false → filter (λ n. not (n == k) && not (p n)) ns ≡ filter (λ n. not (p n)) ns
not_it [] p k h = refl
not_it (n ∷ ns) p k h =
    let r = not_it ns p k (behind n k ns h) in
    let e : (n == k) ≡ false = here n k ns h in
    ap (λ b. cond (not b && not (p n)) (n ∷ filter (λ n. not (n == k) && not (p n)) ns) (filter (λ n. not (n == k) && not (p n)) ns)) e
    ∙ ap (λ xs. cond (not (p n)) (n ∷ xs) xs) r
  where
    behind : (n k : ℕ) (ns : List ℕ) → is_among (n ∷ ns) k ≡ false → is_among ns k ≡ false
    behind n k ns h = grind (arith, nat_tests)

    here : (n k : ℕ) (ns : List ℕ) → is_among (n ∷ ns) k ≡ false → (n == k) ≡ false
    here n k ns h = grind (arith, nat_tests)

-- those among two lists are among the one without a serial that is not in the other
shared : (ls fs : List ℕ) (k q : ℕ) → is_among ls k ≡ false → is_among (filter (is_among fs) ls) q ≡ true → is_among (without_serial fs k) q ≡ true
shared ls fs k q fresh h = shared_or (q == k) refl (is_among ls q) (is_among fs q) refl refl (sym (among-filter (is_among fs) ls q) ∙ h)
  where
    shared_or : (b : Bool) → (q == k) ≡ b → (c d : Bool) → is_among ls q ≡ c → is_among fs q ≡ d → (c && d) ≡ true → is_among (without_serial fs k) q ≡ true
    shared_or true e true d l f a = let same : q ≡ k = grind (arith, nat_tests) in let o : is_among ls q ≡ false = subst (λ n. is_among ls n ≡ false) (sym same) fresh in absurd (cc)
    shared_or false e true true l f a = rw (among-without fs k q, e) f
    shared_or b e true false l f a = absurd (cc)
    shared_or b e false d l f a = absurd (cc)

-- there is room for an area of literals that is not held for them yet
pub room_of_literals : (held : Holds) (serial : ℕ) → IsIncreasing held.literals → other_areas held serial < 16 → is_among held.literals serial ≡ false → length held.literals < 16
room_of_literals held serial i few fresh =
    let p = is_among held.frames in
    let parts = length-parts p held.literals in
    let alone = ap length (not_it held.literals p serial fresh) in
    let both = length-among (filter p held.literals) (without_serial held.frames serial) (increasing-filter p held.literals i) (λ q. shared held.literals held.frames serial q fresh) in
    omega (arith, few)

-- where few areas are held, few are held for each kind
pub few_frames : (held : Holds) → area_count held ≤ 16 → length held.frames ≤ 16
few_frames held few = omega (arith, few)

pub few_literals : (held : Holds) → IsIncreasing held.literals → area_count held ≤ 16 → length held.literals ≤ 16
few_literals held i few =
    let p = is_among held.frames in
    let parts = length-parts p held.literals in
    let both = length-among (filter p held.literals) held.frames (increasing-filter p held.literals i) (λ q h. both_true (is_among held.literals q) (p q) (sym (among-filter p held.literals q) ∙ h)) in
    omega (arith, few)
  where
    both_true : (a b : Bool) → (a && b) ≡ true → b ≡ true
    both_true true b e = e
    both_true false b e = absurd (cc)

-- some areas have no more serials than all
fewer_areas : (areas : List AreaRef) (n : ℕ) → length (serials_of (area_serials (take n areas))) ≤ length (serials_of (area_serials areas))
fewer_areas areas n =
    length-among _ _ (increasing-serials_of (area_serials (take n areas))) (λ q h.
    among-serials_of (area_serials areas) q ∙ among-areas areas q
    ∙ any_first (λ a. a.serial == q) n areas (sym (among-serials_of (area_serials (take n areas)) q ∙ among-areas (take n areas) q) ∙ h))
  where
    any_or : (a b c : Bool) → (b ≡ true → c ≡ true) → (a || b) ≡ true → (a || c) ≡ true
    any_or true b c h e = refl
    any_or false b c h e = h e

    any_first : {X : Type 0} (p : X → Bool) (n : ℕ) (xs : List X) → list_any p (take n xs) ≡ true → list_any p xs ≡ true
    any_first p zero xs h = absurd (cc)
    any_first p (suc n) [] h = absurd (cc)
    any_first p (suc n) (x ∷ xs) h = any_or (p x) (list_any p (take n xs)) (list_any p xs) (any_first p n xs) h

-- the serials of areas up to the next one
pub next_serials : (areas : List AreaRef) (n : ℕ) (d : AreaRef) (so_far : List ℕ) → n < length areas → so_far ≡ serials_of (area_serials (take n areas)) →
    serials_of (area_serials (take (n + 1) areas)) ≡ with_serial so_far (get_or areas n d).serial
next_serials areas n d so_far below e =
    ap (λ xs. serials_of (area_serials xs)) (take_more areas n d below) ∙ serials-pushed (take n areas) (get_or areas n d) ∙ ap (λ ns. with_serial ns (get_or areas n d).serial) (sym e)

-- there is room for the next area's serial
pub room_of_next : (areas : List AreaRef) (n serial : ℕ) (so_far : List ℕ) → length (serials_of (area_serials areas)) ≤ 16 →
    serials_of (area_serials (take (n + 1) areas)) ≡ with_serial so_far serial → is_among so_far serial ≡ false → length so_far < 16
room_of_next areas n serial so_far few next fresh = omega (arith, few, fewer_areas areas (n + 1), ap length next, length-more so_far serial fresh)

-- so the areas of few names are few
pub few_frames_of : (frames literals : List AreaRef) (named : Holds) → names_of_areas frames literals ≡ named → area_count named ≤ 16 → length (serials_of (area_serials frames)) ≤ 16
few_frames_of frames literals named e few = let f = few_frames named few in omega (arith, ap (λ (x : Holds). length x.frames) e)

pub few_literals_of : (frames literals : List AreaRef) (named : Holds) → names_of_areas frames literals ≡ named → area_count named ≤ 16 → length (serials_of (area_serials literals)) ≤ 16
few_literals_of frames literals named e few =
    few_literals (names_of_areas frames literals) (increasing-serials_of (area_serials literals)) (subst (λ (h : Holds). area_count h ≤ 16) (sym e) few)
