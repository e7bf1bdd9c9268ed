-- Increasing serials: what is among them, and that equal sets are equal lists.
use Rattle.std.proofs.Common.{if◌then◌else◌, ◌≡◌, ◌<◌, ◌≤◌, ◌+◌, ◌∙◌, ℕ, suc, refl, sym, ap, arith, Bool, true, false, not, ◌&&◌, ◌||◌, ◌==◌, nat_lt, List, [], ◌∷◌, length, filter, cond, subst}
use Rattle.std.specs.List.{prefix_len, insert, remove}
use Rattle.std.proofs.lemmas.Bool.Decides.{nat_tests}
use Rattle.machine_core.specs.Holds.{AllAbove, IsIncreasing, is_among, with_serial, without_serial, serials_of}

above_less : (k n : ℕ) (ns : List ℕ) → k < n → AllAbove n ns → AllAbove k ns
above_less k n [] h a = tt
above_less k n (m ∷ ms) h a = let b : n < m = a.0 in (omega arith, above_less k n ms h a.1)

-- what is among serials with one more
pub among-with : (ns : List ℕ) (k q : ℕ) → is_among (with_serial ns k) q ≡ (k == q || is_among ns q)
among-with [] k q = refl
among-with (n ∷ ns) k q = let e = among-with ns k q in grind (arith, nat_tests)

-- what is among serials without one
pub among-without : (ns : List ℕ) (k q : ℕ) → is_among (without_serial ns k) q ≡ (not (q == k) && is_among ns q)
among-without [] k q = grind (arith, nat_tests)
among-without (n ∷ ns) k q = let e = among-without ns k q in grind (arith, nat_tests)

above_with : (n k : ℕ) (ns : List ℕ) → n < k → AllAbove n ns → AllAbove n (with_serial ns k)
above_with n k [] h a = (h, tt)
above_with n k (m ∷ ms) h a = let b : n < m = a.0 in let c : AllAbove n ms = a.1 in let r : AllAbove n (with_serial ms k) = above_with n k ms h c in grind (arith, nat_tests)

-- serials with one more are increasing
pub increasing-with : (ns : List ℕ) (k : ℕ) → IsIncreasing ns → IsIncreasing (with_serial ns k)
increasing-with [] k i = (tt, tt)
increasing-with (n ∷ ns) k i = with_first n k ns (nat_lt k n) (k == n) refl refl i (increasing-with ns k i.1)
  where
    with_first : (n k : ℕ) (ns : List ℕ) (b c : Bool) → nat_lt k n ≡ b → (k == n) ≡ c → IsIncreasing (n ∷ ns) → IsIncreasing (with_serial ns k) →
        IsIncreasing (if b then k ∷ n ∷ ns else if c then n ∷ ns else n ∷ with_serial ns k)
    with_first n k ns true c less e i r = let h : k < n = grind (arith, nat_tests) in ((h, above_less k n ns h i.0), i)
    with_first n k ns false true less e i r = i
    with_first n k ns false false less e i r = let h : n < k = grind (arith, nat_tests) in (above_with n k ns h i.0, r)

above_without : (n k : ℕ) (ns : List ℕ) → AllAbove n ns → AllAbove n (without_serial ns k)
above_without n k [] a = tt
above_without n k (m ∷ ms) a = let b : n < m = a.0 in let r : AllAbove n (without_serial ms k) = above_without n k ms a.1 in grind (arith, nat_tests)

-- serials without one are increasing
pub increasing-without : (ns : List ℕ) (k : ℕ) → IsIncreasing ns → IsIncreasing (without_serial ns k)
increasing-without [] k i = tt
increasing-without (n ∷ ns) k i = without_first n k ns (n == k) i (increasing-without ns k i.1)
  where
    without_first : (n k : ℕ) (ns : List ℕ) (b : Bool) → IsIncreasing (n ∷ ns) → IsIncreasing (without_serial ns k) →
        IsIncreasing (if not b then n ∷ without_serial ns k else without_serial ns k)
    without_first n k ns true i r = r
    without_first n k ns false i r = (above_without n k ns i.0, r)

-- what is not above a serial is not among those above it
pub above_among : (n q : ℕ) (ns : List ℕ) → AllAbove n ns → q ≤ n → is_among ns q ≡ false
above_among n q [] a h = refl
above_among n q (m ∷ ms) a h = let b : n < m = a.0 in let e : is_among ms q ≡ false = above_among n q ms a.1 h in grind (arith, nat_tests)

-- a number is itself, or else
pub same_first : (n : ℕ) (b : Bool) → (n == n || b) ≡ true
same_first n b = grind (arith, nat_tests)

first_among : (n : ℕ) (ns : List ℕ) → is_among (n ∷ ns) n ≡ true
first_among n ns = same_first n (is_among ns n)

later_among : (m n : ℕ) (ns : List ℕ) → IsIncreasing (n ∷ ns) → m < n → is_among (n ∷ ns) m ≡ false
later_among m n ns i h = let e : is_among ns m ≡ false = above_among n m ns i.0 (omega arith) in grind (arith, nat_tests)

rest_among : (n q : ℕ) (ms ns : List ℕ) → AllAbove n ms → AllAbove n ns → is_among (n ∷ ms) q ≡ is_among (n ∷ ns) q → is_among ms q ≡ is_among ns q
rest_among n q ms ns a b e = elim (n == q) as (λ c. (n == q) ≡ c → is_among ms q ≡ is_among ns q) [
  | true ↦ λ same. let h : q ≤ n = grind (arith, nat_tests) in above_among n q ms a h ∙ sym (above_among n q ns b h)
  | false ↦ λ other. grind (arith, nat_tests)
] refl

first_same : (m n : ℕ) (ms ns : List ℕ) → IsIncreasing (m ∷ ms) → IsIncreasing (n ∷ ns) → ((q : ℕ) → is_among (m ∷ ms) q ≡ is_among (n ∷ ns) q) → m ≡ n
first_same m n ms ns i j same =
    let not_less : m < n → ⊥ = λ h. absurd_bool (sym (first_among m ms) ∙ same m ∙ later_among m n ns j h) in
    let not_more : n < m → ⊥ = λ h. absurd_bool (sym (first_among n ns) ∙ sym (same n) ∙ later_among n m ms i h) in
    grind arith
  where
    absurd_bool : true ≡ false → ⊥
    absurd_bool e = cc

-- increasing serials are the same where the same are among them
pub same_serials : (ms ns : List ℕ) → IsIncreasing ms → IsIncreasing ns → ((q : ℕ) → is_among ms q ≡ is_among ns q) → ms ≡ ns
same_serials [] [] i j same = refl
same_serials [] (n ∷ ns) i j same = let e = first_among n ns in let k = same n in absurd (cc)
same_serials (m ∷ ms) [] i j same = let e = first_among m ms in let k = same m in absurd (cc)
same_serials (m ∷ ms) (n ∷ ns) i j same =
    let e : m ≡ n = first_same m n ms ns i j same in
    let r : ms ≡ ns = same_serials ms ns i.1 j.1 (λ q. rest_among m q ms ns i.0 (rw e j.0) (same q ∙ ap (λ k. is_among (k ∷ ns) q) (sym e))) in
    cc

-- serials that were put in order are increasing
pub increasing-serials_of : (ns : List ℕ) → IsIncreasing (serials_of ns)
increasing-serials_of [] = tt
increasing-serials_of (n ∷ ns) = increasing-with (serials_of ns) n (increasing-serials_of ns)

-- and the same are among them
pub among-serials_of : (ns : List ℕ) (q : ℕ) → is_among (serials_of ns) q ≡ is_among ns q
among-serials_of [] q = refl
among-serials_of (n ∷ ns) q = among-with (serials_of ns) n q ∙ ap (λ b. n == q || b) (among-serials_of ns q)

-- serials of the same set are put in the same order
pub serials_of-same : (ms ns : List ℕ) → ((q : ℕ) → is_among ms q ≡ is_among ns q) → serials_of ms ≡ serials_of ns
serials_of-same ms ns same = same_serials (serials_of ms) (serials_of ns) (increasing-serials_of ms) (increasing-serials_of ns) (λ q. among-serials_of ms q ∙ same q ∙ sym (among-serials_of ns q))

-- how many serials stand before the place of one
abbrev pub place_among : List ℕ → ℕ → ℕ
place_among ns k = prefix_len (λ n. nat_lt n k) ns

-- a place behind the first serial
place_behind : (n k : ℕ) (ns : List ℕ) → nat_lt n k ≡ true → place_among (n ∷ ns) k ≡ suc (place_among ns k)
place_behind n k ns e = rw e (omega arith)

place_before : (n k : ℕ) (ns : List ℕ) → nat_lt n k ≡ false → place_among (n ∷ ns) k ≡ 0
place_before n k ns e = rw e refl

with_behind : (n k : ℕ) (ns : List ℕ) → nat_lt n k ≡ true → with_serial (n ∷ ns) k ≡ n ∷ with_serial ns k
with_behind n k ns e = grind (arith, nat_tests)

with_before : (n k : ℕ) (ns : List ℕ) → nat_lt n k ≡ false → is_among (n ∷ ns) k ≡ false → with_serial (n ∷ ns) k ≡ k ∷ n ∷ ns
with_before n k ns e h = grind (arith, nat_tests)

not_behind : (n k : ℕ) (ns : List ℕ) → is_among (n ∷ ns) k ≡ false → is_among ns k ≡ false
not_behind n k ns h = grind (arith, nat_tests)

with_first : (n k : ℕ) (ns : List ℕ) (b : Bool) → nat_lt n k ≡ b → is_among (n ∷ ns) k ≡ false → with_serial ns k ≡ insert ns (place_among ns k) k →
    with_serial (n ∷ ns) k ≡ insert (n ∷ ns) (place_among (n ∷ ns) k) k
with_first n k ns true e h r = rw (place_behind n k ns e) (with_behind n k ns e ∙ ap (λ xs. n ∷ xs) r)
with_first n k ns false e h r = rw (place_before n k ns e) (with_before n k ns e h)

-- one more serial goes in at its place
pub with-at : (ns : List ℕ) (k : ℕ) → is_among ns k ≡ false → with_serial ns k ≡ insert ns (place_among ns k) k
with-at [] k h = refl
with-at (n ∷ ns) k h = with_first n k ns (nat_lt n k) refl h (with-at ns k (not_behind n k ns h))

is_behind : (n k : ℕ) (ns : List ℕ) → nat_lt n k ≡ true → is_among (n ∷ ns) k ≡ true → is_among ns k ≡ true
is_behind n k ns e h = grind (arith, nat_tests)

is_first : (n k : ℕ) (ns : List ℕ) → IsIncreasing (n ∷ ns) → nat_lt n k ≡ false → is_among (n ∷ ns) k ≡ true → n ≡ k
is_first n k ns i e h = is_first_of (n == k) refl
  where
    is_first_of : (b : Bool) → (n == k) ≡ b → n ≡ k
    is_first_of true same = grind (arith, nat_tests)
    is_first_of false other = let l : is_among ns k ≡ false = above_among n k ns i.0 (grind (arith, nat_tests)) in absurd (grind (arith, nat_tests))

-- nothing is taken out where it is not there
pub without-none : (ns : List ℕ) (k : ℕ) → is_among ns k ≡ false → without_serial ns k ≡ ns
without-none [] k h = refl
without-none (n ∷ ns) k h = let r : without_serial ns k ≡ ns = without-none ns k (not_behind n k ns h) in grind (arith, nat_tests)

without_behind : (n k : ℕ) (ns : List ℕ) → nat_lt n k ≡ true → without_serial (n ∷ ns) k ≡ n ∷ without_serial ns k
without_behind n k ns e = grind (arith, nat_tests)

without_here : (n k : ℕ) (ns : List ℕ) → n ≡ k → without_serial (n ∷ ns) k ≡ without_serial ns k
without_here n k ns e = grind (arith, nat_tests)

without_first : (n k : ℕ) (ns : List ℕ) (b : Bool) → nat_lt n k ≡ b → IsIncreasing (n ∷ ns) → is_among (n ∷ ns) k ≡ true →
    (is_among ns k ≡ true → without_serial ns k ≡ remove ns (place_among ns k)) → without_serial (n ∷ ns) k ≡ remove (n ∷ ns) (place_among (n ∷ ns) k)
without_first n k ns true e i h r = rw (place_behind n k ns e) (without_behind n k ns e ∙ ap (λ xs. n ∷ xs) (r (is_behind n k ns e h)))
without_first n k ns false e i h r =
    let same : n ≡ k = is_first n k ns i e h in
    rw (place_before n k ns e) (without_here n k ns same ∙ without-none ns k (above_among n k ns i.0 (omega (arith, same))))

-- a serial that is there is taken out at its place
pub without-at : (ns : List ℕ) (k : ℕ) → IsIncreasing ns → is_among ns k ≡ true → without_serial ns k ≡ remove ns (place_among ns k)
without-at [] k i h = absurd (cc)
without-at (n ∷ ns) k i h = without_first n k ns (nat_lt n k) refl i h (without-at ns k i.1)

within_first : (n k : ℕ) (ns : List ℕ) (b : Bool) → nat_lt n k ≡ b → is_among (n ∷ ns) k ≡ true → (is_among ns k ≡ true → place_among ns k < length ns) → place_among (n ∷ ns) k < length (n ∷ ns)
within_first n k ns true e h r = rw (place_behind n k ns e) (let l = r (is_behind n k ns e h) in omega arith)
within_first n k ns false e h r = rw (place_before n k ns e) (omega arith)

-- and that is a place of the list
pub place-within : (ns : List ℕ) (k : ℕ) → is_among ns k ≡ true → place_among ns k < length ns
place-within [] k h = absurd (cc)
place-within (n ∷ ns) k h = within_first n k ns (nat_lt n k) refl h (place-within ns k)

-- the place of any serial is one of the list or its end
pub place-up_to : (ns : List ℕ) (k : ℕ) → place_among ns k ≤ length ns
place-up_to [] k = omega arith
place-up_to (n ∷ ns) k = up_to_first (nat_lt n k) refl (place-up_to ns k)
  where
    up_to_first : (b : Bool) → nat_lt n k ≡ b → place_among ns k ≤ length ns → place_among (n ∷ ns) k ≤ length (n ∷ ns)
    up_to_first true e r = rw (place_behind n k ns e) (omega arith)
    up_to_first false e r = rw (place_before n k ns e) (omega arith)

-- one more serial at most
pub length-with : (ns : List ℕ) (k : ℕ) → length (with_serial ns k) ≤ length ns + 1
length-with [] k = omega arith
length-with (n ∷ ns) k = let r = length-with ns k in grind (arith, nat_tests)

-- no serial more
pub length-without : (ns : List ℕ) (k : ℕ) → length (without_serial ns k) ≤ length ns
length-without [] k = omega arith
length-without (n ∷ ns) k = let r = length-without ns k in grind (arith, nat_tests)

-- one serial fewer, where it was there
pub length-taken : (ns : List ℕ) (k : ℕ) → is_among ns k ≡ true → length (without_serial ns k) + 1 ≤ length ns
length-taken [] k h = absurd (cc)
length-taken (n ∷ ns) k h = taken_first (n == k) refl (length-taken ns k)
  where
    taken_first : (b : Bool) → (n == k) ≡ b → (is_among ns k ≡ true → length (without_serial ns k) + 1 ≤ length ns) → length (without_serial (n ∷ ns) k) + 1 ≤ length (n ∷ ns)
    taken_first true e r = let l = length-without ns k in grind (arith, nat_tests)
    taken_first false e r = let l = r (grind (arith, nat_tests)) in grind (arith, nat_tests)

-- increasing serials that are all among others are no more than these
pub length-among : (ms ns : List ℕ) → IsIncreasing ms → ((q : ℕ) → is_among ms q ≡ true → is_among ns q ≡ true) → length ms ≤ length ns
length-among [] ns i all = omega arith
length-among (m ∷ ms) ns i all =
    let there : is_among ns m ≡ true = all m (first_among m ms) in
    let t = length-taken ns m there in
    let r = length-among ms (without_serial ns m) i.1 (still_there m ms ns i.0 all) in
    omega arith
  where
    still_there : (m : ℕ) (ms ns : List ℕ) → AllAbove m ms → ((q : ℕ) → is_among (m ∷ ms) q ≡ true → is_among ns q ≡ true) → (q : ℕ) → is_among ms q ≡ true → is_among (without_serial ns m) q ≡ true
    still_there m ms ns a all q h = there_of (m == q) refl
      where
        there_of : (b : Bool) → (m == q) ≡ b → is_among (without_serial ns m) q ≡ true
        there_of true e = let f : is_among ms q ≡ false = above_among m q ms a (grind (arith, nat_tests)) in absurd (cc)
        there_of false e =
            let f : is_among ns q ≡ true = all q (grind (arith, nat_tests)) in
            among-without ns m q ∙ (grind (arith, nat_tests))

-- a serial that is there changes nothing
pub with-there : (ns : List ℕ) (k : ℕ) → IsIncreasing ns → is_among ns k ≡ true → with_serial ns k ≡ ns
with-there ns k i h = same_serials (with_serial ns k) ns (increasing-with ns k i) i (λ q. among-with ns k q ∙ there_or q (k == q) refl)
  where
    there_or : (q : ℕ) (b : Bool) → (k == q) ≡ b → (b || is_among ns q) ≡ is_among ns q
    there_or q true e = let same : k ≡ q = grind (arith, nat_tests) in sym (subst (λ n. is_among ns n ≡ true) same h)
    there_or q false e = refl

-- one serial more, where it was not there
pub length-more : (ns : List ℕ) (k : ℕ) → is_among ns k ≡ false → length (with_serial ns k) ≡ length ns + 1
length-more [] k h = refl
length-more (n ∷ ns) k h = let r = length-more ns k (not_behind n k ns h) in grind (arith, nat_tests)

-- serials are those that pass a test and the others
pub length-parts : (p : ℕ → Bool) (ns : List ℕ) → length ns ≡ length (filter (λ n. not (p n)) ns) + length (filter p ns)
length-parts p [] = refl
length-parts p (n ∷ ns) =
    let r = length-parts p ns in
    elim (p n) as (λ b. length (n ∷ ns) ≡ length (cond (not b) (n ∷ filter (λ n. not (p n)) ns) (filter (λ n. not (p n)) ns)) + length (cond b (n ∷ filter p ns) (filter p ns)))
    [ true ↦ omega (arith, r) | false ↦ omega (arith, r) ]

above_filter : (p : ℕ → Bool) (n : ℕ) (ns : List ℕ) → AllAbove n ns → AllAbove n (filter p ns)
above_filter p n [] a = tt
above_filter p n (m ∷ ms) a = elim (p m) as (λ b. AllAbove n (cond b (m ∷ filter p ms) (filter p ms))) [ true ↦ (a.0, above_filter p n ms a.1) | false ↦ above_filter p n ms a.1 ]

-- some of increasing serials are increasing
pub increasing-filter : (p : ℕ → Bool) (ns : List ℕ) → IsIncreasing ns → IsIncreasing (filter p ns)
increasing-filter p [] i = tt
increasing-filter p (n ∷ ns) i = elim (p n) as (λ b. IsIncreasing (cond b (n ∷ filter p ns) (filter p ns))) [ true ↦ (above_filter p n ns i.0, increasing-filter p ns i.1) | false ↦ increasing-filter p ns i.1 ]

-- what is among those that pass a test is among all, and passes
pub among-filter : (p : ℕ → Bool) (ns : List ℕ) (q : ℕ) → is_among (filter p ns) q ≡ (is_among ns q && p q)
among-filter p [] q = refl
among-filter p (n ∷ ns) q = among_first (p n) refl (n == q) refl (among-filter p ns q)
  where
    among_first : (b : Bool) → p n ≡ b → (c : Bool) → (n == q) ≡ c → is_among (filter p ns) q ≡ (is_among ns q && p q) →
        is_among (cond b (n ∷ filter p ns) (filter p ns)) q ≡ ((c || is_among ns q) && p q)
    among_first true e true f r = let same : n ≡ q = grind (arith, nat_tests) in rw f (sym (subst (λ m. p m ≡ true) same e))
    among_first true e false f r = rw f r
    among_first false e true f r = let same : n ≡ q = grind (arith, nat_tests) in let o : p q ≡ false = subst (λ m. p m ≡ false) same e in rw o (r ∙ (rw o (and_false (is_among ns q))))
      where
        and_false : (b : Bool) → (b && false) ≡ false
        and_false true = refl
        and_false false = refl
    among_first false e false f r = r
