-- A slot has no room for an area exactly where 16 other areas are held.
use Rattle.std.proofs.Common.{◌≡◌, ◌≢◌, ℕ, zero, suc, ◌+◌, ◌%◌, ◌<◌, ◌≤◌, ◌⊎◌, ◌↔◌, inl, inr, Bool, true, false, cond, not, List, [], ◌∷◌, ◌++◌, length, length-append, map, filter, Some, Result, Ok, Err, refl, sym, ap, ◌∙◌, arith}
use Rattle.std.specs.Prelude.{◌==◌, ◌&&◌, nat_le, slice_get, IsErr, IsTrue, OnErr, OnOk}
use Rattle.std.proofs.lemmas.Bool.{and_from, and_parts, cases_Bool, eq-eqb, eqb-true, false_from_ne_true, le-leb, leb-true, ne_eqb, not_from_false, or_cases, or_left, or_right, true≢false}
use Rattle.std.proofs.lemmas.List.{length-map}
use Rattle.std.proofs.lemmas.Bool.Decides.{nat_tests}
use Rattle.term_core.specs.declared.hold.Full.{Full}
use Rattle.term_core.specs.declared.hold.Kind.TheVariants.{Frame, Literal}
use Rattle.area_core.specs.Generations.{is_naming, serial_in}
use Rattle.anchors.specs.Holds.{AnchorsApart, AreOthers}
use Rattle.machine_core.specs.Holds.{is_among, is_full, other_areas, serials_of, without_serial}
use Rattle.machine_core.proofs.SerialLists.{among-filter, among-serials_of, among-without, increasing-filter, increasing-serials_of, increasing-without, length-among, length-more}
use Rattle.word_view.specs.Anchored.{holds_by, named_for}
use Rattle.word_view.proofs.Anchoring.{among_named, named_among, names_either}

-- ---- lists

fewer : (test : ℕ → Bool) (xs : List ℕ) → length (filter test xs) ≤ length xs
fewer test [] = omega (arith)
fewer test (x ∷ xs) = choose (test x) (fewer test xs)
  where
    choose : (b : Bool) → length (filter test xs) ≤ length xs → length (cond b (x ∷ filter test xs) (filter test xs)) ≤ suc (length xs)
    choose true h = omega (arith, h)
    choose false h = omega (arith, h)

-- all pass, or fewer than all
all_or_fewer : (test : ℕ → Bool) (xs : List ℕ) → ((place x : ℕ) → slice_get xs place ≡ Some x → test x ≡ true) ⊎ (length (filter test xs) < length xs)
all_or_fewer test [] = inl (λ place x at. absurd (cc))
all_or_fewer test (x ∷ xs) = choose (test x) refl (all_or_fewer test xs)
  where
    each : test x ≡ true → ((place y : ℕ) → slice_get xs place ≡ Some y → test y ≡ true) → (place y : ℕ) → slice_get (x ∷ xs) place ≡ Some y → test y ≡ true
    each passes rest zero y at = let same : x ≡ y = cc in sym (ap test same) ∙ passes
    each passes rest (suc place) y at = rest place y at

    less_all : (b : Bool) → b ≡ false → length (filter test xs) ≤ length xs → length (cond b (x ∷ filter test xs) (filter test xs)) < suc (length xs)
    less_all true e h = absurd (cc)
    less_all false e h = omega (arith, h)

    less_rest : (b : Bool) → length (filter test xs) < length xs → length (cond b (x ∷ filter test xs) (filter test xs)) < suc (length xs)
    less_rest true h = omega (arith, h)
    less_rest false h = omega (arith, h)

    choose : (b : Bool) → test x ≡ b → ((place y : ℕ) → slice_get xs place ≡ Some y → test y ≡ true) ⊎ (length (filter test xs) < length xs) → ((place y : ℕ) → slice_get (x ∷ xs) place ≡ Some y → test y ≡ true) ⊎ (length (filter test (x ∷ xs)) < suc (length xs))
    choose true e (inl all) = inl (each e all)
    choose true e (inr less) = inr (less_rest (test x) less)
    choose false e rest = inr (less_all (test x) e (fewer test xs))

-- what passes is among what does
among_filtered : (test : ℕ → Bool) (xs : List ℕ) (place x : ℕ) → slice_get xs place ≡ Some x → test x ≡ true → is_among (map serial_in (filter test xs)) (serial_in x) ≡ true
among_filtered test [] place x at passes = absurd (cc)
among_filtered test (y ∷ xs) zero x at passes =
    let same : y ≡ x = cc in
    ap (λ (b : Bool). is_among (map serial_in (cond b (y ∷ filter test xs) (filter test xs))) (serial_in x)) (ap test same ∙ passes)
    ∙ or_left (serial_in y == serial_in x) (is_among (map serial_in (filter test xs)) (serial_in x)) (eq-eqb (serial_in y) (serial_in x) (ap serial_in same))
among_filtered test (y ∷ xs) (suc place) x at passes = behind (test y) (among_filtered test xs place x at passes)
  where
    behind : (b : Bool) → is_among (map serial_in (filter test xs)) (serial_in x) ≡ true → is_among (map serial_in (cond b (y ∷ filter test xs) (filter test xs))) (serial_in x) ≡ true
    behind true e = or_right (serial_in y == serial_in x) (is_among (map serial_in (filter test xs)) (serial_in x)) e
    behind false e = e

among_first : (xs ys : List ℕ) (q : ℕ) → is_among xs q ≡ true → is_among (xs ++ ys) q ≡ true
among_first [] ys q e = absurd (cc)
among_first (x ∷ xs) ys q e =
    elim (or_cases (x == q) (is_among xs q) e) as (λ _. is_among ((x ∷ xs) ++ ys) q ≡ true) [
      | inl here ↦ or_left (x == q) (is_among (xs ++ ys) q) here
      | inr behind ↦ or_right (x == q) (is_among (xs ++ ys) q) (among_first xs ys q behind)
    ]

among_last : (xs ys : List ℕ) (q : ℕ) → is_among ys q ≡ true → is_among (xs ++ ys) q ≡ true
among_last [] ys q e = e
among_last (x ∷ xs) ys q e = or_right (x == q) (is_among (xs ++ ys) q) (among_last xs ys q e)

-- ---- who names what

module _ (serial : ℕ) where
  abbrev names_other : ℕ → Bool
  names_other word = is_naming word && not (serial_in word == serial)

  abbrev for_frames : ℕ → Bool
  for_frames word = (word % 2 == 1) && not (serial_in word == serial)

  abbrev for_literals : ℕ → Bool
  for_literals word = (word % 4 == 2) && not (serial_in word == serial)

  -- an anchor for frames is none for literals alone, and each names an area
  parts_of : (word : ℕ) (n : Bool) → (((word % 2 == 1) && n) ≡ true → ((is_naming word && n) ≡ true) × (((word % 4 == 2) && n) ≡ false)) × (((word % 4 == 2) && n) ≡ true → (is_naming word && n) ≡ true)
  parts_of word n = by_rest (word % 4) (word % 2) n (omega (arith)) (omega (arith))
    where
      odd : (two : ℕ) (n : Bool) (rest : ℕ) → two ≡ rest % 2 → rest % 2 ≡ 0 → ((two == 1) && n) ≡ true → ⊥
      odd two n rest is even e = let one = eqb-true two 1 (and_parts (two == 1) n e).0 in absurd (omega (arith, one, is, even))

      by_rest : (rest two : ℕ) (n : Bool) → rest < 4 → two ≡ rest % 2 → (((two == 1) && n) ≡ true → ((not (rest == 0) && n) ≡ true) × (((rest == 2) && n) ≡ false)) × (((rest == 2) && n) ≡ true → (not (rest == 0) && n) ≡ true)
      by_rest zero two n few is = (λ e. absurd (odd two n 0 is refl e), λ e. absurd (true≢false (sym e)))
      by_rest (suc zero) two n few is = (λ e. ((and_parts (two == 1) n e).1, refl), λ e. absurd (true≢false (sym e)))
      by_rest (suc (suc zero)) two n few is = (λ e. absurd (odd two n 2 is refl e), λ e. e)
      by_rest (suc (suc (suc zero))) two n few is = (λ e. ((and_parts (two == 1) n e).1, refl), λ e. absurd (true≢false (sym e)))
      by_rest (suc (suc (suc (suc rest)))) two n few is = absurd (omega (arith, few))

  parted : (anchors : List ℕ) → length (filter for_frames anchors) + length (filter for_literals anchors) ≤ length (filter names_other anchors)
  parted [] = omega (arith)
  parted (x ∷ xs) = let p = parts_of x (not (serial_in x == serial)) in step (for_frames x) (for_literals x) (names_other x) x (filter for_frames xs) (filter for_literals xs) (filter names_other xs) p.0 p.1 (parted xs)
    where
      step : (f l o : Bool) (x : ℕ) (fs ls os : List ℕ) → (f ≡ true → (o ≡ true) × (l ≡ false)) → (l ≡ true → o ≡ true) → length fs + length ls ≤ length os → length (cond f (x ∷ fs) fs) + length (cond l (x ∷ ls) ls) ≤ length (cond o (x ∷ os) os)
      step true true o x fs ls os h k e = absurd (true≢false (h refl).1)
      step true false true x fs ls os h k e = omega (arith, e)
      step true false false x fs ls os h k e = absurd (true≢false (sym (h refl).0))
      step false true true x fs ls os h k e = omega (arith, e)
      step false true false x fs ls os h k e = absurd (true≢false (sym (k refl)))
      step false false true x fs ls os h k e = omega (arith, e)
      step false false false x fs ls os h k e = e

  module _ (anchors : List ℕ) where
    abbrev frames : List ℕ
    frames = serials_of (named_for Frame anchors)

    abbrev literals : List ℕ
    literals = serials_of (named_for Literal anchors)

    abbrev alone : ℕ → Bool
    alone n = not (n == serial) && not (is_among frames n)

    -- areas of frames besides this one are named by anchors for frames
    frames_few : length (without_serial frames serial) ≤ length (filter for_frames anchors)
    frames_few =
        let le = length-among (without_serial frames serial) (map serial_in (filter for_frames anchors)) (increasing-without frames serial (increasing-serials_of (named_for Frame anchors))) each in
        let same = length-map (filter for_frames anchors) serial_in in
        omega (arith, le, same)
      where
        each : (q : ℕ) → is_among (without_serial frames serial) q ≡ true → is_among (map serial_in (filter for_frames anchors)) q ≡ true
        each q e =
            let parts = and_parts (not (q == serial)) (is_among frames q) (sym (among-without frames serial q) ∙ e) in
            let a = among_named Frame q anchors (sym (among-serials_of (named_for Frame anchors) q) ∙ parts.1) in
            let named = and_parts (a.word % 2 == 1) (serial_in a.word == q) a.passes in
            let is = eqb-true (serial_in a.word) q named.1 in
            ap (is_among (map serial_in (filter for_frames anchors))) (sym is)
            ∙ among_filtered for_frames anchors a.place a.word a.at (and_from (a.word % 2 == 1) (not (serial_in a.word == serial)) named.0 (ap (λ (n : ℕ). not (n == serial)) is ∙ parts.0))

    -- and areas of literals alone by anchors for literals alone
    literals_few : length (filter alone literals) ≤ length (filter for_literals anchors)
    literals_few =
        let le = length-among (filter alone literals) (map serial_in (filter for_literals anchors)) (increasing-filter alone literals (increasing-serials_of (named_for Literal anchors))) each in
        let same = length-map (filter for_literals anchors) serial_in in
        omega (arith, le, same)
      where
        only : (word : ℕ) → nat_le 2 (word % 4) ≡ true → ((word % 2 == 1) ≡ true → ⊥) → (word % 4 == 2) ≡ true
        only word high even =
            elim (cases_Bool (word % 4 == 2)) as (λ _. (word % 4 == 2) ≡ true) [
              | inl two ↦ two
              | inr none ↦
                  let low = leb-true 2 (word % 4) high in
                  let three : word % 4 ≡ 3 = other (word % 4) low (omega (arith)) none in
                  absurd (even (eq-eqb (word % 2) 1 (omega (arith, three))))
            ]
          where
            other : (rest : ℕ) → 2 ≤ rest → rest < 4 → (rest == 2) ≡ false → rest ≡ 3
            other rest low few none = grind (arith, nat_tests)

        each : (q : ℕ) → is_among (filter alone literals) q ≡ true → is_among (map serial_in (filter for_literals anchors)) q ≡ true
        each q e =
            let parts = and_parts (is_among literals q) (alone q) (sym (among-filter alone literals q) ∙ e) in
            let apart = and_parts (not (q == serial)) (not (is_among frames q)) parts.1 in
            let a = among_named Literal q anchors (sym (among-serials_of (named_for Literal anchors) q) ∙ parts.0) in
            let named = and_parts (nat_le 2 (a.word % 4)) (serial_in a.word == q) a.passes in
            let is = eqb-true (serial_in a.word) q named.1 in
            let even : (a.word % 2 == 1) ≡ true → ⊥ = λ odd. true≢false (sym apart.1 ∙ ap not (among-serials_of (named_for Frame anchors) q ∙ named_among Frame q anchors a.place a.word a.at (and_from (a.word % 2 == 1) (serial_in a.word == q) odd named.1))) in
            ap (is_among (map serial_in (filter for_literals anchors))) (sym is)
            ∙ among_filtered for_literals anchors a.place a.word a.at (and_from (a.word % 4 == 2) (not (serial_in a.word == serial)) (only a.word named.0 even) (ap (λ (n : ℕ). not (n == serial)) is ∙ apart.0))

    -- each of all names another area, where fewer would leave room
    others_named : ((place word : ℕ) → slice_get anchors place ≡ Some word → names_other word ≡ true) → AreOthers anchors serial
    others_named all place word at =
        let parts = and_parts (is_naming word) (not (serial_in word == serial)) (all place word at) in
        (parts.0, λ same. true≢false (sym parts.1 ∙ ap not (eq-eqb (serial_in word) serial same)))

    room_left : length anchors ≡ 16 → (AreOthers anchors serial → ⊥) → is_full (holds_by anchors) serial ≡ false
    room_left all none =
        elim (all_or_fewer names_other anchors) as (λ _. is_full (holds_by anchors) serial ≡ false) [
          | inl each ↦ absurd (none (others_named each))
          | inr less ↦ few (other_areas (holds_by anchors) serial) (let a = frames_few in let b = literals_few in let d = parted anchors in omega (arith, a, b, d, less, all))
        ]
      where
        few : (n : ℕ) → n < 16 → nat_le 16 n ≡ false
        few n less = grind (arith, nat_tests)

    -- where all name others, and no two are of one area, there are as many areas
    other_there : AreOthers anchors serial → (q : ℕ) → is_among (map serial_in anchors) q ≡ true → is_among (without_serial frames serial ++ filter alone literals) q ≡ true
    other_there others q e =
        let found = place_of anchors e in
        let this = others found.0 found.1 found.2 in
        let other : not (q == serial) ≡ true = not_from_false (q == serial) (ne_eqb q serial (λ same. this.1 (found.3 ∙ same))) in
        let named : (is_naming found.1 && (serial_in found.1 == q)) ≡ true = and_from (is_naming found.1) (serial_in found.1 == q) this.0 (eq-eqb (serial_in found.1) q found.3) in
        elim (cases_Bool (is_among frames q)) as (λ _. is_among (without_serial frames serial ++ filter alone literals) q ≡ true) [
          | inl frame ↦ among_first (without_serial frames serial) (filter alone literals) q (among-without frames serial q ∙ and_from (not (q == serial)) (is_among frames q) other frame)
          | inr none ↦
              elim (names_either found.1 q named) as (λ _. is_among (without_serial frames serial ++ filter alone literals) q ≡ true) [
                | inl frame ↦ absurd (true≢false (sym (among-serials_of (named_for Frame anchors) q ∙ named_among Frame q anchors found.0 found.1 found.2 frame) ∙ none))
                | inr literal ↦
                    among_last (without_serial frames serial) (filter alone literals) q
                    (among-filter alone literals q
                    ∙ and_from (is_among literals q) (alone q) (among-serials_of (named_for Literal anchors) q ∙ named_among Literal q anchors found.0 found.1 found.2 literal) (and_from (not (q == serial)) (not (is_among frames q)) other (not_from_false (is_among frames q) none)))
              ]
        ]
      where
        place_of : (xs : List ℕ) → is_among (map serial_in xs) q ≡ true → (place : ℕ) × (word : ℕ) × (slice_get xs place ≡ Some word) × (serial_in word ≡ q)
        place_of [] e = absurd (cc)
        place_of (x ∷ xs) e =
            elim (or_cases (serial_in x == q) (is_among (map serial_in xs) q) e) as (λ _. (place : ℕ) × (word : ℕ) × (slice_get (x ∷ xs) place ≡ Some word) × (serial_in word ≡ q)) [
              | inl here ↦ (0, x, refl, eqb-true (serial_in x) q here)
              | inr behind ↦ let r = place_of xs behind in (suc r.0, r.1, r.2, r.3)
            ]

-- serials of anchors that are apart are as many
all_apart : (anchors : List ℕ) → AnchorsApart anchors → ((place word : ℕ) → slice_get anchors place ≡ Some word → is_naming word ≡ true) → length (serials_of (map serial_in anchors)) ≡ length anchors
all_apart [] apart naming = refl
all_apart (x ∷ xs) apart naming =
    length-more (serials_of (map serial_in xs)) (serial_in x) (among-serials_of (map serial_in xs) (serial_in x) ∙ false_from_ne_true (is_among (map serial_in xs) (serial_in x)) (λ e. other xs 0 (λ place word at. (place, at)) e))
    ∙ more (length (serials_of (map serial_in xs))) (length xs) (all_apart xs (λ a b v w at there some_v some_w same. back a b (apart (suc a) (suc b) v w at there some_v some_w same)) (λ place word at. naming (suc place) word at))
  where
    more : (a b : ℕ) → a ≡ b → a + 1 ≡ suc b
    more a b e = omega (arith, e)

    back : (a b : ℕ) → suc a ≡ suc b → a ≡ b
    back a b e = omega (arith, e)

    some_word : (word : ℕ) → is_naming word ≡ true → word ≢ 0
    some_word word e none = true≢false (sym e ∙ ap is_naming none)

    no_suc : (n : ℕ) → 0 ≡ suc n → ⊥
    no_suc n e = absurd (omega (arith, e))

    other : (ys : List ℕ) (k : ℕ) → ((place word : ℕ) → slice_get ys place ≡ Some word → (n : ℕ) × (slice_get (x ∷ xs) (suc n) ≡ Some word)) → is_among (map serial_in ys) (serial_in x) ≡ true → ⊥
    other [] k there e = absurd (cc)
    other (y ∷ ys) k there e =
        elim (or_cases (serial_in y == serial_in x) (is_among (map serial_in ys) (serial_in x)) e) as (λ _. ⊥) [
          | inl here ↦
              let at = there 0 y refl in
              no_suc at.0 (apart 0 (suc at.0) x y refl at.1 (some_word x (naming 0 x refl)) (some_word y (naming (suc at.0) y at.1)) (sym (eqb-true (serial_in y) (serial_in x) here)))
          | inr behind ↦ other ys k (λ place word at. there (suc place) word at) behind
        ]

full_now : (anchors : List ℕ) (serial : ℕ) → length anchors ≡ 16 → AnchorsApart anchors → AreOthers anchors serial → is_full (holds_by anchors) serial ≡ true
full_now anchors serial all apart others =
    let frames = serials_of (named_for Frame anchors) in
    let rest = filter (λ n. not (n == serial) && not (is_among frames n)) (serials_of (named_for Literal anchors)) in
    let le = length-among (serials_of (map serial_in anchors)) (without_serial frames serial ++ rest) (increasing-serials_of (map serial_in anchors)) (λ q e. other_there serial anchors others q (sym (among-serials_of (map serial_in anchors) q) ∙ e)) in
    let count = all_apart anchors apart (λ place word at. (others place word at).0) in
    let sum = length-append (without_serial frames serial) rest in
    le-leb 16 (other_areas (holds_by anchors) serial) (omega (arith, le, count, sum, all))

-- the call of a slot refuses just then
pub full_iff : (r : Result (Unit {0}) Full) (anchors : List ℕ) (serial : ℕ) → length anchors ≡ 16 → AnchorsApart anchors → OnOk r (AreOthers anchors serial → ⊥) → OnErr r (AreOthers anchors serial) → IsErr r ↔ IsTrue (is_full (holds_by anchors) serial)
full_iff (Ok u) anchors serial all apart room full = (λ e. absurd (cc), λ e. absurd (true≢false (sym e ∙ room_left serial anchors all room)))
full_iff (Err f) anchors serial all apart room full = (λ e. full_now anchors serial all apart full, λ e. refl)
