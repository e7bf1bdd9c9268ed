-- What a generation that is served says of its areas.
use Rattle.std.proofs.Common.{◌≡◌, ℕ, zero, suc, ◌<◌, ◌≤◌, ◌^◌, ◌⊎◌, inl, inr, Bool, true, false, List, [], ◌∷◌, ◌++◌, map, IsTrue, Option, Some, None, refl, sym, ap, subst, ◌∙◌, arith}
use Rattle.std.specs.Prelude.{◌==◌, ◌&&◌, slice_get, unwrap_or, option_map, if◌then◌else◌, IsSomeAnd}
use Rattle.std.specs.List.{list_any}
use Rattle.std.specs.Option.{option_to_list}
use Rattle.std.proofs.lemmas.Bool.{and_from, and_parts, cases_lt, eq-eqb, eqb-true, false_from_ne_true, or_cases, or_left, or_right, true≢false}
use Rattle.std.proofs.lemmas.Bool.Decides.{nat_tests}
use Rattle.term_core.specs.declared.atom.Mfa.{Mfa}
use Rattle.term_core.specs.declared.generation.AreaWords.{AreaWords}
use Rattle.term_core.specs.declared.generation.FunctionRef.{FunctionRef}
use Rattle.term_core.specs.declared.generation.Generation.{Generation}
use Rattle.mod_core.specs.declared.code.Module.{Module}
use Rattle.mod_core.specs.Module.{IsModule}
use Rattle.area_core.specs.Step.{empty_generation}
use Rattle.area_core.specs.Generations.{has_image, has_serial, same_words}
use Rattle.area_core.specs.Roots.{serial_image}
use Rattle.server_core.specs.Generations.{function_ref, generation_of, is_current_code, is_old_code, is_serial, kept_area, kept_areas, kept_words, serials_below}
use Rattle.server_core.specs.ServerState.{Entry, IsInstanceOf, IsOldCode, IsSound, ServerState, code_of, current_of, is_retired, is_same_entry, is_serial_in, old_of}
use Rattle.change_laws.specs.Breakpoints.{IsLiveCode, KnowsItsCode}
use Rattle.change_laws.specs.Uses.{IsCurrentCode}
use Rattle.machine_core.specs.GenerationReads.{function_count, image_among, reads_in, words_in}
use Rattle.machine_core.proofs.GenerationAreas.{IsKept, instance_words, kept_instance, some_of}
use Rattle.code_law.specs.Laws.{ForgetsNoCode, traces}
use Rattle.code_law.specs.Served.{IsOfServer}
use Rattle.code_law.proofs.States.{state_of}

-- ---- images of areas

-- the first image of a serial is found alike
pub image_same : (areas : List AreaWords) (serial : ℕ) → serial_image areas serial ≡ image_among areas serial
image_same [] serial = refl
image_same (a ∷ areas) serial = ap (λ (o : Option (List ℕ)). if a.serial == serial then Some a.words else o) (image_same areas serial)

equal_words : (xs ys : List ℕ) → same_words xs ys ≡ true → xs ≡ ys
equal_words [] [] e = refl
equal_words [] (y ∷ ys) e = absurd (cc)
equal_words (x ∷ xs) [] e = absurd (cc)
equal_words (x ∷ xs) (y ∷ ys) e = let parts = and_parts (x == y) (same_words xs ys) e in (λ i. eqb-true x y parts.0 i ∷ equal_words xs ys parts.1 i)

-- among more areas the first ones come first
image_more : (xs ys : List AreaWords) (q : ℕ) (words : List ℕ) → serial_image xs q ≡ Some words → serial_image (xs ++ ys) q ≡ Some words
image_more [] ys q words e = absurd (cc)
image_more (a ∷ xs) ys q words e = choose (a.serial == q) e (image_more xs ys q words)
  where
    choose : (b : Bool) → (if b then Some a.words else serial_image xs q) ≡ Some words → (serial_image xs q ≡ Some words → serial_image (xs ++ ys) q ≡ Some words) → (if b then Some a.words else serial_image (xs ++ ys) q) ≡ Some words
    choose true e more = e
    choose false e more = more e

image_behind : (xs ys : List AreaWords) (q : ℕ) → serial_image xs q ≡ None → serial_image (xs ++ ys) q ≡ serial_image ys q
image_behind [] ys q e = refl
image_behind (a ∷ xs) ys q e = choose (a.serial == q) e (image_behind xs ys q)
  where
    choose : (b : Bool) → (if b then Some a.words else serial_image xs q) ≡ None → (serial_image xs q ≡ None → serial_image (xs ++ ys) q ≡ serial_image ys q) → (if b then Some a.words else serial_image (xs ++ ys) q) ≡ serial_image ys q
    choose true e more = absurd (cc)
    choose false e more = more e

any_append : {X : Type 0} (test : X → Bool) (xs ys : List X) → list_any test (xs ++ ys) ≡ true → (list_any test xs ≡ true) ⊎ (list_any test ys ≡ true)
any_append test [] ys e = inr e
any_append test (x ∷ xs) ys e =
    elim (or_cases (test x) (list_any test (xs ++ ys)) e) as (λ _. (list_any test (x ∷ xs) ≡ true) ⊎ (list_any test ys ≡ true)) [
      | inl here ↦ inl (or_left (test x) (list_any test xs) here)
      | inr behind ↦
          elim (any_append test xs ys behind) as (λ _. (list_any test (x ∷ xs) ≡ true) ⊎ (list_any test ys ≡ true)) [
            | inl first ↦ inl (or_right (test x) (list_any test xs) first)
            | inr last ↦ inr last
          ]
    ]

module _ (s : ServerState) where
  -- one area, if it is kept
  one_image : (n q : ℕ) (o : Option (List ℕ)) (words : List ℕ) → has_image (option_to_list (option_map (λ w. record { serial = n; words = w }) o)) q words ≡ true → (n ≡ q) × (serial_image (option_to_list (option_map (λ w. record { serial = n; words = w }) o)) q ≡ Some words)
  one_image n q None words e = absurd (cc)
  one_image n q (Some w) words e =
      elim (or_cases ((n == q) && same_words w words) false e) as (λ _. (n ≡ q) × ((if n == q then Some w else None) ≡ Some words)) [
        | inl here ↦
            let parts = and_parts (n == q) (same_words w words) here in
            (eqb-true n q parts.0, ap (λ (b : Bool). if b then Some w else None) parts.0 ∙ ap (λ (x : List ℕ). Some x) (equal_words w words parts.1))
        | inr none ↦ absurd (true≢false (sym none))
      ]

  apart_none : (n q : ℕ) (o : Option (List ℕ)) → n < q → serial_image (option_to_list (option_map (λ w. record { serial = n; words = w }) o)) q ≡ None
  apart_none n q None less = refl
  apart_none n q (Some w) less = choose n q (Some w) less
    where
      choose : (n q : ℕ) (o : Option (List ℕ)) → n < q → (if n == q then o else None) ≡ None
      choose n q o less = grind (arith, nat_tests)

  -- no area has a serial from this one on
  none_above : (n q : ℕ) → n ≤ q → serial_image (kept_areas s n) q ≡ None
  none_above zero q le = refl
  none_above (suc n) q le =
      image_behind (kept_areas s n) (option_to_list (kept_area s n)) q (none_above n q (omega arith)) ∙ apart_none n q (kept_words s n) (omega arith)

  -- and each has one image
  one_each : (n q : ℕ) (words : List ℕ) → has_image (kept_areas s n) q words ≡ true → serial_image (kept_areas s n) q ≡ Some words
  one_each zero q words e = absurd (cc)
  one_each (suc n) q words e =
      elim (any_append (λ (a : AreaWords). (a.serial == q) && same_words a.words words) (kept_areas s n) (option_to_list (kept_area s n)) e) as (λ _. serial_image (kept_areas s (suc n)) q ≡ Some words) [
        | inl first ↦ image_more (kept_areas s n) (option_to_list (kept_area s n)) q words (one_each n q words first)
        | inr last ↦
            let one = one_image n q (kept_words s n) words last in
            let same : n ≡ q = one.0 in
            image_behind (kept_areas s n) (option_to_list (kept_area s n)) q (none_above n q (omega (arith, same))) ∙ one.1
      ]

  known_serial : (n q : ℕ) (words : List ℕ) → serial_image (kept_areas s n) q ≡ Some words → q < n
  known_serial n q words e =
      elim (cases_lt q n) as (λ _. q < n) [
        | inl less ↦ less
        | inr past ↦ absurd (let none = none_above n q (omega (arith, past)) in cc)
      ]

-- ---- serials

-- a serial below the bound that passes is among those that do
among_below : (test : ℕ → Bool) (n q : ℕ) → q < n → test q ≡ true → has_serial (serials_below test n) q ≡ true
among_below test zero q less passes = absurd (omega (arith, less))
among_below test (suc n) q less passes =
    elim (cases_lt q n) as (λ _. has_serial (serials_below test (suc n)) q ≡ true) [
      | inl before ↦ any_first (λ (x : ℕ). x == q) (serials_below test n) (if test n then n ∷ [] else []) (among_below test n q before passes)
      | inr past ↦
          let same : n ≡ q = omega (arith, less, past) in
          any_last (λ (x : ℕ). x == q) (serials_below test n) (if test n then n ∷ [] else [])
          (ap (λ (b : Bool). list_any (λ (x : ℕ). x == q) (if b then n ∷ [] else [])) (ap test same ∙ passes) ∙ or_left (n == q) false (eq-eqb n q same))
    ]
  where
    any_first : (p : ℕ → Bool) (xs ys : List ℕ) → list_any p xs ≡ true → list_any p (xs ++ ys) ≡ true
    any_first p [] ys e = absurd (cc)
    any_first p (x ∷ xs) ys e =
        elim (or_cases (p x) (list_any p xs) e) as (λ _. list_any p ((x ∷ xs) ++ ys) ≡ true) [
          | inl here ↦ or_left (p x) (list_any p (xs ++ ys)) here
          | inr behind ↦ or_right (p x) (list_any p (xs ++ ys)) (any_first p xs ys behind)
        ]

    any_last : (p : ℕ → Bool) (xs ys : List ℕ) → list_any p ys ≡ true → list_any p (xs ++ ys) ≡ true
    any_last p [] ys e = e
    any_last p (x ∷ xs) ys e = or_right (p x) (list_any p (xs ++ ys)) (any_last p xs ys e)

module _ (s : ServerState) (sound : IsSound s) where
  its_module : (name serial : ℕ) (o : Option Module) → code_of s serial ≡ o → IsSomeAnd o (λ m. m.name.0 ≡ name) → (m : Module) × (code_of s serial ≡ Some m) × (m.name.0 ≡ name)
  its_module name serial None code h = absurd h
  its_module name serial (Some m) code h = (m, code, h)

  own_serial : (o : Option ℕ) (serial : ℕ) → o ≡ Some serial → is_serial o serial ≡ true
  own_serial o serial e = ap (λ (x : Option ℕ). is_serial x serial) e ∙ eq-eqb serial serial refl

  -- a version of its module is among the versions of that kind
  is_among : (versions : ServerState → ℕ → Option ℕ) (name serial : ℕ) → IsInstanceOf s name serial → versions s name ≡ Some serial →
      has_serial (serials_below (λ n. unwrap_or (option_map (λ m. is_serial (versions s m.name.0) n) (code_of s n)) false) s.next_serial) serial ≡ true
  is_among versions name serial instance e =
      let test : ℕ → Bool = λ n. unwrap_or (option_map (λ m. is_serial (versions s m.name.0) n) (code_of s n)) false in
      let its = its_module name serial (code_of s serial) refl instance in
      let known = (some_of (λ m. IsModule m × (serial < s.next_serial)) (code_of s serial) its.0 (sound.modules serial) its.1).1 in
      let passes : test serial ≡ true = ap (λ (o : Option Module). unwrap_or (option_map (λ m. is_serial (versions s m.name.0) serial) o) false) its.1 ∙ own_serial (versions s its.0.name.0) serial (ap (versions s) its.2 ∙ e) in
      among_below test s.next_serial serial known passes

  -- current code is among the current instances, and old code among the old ones
  pub current_is_current : (serial : ℕ) → IsCurrentCode s serial → has_serial (serials_below (is_current_code s) s.next_serial) serial ≡ true
  current_is_current serial now = is_among current_of now.0 serial (some_of (IsInstanceOf s now.0) (current_of s now.0) serial (sound.current now.0) now.1) now.1

  pub old_is_old : (serial : ℕ) → IsOldCode s serial → has_serial (serials_below (is_old_code s) s.next_serial) serial ≡ true
  old_is_old serial old = is_among old_of old.0 serial (some_of (IsInstanceOf s old.0) (old_of s old.0) serial (sound.old old.0) old.1) old.1

  -- what is retired is not doomed
  retired_is_not : (serial : ℕ) → is_serial_in s.retired serial ≡ true → is_serial_in s.doomed serial ≡ false
  retired_is_not serial retired =
      false_from_ne_true (is_serial_in s.doomed serial) (λ doomed. let old = sound.doomed serial doomed in (sound.retired serial retired).not_old old.0 old.1)

-- ---- code that is known

-- a function that a generation traces has a breakpoint in its state
traced_in : (es : List Entry) (serial function : ℕ) → list_any (λ (f : FunctionRef). (f.serial == serial) && (f.function == function)) (map function_ref es) ≡ true → list_any (is_same_entry (record { serial = serial; function = function })) es ≡ true
traced_in [] serial function e = absurd (true≢false (sym e))
traced_in (x ∷ es) serial function e =
    elim (or_cases ((x.serial == serial) && (x.function == function)) (list_any (λ (f : FunctionRef). (f.serial == serial) && (f.function == function)) (map function_ref es)) e) as (λ _. list_any (is_same_entry (record { serial = serial; function = function })) (x ∷ es) ≡ true) [
      | inl here ↦
          let parts = and_parts (x.serial == serial) (x.function == function) here in
          or_left ((serial == x.serial) && (function == x.function)) (list_any (is_same_entry (record { serial = serial; function = function })) es)
          (and_from (serial == x.serial) (function == x.function) (eq-eqb serial x.serial (sym (eqb-true x.serial serial parts.0))) (eq-eqb function x.function (sym (eqb-true x.function function parts.1))))
      | inr behind ↦ or_right ((serial == x.serial) && (function == x.function)) (list_any (is_same_entry (record { serial = serial; function = function })) es) (traced_in es serial function behind)
    ]

-- it is among the current or the old instances
abbrev IsListed : ServerState → ℕ → Type 0
IsListed s serial = (has_serial (serials_below (is_current_code s) s.next_serial) serial ≡ true) ⊎ (has_serial (serials_below (is_old_code s) s.next_serial) serial ≡ true)

module _ (names : List Mfa) (s : ServerState) (sound : IsSound s) (knows : KnowsItsCode s) where
  -- what was dropped is no current or old code
  not_live : (serial : ℕ) → IsTrue (is_retired s serial) → IsLiveCode s serial → ⊥
  not_live serial retired (inl now) = (sound.retired serial retired).not_current now.0 now.1
  not_live serial retired (inr old) = (sound.retired serial retired).not_old old.0 old.1

  -- so none of its functions is traced
  none_traced : (serial function : ℕ) → is_serial_in s.retired serial ≡ true → traces (generation_of names s) serial function ≡ false
  none_traced serial function retired =
      false_from_ne_true (traces (generation_of names s) serial function)
      (λ traced. not_live serial retired (knows.traced (record { serial = serial; function = function }) (traced_in s.traced serial function traced)))

  -- an instance that was not dropped is
  is_listed : (serial : ℕ) → is_serial_in s.retired serial ≡ false → is_serial_in s.released serial ≡ false → IsLiveCode s serial ⊎ (IsTrue (is_retired s serial) ⊎ IsTrue (is_serial_in s.released serial)) → IsListed s serial
  is_listed serial retired released (inl (inl now)) = inl (current_is_current s sound serial now)
  is_listed serial retired released (inl (inr old)) = inr (old_is_old s sound serial old)
  is_listed serial retired released (inr (inl gone)) = absurd (true≢false (sym gone ∙ retired))
  is_listed serial retired released (inr (inr gone)) = absurd (true≢false (sym gone ∙ released))

  -- so an area that has functions is, if it was not dropped
  functions_listed : (serial : ℕ) → 0 < (reads_in names (generation_of names s)).functions serial → is_serial_in s.retired serial ≡ false → IsListed s serial
  functions_listed serial count retired =
      let kept : IsKept names s sound serial = kept_instance names s sound serial count in
      is_listed serial retired kept.kept (knows.kept serial kept.m kept.code)

-- ---- the generation

module _ (names : List Mfa) (g : Generation) (served : IsOfServer names g) where
  -- a fact of the empty generation and of each of a state is one of it
  by_state : (P : Generation → Type 0) → P empty_generation → ((s : ServerState) → IsSound s → s.next_serial ≤ 2 ^ 62 → KnowsItsCode s → P (generation_of names s)) → P g
  by_state P first each =
      elim served as (λ _. P g) [
        | inl empty ↦ subst P (sym empty) first
        | inr of ↦ subst P (sym of.is) (each of.state of.sound of.narrow of.knows)
      ]

  -- it has one image of each serial
  pub images_once : (serial : ℕ) (image : List ℕ) → has_image g.areas serial image ≡ true → serial_image g.areas serial ≡ Some image
  images_once serial image =
      by_state (λ (x : Generation). has_image x.areas serial image ≡ true → serial_image x.areas serial ≡ Some image) (λ e. absurd (true≢false (sym e))) (λ s sound narrow knows. one_each s s.next_serial serial image)

  -- which has room in an anchor
  pub serial_fits : (serial : ℕ) (image : List ℕ) → serial_image g.areas serial ≡ Some image → serial < 2 ^ 62
  serial_fits serial image =
      by_state (λ (x : Generation). serial_image x.areas serial ≡ Some image → serial < 2 ^ 62) (λ e. absurd (cc))
      (λ s sound narrow knows e. less serial s.next_serial (2 ^ 62) (known_serial s s.next_serial serial image e) narrow)
    where
      less : (a b d : ℕ) → a < b → b ≤ d → a < d
      less a b d low high = omega (arith, low, high)

  -- what is doomed is an old instance
  pub doomed_old : (serial : ℕ) → has_serial g.doomed serial ≡ true → has_serial g.old serial ≡ true
  doomed_old serial =
      by_state (λ (x : Generation). has_serial x.doomed serial ≡ true → has_serial x.old serial ≡ true) (λ e. absurd (true≢false (sym e))) (λ s sound narrow knows doomed. old_is_old s sound serial (sound.doomed serial doomed))

  -- what is retired is not doomed
  pub retired_not_doomed : (serial : ℕ) → has_serial g.retired serial ≡ true → has_serial g.doomed serial ≡ false
  retired_not_doomed serial = by_state (λ (x : Generation). has_serial x.retired serial ≡ true → has_serial x.doomed serial ≡ false) (λ e. refl) (λ s sound narrow knows. retired_is_not s sound serial)

  -- no code is forgotten
  pub forgets_none : ForgetsNoCode names g
  forgets_none =
      by_state (ForgetsNoCode names) (record { traced = λ serial function retired. refl; kept = λ serial count retired. absurd (omega (arith, count)) })
      (λ s sound narrow knows. record { traced = none_traced names s sound knows; kept = functions_listed names s sound knows })

  -- the image of an instance begins with its serial
  pub begins_with : (serial : ℕ) (image : List ℕ) → 0 < (reads_in names g).functions serial → serial_image g.areas serial ≡ Some image → slice_get image 0 ≡ Some serial
  begins_with serial image count there =
      let h = state_of names g served in
      let s = h.state in
      let same : words_in g serial ≡ words_in (generation_of names s) serial = ap (λ (w : ℕ → List ℕ). w serial) h.words in
      let kept : IsKept names s h.sound serial = kept_instance names s h.sound serial (subst (λ (w : List ℕ). 0 < function_count w) same count) in
      let image_is : image ≡ words_in g serial = ap (λ (o : Option (List ℕ)). unwrap_or o []) (sym there ∙ image_same g.areas serial) in
      ap (λ (w : List ℕ). slice_get w 0) (image_is ∙ same ∙ instance_words names s h.sound serial kept.m kept.code kept.kept)
