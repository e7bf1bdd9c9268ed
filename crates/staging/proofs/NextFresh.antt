-- The areas that are kept once the next generation is published: those that were, and those that come in.
use Rattle.std.proofs.Common.{◌≡◌, ◌≢◌, ℕ, zero, suc, ◌<◌, ◌≤◌, inl, inr, Bool, true, false, List, [], ◌∷◌, ◌++◌, Option, Some, None, refl, sym, ap, subst, ◌∙◌, arith, if◌then◌else◌}
use Rattle.std.specs.Prelude.{◌==◌, slice_get}
use Rattle.std.specs.List.{flat_map, list_any}
use Rattle.std.specs.Option.{option_map, option_to_list}
use Rattle.std.proofs.lemmas.Bool.{cases_lt, eq-eqb, eqb-true, or_cases, or_left, or_right, true≢false}
use Rattle.term_core.specs.declared.area.AreaRef.{AreaRef}
use Rattle.term_core.specs.declared.generation.AreaWords.{AreaWords}
use Rattle.area_core.specs.declared.table.KeptArea.{KeptArea}
use Rattle.area_core.specs.declared.table.Published.{Published}
use Rattle.area_core.specs.Generations.{is_kept}
use Rattle.area_core.specs.Blocks.{Among}
use Rattle.area_core.specs.Roots.{fresh_area, fresh_areas, fresh_in, serial_image}
use Rattle.server_core.specs.Generations.{kept_area, kept_areas, kept_words}
use Rattle.server_core.specs.ServerState.{ServerState, is_serial_in, words_of_area}
use Rattle.machine_core.specs.GenerationReads.{image_among}
use Rattle.prgr_core.proofs.Parts.{some_same, unless_some}
use Rattle.staging.proofs.AreasIn.{AreRising, among_either, among_left, among_right}

-- ---- tests on lists

pub any_at : {X : Type 0} (test : X → Bool) (xs : List X) (x : X) → Among xs x → test x ≡ true → list_any test xs ≡ true
any_at test [] x at e = absurd (let there = at.1 in cc)
any_at test (y ∷ xs) x (zero, here) e = or_left (test y) (list_any test xs) (ap test (some_same y x here) ∙ e)
any_at test (y ∷ xs) x (suc i, there) e = or_right (test y) (list_any test xs) (any_at test xs x (i, there) e)

pub at_any : {X : Type 0} (test : X → Bool) (xs : List X) → list_any test xs ≡ true → (x : X) × Among xs x × (test x ≡ true)
at_any test [] e = absurd (true≢false (sym e))
at_any test (y ∷ xs) e =
    elim (or_cases (test y) (list_any test xs) e) as (λ _. (x : _) × Among (y ∷ xs) x × (test x ≡ true)) [
      | inl here ↦ (y, (0, refl), here)
      | inr behind ↦ let found = at_any test xs behind in (found.0, (suc found.1.0, found.1.1), found.2)
    ]

-- ---- images of a generation

image_first : (xs ys : List AreaWords) (q : ℕ) → ((words : List ℕ) → serial_image xs q ≡ Some words → serial_image (xs ++ ys) q ≡ Some words) × (serial_image xs q ≡ None → serial_image (xs ++ ys) q ≡ serial_image ys q)
image_first [] ys q = (λ words e. absurd (cc), λ _. refl)
image_first (a ∷ xs) ys q = choose (a.serial == q) (image_first xs ys q)
  where
    choose : (b : Bool) → ((words : List ℕ) → serial_image xs q ≡ Some words → serial_image (xs ++ ys) q ≡ Some words) × (serial_image xs q ≡ None → serial_image (xs ++ ys) q ≡ serial_image ys q)
        → ((words : List ℕ) → (if b then Some a.words else serial_image xs q) ≡ Some words → (if b then Some a.words else serial_image (xs ++ ys) q) ≡ Some words) × ((if b then Some a.words else serial_image xs q) ≡ None → (if b then Some a.words else serial_image (xs ++ ys) q) ≡ serial_image ys q)
    choose true both = (λ words e. e, λ e. absurd (cc))
    choose false both = both

-- the first image of a serial is found alike
pub image_same : (areas : List AreaWords) (serial : ℕ) → serial_image areas serial ≡ image_among areas serial
image_same [] serial = refl
image_same (a ∷ areas) serial = ap (λ (o : Option (List ℕ)). if a.serial == serial then Some a.words else o) (image_same areas serial)

pub none_from : (s : ServerState) (n q : ℕ) → n ≤ q → serial_image (kept_areas s n) q ≡ None
none_from s zero q le = refl
none_from s (suc n) q le = (image_first (kept_areas s n) (option_to_list (kept_area s n)) q).1 (none_from s n q (omega (arith, le))) ∙ one_none n q (kept_words s n) (omega (arith, le))
  where
    one_none : (n q : ℕ) (o : Option (List ℕ)) → n < q → serial_image (option_to_list (option_map (λ words. record { serial = n; words = words }) o)) q ≡ None
    one_none n q None less = refl
    one_none n q (Some words) less = choose (n == q) refl
      where
        choose : (b : Bool) → (n == q) ≡ b → (if b then Some words else None) ≡ None
        choose true e = absurd (let same = eqb-true n q e in omega (arith, same, less))
        choose false e = refl

one_image : (n : ℕ) (o : Option (List ℕ)) (words : List ℕ) → o ≡ Some words → serial_image (option_to_list (option_map (λ ws. record { serial = n; words = ws }) o)) n ≡ Some words
one_image n None words e = absurd (cc)
one_image n (Some ws) words e = ap (λ (b : Bool). if b then Some ws else None) (eq-eqb n n refl) ∙ e

-- an area that is not released has its image there
pub image_below : (s : ServerState) (n q : ℕ) (words : List ℕ) → q < n → kept_words s q ≡ Some words → serial_image (kept_areas s n) q ≡ Some words
image_below s zero q words less e = absurd (omega (arith, less))
image_below s (suc n) q words less e =
    elim (cases_lt q n) as (λ _. serial_image (kept_areas s (suc n)) q ≡ Some words) [
      | inl before ↦ (image_first (kept_areas s n) (option_to_list (kept_area s n)) q).0 words (image_below s n q words before e)
      | inr past ↦
          let same : n ≡ q = omega (arith, less, past) in
          (image_first (kept_areas s n) (option_to_list (kept_area s n)) q).1 (none_from s n q (omega (arith, past)))
          ∙ subst (λ (k : ℕ). serial_image (option_to_list (kept_area s n)) k ≡ Some words) same (one_image n (kept_words s n) words (ap (kept_words s) same ∙ e))
    ]

pub kept_words_are : (s : ServerState) (serial : ℕ) (words : List ℕ) → is_serial_in s.released serial ≡ false → words_of_area s serial ≡ Some words → kept_words s serial ≡ Some words
kept_words_are s serial words unreleased is = ap (λ (b : Bool). if b then None else words_of_area s serial) unreleased ∙ is

-- ---- fresh areas

-- what is fresh is an area of the list that is not kept, with its image
pub record IsFreshOf (kept : List KeptArea) (p : Published) (k : KeptArea) : Type 0 where
  pub listed : Among p.areas k.area
  pub unkept : is_kept kept k.area.serial ≡ false
  pub image : serial_image p.state.areas k.area.serial ≡ Some k.words

mapped : (a : AreaRef) (o : Option (List ℕ)) (k : KeptArea) → option_map (λ words. record { area = a; words = words }) o ≡ Some k → (k.area ≡ a) × (o ≡ Some k.words)
mapped a None k e = absurd (cc)
mapped a (Some words) k e = let same : record { area = a; words = words } ≡ k = some_same _ k e in (sym (ap (λ (x : KeptArea). x.area) same), ap (λ (x : KeptArea). Some x.words) same)

one_in : (o : Option KeptArea) (k : KeptArea) → Among (option_to_list o) k → o ≡ Some k
one_in None k at = absurd (let there = at.1 in cc)
one_in (Some j) k (zero, here) = here
one_in (Some j) k (suc i, there) = absurd (cc)

module _ (kept : List KeptArea) (images : List AreaWords) where
  fresh_is : (a : AreaRef) (k : KeptArea) → fresh_area kept images a ≡ Some k → (k.area ≡ a) × (is_kept kept a.serial ≡ false) × (serial_image images a.serial ≡ Some k.words)
  fresh_is a k e =
      let parts = unless_some (is_kept kept a.serial) (option_map (λ words. record { area = a; words = words }) (serial_image images a.serial)) k e in
      let both = mapped a (serial_image images a.serial) k parts.1 in
      (both.0, parts.0, both.1)

  fresh_from : (areas : List AreaRef) (k : KeptArea) → Among (flat_map (fresh_in kept images) areas) k → Among areas k.area × (is_kept kept k.area.serial ≡ false) × (serial_image images k.area.serial ≡ Some k.words)
  fresh_from [] k at = absurd (let there = at.1 in cc)
  fresh_from (a ∷ areas) k at =
      elim (among_either (fresh_in kept images a) (flat_map (fresh_in kept images) areas) k at) as (λ _. Among (a ∷ areas) k.area × (is_kept kept k.area.serial ≡ false) × (serial_image images k.area.serial ≡ Some k.words)) [
        | inl here ↦
            let found = fresh_is a k (one_in (fresh_area kept images a) k here) in
            ((0, ap (λ (x : AreaRef). Some x) (sym found.0)), ap (λ (x : AreaRef). is_kept kept x.serial) found.0 ∙ found.1, ap (λ (x : AreaRef). serial_image images x.serial) found.0 ∙ found.2)
        | inr behind ↦ let found = fresh_from areas k behind in ((suc found.0.0, found.0.1), found.1, found.2)
      ]

  fresh_one : (a : AreaRef) (words : List ℕ) → is_kept kept a.serial ≡ false → serial_image images a.serial ≡ Some words → fresh_area kept images a ≡ Some (record { area = a; words = words })
  fresh_one a words unkept image =
      ap (λ (b : Bool). if b then None else option_map (λ ws. record { area = a; words = ws }) (serial_image images a.serial)) unkept ∙ ap (option_map (λ ws. record { area = a; words = ws })) image

  fresh_to : (areas : List AreaRef) (a : AreaRef) (words : List ℕ) → Among areas a → is_kept kept a.serial ≡ false → serial_image images a.serial ≡ Some words → Among (flat_map (fresh_in kept images) areas) (record { area = a; words = words })
  fresh_to [] a words at unkept image = absurd (let there = at.1 in cc)
  fresh_to (b ∷ areas) a words (zero, here) unkept image =
      let same : b ≡ a = some_same b a here in
      among_left (fresh_in kept images b) (flat_map (fresh_in kept images) areas) (record { area = a; words = words })
      (subst (λ (x : AreaRef). Among (fresh_in kept images x) (record { area = a; words = words })) (sym same)
      (subst (λ (o : Option KeptArea). Among (option_to_list o) (record { area = a; words = words })) (sym (fresh_one a words unkept image)) (0, refl)))
  fresh_to (b ∷ areas) a words (suc i, there) unkept image =
      among_right (fresh_in kept images b) (flat_map (fresh_in kept images) areas) (record { area = a; words = words }) (fresh_to areas a words (i, there) unkept image)

  -- they stand in the order of their blocks
  abbrev Rises : ℕ → List KeptArea → Type 0
  Rises block [] = Unit {0}
  Rises block (k ∷ ks) = (block ≤ k.area.block) × Rises (suc k.area.block) ks

  lower : (ks : List KeptArea) (b c : ℕ) → b ≤ c → Rises c ks → Rises b ks
  lower [] b c less rising = tt
  lower (k ∷ ks) b c less rising = let first = rising.0 in (omega (arith, less, first), rising.1)

  one_more : (a : AreaRef) (block : ℕ) (ks : List KeptArea) (o : Option KeptArea) → ((k : KeptArea) → o ≡ Some k → k.area ≡ a) → block ≤ a.block → Rises (suc a.block) ks → Rises block (option_to_list o ++ ks)
  one_more a block ks None is less rising = lower ks block (suc a.block) (omega (arith, less)) rising
  one_more a block ks (Some k) is less rising =
      let same = ap (λ (x : AreaRef). x.block) (is k refl) in (omega (arith, same, less), lower ks (suc k.area.block) (suc a.block) (omega (arith, same)) rising)

  fresh_rise : (areas : List AreaRef) (block : ℕ) → AreRising block areas → Rises block (flat_map (fresh_in kept images) areas)
  fresh_rise [] block rising = tt
  fresh_rise (a ∷ areas) block rising = one_more a block (flat_map (fresh_in kept images) areas) (fresh_area kept images a) (λ k e. (fresh_is a k e).0) rising.0 (fresh_rise areas (suc a.block) rising.1)

  from_one : (ks : List KeptArea) (block j : ℕ) (k : KeptArea) → Rises block ks → slice_get ks j ≡ Some k → block ≤ k.area.block
  from_one [] block j k rising at = absurd (cc)
  from_one (h ∷ ks) block zero k rising at = subst (λ (x : KeptArea). block ≤ x.area.block) (some_same h k at) rising.0
  from_one (h ∷ ks) block (suc j) k rising at = let behind = from_one ks (suc h.area.block) j k rising.1 at in let first = rising.0 in omega (arith, behind, first)

  before : (ks : List KeptArea) (block i j : ℕ) (a b : KeptArea) → Rises block ks → i < j → slice_get ks i ≡ Some a → slice_get ks j ≡ Some b → a.area.block < b.area.block
  before [] block i j a b rising less here there = absurd (cc)
  before (h ∷ ks) block zero zero a b rising less here there = absurd (omega (arith, less))
  before (h ∷ ks) block zero (suc j) a b rising less here there =
      let behind = from_one ks (suc h.area.block) j b rising.1 there in let same = ap (λ (x : KeptArea). x.area.block) (some_same h a here) in omega (arith, behind, same)
  before (h ∷ ks) block (suc i) zero a b rising less here there = absurd (omega (arith, less))
  before (h ∷ ks) block (suc i) (suc j) a b rising less here there = before ks (suc h.area.block) i j a b rising.1 (omega (arith, less)) here there

  pub fresh_differ : (areas : List AreaRef) (block i j : ℕ) (a b : KeptArea) → AreRising block areas → i ≢ j → slice_get (flat_map (fresh_in kept images) areas) i ≡ Some a → slice_get (flat_map (fresh_in kept images) areas) j ≡ Some b → a.area.block ≢ b.area.block
  fresh_differ areas block i j a b rising differ here there same =
      let rise = fresh_rise areas block rising in
      elim (cases_lt i j) as (λ _. ⊥) [
        | inl less ↦ let order = before (flat_map (fresh_in kept images) areas) block i j a b rise less here there in omega (arith, order, same)
        | inr past ↦
            elim (cases_lt j i) as (λ _. ⊥) [
              | inl less ↦ let order = before (flat_map (fresh_in kept images) areas) block j i b a rise less there here in omega (arith, order, same)
              | inr other ↦ differ (omega (arith, past, other))
            ]
      ]

-- ---- what is kept next

pub fresh_of : (kept : List KeptArea) (p : Published) (k : KeptArea) → Among (fresh_areas kept p) k → IsFreshOf kept p k
fresh_of kept p k at = let found = fresh_from kept p.state.areas p.areas k at in record { listed = found.0; unkept = found.1; image = found.2 }

pub of_fresh : (kept : List KeptArea) (p : Published) (a : AreaRef) (words : List ℕ) → Among p.areas a → is_kept kept a.serial ≡ false → serial_image p.state.areas a.serial ≡ Some words → Among (fresh_areas kept p) (record { area = a; words = words })
of_fresh kept p a words at unkept image = fresh_to kept p.state.areas p.areas a words at unkept image
