-- A generation of instances without words may be published where all words are 0 but a doom word.
use Rattle.std.proofs.Common.{◌≡◌, ℕ, zero, suc, ◌+◌, ◌-◌, ◌*◌, ◌<◌, ◌≤◌, inl, inr, Bool, true, false, cond, ◌||◌, List, [], ◌∷◌, ◌++◌, length, refl, sym, ap, subst, ◌∙◌, arith}
use mathlib.Core.Logic.{dite}
use native.Mathlib.Decide.{ℕ_discrete}
use Rattle.std.specs.Prelude.{◌==◌, Some, slice_get, IsTrue}
use Rattle.std.specs.List.{list_any, list_all}
use Rattle.std.proofs.lemmas.Bool.{and_parts, or_cases, or_left, or_right, eqb-true, eq-eqb, ne_eqb}
use Rattle.prgr_core.proofs.Parts.{some_same}
use Rattle.term_core.specs.declared.area.AreaRef.{AreaRef}
use Rattle.area_core.specs.declared.table.Published.{Published}
use Rattle.area_core.specs.declared.table.KeptArea.{KeptArea}
use Rattle.area_core.specs.Generations.{has_serial, is_kept_as, tells}
use Rattle.area_core.specs.Map.{word_at, block_place, retire_place, doom_place}
use Rattle.area_core.specs.Blocks.{Among, AreaStands, FitsBlock, IsForInstances, KeptApart, InstancesPlaced, CodeStands, BreakpointsStand, UsedAreKept, term_blocks_words}
use Rattle.area_core.specs.Terms.{TermsStand, found_in}
use Rattle.area_core.specs.Roots.{fresh_areas, serial_image}
use Rattle.area_core.specs.Step.{opening_published}
use Rattle.area_core.proofs.Frames.{found_same}
use Rattle.area_core.proofs.Opened.{blocks_opened}
use Rattle.shared_words.specs.declared.view.WriterView.{WriterView}
use Rattle.shared_words.specs.Rule.{HasArea}
use Rattle.shared_words.specs.Publishing.{MayPublish, kept_next}
use Rattle.new_tables.proofs.Emptied.{no_element, never}
use Rattle.area_tests.specs.Many.{many_serials, ref_one, many_refs, images, kept_one, kepts, published_of}

-- a term table without words has no key
pub none_found : (block : ℕ → ℕ) → ((at : ℕ) → at < 1024 → block at ≡ 0) → (key word : ℕ) → found_in block key ≡ Some word → ⊥
none_found block empty key word found =
    let opened = blocks_opened (λ place. 0) (λ place. refl) (λ g. Unit {0}) in
    never ((opened.terms_stand 0 opening_published tt refl).only key word (sym (found_same (λ at. 0) block empty key) ∙ found))

-- ---- the instances

pub each_kept : (n : ℕ) (k : KeptArea) → Among (kepts n) k → (i : ℕ) × (i < n) × (k ≡ kept_one i)
each_kept zero k (j, at) = absurd (no_element j at)
each_kept (suc n) k (zero, at) = (n, omega (arith), sym (some_same (kept_one n) k at))
each_kept (suc n) k (suc j, at) = let there = each_kept n k (j, at) in (there.0, (let low = there.1 in omega (arith, low)), there.2)

pub each_ref : (n : ℕ) (a : AreaRef) → Among (many_refs n) a → (i : ℕ) × (i < n) × (a ≡ ref_one i)
each_ref zero a (j, at) = absurd (no_element j at)
each_ref (suc n) a (zero, at) = (n, omega (arith), sym (some_same (ref_one n) a at))
each_ref (suc n) a (suc j, at) = let there = each_ref n a (j, at) in (there.0, (let low = there.1 in omega (arith, low)), there.2)

-- each instance has its block and its image
pub ref_there : (n i : ℕ) → i < n → Among (many_refs n) (ref_one i)
ref_there zero i low = absurd (omega (arith, low))
ref_there (suc n) i low =
    dite (ℕ_discrete n i)
    (λ (same : n ≡ i). (0, ap (λ (j : ℕ). Some (ref_one j)) same))
    (λ (differ : n ≡ i → ⊥). let there = ref_there n i (omega (arith, low, differ)) in (suc there.0, there.1))

pub kept_there : (n i : ℕ) → i < n → Among (kepts n) (kept_one i)
kept_there zero i low = absurd (omega (arith, low))
kept_there (suc n) i low =
    dite (ℕ_discrete n i)
    (λ (same : n ≡ i). (0, ap (λ (j : ℕ). Some (kept_one j)) same))
    (λ (differ : n ≡ i → ⊥). let there = kept_there n i (omega (arith, low, differ)) in (suc there.0, there.1))

pub image_there : (n i : ℕ) → i < n → serial_image (images n) (suc i) ≡ Some []
image_there zero i low = absurd (omega (arith, low))
image_there (suc n) i low =
    dite (ℕ_discrete n i)
    (λ (same : n ≡ i). ap (λ (b : Bool). cond b (Some []) (serial_image (images n) (suc i))) (eq-eqb (suc n) (suc i) (ap suc same)))
    (λ (differ : n ≡ i → ⊥). ap (λ (b : Bool). cond b (Some []) (serial_image (images n) (suc i))) (ne_eqb (suc n) (suc i) (λ same. differ (omega (arith, same)))) ∙ image_there n i (omega (arith, low, differ)))

-- where one stands in the list
kept_place : (n i : ℕ) (k : KeptArea) → slice_get (kepts n) i ≡ Some k → (k.area.serial + i ≡ n) × (k.area.block + i ≡ n + 8)
kept_place zero i k at = absurd (no_element i at)
kept_place (suc n) zero k at = let same : kept_one n ≡ k = some_same (kept_one n) k at in
    (ap (λ (x : KeptArea). x.area.serial + 0) (sym same) ∙ omega (arith), ap (λ (x : KeptArea). x.area.block + 0) (sym same) ∙ omega (arith))
kept_place (suc n) (suc i) k at = let there = kept_place n i k at in let one = there.0 in let two = there.1 in (omega (arith, one), omega (arith, two))

pub all_apart : (n : ℕ) → KeptApart (kepts n)
all_apart n i j a b differ at_a at_b =
    let first = kept_place n i a at_a in
    let second = kept_place n j b at_b in
    let one = first.0 in
    let two = second.0 in
    let three = first.1 in
    let four = second.1 in
    (λ same. differ (omega (arith, one, two, same)), λ same. differ (omega (arith, three, four, same)))

-- each serial up to the last is one of them
pub serial_there : (n i : ℕ) → i < n → has_serial (many_serials n) (suc i) ≡ true
serial_there zero i low = absurd (omega (arith, low))
serial_there (suc n) i low =
    dite (ℕ_discrete n i)
    (λ (same : n ≡ i). or_left (suc n == suc i) (has_serial (many_serials n) (suc i)) (eq-eqb (suc n) (suc i) (ap suc same)))
    (λ (differ : n ≡ i → ⊥). or_right (suc n == suc i) (has_serial (many_serials n) (suc i)) (serial_there n i (omega (arith, low, differ))))

pub serial_is : (n s : ℕ) → has_serial (many_serials n) s ≡ true → (i : ℕ) × (i < n) × (s ≡ suc i)
serial_is zero s there = absurd (never there)
serial_is (suc n) s there =
    elim (or_cases (suc n == s) (has_serial (many_serials n) s) there) as (λ _. (i : ℕ) × (i < suc n) × (s ≡ suc i)) [
      | inl same ↦ (n, omega (arith), sym (eqb-true (suc n) s same))
      | inr rest ↦ (let found = serial_is n s rest in (found.0, (let low = found.1 in omega (arith, low)), found.2))
    ]

-- what all of these pass each passes
each_passes : (test : ℕ → Bool) (n : ℕ) → list_all test (many_serials n) ≡ true → (i : ℕ) → i < n → test (suc i) ≡ true
each_passes test zero all i low = absurd (omega (arith, low))
each_passes test (suc n) all i low =
    let parts = and_parts (test (suc n)) (list_all test (many_serials n)) all in
    dite (ℕ_discrete n i)
    (λ (same : n ≡ i). ap (λ (k : ℕ). test (suc k)) (sym same) ∙ parts.0)
    (λ (differ : n ≡ i → ⊥). each_passes test n parts.1 i (omega (arith, low, differ)))

pub only_current : (b : Bool) → ((b || false) || false) ≡ true → b ≡ true
only_current true e = refl
only_current false e = absurd (never e)

-- what is used is kept, once each is kept as it is used
all_used : (n : ℕ) (doomed : List ℕ) → list_all (λ s. list_any (is_kept_as (published_of n doomed) s) (kepts n)) (many_serials n) ≡ true → UsedAreKept (kepts n) (published_of n doomed)
all_used n doomed all s used =
    let found = serial_is n s (only_current (has_serial (many_serials n) s) used) in
    subst (λ (k : ℕ). IsTrue (list_any (is_kept_as (published_of n doomed) k) (kepts n))) (sym found.2) (each_passes (λ k. list_any (is_kept_as (published_of n doomed) k) (kepts n)) n all found.0 found.1)

-- ---- what is published

-- so many, with few doomed, of which the doom words of blocks tell already, while all other words are 0
module _ (n : ℕ) (few : n ≤ 17) (doomed : List ℕ) (all : list_all (λ s. list_any (is_kept_as (published_of n doomed) s) (kepts n)) (many_serials n) ≡ true) (fresh : fresh_areas [] (published_of n doomed) ≡ kepts n) (w : WriterView) (published : w.published ≡ opening_published ∷ []) (kept : w.kept ≡ []) (others : (place : ℕ) → (place ≡ doom_place 24 → ⊥) → word_at w.words place ≡ 0)
    (now : (i : ℕ) → i < n → tells (word_at w.words (doom_place (9 + i))) 1 ≡ has_serial doomed (suc i)) (before : (i : ℕ) → i < n → tells (word_at w.words (doom_place (9 + i))) 0 ≡ false) where
  abbrev here : Published
  here = published_of n doomed

  abbrev word : ℕ → ℕ
  word = word_at w.words

  -- the generation has each of them
  has_one : (i : ℕ) → i < n → HasArea here (kept_one i)
  has_one i low = record { listed = ref_there n i low; image = image_there n i low }

  code : CodeStands word here
  code entry few = ap (λ (n : ℕ). n == 0) (others (block_place 0 entry) (λ same. absurd (let there : 1493 + entry ≡ 1453 = same in omega (arith, there))))

  breakpoints : BreakpointsStand word here
  breakpoints a among instance function few =
      let found = each_ref n a among in
      let there : word (block_place 3 ((9 + found.0 - 9) * 16 + function)) ≡ 0 = others (block_place 3 ((9 + found.0 - 9) * 16 + function)) (λ same. absurd (let place : 1493 + 3 * 1024 + ((9 + found.0 - 9) * 16 + function) ≡ 1453 = same in omega (arith, place))) in
      subst (λ (x : AreaRef). word (block_place 3 ((x.block - 9) * 16 + function)) ≡ 0) (sym found.2) there

  placed : InstancesPlaced here
  placed a among instance =
      let found = each_ref n a among in
      let low = found.1 in
      subst (λ (x : AreaRef). IsForInstances x.block) (sym found.2) (record { first = omega (arith); last = omega (arith, low, few) })

  terms : TermsStand (term_blocks_words word here.root) here
  terms = record {
    found = λ i k at. absurd (no_element i at);
    only = λ key value found. absurd (none_found (term_blocks_words word here.root) (λ at low. others (block_place 5 at) (λ same. absurd (let there : 1493 + 5 * 1024 + at ≡ 1453 = same in omega (arith, there)))) key value found);
  }

  not_retired : (i : ℕ) → i < n → word (retire_place (9 + i)) ≡ 0
  not_retired i low = others (retire_place (9 + i)) (λ same. absurd (let there : 1109 + (9 + i) ≡ 1453 = same in omega (arith, there, low, few)))

  -- each stands under the generation
  stands_now : (i : ℕ) → i < n → AreaStands word (kept_one i) 1 here
  stands_now i low = record {
    entries = λ function has zero_word. refl;
    retired = ap (λ (n : ℕ). tells n 1) (not_retired i low);
    doomed = λ big kept. now i low;
  }

  -- and under the empty one
  stands_before : (i : ℕ) → i < n → AreaStands word (kept_one i) 0 opening_published
  stands_before i low = record {
    entries = λ function has zero_word. refl;
    retired = ap (λ (n : ℕ). tells n 0) (not_retired i low);
    doomed = λ big kept. before i low;
  }

  pub kept_is : kept_next w here ≡ kepts n
  kept_is = ap (λ (xs : List KeptArea). xs ++ fresh_areas xs here) kept ∙ fresh

  fresh_is : fresh_areas w.kept here ≡ kepts n
  fresh_is = ap (λ (xs : List KeptArea). fresh_areas xs here) kept ∙ fresh

  one_kept : (k : KeptArea) → Among (kept_next w here) k → (i : ℕ) × (i < n) × (k ≡ kept_one i)
  one_kept k among = each_kept n k (among.0, ap (λ (xs : List KeptArea). slice_get xs among.0) (sym kept_is) ∙ among.1)

  one_fresh : (k : KeptArea) → Among (fresh_areas w.kept here) k → (i : ℕ) × (i < n) × (k ≡ kept_one i)
  one_fresh k among = each_kept n k (among.0, ap (λ (xs : List KeptArea). slice_get xs among.0) (sym fresh_is) ∙ among.1)

  -- only the empty generation was published before
  only_before : (g : ℕ) (q : Published) → slice_get w.published g ≡ Some q → (g ≡ 0) × (q ≡ opening_published)
  only_before g q at = only g q (ap (λ (xs : List Published). slice_get xs g) (sym published) ∙ at)
    where
      only : (k : ℕ) (p : Published) → slice_get (opening_published ∷ []) k ≡ Some p → (k ≡ 0) × (p ≡ opening_published)
      only zero p found = (refl, sym (some_same opening_published p found))
      only (suc k) p found = absurd (no_element k found)

  -- none of both has old or retired areas
  none_old : (g : ℕ) (p : Published) (serial : ℕ) → slice_get (w.published ++ here ∷ []) g ≡ Some p → (has_serial p.state.old serial ≡ true → ⊥) × (has_serial p.state.retired serial ≡ true → ⊥)
  none_old g p serial at = both g p (ap (λ (xs : List Published). slice_get (xs ++ here ∷ []) g) (sym published) ∙ at)
    where
      both : (k : ℕ) (q : Published) → slice_get (opening_published ∷ here ∷ []) k ≡ Some q → (has_serial q.state.old serial ≡ true → ⊥) × (has_serial q.state.retired serial ≡ true → ⊥)
      both zero q found = subst (λ (x : Published). (has_serial x.state.old serial ≡ true → ⊥) × (has_serial x.state.retired serial ≡ true → ⊥)) (some_same opening_published q found) (never, never)
      both (suc zero) q found = subst (λ (x : Published). (has_serial x.state.old serial ≡ true → ⊥) × (has_serial x.state.retired serial ≡ true → ⊥)) (some_same here q found) (never, never)
      both (suc (suc k)) q found = absurd (no_element k found)

  pub may_publish_current : (Served : Published → Type 0) → Served here → MayPublish Served w here
  may_publish_current Served served = record {
    served = served;
    old_stays = λ g later p q serial le at_p at_q old. absurd ((none_old g p serial at_p).0 old);
    retired_stays = λ g later p q serial le at_p at_q retired. absurd ((none_old g p serial at_p).1 retired);
    areas_go_on = record {
      apart = λ a c at_a at_c serial.
          let first = each_ref n a at_a in
          let second = each_ref n c at_c in
          let one : suc first.0 ≡ suc second.0 = ap (λ (x : AreaRef). x.serial) (sym first.2) ∙ serial ∙ ap (λ (x : AreaRef). x.serial) second.2 in
          first.2 ∙ ap ref_one (omega (arith, one)) ∙ sym second.2;
      kept = λ k among. (let found = one_kept k among in subst (HasArea here) (sym found.2) (has_one found.0 found.1));
      new = λ k q a among before listed serial. absurd (no_element listed.0 (ap (λ (x : Published). slice_get x.areas listed.0) (sym (only_before before.0 q before.1).1) ∙ listed.1));
    };
    stands = record {
      root = record { code = omega (arith); bp = omega (arith); term = omega (arith) };
      placed = placed;
      code = code;
      breakpoints = breakpoints;
      terms = terms;
      used = subst (λ (xs : List KeptArea). UsedAreKept xs here) (sym kept_is) (all_used n doomed all);
      areas = λ k among. (let found = one_kept k among in
          subst (λ (z : KeptArea × ℕ). AreaStands word z.0 z.1 here) (λ i. (sym found.2 i, sym (ap (λ (xs : List Published). length xs) published) i)) (stands_now found.0 found.1));
    };
    fresh = record {
      fit = λ k among. (let found = one_fresh k among in let low = found.1 in subst FitsBlock (sym found.2) (record { first = omega (arith); last = omega (arith, low, few); room = omega (arith); functions = λ big. omega (arith) }));
      images = λ k among at value has plain. (let found = one_fresh k among in absurd (no_element at (ap (λ (x : KeptArea). slice_get x.words at) (sym found.2) ∙ has)));
      areas = λ g q counts at k among.
          let found = one_fresh k among in
          let before = only_before g q at in
          subst (λ (z : KeptArea × ℕ × Published). AreaStands word z.0 z.1 z.2) (λ i. (sym found.2 i, sym before.0 i, sym before.1 i)) (stands_before found.0 found.1);
      apart = subst KeptApart (sym kept_is) (all_apart n);
    };
  }
