-- Three areas without words are published, and retired one after another; then the generation may be published in which they are.
use Rattle.std.proofs.Common.{◌≡◌, ℕ, zero, suc, ◌+◌, ◌*◌, ◌^◌, ◌<◌, ◌≤◌, inl, inr, false, true, List, [], ◌∷◌, ◌++◌, length, refl, sym, ap, subst, ◌∙◌, arith}
use mathlib.Core.Logic.{dite}
use native.Mathlib.Decide.{ℕ_discrete}
use Rattle.std.specs.Prelude.{◌==◌, Some, slice_get, IsTrue}
use Rattle.std.specs.Option.{option_and_then}
use Rattle.prgr_core.proofs.Parts.{some_same}
use Rattle.atomic_table.specs.Seated.{TableId}
use Rattle.term_core.specs.declared.area.AreaRef.{AreaRef}
use Rattle.area_core.specs.declared.table.Published.{Published}
use Rattle.area_core.specs.declared.table.KeptArea.{KeptArea}
use Rattle.area_core.specs.Generations.{has_serial, is_used, is_retired_area, tells}
use Rattle.area_core.specs.Map.{word_at, block_place, retire_place, doom_place}
use Rattle.area_core.specs.Blocks.{Among, AreaStands, KeptApart, CodeStands, term_blocks_words}
use Rattle.area_core.specs.Terms.{TermsStand}
use Rattle.area_core.specs.Roots.{fresh_areas}
use Rattle.area_core.specs.Step.{opening_published}
use Rattle.area_core.proofs.Places.{word_here, word_there}
use Rattle.shared_words.specs.declared.opening.Opening.{Opening}
use Rattle.shared_words.specs.declared.seats.Writer as writers
use Rattle.shared_words.specs.declared.view.WriterView.{WriterView}
use Rattle.shared_words.specs.Rule.{HasArea}
use Rattle.shared_words.specs.Publishing.{MayPublish, IsRootOf, kept_next, with_next, with_word}
use Rattle.progress_words.specs.Tokens.{written_by, IsWriterOf}
use Rattle.literal_areas.specs.declared.areas.Areas.{Areas}
use Rattle.literal_areas.specs.declared.blocks.BlockUse.{BlockUse}
use Rattle.literal_areas.specs.declared.blocks.BlockUse.TheVariants.{Free, Live, Retired}
use Rattle.literal_areas.specs.Blocks.{use_of, serial_of, Stands, IsLive, with_retired}
use Rattle.literal_areas.specs.Laws.{KeptByRoots}
use Rattle.literal_areas.specs.Owned.{AreOf, IsListed, IsPast}
use Rattle.literal_areas.specs.Written.{IsPublished}
use Rattle.literal_areas.proofs.Uses.{use_here, use_other}
use Rattle.literal_areas.proofs.Serials.{use_after}
use Rattle.new_tables.specs.Blank.{IsBlank}
use Rattle.new_tables.proofs.Emptied.{no_element, never}
use Rattle.area_tests.specs.Gone.{AreGone}
use Rattle.area_tests.specs.Many.{many_serials, ref_one, kept_one, kepts}
use Rattle.area_tests.specs.Several.{three_published, retired_published, AreTaken, AreRetiring}
use Rattle.area_tests.proofs.Instances.{each_kept, each_ref, ref_there, kept_there, image_there, all_apart, serial_there, serial_is, only_current, may_publish_current, none_found}

-- ---- they are published

module _ (w : WriterView) (blank : IsBlank w) where
  pub may_publish_three : (Served : Published → Type 0) → Served three_published → MayPublish Served w three_published
  may_publish_three = may_publish_current 3 (omega (arith)) [] refl refl w blank.published blank.kept (λ place differ. blank.words place) (λ i low. ap (λ (n : ℕ). tells n 1) (blank.words (doom_place (9 + i)))) (λ i low. ap (λ (n : ℕ). tells n 0) (blank.words (doom_place (9 + i))))

  module _ (s : Areas) (taken : AreTaken 3 s) where
    three_listed : IsListed s three_published
    three_listed = record {
      stand = λ area among. (let found = each_ref 3 area among in subst (Stands s) (sym found.2) (ap (option_and_then serial_of) (taken.live found.0 found.1)));
      used = λ serial used. (let found = serial_is 3 serial (only_current (has_serial (many_serials 3) serial) used) in (9 + found.0, taken.live found.0 found.1 ∙ ap (λ (n : ℕ). Some (Live n)) (sym found.2)));
      retired = λ block serial first is. absurd (taken.none block serial first is);
      past = λ serial is. absurd (never is);
    }

    pub none_retired : (v : WriterView) → KeptByRoots → AreOf s w → v ≡ with_next three_published w → AreRetiring 0 s v
    none_retired v kept own is = subst (AreRetiring 0 s) (sym is) (record {
      owned = kept s w three_published own three_listed;
      retired = λ i low. absurd (omega (arith, low));
      live = λ i first low. taken.live i low;
      others = λ block serial since there. absurd (taken.none block serial since there);
      published = ap (λ (xs : List Published). xs ++ three_published ∷ []) blank.published;
      kept = ap (λ (xs : List KeptArea). xs ++ fresh_areas xs three_published) blank.kept;
      told = λ i low. absurd (omega (arith, low));
      blank = λ place high. blank.words place;
    })

pub three_root : IsRootOf three_published.root 0 0 0
three_root = record { code_is = refl; bp_is = refl; term_is = refl }

-- the root has room
pub blank_room : (table : TableId) (opening : Opening) (writer : writers.Writer) → IsWriterOf table opening writer → IsBlank (written_by writer) → writer.generation + 1 < 2 ^ 59
blank_room table opening writer token blank =
    let one = ap (λ (xs : List Published). length xs) blank.published in
    let counted = token.published in
    omega (arith, one, counted)

-- ---- one more is retired

abbrev number : BlockUse → ℕ
number Free = 0
number (Live n) = n
number (Retired n g) = n

-- the store releases nothing
left : (at : ℕ) → at < 3 → (x : WriterView) → x.kept ≡ kepts 3 → (with_word (retire_place (9 + at)) 2 x).kept ≡ kepts 3
left zero few x kept = ap (λ (xs : List KeptArea). (with_word 1118 2 (record x { kept = xs })).kept) kept
left (suc zero) few x kept = ap (λ (xs : List KeptArea). (with_word 1119 2 (record x { kept = xs })).kept) kept
left (suc (suc zero)) few x kept = ap (λ (xs : List KeptArea). (with_word 1120 2 (record x { kept = xs })).kept) kept
left (suc (suc (suc at))) few x kept = absurd (omega (arith, few))

module _ (at : ℕ) (few : at < 3) (s t : Areas) (w v : WriterView) (h : AreRetiring at s w) (is : t ≡ with_retired (ref_one at) 2 s) (stored : v ≡ with_word (retire_place (9 + at)) 2 w) where
  live : use_of s (9 + at) ≡ Some (Live (suc at))
  live = h.live at (omega (arith)) few

  -- the other blocks are as they were
  other : (i : ℕ) → (i ≡ at → ⊥) → use_of t (9 + i) ≡ use_of s (9 + i)
  other i differ = ap (λ (x : Areas). use_of x (9 + i)) is ∙ use_other s (9 + at) (9 + i) (Live (suc at)) (Retired (suc at) 2) live (λ same. differ (omega (arith, same)))

  now_retired : (i : ℕ) → i < at + 1 → use_of t (9 + i) ≡ Some (Retired (suc i) 2)
  now_retired i low =
      dite (ℕ_discrete i at)
      (λ (same : i ≡ at). subst (λ (j : ℕ). use_of t (9 + j) ≡ Some (Retired (suc j) 2)) (sym same) (ap (λ (x : Areas). use_of x (9 + at)) is ∙ use_here s (9 + at) (Live (suc at)) (Retired (suc at) 2) live))
      (λ (differ : i ≡ at → ⊥). other i differ ∙ h.retired i (omega (arith, low, differ)))

  now_told : (i : ℕ) → i < at + 1 → word_at v.words (retire_place (9 + i)) ≡ 2
  now_told i low =
      ap (λ (x : WriterView). word_at x.words (retire_place (9 + i))) stored
      ∙ dite (ℕ_discrete i at)
      (λ (same : i ≡ at). subst (λ (j : ℕ). word_at (with_word (retire_place (9 + at)) 2 w).words (retire_place (9 + j)) ≡ 2) (sym same) (word_here w.words (retire_place (9 + at)) 2 (let long = h.owned.all in let within : 1109 + (9 + at) < length w.words = omega (arith, long, few) in within)))
      (λ (differ : i ≡ at → ⊥). word_there w.words (retire_place (9 + at)) 2 (retire_place (9 + i)) (λ same. differ (let there : 1109 + (9 + i) ≡ 1109 + (9 + at) = same in omega (arith, there))) ∙ h.told i (omega (arith, low, differ)))

  pub one_retired : AreOf t v → AreRetiring (at + 1) t v
  one_retired own = record {
    owned = own;
    retired = now_retired;
    live = λ i first low. other i (λ same. omega (arith, same, first)) ∙ h.live i (omega (arith, first)) low;
    others = λ block serial since there.
        elim (use_after s (9 + at) block (Live (suc at)) (Retired (suc at) 2) (Retired serial since) live (ap (λ (x : Areas). use_of x block) (sym is) ∙ there)) as (λ _. (i : ℕ) × (i < at + 1) × (serial ≡ suc i)) [
          | inl here ↦ (at, omega (arith), ap number here.1)
          | inr before ↦ (let found = h.others block serial since before.1 in (found.0, (let low = found.1 in omega (arith, low)), found.2))
        ];
    published = ap (λ (x : WriterView). x.published) stored ∙ h.published;
    kept = ap (λ (x : WriterView). x.kept) stored ∙ left at few w h.kept;
    told = now_told;
    blank = λ place high. ap (λ (x : WriterView). word_at x.words place) stored ∙ word_there w.words (retire_place (9 + at)) 2 place (λ same. (let there : place ≡ 1109 + (9 + at) = same in omega (arith, there, high, few))) ∙ h.blank place high;
  }

-- the next one is live, and each is a published one
pub one_live : (at : ℕ) (s : Areas) (w : WriterView) → at < 3 → AreRetiring at s w → IsLive s (ref_one at)
one_live at s w few h = h.live at (omega (arith)) few

pub one_published : (at : ℕ) (s : Areas) (w : WriterView) → at < 3 → AreRetiring at s w → IsPublished w (ref_one at)
one_published at s w few h = (let there = kept_there 3 at few in (kept_one at, (there.0, ap (λ (xs : List KeptArea). slice_get xs there.0) h.kept ∙ there.1), refl))

-- ---- all are retired

module _ (s : Areas) (w : WriterView) (h : AreRetiring 3 s w) where
  abbrev word : ℕ → ℕ
  word = word_at w.words

  kept_is : kept_next w retired_published ≡ kepts 3
  kept_is = ap (λ (xs : List KeptArea). xs ++ fresh_areas xs retired_published) h.kept

  no_fresh : (k : KeptArea) → Among (fresh_areas w.kept retired_published) k → ⊥
  no_fresh k among = no_element among.0 (ap (λ (xs : List KeptArea). slice_get (fresh_areas xs retired_published) among.0) (sym h.kept) ∙ among.1)

  one_kept : (k : KeptArea) → Among (kept_next w retired_published) k → (i : ℕ) × (i < 3) × (k ≡ kept_one i)
  one_kept k among = each_kept 3 k (among.0, ap (λ (xs : List KeptArea). slice_get xs among.0) (sym kept_is) ∙ among.1)

  has_one : (i : ℕ) → i < 3 → HasArea retired_published (kept_one i)
  has_one i low = record { listed = ref_there 3 i low; image = image_there 3 i low }

  stands : (i : ℕ) → i < 3 → AreaStands word (kept_one i) 2 retired_published
  stands i low = record {
    entries = λ function has zero_word. refl;
    retired = ap (λ (n : ℕ). tells n 2) (h.told i low) ∙ sym (serial_there 3 i low);
    doomed = λ big unretired. absurd (never (sym unretired ∙ serial_there 3 i low));
  }

  code : CodeStands word retired_published
  code entry few = ap (λ (n : ℕ). n == 0) (h.blank (block_place 0 entry) (let high : 1121 ≤ 1493 + entry = omega (arith) in high))

  terms : TermsStand (term_blocks_words word retired_published.root) retired_published
  terms = record {
    found = λ i k at. absurd (no_element i at);
    only = λ key value found. absurd (none_found (term_blocks_words word retired_published.root) (λ at low. h.blank (block_place 5 at) (let high : 1121 ≤ 1493 + 5 * 1024 + at = omega (arith) in high)) key value found);
  }

  abbrev all : List Published
  all = opening_published ∷ three_published ∷ retired_published ∷ []

  each : (Holds : ℕ → Published → Type 0) → Holds 0 opening_published → Holds 1 three_published → Holds 2 retired_published → (g : ℕ) (p : Published) → slice_get all g ≡ Some p → Holds g p
  each Holds one two three zero p at = subst (Holds 0) (some_same opening_published p at) one
  each Holds one two three (suc zero) p at = subst (Holds 1) (some_same three_published p at) two
  each Holds one two three (suc (suc zero)) p at = subst (Holds 2) (some_same retired_published p at) three
  each Holds one two three (suc (suc (suc g))) p at = absurd (no_element g at)

  -- what is retired is used by no later generation
  abbrev Stays : ℕ → ℕ → Published → Type 0
  Stays serial g p = (later : ℕ) (q : Published) → g ≤ later → slice_get all later ≡ Some q → IsTrue (is_retired_area p serial) → is_used q serial ≡ false

  stays : (serial g : ℕ) (p : Published) → slice_get all g ≡ Some p → Stays serial g p
  stays serial = each (Stays serial) (λ later q le at old. absurd (never old)) (λ later q le at old. absurd (never old)) (λ later q le at old. each (λ k x. 2 ≤ k → is_used x serial ≡ false) (λ low. absurd (omega (arith, low))) (λ low. absurd (omega (arith, low))) (λ low. refl) later q at le)

  none_old : (serial g : ℕ) (p : Published) → slice_get all g ≡ Some p → has_serial p.state.old serial ≡ true → ⊥
  none_old serial = each (λ g x. has_serial x.state.old serial ≡ true → ⊥) never never never

  here : (g : ℕ) (p : Published) → slice_get (w.published ++ retired_published ∷ []) g ≡ Some p → slice_get all g ≡ Some p
  here g p at = ap (λ (xs : List Published). slice_get (xs ++ retired_published ∷ []) g) (sym h.published) ∙ at

  pub may_publish_retired : (Served : Published → Type 0) → Served retired_published → MayPublish Served w retired_published
  may_publish_retired Served served = record {
    served = served;
    old_stays = λ g later p q serial le at_p at_q old. absurd (none_old serial g p (here g p at_p) old);
    retired_stays = λ g later p q serial le at_p at_q retired. stays serial g p (here g p at_p) later q le (here later q at_q) retired;
    areas_go_on = record {
      apart = λ a c at_a at_c serial.
          let first = each_ref 3 a at_a in
          let second = each_ref 3 c at_c in
          let one : suc first.0 ≡ suc second.0 = ap (λ (x : AreaRef). x.serial) (sym first.2) ∙ serial ∙ ap (λ (x : AreaRef). x.serial) second.2 in
          first.2 ∙ ap ref_one (omega (arith, one)) ∙ sym second.2;
      kept = λ k among. (let found = one_kept k among in subst (HasArea retired_published) (sym found.2) (has_one found.0 found.1));
      new = λ k q a among before listed serial. absurd (no_fresh k among);
    };
    stands = record {
      root = record { code = omega (arith); bp = omega (arith); term = omega (arith) };
      placed = λ a among instance. absurd (never instance);
      code = code;
      breakpoints = λ a among instance function few. absurd (never instance);
      terms = terms;
      used = λ serial used. absurd (never used);
      areas = λ k among. (let found = one_kept k among in
          subst (λ (z : KeptArea × ℕ). AreaStands word z.0 z.1 retired_published) (λ i. (sym found.2 i, sym (ap (λ (xs : List Published). length xs) h.published) i)) (stands found.0 found.1));
    };
    fresh = record {
      fit = λ k among. absurd (no_fresh k among);
      images = λ k among at value has plain. absurd (no_fresh k among);
      areas = λ g q counts at k among. absurd (no_fresh k among);
      apart = subst KeptApart (sym kept_is) (all_apart 3);
    };
  }

  -- over these pools
  past : (i : ℕ) → i < 3 → IsPast s (suc i)
  past i low = record {
    below = h.owned.sound.below (9 + i) (suc i) (ap (option_and_then serial_of) (h.retired i low));
    dead = λ block live.
        let there = h.owned.sound.apart block (9 + i) (suc i) (ap (option_and_then serial_of) live) (ap (option_and_then serial_of) (h.retired i low)) in
        differ (suc i) (some_same (Retired (suc i) 2) (Live (suc i)) (sym (h.retired i low) ∙ ap (use_of s) (sym there) ∙ live));
  }
    where
      differ : (n : ℕ) → Retired n 2 ≡ Live n → ⊥
      differ n e = (cc)

  retired_listed : IsListed s retired_published
  retired_listed = record {
    stand = λ area among. (let found = each_ref 3 area among in subst (Stands s) (sym found.2) (ap (option_and_then serial_of) (h.retired found.0 found.1)));
    used = λ serial used. absurd (never used);
    retired = λ block serial first is. (let found = h.others block serial first is in subst (λ (n : ℕ). has_serial (many_serials 3) n ≡ true) (sym found.2) (serial_there 3 found.0 found.1));
    past = λ serial is. (let found = serial_is 3 serial is in subst (IsPast s) (sym found.2) (past found.0 found.1));
  }

  pub all_gone : (v : WriterView) → KeptByRoots → v ≡ with_next retired_published w → AreGone 0 3 s v
  all_gone v kept is = subst (AreGone 0 3 s) (sym is) (record {
    owned = kept s w retired_published h.owned retired_listed;
    used = λ i first low. h.retired i low;
    published = ap (λ (xs : List Published). length (xs ++ retired_published ∷ [])) h.published;
  })

pub retired_root : IsRootOf retired_published.root 0 0 0
retired_root = record { code_is = refl; bp_is = refl; term_is = refl }

-- the next root has room
pub retired_room : (table : TableId) (opening : Opening) (s : Areas) (writer : writers.Writer) → IsWriterOf table opening writer → AreRetiring 3 s (written_by writer) → writer.generation + 1 < 2 ^ 59
retired_room table opening s writer token h =
    let two = ap (λ (xs : List Published). length xs) h.published in
    let counted = token.published in
    omega (arith, two, counted)
