-- What the words of a function and of its instance tell of it, as a member finds them.
use Rattle.std.proofs.Common.{◌≡◌, ℕ, inl, inr, Bool, true, false, List, [], ◌∷◌, Option, Some, refl, sym, ap, ◌∙◌}
use Rattle.std.specs.Prelude.{◌==◌, ◌&&◌, ◌||◌, if◌then◌else◌, IsTrue}
use Rattle.std.proofs.lemmas.Bool.{and_from, and_parts, eq-eqb, eqb-true, or_left}
use Rattle.term_core.specs.declared.area.AreaRef.{AreaRef}
use Rattle.term_core.specs.declared.area.CodeRef.{CodeRef}
use Rattle.term_core.specs.declared.generation.AreaWords.{AreaWords}
use Rattle.area_core.specs.declared.table.KeptArea.{KeptArea}
use Rattle.area_core.specs.declared.table.Published.{Published}
use Rattle.area_core.specs.Blocks.{Among, AreaStands}
use Rattle.area_core.specs.Generations.{has_area, has_function, has_image, has_serial, is_current, is_instance, is_kept_as, is_key_area, is_retired_area, is_traced_function, same_words, tells, traced_word}
use Rattle.area_core.specs.Map.{block_place, breakpoint_place, image_entry_at, retire_place}
use Rattle.area_core.specs.Roots.{serial_image}
use Rattle.area_core.proofs.Tests.{passed_by}
use Rattle.shared_words.specs.declared.view.MemberView.{MemberView}
use Rattle.shared_words.specs.Processes.{NamesArea, held_by_view}
use Rattle.shared_words.specs.Rule.{AreAreasApart}
use Rattle.breakpoints.specs.Decisions.{IsWordFound, MayDecide}

-- ---- images

words_alike : (xs : List ℕ) → same_words xs xs ≡ true
words_alike [] = refl
words_alike (x ∷ xs) = and_from (x == x) (same_words xs xs) (eq-eqb x x refl) (words_alike xs)

-- the image of a serial is one that it has
image_had : (areas : List AreaWords) (serial : ℕ) (words : List ℕ) → serial_image areas serial ≡ Some words → has_image areas serial words ≡ true
image_had [] serial words is = absurd (cc)
image_had (a ∷ areas) serial words is = choose (a.serial == serial) is (image_had areas serial words)
  where
    alike : (xs : List ℕ) → ◌≡◌ {A = Option (List ℕ)} (Some xs) (Some words) → same_words xs words ≡ true
    alike xs e = let same : xs ≡ words = cc in ap (λ (ys : List ℕ). same_words ys words) same ∙ words_alike words

    choose : (b : Bool) → (if b then Some a.words else serial_image areas serial) ≡ Some words → (serial_image areas serial ≡ Some words → has_image areas serial words ≡ true) → ((b && same_words a.words words) || has_image areas serial words) ≡ true
    choose true e behind = or_left (same_words a.words words) (has_image areas serial words) (alike a.words e)
    choose false e behind = behind e

-- ---- what is kept

-- the instance is kept, with the function
record IsKeptWith (kept : List KeptArea) (at : CodeRef) : Type 0 where
  pub here : KeptArea
  pub among : Among kept here
  pub is : here.area ≡ at.area
  pub has : has_function here at.function ≡ true

-- what is kept as the generation has it is the generation's area of the serial, with an image of it
kept_as : (p : Published) (area : AreaRef) (k : KeptArea) → AreAreasApart p → Among p.areas area → is_kept_as p area.serial k ≡ true → (k.area ≡ area) × (has_image p.state.areas area.serial k.words ≡ true)
kept_as p area k apart listed is =
    let parts = and_parts ((k.area.serial == area.serial) && has_area p.areas area.serial k.area.block) (has_image p.state.areas area.serial k.words) is in
    let front = and_parts (k.area.serial == area.serial) (has_area p.areas area.serial k.area.block) parts.0 in
    (λ i. record { serial = eqb-true k.area.serial area.serial front.0 i; block = block_is front.1 i }, parts.1)
  where
    same_block : (a : AreaRef) → Among p.areas a → (a.serial == area.serial) && (a.block == k.area.block) ≡ true → k.area.block ≡ area.block
    same_block a among both =
        let split = and_parts (a.serial == area.serial) (a.block == k.area.block) both in
        sym (eqb-true a.block k.area.block split.1) ∙ ap (λ (x : AreaRef). x.block) (apart a area among listed (eqb-true a.serial area.serial split.0))

    block_is : has_area p.areas area.serial k.area.block ≡ true → k.area.block ≡ area.block
    block_is there =
        let found = passed_by (λ (x : AreaRef). (x.serial == area.serial) && (x.block == k.area.block)) p.areas there in
        same_block found.0 (found.1, found.2) found.3

module _ (root : ℕ) (m : MemberView) (at : CodeRef) (h : MayDecide root m at) where
  with_function : (k : KeptArea) → k.area ≡ at.area → has_image (held_by_view m).state.areas at.area.serial k.words ≡ true → has_function k at.function ≡ true
  with_function k is image = ap (λ (a : AreaRef). has_function (record { area = a; words = k.words }) at.function) is ∙ h.has k.words image

  -- where it is current
  kept_current : (word found : ℕ) (f : IsWordFound m word found) → is_current (held_by_view m) at.area.serial ≡ true → IsKeptWith f.blocks.kept at
  kept_current word found f current =
      let p : Published = held_by_view m in
      let k = passed_by (is_kept_as p at.area.serial) f.blocks.kept (f.stands.used_kept m.member.generation p refl f.published at.area.serial (choose (is_current p at.area.serial) (has_serial p.state.old at.area.serial) (is_key_area p at.area.serial) current)) in
      let same = kept_as p at.area k.0 h.apart h.listed k.3 in
      record { here = k.0; among = (k.1, k.2); is = same.0; has = with_function k.0 same.0 same.1 }
    where
      choose : (c o k : Bool) → c ≡ true → ((c || o) || k) ≡ true
      choose true o k e = refl
      choose false o k e = absurd (cc)

  -- where a slot names it
  kept_named : (word found : ℕ) (f : IsWordFound m word found) → NamesArea m at.area.serial → IsKeptWith f.blocks.kept at
  kept_named word found f named =
      let k = f.named m refl at.area named h.listed in
      record {
        here = k.area;
        among = k.among;
        is = k.is;
        has = with_function k.area k.is (image_had (held_by_view m).state.areas at.area.serial k.area.words (ap (λ (a : AreaRef). serial_image (held_by_view m).state.areas a.serial) (sym k.is) ∙ k.has.image));
      }

  kept_with : (word found : ℕ) (f : IsWordFound m word found) → IsKeptWith f.blocks.kept at
  kept_with word found f =
      elim h.come as (λ _. IsKeptWith f.blocks.kept at) [
        | inl current ↦ kept_current word found f current
        | inr named ↦ kept_named word found f named
      ]

  stands_here : (word found : ℕ) (f : IsWordFound m word found) → AreaStands f.blocks.word (kept_with word found f).here m.member.generation (held_by_view m)
  stands_here word found f =
      let k = kept_with word found f in
      f.stands.areas_stand m.member.generation (held_by_view m) refl f.published k.here k.among

  -- ---- what the words tell

  -- where the entry word is 0, the function is not traced
  pub untraced : (word found : ℕ) → word ≡ block_place at.area.block (image_entry_at at.function) → IsWordFound m word found → found ≡ 0 → is_traced_function (held_by_view m) at.area.serial at.function ≡ false
  untraced word found is f none =
      let k = kept_with word found f in
      let place : block_place k.here.area.block (image_entry_at at.function) ≡ word = ap (λ (a : AreaRef). block_place a.block (image_entry_at at.function)) k.is ∙ sym is in
      ap (λ (a : AreaRef). is_traced_function (held_by_view m) a.serial at.function) (sym k.is) ∙ (stands_here word found f).entries at.function k.has (ap f.blocks.word place ∙ f.here ∙ none)

  -- the retire word tells whether the instance is retired
  pub retire_told : (word found g : ℕ) → word ≡ retire_place at.area.block → g ≡ m.member.generation → IsWordFound m word found → tells found g ≡ is_retired_area (held_by_view m) at.area.serial
  retire_told word found g is now f =
      let k = kept_with word found f in
      let place : word ≡ retire_place k.here.area.block = is ∙ ap (λ (a : AreaRef). retire_place a.block) (sym k.is) in
      (λ i. tells ((sym f.here ∙ ap f.blocks.word place) i) (now i)) ∙ (stands_here word found f).retired ∙ ap (λ (a : AreaRef). is_retired_area (held_by_view m) a.serial) k.is

  -- the decision of an instance tells whether the function is traced
  pub decision_told : (word found : ℕ) → word ≡ breakpoint_place (held_by_view m).root.bp at.area.block at.function → IsWordFound m word found → IsTrue (is_instance (held_by_view m) at.area.serial) → (found == 1) ≡ is_traced_function (held_by_view m) at.area.serial at.function
  decision_told word found is f instance =
      let p : Published = held_by_view m in
      let told : found ≡ traced_word p at.area.serial at.function = sym f.here ∙ ap f.blocks.word is ∙ f.stands.breakpoints_stand m.member.generation p refl f.published at.area h.listed instance at.function h.few in
      ap (λ (n : ℕ). n == 1) told ∙ says (is_traced_function p at.area.serial at.function)
    where
      says : (b : Bool) → ((if b then 1 else 0) == 1) ≡ b
      says true = refl
      says false = refl
