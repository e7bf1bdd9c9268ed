-- A store into a word of a block keeps the block invariant.
use Rattle.std.proofs.Common.{◌≡◌, ℕ, ◌+◌, ◌-◌, ◌*◌, ◌/◌, ◌%◌, ◌<◌, ◌≤◌, Bool, true, false, not, ◌&&◌, ◌||◌, List, length-set, Option, Some, ◌⊎◌, inl, inr, sym, ap, ◌∙◌, subst, arith}
use Rattle.std.specs.Prelude.{◌==◌, slice_get, slice_set, IsTrue}
use Rattle.std.specs.List.{list_any}
use Rattle.std.proofs.lemmas.Bool.{and_parts, and_from, or_cases, or_left, lt-ltb, le-ltb, le-leb, eq-eqb, eqb-true, not-true, cases_eq, true≢false, cond-true, cond-false}
use Rattle.std.proofs.lemmas.Bool.Decides.{nat_tests}
use Rattle.term_core.specs.declared.area.AreaRef.{AreaRef}
use Rattle.area_core.specs.declared.map.TheConstants.{TABLE_WORDS, BIG_WORDS, BREAKPOINTS_START, TERMS_START, EXPORT_ENTRIES, FUNCTIONS}
use Rattle.area_core.specs.declared.map.WordKind.{WordKind}
use Rattle.area_core.specs.declared.map.WordKind.TheVariants.{InBlock}
use Rattle.area_core.specs.declared.readers.Slots.TheVariants.{All}
use Rattle.area_core.specs.declared.table.Published.{Published}
use Rattle.area_core.specs.declared.table.KeptArea.{KeptArea}
use Rattle.area_core.specs.declared.table.Table.{Table}
use Rattle.area_core.specs.Map.{word_at, kind_at, block_place, breakpoint_at, image_entry_at}
use Rattle.area_core.specs.Generations.{is_instance, is_traced_function, has_function, is_entry_word}
use Rattle.area_core.specs.Blocks.{Among, RootFits, IsForInstances}
use Rattle.area_core.specs.Readers.{readable_generations, is_read, is_read_under, reads_in_block, has_instance_in, slots_read}
use Rattle.area_core.specs.Stores.{with_word, holds_in_block, is_untraced, may_be_entry, is_image_word, may_be_in_image, may_store_in_block}
use Rattle.area_core.specs.Step.{IsReadable, IsSound, blocks_of}
use Rattle.area_core.proofs.Places.{kind_place, word_here, word_there}
use Rattle.area_core.proofs.Held.{readable_held}
use Rattle.area_core.proofs.Tests.{some_passes, each_passes, number_found, generation_passes}
use Rattle.area_core.proofs.Frames.{code_after, breakpoints_after, terms_after, entries_after, retired_after, doomed_after, images_after, named_after, apart_after}

-- ---- what each store shares

-- a word has the kind of the one that was stored, or is as before
pub stored_off : (words : List ℕ) (place value : ℕ) (kind : WordKind) → kind_at place ≡ kind → (x : ℕ) → (kind_at x ≡ kind) ⊎ (word_at (slice_set words place value) x ≡ word_at words x)
stored_off words place value kind is x =
    elim (cases_eq x place) as (λ _. (kind_at x ≡ kind) ⊎ (word_at (slice_set words place value) x ≡ word_at words x)) [
      | inl same ↦ inl (ap kind_at same ∙ is)
      | inr differ ↦ inr (word_there words place value x differ)
    ]

-- a test that holds of the kept areas in a block holds of one of them
pub in_block_passes : (kept : List KeptArea) (block : ℕ) (test : KeptArea → Bool) (k : KeptArea) → holds_in_block kept block test ≡ true → Among kept k → k.area.block ≡ block → test k ≡ true
in_block_passes kept block test k all among same =
    elim (or_cases (not (k.area.block == block)) (test k) (each_passes (λ k. not (k.area.block == block) || test k) kept among.0 k all among.1)) as (λ _. test k ≡ true) [
      | inl other ↦ absurd (true≢false (sym (eq-eqb k.area.block block same) ∙ not-true (k.area.block == block) other))
      | inr passes ↦ passes
    ]

-- ---- a word of a block

-- a word of a block is one of the table
pub block_within : (word block at : ℕ) → kind_at word ≡ InBlock block at → word < TABLE_WORDS
block_within word block at is = grind (arith, nat_tests)

-- a word of a block is stored that no root reads; what is said of entry words and images holds of it
pub block_word_kept :
    (s : Table) → IsSound s → (word value block at : ℕ) → kind_at word ≡ InBlock block at
    → ((g : ℕ) (p : Published) → IsReadable s g → slice_get s.published g ≡ Some p → RootFits p.root → (entry : ℕ) → entry < EXPORT_ENTRIES → InBlock block at ≡ InBlock p.root.code entry → ⊥)
    → ((g : ℕ) (p : Published) → IsReadable s g → slice_get s.published g ≡ Some p → RootFits p.root → (a : AreaRef) → Among p.areas a → IsTrue (is_instance p a.serial) → IsForInstances a.block → (function : ℕ) → function < FUNCTIONS → InBlock block at ≡ InBlock (BREAKPOINTS_START + p.root.bp) (breakpoint_at a.block function) → ⊥)
    → ((g : ℕ) (p : Published) → IsReadable s g → slice_get s.published g ≡ Some p → RootFits p.root → (place : ℕ) → place < BIG_WORDS → InBlock block at ≡ InBlock (TERMS_START + p.root.term) place → ⊥)
    → ((g : ℕ) (p : Published) → IsReadable s g → slice_get s.published g ≡ Some p → (k : KeptArea) → Among s.kept k → (function : ℕ) → IsTrue (has_function k function) → InBlock block at ≡ InBlock k.area.block (image_entry_at function) → value ≡ 0 → is_traced_function p k.area.serial function ≡ false)
    → ((k : KeptArea) → Among s.kept k → (place old : ℕ) → slice_get k.words place ≡ Some old → is_entry_word k place ≡ false → InBlock block at ≡ InBlock k.area.block place → value ≡ old)
    → IsSound (with_word s word value)
block_word_kept s sound word value block at is code breakpoints terms entries images = record {
  progress = sound.progress;
  blocks = record {
    roots_fit = sound.blocks.roots_fit;
    instances_placed = sound.blocks.instances_placed;
    code_stands = code_after (blocks_of s) (IsReadable s) new (InBlock block at) off sound.blocks code;
    breakpoints_stand = breakpoints_after (blocks_of s) (IsReadable s) new (InBlock block at) off sound.blocks breakpoints;
    terms_stand = terms_after (blocks_of s) (IsReadable s) new (InBlock block at) off sound.blocks terms;
    used_kept = sound.blocks.used_kept;
    areas_stand = λ g p counts here k among. record {
      entries = entries_after (blocks_of s) (IsReadable s) new (InBlock block at) off sound.blocks g p counts here k among (λ function has same none. entries g p counts here k among function has same (sym (stored k.area.block (image_entry_at function) same) ∙ none));
      retired = retired_after (blocks_of s) (IsReadable s) new (InBlock block at) off sound.blocks g p counts here k among (λ same. absurd (cc));
      doomed = doomed_after (blocks_of s) (IsReadable s) new (InBlock block at) off sound.blocks g p counts here k among (λ same. absurd (cc));
    };
    images_stand = λ k among. images_after (blocks_of s) (IsReadable s) new (InBlock block at) off sound.blocks k among (λ place old has plain same. stored k.area.block place same ∙ images k among place old has plain same);
    kept_fit = sound.blocks.kept_fit;
    kept_apart = sound.blocks.kept_apart;
    named_kept = named_after (blocks_of s) (IsReadable s) new (InBlock block at) off sound.blocks (λ same. absurd (cc));
    anchors_apart = apart_after (blocks_of s) (IsReadable s) new (InBlock block at) off sound.blocks (λ same. absurd (cc));
  };
  words = length-set s.words word value ∙ sound.words;
  published = sound.published;
}
  where
    new : ℕ → ℕ
    new = word_at (slice_set s.words word value)

    off : (x : ℕ) → (kind_at x ≡ InBlock block at) ⊎ (word_at (slice_set s.words word value) x ≡ word_at s.words x)
    off = stored_off s.words word value (InBlock block at) is

    stored : (other place : ℕ) → InBlock block at ≡ InBlock other place → word_at (slice_set s.words word value) (block_place other place) ≡ value
    stored other place same =
        let here : block_place other place ≡ word = sym (kind_place word other place (is ∙ same)).0 in
        ap (word_at (slice_set s.words word value)) here ∙ word_here s.words word value (subst (λ n. word < n) (sym sound.words) (block_within word block at is))

-- ---- a store that the test lets through

-- the block and place of a word
pub same_block : (block at other place : ℕ) → InBlock block at ≡ InBlock other place → (block ≡ other) × (at ≡ place)
same_block block at other place same = (cc, cc)

reads_code : (p : Published) (block at : ℕ) → block ≡ p.root.code → block < 3 → reads_in_block p block at ≡ true
reads_code p block at same low = rw (lt-ltb block 3 low) (eq-eqb block p.root.code same)

reads_breakpoint : (p : Published) (block at : ℕ) → block ≡ 3 + p.root.bp → block < 5 → has_instance_in p (9 + at / 16) ≡ true → reads_in_block p block at ≡ true
reads_breakpoint p block at same low has =
    let high : 3 ≤ block = omega (arith) in
    rw (le-ltb block 3 high, lt-ltb block 5 low, eq-eqb block (3 + p.root.bp) same) has

reads_term : (p : Published) (block at : ℕ) → block ≡ 5 + p.root.term → block < 9 → reads_in_block p block at ≡ true
reads_term p block at same low =
    let high : 3 ≤ block = omega (arith) in
    let higher : 5 ≤ block = omega (arith) in
    rw (le-ltb block 3 high, le-ltb block 5 higher, lt-ltb block 9 low) (eq-eqb block (5 + p.root.term) same)

has_instance_at : (p : Published) (a : AreaRef) (function at : ℕ) → Among p.areas a → IsTrue (is_instance p a.serial) → 9 ≤ a.block → function < 16 → at ≡ (a.block - 9) * 16 + function → has_instance_in p (9 + at / 16) ≡ true
has_instance_at p a function at among instance high few is =
    let row : a.block ≡ 9 + at / 16 = omega (arith) in
    some_passes (λ a. (a.block == 9 + at / 16) && is_instance p a.serial) p.areas among.0 a among.1 (and_from (a.block == 9 + at / 16) (is_instance p a.serial) (eq-eqb a.block (9 + at / 16) row) instance)

-- the place of an entry word is that of one
pub entry_is : (k : KeptArea) (function : ℕ) → IsTrue (has_function k function) → is_entry_word k (image_entry_at function) ≡ true
entry_is k function has =
    let back : (function * 4 + 6) / 4 - 1 ≡ function = omega (arith) in
    let rest : (function * 4 + 6) % 4 ≡ 2 = omega (arith) in
    let own : has_function k ((function * 4 + 6) / 4 - 1) ≡ true = ap (has_function k) back ∙ has in
    rw (le-leb 6 (function * 4 + 6) (omega (arith)), eq-eqb ((function * 4 + 6) % 4) 2 rest) own

-- an entry word that may become 0 is that of a function that no thread may find traced
pub untraced_after : (s : Table) (value serial function g : ℕ) (p : Published) → may_be_entry s (readable_generations s.progress) serial function value ≡ true → value ≡ 0 → list_any (λ x. x == g) (readable_generations s.progress) ≡ true → slice_get s.published g ≡ Some p → is_traced_function p serial function ≡ false
untraced_after s value serial function g p may none among at =
    elim (or_cases (not (value == 0)) (is_untraced s (readable_generations s.progress) serial function) may) as (λ _. is_traced_function p serial function ≡ false) [
      | inl other ↦ absurd (true≢false (sym (eq-eqb value 0 none) ∙ not-true (value == 0) other))
      | inr untraced ↦ not-true (is_traced_function p serial function) (generation_passes s.published (readable_generations s.progress) (λ g p. not (is_traced_function p serial function)) g p untraced among at)
    ]

-- the test of the entry word of a function
abbrev may_be_entry_of : Table → ℕ → KeptArea → ℕ → Bool
may_be_entry_of s value k function = may_be_entry s (readable_generations s.progress) k.area.serial function value

-- a word of a block is stored where the test lets it through
module _ (s : Table) (sound : IsSound s) (word value block at : ℕ) (is : kind_at word ≡ InBlock block at) (may : IsTrue (may_store_in_block s (readable_generations s.progress) block at value)) where
  both : (is_read s (readable_generations s.progress) (InBlock block at) ≡ false) × (holds_in_block s.kept block (may_be_in_image s (readable_generations s.progress) at value) ≡ true)
  both =
      let parts = and_parts (not (is_read s (readable_generations s.progress) (InBlock block at))) (holds_in_block s.kept block (may_be_in_image s (readable_generations s.progress) at value)) may in
      (not-true (is_read s (readable_generations s.progress) (InBlock block at)) parts.0, parts.1)

  -- a generation that a thread may read does not read the word
  pub unread : (g : ℕ) (p : Published) → IsReadable s g → slice_get s.published g ≡ Some p → reads_in_block p block at ≡ true → ⊥
  unread g p counts here reads =
      let under = number_found (λ g. is_read_under (InBlock block at) (slice_get s.published g)) (readable_generations s.progress) g (readable_held s.progress sound.progress g counts) (ap (is_read_under (InBlock block at)) here ∙ reads) in
      true≢false (sym (or_left (list_any (λ g. is_read_under (InBlock block at) (slice_get s.published g)) (readable_generations s.progress)) (slots_read All s (InBlock block at)) under) ∙ both.0)

  -- the word is one of a kept area only where it may become the value
  in_image : (k : KeptArea) → Among s.kept k → (place : ℕ) → InBlock block at ≡ InBlock k.area.block place → may_be_in_image s (readable_generations s.progress) place value k ≡ true
  in_image k among place same =
      let parts = same_block block at k.area.block place same in
      ap (λ x. may_be_in_image s (readable_generations s.progress) x value k) (sym parts.1) ∙ in_block_passes s.kept block (may_be_in_image s (readable_generations s.progress) at value) k both.1 among (sym parts.0)

  pub block_stored : IsSound (with_word s word value)
  block_stored = block_word_kept s sound word value block at is
      (λ g p counts here root entry within same.
      let parts = same_block block at p.root.code entry same in
      let code = root.code in
      unread g p counts here (reads_code p block at parts.0 (omega (arith, parts.0, code))))
      (λ g p counts here root a among instance fits function few same.
      let parts = same_block block at (BREAKPOINTS_START + p.root.bp) (breakpoint_at a.block function) same in
      let bp = root.bp in
      unread g p counts here (reads_breakpoint p block at parts.0 (omega (arith, parts.0, bp)) (has_instance_at p a function at among instance fits.first few parts.1)))
      (λ g p counts here root place within same.
      let parts = same_block block at (TERMS_START + p.root.term) place same in
      let term = root.term in
      unread g p counts here (reads_term p block at parts.0 (omega (arith, parts.0, term))))
      (λ g p counts here k among function has same none.
      untraced_after s value k.area.serial function g p (may_entry k function has (in_image k among (image_entry_at function) same)) none (readable_held s.progress sound.progress g counts) here)
      (λ k among place old has plain same. plain_word k place old has plain (in_image k among place same))
    where
      may_entry : (k : KeptArea) (function : ℕ) → IsTrue (has_function k function) → may_be_in_image s (readable_generations s.progress) (image_entry_at function) value k ≡ true → may_be_entry s (readable_generations s.progress) k.area.serial function value ≡ true
      may_entry k function has passes =
          let back : (function * 4 + 6) / 4 - 1 ≡ function = omega (arith) in
          ap (may_be_entry_of s value k) (sym back)
          ∙ sym (cond-true (is_entry_word k (image_entry_at function)) (may_be_entry s (readable_generations s.progress) k.area.serial (image_entry_at function / 4 - 1) value) (is_image_word (slice_get k.words (image_entry_at function)) value) (entry_is k function has))
          ∙ passes

      plain_word : (k : KeptArea) (place old : ℕ) → slice_get k.words place ≡ Some old → is_entry_word k place ≡ false → may_be_in_image s (readable_generations s.progress) place value k ≡ true → value ≡ old
      plain_word k place old has plain passes =
          let image : is_image_word (slice_get k.words place) value ≡ true = sym (cond-false (is_entry_word k place) (may_be_entry s (readable_generations s.progress) k.area.serial (place / 4 - 1) value) (is_image_word (slice_get k.words place) value) plain) ∙ passes in
          sym (eqb-true old value (ap (λ (o : Option ℕ). is_image_word o value) (sym has) ∙ image))
