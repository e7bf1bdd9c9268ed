-- What the test of a store of the root says of the words, the areas and the keys.
use Rattle.std.proofs.Common.{◌≡◌, ◌≢◌, ℕ, zero, suc, ◌+◌, ◌<◌, ◌≤◌, Bool, true, false, not, ◌&&◌, ◌||◌, List, [], ◌∷◌, ◌++◌, length, Option, Some, ◌⊎◌, inl, inr, refl, sym, ap, ◌∙◌, subst, arith}
use Rattle.std.specs.Prelude.{◌==◌, slice_get, IsTrue, nat_lt, nat_le}
use Rattle.std.specs.List.{list_any, list_all}
use Rattle.std.proofs.lemmas.Bool.{and_parts, or_cases, lt-ltb, ltb-true, leb-true, eq-eqb, eqb-true, eqb-false, not-true, cases_lt, true≢false}
use Rattle.std.proofs.lemmas.Bool.Decides.{nat_tests}
use Rattle.std.proofs.lemmas.Option.{slice_get_within}
use Rattle.prgr_core.proofs.Parts.{some_same}
use Rattle.term_core.specs.declared.area.AreaRef.{AreaRef}
use Rattle.term_core.specs.declared.generation.KeyTerm.{KeyTerm}
use Rattle.term_core.specs.declared.generation.Holding.{Holding}
use Rattle.term_core.specs.declared.generation.Holding.TheVariants.{Word, Area}
use Rattle.area_core.specs.declared.map.TheConstants.{BLOCKS, BIG_BLOCKS, BIG_WORDS, CODE_INDICES, BREAKPOINT_INDICES, TERM_TABLES, AREAS_START, EXPORT_ENTRIES, FUNCTIONS}
use Rattle.area_core.specs.declared.table.Root.{Root}
use Rattle.area_core.specs.declared.table.Published.{Published}
use Rattle.area_core.specs.declared.table.KeptArea.{KeptArea}
use Rattle.area_core.specs.Map.{word_at, block_place, breakpoint_place, retire_place, doom_place, image_entry_at, room_of}
use Rattle.area_core.specs.Generations.{is_instance, is_retired_area, is_doomed_area, is_traced_function, is_key_area, holds_area, has_serial, is_kept_as, functions_in_image, has_function, is_entry_word, is_code_word, traced_word, tells, are_alike}
use Rattle.area_core.specs.Stores.{is_image_word}
use Rattle.area_core.specs.Blocks.{RootFits, IsForInstances, InstancesPlaced, CodeStands, BreakpointsStand, UsedAreKept, FitsBlock, ImageStands, AreaStands, KeptApart}
use Rattle.area_core.specs.Roots.{root_fits, is_for_instances, instances_placed, code_stands, traces_stand, breakpoints_stand, fits_block, is_apart, are_apart, image_stands, entries_stand, retire_tells, doom_tells, area_stands, is_holding_kept, used_are_kept}
use Rattle.area_core.proofs.Counted.{code_suc, traces_suc, entries_suc, image_suc}
use Rattle.area_core.proofs.Tests.{each_passes, passed_by, number_passes, three_hold, four_hold, one_of_two, agrees_same}
use Rattle.area_core.proofs.Frames.{function_fits}

-- a test that goes through the first so many holds of each of them
count_each : (test each : ℕ → Bool) → ((n : ℕ) → test (suc n) ≡ (test n && each n)) → (n i : ℕ) → test n ≡ true → i < n → each i ≡ true
count_each test each next zero i e below = absurd (omega (arith))
count_each test each next (suc n) i e below =
    let parts = and_parts (test n) (each n) (sym (next n) ∙ e) in
    elim (cases_lt i n) as (λ _. each i ≡ true) [
      | inl before ↦ count_each test each next n i parts.0 before
      | inr last ↦ let same : n ≡ i = omega (arith) in subst (λ (m : ℕ). each m ≡ true) same parts.1
    ]

-- ---- the root and its blocks

pub root_says : (root : Root) → root_fits root ≡ true → RootFits root
root_says root e =
    let parts = three_hold (nat_lt root.code CODE_INDICES) (nat_lt root.bp BREAKPOINT_INDICES) (nat_lt root.term TERM_TABLES) e in
    record {
      code = ltb-true root.code CODE_INDICES parts.0;
      bp = ltb-true root.bp BREAKPOINT_INDICES parts.1;
      term = ltb-true root.term TERM_TABLES parts.2;
    }

for_instances_says : (block : ℕ) → is_for_instances block ≡ true → IsForInstances block
for_instances_says block e =
    let parts = and_parts (nat_le AREAS_START block) (nat_lt block BIG_BLOCKS) e in
    record { first = leb-true AREAS_START block parts.0; last = ltb-true block BIG_BLOCKS parts.1 }

pub instances_say : (p : Published) → instances_placed p ≡ true → InstancesPlaced p
instances_say p e a among instance =
    elim (or_cases (not (is_instance p a.serial)) (is_for_instances a.block) (each_passes (λ (a : AreaRef). not (is_instance p a.serial) || is_for_instances a.block) p.areas among.0 a e among.1)) as (λ _. IsForInstances a.block) [
      | inl other ↦ absurd (true≢false (sym instance ∙ not-true (is_instance p a.serial) other))
      | inr placed ↦ for_instances_says a.block placed
    ]

pub code_says : (words : List ℕ) (p : Published) → code_stands words p EXPORT_ENTRIES ≡ true → CodeStands (word_at words) p
code_says words p e entry within = count_each (code_stands words p) (λ (n : ℕ). is_code_word p (slice_get p.state.exports n) (word_at words (block_place p.root.code n))) (code_suc words p) EXPORT_ENTRIES entry e within

pub breakpoints_say : (words : List ℕ) (p : Published) → breakpoints_stand words p ≡ true → BreakpointsStand (word_at words) p
breakpoints_say words p e a among instance function few =
    elim (or_cases (not (is_instance p a.serial)) (traces_stand words p a FUNCTIONS) (each_passes (λ (a : AreaRef). not (is_instance p a.serial) || traces_stand words p a FUNCTIONS) p.areas among.0 a e among.1)) as (λ _. word_at words (breakpoint_place p.root.bp a.block function) ≡ traced_word p a.serial function) [
      | inl other ↦ absurd (true≢false (sym instance ∙ not-true (is_instance p a.serial) other))
      | inr traces ↦ eqb-true (word_at words (breakpoint_place p.root.bp a.block function)) (traced_word p a.serial function) (count_each (traces_stand words p a) (λ (n : ℕ). word_at words (breakpoint_place p.root.bp a.block n) == traced_word p a.serial n) (traces_suc words p a) FUNCTIONS function traces few)
    ]

-- ---- areas

pub fits_says : (k : KeptArea) → fits_block k ≡ true → FitsBlock k
fits_says k e =
    let parts = four_hold (nat_le AREAS_START k.area.block) (nat_lt k.area.block BLOCKS) (nat_le (length k.words) (room_of k.area.block)) (not (nat_lt k.area.block BIG_BLOCKS) || nat_le (functions_in_image k.words) FUNCTIONS) e in
    record {
      first = leb-true AREAS_START k.area.block parts.0;
      last = ltb-true k.area.block BLOCKS parts.1;
      room = leb-true (length k.words) (room_of k.area.block) parts.2;
      functions = λ big. few big parts.3;
    }
  where
    few : k.area.block < BIG_BLOCKS → (not (nat_lt k.area.block BIG_BLOCKS) || nat_le (functions_in_image k.words) FUNCTIONS) ≡ true → functions_in_image k.words ≤ FUNCTIONS
    few big may =
        elim (or_cases (not (nat_lt k.area.block BIG_BLOCKS)) (nat_le (functions_in_image k.words) FUNCTIONS) may) as (λ _. functions_in_image k.words ≤ FUNCTIONS) [
          | inl other ↦ absurd (true≢false (sym (lt-ltb k.area.block BIG_BLOCKS big) ∙ not-true (nat_lt k.area.block BIG_BLOCKS) other))
          | inr within ↦ leb-true (functions_in_image k.words) FUNCTIONS within
        ]

most_room : (block : ℕ) → room_of block ≤ 1024
most_room block = grind (arith, nat_tests)

pub image_says : (words : List ℕ) (k : KeptArea) → FitsBlock k → image_stands words k BIG_WORDS ≡ true → ImageStands (word_at words) k
image_says words k fits e at value has plain =
    elim (or_cases (is_entry_word k at) (is_image_word (slice_get k.words at) (word_at words (block_place k.area.block at))) (count_each (image_stands words k) (λ (n : ℕ). is_entry_word k n || is_image_word (slice_get k.words n) (word_at words (block_place k.area.block n))) (image_suc words k) BIG_WORDS at e (within (length k.words) (room_of k.area.block) (slice_get_within k.words at value has) fits.room (most_room k.area.block)))) as (λ _. word_at words (block_place k.area.block at) ≡ value) [
      | inl entry ↦ absurd (true≢false (sym entry ∙ plain))
      | inr image ↦ sym (eqb-true value (word_at words (block_place k.area.block at)) (ap (λ (o : Option ℕ). is_image_word o (word_at words (block_place k.area.block at))) (sym has) ∙ image))
    ]
  where
    within : (len room : ℕ) → at < len → len ≤ room → room ≤ 1024 → at < 1024
    within len room a b c = omega (arith)

none_of_three : (a b c : Bool) → (not a || not b || not c) ≡ true → a ≡ true → b ≡ true → c ≡ false
none_of_three true true false e f g = refl
none_of_three a b c e f g = absurd (cc)

pub area_says : (words : List ℕ) (k : KeptArea) (g : ℕ) (p : Published) → FitsBlock k → area_stands words k g p ≡ true → AreaStands (word_at words) k g p
area_says words k g p fits e =
    let parts = three_hold (entries_stand words k p FUNCTIONS) (retire_tells words k g p) (doom_tells words k g p) e in
    record {
      entries = λ function has none. entry function has none parts.0;
      retired = agrees_same (tells (word_at words (retire_place k.area.block)) g) (is_retired_area p k.area.serial) parts.1;
      doomed = λ big unretired. doom big unretired parts.2;
    }
  where
    entry : (function : ℕ) → IsTrue (has_function k function) → word_at words (block_place k.area.block (image_entry_at function)) ≡ 0 → entries_stand words k p FUNCTIONS ≡ true → is_traced_function p k.area.serial function ≡ false
    entry function has none all =
        none_of_three (has_function k function) (word_at words (block_place k.area.block (image_entry_at function)) == 0) (is_traced_function p k.area.serial function)
        (count_each (entries_stand words k p) (λ (n : ℕ). not (has_function k n) || not (word_at words (block_place k.area.block (image_entry_at n)) == 0) || not (is_traced_function p k.area.serial n)) (entries_suc words k p) FUNCTIONS function all (function_fits k function fits has).1)
        has (eq-eqb (word_at words (block_place k.area.block (image_entry_at function))) 0 none)

    doom : k.area.block < BIG_BLOCKS → is_retired_area p k.area.serial ≡ false → doom_tells words k g p ≡ true → tells (word_at words (doom_place k.area.block)) g ≡ is_doomed_area p k.area.serial
    doom big unretired all =
        elim (one_of_two (nat_lt k.area.block BIG_BLOCKS) (is_retired_area p k.area.serial) (are_alike (tells (word_at words (doom_place k.area.block)) g) (is_doomed_area p k.area.serial)) all (lt-ltb k.area.block BIG_BLOCKS big)) as (λ _. tells (word_at words (doom_place k.area.block)) g ≡ is_doomed_area p k.area.serial) [
          | inl retired ↦ absurd (true≢false (sym retired ∙ unretired))
          | inr agree ↦ agrees_same (tells (word_at words (doom_place k.area.block)) g) (is_doomed_area p k.area.serial) agree
        ]

-- ---- what is used

holding_says : (kept : List KeptArea) (p : Published) (serial : ℕ) (holding : Holding) → holds_area serial holding ≡ true → is_holding_kept kept p holding ≡ true → list_any (is_kept_as p serial) kept ≡ true
holding_says kept p serial (Word value) is e = absurd (cc)
holding_says kept p serial (Area own) is e = subst (λ (x : ℕ). list_any (is_kept_as p x) kept ≡ true) (eqb-true own serial is) e

pub used_say : (kept : List KeptArea) (p : Published) → used_are_kept kept p ≡ true → UsedAreKept kept p
used_say kept p e serial uses =
    let parts = three_hold (list_all (λ (serial : ℕ). list_any (is_kept_as p serial) kept) p.state.current) (list_all (λ (serial : ℕ). list_any (is_kept_as p serial) kept) p.state.old) (list_all (λ (k : KeyTerm). is_holding_kept kept p k.holding) p.state.keys) e in
    elim (or_cases (is_instance p serial) (is_key_area p serial) uses) as (λ _. IsTrue (list_any (is_kept_as p serial) kept)) [
      | inl instance ↦ elim (or_cases (has_serial p.state.current serial) (has_serial p.state.old serial) instance) as (λ _. IsTrue (list_any (is_kept_as p serial) kept)) [
        | inl current ↦ number_passes (λ (serial : ℕ). list_any (is_kept_as p serial) kept) p.state.current serial parts.0 current
        | inr old ↦ number_passes (λ (serial : ℕ). list_any (is_kept_as p serial) kept) p.state.old serial parts.1 old
      ]
      | inr key ↦
          let found = passed_by (λ (k : KeyTerm). holds_area serial k.holding) p.state.keys key in
          holding_says kept p serial found.0.holding found.3 (each_passes (λ (k : KeyTerm). is_holding_kept kept p k.holding) p.state.keys found.1 found.0 parts.2 found.2)
    ]

-- ---- areas apart

-- two areas differ in serial and block
abbrev pub AreApart : KeptArea → KeptArea → Type 0
AreApart a b = (a.area.serial ≢ b.area.serial) × (a.area.block ≢ b.area.block)

apart_says : (a b : KeptArea) → is_apart a b ≡ true → AreApart a b
apart_says a b e =
    let parts = and_parts (not (a.area.serial == b.area.serial)) (not (a.area.block == b.area.block)) e in
    (eqb-false a.area.serial b.area.serial (not-true (a.area.serial == b.area.serial) parts.0), eqb-false a.area.block b.area.block (not-true (a.area.block == b.area.block) parts.1))

turned : (a b : KeptArea) → AreApart a b → AreApart b a
turned a b apart = ((λ same. apart.0 (sym same)), (λ same. apart.1 (sym same)))

-- each fresh area is apart from what was kept
from_kept : (kept fresh : List KeptArea) → are_apart kept fresh ≡ true → (i j : ℕ) (a b : KeptArea) → slice_get fresh i ≡ Some a → slice_get kept j ≡ Some b → AreApart a b
from_kept kept [] e i j a b is_a is_b = absurd (cc)
from_kept kept (k ∷ fresh) e zero j a b is_a is_b =
    let parts = three_hold (list_all (is_apart k) kept) (list_all (is_apart k) fresh) (are_apart kept fresh) e in
    subst (λ (x : KeptArea). AreApart x b) (some_same k a is_a) (apart_says k b (each_passes (is_apart k) kept j b parts.0 is_b))
from_kept kept (k ∷ fresh) e (suc i) j a b is_a is_b =
    let parts = three_hold (list_all (is_apart k) kept) (list_all (is_apart k) fresh) (are_apart kept fresh) e in
    from_kept kept fresh parts.2 i j a b is_a is_b

-- fresh areas are apart from each other
from_fresh : (kept fresh : List KeptArea) → are_apart kept fresh ≡ true → KeptApart fresh
from_fresh kept [] e i j a b differ is_a is_b = absurd (cc)
from_fresh kept (k ∷ fresh) e zero zero a b differ is_a is_b = absurd (differ refl)
from_fresh kept (k ∷ fresh) e zero (suc j) a b differ is_a is_b =
    let parts = three_hold (list_all (is_apart k) kept) (list_all (is_apart k) fresh) (are_apart kept fresh) e in
    subst (λ (x : KeptArea). AreApart x b) (some_same k a is_a) (apart_says k b (each_passes (is_apart k) fresh j b parts.1 is_b))
from_fresh kept (k ∷ fresh) e (suc i) zero a b differ is_a is_b =
    let parts = three_hold (list_all (is_apart k) kept) (list_all (is_apart k) fresh) (are_apart kept fresh) e in
    subst (λ (x : KeptArea). AreApart a x) (some_same k b is_b) (turned k a (apart_says k a (each_passes (is_apart k) fresh i a parts.1 is_a)))
from_fresh kept (k ∷ fresh) e (suc i) (suc j) a b differ is_a is_b =
    let parts = three_hold (list_all (is_apart k) kept) (list_all (is_apart k) fresh) (are_apart kept fresh) e in
    from_fresh kept fresh parts.2 i j a b (λ same. differ (ap suc same)) is_a is_b

-- what stands in two lists together stands in one of them
pub in_either : (xs ys : List KeptArea) (i : ℕ) (x : KeptArea) → slice_get (xs ++ ys) i ≡ Some x → (slice_get xs i ≡ Some x) ⊎ ((j : ℕ) × (i ≡ length xs + j) × (slice_get ys j ≡ Some x))
in_either [] ys i x at = inr (i, omega (arith), at)
in_either (z ∷ xs) ys zero x at = inl at
in_either (z ∷ xs) ys (suc i) x at =
    elim (in_either xs ys i x at) as (λ _. (slice_get xs i ≡ Some x) ⊎ ((j : ℕ) × (suc i ≡ length (z ∷ xs) + j) × (slice_get ys j ≡ Some x))) [
      | inl first ↦ inl first
      | inr second ↦ let same = second.1 in inr (second.0, omega (arith, same), second.2)
    ]

-- kept and fresh areas are apart
pub apart_together : (kept fresh : List KeptArea) → KeptApart kept → are_apart kept fresh ≡ true → KeptApart (kept ++ fresh)
apart_together kept fresh apart e i j a b differ is_a is_b =
    elim (in_either kept fresh i a is_a) as (λ _. AreApart a b) [
      | inl kept_a ↦ elim (in_either kept fresh j b is_b) as (λ _. AreApart a b) [
        | inl kept_b ↦ apart i j a b differ kept_a kept_b
        | inr fresh_b ↦ turned b a (from_kept kept fresh e fresh_b.0 i b a fresh_b.2 kept_a)
      ]
      | inr fresh_a ↦ elim (in_either kept fresh j b is_b) as (λ _. AreApart a b) [
        | inl kept_b ↦ from_kept kept fresh e fresh_a.0 j a b fresh_a.2 kept_b
        | inr fresh_b ↦ from_fresh kept fresh e fresh_a.0 fresh_b.0 a b (λ same. differ (fresh_a.1 ∙ ap (λ (n : ℕ). length kept + n) same ∙ sym fresh_b.1)) fresh_a.2 fresh_b.2
      ]
    ]
