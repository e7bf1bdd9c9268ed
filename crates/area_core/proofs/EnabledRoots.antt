-- The root may be stored exactly where the block invariant holds after it.
use Rattle.std.proofs.Common.{◌≡◌, ◌≢◌, ℕ, zero, suc, ◌+◌, ◌<◌, Bool, true, false, not, ◌&&◌, ◌||◌, ◌↔◌, List, [], ◌∷◌, ◌++◌, length, Option, Some, None, inl, inr, refl, sym, ap, ◌∙◌, subst, arith}
use Rattle.std.specs.Prelude.{◌==◌, slice_get, IsTrue, nat_lt, nat_le, if◌then◌else◌}
use Rattle.std.specs.List.{list_any, list_all}
use Rattle.std.proofs.lemmas.Bool.{and_from, or_left, or_right, lt-ltb, ltb-true, le-leb, eq-eqb, eqb-true, ne_eqb, not_from_false, cases_Bool}
use Rattle.std.proofs.lemmas.Option.{slice_get_within}
use Rattle.term_core.specs.declared.area.AreaRef.{AreaRef}
use Rattle.term_core.specs.declared.generation.Generation.{Generation}
use Rattle.term_core.specs.declared.generation.KeyTerm.{KeyTerm}
use Rattle.term_core.specs.declared.generation.Holding.{Holding}
use Rattle.term_core.specs.declared.generation.Holding.TheVariants.{Word, Area}
use Rattle.area_core.specs.declared.map.TheConstants.{BLOCKS, BIG_BLOCKS, BIG_WORDS, CODE_INDICES, BREAKPOINT_INDICES, TERM_TABLES, AREAS_START, EXPORT_ENTRIES, FUNCTIONS}
use Rattle.area_core.specs.declared.event.AreaEvent.TheVariants.{StoreRoot}
use Rattle.area_core.specs.declared.table.Root.{Root}
use Rattle.area_core.specs.declared.table.Published.{Published}
use Rattle.area_core.specs.declared.table.KeptArea.{KeptArea}
use Rattle.area_core.specs.declared.table.Table.{Table}
use Rattle.area_core.specs.Map.{word_at, block_place, breakpoint_place, image_entry_at, retire_place, doom_place, room_of}
use Rattle.area_core.specs.Generations.{is_instance, is_key_area, is_retired_area, is_doomed_area, is_traced_function, holds_area, has_serial, is_kept_as, functions_in_image, has_function, is_entry_word, is_code_word, traced_word, tells, are_alike}
use Rattle.area_core.specs.Stores.{is_image_word}
use Rattle.area_core.specs.Terms.{terms_stand}
use Rattle.area_core.specs.Blocks.{Among, RootFits, InstancesPlaced, CodeStands, BreakpointsStand, term_blocks_words, UsedAreKept, FitsBlock, ImageStands, AreaStands, KeptApart}
use Rattle.area_core.specs.Readers.{held_generations, holds_of_each}
use Rattle.area_core.specs.Roots.{root_fits, is_for_instances, instances_placed, blocks_stand, code_stands, traces_stand, breakpoints_stand, fresh_areas, fits_block, is_apart, are_apart, image_stands, entries_stand, retire_tells, doom_tells, area_stands, is_fresh_sound, is_holding_kept, used_are_kept}
use Rattle.area_core.specs.Step.{after, to_publish, may_publish_in, appended, IsReadable, IsSound}
use Rattle.area_core.specs.Enabled.{BlocksStand, with_root}
use Rattle.area_core.proofs.Counted.{code_none, code_suc, traces_none, traces_suc, entries_none, entries_suc, image_none, image_suc}
use Rattle.area_core.proofs.Held.{held_may}
use Rattle.area_core.proofs.Tests.{some_passes, all_pass}
use Rattle.area_core.proofs.FromFacts.{three_from, four_from, agrees_from, count_from, each_generation}
use Rattle.area_core.proofs.TermTests.{terms_stand_back}
use Rattle.area_core.proofs.RootStores.{next_sound, root_store_keeps}

-- ---- the root and its blocks

root_back : (root : Root) → RootFits root → root_fits root ≡ true
root_back root fits = three_from (nat_lt root.code CODE_INDICES) (nat_lt root.bp BREAKPOINT_INDICES) (nat_lt root.term TERM_TABLES) (lt-ltb root.code CODE_INDICES fits.code) (lt-ltb root.bp BREAKPOINT_INDICES fits.bp) (lt-ltb root.term TERM_TABLES fits.term)

-- a test of each instance among the areas
each_instance : (p : Published) (test : AreaRef → Bool) → ((a : AreaRef) → Among p.areas a → IsTrue (is_instance p a.serial) → test a ≡ true) → list_all (λ (a : AreaRef). not (is_instance p a.serial) || test a) p.areas ≡ true
each_instance p test each = all_pass (λ (a : AreaRef). not (is_instance p a.serial) || test a) p.areas (λ i a at.
    elim (cases_Bool (is_instance p a.serial)) as (λ _. (not (is_instance p a.serial) || test a) ≡ true) [
      | inl instance ↦ or_right (not (is_instance p a.serial)) (test a) (each a (i, at) instance)
      | inr other ↦ or_left (not (is_instance p a.serial)) (test a) (not_from_false (is_instance p a.serial) other)
    ])

placed_back : (p : Published) → InstancesPlaced p → instances_placed p ≡ true
placed_back p placed = each_instance p (λ (a : AreaRef). is_for_instances a.block) (λ a among instance.
    let block = placed a among instance in
    and_from (nat_le AREAS_START a.block) (nat_lt a.block BIG_BLOCKS) (le-leb AREAS_START a.block block.first) (lt-ltb a.block BIG_BLOCKS block.last))

code_back : (words : List ℕ) (p : Published) → CodeStands (word_at words) p → code_stands words p EXPORT_ENTRIES ≡ true
code_back words p stands = count_from (code_stands words p) (λ (n : ℕ). is_code_word p (slice_get p.state.exports n) (word_at words (block_place p.root.code n))) (code_none words p) (code_suc words p) EXPORT_ENTRIES (λ entry within. stands entry within)

breakpoints_back : (words : List ℕ) (p : Published) → BreakpointsStand (word_at words) p → breakpoints_stand words p ≡ true
breakpoints_back words p stands = each_instance p (λ (a : AreaRef). traces_stand words p a FUNCTIONS) (λ a among instance.
    count_from (traces_stand words p a) (λ (n : ℕ). word_at words (breakpoint_place p.root.bp a.block n) == traced_word p a.serial n) (traces_none words p a) (traces_suc words p a) FUNCTIONS
    (λ function few. eq-eqb (word_at words (breakpoint_place p.root.bp a.block function)) (traced_word p a.serial function) (stands a among instance function few)))

-- ---- areas

unless_big : (block : ℕ) (test : Bool) → (block < BIG_BLOCKS → test ≡ true) → (not (nat_lt block BIG_BLOCKS) || test) ≡ true
unless_big block test each =
    elim (cases_Bool (nat_lt block BIG_BLOCKS)) as (λ _. (not (nat_lt block BIG_BLOCKS) || test) ≡ true) [
      | inl big ↦ or_right (not (nat_lt block BIG_BLOCKS)) test (each (ltb-true block BIG_BLOCKS big))
      | inr small ↦ or_left (not (nat_lt block BIG_BLOCKS)) test (not_from_false (nat_lt block BIG_BLOCKS) small)
    ]

fits_back : (k : KeptArea) → FitsBlock k → fits_block k ≡ true
fits_back k fits = four_from (nat_le AREAS_START k.area.block) (nat_lt k.area.block BLOCKS) (nat_le (length k.words) (room_of k.area.block)) (not (nat_lt k.area.block BIG_BLOCKS) || nat_le (functions_in_image k.words) FUNCTIONS)
    (le-leb AREAS_START k.area.block fits.first) (lt-ltb k.area.block BLOCKS fits.last) (le-leb (length k.words) (room_of k.area.block) fits.room)
    (unless_big k.area.block (nat_le (functions_in_image k.words) FUNCTIONS) (λ big. le-leb (functions_in_image k.words) FUNCTIONS (fits.functions big)))

image_back : (words : List ℕ) (k : KeptArea) → ImageStands (word_at words) k → image_stands words k BIG_WORDS ≡ true
image_back words k stands = count_from (image_stands words k) (λ (n : ℕ). is_entry_word k n || is_image_word (slice_get k.words n) (word_at words (block_place k.area.block n))) (image_none words k) (image_suc words k) BIG_WORDS (λ at within. word at (slice_get k.words at) refl)
  where
    word : (at : ℕ) (o : Option ℕ) → slice_get k.words at ≡ o → (is_entry_word k at || is_image_word (slice_get k.words at) (word_at words (block_place k.area.block at))) ≡ true
    word at None has = or_right (is_entry_word k at) (is_image_word (slice_get k.words at) (word_at words (block_place k.area.block at))) (ap (λ (o : Option ℕ). is_image_word o (word_at words (block_place k.area.block at))) has)
    word at (Some value) has =
        elim (cases_Bool (is_entry_word k at)) as (λ _. (is_entry_word k at || is_image_word (slice_get k.words at) (word_at words (block_place k.area.block at))) ≡ true) [
          | inl entry ↦ or_left (is_entry_word k at) (is_image_word (slice_get k.words at) (word_at words (block_place k.area.block at))) entry
          | inr plain ↦ or_right (is_entry_word k at) (is_image_word (slice_get k.words at) (word_at words (block_place k.area.block at))) (ap (λ (o : Option ℕ). is_image_word o (word_at words (block_place k.area.block at))) has ∙ eq-eqb value (word_at words (block_place k.area.block at)) (sym (stands at value has plain)))
        ]

one_fails : (a b c : Bool) → (a ≡ true → b ≡ true → c ≡ false) → (not a || not b || not c) ≡ true
one_fails true true c each = rw (each refl refl) refl
one_fails true false c each = refl
one_fails false b c each = refl

entries_back : (words : List ℕ) (k : KeptArea) (g : ℕ) (p : Published) → AreaStands (word_at words) k g p → entries_stand words k p FUNCTIONS ≡ true
entries_back words k g p stands = count_from (entries_stand words k p) (λ (n : ℕ). not (has_function k n) || not (word_at words (block_place k.area.block (image_entry_at n)) == 0) || not (is_traced_function p k.area.serial n)) (entries_none words k p) (entries_suc words k p) FUNCTIONS (λ function few.
    one_fails (has_function k function) (word_at words (block_place k.area.block (image_entry_at function)) == 0) (is_traced_function p k.area.serial function)
    (λ has none. stands.entries function has (eqb-true (word_at words (block_place k.area.block (image_entry_at function))) 0 none)))

either_true : (a b c : Bool) → (a ≡ true → b ≡ false → c ≡ true) → (not a || b || c) ≡ true
either_true true true c each = refl
either_true true false c each = each refl refl
either_true false b c each = refl

area_back : (words : List ℕ) (k : KeptArea) (g : ℕ) (p : Published) → AreaStands (word_at words) k g p → area_stands words k g p ≡ true
area_back words k g p stands = three_from (entries_stand words k p FUNCTIONS) (retire_tells words k g p) (doom_tells words k g p)
    (entries_back words k g p stands)
    (agrees_from (tells (word_at words (retire_place k.area.block)) g) (is_retired_area p k.area.serial) stands.retired)
    (either_true (nat_lt k.area.block BIG_BLOCKS) (is_retired_area p k.area.serial) (are_alike (tells (word_at words (doom_place k.area.block)) g) (is_doomed_area p k.area.serial))
    (λ big unretired. agrees_from (tells (word_at words (doom_place k.area.block)) g) (is_doomed_area p k.area.serial) (stands.doomed (ltb-true k.area.block BIG_BLOCKS big) unretired)))

-- ---- what is used

used_back : (kept : List KeptArea) (p : Published) → UsedAreKept kept p → used_are_kept kept p ≡ true
used_back kept p used = three_from (list_all (λ (serial : ℕ). list_any (is_kept_as p serial) kept) p.state.current) (list_all (λ (serial : ℕ). list_any (is_kept_as p serial) kept) p.state.old) (list_all (λ (k : KeyTerm). is_holding_kept kept p k.holding) p.state.keys)
    (all_pass (λ (serial : ℕ). list_any (is_kept_as p serial) kept) p.state.current (λ i serial at. instance serial (or_left (has_serial p.state.current serial) (has_serial p.state.old serial) (listed p.state.current i serial at))))
    (all_pass (λ (serial : ℕ). list_any (is_kept_as p serial) kept) p.state.old (λ i serial at. instance serial (or_right (has_serial p.state.current serial) (has_serial p.state.old serial) (listed p.state.old i serial at))))
    (all_pass (λ (k : KeyTerm). is_holding_kept kept p k.holding) p.state.keys (λ i k at. holding i k at k.holding refl))
  where
    listed : (serials : List ℕ) (i serial : ℕ) → slice_get serials i ≡ Some serial → has_serial serials serial ≡ true
    listed serials i serial at = some_passes (λ x. x == serial) serials i serial at (eq-eqb serial serial refl)

    instance : (serial : ℕ) → is_instance p serial ≡ true → list_any (is_kept_as p serial) kept ≡ true
    instance serial is = used serial (or_left (is_instance p serial) (is_key_area p serial) is)

    holding : (i : ℕ) (k : KeyTerm) → slice_get p.state.keys i ≡ Some k → (held : Holding) → k.holding ≡ held → is_holding_kept kept p k.holding ≡ true
    holding i k at (Word value) is = ap (is_holding_kept kept p) is
    holding i k at (Area serial) is =
        ap (is_holding_kept kept p) is
        ∙ used serial (or_right (is_instance p serial) (is_key_area p serial) (some_passes (λ (k : KeyTerm). holds_area serial k.holding) p.state.keys i k at (ap (holds_area serial) is ∙ eq-eqb serial serial refl)))

-- ---- areas apart

apart_back : (a b : KeptArea) → (a.area.serial ≢ b.area.serial) × (a.area.block ≢ b.area.block) → is_apart a b ≡ true
apart_back a b apart =
    and_from (not (a.area.serial == b.area.serial)) (not (a.area.block == b.area.block))
    (not_from_false (a.area.serial == b.area.serial) (ne_eqb a.area.serial b.area.serial apart.0))
    (not_from_false (a.area.block == b.area.block) (ne_eqb a.area.block b.area.block apart.1))

-- an element of two lists together
in_first : (xs ys : List KeptArea) (i : ℕ) (x : KeptArea) → slice_get xs i ≡ Some x → slice_get (xs ++ ys) i ≡ Some x
in_first [] ys i x at = absurd (cc)
in_first (z ∷ xs) ys zero x at = at
in_first (z ∷ xs) ys (suc i) x at = in_first xs ys i x at

in_second : (xs ys : List KeptArea) (j : ℕ) (x : KeptArea) → slice_get ys j ≡ Some x → slice_get (xs ++ ys) (length xs + j) ≡ Some x
in_second [] ys j x at = let same : j ≡ 0 + j = omega (arith) in subst (λ (n : ℕ). slice_get ys n ≡ Some x) same at
in_second (z ∷ xs) ys j x at =
    let same : suc (length xs + j) ≡ length (z ∷ xs) + j = omega (arith) in
    subst (λ (n : ℕ). slice_get (z ∷ (xs ++ ys)) n ≡ Some x) same (in_second xs ys j x at)

-- fresh areas are apart from what was kept and from each other
are_apart_back : (kept fresh : List KeptArea) → ((i j : ℕ) (a b : KeptArea) → slice_get fresh i ≡ Some a → slice_get kept j ≡ Some b → (a.area.serial ≢ b.area.serial) × (a.area.block ≢ b.area.block)) → KeptApart fresh → are_apart kept fresh ≡ true
are_apart_back kept [] from_kept apart = refl
are_apart_back kept (k ∷ fresh) from_kept apart = three_from (list_all (is_apart k) kept) (list_all (is_apart k) fresh) (are_apart kept fresh)
    (all_pass (is_apart k) kept (λ j b at. apart_back k b (from_kept 0 j k b refl at)))
    (all_pass (is_apart k) fresh (λ j b at. apart_back k b (apart 0 (suc j) k b (λ same. absurd (cc)) refl at)))
    (are_apart_back kept fresh (λ i j a b is_a is_b. from_kept (suc i) j a b is_a is_b) (λ i j a b differ is_a is_b. apart (suc i) (suc j) a b (λ same. differ (one i j same)) is_a is_b))
  where
    one : (i j : ℕ) → suc i ≡ suc j → i ≡ j
    one i j same = omega (arith)

pub apart_parted : (kept fresh : List KeptArea) → KeptApart (kept ++ fresh) → are_apart kept fresh ≡ true
apart_parted kept fresh apart = are_apart_back kept fresh
    (λ i j a b is_a is_b.
    let within = slice_get_within kept j b is_b in
    apart (length kept + i) j a b (λ same. absurd (omega (arith, within, same))) (in_second kept fresh i a is_a) (in_first kept fresh j b is_b))
    (λ i j a b differ is_a is_b. apart (length kept + i) (length kept + j) a b (λ same. differ (omega (arith, same))) (in_second kept fresh i a is_a) (in_second kept fresh j b is_b))

-- ---- the store

seven_from : (a b c d e f g : Bool) → a ≡ true → b ≡ true → c ≡ true → d ≡ true → e ≡ true → f ≡ true → g ≡ true → (a && b && c && d && e && f && g) ≡ true
seven_from true true true true true true true i j k l m n o = refl
seven_from a b c d e f g i j k l m n o = absurd (cc)

-- what was published last, and what was before
last_of : (xs : List Published) (x : Published) → slice_get (xs ++ x ∷ []) (length xs) ≡ Some x
last_of [] x = refl
last_of (z ∷ xs) x = last_of xs x

before_last : (xs : List Published) (x y : Published) (i : ℕ) → slice_get xs i ≡ Some y → slice_get (xs ++ x ∷ []) i ≡ Some y
before_last [] x y i at = absurd (cc)
before_last (z ∷ xs) x y zero at = at
before_last (z ∷ xs) x y (suc i) at = before_last xs x y i at

module _ (s : Table) (sound : IsSound s) (p : Published) (stands : BlocksStand (with_root s p)) where
  -- the new generation is the newest
  newest : slice_get (s.published ++ p ∷ []) (s.progress.generation + 1) ≡ Some p
  newest = ap (slice_get (s.published ++ p ∷ [])) (sym sound.published) ∙ last_of s.published p

  counts : IsReadable (with_root s p) (s.progress.generation + 1)
  counts = inl refl

  -- what is held stays readable
  held : (g : ℕ) → list_any (λ x. x == g) (held_generations s.progress) ≡ true → IsReadable (with_root s p) g
  held g among = held_may (record s.progress { generation = s.progress.generation + 1 }) (next_sound s sound p (fresh_areas s.kept p)) g among

  fresh_back : list_all (is_fresh_sound s.words s.published (held_generations s.progress)) (fresh_areas s.kept p) ≡ true
  fresh_back = all_pass (is_fresh_sound s.words s.published (held_generations s.progress)) (fresh_areas s.kept p) (λ i k at.
      let among : Among (s.kept ++ fresh_areas s.kept p) k = (length s.kept + i, in_second s.kept (fresh_areas s.kept p) i k at) in
      three_from (fits_block k) (image_stands s.words k BIG_WORDS) (holds_of_each s.published (held_generations s.progress) (λ g q. area_stands s.words k g q))
      (fits_back k (stands.kept_fit k among))
      (image_back s.words k (stands.images_stand k among))
      (each_generation s.published (held_generations s.progress) (λ g q. area_stands s.words k g q) (λ g q readable here. area_back s.words k g q (stands.areas_stand g q (held g readable) (before_last s.published p q g here) k among))))

  may_publish : may_publish_in s p ≡ true
  may_publish = seven_from (root_fits p.root) (instances_placed p) (blocks_stand s.words p) (list_all (is_fresh_sound s.words s.published (held_generations s.progress)) (fresh_areas s.kept p)) (are_apart s.kept (fresh_areas s.kept p)) (used_are_kept (s.kept ++ fresh_areas s.kept p) p) (list_all (λ (k : KeptArea). area_stands s.words k (s.progress.generation + 1) p) (s.kept ++ fresh_areas s.kept p))
      (root_back p.root (stands.roots_fit (s.progress.generation + 1) p counts newest))
      (placed_back p (stands.instances_placed (s.progress.generation + 1) p counts newest))
      (three_from (code_stands s.words p EXPORT_ENTRIES) (breakpoints_stand s.words p) (terms_stand (term_blocks_words (word_at s.words) p.root) p)
      (code_back s.words p (stands.code_stands (s.progress.generation + 1) p counts newest))
      (breakpoints_back s.words p (stands.breakpoints_stand (s.progress.generation + 1) p counts newest))
      (terms_stand_back (term_blocks_words (word_at s.words) p.root) p (stands.terms_stand (s.progress.generation + 1) p counts newest)))
      fresh_back
      (apart_parted s.kept (fresh_areas s.kept p) stands.kept_apart)
      (used_back (s.kept ++ fresh_areas s.kept p) p (stands.used_kept (s.progress.generation + 1) p counts newest))
      (all_pass (λ (k : KeptArea). area_stands s.words k (s.progress.generation + 1) p) (s.kept ++ fresh_areas s.kept p) (λ i k at. area_back s.words k (s.progress.generation + 1) p (stands.areas_stand (s.progress.generation + 1) p counts newest k (i, at))))

pub root_decided : (s : Table) (code bp term : ℕ) (next : Generation) (areas : List AreaRef) → IsSound s → (after s (StoreRoot code bp term next areas) ≡ Some (with_root s (to_publish code bp term next areas))) ↔ BlocksStand (with_root s (to_publish code bp term next areas))
root_decided s code bp term next areas sound = (
  (λ e. (root_store_keeps s (with_root s (to_publish code bp term next areas)) code bp term next areas sound e).blocks),
  (λ stands. ap (λ (b : Bool). if b then appended s (to_publish code bp term next areas) (fresh_areas s.kept (to_publish code bp term next areas)) else None) (may_publish s sound (to_publish code bp term next areas) stands)),
)
