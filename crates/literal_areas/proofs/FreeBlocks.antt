-- Which block is taken, and why none is: the first free one, or all are live, or none is free and one is retired.
use Rattle.std.proofs.Common.{◌≡◌, ℕ, ◌+◌, ◌-◌, ◌<◌, ◌≤◌, Bool, true, false, cond, List, [], ◌∷◌, length, position, option_map, refl, sym, ap, subst, ◌∙◌, arith, add-one}
use Rattle.std.specs.Prelude.{Option, Some, None, is_some, slice_get, ◌↔◌}
use Rattle.std.specs.List.{list_any, list_all}
use Rattle.std.proofs.lemmas.Option.{none-some, slice_get_within}
use Rattle.term_core.proofs.Places.{position-cons, is_some-position}
use Rattle.prgr_core.proofs.Parts.{some_same}
use Rattle.area_core.proofs.Tests.{some_passes, passed_by, each_passes}
use Rattle.literal_areas.specs.declared.blocks.Pool.{Pool}
use Rattle.literal_areas.specs.declared.blocks.Pool.TheVariants.{Big, Small}
use Rattle.literal_areas.specs.declared.blocks.BlockUse.{BlockUse}
use Rattle.literal_areas.specs.declared.blocks.BlockUse.TheVariants.{Free, Live, Retired}
use Rattle.literal_areas.specs.declared.areas.Areas.{Areas}
use Rattle.literal_areas.specs.declared.taking.Take.{Take}
use Rattle.literal_areas.specs.declared.taking.Take.TheVariants.{Area, AllLive, AwaitRelease}
use Rattle.literal_areas.specs.Blocks.{is_free, is_live, is_retired_block, blocks_of, first_of, size_of, use_of, HasSizes, IsFreeIn, IsRefused, AreAllLive, AwaitsRelease, HasAnswered}
use Rattle.literal_areas.proofs.Uses.{use_big, use_small}

-- ---- the first that passes

false_true : false ≡ true → ⊥
false_true e = (cc)

-- what stands at the place of the first that passes
abbrev IsFound : {X : Type 0} → (X → Bool) → List X → ℕ → Type 0
IsFound {X = X} test xs i = (x : X) × (slice_get xs i ≡ Some x) × (test x ≡ true)

found_in : {X : Type 0} (test : X → Bool) (x : X) (xs : List X) (b : Bool) → test x ≡ b → (o : Option ℕ) → ((j : ℕ) → o ≡ Some j → IsFound test xs j) → (i : ℕ) → cond b (Some 0) (option_map (λ j. j + 1) o) ≡ Some i → IsFound test (x ∷ xs) i
found_in test x xs true is o behind i e = subst (IsFound test (x ∷ xs)) (some_same 0 i e) (x, refl, is)
found_in test x xs false is None behind i e = absurd (none-some i e)
found_in test x xs false is (Some j) behind i e =
    let found = behind j refl in
    subst (IsFound test (x ∷ xs)) (sym (add-one j) ∙ some_same (j + 1) i e) (found.0, found.1, found.2)

pub found_at : {X : Type 0} (test : X → Bool) (xs : List X) (i : ℕ) → position test xs ≡ Some i → IsFound test xs i
found_at test [] i e = absurd (none-some i e)
found_at test (x ∷ xs) i e = found_in test x xs (test x) refl (position test xs) (found_at test xs) i (sym (position-cons test x xs) ∙ e)

-- where none is found, none passes
pub none_found : {X : Type 0} (test : X → Bool) (xs : List X) → position test xs ≡ None → list_any test xs ≡ false
none_found test xs e = sym (is_some-position test xs) ∙ ap is_some e

-- where none is free and none retired, all are live
all_live : (blocks : List BlockUse) → list_any is_free blocks ≡ false → list_any is_retired_block blocks ≡ false → list_all is_live blocks ≡ true
all_live [] none unretired = refl
all_live (Free ∷ blocks) none unretired = absurd (cc)
all_live (Live n ∷ blocks) none unretired = all_live blocks none unretired
all_live (Retired n g ∷ blocks) none unretired = absurd (cc)

-- ---- a free block

free_use : (u : BlockUse) → is_free u ≡ true → u ≡ Free
free_use Free e = refl
free_use (Live n) e = absurd (false_true e)
free_use (Retired n g) e = absurd (false_true e)

behind_nine : (place : ℕ) → 9 + place - 9 ≡ place
behind_nine place = omega (arith)

behind_big : (place : ℕ) → 64 + place - 64 ≡ place
behind_big place = omega (arith)

-- the block at a place of a pool has the use that the pool's list tells
use_placed : (pool : Pool) (s : Areas) (place : ℕ) (u : BlockUse) → HasSizes s → slice_get (blocks_of pool s) place ≡ Some u → (place < size_of pool) × (use_of s (first_of pool + place) ≡ Some u)
use_placed Big s place u sizes at =
    let big : length s.big ≡ 55 = sizes.big in
    let within = slice_get_within s.big place u at in
    let few : place < 55 = omega (arith, big, within) in
    (few, use_big s (9 + place) (omega (arith)) (omega (arith, few)) ∙ ap (slice_get s.big) (behind_nine place) ∙ at)
use_placed Small s place u sizes at =
    let small : length s.small ≡ 256 = sizes.small in
    let within = slice_get_within s.small place u at in
    (omega (arith, small, within), use_small s (64 + place) (omega (arith)) ∙ ap (slice_get s.small) (behind_big place) ∙ at)

-- the first free block of a pool is a free one
pub free_found : (pool : Pool) (s : Areas) (place : ℕ) → HasSizes s → position is_free (blocks_of pool s) ≡ Some place → IsFreeIn pool s (first_of pool + place)
free_found pool s place sizes e =
    let found = found_at is_free (blocks_of pool s) place e in
    let placed = use_placed pool s place found.0 sizes found.1 in
    let few = placed.0 in record {
      first = omega (arith);
      last = omega (arith, few);
      free = placed.1 ∙ ap Some (free_use found.0 found.2);
    }

-- the same of what a search found
pub found_block : (pool : Pool) (s : Areas) (blocks : List BlockUse) (found : Option ℕ) (place first : ℕ) → HasSizes s → blocks ≡ blocks_of pool s → found ≡ position is_free blocks → found ≡ Some place → first ≡ first_of pool → IsFreeIn pool s (first + place)
found_block pool s blocks found place first sizes is sought e from =
    subst (λ (n : ℕ). IsFreeIn pool s (n + place)) (sym from) (free_found pool s place sizes (ap (position is_free) (sym is) ∙ sym sought ∙ e))

-- and of what it did not find
pub no_block : (pool : Pool) (s : Areas) (blocks : List BlockUse) (found : Option ℕ) → blocks ≡ blocks_of pool s → found ≡ position is_free blocks → found ≡ None → list_any is_free (blocks_of pool s) ≡ false
no_block pool s blocks found is sought e = none_found is_free (blocks_of pool s) (ap (position is_free) (sym is) ∙ sym sought ∙ e)

-- why none is taken, where none is retired
pub refused_live : (pool : Pool) (s : Areas) (blocks : List BlockUse) (retired : Bool) → list_any is_free (blocks_of pool s) ≡ false → blocks ≡ blocks_of pool s → retired ≡ list_any is_retired_block blocks → retired ≡ false → IsRefused (AreAllLive (blocks_of pool s)) s s
refused_live pool s blocks retired full is told none = record { why = all_live (blocks_of pool s) full (ap (list_any is_retired_block) (sym is) ∙ sym told ∙ none); same = refl }

-- a free block stands in the pool's list
free_listed : (pool : Pool) (s : Areas) (block : ℕ) → IsFreeIn pool s block → slice_get (blocks_of pool s) (block - first_of pool) ≡ Some Free
free_listed Big s block is =
    let low : 9 ≤ block = is.first in
    let high : block < 9 + 55 = is.last in
    sym (use_big s block low (omega (arith, high))) ∙ is.free
free_listed Small s block is = sym (use_small s block is.first) ∙ is.free

-- ---- none is free

not_both : (u : BlockUse) → is_live u ≡ true → is_retired_block u ≡ true → ⊥
not_both Free live retired = false_true live
not_both (Live n) live retired = false_true retired
not_both (Retired n g) live retired = false_true live

-- not both all live and one retired
live_awaits : (blocks : List BlockUse) → AreAllLive blocks → AwaitsRelease blocks → ⊥
live_awaits blocks live awaits =
    let found = passed_by is_retired_block blocks awaits.some in
    not_both found.0 (each_passes is_live blocks found.1 found.0 live found.2) found.3

-- nor is one free
live_full : (pool : Pool) (s : Areas) (block : ℕ) → AreAllLive (blocks_of pool s) → IsFreeIn pool s block → ⊥
live_full pool s block live is = false_true (each_passes is_live (blocks_of pool s) (block - first_of pool) Free live (free_listed pool s block is))

awaits_full : (pool : Pool) (s : Areas) (block : ℕ) → AwaitsRelease (blocks_of pool s) → IsFreeIn pool s block → ⊥
awaits_full pool s block awaits is = false_true (sym awaits.full ∙ some_passes is_free (blocks_of pool s) (block - first_of pool) Free (free_listed pool s block is) refl)

-- ---- each answer comes exactly then

pub all_live_exactly : (pool : Pool) (old new : Areas) (answer : Take) → HasAnswered pool old new answer → (answer ≡ AllLive) ↔ AreAllLive (blocks_of pool old)
all_live_exactly pool old new (Area area) told = (λ e. absurd (cc), λ live. absurd (live_full pool old area.block live told.block))
all_live_exactly pool old new AllLive told = (λ e. told.why, λ live. refl)
all_live_exactly pool old new AwaitRelease told = (λ e. absurd (cc), λ live. absurd (live_awaits (blocks_of pool old) live told.why))

pub await_exactly : (pool : Pool) (old new : Areas) (answer : Take) → HasAnswered pool old new answer → (answer ≡ AwaitRelease) ↔ AwaitsRelease (blocks_of pool old)
await_exactly pool old new (Area area) told = (λ e. absurd (cc), λ awaits. absurd (awaits_full pool old area.block awaits told.block))
await_exactly pool old new AllLive told = (λ e. absurd (cc), λ awaits. absurd (live_awaits (blocks_of pool old) told.why awaits))
await_exactly pool old new AwaitRelease told = (λ e. told.why, λ awaits. refl)
