-- There is a block for all that a change brings in: live blocks are counted by the limits on commands.
use Rattle.std.proofs.Common.{◌≡◌, ℕ, zero, suc, ◌+◌, ◌-◌, ◌<◌, ◌≤◌, Bool, false, All, map, List, [], ◌∷◌, length, refl, sym, ap, subst, ◌∙◌, arith}
use Rattle.std.specs.Prelude.{◌&&◌, IsTrue, Some, nat_le, not, slice_get, slice_set, unwrap_or}
use Rattle.std.specs.List.{list_all}
use Rattle.std.proofs.lemmas.List.{length-map}
use Rattle.std.proofs.lemmas.Bool.{and_parts, leb-false, lt-ltb, le-ltb}
use Rattle.term_core.specs.declared.area.AreaRef.{AreaRef}
use Rattle.literal_areas.specs.declared.areas.Areas.{Areas}
use Rattle.literal_areas.specs.declared.blocks.BlockUse.{BlockUse}
use Rattle.literal_areas.specs.declared.blocks.BlockUse.TheVariants.{Free, Live, Retired}
use Rattle.term_core.specs.declared.atom.Mfa.{Mfa}
use Rattle.mod_core.specs.declared.code.Module.{Module}
use Rattle.mod_core.specs.Module.{IsModule}
use Rattle.shared_words.proofs.ShownMembers.{there_is, within_get}
use Rattle.progress_words.specs.Tokens.{written_by}
use Rattle.server_core.specs.declared.change.Change.{Change}
use Rattle.server_core.specs.declared.change.Change.TheVariants.{BringIn, HoldArea}
use Rattle.server_core.specs.Decided.{Fits}
use Rattle.server_core.specs.ServerState.{ServerState, live_areas, live_count}
use Rattle.literal_areas.specs.declared.blocks.Pool.{Pool}
use Rattle.literal_areas.specs.declared.blocks.Pool.TheVariants.{Small}
use Rattle.term_core.specs.Plain.{plain}
use Rattle.prgr_core.proofs.Parts.{some_same}
use Rattle.literal_areas.specs.Blocks.{AreAllLive, HasSizes, blocks_of, first_of, is_live, size_of, use_of, with_area}
use Rattle.literal_areas.proofs.Uses.{use_big, use_small, use_there}
use Rattle.staging.specs.declared.tables.Tables.{Tables}
use Rattle.change_laws.specs.Changes.{Incoming, incoming, instance, stored}
use Rattle.staging.specs.Placed.{AreTaken, IsAreaOf, pool_of, with_areas}
use Rattle.staging.specs.Stages.{HavePlaced}
use Rattle.staging.proofs.Sizes.{instance_at}
use Rattle.staging.specs.Standing.{live_blocks}

-- a free block becomes live
live_set : (uses : List BlockUse) (k n : ℕ) → slice_get uses k ≡ Some Free → live_blocks (slice_set uses k (Live n)) ≡ live_blocks uses + 1
live_set [] k n e = absurd (cc)
live_set (Free ∷ uses) zero n e = omega (arith)
live_set (Live serial ∷ uses) zero n e = absurd (cc)
live_set (Retired serial since ∷ uses) zero n e = absurd (cc)
live_set (used ∷ uses) (suc k) n e = let behind = live_set uses k n e in omega (arith, behind)

-- where all are live, there are as many as blocks
pub all_live : (uses : List BlockUse) → IsTrue (list_all is_live uses) → live_blocks uses ≡ length uses
all_live [] all = omega (arith)
all_live (Free ∷ uses) all = absurd (let parts = and_parts (is_live Free) (list_all is_live uses) all in cc)
all_live (Live serial ∷ uses) all = let behind = all_live uses (and_parts (is_live (Live serial)) (list_all is_live uses) all).1 in omega (arith, behind)
all_live (Retired serial since ∷ uses) all = absurd (let parts = and_parts (is_live (Retired serial since)) (list_all is_live uses) all in cc)

-- ---- areas in a row

big_more : (s : Areas) (area : AreaRef) → area.block < 64 → use_of s area.block ≡ Some Free → live_blocks (with_area area s).big ≡ live_blocks s.big + 1
big_more s area low free = rw (lt-ltb area.block 64 low) (live_set s.big (area.block - 9) area.serial (sym (use_big s area.block (use_there s area.block Free free) low) ∙ free))

small_more : (s : Areas) (area : AreaRef) → 64 ≤ area.block → use_of s area.block ≡ Some Free → live_blocks (with_area area s).small ≡ live_blocks s.small + 1
small_more s area high free = rw (le-ltb area.block 64 high) (live_set s.small (area.block - 64) area.serial (sym (use_small s area.block high) ∙ free))

pub big_taken : (taken : List AreaRef) (s : Areas) → AreTaken taken s → ((i : ℕ) (a : AreaRef) → slice_get taken i ≡ Some a → a.block < 64) → live_blocks (with_areas taken s).big ≡ live_blocks s.big + length taken
big_taken [] s were low = omega (arith)
big_taken (area ∷ taken) s were low =
    let behind = big_taken taken (with_area area s) were.2 (λ i a e. low (suc i) a e) in let more = big_more s area (low 0 area refl) were.1 in omega (arith, behind, more)

pub small_taken : (taken : List AreaRef) (s : Areas) → AreTaken taken s → ((i : ℕ) (a : AreaRef) → slice_get taken i ≡ Some a → 64 ≤ a.block) → live_blocks (with_areas taken s).small ≡ live_blocks s.small + length taken
small_taken [] s were high = omega (arith)
small_taken (area ∷ taken) s were high =
    let behind = small_taken taken (with_area area s) were.2 (λ i a e. high (suc i) a e) in let more = small_more s area (high 0 area refl) were.1 in omega (arith, behind, more)

-- ---- a block is left

-- each of the modules that come in has a big block
module _ (names : List Mfa) (s : ServerState) (change : Change) (t : Tables) (taken : List AreaRef) (i : Incoming) (had : HavePlaced names s change t taken) (sizes : HasSizes t.pools) (there : slice_get (incoming change) (length taken) ≡ Some i) where
  placed_at : (place : ℕ) (a : AreaRef) → slice_get taken place ≡ Some a → IsAreaOf (written_by t.writer) (unwrap_or (slice_get (incoming change) place) i) a
  placed_at place a at =
      had.placed.each place (unwrap_or (slice_get (incoming change) place) i) a (there_is (incoming change) place i (let few = within_get taken place a at in let most = had.placed.few in omega (arith, few, most))) at

  all_big : (modules : List Module) → All IsModule modules → incoming change ≡ map instance modules → live_count s.versions + length modules ≤ 55 → AreAllLive (blocks_of (pool_of i) t.pools) → ⊥
  all_big modules sound is places live =
      let here = instance_at modules sound (length taken) i (sym (ap (λ (comes : List Incoming). slice_get comes (length taken)) is) ∙ there) in
      let bigs : IsTrue (list_all is_live t.pools.big) = subst (λ (j : Incoming). AreAllLive (blocks_of (pool_of j) t.pools)) here.is live in
      let count = all_live t.pools.big bigs in
      let before = big_taken taken had.rest had.placed.taken_are (λ place a at.
      let known = placed_at place a at in
      let fits = within_get taken place a at in
      let most = had.placed.few in
      let found = instance_at modules sound place (unwrap_or (slice_get (incoming change) place) i) (sym (ap (λ (comes : List Incoming). slice_get comes place) is) ∙ there_is (incoming change) place i (omega (arith, fits, most))) in
      let last = subst (λ (j : Incoming). a.block < first_of (pool_of j) + size_of (pool_of j)) found.is known.last in omega (arith, last)) in
      let same = ap (λ (pools : Areas). live_blocks pools.big) had.placed.pools_are in
      let state = had.stands.blocks.instances in
      let few = within_get (incoming change) (length taken) i there in
      let many = ap length is ∙ length-map modules instance in
      let whole = sizes.big in
      omega (arith, places, count, before, same, state, few, many, whole)

  all_small : (kept : Incoming) → incoming change ≡ kept ∷ [] → Small ≡ pool_of kept → live_areas s.keys < 256 → AreAllLive (blocks_of (pool_of i) t.pools) → ⊥
  all_small kept is small few live =
      let within = within_get (incoming change) (length taken) i there in
      let one = ap length is in
      let first : length taken ≡ 0 = omega (arith, within, one) in
      let same : kept ≡ i = some_same kept i (sym (ap (λ (k : ℕ). slice_get (kept ∷ []) k) first) ∙ sym (ap (λ (comes : List Incoming). slice_get comes (length taken)) is) ∙ there) in
      let smalls : IsTrue (list_all is_live t.pools.small) = subst (λ (p : Pool). AreAllLive (blocks_of p t.pools)) (ap pool_of (sym same) ∙ sym small) live in
      let count = all_live t.pools.small smalls in
      let before = small_taken taken had.rest had.placed.taken_are (λ place a at. absurd (let fits = within_get taken place a at in omega (arith, fits, first))) in
      let pools = ap (λ (pools : Areas). live_blocks pools.small) had.placed.pools_are in
      let state = had.stands.blocks.terms in
      let whole = sizes.small in
      omega (arith, few, count, before, pools, state, first, whole)

pub block_left : (names : List Mfa) (s : ServerState) (change : Change) (t : Tables) (taken : List AreaRef) (i : Incoming) → HavePlaced names s change t taken → HasSizes t.pools → slice_get (incoming change) (length taken) ≡ Some i → Fits s change → AreAllLive (blocks_of (pool_of i) t.pools) → ⊥
block_left names s (BringIn generation modules areas versions) t taken i had sizes there fits live = all_big names s (BringIn generation modules areas versions) t taken i had sizes there modules.items fits.1.sound refl fits.1.places live
block_left names s (HoldArea generation key term kept areas keys retired) t taken i had sizes there fits live =
    let place = fits.1.place.for_area in
    let room : nat_le 256 (live_areas s.keys) ≡ false = subst (λ (b : Bool). (not b && nat_le 256 (live_areas s.keys)) ≡ false) fits.2 place in
    all_small names s (HoldArea generation key term kept areas keys retired) t taken i had sizes there (stored (plain term)) refl refl (leb-false 256 (live_areas s.keys) room) live
block_left names s change t taken i had sizes there fits live = (cc)
