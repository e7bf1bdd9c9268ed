-- An area that may be released: its words may be cleared, nobody reads its block then, and the pools stay those of the writer.
use Rattle.std.proofs.Common.{◌≡◌, ℕ, ◌<◌, ◌≤◌, inl, inr, zero, suc, [], ◌∷◌, Bool, true, false, not, ◌&&◌, ◌||◌, cond, List, length, refl, sym, ap, subst, ◌∙◌, arith}
use Rattle.std.specs.Prelude.{◌==◌, Option, Some, None, slice_get, nat_lt, IsTrue, is_some}
use Rattle.std.proofs.lemmas.Bool.{cases_Bool, lt-ltb, le-ltb, eqb-true, eq-eqb, and_parts, or_left, or_right, true≢false}
use Rattle.prgr_core.proofs.Parts.{some_same}
use Rattle.term_core.specs.declared.area.AreaRef.{AreaRef}
use Rattle.area_core.specs.declared.map.TheConstants.{BLOCKS, BIG_BLOCKS}
use Rattle.area_core.specs.declared.map.WordKind.{WordKind}
use Rattle.area_core.specs.declared.table.Published.{Published}
use Rattle.area_core.specs.declared.table.KeptArea.{KeptArea}
use Rattle.area_core.specs.Map.{kind_at, block_place, retire_place, doom_place}
use Rattle.area_core.specs.Stores.{is_released_at}
use Rattle.area_core.specs.Generations.{has_serial, is_current, is_instance, is_key_area, is_reached, is_retired_area, is_used}
use Rattle.area_core.specs.Blocks.{Among}
use Rattle.area_core.specs.Readers.{reaches_block}
use Rattle.area_core.proofs.Places.{kind_block, kind_retire, kind_doom}
use Rattle.area_core.proofs.Tests.{passed_by, filter_gives}
use Rattle.marks.specs.declared.kept.LookKind.TheVariants.{Both}
use Rattle.shared_words.specs.declared.opening.Opening.{Opening}
use Rattle.shared_words.specs.declared.view.WriterView.{WriterView}
use Rattle.shared_words.specs.Views.{newest_number}
use Rattle.shared_words.specs.Rule.{MayBeRead}
use Rattle.shared_words.specs.Publishing.{FitsInBlock, FitsRetire, FitsWord, MayStoreWord, is_released, kept_left, with_word}
use Rattle.shared_words.specs.Slots.{IsClear}
use Rattle.shared_words.specs.Drops.{drop_of, with_drop}
use Rattle.shared_words.proofs.AreaReleases.{not_both}
use Rattle.shared_words.proofs.ClearLooks.{clear_word}
use Rattle.shared_words.proofs.ReadWords.{not_loaded}
use Rattle.shared_words.proofs.Dropping.{clear_still, fits_still}
use Rattle.literal_areas.specs.declared.blocks.BlockUse.{BlockUse}
use Rattle.literal_areas.specs.declared.blocks.BlockUse.TheVariants.{Free, Live, Retired}
use Rattle.literal_areas.specs.declared.areas.Areas.{Areas}
use Rattle.literal_areas.specs.Blocks.{use_of, with_use, serial_at, IsSound, without_area}
use Rattle.literal_areas.specs.Owned.{AreOf, IsPast, HasRetired}
use Rattle.literal_areas.specs.Released.{MayRelease, IsUnread, IsUnnamed, words_cleared, area_released}
use Rattle.literal_areas.proofs.Uses.{use_there, use_within, use_here, sizes_stay}
use Rattle.literal_areas.proofs.Serials.{serial_here, serial_other, serial_after, use_after}
use Rattle.literal_areas.proofs.Stores.{owned_stored, no_generation}
use Rattle.literal_areas.proofs.Listed.{owned_looked}

no_serial : (n : ℕ) → None ≡ Some n → ⊥
no_serial n e = (cc)

-- ---- a block that is given free

module _ (s : Areas) (sound : IsSound s) (block : ℕ) (old : BlockUse) (was : use_of s block ≡ Some old) where
  abbrev freed : Areas
  freed = with_use block Free s

  left : (b n : ℕ) → serial_at freed b ≡ Some n → (b ≡ block → ⊥) × (serial_at s b ≡ Some n)
  left b n at =
      elim (serial_after s block b old Free n was at) as (λ _. (b ≡ block → ⊥) × (serial_at s b ≡ Some n)) [
        | inl here ↦ absurd (no_serial n here.1)
        | inr other ↦ other
      ]

  pub sound_freed : IsSound freed
  sound_freed = record {
    sizes = sizes_stay s block Free sound.sizes;
    some = sound.some;
    first = λ b n at. sound.first b n (left b n at).1;
    below = λ b n at. sound.below b n (left b n at).1;
    apart = λ a b n at_a at_b. sound.apart a b n (left a n at_a).1 (left b n at_b).1;
  }

-- ---- the area is out of use

module _ (s : Areas) (w : WriterView) (own : AreOf s w) (area : AreaRef) (may : MayRelease s w area) where
  pub within : area.block < BLOCKS
  within = use_within s area.block (Retired area.serial may.since) own.sound.sizes may.retired

  -- what stands in its block is that area
  same_area : (a : AreaRef) → serial_at s a.block ≡ Some a.serial → a.block ≡ area.block → a.serial ≡ area.serial
  same_area a stands same = some_same a.serial area.serial (sym stands ∙ ap (serial_at s) same ∙ serial_here s area.block (Retired area.serial may.since) may.retired)

  -- each generation that may be read has retired it, and does not use it
  out_of_use : (g : ℕ) (p : Published) → MayBeRead w g → slice_get w.published g ≡ Some p → HasRetired p area.serial
  out_of_use g p counts here =
      let later = may.later in
      let from = counts may.pair may.taken may.reached in
      own.since area.block area.serial may.since g p may.retired (omega (arith, later, from)) here

  -- and so has the newest one
  newest_here : (p : Option Published) → slice_get w.published (newest_number w.published) ≡ p → is_some p ≡ true
  newest_here (Some p) here = refl
  newest_here None here = absurd (none_within w.published (newest_number w.published) (let some = may.published in omega (arith, some)) here) where
    none_within : (ps : List Published) (g : ℕ) → g < length ps → slice_get ps g ≡ None → ⊥
    none_within [] g less at = absurd (omega (arith))
    none_within (q ∷ qs) zero less at = (cc)
    none_within (q ∷ qs) (suc g) less at = none_within qs g (omega (arith)) at

  released_by : (k : KeptArea) → k.area.serial ≡ area.serial → is_released w 0 k ≡ true
  released_by k same = of (slice_get w.published (newest_number w.published)) refl (newest_here (slice_get w.published (newest_number w.published)) refl) where
    of : (p : Option Published) → slice_get w.published (newest_number w.published) ≡ p → is_some p ≡ true → is_released w 0 k ≡ true
    of None here there = absurd (cc)
    of (Some p) here there =
        let published = may.published in
        let told = own.since area.block area.serial may.since (newest_number w.published) p may.retired (omega (arith, published)) here in
        ap (λ (o : Option Published). is_released_at o 0 k) here ∙ ap (is_retired_area p) same ∙ told.retired

  fits_released : FitsRetire w area.block 0
  fits_released = record {
    tells_of = λ g p counts here k among same unreleased. absurd (true≢false (sym (released_by k (same_area k.area (own.kept k among) same)) ∙ unreleased));
    unused = λ g p counts here k among same released. ap (is_used p) (same_area k.area (own.kept k among) same) ∙ (out_of_use g p counts here).unused;
    cleared = λ k among same released. subst (IsClear w Both) (sym (same_area k.area (own.kept k among) same)) may.clear;
  }

  -- its retire word may be cleared
  pub may_clear : MayStoreWord w (retire_place area.block) 0
  may_clear = subst (FitsWord w 0) (sym (kind_retire area.block within)) fits_released

  -- then no area is kept in the block
  gone : (k : KeptArea) → Among (with_word (retire_place area.block) 0 w).kept k → k.area.block ≡ area.block → ⊥
  gone k among same =
      let left = subst (λ (kind : WordKind). Among (kept_left w 0 kind) k) (kind_retire area.block within) among in
      let was = filter_gives (λ (x : KeptArea). not ((x.area.block == area.block) && is_released w 0 x)) w.kept left.0 k left.1 in
      let kept = not_both (k.area.block == area.block) (is_released w 0 k) was.1 (eq-eqb k.area.block area.block same) in
      true≢false (sym (released_by k (same_area k.area (own.kept k was.0) same)) ∙ kept)

  -- and its doom word may be cleared
  pub may_clear_doom : area.block < BIG_BLOCKS → MayStoreWord (with_word (retire_place area.block) 0 w) (doom_place area.block) 0
  may_clear_doom big = subst (FitsWord (with_word (retire_place area.block) 0 w) 0) (sym (kind_doom area.block big)) (λ g p counts here k among same unretired. absurd (gone k among same))

  -- ---- the pools once it is released

  reached_used : (p : Published) (n : ℕ) → is_reached p n ≡ true → is_used p n ≡ true
  reached_used p n is =
      elim (cases_Bool (is_current p n)) as (λ _. is_used p n ≡ true) [
        | inl current ↦ or_left (is_instance p n) (is_key_area p n) (or_left (is_current p n) (has_serial p.state.old n) current)
        | inr other ↦ or_right (is_instance p n) (is_key_area p n) (ap (λ (b : Bool). b || is_key_area p n) (sym other) ∙ is)
      ]

  -- what stands elsewhere still does
  still : (b n : ℕ) → serial_at s b ≡ Some n → (b ≡ area.block → ⊥) → serial_at (without_area area s) b ≡ Some n
  still b n at differ = serial_other s area.block b (Retired area.serial may.since) Free may.retired differ ∙ at

  unreached : (g : ℕ) (p : Published) → MayBeRead w g → slice_get w.published g ≡ Some p → (a : AreaRef) → serial_at s a.block ≡ Some a.serial → is_reached p a.serial ≡ true → a.block ≡ area.block → ⊥
  unreached g p counts here a stands reaches same =
      true≢false (sym (reached_used p a.serial reaches) ∙ ap (is_used p) (same_area a stands same) ∙ (out_of_use g p counts here).unused)

  free_live : (n : ℕ) → Live n ≡ Free → ⊥
  free_live n e = (cc)

  free_retired : (n g : ℕ) → Retired n g ≡ Free → ⊥
  free_retired n g e = (cc)

  past_still : (n : ℕ) → IsPast s n → IsPast (without_area area s) n
  past_still n is = record {
    below = is.below;
    dead = λ b live. elim (use_after s area.block b (Retired area.serial may.since) Free (Live n) may.retired live) as (λ _. ⊥) [
      | inl here ↦ free_live n here.1
      | inr other ↦ is.dead b other.1
    ];
  }

  owned_first : AreOf (without_area area s) (with_word (retire_place area.block) 0 w)
  owned_first =
      let stored = owned_stored s w (retire_place area.block) 0 own in record {
        sound = sound_freed s own.sound area.block (Retired area.serial may.since) may.retired;
        all = stored.all;
        kept = λ k among. still k.area.block k.area.serial (stored.kept k among) (gone k among);
        reached = λ g p counts here a among reaches. (let stands = own.reached g p counts here a among reaches in still a.block a.serial stands (unreached g p counts here a stands reaches));
        taken = own.taken;
        past = λ p n published is. past_still n (own.past p n published is);
        since = λ b n first g p is le here. elim (use_after s area.block b (Retired area.serial may.since) Free (Retired n first) may.retired is) as (λ _. HasRetired p n) [
          | inl now ↦ absurd (free_retired n first now.1)
          | inr other ↦ own.since b n first g p other.1 le here
        ];
      }

  -- something that holds after each store holds of the cleared words
  cleared_by : (Holds : WriterView → Type 0) → Holds (with_word (retire_place area.block) 0 w) → ((v : WriterView) → Holds v → Holds (with_word (doom_place area.block) 0 v)) → Holds (words_cleared area.block w)
  cleared_by Holds first next =
      elim (cases_Bool (nat_lt area.block BIG_BLOCKS)) as (λ _. Holds (words_cleared area.block w)) [
        | inl big ↦ subst Holds (ap (λ (b : Bool). cond b (with_word (doom_place area.block) 0 (with_word (retire_place area.block) 0 w)) (with_word (retire_place area.block) 0 w)) (sym big)) (next (with_word (retire_place area.block) 0 w) first)
        | inr small ↦ subst Holds (ap (λ (b : Bool). cond b (with_word (doom_place area.block) 0 (with_word (retire_place area.block) 0 w)) (with_word (retire_place area.block) 0 w)) (sym small)) first
      ]

  owned_cleared : AreOf (without_area area s) (words_cleared area.block w)
  owned_cleared = cleared_by (AreOf (without_area area s)) owned_first (λ v. owned_stored (without_area area s) v (doom_place area.block) 0)

  -- nor does the drop that is kept change the pools
  pub owned_released : AreOf (without_area area s) (area_released area w)
  owned_released = owned_looked (without_area area s) (words_cleared area.block w) (area_released area w) refl owned_cleared

  -- a store of a word takes nothing from a look
  clear_stored : (v : WriterView) (word : ℕ) → IsClear v Both area.serial → IsClear (with_word word 0 v) Both area.serial
  clear_stored v word clear = record {
    generation = clear.generation;
    over = record { need = clear.over.need; kept = clear.over.kept; reached = clear.over.reached; published = clear.over.published; at = clear.over.at; gone = clear.over.gone };
    looked = clear.looked;
  }

  still_clear : IsClear (area_released area w) Both area.serial
  still_clear =
      clear_still (words_cleared area.block w) (drop_of w Both area.serial) Both area.serial
      (cleared_by (λ (v : WriterView). IsClear v Both area.serial) (clear_stored w (retire_place area.block) may.clear) (λ v. clear_stored v (doom_place area.block)))

-- ---- a free block is read by nobody

module _ (s : Areas) (w : WriterView) (own : AreOf s w) (block : ℕ) (free : use_of s block ≡ Some Free) where
  no_area : (a : AreaRef) → serial_at s a.block ≡ Some a.serial → a.block ≡ block → ⊥
  no_area a stands same = no_serial a.serial (sym (serial_here s block Free free) ∙ ap (serial_at s) (sym same) ∙ stands)

  nobody_reaches : (g : ℕ) (p : Published) → MayBeRead w g → slice_get w.published g ≡ Some p → reaches_block p block ≡ true → ⊥
  nobody_reaches g p counts here reads =
      let found = passed_by (λ (a : AreaRef). (a.block == block) && is_reached p a.serial) p.areas reads in
      let parts = and_parts (found.0.block == block) (is_reached p found.0.serial) found.3 in
      no_area found.0 (own.reached g p counts here found.0 (found.1, found.2) parts.1) (eqb-true found.0.block block parts.0)

  fits_free : (at value : ℕ) → FitsInBlock w block at value
  fits_free at value = record {
    unread = λ g p counts here. no_generation block at p (use_there s block Free free) ∙ elim (cases_Bool (reaches_block p block)) as (λ _. reaches_block p block ≡ false) [
      | inl reads ↦ absurd (nobody_reaches g p counts here reads)
      | inr not ↦ not
    ];
    unkept = λ k among same. absurd (no_area k.area (own.kept k among) same);
    entries = λ k function among same has entry none. absurd (no_area k.area (own.kept k among) same);
  }

  pub free_unread : (Served : Published → Type 0) (opening : Opening) → IsUnread Served opening w block
  free_unread Served opening t r is id v at room here loads =
      let kind = kind_block block at (use_within s block Free own.sound.sizes free) room in
      let may : MayStoreWord w (block_place block at) 0 = subst (FitsWord w 0) (sym kind) (fits_free at 0) in
      (let entry = not_loaded t r (block_place block at) 0 block at kind (subst (λ (x : WriterView). MayStoreWord x (block_place block at) 0) (sym is) may) id v here loads in no_area entry.area.area (own.kept entry.area (subst (λ (x : WriterView). Among x.kept entry.area) is entry.among)) entry.here)

-- ---- the call

pub unread_now : (Served : Published → Type 0) (opening : Opening) (s : Areas) (w last : WriterView) (area : AreaRef) → AreOf s w → MayRelease s w area → last ≡ area_released area w → IsUnread Served opening last area.block
unread_now Served opening s w last area own may stored =
    subst (λ (v : WriterView). IsUnread Served opening v area.block) (sym stored)
    (free_unread (without_area area s) (area_released area w) (owned_released s w own area may) area.block (use_here s area.block (Retired area.serial may.since) Free may.retired) Served opening)

pub unnamed_now : (Served : Published → Type 0) (opening : Opening) (s : Areas) (w last : WriterView) (area : AreaRef) → AreOf s w → MayRelease s w area → last ≡ area_released area w → IsUnnamed Served opening last area.serial
unnamed_now Served opening s w last area own may stored t r is process anchor is_anchor =
    clear_word t r Both area.serial (subst (λ (v : WriterView). IsClear v Both area.serial) (sym (is ∙ stored)) (still_clear s w own area may)) process anchor is_anchor

pub owned_last : (s new : Areas) (w last : WriterView) (area : AreaRef) → AreOf s w → MayRelease s w area → new ≡ without_area area s → last ≡ area_released area w → AreOf new last
owned_last s new w last area own may is stored = subst (λ (z : Areas × WriterView). AreOf z.0 z.1) (λ i. (sym is i, sym stored i)) (owned_released s w own area may)

pub sound_last : (old new : Areas) (w : WriterView) (area : AreaRef) → IsSound old → MayRelease old w area → new ≡ without_area area old → IsSound new
sound_last old new w area sound may is = subst IsSound (sym is) (sound_freed old sound area.block (Retired area.serial may.since) may.retired)

-- the retired area has its block
pub still_there : (s : Areas) (w : WriterView) (area : AreaRef) → MayRelease s w area → IsTrue (is_some (use_of s area.block))
still_there s w area may = ap is_some may.retired

-- the stores of the call
module _ (s : Areas) (w : WriterView) (area : AreaRef) (own : AreOf s w) (may : MayRelease s w area) where
  abbrev dropped : WriterView
  dropped = with_drop (drop_of w Both area.serial) (with_word (retire_place area.block) 0 w)

  pub may_clear_next : (v : WriterView) (next : ℕ) → v ≡ dropped → next ≡ doom_place area.block → area.block < BIG_BLOCKS → MayStoreWord v next 0
  may_clear_next v next stored doom big =
      subst (λ (z : WriterView × ℕ). MayStoreWord z.0 z.1 0) (λ i. (sym stored i, sym doom i))
      (fits_still (with_word (retire_place area.block) 0 w) (drop_of w Both area.serial) 0 (kind_at (doom_place area.block)) (may_clear_doom s w own area may big))

pub cleared_both : (w v last : WriterView) (area : AreaRef) (next : ℕ) → v ≡ with_drop (drop_of w Both area.serial) (with_word (retire_place area.block) 0 w) → next ≡ doom_place area.block → last ≡ with_word next 0 v → area.block < BIG_BLOCKS → last ≡ area_released area w
cleared_both w v last area next stored doom then_stored big =
    then_stored ∙ (λ i. with_word (doom i) 0 (stored i))
    ∙ ap (λ (b : Bool). with_drop (drop_of w Both area.serial) (cond b (with_word (doom_place area.block) 0 (with_word (retire_place area.block) 0 w)) (with_word (retire_place area.block) 0 w))) (sym (lt-ltb area.block BIG_BLOCKS big))

pub cleared_one : (w v : WriterView) (area : AreaRef) → v ≡ with_drop (drop_of w Both area.serial) (with_word (retire_place area.block) 0 w) → BIG_BLOCKS ≤ area.block → v ≡ area_released area w
cleared_one w v area stored small =
    stored
    ∙ ap (λ (b : Bool). with_drop (drop_of w Both area.serial) (cond b (with_word (doom_place area.block) 0 (with_word (retire_place area.block) 0 w)) (with_word (retire_place area.block) 0 w))) (sym (le-ltb area.block BIG_BLOCKS small))
