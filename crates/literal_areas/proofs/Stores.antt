-- Which stores into words of areas the writer may make, and that the pools stay those of the writer.
use Rattle.std.proofs.Common.{◌≡◌, ◌≢◌, ℕ, ◌+◌, ◌<◌, ◌≤◌, inl, inr, Bool, true, false, not, ◌&&◌, List, length, length-set, refl, sym, ap, subst, ◌∙◌, arith}
use Rattle.std.specs.Prelude.{◌==◌, Some, slice_get, slice_set, IsTrue}
use Rattle.std.proofs.lemmas.Bool.{cases_eq, cases_Bool, le-ltb, eqb-true, and_parts}
use Rattle.std.proofs.lemmas.Bool.Decides.{nat_tests}
use Rattle.std.proofs.lemmas.Option.{slice_get_within}
use Rattle.prgr_core.proofs.Parts.{some_same}
use Rattle.term_core.specs.declared.area.AreaRef.{AreaRef}
use Rattle.area_core.specs.declared.map.TheConstants.{BLOCKS, BIG_BLOCKS}
use Rattle.area_core.specs.declared.map.WordKind.TheVariants.{InBlock}
use Rattle.area_core.specs.declared.table.Published.{Published}
use Rattle.area_core.specs.declared.table.KeptArea.{KeptArea}
use Rattle.area_core.specs.Map.{word_at, kind_at, block_place, retire_place, doom_place, room_of}
use Rattle.area_core.specs.Generations.{is_doomed_area, is_reached, is_retired_area, tells}
use Rattle.area_core.specs.Blocks.{Among}
use Rattle.area_core.specs.Readers.{reads_in_block, reaches_block}
use Rattle.area_core.proofs.Places.{kind_block, kind_retire, kind_doom, word_here, word_there}
use Rattle.area_core.proofs.Tests.{passed_by}
use Rattle.area_core.proofs.BlockStores.{block_within, same_block}
use Rattle.shared_words.specs.declared.view.WriterView.{WriterView}
use Rattle.shared_words.specs.Publishing.{FitsInBlock, FitsRetire, FitsDoom, FitsWord, MayStoreWord, kept_left, with_word}
use Rattle.shared_words.proofs.WordStores.{kept_was}
use Rattle.literal_areas.specs.declared.blocks.BlockUse.TheVariants.{Live, Retired}
use Rattle.literal_areas.specs.declared.areas.Areas.{Areas}
use Rattle.literal_areas.specs.Blocks.{serial_at, IsLive, with_retired}
use Rattle.literal_areas.specs.Owned.{AreOf, IsPast, HasRetired, IsUnpublished}
use Rattle.literal_areas.specs.Written.{HasWritten, IsUndoomed, KeepsOtherBlocks}
use Rattle.literal_areas.proofs.Uses.{use_there, use_within}
use Rattle.literal_areas.proofs.Serials.{serial_here, use_after, retired_serial, sound_retired}

-- ---- any store

-- the pools stay those of the writer over each of its stores
pub owned_stored : (s : Areas) (w : WriterView) (word value : ℕ) → AreOf s w → AreOf s (with_word word value w)
owned_stored s w word value own = record {
  sound = own.sound;
  all = length-set w.words word value ∙ own.all;
  kept = λ k among. own.kept k (kept_was w value (kind_at word) k among);
  reached = own.reached;
  taken = own.taken;
  past = own.past;
  since = own.since;
}

-- and an area stays unpublished
pub unpublished_stored : (w : WriterView) (word value : ℕ) (area : AreaRef) → IsUnpublished w area → IsUnpublished (with_word word value w) area
unpublished_stored w word value area new = record {
  listed = new.listed;
  kept = λ k among. new.kept k (kept_was w value (kind_at word) k among);
}

-- ---- a word of an area that was not published

pub no_generation : (block at : ℕ) (p : Published) → 9 ≤ block → reads_in_block p block at ≡ reaches_block p block
no_generation block at p high =
    let first : 3 ≤ block = omega (arith) in
    let second : 5 ≤ block = omega (arith) in
    rw (le-ltb block 3 first, le-ltb block 5 second, le-ltb block 9 high) refl

module _ (s : Areas) (w : WriterView) (own : AreOf s w) (area : AreaRef) (live : IsLive s area) where
  -- what stands in the block of a live area is that area
  same_area : (a : AreaRef) → serial_at s a.block ≡ Some a.serial → a.block ≡ area.block → a.serial ≡ area.serial
  same_area a stands same = some_same a.serial area.serial (sym stands ∙ ap (serial_at s) same ∙ serial_here s area.block (Live area.serial) live)

  high : 9 ≤ area.block
  high = use_there s area.block (Live area.serial) live

  pub within : area.block < BLOCKS
  within = use_within s area.block (Live area.serial) own.sound.sizes live

  module _ (new : IsUnpublished w area) (at value : ℕ) where
    unkept : (k : KeptArea) → Among w.kept k → k.area.block ≡ area.block → ⊥
    unkept k among same = new.kept k among (same_area k.area (own.kept k among) same)

    reach_of : (p : Published) (a : AreaRef) → ((a.block == area.block) && is_reached p a.serial) ≡ true → (a.block ≡ area.block) × (is_reached p a.serial ≡ true)
    reach_of p a both = let parts = and_parts (a.block == area.block) (is_reached p a.serial) both in (eqb-true a.block area.block parts.0, parts.1)

    unreached : (g : ℕ) (p : Published) → ((a : AreaRef) → Among p.areas a → IsTrue (is_reached p a.serial) → serial_at s a.block ≡ Some a.serial) → slice_get w.published g ≡ Some p → reaches_block p area.block ≡ true → ⊥
    unreached g p reached here reads =
        let found = passed_by (λ (a : AreaRef). (a.block == area.block) && is_reached p a.serial) p.areas reads in
        let parts = reach_of p found.0 found.3 in
        new.listed p found.0 (g, here) (found.1, found.2) (same_area found.0 (reached found.0 (found.1, found.2) parts.1) parts.0)

    fits_unpublished : FitsInBlock w area.block at value
    fits_unpublished = record {
      unread = λ g p counts here. no_generation area.block at p high ∙ elim (cases_Bool (reaches_block p area.block)) as (λ _. reaches_block p area.block ≡ false) [
        | inl reads ↦ absurd (unreached g p (own.reached g p counts here) here reads)
        | inr not ↦ not
      ];
      unkept = λ k among same. absurd (unkept k among same);
      entries = λ k function among same has entry none. absurd (unkept k among same);
    }

    -- it may be stored
    pub may_write : at < room_of area.block → MayStoreWord w (block_place area.block at) value
    may_write room = subst (FitsWord w value) (sym (kind_block area.block at within room)) fits_unpublished

-- ---- the words of an area, one after another

-- what is known once so many words are written
pub record AreWriting (s : Areas) (area : AreaRef) (count : ℕ) (words : List ℕ) (old new : WriterView) : Type 0 where
  pub written : HasWritten area.block count words old new
  pub owned : AreOf s new
  pub unpublished : IsUnpublished new area

pub none_written : (s : Areas) (area : AreaRef) (words : List ℕ) (w : WriterView) → AreOf s w → IsUnpublished w area → AreWriting s area 0 words w w
none_written s area words w own new = record {
  written = record { image = λ at value few has. absurd (omega (arith)); others = λ place off. refl; same = refl };
  owned = own;
  unpublished = new;
}

module _ (s : Areas) (area : AreaRef) (count : ℕ) (words : List ℕ) (old new : WriterView) (h : AreWriting s area count words old new) (live : IsLive s area) (value : ℕ) (here : slice_get words count ≡ Some value) (room : length words ≤ room_of area.block) where
  abbrev place : ℕ
  place = block_place area.block count

  few : count < room_of area.block
  few = let less = slice_get_within words count value here in omega (arith, less, room)

  block : area.block < BLOCKS
  block = within s new h.owned area live

  kind : kind_at place ≡ InBlock area.block count
  kind = kind_block area.block count block few

  in_table : place < length new.words
  in_table = let less = block_within place area.block count kind in let all = h.owned.all in omega (arith, less, all)

  -- two words of the block stand apart
  apart : (at : ℕ) → at < room_of area.block → (at ≡ count → ⊥) → block_place area.block at ≡ place → ⊥
  apart at low differ same = differ (sym (same_block area.block count area.block at (sym kind ∙ ap kind_at (sym same) ∙ kind_block area.block at block low)).1)

  written : (at word : ℕ) → at < count + 1 → slice_get words at ≡ Some word → word_at (slice_set new.words place value) (block_place area.block at) ≡ word
  written at word less has =
      elim (cases_eq at count) as (λ _. word_at (slice_set new.words place value) (block_place area.block at) ≡ word) [
        | inl same ↦
            ap (λ (i : ℕ). word_at (slice_set new.words place value) (block_place area.block i)) same ∙ word_here new.words place value in_table
            ∙ some_same value word (sym here ∙ ap (slice_get words) (sym same) ∙ has)
        | inr differ ↦ (
            let other : at ≡ count → ⊥ = differ in
            let low : at < count = omega (arith, less, other) in
            let inside = few in
            word_there new.words place value (block_place area.block at) (apart at (omega (arith, low, inside)) differ) ∙ h.written.image at word low has)
      ]

  left : (x : ℕ) → ((at : ℕ) → at < count + 1 → x ≢ block_place area.block at) → word_at (slice_set new.words place value) x ≡ word_at old.words x
  left x off =
      word_there new.words place value x (off count (omega (arith))) ∙ h.written.others x (λ at low. off at (omega (arith, low)))

  -- one more word is written
  pub one_written : AreWriting s area (count + 1) words old (with_word place value new)
  one_written = record {
    written = record {
      image = written;
      others = left;
      same = λ i. record (h.written.same i) { words = slice_set new.words place value; kept = kept_same i };
    };
    owned = owned_stored s new place value h.owned;
    unpublished = unpublished_stored new place value area h.unpublished;
  }
    where
      kept_same : kept_left new value (kind_at place) ≡ old.kept
      kept_same = ap (kept_left new value) kind ∙ ap (λ (v : WriterView). v.kept) h.written.same

-- the words of other blocks are as before
pub others_kept : (block count : ℕ) (words : List ℕ) (old new : WriterView) → HasWritten block count words old new → block < BLOCKS → count ≤ room_of block → KeepsOtherBlocks block old new
others_kept block count words old new h fits room other at differ inside few =
    h.others (block_place other at) (λ i less same.
    let low : i < room_of block = omega (arith, less, room) in
    differ (same_block other at block i (sym (kind_block other at inside few) ∙ ap kind_at same ∙ kind_block block i fits low)).0)

-- ---- the store into a retire word

late : (value g : ℕ) → g < value → tells value g ≡ false
late value g less = grind (arith, nat_tests)

no_release : (value : ℕ) (b : Bool) → 0 < value → ((value == 0) && b) ≡ true → ⊥
no_release value b some both = let zero = eqb-true value 0 (and_parts (value == 0) b both).0 in absurd (omega (arith, zero, some))

module _ (s : Areas) (w : WriterView) (own : AreOf s w) (area : AreaRef) (live : IsLive s area) (some : 0 < length w.published) where
  abbrev since : ℕ
  since = length w.published

  -- no generation has retired a live area
  unretired : (g : ℕ) (p : Published) → slice_get w.published g ≡ Some p → (n : ℕ) → n ≡ area.serial → is_retired_area p n ≡ false
  unretired g p here n same =
      elim (cases_Bool (is_retired_area p n)) as (λ _. is_retired_area p n ≡ false) [
        | inl retired ↦ absurd ((own.past p n (g, here) retired).dead area.block (live ∙ ap (λ (x : ℕ). Some (Live x)) (sym same)))
        | inr not ↦ not
      ]

  fits_retired : FitsRetire w area.block since
  fits_retired = record {
    tells_of = λ g p counts here k among same unreleased. late since g (slice_get_within w.published g p here) ∙ sym (unretired g p here k.area.serial (same_area s w own area live k.area (own.kept k among) same));
    unused = λ g p counts here k among same released. absurd (no_release since _ some released);
    cleared = λ k among same released. absurd (no_release since _ some released);
  }

  -- it may be stored
  pub may_retire : MayStoreWord w (retire_place area.block) since
  may_retire = subst (FitsWord w since) (sym (kind_retire area.block (within s w own area live))) fits_retired

module _ (s : Areas) (w : WriterView) (own : AreOf s w) (area : AreaRef) (live : IsLive s area) where
  same_retired : (m n g h : ℕ) → Retired m g ≡ Retired n h → (m ≡ n) × (g ≡ h)
  same_retired m n g h e = (cc, cc)

  live_retired : (m n g : ℕ) → Live m ≡ Retired n g → ⊥
  live_retired m n g e = (cc)

  past_retired : (n : ℕ) → IsPast s n → IsPast (with_retired area (length w.published) s) n
  past_retired n is = record {
    below = is.below;
    dead = λ b now. elim (use_after s area.block b (Live area.serial) (Retired area.serial (length w.published)) (Live n) live now) as (λ _. ⊥) [
      | inl here ↦ live_retired n area.serial (length w.published) here.1
      | inr other ↦ is.dead b other.1
    ];
  }

  -- the pools stay those of the writer once the area is retired by the generation that is published next
  pub owned_retired : AreOf (with_retired area (length w.published) s) w
  owned_retired = record {
    sound = sound_retired s own.sound area (length w.published) live;
    all = own.all;
    kept = λ k among. retired_serial s own.sound area (length w.published) live k.area.block k.area.serial (own.kept k among);
    reached = λ g p counts here a among reaches. retired_serial s own.sound area (length w.published) live a.block a.serial (own.reached g p counts here a among reaches);
    taken = own.taken;
    past = λ p n published is. past_retired n (own.past p n published is);
    since = λ b n first g p is le here. elim (use_after s area.block b (Live area.serial) (Retired area.serial (length w.published)) (Retired n first) live is) as (λ _. HasRetired p n) [
      | inl now ↦ (
          let first_is : first ≡ length w.published = (same_retired n area.serial first (length w.published) now.1).1 in
          let inside = slice_get_within w.published g p here in
          absurd (omega (arith, first_is, le, inside)))
      | inr other ↦ own.since b n first g p other.1 le here
    ];
  }

-- ---- the store into a doom word

module _ (s : Areas) (w : WriterView) (own : AreOf s w) (area : AreaRef) (live : IsLive s area) (undoomed : IsUndoomed w area) where
  fits_doomed : FitsDoom w area.block (length w.published)
  fits_doomed = λ g p counts here k among same unretired. late (length w.published) g (slice_get_within w.published g p here) ∙ sym (ap (is_doomed_area p) (same_area s w own area live k.area (own.kept k among) same) ∙ undoomed g p counts here)

  -- it may be stored
  pub may_doom : area.block < BIG_BLOCKS → MayStoreWord w (doom_place area.block) (length w.published)
  may_doom big = subst (FitsWord w (length w.published)) (sym (kind_doom area.block big)) fits_doomed
