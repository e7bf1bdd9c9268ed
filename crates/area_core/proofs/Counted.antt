-- What the tests that count say of none, and of one more.
use Rattle.std.proofs.Common.{◌≡◌, ℕ, suc, ◌+◌, ◌/◌, ◌%◌, None, true, false, not, ◌&&◌, ◌||◌, List, replicate, refl, ap, ◌∙◌, arith}
use Rattle.std.specs.Prelude.{◌==◌, slice_get}
use Rattle.term_core.specs.declared.area.AreaRef.{AreaRef}
use Rattle.term_core.specs.declared.generation.KeyTerm.{KeyTerm}
use Rattle.area_core.specs.declared.map.TheConstants.{ANCHORS, BUCKETS}
use Rattle.area_core.specs.declared.readers.Slots.{Slots}
use Rattle.area_core.specs.declared.table.Published.{Published}
use Rattle.area_core.specs.declared.table.KeptArea.{KeptArea}
use Rattle.area_core.specs.Map.{opening_words, word_at, anchor_place, slot_place, block_place, breakpoint_place, image_entry_at}
use Rattle.area_core.specs.Generations.{anchor_names_area, serial_in, names_frame, is_code_word, traced_word, has_function, is_traced_function, is_entry_word}
use Rattle.area_core.specs.Terms.{looked, look_at, are_buckets_known, is_bucket_known}
use Rattle.area_core.specs.Readers.{is_slot_of, is_named_before}
use Rattle.area_core.specs.Stores.{stands_elsewhere, is_framed, is_image_word}
use Rattle.area_core.specs.Roots.{code_stands, traces_stand, entries_stand, image_stands}

-- one more than a number is the number after it
pub one_more : (n : ℕ) → n + 1 ≡ suc n
one_more n = omega (arith)

-- so many words, each 0
pub opened : (count : ℕ) → replicate count 0 ≡ opening_words count
unfolding opening_words
opened count = refl

pub named_none : (slots : Slots) (words : List ℕ) (serial : ℕ) → is_named_before slots words serial 0 ≡ false
unfolding is_named_before
named_none slots words serial = refl

pub named_suc : (slots : Slots) (words : List ℕ) (serial : ℕ) (n : ℕ) → is_named_before slots words serial (suc n) ≡ (is_named_before slots words serial n || (is_slot_of slots (n / ANCHORS) && anchor_names_area (word_at words (anchor_place n)) serial))
unfolding is_named_before
named_suc slots words serial n = refl

pub named_next : (slots : Slots) (words : List ℕ) (serial : ℕ) (n : ℕ) → is_named_before slots words serial (n + 1) ≡ (is_named_before slots words serial n || (is_slot_of slots (n / ANCHORS) && anchor_names_area (word_at words (anchor_place n)) serial))
named_next slots words serial n = ap (is_named_before slots words serial) (one_more n) ∙ named_suc slots words serial n

pub known_none : (block : ℕ → ℕ) (keys : List KeyTerm) → are_buckets_known block keys 0 ≡ true
unfolding are_buckets_known
known_none block keys = refl

pub known_suc : (block : ℕ → ℕ) (keys : List KeyTerm) (n : ℕ) → are_buckets_known block keys (suc n) ≡ (are_buckets_known block keys n && is_bucket_known block keys n)
unfolding are_buckets_known
known_suc block keys n = refl

pub known_next : (block : ℕ → ℕ) (keys : List KeyTerm) (n : ℕ) → are_buckets_known block keys (n + 1) ≡ (are_buckets_known block keys n && is_bucket_known block keys n)
known_next block keys n = ap (are_buckets_known block keys) (one_more n) ∙ known_suc block keys n

pub elsewhere_none : (words : List ℕ) (process place serial : ℕ) → stands_elsewhere words process place serial 0 ≡ false
unfolding stands_elsewhere
elsewhere_none words process place serial = refl

pub elsewhere_suc : (words : List ℕ) (process place serial : ℕ) (n : ℕ) → stands_elsewhere words process place serial (suc n) ≡ (stands_elsewhere words process place serial n || (not (n + 1 == place) && not (word_at words (slot_place process (n + 1)) == 0) && (serial_in (word_at words (slot_place process (n + 1))) == serial)))
unfolding stands_elsewhere
elsewhere_suc words process place serial n = refl

pub elsewhere_next : (words : List ℕ) (process place serial : ℕ) (n : ℕ) → stands_elsewhere words process place serial (n + 1) ≡ (stands_elsewhere words process place serial n || (not (n + 1 == place) && not (word_at words (slot_place process (n + 1)) == 0) && (serial_in (word_at words (slot_place process (n + 1))) == serial)))
elsewhere_next words process place serial n = ap (stands_elsewhere words process place serial) (one_more n) ∙ elsewhere_suc words process place serial n

pub framed_none : (words : List ℕ) (process serial : ℕ) → is_framed words process serial 0 ≡ false
unfolding is_framed
framed_none words process serial = refl

pub framed_suc : (words : List ℕ) (process serial : ℕ) (n : ℕ) → is_framed words process serial (suc n) ≡ (is_framed words process serial n || names_frame (word_at words (slot_place process (n + 1))) serial)
unfolding is_framed
framed_suc words process serial n = refl

pub framed_next : (words : List ℕ) (process serial : ℕ) (n : ℕ) → is_framed words process serial (n + 1) ≡ (is_framed words process serial n || names_frame (word_at words (slot_place process (n + 1))) serial)
framed_next words process serial n = ap (is_framed words process serial) (one_more n) ∙ framed_suc words process serial n

pub code_none : (words : List ℕ) (p : Published) → code_stands words p 0 ≡ true
unfolding code_stands
code_none words p = refl

pub code_suc : (words : List ℕ) (p : Published) (n : ℕ) → code_stands words p (suc n) ≡ (code_stands words p n && is_code_word p (slice_get p.state.exports n) (word_at words (block_place p.root.code n)))
unfolding code_stands
code_suc words p n = refl

pub code_next : (words : List ℕ) (p : Published) (n : ℕ) → code_stands words p (n + 1) ≡ (code_stands words p n && is_code_word p (slice_get p.state.exports n) (word_at words (block_place p.root.code n)))
code_next words p n = ap (code_stands words p) (one_more n) ∙ code_suc words p n

pub traces_none : (words : List ℕ) (p : Published) (a : AreaRef) → traces_stand words p a 0 ≡ true
unfolding traces_stand
traces_none words p a = refl

pub traces_suc : (words : List ℕ) (p : Published) (a : AreaRef) (n : ℕ) → traces_stand words p a (suc n) ≡ (traces_stand words p a n && (word_at words (breakpoint_place p.root.bp a.block n) == traced_word p a.serial n))
unfolding traces_stand
traces_suc words p a n = refl

pub traces_next : (words : List ℕ) (p : Published) (a : AreaRef) (n : ℕ) → traces_stand words p a (n + 1) ≡ (traces_stand words p a n && (word_at words (breakpoint_place p.root.bp a.block n) == traced_word p a.serial n))
traces_next words p a n = ap (traces_stand words p a) (one_more n) ∙ traces_suc words p a n

pub entries_none : (words : List ℕ) (k : KeptArea) (p : Published) → entries_stand words k p 0 ≡ true
unfolding entries_stand
entries_none words k p = refl

pub entries_suc : (words : List ℕ) (k : KeptArea) (p : Published) (n : ℕ) → entries_stand words k p (suc n) ≡ (entries_stand words k p n && (not (has_function k n) || not (word_at words (block_place k.area.block (image_entry_at n)) == 0) || not (is_traced_function p k.area.serial n)))
unfolding entries_stand
entries_suc words k p n = refl

pub entries_next : (words : List ℕ) (k : KeptArea) (p : Published) (n : ℕ) → entries_stand words k p (n + 1) ≡ (entries_stand words k p n && (not (has_function k n) || not (word_at words (block_place k.area.block (image_entry_at n)) == 0) || not (is_traced_function p k.area.serial n)))
entries_next words k p n = ap (entries_stand words k p) (one_more n) ∙ entries_suc words k p n

pub image_none : (words : List ℕ) (k : KeptArea) → image_stands words k 0 ≡ true
unfolding image_stands
image_none words k = refl

pub image_suc : (words : List ℕ) (k : KeptArea) (n : ℕ) → image_stands words k (suc n) ≡ (image_stands words k n && (is_entry_word k n || is_image_word (slice_get k.words n) (word_at words (block_place k.area.block n))))
unfolding image_stands
image_suc words k n = refl

pub image_next : (words : List ℕ) (k : KeptArea) (n : ℕ) → image_stands words k (n + 1) ≡ (image_stands words k n && (is_entry_word k n || is_image_word (slice_get k.words n) (word_at words (block_place k.area.block n))))
image_next words k n = ap (image_stands words k) (one_more n) ∙ image_suc words k n

pub looked_none : (block : ℕ → ℕ) (key : ℕ) → looked block key 0 ≡ None
unfolding looked
looked_none block key = refl

pub looked_suc : (block : ℕ → ℕ) (key n : ℕ) → looked block key (suc n) ≡ look_at block key ((key % BUCKETS + n) % BUCKETS) (looked block key n)
unfolding looked
looked_suc block key n = refl

pub looked_next : (block : ℕ → ℕ) (key n : ℕ) → looked block key (n + 1) ≡ look_at block key ((key % BUCKETS + n) % BUCKETS) (looked block key n)
looked_next block key n = ap (looked block key) (one_more n) ∙ looked_suc block key n
