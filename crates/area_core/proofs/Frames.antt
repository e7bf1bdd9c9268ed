-- A word is stored, all others are as before: each clause of the block invariant holds after it where it holds of the
-- word that was stored. Each lemma takes what the clause says of that word.
use Rattle.std.proofs.Common.{◌≡◌, ◌≢◌, ℕ, zero, suc, ◌+◌, ◌*◌, ◌%◌, ◌<◌, ◌≤◌, false, length, Option, Some, None, ◌⊎◌, inl, inr, refl, sym, ap, ◌∙◌, subst, arith}
use Rattle.std.specs.Prelude.{◌==◌, slice_get, IsTrue, if◌then◌else◌, nat_lt, IsSomeAnd}
use Rattle.std.specs.Option.{IfSome, option_map}
use Rattle.std.proofs.lemmas.Bool.{and_parts, ltb-true}
use Rattle.std.proofs.lemmas.Bool.Decides.{nat_tests}
use Rattle.std.proofs.lemmas.Option.{slice_get_within}
use Rattle.term_core.specs.declared.area.AreaRef.{AreaRef}
use Rattle.area_core.specs.declared.map.TheConstants.{BIG_BLOCKS, BIG_WORDS, BREAKPOINTS_START, TERMS_START, EXPORT_ENTRIES, FUNCTIONS, BUCKETS}
use Rattle.area_core.specs.declared.map.WordKind.{WordKind}
use Rattle.area_core.specs.declared.map.WordKind.TheVariants.{Slot, Retire, Doom, InBlock}
use Rattle.area_core.specs.declared.table.Published.{Published}
use Rattle.area_core.specs.declared.table.KeptArea.{KeptArea}
use Rattle.area_core.specs.Map.{kind_at, block_place, retire_place, doom_place, slot_place, room_of, breakpoint_at, breakpoint_place, term_place, image_entry_at}
use Rattle.area_core.specs.Generations.{is_instance, is_retired_area, is_doomed_area, is_traced_function, is_kept, functions_in_image, has_function, is_entry_word, is_code_word, traced_word, tells, serial_in, is_naming}
use Rattle.area_core.specs.Terms.{TermsStand, looked, look_at, bucket_value, bucket_of, found_in, found_outcome}
use Rattle.area_core.specs.Blocks.{Blocks, Among, RootFits, CodeStands, BreakpointsStand, IsForInstances, term_blocks_words, FitsBlock, ImageStands, EntriesStand, RetireTells, DoomTells, NamedAreKept, AnchorsApart, EachCounted, BlockInvariant}
use Rattle.area_core.specs.Generations.{is_term_word}
use Rattle.area_core.proofs.Places.{kind_block, kind_retire, kind_doom, kind_slot}
use Rattle.area_core.proofs.Buckets.{bucket_within}
use Rattle.area_core.proofs.Counted.{looked_suc, looked_none}

-- ---- what fits

-- a big block has room for each of its words
pub big_room : (block at : ℕ) → block < BIG_BLOCKS → at < BIG_WORDS → at < room_of block
big_room block at big small = grind (arith, nat_tests)

-- a function of a kept area is one of an instance, and within what an instance has
pub function_fits : (k : KeptArea) (function : ℕ) → FitsBlock k → IsTrue (has_function k function) → (k.area.block < BIG_BLOCKS) × (function < FUNCTIONS)
function_fits k function fits has =
    let both = and_parts (nat_lt k.area.block BIG_BLOCKS) (nat_lt function (functions_in_image k.words)) has in
    let big = ltb-true k.area.block BIG_BLOCKS both.0 in
    let few = fits.functions big in
    let below = ltb-true function (functions_in_image k.words) both.1 in
    (big, omega (arith, few, below))

-- the word of a function of an instance stands within a breakpoint index
pub breakpoint_fits : (block function : ℕ) → IsForInstances block → function < FUNCTIONS → breakpoint_at block function < BIG_WORDS
breakpoint_fits block function fits few = omega (arith, fits.last)

-- ---- the words of a term table

-- what is known of a key depends on the words of the buckets
looked_same : (block new : ℕ → ℕ) → ((at : ℕ) → at < BIG_WORDS → new at ≡ block at) → (key n : ℕ) → looked new key n ≡ looked block key n
looked_same block new same key zero = looked_none new key ∙ sym (looked_none block key)
looked_same block new same key (suc n) =
    looked_suc new key n ∙ step ((key % 512 + n) % 512) (omega (arith)) (looked new key n) ∙ ap (look_at block key ((key % 512 + n) % 512)) (looked_same block new same key n) ∙ sym (looked_suc block key n)
  where
    step : (bucket : ℕ) → bucket < 512 → (known : Option (Option ℕ)) → look_at new key bucket known ≡ look_at block key bucket known
    step bucket within (Some known) = refl
    step bucket within None = ap (λ (x : ℕ). if x == 0 then Some None else if x == key + 1 then Some (Some bucket) else None) (same (bucket * 2) (omega (arith)))

pub found_same : (block new : ℕ → ℕ) → ((at : ℕ) → at < BIG_WORDS → new at ≡ block at) → (key : ℕ) → found_in new key ≡ found_in block key
found_same block new same key = ap (option_map (bucket_value new)) (ap found_outcome (looked_same block new same key BUCKETS)) ∙ by_bucket (bucket_of block key) (bucket_within block key)
  where
    by_bucket : (found : Option ℕ) → IfSome found (λ bucket. bucket < BUCKETS) → option_map (bucket_value new) found ≡ option_map (bucket_value block) found
    by_bucket None within = refl
    by_bucket (Some bucket) within = ap Some (same (bucket * 2 + 1) (omega (arith, within)))

-- a table stands for what it stood for
pub terms_same : (block new : ℕ → ℕ) (p : Published) → ((at : ℕ) → at < BIG_WORDS → new at ≡ block at) → TermsStand block p → TermsStand new p
terms_same block new p same stands = record {
  found = λ i k at. subst (λ (o : Option ℕ). IsSomeAnd o (λ word. IsTrue (is_term_word p k.holding word))) (sym (found_same block new same k.key.0)) (stands.found i k at);
  only = λ key word is. stands.only key word (sym (found_same block new same key) ∙ is);
}

-- ---- each clause

module _ (b : Blocks) (Counts : ℕ → Type 0) (word : ℕ → ℕ) (kind : WordKind) (off : (x : ℕ) → (kind_at x ≡ kind) ⊎ (word x ≡ b.word x)) (sound : BlockInvariant b Counts) where
  -- a word of another kind is as before, and what holds of the stored word holds
  at_word : (x : ℕ) (own : WordKind) (P : ℕ → Type 0) → kind_at x ≡ own → (kind ≡ own → P (word x)) → P (b.word x) → P (word x)
  at_word x own P is stored before = elim (off x) as (λ _. P (word x)) [ inl same ↦ stored (sym same ∙ is) | inr as_before ↦ subst P (sym as_before) before ]

  -- no word of a code index is stored
  pub code_after : ((g : ℕ) (p : Published) → Counts g → slice_get b.published g ≡ Some p → RootFits p.root → (entry : ℕ) → entry < EXPORT_ENTRIES → kind ≡ InBlock p.root.code entry → ⊥) → EachCounted b Counts (λ g p. CodeStands word p)
  code_after unread g p counts at entry within =
      let root = sound.roots_fit g p counts at in
      let code = root.code in
      let big : p.root.code < BIG_BLOCKS = omega (arith, code) in
      at_word (block_place p.root.code entry) (InBlock p.root.code entry) (λ x. IsTrue (is_code_word p (slice_get p.state.exports entry) x))
      (kind_block p.root.code entry (omega (arith)) (big_room p.root.code entry big within))
      (λ same. absurd (unread g p counts at root entry within same))
      (sound.code_stands g p counts at entry within)

  -- no word of a breakpoint index that tells of an instance is stored
  pub breakpoints_after : ((g : ℕ) (p : Published) → Counts g → slice_get b.published g ≡ Some p → RootFits p.root → (a : AreaRef) → Among p.areas a → IsTrue (is_instance p a.serial) → IsForInstances a.block → (function : ℕ) → function < FUNCTIONS → kind ≡ InBlock (BREAKPOINTS_START + p.root.bp) (breakpoint_at a.block function) → ⊥) → EachCounted b Counts (λ g p. BreakpointsStand word p)
  breakpoints_after unread g p counts at a among instance function few =
      let fits = sound.instances_placed g p counts at a among instance in
      let root = sound.roots_fit g p counts at in
      let bp = root.bp in
      let big : BREAKPOINTS_START + p.root.bp < BIG_BLOCKS = omega (arith, bp) in
      at_word (breakpoint_place p.root.bp a.block function) (InBlock (BREAKPOINTS_START + p.root.bp) (breakpoint_at a.block function)) (λ x. x ≡ traced_word p a.serial function)
      (kind_block (BREAKPOINTS_START + p.root.bp) (breakpoint_at a.block function) (omega (arith)) (big_room (BREAKPOINTS_START + p.root.bp) (breakpoint_at a.block function) big (breakpoint_fits a.block function fits few)))
      (λ same. absurd (unread g p counts at root a among instance fits function few same))
      (sound.breakpoints_stand g p counts at a among instance function few)

  -- no word of a term table is stored
  pub terms_after : ((g : ℕ) (p : Published) → Counts g → slice_get b.published g ≡ Some p → RootFits p.root → (at : ℕ) → at < BIG_WORDS → kind ≡ InBlock (TERMS_START + p.root.term) at → ⊥) → EachCounted b Counts (λ g p. TermsStand (term_blocks_words word p.root) p)
  terms_after unread g p counts at =
      let root = sound.roots_fit g p counts at in
      let term = root.term in
      let big : TERMS_START + p.root.term < BIG_BLOCKS = omega (arith, term) in
      terms_same (term_blocks_words b.word p.root) (term_blocks_words word p.root) p
      (λ place within.
      at_word (term_place p.root.term place) (InBlock (TERMS_START + p.root.term) place) (λ x. x ≡ b.word (term_place p.root.term place))
      (kind_block (TERMS_START + p.root.term) place (omega (arith)) (big_room (TERMS_START + p.root.term) place big within))
      (λ same. absurd (unread g p counts at root place within same))
      refl)
      (sound.terms_stand g p counts at)

  -- an entry word that is stored is 0 only where the generation does not trace the function
  pub entries_after : (g : ℕ) (p : Published) → Counts g → slice_get b.published g ≡ Some p → (k : KeptArea) → Among b.kept k → ((function : ℕ) → IsTrue (has_function k function) → kind ≡ InBlock k.area.block (image_entry_at function) → word (block_place k.area.block (image_entry_at function)) ≡ 0 → is_traced_function p k.area.serial function ≡ false) → EntriesStand word k p
  entries_after g p counts at k among stored function has =
      let fits = function_fits k function (sound.kept_fit k among) has in
      let big = fits.0 in
      let few = fits.1 in
      at_word (block_place k.area.block (image_entry_at function)) (InBlock k.area.block (image_entry_at function)) (λ x. x ≡ 0 → is_traced_function p k.area.serial function ≡ false)
      (kind_block k.area.block (image_entry_at function) (omega (arith, big)) (big_room k.area.block (image_entry_at function) big (omega (arith, few))))
      (stored function has)
      ((sound.areas_stand g p counts at k among).entries function has)

  -- a retire word that is stored tells whether the area is retired
  pub retired_after : (g : ℕ) (p : Published) → Counts g → slice_get b.published g ≡ Some p → (k : KeptArea) → Among b.kept k → (kind ≡ Retire k.area.block → RetireTells word k g p) → RetireTells word k g p
  retired_after g p counts at k among stored =
      at_word (retire_place k.area.block) (Retire k.area.block) (λ x. tells x g ≡ is_retired_area p k.area.serial)
      (kind_retire k.area.block (sound.kept_fit k among).last)
      stored
      ((sound.areas_stand g p counts at k among).retired)

  -- a doom word that is stored tells whether the instance is doomed
  pub doomed_after : (g : ℕ) (p : Published) → Counts g → slice_get b.published g ≡ Some p → (k : KeptArea) → Among b.kept k → (kind ≡ Doom k.area.block → DoomTells word k g p) → DoomTells word k g p
  doomed_after g p counts at k among stored big unretired =
      at_word (doom_place k.area.block) (Doom k.area.block) (λ x. tells x g ≡ is_doomed_area p k.area.serial)
      (kind_doom k.area.block big)
      (λ same. stored same big unretired)
      ((sound.areas_stand g p counts at k among).doomed big unretired)

  -- a word of an area that is stored is that of its image
  pub images_after : (k : KeptArea) → Among b.kept k → ((at value : ℕ) → slice_get k.words at ≡ Some value → is_entry_word k at ≡ false → kind ≡ InBlock k.area.block at → word (block_place k.area.block at) ≡ value) → ImageStands word k
  images_after k among stored at value is plain =
      let fits = sound.kept_fit k among in
      let room = fits.room in
      let within = slice_get_within k.words at value is in
      at_word (block_place k.area.block at) (InBlock k.area.block at) (λ x. x ≡ value)
      (kind_block k.area.block at fits.last (fits_room at (length k.words) (room_of k.area.block) within room))
      (stored at value is plain)
      (sound.images_stand k among at value is plain)
    where
      fits_room : (a b c : ℕ) → a < b → b ≤ c → a < c
      fits_room a b c below most = omega (arith)

  -- no word of a slot is stored: what slots name is kept
  pub named_after : (kind ≡ Slot → ⊥) → NamedAreKept word b.kept
  named_after other process anchor is =
      at_word (slot_place process anchor) Slot (λ x. IsTrue (is_naming x) → IsTrue (is_kept b.kept (serial_in x)))
      (kind_slot process anchor is.slot is.last)
      (λ same. absurd (other same))
      (sound.named_kept process anchor is)

  -- no word of a slot is stored: areas stand apart in it
  pub apart_after : (kind ≡ Slot → ⊥) → AnchorsApart word
  apart_after other process one two is_one is_two differ =
      at_word (slot_place process one) Slot (λ x. x ≢ 0 → word (slot_place process two) ≢ 0 → serial_in x ≢ serial_in (word (slot_place process two)))
      (kind_slot process one is_one.slot is_one.last)
      (λ same. absurd (other same))
      (at_word (slot_place process two) Slot (λ x. b.word (slot_place process one) ≢ 0 → x ≢ 0 → serial_in (b.word (slot_place process one)) ≢ serial_in x)
      (kind_slot process two is_two.slot is_two.last)
      (λ same. absurd (other same))
      (sound.anchors_apart process one two is_one is_two differ))
