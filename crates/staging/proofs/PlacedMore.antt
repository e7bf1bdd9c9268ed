-- One more of what a change brings in is placed.
use Rattle.std.proofs.Common.{◌≡◌, ℕ, ◌+◌, ◌^◌, ◌<◌, ◌≤◌, inl, inr, List, [], ◌∷◌, ◌++◌, length, length-append, sym, ap, subst, ◌∙◌, arith}
use Rattle.std.specs.Prelude.{Some, slice_get}
use Rattle.prgr_core.proofs.Parts.{slice_get-push_at, some_same}
use Rattle.term_core.specs.declared.area.AreaRef.{AreaRef}
use Rattle.term_core.specs.declared.atom.Mfa.{Mfa}
use Rattle.area_core.specs.Map.{room_of}
use Rattle.shared_words.specs.declared.view.WriterView.{WriterView}
use Rattle.shared_words.proofs.ShownMembers.{within_get}
use Rattle.progress_words.specs.Tokens.{written_by}
use Rattle.server_core.specs.declared.change.Change.{Change}
use Rattle.server_core.specs.ServerState.{ServerState}
use Rattle.literal_areas.specs.declared.areas.Areas.{Areas}
use Rattle.literal_areas.specs.declared.blocks.BlockUse.TheVariants.{Free}
use Rattle.literal_areas.specs.Blocks.{first_of, size_of, use_of, with_area}
use Rattle.literal_areas.specs.Owned.{IsUnpublished}
use Rattle.staging.specs.declared.tables.Tables.{Tables}
use Rattle.change_laws.specs.Changes.{Incoming, incoming, instance, stored}
use Rattle.change_laws.specs.Images.{words_of}
use Rattle.staging.specs.Placed.{HasPlaced, HasWords, IsAreaOf, pool_of, with_areas}
use Rattle.staging.specs.Stages.{HavePlaced}
use Rattle.staging.proofs.Elsewhere.{room_same}
use Rattle.staging.proofs.Frames.{stands_alike, tells_written, unpublished_written}
use Rattle.staging.proofs.Taken.{apart_from, taken_more, with_one_more}

block_within : (i : Incoming) (block : ℕ) → block < first_of (pool_of i) + size_of (pool_of i) → block < 320
block_within (instance m) block last = omega (arith, last)
block_within (stored term) block last = omega (arith, last)

module _ (names : List Mfa) (s : ServerState) (change : Change) (old new : Tables) (taken : List AreaRef) (area : AreaRef) (i : Incoming) (words : List ℕ) (had : HavePlaced names s change old taken) (there : slice_get (incoming change) (length taken) ≡ Some i) (words_are : words ≡ words_of old.pools.next i)
    (room : length words ≤ room_of (first_of (pool_of i))) (low : old.pools.next < 2 ^ 40) (placed : HasPlaced (pool_of i) words area old new) where
  abbrev before : WriterView
  before = written_by old.writer

  abbrev after : WriterView
  after = written_by new.writer

  serial_is : area.serial ≡ old.pools.next
  serial_is = placed.taken.serial

  words_here : words ≡ words_of area.serial i
  words_here = words_are ∙ ap (λ (n : ℕ). words_of n i) (sym serial_is)

  free : use_of (with_areas taken had.rest) area.block ≡ Some Free
  free = ap (λ (pools : Areas). use_of pools area.block) (sym had.placed.pools_are) ∙ placed.taken.block.free

  -- the areas before keep their words
  area_stays : (j : Incoming) (a : AreaRef) → (a.block ≡ area.block → ⊥) → IsAreaOf before j a → IsAreaOf after j a
  area_stays j a differ was = record {
    small = was.small;
    first = was.first;
    last = was.last;
    room = was.room;
    unpublished = subst (λ (w : WriterView). IsUnpublished w a) (sym placed.stored.same) (unpublished_written before after.words a was.unpublished);
    written = λ at value is. placed.others a.block at differ (block_within j a.block was.last) (let few = within_get (words_of a.serial j) at value is in let fits = was.room in omega (arith, few, fits)) ∙ was.written at value is;
  }

  -- the new one has its own
  area_new : IsAreaOf after i area
  area_new = record {
    small = (let is = serial_is in omega (arith, is, low));
    first = placed.taken.block.first;
    last = placed.taken.block.last;
    room = subst (λ (ws : List ℕ). length ws ≤ room_of area.block) words_here (room_same (pool_of i) old.pools area.block (length words) placed.taken.block room);
    unpublished = placed.unpublished;
    written = subst (HasWords after area) words_here placed.written;
  }

  each_more : (place : ℕ) (j : Incoming) (a : AreaRef) → slice_get (incoming change) place ≡ Some j → slice_get (taken ++ area ∷ []) place ≡ Some a → IsAreaOf after j a
  each_more place j a comes at =
      elim (slice_get-push_at taken area place a at) as (λ _. IsAreaOf after j a) [
        | inl was ↦ area_stays j a (apart_from taken had.rest place a area had.placed.taken_are was free) (had.placed.each place j a comes was)
        | inr last ↦
            let same : j ≡ i = some_same j i (sym comes ∙ ap (slice_get (incoming change)) last.0 ∙ there) in
            subst (λ (x : AreaRef). IsAreaOf after j x) (sym last.1) (subst (λ (y : Incoming). IsAreaOf after y area) (sym same) area_new)
      ]

  -- one more has its area
  pub placed_more : HavePlaced names s change new (taken ++ area ∷ [])
  placed_more = record {
    rest = had.rest;
    stands = stands_alike names s had.rest before after (tells_written area.block (length words) words before after placed.stored) had.stands;
    placed = record {
      few = (let long = length-append taken (area ∷ []) in let within = within_get (incoming change) (length taken) i there in omega (arith, long, within));
      taken_are = taken_more taken area had.rest had.placed.taken_are (serial_is ∙ ap (λ (pools : Areas). pools.next) had.placed.pools_are) free;
      pools_are = placed.taken.after ∙ ap (with_area area) had.placed.pools_are ∙ sym (with_one_more taken area had.rest);
      each = each_more;
    };
    terms = ap (λ t. t.staged) placed.staged.terms ∙ had.terms;
    patch = placed.staged.patch ∙ had.patch;
  }
