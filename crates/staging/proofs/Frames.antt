-- The words stand for a state still, over stores in blocks that tell nothing of areas.
use Rattle.std.proofs.Common.{◌≡◌, ℕ, ◌<◌, ◌≤◌, inl, inr, List, length, refl, sym, subst, ◌∙◌, arith}
use Rattle.std.proofs.lemmas.Bool.{cases_lt, lt-ltb, le-ltb}
use Rattle.term_core.specs.declared.area.AreaRef.{AreaRef}
use Rattle.term_core.specs.declared.atom.Mfa.{Mfa}
use Rattle.area_core.specs.Map.{block_place, breakpoint_at, doom_place, retire_place, word_at}
use Rattle.area_core.specs.Blocks.{IsForInstances}
use Rattle.shared_words.specs.declared.view.WriterView.{WriterView}
use Rattle.server_core.specs.ServerState.{ServerState}
use Rattle.literal_areas.specs.declared.areas.Areas.{Areas}
use Rattle.literal_areas.specs.Owned.{IsUnpublished}
use Rattle.literal_areas.specs.Written.{HasWritten}
use Rattle.staging.specs.Standing.{DoomStands, StandFor}

-- ---- what tells of areas

-- retire words and doom words are as before, and nothing but words has changed
pub record TellsAlike (old new : WriterView) : Type 0 where
  pub retire : (block : ℕ) → block < 320 → word_at new.words (retire_place block) ≡ word_at old.words (retire_place block)
  pub doom : (block : ℕ) → block < 64 → word_at new.words (doom_place block) ≡ word_at old.words (doom_place block)
  pub same : new ≡ record old { words = new.words }

module _ (names : List Mfa) (s : ServerState) (pools : Areas) (v : WriterView) (words : List ℕ) (alike : TellsAlike v (record v { words = words })) (stands : StandFor names s pools v) where
  stands_words : StandFor names s pools (record v { words = words })
  stands_words = record {
    newest_is = stands.newest_is;
    numbered = stands.numbered;
    keys_once = stands.keys_once;
    knows = stands.knows;
    narrow = stands.narrow;
    bp = stands.bp;
    listed = stands.listed;
    stay = stands.stay;
    blocks = stands.blocks;
    placed = stands.placed;
    images = stands.images;
    words = record {
      retire = λ block few. alike.retire block few ∙ stands.words.retire block few;
      since = stands.words.since;
      free = λ block few is. alike.doom block few ∙ stands.words.free block few is;
      doom = λ block serial few is. subst (DoomStands s serial (length v.published)) (sym (alike.doom block few)) (stands.words.doom block serial few is);
    };
    dropped = stands.dropped;
  }

-- so the words stand for the state still
pub stands_alike : (names : List Mfa) (s : ServerState) (pools : Areas) (old new : WriterView) → TellsAlike old new → StandFor names s pools old → StandFor names s pools new
stands_alike names s pools old new alike stands =
    subst (StandFor names s pools) (sym alike.same) (stands_words names s pools old new.words (record { retire = alike.retire; doom = alike.doom; same = refl }) stands)

-- what was never published is not, where nothing but words has changed
pub unpublished_written : (old : WriterView) (words : List ℕ) (area : AreaRef) → IsUnpublished old area → IsUnpublished (record old { words = words }) area
unpublished_written old words area was = record { listed = was.listed; kept = was.kept }

-- ---- a write into a block of an area

-- words of blocks stand behind those that tell of areas
pub block_behind : (block at : ℕ) → 1493 ≤ block_place block at
block_behind block at =
    elim (cases_lt block 64) as (λ _. 1493 ≤ block_place block at) [
      | inl low ↦ rw (lt-ltb block 64 low) (omega (arith))
      | inr high ↦ rw (le-ltb block 64 high) (omega (arith, high))
    ]

pub at_fits : (block function : ℕ) → IsForInstances block → function < 16 → breakpoint_at block function < 1024
at_fits block function for few = let first = for.first in let last = for.last in omega (arith, first, last, few)

pub tells_written : (block count : ℕ) (words : List ℕ) (old new : WriterView) → HasWritten block count words old new → TellsAlike old new
tells_written block count words old new written = record {
  retire = λ other few. written.others (retire_place other) (λ at _ is. absurd (let behind = block_behind block at in omega (arith, is, few, behind)));
  doom = λ other few. written.others (doom_place other) (λ at _ is. absurd (let behind = block_behind block at in omega (arith, is, few, behind)));
  same = written.same;
}
