-- The two breakpoint indices: each has one word for each function of an instance, which says whether calls of it are traced. One is active; in the other one a decision is staged.
-- Source: Erlang/OTP erts internal documentation, Tracing; the words are this project's own.
use Rattle.std.specs.Prelude.{◌≡◌, ◌≢◌, ℕ, ◌+◌, ◌%◌, ◌<◌, List, length, Option, Some, None}
use Rattle.term_core.specs.declared.area.CodeRef.{CodeRef}
use Rattle.area_core.specs.declared.map.TheConstants.{BREAKPOINT_INDICES, FUNCTIONS, TABLE_WORDS}
use Rattle.area_core.specs.declared.table.KeptArea.{KeptArea}
use Rattle.area_core.specs.Map.{breakpoint_place, word_at}
use Rattle.area_core.specs.Blocks.{Among, BreakpointsStand, EntriesStand, FitsBlock, InstancesPlaced, IsForInstances}
use Rattle.shared_words.specs.declared.view.WriterView.{WriterView}
use Rattle.shared_words.specs.Publishing.{EachMayBeRead}
use Rattle.progress_words.specs.Roots.{newest_of}

-- ---- which index

-- the index by which calls are traced
abbrev pub active_breakpoints : WriterView → ℕ
active_breakpoints w = (newest_of w).root.bp

-- the index in which the decision on a function is staged
abbrev pub staging_breakpoints : WriterView → ℕ
staging_breakpoints w = (active_breakpoints w + 1) % BREAKPOINT_INDICES

-- the word of an index that says whether calls of a function are traced
abbrev pub decision_place : ℕ → CodeRef → ℕ
decision_place bp at = breakpoint_place bp at.area.block at.function

-- ---- what they say

-- no area is kept in the block
abbrev pub IsUnkept : WriterView → ℕ → Type 0
IsUnkept w block = (k : KeptArea) → Among w.kept k → k.area.block ≢ block

-- no two of these areas have one block
abbrev pub HaveBlocks : List KeptArea → Type 0
HaveBlocks kept = (a b : KeptArea) → Among kept a → Among kept b → a.area.block ≡ b.area.block → a ≡ b

-- the function of this number in this block is not the one that is patched
abbrev pub IsOther : Option CodeRef → ℕ → ℕ → Type 0
IsOther None block function = Unit {0}
IsOther (Some at) block function = block ≡ at.area.block → function ≢ at.function

-- the indices as their writer keeps them, who patches this function or none
pub record AreIndices (patched : Option CodeRef) (w : WriterView) : Type 0 where
  -- the writer knows all words
  pub all : length w.words ≡ TABLE_WORDS
  -- areas do not stand in the blocks of indices, each has a block of its own, and current and old instances stand in those for instances
  pub areas : (k : KeptArea) → Among w.kept k → FitsBlock k
  pub alone : HaveBlocks w.kept
  pub placed : InstancesPlaced (newest_of w)
  -- the active index is one of the two, and says of each function of the newest generation whether it is traced
  pub fits : active_breakpoints w < BREAKPOINT_INDICES
  pub stands : BreakpointsStand (word_at w.words) (newest_of w)
  -- an entry word is 0 only where the newest generation does not trace the function
  pub entries : (k : KeptArea) → Among w.kept k → EntriesStand (word_at w.words) k (newest_of w)
  -- both indices say the same of each other function
  pub agree : (block function : ℕ) → IsForInstances block → function < FUNCTIONS → IsOther patched block function → word_at w.words (breakpoint_place (staging_breakpoints w) block function) ≡ word_at w.words (breakpoint_place (active_breakpoints w) block function)
  -- a block in which no area is kept has no decisions
  pub clear : (bp block function : ℕ) → bp < BREAKPOINT_INDICES → IsForInstances block → function < FUNCTIONS → IsUnkept w block → word_at w.words (breakpoint_place bp block function) ≡ 0

-- no generation that may be read is traced by the staging index
abbrev pub IsStagingUnread : WriterView → Type 0
IsStagingUnread w = EachMayBeRead w (λ g p. p.root.bp ≢ staging_breakpoints w)

-- the indices are at rest: they agree, and no thread reads the one in which the next decision is staged
pub record BreakpointsRest (w : WriterView) : Type 0 where
  pub indices : AreIndices None w
  pub unread : IsStagingUnread w
