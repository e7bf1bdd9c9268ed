-- What keeps the breakpoint indices those of their writer besides the steps of a patch.
use Rattle.std.specs.Prelude.{◌≡◌, ◌≢◌, ◌⊎◌, ℕ, ◌<◌, ◌≤◌, false, [], ◌∷◌, length, IsTrue}
use Rattle.prgr_core.specs.declared.member.Retirement.{Retirement}
use Rattle.term_core.specs.declared.area.AreaRef.{AreaRef}
use Rattle.area_core.specs.declared.map.TheConstants.{AREAS_START, BREAKPOINT_INDICES, FUNCTIONS, TABLE_WORDS}
use Rattle.area_core.specs.declared.table.KeptArea.{KeptArea}
use Rattle.area_core.specs.declared.table.Published.{Published}
use Rattle.area_core.specs.Blocks.{Among, BreakpointsStand, EntriesStand, FitsBlock, InstancesPlaced, IsForInstances, KeptApart}
use Rattle.area_core.specs.Generations.{has_function, is_instance, is_traced_function}
use Rattle.area_core.specs.Map.{block_place, breakpoint_place, image_entry_at, word_at}
use Rattle.area_core.specs.Roots.{fresh_areas}
use Rattle.area_core.specs.Step.{opening_published}
use Rattle.shared_words.specs.declared.view.WriterView.{WriterView}
use Rattle.shared_words.specs.Publishing.{EachMayBeRead, kept_next, with_next}
use Rattle.progress_words.specs.Roots.{newest_of}
use Rattle.breakpoints.specs.declared.patch.Patch.{Patch}
use Rattle.breakpoints.specs.Indices.{BreakpointsRest, IsUnkept, active_breakpoints}
use Rattle.breakpoints.specs.Patches.{IsPatchOf}

-- ---- steps that leave what is published

-- no current or old instance of the newest generation stands in the block
abbrev pub IsUncalled : WriterView → ℕ → Type 0
IsUncalled w block = (a : AreaRef) → Among (newest_of w).areas a → a.block ≡ block → is_instance (newest_of w) a.serial ≡ false

-- the decisions on a function are as they were, or are gone, with no instance that is called in the block
abbrev pub KeepsDecision : WriterView → WriterView → ℕ → ℕ → Type 0
KeepsDecision old new block function =
    ((bp : ℕ) → bp < BREAKPOINT_INDICES → word_at new.words (breakpoint_place bp block function) ≡ word_at old.words (breakpoint_place bp block function))
    ⊎ (IsUncalled old block × ((bp : ℕ) → bp < BREAKPOINT_INDICES → word_at new.words (breakpoint_place bp block function) ≡ 0))

-- a block in which no area is kept any more has no decisions
abbrev pub HasNoDecisions : WriterView → ℕ → Type 0
HasNoDecisions w block = (bp function : ℕ) → bp < BREAKPOINT_INDICES → function < FUNCTIONS → word_at w.words (breakpoint_place bp block function) ≡ 0

-- the writer has stored other words, decisions on functions that nobody calls are gone, it has loaded the counter, and of the areas that it kept it keeps all but those whose blocks have no decisions
pub record LeavesDecisions (old new : WriterView) : Type 0 where
  pub long : length new.words ≡ length old.words
  pub published : new.published ≡ old.published
  pub decisions : (block function : ℕ) → IsForInstances block → function < FUNCTIONS → KeepsDecision old new block function
  pub entries : (k : KeptArea) (function : ℕ) → Among new.kept k → IsTrue (has_function k function) → word_at new.words (block_place k.area.block (image_entry_at function)) ≡ word_at old.words (block_place k.area.block (image_entry_at function))
  pub kept : (k : KeptArea) → Among new.kept k → Among old.kept k
  pub dropped : (k : KeptArea) → Among old.kept k → Among new.kept k ⊎ ((IsForInstances k.area.block → HasNoDecisions new k.area.block) × (is_instance (newest_of old) k.area.serial ≡ false))
  pub more : (pair : Retirement) → Among old.pairs pair → Among new.pairs pair
  pub rising : old.counter ≤ new.counter

-- the indices are at rest, or a patch at its phase, as before
abbrev pub OthersKeepPatches : Type 0
OthersKeepPatches = (old new : WriterView) → LeavesDecisions old new → (BreakpointsRest old → BreakpointsRest new) × ((x : Patch) → IsPatchOf x old → IsPatchOf x new)

-- ---- a store of the root with the same index

-- the instances of the next generation are traced as in the newest one, or are new and not traced
pub record KeepsTraces (w : WriterView) (p : Published) : Type 0 where
  pub bp : p.root.bp ≡ active_breakpoints w
  pub placed : InstancesPlaced p
  -- an instance that the newest generation has too
  pub instances : (a : AreaRef) → Among p.areas a → IsTrue (is_instance p a.serial) → (Among (newest_of w).areas a × IsTrue (is_instance (newest_of w) a.serial)) ⊎ IsUnkept w a.block
  -- what it traces the newest one traces
  pub fewer : (serial function : ℕ) → IsTrue (is_traced_function p serial function) → IsTrue (is_traced_function (newest_of w) serial function)
  pub same : (serial function : ℕ) → IsTrue (is_instance p serial) → is_traced_function p serial function ≡ is_traced_function (newest_of w) serial function
  -- each area that is kept then has a block of its own with room for it, and the new ones are not traced
  pub fresh : (k : KeptArea) → Among (fresh_areas w.kept p) k → FitsBlock k
  pub apart : KeptApart (kept_next w p)
  pub untraced : (k : KeptArea) (function : ℕ) → Among (fresh_areas w.kept p) k → is_traced_function p k.area.serial function ≡ false
  pub unplaced : (a : AreaRef) (function : ℕ) → IsUnkept w a.block → Among p.areas a → IsTrue (is_instance p a.serial) → is_traced_function p a.serial function ≡ false

-- the words stand for it, and the indices are at rest once it is published
pub record TracesStand (w : WriterView) (p : Published) : Type 0 where
  pub stands : BreakpointsStand (word_at w.words) p
  pub entries : (k : KeptArea) → Among (kept_next w p) k → EntriesStand (word_at w.words) k p
  pub settled : BreakpointsRest (with_next p w)

-- so it is of each such generation that is published while the indices are at rest
abbrev pub RootsKeepBreakpoints : Type 0
RootsKeepBreakpoints = (w : WriterView) (p : Published) → KeepsTraces w p → BreakpointsRest w → TracesStand w p

-- ---- at first

-- the writer has published nothing but the empty generation, keeps no area, and each word is 0
pub record IsUnwritten (w : WriterView) : Type 0 where
  pub all : length w.words ≡ TABLE_WORDS
  pub published : w.published ≡ opening_published ∷ []
  pub kept : w.kept ≡ []
  pub words : (place : ℕ) → word_at w.words place ≡ 0

-- then the indices are at rest
abbrev pub RestAtFirst : Type 0
RestAtFirst = (w : WriterView) → IsUnwritten w → BreakpointsRest w

-- ---- the end of an area

-- no generation that may be read has a current or old instance in the block
abbrev pub IsCalledByNone : WriterView → ℕ → Type 0
IsCalledByNone w block = EachMayBeRead w (λ g p. (a : AreaRef) → Among p.areas a → a.block ≡ block → is_instance p a.serial ≡ false)

-- the areas that are kept stand behind the blocks of indices
abbrev pub AreasAreBehind : WriterView → Type 0
AreasAreBehind w = (k : KeptArea) → Among w.kept k → AREAS_START ≤ k.area.block

-- in one index the decisions on the first so many functions of a block are gone, and no other word was stored
pub record HasClearedFirst (bp block count : ℕ) (old new : WriterView) : Type 0 where
  pub view : new ≡ record old { words = new.words }
  pub long : length new.words ≡ length old.words
  pub cleared : (function : ℕ) → function < count → word_at new.words (breakpoint_place bp block function) ≡ 0
  pub others : (place : ℕ) → ((function : ℕ) → function < count → place ≢ breakpoint_place bp block function) → word_at new.words place ≡ word_at old.words place

-- the decisions on the functions of a block are gone, and no other word was stored
pub record HasCleared (block : ℕ) (old new : WriterView) : Type 0 where
  pub view : new ≡ record old { words = new.words }
  pub long : length new.words ≡ length old.words
  pub cleared : HasNoDecisions new block
  pub others : (place : ℕ) → ((bp function : ℕ) → bp < BREAKPOINT_INDICES → function < FUNCTIONS → place ≢ breakpoint_place bp block function) → word_at new.words place ≡ word_at old.words place

-- that leaves the decisions on functions that are called
abbrev pub ClearedLeaves : Type 0
ClearedLeaves = (block : ℕ) (old new : WriterView) → IsForInstances block → ((k : KeptArea) → Among old.kept k → FitsBlock k) → IsUncalled old block → HasCleared block old new → LeavesDecisions old new
