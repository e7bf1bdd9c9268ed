-- Three areas without words: they are taken, published and retired, and released one after another.
use Rattle.std.specs.Prelude.{◌≡◌, ℕ, suc, ◌+◌, ◌<◌, ◌≤◌, false, List, [], ◌∷◌, Some, slice_get}
use Rattle.area_core.specs.declared.map.TheConstants.{PROCESSES, ANCHORS}
use Rattle.area_core.specs.declared.table.Published.{Published}
use Rattle.area_core.specs.Map.{word_at, retire_place, slot_place}
use Rattle.area_core.specs.Step.{empty_generation, opening_published, to_publish}
use Rattle.marks.specs.declared.kept.LookKind.TheVariants.{Both}
use Rattle.marks.specs.Names.{names_in}
use Rattle.shared_words.specs.declared.view.WriterView.{WriterView}
use Rattle.shared_words.specs.Slots.{IsClear}
use Rattle.progress_words.specs.Needs.{HasTaken}
use Rattle.literal_areas.specs.declared.areas.Areas.{Areas}
use Rattle.literal_areas.specs.declared.blocks.BlockUse.TheVariants.{Live, Retired}
use Rattle.literal_areas.specs.Blocks.{use_of}
use Rattle.literal_areas.specs.Owned.{AreOf}
use Rattle.area_tests.specs.Many.{many_serials, many_refs, images, kepts, published_of}
use Rattle.area_tests.specs.Gone.{AreGone}

-- the generation in which all three are current
abbrev pub three_published : Published
three_published = published_of 3 []

-- the generation in which all three are retired
abbrev pub retired_published : Published
retired_published = to_publish 0 0 0 (record empty_generation { retired = many_serials 3; areas = images 3 }) (many_refs 3)

-- the first so many areas are taken, and none is retired
pub record AreTaken (count : ℕ) (s : Areas) : Type 0 where
  pub next : s.next ≡ count + 1
  pub live : (i : ℕ) → i < count → use_of s (9 + i) ≡ Some (Live (suc i))
  pub none : (block serial since : ℕ) → use_of s block ≡ Some (Retired serial since) → ⊥

-- the three are published, and the first so many retired from generation 2 on, which is not published yet
pub record AreRetiring (count : ℕ) (s : Areas) (w : WriterView) : Type 0 where
  pub owned : AreOf s w
  pub retired : (i : ℕ) → i < count → use_of s (9 + i) ≡ Some (Retired (suc i) 2)
  pub live : (i : ℕ) → count ≤ i → i < 3 → use_of s (9 + i) ≡ Some (Live (suc i))
  pub others : (block serial since : ℕ) → use_of s block ≡ Some (Retired serial since) → (i : ℕ) × (i < count) × (serial ≡ suc i)
  pub published : w.published ≡ opening_published ∷ three_published ∷ []
  pub kept : w.kept ≡ kepts 3
  pub told : (i : ℕ) → i < count → word_at w.words (retire_place (9 + i)) ≡ 2
  pub blank : (place : ℕ) → 1121 ≤ place → word_at w.words place ≡ 0

-- a look was clear of each of the first so many areas
pub record AreClear (count : ℕ) (w : WriterView) : Type 0 where
  pub each : (i : ℕ) → i < count → IsClear w Both (suc i)

-- the first so many areas are released after looks that were clear, and the wait for the others is over
pub record AreReleased (count last need : ℕ) (s : Areas) (w : WriterView) : Type 0 where
  pub gone : AreGone count last s w
  pub taken : HasTaken w 2 need
  pub enough : need ≤ w.counter
  pub clear : AreClear count w

-- no anchor of these words names the area
abbrev pub NamesNowhere : List ℕ → ℕ → Type 0
NamesNowhere words serial = (process place word : ℕ) → process < PROCESSES → place < ANCHORS → slice_get words (slot_place process (place + 1)) ≡ Some word → names_in Both word serial ≡ false

-- nor any of the first so many areas
pub record NamesNone (words : List ℕ) (count : ℕ) : Type 0 where
  pub each : (i : ℕ) → i < count → NamesNowhere words (suc i)
