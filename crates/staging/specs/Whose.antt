-- The tables by which the one writer of the shared words changes them, and whose they are.
-- Source: this project's own.
use Rattle.std.specs.Prelude.{◌≡◌, ℕ, ◌≤◌, length, Option, Some, None}
use Rattle.atomic_table.specs.Seated.{TableId}
use Rattle.prgr_core.specs.declared.member.Retirement.{Retirement}
use Rattle.area_core.specs.Map.{word_at}
use Rattle.area_core.specs.Blocks.{Among}
use Rattle.shared_words.specs.declared.opening.Opening.{Opening}
use Rattle.shared_words.specs.declared.view.WriterView.{WriterView}
use Rattle.progress_words.specs.Tokens.{IsWriterOf, written_by}
use Rattle.breakpoints.specs.declared.patch.Patch.{Patch}
use Rattle.breakpoints.specs.Indices.{BreakpointsRest}
use Rattle.breakpoints.specs.Patches.{IsPatchOf}
use Rattle.code_index.specs.Laws.{IsElsewhere}
use Rattle.code_index.specs.Staging.{IsIndexOf}
use Rattle.term_table.specs.Tables.{IsTableOf}
use Rattle.literal_areas.specs.Owned.{AreOf}
use Rattle.staging.specs.declared.tables.Tables.{Tables}

-- a breakpoint is switched, and so far, or none is: then the breakpoint indices are at rest
abbrev pub PatchStands : Option Patch → WriterView → Type 0
PatchStands None w = BreakpointsRest w
PatchStands (Some patch) w = IsPatchOf patch w

-- they are those of the writer of this table of words
pub record AreTablesOf (table : TableId) (opening : Opening) (t : Tables) : Type 0 where
  pub token : IsWriterOf table opening t.writer
  pub index : IsIndexOf t.index (written_by t.writer)
  pub terms : IsTableOf t.terms (written_by t.writer)
  pub pools : AreOf t.pools (written_by t.writer)
  pub patch : PatchStands t.patch (written_by t.writer)

-- the names, and what is staged, are as before
pub record KeepsStaged (old new : Tables) : Type 0 where
  pub exports : new.exports ≡ old.exports
  pub index : new.index ≡ old.index
  pub terms : new.terms ≡ old.terms
  pub patch : new.patch ≡ old.patch

-- words of code indices alone were stored
pub record StoresExports (old new : WriterView) : Type 0 where
  pub others : (place : ℕ) → IsElsewhere place → word_at new.words place ≡ word_at old.words place
  pub same : new ≡ record old { words = new.words }

-- each value that the writer took to wait for stays known
abbrev pub KeepsWaits : WriterView → WriterView → Type 0
KeepsWaits old new = (pair : Retirement) → Among old.pairs pair → Among new.pairs pair

-- the writer keeps its notes, what it has looked at in slots, and what it waits for, with each load of the counter
pub record KeepsKnown (old new : WriterView) : Type 0 where
  pub notes : new.notes ≡ old.notes
  pub looks : new.looks ≡ old.looks
  pub waits : KeepsWaits old new
  pub longer : length old.pairs ≤ length new.pairs
