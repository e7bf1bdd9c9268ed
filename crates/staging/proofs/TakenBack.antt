-- A patch that has published nothing is taken back: the words stand for the state, with nothing under way.
use Rattle.std.proofs.Common.{◌≡◌, ◌<◌, List, Option, Some, None, sym, ap, subst, ◌∙◌}
use Rattle.prgr_core.proofs.Parts.{some_same}
use Rattle.atomic_table.specs.Seated.{TableId}
use Rattle.term_core.specs.declared.atom.Mfa.{Mfa}
use Rattle.area_core.specs.Blocks.{IsForInstances}
use Rattle.shared_words.specs.declared.opening.Opening.{Opening}
use Rattle.shared_words.specs.declared.view.WriterView.{WriterView}
use Rattle.progress_words.specs.Tokens.{IsWriterOf, written_by}
use Rattle.server_core.specs.declared.change.Change.{Change}
use Rattle.server_core.specs.ServerState.{ServerState}
use Rattle.breakpoints.specs.declared.patch.Patch.{Patch}
use Rattle.breakpoints.specs.Indices.{BreakpointsRest}
use Rattle.breakpoints.specs.Patches.{HasPatched, IsPatchOf, IsUnpublished}
use Rattle.code_index.specs.Laws as index_laws
use Rattle.code_index.specs.Staging.{IsIndexOf}
use Rattle.literal_areas.specs.declared.areas.Areas.{Areas}
use Rattle.term_table.specs.Laws as table_laws
use Rattle.staging.specs.declared.tables.Tables.{Tables}
use Rattle.staging.specs.Stages.{AreAtRest, IsPatched}
use Rattle.staging.specs.Standing.{StandFor}
use Rattle.staging.specs.Whose.{AreTablesOf, PatchStands}
use Rattle.staging.proofs.Patched.{rests}
use Rattle.staging.proofs.PatchStores.{AreIdle}
use Rattle.staging.proofs.PatchPhases.{HasStepped, phase_for, stepped, tables_idle, unpublished_unfinished}

pub at_patch : (table : TableId) (opening : Opening) (t : Tables) → AreTablesOf table opening t → (z : Patch) → t.patch ≡ Some z → IsPatchOf z (written_by t.writer)
at_patch table opening t own z is = subst (λ (o : Option Patch). PatchStands o (written_by t.writer)) is own.patch

pub is_before : (names : List Mfa) (s : ServerState) (change : Change) (t : Tables) → IsPatched names s change t → (z : Patch) → t.patch ≡ Some z → IsUnpublished z.phase
is_before names s change t had z is = subst (λ (x : Patch). IsUnpublished x.phase) (some_same had.patch z (sym had.is ∙ is)) had.before

module _ (names : List Mfa) (s : ServerState) (change : Change) (table : TableId) (opening : Opening) (t new : Tables) (own : AreTablesOf table opening t) (had : IsPatched names s change t) (z : Patch) (is : t.patch ≡ Some z) (by_index : index_laws.KeptByWrites) (by_terms : table_laws.KeptByWrites)
    (index : new.index ≡ t.index) (terms : new.terms ≡ t.terms) (pools : new.pools ≡ t.pools) (patch : new.patch ≡ None) where
  abbrev w : WriterView
  w = written_by t.writer

  for : IsForInstances z.at.area.block × (z.at.function < 16)
  for = phase_for z.at z.on z.phase w (unpublished_unfinished z.phase (is_before names s change t had z is)) (at_patch table opening t own z is)

  idle : AreIdle t.terms t.pools w
  idle = record { index = subst (λ i. IsIndexOf i w) had.index own.index; terms = own.terms; unstaged = had.terms; pools = own.pools }

  step : HasPatched z.at w (written_by new.writer) → HasStepped names s t (written_by new.writer)
  step patched = stepped names s t z.at (written_by new.writer) by_index by_terms for.0 for.1 idle had.stands patched

  pub back_tables : IsWriterOf table opening new.writer → HasPatched z.at w (written_by new.writer) → BreakpointsRest (written_by new.writer) → AreTablesOf table opening new
  back_tables token patched rest = tables_idle table opening t new had.index index terms pools token (step patched).idle (rests new.patch (written_by new.writer) patch rest)

  pub back_at_rest : HasPatched z.at w (written_by new.writer) → AreAtRest names s new
  back_at_rest patched = record {
    stands = subst (λ (x : Areas). StandFor names s x (written_by new.writer)) (sym pools) (step patched).stands;
    staged = record { index = index ∙ had.index; terms = ap (λ x. x.staged) terms ∙ had.terms; patch = patch };
  }
