-- What stands in the words behind the slots stands in other words that are the same there.
use Rattle.std.proofs.Common.{◌≡◌, ℕ, ◌+◌, ◌≤◌, sym, subst, ◌∙◌, arith}
use Rattle.std.specs.Prelude.{slice_get, IsTrue}
use Rattle.std.proofs.lemmas.Bool.Decides.{nat_tests}
use Rattle.area_core.specs.declared.map.TheConstants.{RETIRE_START, TERMS_START}
use Rattle.area_core.specs.declared.table.Published.{Published}
use Rattle.area_core.specs.declared.table.KeptArea.{KeptArea}
use Rattle.area_core.specs.Map.{block_place, retire_place, doom_place, image_entry_at, breakpoint_place, term_place}
use Rattle.area_core.specs.Generations.{is_code_word, is_retired_area, is_doomed_area, tells}
use Rattle.area_core.specs.Terms.{TermsStand}
use Rattle.area_core.specs.Blocks.{CodeStands, BreakpointsStand, term_blocks_words, ImageStands, AreaStands}
use Rattle.area_core.proofs.Frames.{terms_same}

-- a word of a block stands behind the slots
block_late : (block at : ℕ) → RETIRE_START ≤ block_place block at
block_late block at = grind (arith, nat_tests)

module _ (word new : ℕ → ℕ) (same : (place : ℕ) → RETIRE_START ≤ place → new place ≡ word place) where
  pub code_mirrored : (p : Published) → CodeStands word p → CodeStands new p
  code_mirrored p stands entry within = subst (λ (x : ℕ). IsTrue (is_code_word p (slice_get p.state.exports entry) x)) (sym (same (block_place p.root.code entry) (block_late p.root.code entry))) (stands entry within)

  pub breakpoints_mirrored : (p : Published) → BreakpointsStand word p → BreakpointsStand new p
  breakpoints_mirrored p stands a among instance function few = same (breakpoint_place p.root.bp a.block function) (block_late _ _) ∙ stands a among instance function few

  pub terms_mirrored : (p : Published) → TermsStand (term_blocks_words word p.root) p → TermsStand (term_blocks_words new p.root) p
  terms_mirrored p stands = terms_same (term_blocks_words word p.root) (term_blocks_words new p.root) p (λ at within. same (term_place p.root.term at) (block_late (TERMS_START + p.root.term) at)) stands

  pub area_mirrored : (k : KeptArea) (g : ℕ) (p : Published) → AreaStands word k g p → AreaStands new k g p
  area_mirrored k g p stands = record {
    entries = λ function has none_stored. stands.entries function has (sym (same (block_place k.area.block (image_entry_at function)) (block_late k.area.block (image_entry_at function))) ∙ none_stored);
    retired = subst (λ (x : ℕ). tells x g ≡ is_retired_area p k.area.serial) (sym (same (retire_place k.area.block) (omega arith))) stands.retired;
    doomed = λ big unretired. subst (λ (x : ℕ). tells x g ≡ is_doomed_area p k.area.serial) (sym (same (doom_place k.area.block) (omega arith))) (stands.doomed big unretired);
  }

  pub image_mirrored : (k : KeptArea) → ImageStands word k → ImageStands new k
  image_mirrored k stands at value here plain = same (block_place k.area.block at) (block_late k.area.block at) ∙ stands at value here plain
