-- Where a change leaves what calls reach, the active code index leads to the exports of the next generation too.
use Rattle.std.proofs.Common.{◌≡◌, ℕ, List, Option, Some, None, refl, sym, ap, ◌∙◌}
use Rattle.std.specs.Prelude.{slice_get}
use Rattle.std.specs.Option.{option_and_then, option_map}
use Rattle.std.proofs.lemmas.Option.{slice_get-map}
use Rattle.term_core.specs.declared.area.AreaRef.{AreaRef}
use Rattle.term_core.specs.declared.atom.Mfa.{Mfa}
use Rattle.term_core.specs.declared.generation.Generation.{Generation}
use Rattle.area_core.specs.declared.table.Published.{Published}
use Rattle.area_core.specs.Blocks.{Among}
use Rattle.shared_words.specs.declared.view.WriterView.{WriterView}
use Rattle.progress_words.specs.Roots.{newest_of}
use Rattle.server_core.specs.Generations.{function_ref, generation_of}
use Rattle.server_core.specs.ServerState.{ServerState, dispatch_of}
use Rattle.change_laws.specs.Uses.{IsUsed}
use Rattle.code_index.specs.declared.index.Staging.TheVariants as indices
use Rattle.code_index.specs.Exports.{KeepsExport, LeadTo}
use Rattle.code_index.specs.Laws as index_laws
use Rattle.code_index.specs.Staging.{active_index}
use Rattle.staging.specs.Standing.{IsShownBy}
use Rattle.staging.proofs.Mixed.{reached_in_state}
use Rattle.staging.proofs.StagedNames.{newest_exports, reached_used}

-- what a generation of a state has for a number is what calls reach in another state that leaves them
module _ (names : List Mfa) (s after : ServerState) (p : Published) (state : p.state ≡ generation_of names after) (calls : (to : Mfa) → dispatch_of after to ≡ dispatch_of s to) where
  entry_at : (o : Option Mfa) → option_and_then (λ e. e) (option_map (reached_in_state after) o) ≡ option_and_then (λ e. e) (option_map (reached_in_state s) o)
  entry_at None = refl
  entry_at (Some to) = ap (option_map function_ref) (calls to)

  pub exported : (k : ℕ) → option_and_then (λ e. e) (slice_get p.state.exports k) ≡ option_and_then (λ e. e) (option_map (reached_in_state s) (slice_get names k))
  exported k = ap (λ (g : Generation). option_and_then (λ e. e) (slice_get g.exports k)) state ∙ ap (option_and_then (λ e. e)) (slice_get-map (reached_in_state after) names k) ∙ entry_at (slice_get names k)

module _ (names : List Mfa) (s after : ServerState) (w : WriterView) (p : Published) (shown : IsShownBy names s (newest_of w)) (state : p.state ≡ generation_of names after) (calls : (to : Mfa) → dispatch_of after to ≡ dispatch_of s to)
    (listed : (a : AreaRef) → Among (newest_of w).areas a → IsUsed s a.serial → Among p.areas a) where
  exports_kept : (k : ℕ) → KeepsExport (newest_of w) p k
  exports_kept k = record {
    same = exported names s after p state calls k ∙ sym (newest_exports names s (newest_of w) shown k);
    placed = λ to a is among same. listed a among (reached_used names s k to a.serial (sym (exported names s after p state calls k) ∙ is) same);
  }

  pub leads : index_laws.KeptByExports → LeadTo w.words (active_index w) (newest_of w) → LeadTo w.words (active_index w) p
  leads alike active = alike (indices.Staged (active_index w)) w (newest_of w) p exports_kept active
