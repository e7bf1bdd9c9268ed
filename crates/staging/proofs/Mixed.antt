-- What names reach while exports are staged: the first of them as the change leaves them, the others as they were.
use Rattle.std.proofs.Common.{◌≡◌, ℕ, zero, suc, ◌+◌, ◌<◌, ◌≤◌, inl, inr, List, [], ◌∷◌, Option, Some, None, refl, sym, ap, subst, ◌∙◌, arith}
use Rattle.std.specs.Prelude.{slice_get}
use Rattle.std.specs.Option.{option_and_then, option_map}
use Rattle.std.proofs.lemmas.Bool.{cases_eq, cases_lt}
use Rattle.std.proofs.lemmas.Option.{slice_get-map}
use Rattle.term_core.specs.declared.area.AreaRef.{AreaRef}
use Rattle.term_core.specs.declared.area.CodeRef.{CodeRef}
use Rattle.term_core.specs.declared.atom.Mfa.{Mfa}
use Rattle.term_core.specs.declared.generation.FunctionRef.{FunctionRef}
use Rattle.area_core.specs.declared.table.Published.{Published}
use Rattle.area_core.specs.Blocks.{Among}
use Rattle.area_core.specs.Generations.{is_code_word}
use Rattle.area_core.specs.Map.{block_place, word_at}
use Rattle.shared_words.specs.declared.view.WriterView.{WriterView}
use Rattle.server_core.specs.Generations.{function_ref, generation_of}
use Rattle.server_core.specs.ServerState.{ServerState, dispatch_of}
use Rattle.code_index.specs.declared.index.Staging.{Staging}
use Rattle.code_index.specs.declared.index.Staging.TheVariants.{Nothing, Staged, Committing}
use Rattle.code_index.specs.Exports.{ExportsWith, KeepsExport, LeadTo, export_at, function_ref_of}
use Rattle.code_index.specs.Staging.{Stages}

-- what a call of the name reaches in a state, in plain numbers
abbrev pub reached_in_state : ServerState → Mfa → Option FunctionRef
reached_in_state s to = option_map function_ref (dispatch_of s to)

-- ---- two lists in one

abbrev pub mixed_exports : (Mfa → Option FunctionRef) → (Mfa → Option FunctionRef) → ℕ → List Mfa → List (Option FunctionRef)
mixed_exports f g n [] = []
mixed_exports f g zero (to ∷ names) = g to ∷ mixed_exports f g zero names
mixed_exports f g (suc n) (to ∷ names) = f to ∷ mixed_exports f g n names

mixed_before : (f g : Mfa → Option FunctionRef) (n : ℕ) (names : List Mfa) (k : ℕ) → k < n → slice_get (mixed_exports f g n names) k ≡ option_map f (slice_get names k)
mixed_before f g n [] k low = refl
mixed_before f g zero (to ∷ names) k low = absurd (omega (arith))
mixed_before f g (suc n) (to ∷ names) zero low = refl
mixed_before f g (suc n) (to ∷ names) (suc k) low = mixed_before f g n names k (omega (arith))

mixed_behind : (f g : Mfa → Option FunctionRef) (n : ℕ) (names : List Mfa) (k : ℕ) → n ≤ k → slice_get (mixed_exports f g n names) k ≡ option_map g (slice_get names k)
mixed_behind f g n [] k high = refl
mixed_behind f g zero (to ∷ names) zero high = refl
mixed_behind f g zero (to ∷ names) (suc k) high = mixed_behind f g zero names k (omega (arith))
mixed_behind f g (suc n) (to ∷ names) zero high = absurd (omega (arith))
mixed_behind f g (suc n) (to ∷ names) (suc k) high = mixed_behind f g n names k (omega (arith))

-- ---- the generation between

module _ (names : List Mfa) (s after : ServerState) where
  abbrev pub between : ℕ → Published → Published
  between n p = record p { state = record p.state { exports = mixed_exports (reached_in_state after) (reached_in_state s) n names } }

  abbrev entry_of : Option (Option FunctionRef) → Option FunctionRef
  entry_of o = option_and_then (λ e. e) o

  export_before : (n : ℕ) (p : Published) (k : ℕ) → k < n → export_at (between n p) k ≡ entry_of (option_map (reached_in_state after) (slice_get names k))
  export_before n p k low = ap entry_of (mixed_before (reached_in_state after) (reached_in_state s) n names k low)

  export_behind : (n : ℕ) (p : Published) (k : ℕ) → n ≤ k → export_at (between n p) k ≡ entry_of (option_map (reached_in_state s) (slice_get names k))
  export_behind n p k high = ap entry_of (mixed_behind (reached_in_state after) (reached_in_state s) n names k high)

  -- each name but the next one is led to what it was
  pub others_kept : (n : ℕ) (p : Published) (k : ℕ) → (k ≡ n → ⊥) → KeepsExport (between n p) (between (n + 1) p) k
  others_kept n p k other = record {
    same =
        elim (cases_lt k n) as (λ _. export_at (between (n + 1) p) k ≡ export_at (between n p) k) [
          | inl low ↦ export_before (n + 1) p k (omega (arith, low)) ∙ sym (export_before n p k low)
          | inr high ↦ export_behind (n + 1) p k (omega (arith, high, other)) ∙ sym (export_behind n p k high)
        ];
    placed = λ to a is among same. among;
  }

  -- the next one too, where the change is not about it
  pub all_kept : (n : ℕ) (p : Published) → ((to : Mfa) → slice_get names n ≡ Some to → dispatch_of after to ≡ dispatch_of s to) → (k : ℕ) → KeepsExport (between n p) (between (n + 1) p) k
  all_kept n p alike k =
      elim (cases_eq k n) as (λ _. KeepsExport (between n p) (between (n + 1) p) k) [
        | inl here ↦ subst (KeepsExport (between n p) (between (n + 1) p)) (sym here) (record {
          same = export_before (n + 1) p n (omega arith) ∙ same_entry (slice_get names n) refl ∙ sym (export_behind n p n (omega arith));
          placed = λ to a is among same. among;
        })
        | inr other ↦ others_kept n p k other
      ]
    where
      same_entry : (o : Option Mfa) → slice_get names n ≡ o → entry_of (option_map (reached_in_state after) o) ≡ entry_of (option_map (reached_in_state s) o)
      same_entry None is = refl
      same_entry (Some to) is = ap (option_map function_ref) (alike to is)

  -- else it is led to what it reaches then
  pub next_changed : (n : ℕ) (p : Published) (to : Mfa) (r : Option CodeRef) → slice_get names n ≡ Some to → reached_in_state after to ≡ option_map function_ref_of r → ((at : CodeRef) → r ≡ Some at → Among p.areas at.area) → ExportsWith n r (between n p) (between (n + 1) p)
  next_changed n p to r is reaches placed = record {
    here = export_before (n + 1) p n (omega arith) ∙ ap (λ (o : Option Mfa). entry_of (option_map (reached_in_state after) o)) is ∙ reaches;
    placed = placed;
    others = λ other differs. others_kept n p other differs;
  }

  -- ---- from the newest generation to the next one

  -- no name is changed yet
  pub none_changed : (newest p : Published) → ((k : ℕ) → export_at newest k ≡ entry_of (option_map (reached_in_state s) (slice_get names k))) → ((k : ℕ) (to : FunctionRef) (a : AreaRef) → export_at newest k ≡ Some to → Among newest.areas a → a.serial ≡ to.serial → Among p.areas a) → (k : ℕ) → KeepsExport newest (between zero p) k
  none_changed newest p shows placed k = record {
    same = export_behind zero p k (omega arith) ∙ sym (shows k);
    placed = λ to a is among same. placed k to a (shows k ∙ sym (export_behind zero p k (omega arith)) ∙ is) among same;
  }

  leads_whole : (words : List ℕ) (block : ℕ) (p : Published) → p.state ≡ generation_of names after → LeadTo words block (between 1024 p) → LeadTo words block p
  leads_whole words block p is leads entry few =
      ap (λ o. is_code_word p o (word_at words (block_place block entry)))
      (ap (λ g. slice_get g.exports entry) is ∙ slice_get-map (reached_in_state after) names entry ∙ sym (mixed_before (reached_in_state after) (reached_in_state s) 1024 names entry few))
      ∙ leads entry few

  -- all names of an index are
  pub all_changed : (x : Staging) (w : WriterView) (p : Published) → p.state ≡ generation_of names after → Stages x (between 1024 p) w → Stages x p w
  all_changed Nothing w p is staged = staged
  all_changed (Staged block) w p is staged = leads_whole w.words block p is staged
  all_changed (Committing block need) w p is staged = leads_whole w.words block p is staged
