-- A store of an entry word keeps the block invariant.
use Rattle.std.proofs.Common.{◌≡◌, ℕ, ◌+◌, ◌<◌, ◌≤◌, Bool, true, false, List, inl, inr, sym, ap, ◌∙◌, subst, arith}
use Rattle.std.specs.Prelude.{◌==◌, slice_get, IsTrue}
use Rattle.std.specs.List.{list_any}
use Rattle.std.proofs.lemmas.Bool.{and_parts, eqb-true, cases_eq, true≢false}
use Rattle.prgr_core.proofs.Parts.{some_same}
use Rattle.term_core.specs.declared.area.CodeRef.{CodeRef}
use Rattle.area_core.specs.declared.map.TheConstants.{BIG_BLOCKS, AREAS_START, BREAKPOINTS_START, TERMS_START}
use Rattle.area_core.specs.declared.map.WordKind.TheVariants.{InBlock}
use Rattle.area_core.specs.declared.table.KeptArea.{KeptArea}
use Rattle.area_core.specs.declared.table.Table.{Table}
use Rattle.area_core.specs.Map.{kind_at, block_place, breakpoint_at, image_entry_at}
use Rattle.area_core.specs.Generations.{is_traced_function, has_function, is_entry_word}
use Rattle.area_core.specs.Blocks.{Among, KeptApart}
use Rattle.area_core.specs.Readers.{readable_generations}
use Rattle.area_core.specs.Stores.{with_word, is_function_of, entry_word, may_be_entry, may_store_entry}
use Rattle.area_core.specs.Step.{IsSound}
use Rattle.area_core.proofs.Places.{kind_block}
use Rattle.area_core.proofs.Held.{readable_held}
use Rattle.area_core.proofs.Tests.{passed_by, three_hold}
use Rattle.area_core.proofs.Frames.{function_fits, big_room}
use Rattle.area_core.proofs.BlockStores.{block_word_kept, same_block, entry_is, untraced_after}

-- kept areas in one block are one
pub same_area : (kept : List KeptArea) → KeptApart kept → (a b : KeptArea) → Among kept a → Among kept b → a.area.block ≡ b.area.block → a ≡ b
same_area kept apart a b is_a is_b same =
    elim (cases_eq is_a.0 is_b.0) as (λ _. a ≡ b) [
      | inl one ↦ some_same a b (sym is_a.1 ∙ ap (slice_get kept) one ∙ is_b.1)
      | inr two ↦ absurd ((apart is_a.0 is_b.0 a b two is_a.1 is_b.1).1 same)
    ]

module _ (s : Table) (sound : IsSound s) (at : CodeRef) (on : Bool) (may : IsTrue (may_store_entry s (readable_generations s.progress) at on)) where
  tests : (list_any (is_function_of at) s.kept ≡ true) × (may_be_entry s (readable_generations s.progress) at.area.serial at.function (entry_word on) ≡ true)
  tests = and_parts (list_any (is_function_of at) s.kept) (may_be_entry s (readable_generations s.progress) at.area.serial at.function (entry_word on)) may

  -- the instance that has the function
  instance : (k : KeptArea) × (Among s.kept k) × (k.area.serial ≡ at.area.serial) × (k.area.block ≡ at.area.block) × (has_function k at.function ≡ true)
  instance =
      let found = passed_by (is_function_of at) s.kept tests.0 in
      let parts = three_hold (found.0.area.serial == at.area.serial) (found.0.area.block == at.area.block) (has_function found.0 at.function) found.3 in
      (found.0, (found.1, found.2), eqb-true found.0.area.serial at.area.serial parts.0, eqb-true found.0.area.block at.area.block parts.1, parts.2)

  -- its block is one for instances
  in_areas : (AREAS_START ≤ at.area.block) × (at.area.block < BIG_BLOCKS) × (at.function < 16)
  in_areas =
      let k = instance.0 in
      let fits = sound.blocks.kept_fit k instance.1 in
      let own = function_fits k at.function fits instance.4 in
      (subst (λ n. 9 ≤ n) instance.3 fits.first, subst (λ n. n < 64) instance.3 own.0, own.1)

  stored_kind : kind_at (block_place at.area.block (image_entry_at at.function)) ≡ InBlock at.area.block (image_entry_at at.function)
  stored_kind =
      let big = in_areas.1 in
      let few = in_areas.2 in
      kind_block at.area.block (image_entry_at at.function) (omega (arith, big)) (big_room at.area.block (image_entry_at at.function) big (omega (arith, few)))

  -- the area in this block is the instance
  is_instance_here : (k : KeptArea) → Among s.kept k → (place : ℕ) → InBlock at.area.block (image_entry_at at.function) ≡ InBlock k.area.block place → k ≡ instance.0
  is_instance_here k among place same =
      same_area s.kept sound.blocks.kept_apart k instance.0 among instance.1 (sym (same_block at.area.block (image_entry_at at.function) k.area.block place same).0 ∙ sym instance.3)

  pub entry_stored_sound : IsSound (with_word s (block_place at.area.block (image_entry_at at.function)) (entry_word on))
  entry_stored_sound = block_word_kept s sound (block_place at.area.block (image_entry_at at.function)) (entry_word on) at.area.block (image_entry_at at.function) stored_kind
      (λ g p counts here root entry within same.
      let parts = same_block at.area.block (image_entry_at at.function) p.root.code entry same in
      let code = root.code in
      let high = in_areas.0 in
      absurd (omega (arith, parts.0, code, high)))
      (λ g p counts here root a among is fits function few same.
      let parts = same_block at.area.block (image_entry_at at.function) (BREAKPOINTS_START + p.root.bp) (breakpoint_at a.block function) same in
      let bp = root.bp in
      let high = in_areas.0 in
      absurd (omega (arith, parts.0, bp, high)))
      (λ g p counts here root place within same.
      let parts = same_block at.area.block (image_entry_at at.function) (TERMS_START + p.root.term) place same in
      let term = root.term in
      let high = in_areas.0 in
      absurd (omega (arith, parts.0, term, high)))
      (λ g p counts here k among function has same none.
      let parts = same_block at.area.block (image_entry_at at.function) k.area.block (image_entry_at function) same in
      let one = is_instance_here k among (image_entry_at function) same in
      let serial : at.area.serial ≡ k.area.serial = sym instance.2 ∙ ap (λ (x : KeptArea). x.area.serial) (sym one) in
      let own : at.function ≡ function = omega (arith, parts.1) in
      subst (λ x. is_traced_function p x function ≡ false) serial (subst (λ x. is_traced_function p at.area.serial x ≡ false) own
      (untraced_after s (entry_word on) at.area.serial at.function g p tests.1 none (readable_held s.progress sound.progress g counts) here)))
      (λ k among place old has plain same.
      let parts = same_block at.area.block (image_entry_at at.function) k.area.block place same in
      let one = is_instance_here k among place same in
      absurd (true≢false (sym (entry_is instance.0 at.function instance.4) ∙ ap (λ x. is_entry_word instance.0 x) parts.1 ∙ ap (λ (x : KeptArea). is_entry_word x place) (sym one) ∙ plain)))
