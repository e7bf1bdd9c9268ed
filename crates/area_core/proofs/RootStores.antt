-- A store of the root keeps a state sound.
use Rattle.std.proofs.Common.{◌≡◌, ℕ, ◌+◌, ◌<◌, Bool, true, false, ◌&&◌, List, [], ◌∷◌, ◌++◌, length-append, Option, Some, None, ◌⊎◌, inl, inr, refl, sym, ap, ◌∙◌, subst, arith}
use Rattle.std.specs.Prelude.{◌==◌, slice_get, IsTrue, if◌then◌else◌}
use Rattle.std.specs.List.{list_any, list_all}
use Rattle.std.proofs.lemmas.Bool.{or_cases, or_left, eqb-true}
use Rattle.std.proofs.lemmas.Option.{slice_get_within}
use Rattle.prgr_core.specs.declared.progress.Progress.{Progress}
use Rattle.prgr_core.specs.declared.event.PrgrEvent.TheVariants as prgr
use Rattle.prgr_core.specs.Step.{IsSound as IsProgressSound}
use Rattle.prgr_core.proofs.Parts.{some_same, slice_get-push_at}
use Rattle.prgr_core.proofs.Sound.{keeps_sound}
use Rattle.term_core.specs.declared.area.AreaRef.{AreaRef}
use Rattle.term_core.specs.declared.generation.Generation.{Generation}
use Rattle.area_core.specs.declared.map.TheConstants.{BIG_WORDS, EXPORT_ENTRIES}
use Rattle.area_core.specs.declared.event.AreaEvent.TheVariants.{StoreRoot}
use Rattle.area_core.specs.declared.table.Published.{Published}
use Rattle.area_core.specs.declared.table.KeptArea.{KeptArea}
use Rattle.area_core.specs.declared.table.Table.{Table}
use Rattle.area_core.specs.Map.{word_at, slot_place}
use Rattle.area_core.specs.Generations.{is_kept_as, serial_in}
use Rattle.area_core.specs.Terms.{TermsStand, terms_stand}
use Rattle.area_core.specs.Blocks.{Among, RootFits, InstancesPlaced, CodeStands, BreakpointsStand, term_blocks_words, UsedAreKept, FitsBlock, ImageStands, AreaStands, EachCounted}
use Rattle.area_core.specs.Readers.{held_generations, holds_of_each}
use Rattle.area_core.specs.Roots.{root_fits, instances_placed, blocks_stand, code_stands, breakpoints_stand, fresh_areas, fits_block, image_stands, area_stands, is_fresh_sound, are_apart, used_are_kept}
use Rattle.area_core.specs.Step.{after, to_publish, may_publish_in, published_in, appended, IsReadable, IsSound, blocks_of}
use Rattle.area_core.proofs.Joined.{any_joined}
use Rattle.area_core.proofs.Held.{readable_held}
use Rattle.area_core.proofs.Tests.{each_passes, generation_passes, three_hold}
use Rattle.area_core.proofs.TermTests.{terms_stand_true}
use Rattle.area_core.proofs.RootTests.{root_says, instances_say, code_says, breakpoints_say, fits_says, image_says, area_says, used_say, in_either, apart_together}

seven_hold : (a b c d e f g : Bool) → (a && b && c && d && e && f && g) ≡ true → (a ≡ true) × (b ≡ true) × (c ≡ true) × (d ≡ true) × (e ≡ true) × (f ≡ true) × (g ≡ true)
seven_hold true true true true true true true is = (refl, refl, refl, refl, refl, refl, refl)
seven_hold a b c d e f g is = absurd (cc)

-- the progress machine once a generation is published
abbrev next_progress : Progress → Progress
next_progress s = record s { generation = s.generation + 1 }

-- an area that is kept was kept, or is fresh
either_kept : (kept fresh : List KeptArea) (k : KeptArea) → Among (kept ++ fresh) k → (Among kept k) ⊎ (Among fresh k)
either_kept kept fresh k among =
    elim (in_either kept fresh among.0 k among.1) as (λ _. (Among kept k) ⊎ (Among fresh k)) [
      | inl was ↦ inl (among.0, was)
      | inr new ↦ inr (new.0, new.2)
    ]

module _ (s : Table) (sound : IsSound s) (p : Published) (fresh : List KeptArea) where
  pub next_sound : IsProgressSound (next_progress s.progress)
  next_sound = keeps_sound s.progress prgr.Publish (next_progress s.progress) sound.progress refl

  -- what holds of the new generation, and of those that are held, holds of each that some thread may read
  each_after : (Holds : ℕ → Published → Type 0) → Holds (s.progress.generation + 1) p → ((g : ℕ) (q : Published) → IsReadable s g → IsTrue (list_any (λ x. x == g) (held_generations s.progress)) → slice_get s.published g ≡ Some q → Holds g q) → EachCounted (blocks_of (published_in s p fresh (next_progress s.progress))) (IsReadable (published_in s p fresh (next_progress s.progress))) Holds
  each_after Holds new old g q counts at =
      elim (slice_get-push_at s.published p g q at) as (λ _. Holds g q) [
        | inl before ↦
            let count = sound.published in
            let within = slice_get_within s.published g q before in
            let below : g < s.progress.generation + 1 = subst (λ (n : ℕ). g < n) count within in
            elim counts as (λ _. Holds g q) [
              | inl newest ↦ absurd (omega (arith, newest, below))
              | inr others ↦ elim (or_cases (s.progress.generation + 1 == g) (list_any (λ x. x == g) (held_generations s.progress)) (readable_held (next_progress s.progress) next_sound g counts)) as (λ _. Holds g q) [
                | inl same ↦ let newest = eqb-true (s.progress.generation + 1) g same in absurd (omega (arith, newest, below))
                | inr among ↦ old g q (inr others) among before
              ]
            ]
        | inr last ↦ subst (λ (n : ℕ). Holds n q) (sym (last.0 ∙ sound.published)) (subst (λ (x : Published). Holds (s.progress.generation + 1) x) (sym last.1) new)
      ]

  -- what is published stands in the words, and its areas are kept
  pub published_sound :
      root_fits p.root ≡ true → instances_placed p ≡ true → blocks_stand s.words p ≡ true → list_all (is_fresh_sound s.words s.published (held_generations s.progress)) fresh ≡ true → are_apart s.kept fresh ≡ true → used_are_kept (s.kept ++ fresh) p ≡ true → list_all (λ (k : KeptArea). area_stands s.words k (s.progress.generation + 1) p) (s.kept ++ fresh) ≡ true
      → IsSound (published_in s p fresh (next_progress s.progress))
  published_sound fits placed stands fresh_stand apart used areas = record {
    progress = next_sound;
    blocks = record {
      roots_fit = each_after (λ (g : ℕ) (q : Published). RootFits q.root) (root_says p.root fits) (λ g q counts among at. sound.blocks.roots_fit g q counts at);
      instances_placed = each_after (λ (g : ℕ) (q : Published). InstancesPlaced q) (instances_say p placed) (λ g q counts among at. sound.blocks.instances_placed g q counts at);
      code_stands = each_after (λ (g : ℕ) (q : Published). CodeStands (word_at s.words) q) (code_says s.words p parts.0) (λ g q counts among at. sound.blocks.code_stands g q counts at);
      breakpoints_stand = each_after (λ (g : ℕ) (q : Published). BreakpointsStand (word_at s.words) q) (breakpoints_say s.words p parts.1) (λ g q counts among at. sound.blocks.breakpoints_stand g q counts at);
      terms_stand = each_after (λ (g : ℕ) (q : Published). TermsStand (term_blocks_words (word_at s.words) q.root) q) (terms_stand_true (term_blocks_words (word_at s.words) p.root) p parts.2) (λ g q counts among at. sound.blocks.terms_stand g q counts at);
      used_kept = each_after (λ (g : ℕ) (q : Published). UsedAreKept (s.kept ++ fresh) q) (used_say (s.kept ++ fresh) p used) (λ g q counts among at serial uses. more (is_kept_as q serial) (sound.blocks.used_kept g q counts at serial uses));
      areas_stand = each_after (λ (g : ℕ) (q : Published). (k : KeptArea) → Among (s.kept ++ fresh) k → AreaStands (word_at s.words) k g q)
          (λ k is. area_says s.words k (s.progress.generation + 1) p (all_fit k is) (each_passes (λ (k : KeptArea). area_stands s.words k (s.progress.generation + 1) p) (s.kept ++ fresh) is.0 k areas is.1))
          (λ g q counts among at k is. old_area g q counts among at k is (either_kept s.kept fresh k is));
      images_stand = λ k is. image k (either_kept s.kept fresh k is);
      kept_fit = all_fit;
      kept_apart = apart_together s.kept fresh sound.blocks.kept_apart apart;
      named_kept = λ process anchor is naming. more (λ (k : KeptArea). k.area.serial == serial_in (word_at s.words (slot_place process anchor))) (sound.blocks.named_kept process anchor is naming);
      anchors_apart = sound.blocks.anchors_apart;
    };
    words = sound.words;
    published = length-append s.published (p ∷ []) ∙ ap (λ (n : ℕ). n + 1) sound.published;
  }
    where
      parts : (code_stands s.words p EXPORT_ENTRIES ≡ true) × (breakpoints_stand s.words p ≡ true) × (terms_stand (term_blocks_words (word_at s.words) p.root) p ≡ true)
      parts = three_hold (code_stands s.words p EXPORT_ENTRIES) (breakpoints_stand s.words p) (terms_stand (term_blocks_words (word_at s.words) p.root) p) stands

      more : (test : KeptArea → Bool) → list_any test s.kept ≡ true → list_any test (s.kept ++ fresh) ≡ true
      more test passes = any_joined test s.kept fresh ∙ or_left (list_any test s.kept) (list_any test fresh) passes

      fresh_says : (k : KeptArea) → Among fresh k → (fits_block k ≡ true) × (image_stands s.words k BIG_WORDS ≡ true) × (holds_of_each s.published (held_generations s.progress) (λ g q. area_stands s.words k g q) ≡ true)
      fresh_says k is = three_hold (fits_block k) (image_stands s.words k BIG_WORDS) (holds_of_each s.published (held_generations s.progress) (λ g q. area_stands s.words k g q)) (each_passes (is_fresh_sound s.words s.published (held_generations s.progress)) fresh is.0 k fresh_stand is.1)

      fit : (k : KeptArea) → (Among s.kept k) ⊎ (Among fresh k) → FitsBlock k
      fit k (inl was) = sound.blocks.kept_fit k was
      fit k (inr new) = fits_says k (fresh_says k new).0

      all_fit : (k : KeptArea) → Among (s.kept ++ fresh) k → FitsBlock k
      all_fit k is = fit k (either_kept s.kept fresh k is)

      image : (k : KeptArea) → (Among s.kept k) ⊎ (Among fresh k) → ImageStands (word_at s.words) k
      image k (inl was) = sound.blocks.images_stand k was
      image k (inr new) = image_says s.words k (fits_says k (fresh_says k new).0) (fresh_says k new).1

      old_area : (g : ℕ) (q : Published) → IsReadable s g → IsTrue (list_any (λ x. x == g) (held_generations s.progress)) → slice_get s.published g ≡ Some q → (k : KeptArea) → Among (s.kept ++ fresh) k → (Among s.kept k) ⊎ (Among fresh k) → AreaStands (word_at s.words) k g q
      old_area g q counts among at k is (inl was) = sound.blocks.areas_stand g q counts at k was
      old_area g q counts among at k is (inr new) = area_says s.words k g q (fits_says k (fresh_says k new).0) (generation_passes s.published (held_generations s.progress) (λ g q. area_stands s.words k g q) g q (fresh_says k new).2 among at)

chosen : (b : Bool) (o : Option Table) (t : Table) → (if b then o else None) ≡ Some t → (b ≡ true) × (o ≡ Some t)
chosen true o t e = (refl, e)
chosen false o t e = absurd (cc)

-- a store of the root
pub root_store_keeps : (s t : Table) (code bp term : ℕ) (next : Generation) (areas : List AreaRef) → IsSound s → after s (StoreRoot code bp term next areas) ≡ Some t → IsSound t
root_store_keeps s t code bp term next areas sound e =
    let made = chosen (may_publish_in s (to_publish code bp term next areas)) (appended s (to_publish code bp term next areas) (fresh_areas s.kept (to_publish code bp term next areas))) t e in
    let seven = seven_hold (root_fits (to_publish code bp term next areas).root) (instances_placed (to_publish code bp term next areas)) (blocks_stand s.words (to_publish code bp term next areas)) (list_all (is_fresh_sound s.words s.published (held_generations s.progress)) (fresh_areas s.kept (to_publish code bp term next areas))) (are_apart s.kept (fresh_areas s.kept (to_publish code bp term next areas))) (used_are_kept (s.kept ++ fresh_areas s.kept (to_publish code bp term next areas)) (to_publish code bp term next areas)) (list_all (λ (k : KeptArea). area_stands s.words k (s.progress.generation + 1) (to_publish code bp term next areas)) (s.kept ++ fresh_areas s.kept (to_publish code bp term next areas))) made.0 in
    subst IsSound (some_same (published_in s (to_publish code bp term next areas) (fresh_areas s.kept (to_publish code bp term next areas)) (next_progress s.progress)) t made.1)
    (published_sound s sound (to_publish code bp term next areas) (fresh_areas s.kept (to_publish code bp term next areas)) seven.0 seven.1 seven.2 seven.3 seven.4 seven.5 seven.6)
