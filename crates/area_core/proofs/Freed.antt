-- Once the counter has reached what a generation needs, words and areas of earlier generations alone are free.
use Rattle.std.proofs.Common.{◌≡◌, ◌≢◌, ℕ, ◌/◌, ◌%◌, ◌+◌, ◌≤◌, true, false, not, Some, sym, ap, ◌∙◌, subst, arith}
use Rattle.std.specs.Prelude.{slice_get, IsTrue}
use Rattle.std.proofs.lemmas.Bool.{and_from, not_from_false, cond-true, true≢false}
use Rattle.prgr_core.specs.Machine.{machine_of}
use Rattle.prgr_core.proofs.GraceHolds.{grace_holds}
use Rattle.area_core.specs.declared.map.WordKind.TheVariants.{InBlock}
use Rattle.area_core.specs.declared.readers.Slots.TheVariants.{All}
use Rattle.area_core.specs.declared.event.AreaEvent.TheVariants.{StoreWord}
use Rattle.area_core.specs.declared.table.Published.{Published}
use Rattle.area_core.specs.declared.table.KeptArea.{KeptArea}
use Rattle.area_core.specs.declared.table.Table.{Table}
use Rattle.area_core.specs.Map.{retire_place, kind_at}
use Rattle.area_core.specs.Generations.{is_used, is_retired_area, tells, are_alike}
use Rattle.area_core.specs.Blocks.{Among}
use Rattle.area_core.specs.Readers.{readable_generations, reads_in_block, is_read, is_named_area, all_anchors, holds_of_each}
use Rattle.area_core.specs.Stores.{with_word, holds_in_block, may_be_in_image, may_store_in_block, is_retired_in, is_released_by, may_release, may_be_retire}
use Rattle.area_core.specs.Step.{after, word_stored, IsReadable, IsSound}
use Rattle.area_core.specs.Enabled.{with_retire}
use Rattle.area_core.specs.Grace.{IsReached, IsUnnamed}
use Rattle.area_core.proofs.Places.{kind_retire}
use Rattle.area_core.proofs.Held.{held_readable}
use Rattle.area_core.proofs.FromFacts.{never, is_enabled, each_in_block, each_generation, named_by}
use Rattle.area_core.proofs.EntryStores.{same_area}
use Rattle.area_core.proofs.EnabledWords.{unread_false}

module _ (s : Table) (n : ℕ) (sound : IsSound s) (reached : IsReached s n) where
  -- no thread may read an earlier generation
  pub later : (g : ℕ) → IsReadable s g → n ≤ g
  later g may = grace_holds (machine_of s.progress) sound.progress.invariant n reached.0 reached.1 reached.2 g may

  -- a word that no generation from n on reads, in a block without a kept area
  pub word_freed : (word value block at : ℕ) → kind_at word ≡ InBlock block at → ((g : ℕ) (p : Published) → n ≤ g → slice_get s.published g ≡ Some p → reads_in_block p block at ≡ false) → ((k : KeptArea) → Among s.kept k → k.area.block ≢ block) → after s (StoreWord word value) ≡ Some (with_word s word value)
  word_freed word value block at is unread empty =
      ap (word_stored s word value) is
      ∙ is_enabled (may_store_in_block s (readable_generations s.progress) block at value) (with_word s word value)
      (and_from (not (is_read s (readable_generations s.progress) (InBlock block at))) (holds_in_block s.kept block (may_be_in_image s (readable_generations s.progress) at value))
      (not_from_false (is_read s (readable_generations s.progress) (InBlock block at)) (unread_false s sound block at (record {
        under = λ g p counts here. unread g p (later g counts) here;
        unnamed = λ k process anchor among same is. absurd (empty k among same);
      })))
      (each_in_block s.kept block (may_be_in_image s (readable_generations s.progress) at value) (λ k among same. absurd (empty k among same))))

  -- an area that the newest generation has retired, and none from n on uses
  module _ (k : KeptArea) (among : Among s.kept k) (retired : IsTrue (is_retired_in (slice_get s.published s.progress.generation) k.area.serial)) (unused : (g : ℕ) (p : Published) → n ≤ g → slice_get s.published g ≡ Some p → is_used p k.area.serial ≡ false) (unnamed : IsUnnamed s k.area.serial) where
    none_names : is_named_area All s.words k.area.serial ≡ false
    none_names = never (is_named_area All s.words k.area.serial) (λ named.
        let found = named_by All s.words k.area.serial all_anchors named in
        let below = found.1 in
        true≢false (sym found.2 ∙ unnamed (found.0 / 16) (found.0 % 16 + 1) (record { slot = omega (arith, below); first = omega (arith); last = omega (arith) })))

    may : may_release s (readable_generations s.progress) k ≡ true
    may =
        and_from (not (is_named_area All s.words k.area.serial)) (holds_of_each s.published (readable_generations s.progress) (λ g p. not (is_used p k.area.serial)))
        (not_from_false (is_named_area All s.words k.area.serial) none_names)
        (each_generation s.published (readable_generations s.progress) (λ g p. not (is_used p k.area.serial)) (λ g p readable published.
        not_from_false (is_used p k.area.serial) (unused g p (later g (held_readable s.progress sound.progress g readable)) published)))

    goes : may_be_retire s (readable_generations s.progress) 0 k ≡ true
    goes = cond-true (is_released_by s 0 k) (may_release s (readable_generations s.progress) k) (holds_of_each s.published (readable_generations s.progress) (λ g p. are_alike (tells 0 g) (is_retired_area p k.area.serial))) retired ∙ may

    pub area_freed : after s (StoreWord (retire_place k.area.block) 0) ≡ Some (with_retire s (retire_place k.area.block) k.area.block 0)
    area_freed =
        ap (word_stored s (retire_place k.area.block) 0) (kind_retire k.area.block (sound.blocks.kept_fit k among).last)
        ∙ is_enabled (holds_in_block s.kept k.area.block (may_be_retire s (readable_generations s.progress) 0)) (with_retire s (retire_place k.area.block) k.area.block 0)
        (each_in_block s.kept k.area.block (may_be_retire s (readable_generations s.progress) 0) (λ other is same. subst (λ (x : KeptArea). may_be_retire s (readable_generations s.progress) 0 x ≡ true) (sym (same_area s.kept sound.blocks.kept_apart other k is among same)) goes))
