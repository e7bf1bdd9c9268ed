-- A word of a block that some seat may load is none that the writer may store.
use Rattle.std.proofs.Common.{◌≡◌, ℕ, zero, suc, inl, inr, List, refl, sym, ap, subst, ◌∙◌}
use mathlib.Core.Option.{some, some-injective}
use lib.ListN.{get_elem?}
use Rattle.std.specs.Prelude.{Some, None, Option, slice_get, IsTrue}
use Rattle.std.specs.Option.{option_and_then}
use Rattle.std.proofs.lemmas.Bool.{eqb-true, true≢false}
use Rattle.atomic_table.specs.Table.{State}
use Rattle.term_core.specs.declared.area.AreaRef.{AreaRef}
use Rattle.area_core.specs.declared.map.WordKind.{WordKind}
use Rattle.area_core.specs.declared.map.WordKind.TheVariants.{InBlock}
use Rattle.area_core.specs.declared.event.SeatName.{SeatName}
use Rattle.area_core.specs.declared.event.SeatName.TheVariants as names
use Rattle.area_core.specs.declared.table.Published.{Published}
use Rattle.area_core.specs.Map.{kind_at}
use Rattle.area_core.specs.Readers.{held_by, held_by_member, held_by_watcher, is_read_under}
use Rattle.area_core.proofs.Held.{held_readable}
use Rattle.area_core.proofs.UnreadStores.{seat_held}
use Rattle.shared_words.specs.declared.opening.Opening.{Opening}
use Rattle.shared_words.specs.declared.view.MemberView.{MemberView}
use Rattle.shared_words.specs.declared.view.WatcherView.{WatcherView}
use Rattle.shared_words.specs.declared.view.View.{View}
use Rattle.shared_words.specs.declared.view.View.TheVariants.{Writer, Member, Watcher, Note, Spent}
use Rattle.shared_words.specs.Views.{newest_number}
use Rattle.shared_words.specs.Shown.{progress_of}
use Rattle.shared_words.specs.Rule.{RunningRule}
use Rattle.shared_words.specs.Publishing.{FitsInBlock, FitsWord, MayStoreWord, ReadsHeld, is_of_block, ReadsNamed, MayLoadWord}
use Rattle.shared_words.specs.Laws.{IsEntryLoad}
use Rattle.shared_words.proofs.NamedAreas.{named_area}
use Rattle.shared_words.proofs.ShownMembers.{shown_at, still_at}
use Rattle.shared_words.proofs.SoundState.{counts}
use Rattle.shared_words.proofs.WatcherFrames.{watcher_here}

module _ {Served : Published → Type 0} {opening : Opening} (s : State (Unit {0}) View) (r : RunningRule Served opening s) (word value block at : ℕ) (is : kind_at word ≡ InBlock block at) (may : MayStoreWord r.writer word value) where
  fits : FitsInBlock r.writer block at value
  fits = subst (FitsWord r.writer value) is may

  -- not under a generation that a seat of the machine holds
  unread : (seat : SeatName) (g : ℕ) (o : Option Published) → held_by (progress_of s.words r.writer r.seats) seat ≡ Some g → slice_get r.writer.published g ≡ o → IsTrue (is_read_under (kind_at word) o) → ⊥
  unread seat g None holds here reads = absurd (cc)
  unread seat g (Some p) holds here reads =
      let q = progress_of s.words r.writer r.seats in
      let counted = counts s r g (held_readable q r.machine.progress g (seat_held q seat g holds)) in
      true≢false (sym reads ∙ ap (λ (kind : WordKind). is_read_under kind (Some p)) is ∙ fits.unread g p counted here)

  -- what a member has learnt of a generation is what was published
  member_learnt : (k : ℕ) (m : MemberView) → get_elem? r.seats k ≡ some (Member m) → (g : ℕ) (o : Option Published) → slice_get m.seen g ≡ o → held_by_member m.member ≡ Some g → IsTrue (is_read_under (kind_at word) o) → ⊥
  member_learnt k m here g None learnt holds reads = absurd (cc)
  member_learnt k m here g (Some p) learnt holds reads =
      let knows = r.each_seat k (Member m) here in
      unread (names.Member k) g (Some p)
      (ap (option_and_then held_by_member) (shown_at r.writer.members r.seats k m knows.made here) ∙ holds)
      (ap (λ (xs : List Published). slice_get xs g) knows.seen.1 ∙ still_at m.seen knows.seen.0 g p learnt)
      reads

  member_unread : (k : ℕ) (m : MemberView) → get_elem? r.seats k ≡ some (Member m) → (o : Option ℕ) → held_by_member m.member ≡ o → ReadsHeld word m.seen o → ⊥
  member_unread k m here None holds reads = reads
  member_unread k m here (Some g) holds reads = member_learnt k m here g (slice_get m.seen g) refl holds reads

  -- nor under one that a watcher holds
  watcher_learnt : (k : ℕ) (v : WatcherView) → get_elem? r.seats k ≡ some (Watcher v) → (g : ℕ) (o : Option Published) → slice_get v.seen g ≡ o → held_by_watcher v.watcher ≡ Some g → IsTrue (is_read_under (kind_at word) o) → ⊥
  watcher_learnt k v here g None learnt holds reads = absurd (cc)
  watcher_learnt k v here g (Some p) learnt holds reads =
      let knows = r.each_seat k (Watcher v) here in
      unread (names.Watcher v.watcher.number) g (Some p)
      (ap (option_and_then held_by_watcher) (watcher_here s r k v here) ∙ holds)
      (ap (λ (xs : List Published). slice_get xs g) knows.seen.1 ∙ still_at v.seen knows.seen.0 g p learnt)
      reads

  watcher_unread : (k : ℕ) (v : WatcherView) → get_elem? r.seats k ≡ some (Watcher v) → (o : Option ℕ) → held_by_watcher v.watcher ≡ o → ReadsHeld word v.seen o → ⊥
  watcher_unread k v here None holds reads = reads
  watcher_unread k v here (Some g) holds reads = watcher_learnt k v here g (slice_get v.seen g) refl holds reads

  -- by a slot, it is an entry word of an area that is kept in the block
  named_entry : (k : ℕ) (m : MemberView) → get_elem? r.seats k ≡ some (Member m) → ReadsNamed word m → IsEntryLoad r.writer.kept word block at (Member m)
  named_entry k m here reads =
      let kept = named_area s r k m here reads.area reads.named reads.listed in
      let same = ap (λ (a : AreaRef). a.block) kept.is ∙ sym (eqb-true block reads.area.block (subst (λ (kind : WordKind). IsTrue (is_of_block kind reads.area.block)) is reads.of)) in
      record { m = m; is = refl; unheld = member_unread k m here (held_by_member m.member) refl; area = kept.area; among = kept.among; here = same; entry = fits.unkept kept.area kept.among same }

  behind_unread : (k : ℕ) (v : View) → get_elem? r.seats k ≡ some v → MayLoadWord word v → IsEntryLoad r.writer.kept word block at v
  behind_unread k (Writer w) here loads = absurd (r.each_seat k (Writer w) here)
  behind_unread k (Member m) here (inl reads) = absurd (member_unread k m here (held_by_member m.member) refl reads)
  behind_unread k (Member m) here (inr reads) = named_entry k m here reads
  behind_unread k (Watcher w) here loads = absurd (watcher_unread k w here (held_by_watcher w.watcher) refl loads)
  behind_unread k (Note n) here loads = absurd loads
  behind_unread k Spent here loads = absurd loads

  pub not_loaded : (id : ℕ) (v : View) → get_elem? s.views id ≡ some v → MayLoadWord word v → IsEntryLoad r.writer.kept word block at v
  not_loaded zero v here loads =
      let same : Writer r.writer ≡ v = some-injective (Writer r.writer) v (ap (λ (vs : List View). get_elem? vs 0) (sym r.views) ∙ here) in
      let mine : MayLoadWord word (Writer r.writer) = subst (MayLoadWord word) (sym same) loads in
      absurd (unread names.Writer (newest_number r.writer.published) (slice_get r.writer.published (newest_number r.writer.published)) refl refl mine)
  not_loaded (suc k) v here loads = behind_unread k v (ap (λ (vs : List View). get_elem? vs (suc k)) (sym r.views) ∙ here) loads
