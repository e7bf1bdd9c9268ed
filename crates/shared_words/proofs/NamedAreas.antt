-- An area that a slot of a member names is kept, and stands in the generation that the member holds as it is kept.
use Rattle.std.proofs.Common.{◌≡◌, ℕ, ◌+◌, ◌%◌, ◌≤◌, inl, inr, true, ◌&&◌, List, length, sym, ap, subst, ◌∙◌, arith}
use mathlib.Core.Option.{some}
use lib.ListN.{get_elem?}
use Rattle.std.specs.Prelude.{◌==◌, nat_lt, Option, Some, slice_get, unwrap_or}
use Rattle.std.proofs.lemmas.Bool.{cases_Bool, and_parts, and_from, lt-ltb, ltb-true, eq-eqb, eqb-true, true≢false}
use Rattle.atomic_table.specs.Table.{State}
use Rattle.term_core.specs.declared.area.AreaRef.{AreaRef}
use Rattle.area_core.specs.declared.map.TheConstants.{PROCESSES, ANCHORS}
use Rattle.area_core.specs.declared.table.KeptArea.{KeptArea}
use Rattle.area_core.specs.declared.table.Published.{Published}
use Rattle.area_core.specs.Blocks.{Among}
use Rattle.area_core.specs.Generations.{is_kept, is_naming, anchor_names_area, serial_in}
use Rattle.area_core.specs.Map.{word_at, slot_place}
use Rattle.area_core.specs.Roots.{serial_image}
use Rattle.area_core.specs.Step.{opening_published}
use Rattle.area_core.proofs.Tests.{passed_by}
use Rattle.marks.specs.Names.{HasAnchor}
use Rattle.shared_words.specs.declared.opening.Opening.{Opening}
use Rattle.shared_words.specs.declared.view.ProcessSlot.{ProcessSlot}
use Rattle.shared_words.specs.declared.view.MemberView.{MemberView}
use Rattle.shared_words.specs.declared.view.View.{View}
use Rattle.shared_words.specs.declared.view.View.TheVariants.{Member}
use Rattle.shared_words.specs.Processes.{process_of, held_by_view, NamesArea}
use Rattle.shared_words.specs.Kinds.{IsSameIn}
use Rattle.shared_words.specs.Rule.{IsKeptIn, IsOwn, RunningRule}
use Rattle.shared_words.proofs.OpeningRule.{opening_empty}
use Rattle.shared_words.proofs.ShownMembers.{there_is, still_at, within_get}
use Rattle.shared_words.proofs.ShownViews.{views_at}
use Rattle.shared_words.proofs.ShownWords.{shown_word}

-- an anchor that is 0 names nothing
names_none : (word serial : ℕ) → word ≡ 0 → anchor_names_area word serial ≡ true → ⊥
names_none word serial none passes = true≢false (sym (and_parts (is_naming word) (serial_in word == serial) passes).0 ∙ ap is_naming none)

module _ {Served : Published → Type 0} {opening : Opening} (s : State (Unit {0}) View) (r : RunningRule Served opening s) (k : ℕ) (m : MemberView) (at : get_elem? r.seats k ≡ some (Member m)) where
  -- what the member holds was published
  pub held_at : slice_get r.writer.published m.member.generation ≡ Some (held_by_view m)
  held_at =
      let knows = r.each_seat k (Member m) at in
      ap (λ (xs : List Published). slice_get xs m.member.generation) knows.seen.1 ∙ still_at m.seen knows.seen.0 m.member.generation (held_by_view m) (there_is m.seen m.member.generation opening_published knows.holds)

  -- what the slot of one of its processes names is kept
  own_kept : (process serial : ℕ) → IsOwn (length r.writer.members) k process → HasAnchor anchor_names_area (process_of m process).slot.anchors serial → is_kept r.writer.kept serial ≡ true
  own_kept process serial own anchor =
      let knows = r.each_seat k (Member m) at in
      let known = r.marks process k m own.below own.own (views_at r.writer.members r.seats k m knows.made at) in
      let few = within_get (process_of m process).slot.anchors anchor.place anchor.word anchor.at in
      let wide = known.known.wide in
      let is : word_at (_) (slot_place process (anchor.place + 1)) ≡ anchor.word = shown_word s.words (slot_place process (anchor.place + 1)) (omega arith) ∙ known.anchors anchor.place anchor.word anchor.at in
      let parts = and_parts (is_naming anchor.word) (serial_in anchor.word == serial) anchor.passes in
      subst (λ (x : ℕ). is_kept r.writer.kept x ≡ true) (ap serial_in is ∙ eqb-true (serial_in anchor.word) serial parts.1)
      (r.words.blocks.named_kept process (anchor.place + 1) (record { slot = own.below; first = omega arith; last = omega (arith, few, wide) }) (ap is_naming is ∙ parts.0))

  -- another slot names nothing
  else_none : (process serial : ℕ) → (IsOwn (length r.writer.members) k process → ⊥) → HasAnchor anchor_names_area (process_of m process).slot.anchors serial → ⊥
  else_none process serial else anchor =
      let knows = r.each_seat k (Member m) at in
      let same = ap (λ (x : ProcessSlot). x.slot.anchors) (knows.own_slots process else) in
      names_none anchor.word serial (sym (ap (λ (o : Option ℕ). unwrap_or o 0) (ap (λ (xs : List ℕ). slice_get xs anchor.place) (sym same) ∙ anchor.at)) ∙ opening_empty ANCHORS anchor.place) anchor.passes

  named_kept : (serial : ℕ) → NamesArea m serial → is_kept r.writer.kept serial ≡ true
  named_kept serial named =
      let process = named.0 in
      let n = length r.writer.members in
      elim (cases_Bool (nat_lt process PROCESSES && (process % n == k))) as (λ _. is_kept r.writer.kept serial ≡ true) [
        | inl own ↦
            let parts = and_parts (nat_lt process PROCESSES) (process % n == k) own in
            own_kept process serial (record { below = ltb-true process PROCESSES parts.0; own = eqb-true (process % n) k parts.1 }) named.1
        | inr not_own ↦ absurd (else_none process serial (λ is. true≢false (sym (and_from (nat_lt process PROCESSES) (process % n == k) (lt-ltb process PROCESSES is.below) (eq-eqb (process % n) k is.own)) ∙ not_own)) named.1)
      ]

  -- what a slot names, and the generation has that the member holds, is kept as that has it
  pub named_area : (a : AreaRef) → NamesArea m a.serial → Among (held_by_view m).areas a → IsKeptIn r.writer.kept (held_by_view m) a
  named_area a named listed =
      let found = passed_by (λ (x : KeptArea). x.area.serial == a.serial) r.writer.kept (named_kept a.serial named) in
      let among : Among r.writer.kept found.0 = (found.1, found.2) in
      let published : Among r.writer.published (held_by_view m) = (m.member.generation, held_at) in
      let same = eqb-true found.0.area.serial a.serial found.3 in
      let has = r.published.areas_stay.same (held_by_view m) found.0 a published among listed (sym same) in
      record { area = found.0; among = among; is = r.published.areas_stay.apart (held_by_view m) published found.0.area a has.listed listed same; has = has }

  -- and each later generation has it as it has it
  pub same_later : (later : ℕ) (q : Published) (a : AreaRef) → m.member.generation ≤ later → slice_get r.writer.published later ≡ Some q → NamesArea m a.serial → Among (held_by_view m).areas a → IsSameIn (held_by_view m) q a
  same_later later q a le here named listed =
      let kept = named_area a named listed in
      let has = r.published.areas_stay.stay m.member.generation later (held_by_view m) q kept.area le held_at here kept.among kept.has in
      record {
        listed = subst (Among q.areas) kept.is has.listed;
        image = subst (λ (x : AreaRef). serial_image q.state.areas x.serial ≡ serial_image (held_by_view m).state.areas x.serial) kept.is (has.image ∙ sym kept.has.image);
      }
