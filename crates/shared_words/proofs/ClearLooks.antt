-- What a wait that is over, and a look that was clear, tell of slots and of generations that may be read.
use Rattle.std.proofs.Common.{◌≡◌, ℕ, ◌-◌, ◌%◌, ◌<◌, ◌≤◌, inl, inr, Bool, true, false, ◌||◌, List, length, refl, sym, ap, subst, ◌∙◌, arith}
use Rattle.std.specs.Prelude.{Some, unwrap_or, slice_get, slice_index}
use Rattle.std.proofs.Math.Nat.{mod-lt}
use Rattle.std.proofs.lemmas.Bool.{cases_Bool, or_cases, or_left, both_ways}
use Rattle.std.proofs.lemmas.Bool.Decides.{nat_tests}
use Rattle.atomic_table.specs.Table.{State}
use Rattle.prgr_core.specs.Members as members
use Rattle.prgr_core.proofs.SoundMembers.{is_value_true}
use Rattle.prgr_core.proofs.SoundParts.{is_member}
use Rattle.area_core.specs.declared.map.TheConstants.{PROCESSES}
use Rattle.area_core.specs.declared.table.Published.{Published}
use Rattle.area_core.specs.Map.{slot_place}
use Rattle.area_core.specs.Generations.{is_current, is_instance, is_key_area, is_used, is_retired_area, has_serial, anchor_names_area}
use Rattle.area_core.specs.Blocks.{IsAnchor}
use Rattle.area_core.specs.Step.{IsReadable, opening_published}
use Rattle.marks.specs.declared.kept.LookKind.{LookKind}
use Rattle.marks.specs.declared.kept.LookKind.TheVariants.{Frame, Both}
use Rattle.marks.specs.declared.kept.EndedWait.{EndedWait}
use Rattle.marks.specs.Names.{names_in}
use Rattle.marks.specs.Kept.{comes_to, IsOverFor, AreOverFor}
use Rattle.marks.specs.Steps.{holding}
use Rattle.shared_words.specs.declared.opening.Opening.{Opening}
use Rattle.shared_words.specs.declared.view.MemberView.{MemberView}
use Rattle.shared_words.specs.declared.view.View.{View}
use Rattle.shared_words.specs.declared.view.View.TheVariants.{Member}
use Rattle.shared_words.specs.Views.{published_at}
use Rattle.shared_words.specs.Opening.{member_begun}
use Rattle.shared_words.specs.Shown.{views_shown, progress_of, state_of}
use Rattle.shared_words.specs.Processes.{process_of, under_of}
use Rattle.shared_words.specs.Rule.{OldStays, RetiredStays, is_gone, HasEnded, SlotKnown, MemberKnows, RunningRule}
use Rattle.shared_words.specs.Slots.{IsClear}
use Rattle.shared_words.specs.Laws.{IsOutOfUse}
use Rattle.shared_words.proofs.ShownMembers.{there_is, still_at}
use Rattle.shared_words.proofs.ShownViews.{views_length, view_cases, shown_view}
use Rattle.shared_words.proofs.SlotFrames.{anchor_word}
use Rattle.shared_words.proofs.SoundState.{counts}

-- ---- generations

-- what is neither current nor a key's no turn comes to
unused_gone : (p : Published) (awake : Bool) (g : ℕ) (kind : LookKind) (serial : ℕ) → is_used p serial ≡ false → comes_to (holding awake g p) kind serial ≡ false
unused_gone p awake g Frame serial unused =
    elim (cases_Bool (is_current p serial)) as (λ _. is_current p serial ≡ false) [
      | inl current ↦ absurd (both_ways (is_used p serial) unused (or_left (is_instance p serial) (is_key_area p serial) (or_left (is_current p serial) (has_serial p.state.old serial) current)))
      | inr not_so ↦ not_so
    ]
unused_gone p awake g Both serial unused = both_false (is_current p serial) (has_serial p.state.old serial) (is_key_area p serial) unused
  where
    both_false : (a b c : Bool) → ((a || b) || c) ≡ false → (a || c) ≡ false
    both_false true b c e = absurd (cc)
    both_false false true c e = absurd (cc)
    both_false false false c e = e

module _ (published : List Published) (old_stays : OldStays published) (retired_stays : RetiredStays published) where
  -- where an area was gone in the kind, no later turn comes to it
  pub gone_later : (n g : ℕ) (q p : Published) (awake : Bool) (kind : LookKind) (serial : ℕ) → n ≤ g → slice_get published n ≡ Some q → slice_get published g ≡ Some p → is_gone q kind serial ≡ true → comes_to (holding awake g p) kind serial ≡ false
  gone_later n g q p awake Frame serial later first second gone =
      elim (or_cases (is_retired_area q serial) (has_serial q.state.old serial) gone) as (λ _. is_current p serial ≡ false) [
        | inl retired ↦ unused_gone p awake g Frame serial (retired_stays n g q p serial later first second retired)
        | inr old ↦ old_stays n g q p serial later first second old
      ]
  gone_later n g q p awake Both serial later first second gone = unused_gone p awake g Both serial (retired_stays n g q p serial later first second gone)

-- ---- words of anchors

-- what names an area in neither kind does not name it
pub names_neither : (word serial : ℕ) → names_in Both word serial ≡ false → anchor_names_area word serial ≡ false
names_neither word serial clear = grind (arith, nat_tests)

module _ {Served : Published → Type 0} {opening : Opening} (s : State (Unit {0}) View) (r : RunningRule Served opening s) where
  -- each process has a member
  pub some_member : (process : ℕ) → process < PROCESSES → (m : MemberView) × SlotKnown s.words r.writer m process
  some_member process below =
      let k : ℕ = process % length r.writer.members in
      let shown = views_shown r.writer.members r.seats in
      let within : k < length shown = subst (λ (n : ℕ). k < n) (sym (views_length r.writer.members r.seats)) (mod-lt process r.published.staffed) in
      let m : MemberView = unwrap_or (slice_get shown k) (member_begun 0) in
      (m, r.marks process k m below refl (there_is shown k (member_begun 0) within))

  -- what a look found clear no slot names
  pub clear_word : (kind : LookKind) (serial : ℕ) → IsClear r.writer kind serial → (process anchor : ℕ) → IsAnchor process anchor → names_in kind (slice_index s.words (slot_place process anchor)) serial ≡ false
  clear_word kind serial clear process anchor is =
      let known = some_member process is.slot in
      let word = anchor_word s.words r.writer.looks (under_of known.0) process (process_of known.0 process) known.1 anchor is in
      let first = is.first in
      let last = is.last in
      let looked = clear.looked process is.slot (anchor - 1) (omega (arith, first, last)) in
      ap (λ (x : ℕ). names_in kind x serial) word.2 ∙ (known.1.known.looked _ looked.1 refl).clear word.0 word.1

  -- ---- generations that may be read

  -- a wait that is over is of no later generation than those that may be read
  pub over_before : (wait : EndedWait) → HasEnded r.writer wait → (g : ℕ) → IsReadable (state_of s.words r.writer r.seats) g → wait.generation ≤ g
  over_before wait ended g readable = counts s r g readable (record { generation = wait.generation; need = ended.need }) ended.kept ended.reached

  -- and no turn under these comes to the area
  pub out_of_reach : (wait : EndedWait) → HasEnded r.writer wait → (g : ℕ) (p : Published) (awake : Bool) → IsReadable (state_of s.words r.writer r.seats) g → slice_get r.writer.published g ≡ Some p → comes_to (holding awake g p) wait.kind wait.serial ≡ false
  out_of_reach wait ended g p awake readable at =
      gone_later r.writer.published r.published.old_stays r.published.retired_stays wait.generation g ended.published p awake wait.kind wait.serial (over_before wait ended g readable) ended.at at ended.gone

  pub out_of_use : (kind : LookKind) (serial : ℕ) → IsClear r.writer kind serial → IsOutOfUse s.words r.writer r.seats kind serial
  out_of_use kind serial clear = record {
    unnamed = clear_word kind serial clear;
    unreached = λ g p readable at. out_of_reach (record { generation = clear.generation; serial = serial; kind = kind }) clear.over g p true readable at;
  }

  -- ---- a member that is awake

  -- what a member knows is as it must be
  pub knows_shown : (k : ℕ) (m : MemberView) → slice_get (views_shown r.writer.members r.seats) k ≡ Some m → MemberKnows r.writer k m
  knows_shown k m at =
      elim (view_cases r.writer.members r.seats k m at) as (λ _. MemberKnows r.writer k m) [ inl here ↦ r.each_seat k (Member m) here | inr home ↦ r.at_home k m home ]

  module _ (k : ℕ) (m : MemberView) (at : slice_get (views_shown r.writer.members r.seats) k ≡ Some m) (awake : members.is_value m.member.word ≡ true) where
    -- its generation may be read
    pub awake_reads : IsReadable (state_of s.words r.writer r.seats) m.member.generation
    awake_reads =
        let p = progress_of s.words r.writer r.seats in
        inr (inl (m.member, is_member p r.machine.progress k m.member (shown_view r.writer.members r.seats k m at), inl (is_value_true m.member.word awake), refl))

    -- and is what was published
    pub awake_published : slice_get r.writer.published m.member.generation ≡ Some (published_at m.seen m.member.generation)
    awake_published =
        let knows = knows_shown k m at in
        ap (λ (xs : List Published). slice_get xs m.member.generation) knows.seen.1 ∙ still_at m.seen knows.seen.0 m.member.generation _ (there_is m.seen m.member.generation opening_published knows.holds)

    pub over_for : (wait : EndedWait) → HasEnded r.writer wait → IsOverFor (under_of m) wait
    over_for wait ended = record {
      reached = over_before wait ended m.member.generation awake_reads;
      gone = out_of_reach wait ended m.member.generation (published_at m.seen m.member.generation) (members.is_value m.member.word) awake_reads awake_published;
    }

    pub all_over : AreOverFor (under_of m) r.writer.looks
    all_over wait among = over_for wait (r.looks.over wait among)
