-- The stores of a member keep the rule: of its own word, of the leader's word and of the counter.
use Rattle.std.proofs.Common.{◌≡◌, ℕ, zero, suc, ◌+◌, ◌<◌, ◌≤◌, inl, true, List, length, set, get_or-set_other, get_or-set_same, refl, sym, ap, subst, ◌∙◌, arith}
use mathlib.Core.Option.{none, some, some-injective}
use lib.ListN.{get_elem?}
use Rattle.std.specs.Prelude.{Some, slice_get, slice_index, IsTrue}
use Rattle.std.specs.Option.{option_and_then}
use Rattle.std.proofs.lemmas.Bool.{eqb-true}
use Rattle.atomic_table.specs.Table.{State, keeps, step, Allows}
use Rattle.prgr_core.specs.declared.member.TheConstants.{MOST_MEMBERS}
use Rattle.prgr_core.specs.declared.member.Member as machines
use Rattle.prgr_core.specs.declared.member.Loaded.{Loaded}
use Rattle.prgr_core.specs.declared.member.Loaded.TheVariants.{Nothing, Counter, CounterAndRoot}
use Rattle.prgr_core.specs.declared.progress.Progress.{Progress}
use Rattle.prgr_core.specs.declared.event.PrgrEvent.{PrgrEvent}
use Rattle.prgr_core.specs.declared.event.PrgrEvent.TheVariants as prgr
use Rattle.prgr_core.specs.Members as members
use Rattle.prgr_core.specs.Members.{HasLoaded}
use Rattle.prgr_core.specs.Invariant.{CounterInRange, LoadedIsNear}
use Rattle.prgr_core.specs.Step.{after, with_member, reported}
use Rattle.prgr_core.proofs.SoundParts.{is_member}
use Rattle.area_core.specs.Step.{confirms}
use Rattle.area_core.proofs.Held.{value_is}
use Rattle.shared_words.specs.declared.table.TheConstants.{COUNTER, LEAD, DELAYS, CONFIRMED}
use Rattle.shared_words.specs.declared.opening.Opening.{Opening}
use Rattle.area_core.specs.declared.table.Published.{Published}
use Rattle.area_core.specs.Blocks.{Among}
use Rattle.shared_words.specs.declared.view.BlockWord.{BlockWord}
use Rattle.shared_words.specs.declared.view.NoteNumber.{NoteNumber}
use Rattle.shared_words.specs.declared.view.ProcessSlot.{ProcessSlot}
use Rattle.shared_words.specs.declared.view.MemberView.{MemberView}
use Rattle.shared_words.specs.declared.view.View.{View}
use Rattle.shared_words.specs.declared.view.View.TheVariants.{Writer, Member}
use Rattle.shared_words.specs.Shown.{progress_of}
use Rattle.shared_words.specs.Seats.{member_of}
use Rattle.shared_words.specs.Kinds.{Sat, MayConfirm, value_confirmed, confirmed}
use Rattle.shared_words.specs.Rule.{IsBeginning, IsOwn, WordKept, RunningRule}
use Rattle.shared_words.proofs.ShownMembers.{shown_at, shown_length, there}
use Rattle.shared_words.specs.Processes.{process_of, slot_in, opening_slot, under_of}
use Rattle.shared_words.proofs.SlotFrames.{SlotsGoOn, known_awake}
use Rattle.shared_words.proofs.Frames.{after_step, stored_front, progress_set, progress_words, member_step}

module _ {Served : Published → Type 0} {opening : Opening} (s : State (Unit {0}) View) (r : RunningRule Served opening s) where
  -- a seat with a member's view is that of the member at its place behind the writer
  pub seat_of : (id : ℕ) (m : MemberView) → get_elem? s.views id ≡ some (Member m) → (k : ℕ) × (id ≡ suc k) × (get_elem? r.seats k ≡ some (Member m))
  seat_of zero m at = absurd (let is : Writer r.writer ≡ Member m = some-injective (Writer r.writer) (Member m) (ap (λ (vs : List View). get_elem? vs 0) (sym r.views) ∙ at) in cc)
  seat_of (suc k) m at = (k, refl, ap (λ (vs : List View). get_elem? vs (suc k)) (sym r.views) ∙ at)

  -- there are few members
  pub few : (k : ℕ) (m : MemberView) → get_elem? r.seats k ≡ some (Member m) → k < MOST_MEMBERS
  few k m at =
      let made = (r.each_seat k (Member m) at).made in
      let most = r.machine.progress.few in
      omega (arith, shown_length r.writer.members r.seats)

-- ---- its own word

-- the event that a report is
confirmed_event : (p : Progress) (k : ℕ) (a : machines.Member) (value : ℕ) → slice_get p.members k ≡ Some a → (loaded : Loaded) → a.loaded ≡ loaded → IsTrue (confirms value loaded) → after p (prgr.Report k) ≡ Some (with_member p k (record a { word = value; loaded = Nothing }))
confirmed_event p k a value at Nothing is may = absurd (cc)
confirmed_event p k a value at (Counter c) is may = absurd (cc)
confirmed_event p k a value at (CounterAndRoot c) is may =
    let value_is : value ≡ c + 1 = eqb-true value (c + 1) may in
    ap (option_and_then (λ (member : machines.Member). reported p k member member.loaded)) at
    ∙ ap (λ (l : Loaded). reported p k a l) is
    ∙ ap (λ (v : ℕ). Some (with_member p k (record a { word = v; loaded = Nothing }))) (sym value_is)

module _ {Served : Published → Type 0} {opening : Opening} (s : State (Unit {0}) View) (r : RunningRule Served opening s) where
  -- a store of a member's word, which is an event of that member
  pub own_store : (k value : ℕ) (old m : MemberView) (event : PrgrEvent) → get_elem? r.seats k ≡ some (Member old) → m.member.number ≡ old.member.number → m.seen ≡ old.seen → m.notes ≡ old.notes → m.blocks ≡ old.blocks → m.member.generation ≡ old.member.generation → m.member.word ≡ value → SlotsGoOn r.writer old m
      → after (progress_of s.words r.writer r.seats) event ≡ Some (with_member (progress_of s.words r.writer r.seats) k m.member) → RunningRule Served opening (after_step s (set s.words (CONFIRMED + k) value) (suc k) (Member m))
  own_store k value old m event at number learnt noted blocks generation word slots made =
      let knows = r.each_seat k (Member old) at in
      let few_members = few s r k old at in
      let size = r.words.all in
      let words' : List ℕ = set s.words (CONFIRMED + k) value in
      let same = progress_words s.words words' r.writer r.seats (slice_index s.words COUNTER) (slice_index s.words LEAD)
      (get_or-set_other s.words (CONFIRMED + k) COUNTER value 0 (λ e. absurd (omega arith)))
      (get_or-set_other s.words (CONFIRMED + k) LEAD value 0 (λ e. absurd (omega arith)))
      (get_or-set_other s.words (CONFIRMED + k) DELAYS value 0 (λ e. absurd (omega arith)))
      (get_or-set_other s.words (CONFIRMED + k) (DELAYS + 1) value 0 (λ e. absurd (omega arith))) in
      member_step s r words' k old m at (record {
        rest = stored_front s.words (CONFIRMED + k) value (omega arith) (omega arith) (omega arith) (λ e. absurd (omega arith));
        knows = record {
          numbered = number ∙ knows.numbered;
          made = knows.made;
          seen = subst (λ (xs : _). IsBeginning xs r.writer.published) (sym learnt) knows.seen;
          holds = subst (λ (z : ℕ × List Published). z.0 < length z.1) (λ i. (sym generation i, sym learnt i)) knows.holds;
          noted = subst (λ (xs : List NoteNumber). (note : NoteNumber) → Among xs note → Among r.writer.notes note) (sym noted) knows.noted;
          own_slots = subst (λ (xs : List ProcessSlot). (process : ℕ) → (IsOwn (length r.writer.members) k process → ⊥) → slot_in xs process ≡ opening_slot process) (sym slots.slots) knows.own_slots;
          words = subst (λ (xs : List BlockWord). (f : BlockWord) → Among xs f → WordKept r.writer f) (sym blocks) knows.words;
        };
        moves = inl (event, made ∙ ap (λ (p : Progress). Some (with_member p k m.member)) (sym same) ∙ ap (λ (p : Progress). Some p) (sym (progress_set words' r.writer r.seats k m knows.made (there r.seats k (Member old) at))));
        own = get_or-set_same s.words (CONFIRMED + k) value 0 (omega arith) ∙ sym word;
        others = λ j other. get_or-set_other s.words (CONFIRMED + k) (CONFIRMED + j) value 0 (λ e. other (omega arith));
        leader = subst (λ (n : ℕ). n ≤ length r.writer.members) (sym (get_or-set_other s.words (CONFIRMED + k) LEAD value 0 (λ e. absurd (omega arith)))) r.machine.leader_made;
        slots = slots;
      })

-- what a report confirms is a value
confirms_value : (value counter : ℕ) (loaded : Loaded) → CounterInRange counter → ((c : ℕ) → HasLoaded loaded c → c ≤ counter) → IsTrue (confirms value loaded) → members.is_value value ≡ true
confirms_value value counter Nothing range near may = absurd (cc)
confirms_value value counter (Counter c) range near may = absurd (cc)
confirms_value value counter (CounterAndRoot c) range near may =
    let is : value ≡ c + 1 = eqb-true value (c + 1) may in
    let below : c ≤ counter = near c refl in
    value_is value (omega (arith, is), omega (arith, is, below, range))

-- a report may store its value
pub confirm_is_allowed : (Served : Published → Type 0) (opening : Opening) (slots id number value : ℕ) (me : Sat) → me.0 ≡ Member (member_of me.0) → (member_of me.0).member.number ≡ number → MayConfirm value (member_of me.0)
    → Allows (RunningRule Served opening) slots id me (CONFIRMED + number) (λ _. value) (λ _. confirmed (step slots (CONFIRMED + number) value 0 none) me value)
confirm_is_allowed Served opening slots id number value me is numbered may s r wide at fits =
    let m = member_of me.0 in
    let seat = seat_of s r id m (at ∙ ap some is) in
    let k = seat.0 in
    let knows = r.each_seat k (Member m) seat.2 in
    let place : number ≡ k = sym numbered ∙ knows.numbered in
    let shown = shown_at r.writer.members r.seats k m knows.made seat.2 in
    let near : LoadedIsNear (slice_index s.words COUNTER) m.member = r.machine.progress.invariant.loads_near m.member (is_member (progress_of s.words r.writer r.seats) r.machine.progress k m.member shown) in
    let range = r.machine.progress.invariant.counter_in_range in
    let slots : SlotsGoOn r.writer m (value_confirmed value m) = record {
      slots = refl;
      known = λ process h. known_awake (under_of m) (members.is_value value) process (process_of m process) r.writer.looks (λ awake. confirms_value value (slice_index s.words COUNTER) m.member.loaded range (λ c loaded. (near c loaded).0) may) h;
    } in
    let stored = own_store s r k value m (value_confirmed value m) (prgr.Report k) seat.2 refl refl refl refl refl refl slots
    (confirmed_event (progress_of s.words r.writer r.seats) k m.member value (shown_at r.writer.members r.seats k m knows.made seat.2) m.member.loaded refl may) in (
      Member (value_confirmed value m),
      keeps,
      tt,
      subst (λ (z : ℕ × ℕ). RunningRule Served opening (after_step s (set s.words (CONFIRMED + z.0) value) z.1 (Member (value_confirmed value m)))) (λ i. (sym place i, sym seat.1 i)) stored,
      refl,
    )
