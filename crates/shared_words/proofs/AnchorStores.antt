-- What the store of a word of a slot makes of what is known of the process, and of the copy of the anchors.
use Rattle.std.proofs.Common.{◌≡◌, ◌≢◌, ℕ, zero, suc, ◌+◌, ◌-◌, ◌*◌, ◌%◌, ◌^◌, ◌<◌, ◌≤◌, ◌⊎◌, inl, inr, Bool, true, cond, List, ◌∷◌, length, length-set, set, get_or-set_other, get_or-set_same, refl, sym, ap, subst, ◌∙◌, arith}
use mathlib.Core.Logic.{dite}
use native.Mathlib.Decide.{ℕ_discrete}
use Rattle.std.specs.Prelude.{◌==◌, nat_le, Some, slice_get, slice_index}
use Rattle.std.proofs.lemmas.Bool.{and_parts, or_cases, or_left, or_right, eq-eqb, ne_eqb, eqb-true, leb-true}
use Rattle.prgr_core.proofs.Parts.{slice_get-slice_set}
use Rattle.area_core.specs.declared.map.TheConstants.{PROCESSES, ANCHORS}
use Rattle.area_core.specs.declared.table.Published.{Published}
use Rattle.area_core.specs.Map.{word_at, slot_place}
use Rattle.area_core.specs.Generations.{is_current, is_key_area, serial_in, names_frame, names_literal}
use Rattle.area_core.proofs.Places.{word_here, word_there}
use Rattle.marks.specs.declared.kept.LookKind.{LookKind}
use Rattle.marks.specs.declared.kept.LookKind.TheVariants.{Frame, Both}
use Rattle.marks.specs.declared.kept.WriterKept.{WriterKept}
use Rattle.marks.specs.declared.mark.ProcessView.{ProcessView}
use Rattle.marks.specs.Names.{names_in, HasAnchor}
use Rattle.marks.specs.Kept.{Under, comes_to, IsBacked, AreOverFor}
use Rattle.marks.specs.Steps.{holding, HasNote, MayBecome, IsNextTurn}
use Rattle.marks.proofs.MemberSteps.{anchor_stored, turn_stored}
use Rattle.shared_words.specs.declared.view.ProcessSlot.{ProcessSlot}
use Rattle.shared_words.specs.declared.view.MemberView.{MemberView}
use Rattle.shared_words.specs.declared.view.View.{View}
use Rattle.shared_words.specs.declared.view.View.TheVariants.{Member}
use Rattle.shared_words.specs.Seats.{member_of}
use Rattle.shared_words.specs.Processes.{slot_in, process_of, note_in, AreCopied}
use Rattle.shared_words.specs.Rule.{SlotStands}
use Rattle.shared_words.specs.Slots.{FitsAnchor, process_stored, slot_with, with_slot}

-- ---- what an anchor may become

frame_serial : (word serial : ℕ) → names_frame word serial ≡ true → serial_in word ≡ serial
frame_serial word serial named = eqb-true (serial_in word) serial (and_parts (word % 2 == 1) (serial_in word == serial) named).1

literal_serial : (word serial : ℕ) → names_literal word serial ≡ true → serial_in word ≡ serial
literal_serial word serial named = eqb-true (serial_in word) serial (and_parts (nat_le 2 (word % 4)) (serial_in word == serial) named).1

frame_some : (word serial : ℕ) → names_frame word serial ≡ true → word ≢ 0
frame_some word serial named zero_word = (let odd = eqb-true (word % 2) 1 (and_parts (word % 2 == 1) (serial_in word == serial) named).0 in absurd (omega (arith, odd, zero_word)))

literal_some : (word serial : ℕ) → names_literal word serial ≡ true → word ≢ 0
literal_some word serial named zero_word = (let high = leb-true 2 (word % 4) (and_parts (nat_le 2 (word % 4)) (serial_in word == serial) named).0 in absurd (omega (arith, high, zero_word)))

-- a literal that is newly named is the area of a key, or this anchor names it for a frame
module _ (p : Published) (anchors : List ℕ) (place value : ℕ) (at : slice_get anchors place ≡ Some (word_at anchors place)) (fits : FitsAnchor p anchors place value) (apart : (other word : ℕ) → slice_get anchors other ≡ Some word → other ≢ place → value ≢ 0 → word ≢ 0 → serial_in word ≢ serial_in value) where
  abbrev old : ℕ
  old = word_at anchors place

  -- an anchor of the area of this word is this one
  here_of : (test : ℕ → ℕ → Bool) (serial : ℕ) (h : HasAnchor test anchors serial) → value ≢ 0 → serial_in value ≡ serial → h.word ≢ 0 → serial_in h.word ≡ serial → test old serial ≡ true
  here_of test serial h some_value of some_word its =
      dite (ℕ_discrete h.place place)
      (λ (here : h.place ≡ place). ap (λ (x : ℕ). test x serial) (same_word here) ∙ h.passes)
      (λ (other : h.place ≡ place → ⊥). absurd (apart h.place h.word h.at other some_value some_word (its ∙ sym of)))
    where
      same_word : h.place ≡ place → old ≡ h.word
      same_word here = (let mine = at in let its = h.at in cc)

  frame_here : (serial : ℕ) → names_frame value serial ≡ true → HasAnchor names_frame anchors serial → names_frame old serial ≡ true
  frame_here serial named h = here_of names_frame serial h (frame_some value serial named) (frame_serial value serial named) (frame_some h.word serial h.passes) (frame_serial h.word serial h.passes)

  literal_here : (serial : ℕ) → names_literal value serial ≡ true → HasAnchor names_literal anchors serial → names_literal old serial ≡ true
  literal_here serial named h = here_of names_literal serial h (literal_some value serial named) (literal_serial value serial named) (literal_some h.word serial h.passes) (literal_serial h.word serial h.passes)

  framed_here : (serial : ℕ) → names_literal value serial ≡ true → HasAnchor names_frame anchors serial → names_frame old serial ≡ true
  framed_here serial named h = here_of names_frame serial h (literal_some value serial named) (literal_serial value serial named) (frame_some h.word serial h.passes) (frame_serial h.word serial h.passes)

  -- a frame that it newly names is current
  new_frame : (serial : ℕ) → names_frame value serial ≡ true → (names_frame old serial ≡ true) ⊎ (is_current p serial ≡ true)
  new_frame serial named = elim (fits.frame serial named) as (λ _. (names_frame old serial ≡ true) ⊎ (is_current p serial ≡ true)) [ inl before ↦ inl (frame_here serial named before) | inr current ↦ inr current ]

  -- a literal that it newly names a turn comes to, where this anchor does not name the area already
  new_literal : (serial : ℕ) → names_literal value serial ≡ true → (names_in Both old serial ≡ true) ⊎ (is_key_area p serial ≡ true)
  new_literal serial named =
      elim (fits.literal serial named) as (λ _. (names_in Both old serial ≡ true) ⊎ (is_key_area p serial ≡ true)) [
        | inl before ↦ inl (or_right (names_frame old serial) (names_literal old serial) (literal_here serial named before))
        | inr others ↦ elim others as (λ _. (names_in Both old serial ≡ true) ⊎ (is_key_area p serial ≡ true)) [
          | inl key ↦ inr key
          | inr framed ↦ inl (or_left (names_frame old serial) (names_literal old serial) (framed_here serial named framed))
        ]
      ]

  newly : (awake : Bool) (g : ℕ) (kind : LookKind) (serial : ℕ) → names_in kind value serial ≡ true → (names_in kind old serial ≡ true) ⊎ (comes_to (holding awake g p) kind serial ≡ true)
  newly awake g Frame serial named = new_frame serial named
  newly awake g Both serial named =
      elim (or_cases (names_frame value serial) (names_literal value serial) named) as (λ _. (names_in Both old serial ≡ true) ⊎ (comes_to (holding awake g p) Both serial ≡ true)) [
        | inl frame ↦ elim (new_frame serial frame) as (λ _. (names_in Both old serial ≡ true) ⊎ (comes_to (holding awake g p) Both serial ≡ true)) [
          | inl before ↦ inl (or_left (names_frame old serial) (names_literal old serial) before)
          | inr current ↦ inr (or_left (is_current p serial) (is_key_area p serial) current)
        ]
        | inr literal ↦ elim (new_literal serial literal) as (λ _. (names_in Both old serial ≡ true) ⊎ (comes_to (holding awake g p) Both serial ≡ true)) [
          | inl before ↦ inl before
          | inr key ↦ inr (or_right (is_current p serial) (is_key_area p serial) key)
        ]
      ]

  pub may_become : (awake : Bool) (g : ℕ) → MayBecome (holding awake g p) old value
  may_become awake g = record { newly = newly awake g; stays = fits.stays; kills = fits.kills }

-- ---- what is known of the process

module _ (words : List ℕ) (k : WriterKept) (u : Under) (process : ℕ) (p : ProcessView) (h : SlotStands words k u process p) (backed : IsBacked k) (over : AreOverFor u k) (has : HasNote p.note u) (room : slot_place process 16 < length words) where
  pub turns_known : (value : ℕ) → value < 2 ^ 32 → IsNextTurn p value → SlotStands (set words (slot_place process 0) value) k u process (process_stored 0 value u.generation p)
  turns_known value narrow next = record {
    turns = get_or-set_same words (slot_place process 0) value 0 (omega (arith, room));
    anchors = λ place word at. get_or-set_other words (slot_place process 0) (slot_place process (place + 1)) value 0 (λ e. absurd (omega (arith, e))) ∙ h.anchors place word at;
    narrow = narrow;
    known = turn_stored u process p k value h.known backed over has next;
  }

  pub anchor_known : (place value : ℕ) → place < ANCHORS → u.awake ≡ true → slice_get p.slot.anchors place ≡ Some (word_at p.slot.anchors place) → MayBecome u (word_at p.slot.anchors place) value
      → SlotStands (set words (slot_place process (suc place)) value) k u process (process_stored (suc place) value u.generation p)
  anchor_known place value few awake at may = record {
    turns = get_or-set_other words (slot_place process (suc place)) (slot_place process 0) value 0 (λ e. absurd (omega (arith, e))) ∙ h.turns;
    anchors = λ a word there.
        elim (slice_get-slice_set p.slot.anchors place value a word there) as (λ _. slice_index (set words (slot_place process (suc place)) value) (slot_place process (a + 1)) ≡ word) [
          | inl here ↦
              let same : slot_place process (a + 1) ≡ slot_place process (suc place) = omega (arith, here.0) in
              ap (λ (i : ℕ). slice_index (set words (slot_place process (suc place)) value) i) same ∙ get_or-set_same words (slot_place process (suc place)) value 0 (omega (arith, room, few)) ∙ sym here.1
          | inr other ↦
              let apart = other.0 in
              get_or-set_other words (slot_place process (suc place)) (slot_place process (a + 1)) value 0 (λ e. apart (omega (arith, e))) ∙ h.anchors a word other.1
        ];
    narrow = h.narrow;
    known = anchor_stored u process p k place (word_at p.slot.anchors place) value h.known backed over awake has at may;
  }

-- ---- the slots of a member

-- the slot that was stored last
slot_here : (slots : List ProcessSlot) (process : ℕ) (p : ProcessView) → slot_in (slot_with process p ∷ slots) process ≡ slot_with process p
slot_here slots process p = ap (λ (b : Bool). cond b (slot_with process p) (slot_in slots process)) (eq-eqb process process refl)

pub slot_else : (slots : List ProcessSlot) (process other : ℕ) (p : ProcessView) → (other ≡ process → ⊥) → slot_in (slot_with process p ∷ slots) other ≡ slot_in slots other
slot_else slots process other p apart = ap (λ (b : Bool). cond b (slot_with process p) (slot_in slots other)) (ne_eqb process other (λ e. apart (sym e)))

module _ (process place value : ℕ) (m : MemberView) where
  pub process_here : process_of (with_slot process place value m) process ≡ process_stored place value m.member.generation (process_of m process)
  process_here = by_place place
    where
      by_place : (place : ℕ) → process_of (with_slot process place value m) process ≡ process_stored place value m.member.generation (process_of m process)
      by_place zero = ap (λ (s : ProcessSlot). record { slot = s.slot; marks = s.marks; note = note_in m.notes process }) (slot_here m.slots process (process_stored 0 value m.member.generation (process_of m process)))
      by_place (suc n) = ap (λ (s : ProcessSlot). record { slot = s.slot; marks = s.marks; note = note_in m.notes process }) (slot_here m.slots process (process_stored (suc n) value m.member.generation (process_of m process)))

  pub process_else : (other : ℕ) → (other ≡ process → ⊥) → process_of (with_slot process place value m) other ≡ process_of m other
  process_else other apart = ap (λ (s : ProcessSlot). record { slot = s.slot; marks = s.marks; note = note_in m.notes other }) (slot_else m.slots process other (process_stored place value m.member.generation (process_of m process)) apart)

-- ---- the copy of the anchors

module _ (anchors : List ℕ) (process value : ℕ) (m : MemberView) (h : AreCopied anchors m) (below : process < PROCESSES) where
  -- the turns done are none of them
  pub copied_turns : AreCopied anchors (with_slot process 0 value m)
  copied_turns = record {
    all = h.all;
    wide = λ other few. ap (λ (xs : List ℕ). length xs) (anchors_same other) ∙ h.wide other few;
    each = λ other place few within. h.each other place few within ∙ ap (λ (xs : List ℕ). word_at xs place) (sym (anchors_same other));
  }
    where
      anchors_same : (other : ℕ) → (process_of (with_slot process 0 value m) other).slot.anchors ≡ (process_of m other).slot.anchors
      anchors_same other =
          dite (ℕ_discrete other process)
          (λ (same : other ≡ process). ap (λ (i : ℕ). (process_of (with_slot process 0 value m) i).slot.anchors) same ∙ ap (λ (q : ProcessView). q.slot.anchors) (process_here process 0 value m) ∙ ap (λ (i : ℕ). (process_of m i).slot.anchors) (sym same))
          (λ (apart : other ≡ process → ⊥). ap (λ (q : ProcessView). q.slot.anchors) (process_else process 0 value m other apart))

  -- an anchor is one
  pub copied_anchor : (place : ℕ) → place < ANCHORS → AreCopied (set anchors (process * ANCHORS + place) value) (with_slot process (suc place) value m)
  copied_anchor place few = record {
    all = length-set anchors (process * ANCHORS + place) value ∙ h.all;
    wide = λ other low. dite (ℕ_discrete other process)
        (λ (same : other ≡ process). ap (λ (xs : List ℕ). length xs) (this other same) ∙ length-set (process_of m process).slot.anchors place value ∙ h.wide process below)
        (λ (apart : other ≡ process → ⊥). ap (λ (xs : List ℕ). length xs) (another other apart) ∙ h.wide other low);
    each = λ other at low within. dite (ℕ_discrete other process)
        (λ (same : other ≡ process).
        ap (λ (i : ℕ). word_at (set anchors (process * ANCHORS + place) value) (i * ANCHORS + at)) same
        ∙ stored_both at within
        ∙ ap (λ (xs : List ℕ). word_at xs at) (sym (this other same)))
        (λ (apart : other ≡ process → ⊥).
        word_there anchors (process * ANCHORS + place) value (other * ANCHORS + at) (λ e. apart (omega (arith, e, few, within)))
        ∙ h.each other at low within
        ∙ ap (λ (xs : List ℕ). word_at xs at) (sym (another other apart)));
  }
    where
      this : (other : ℕ) → other ≡ process → (process_of (with_slot process (suc place) value m) other).slot.anchors ≡ set (process_of m process).slot.anchors place value
      this other same = ap (λ (i : ℕ). (process_of (with_slot process (suc place) value m) i).slot.anchors) same ∙ ap (λ (q : ProcessView). q.slot.anchors) (process_here process (suc place) value m)

      another : (other : ℕ) → (other ≡ process → ⊥) → (process_of (with_slot process (suc place) value m) other).slot.anchors ≡ (process_of m other).slot.anchors
      another other apart = ap (λ (q : ProcessView). q.slot.anchors) (process_else process (suc place) value m other apart)

      stored_both : (at : ℕ) → at < ANCHORS → word_at (set anchors (process * ANCHORS + place) value) (process * ANCHORS + at) ≡ word_at (set (process_of m process).slot.anchors place value) at
      stored_both at within =
          let all = h.all in
          let wide = h.wide process below in
          dite (ℕ_discrete at place)
          (λ (same : at ≡ place). ap (λ (i : ℕ). word_at (set anchors (process * ANCHORS + place) value) (process * ANCHORS + i)) same ∙ word_here anchors (process * ANCHORS + place) value (omega (arith, all, few, below))
          ∙ sym (word_here (process_of m process).slot.anchors place value (omega (arith, wide, few))) ∙ ap (λ (i : ℕ). word_at (set (process_of m process).slot.anchors place value) i) (sym same))
          (λ (apart : at ≡ place → ⊥). word_there anchors (process * ANCHORS + place) value (process * ANCHORS + at) (λ e. apart (omega (arith, e)))
          ∙ h.each process at below within ∙ sym (word_there (process_of m process).slot.anchors place value at apart))

-- after the store of an anchor, by what the code stores
pub copied_next : (anchors after : List ℕ) (process place value index : ℕ) (m : MemberView) (v : View) → v ≡ Member (with_slot process place value m) → AreCopied anchors m → process < PROCESSES → place ≤ ANCHORS → 0 < place → index ≡ process * ANCHORS + (place - 1) → after ≡ set anchors index value
    → AreCopied after (member_of v)
copied_next anchors after process zero value index m v view h below last first at stored = absurd (omega (arith, first))
copied_next anchors after process (suc place) value index m v view h below last first at stored =
    let same : index ≡ process * ANCHORS + place = omega (arith, at) in
    subst (λ (z : List ℕ × View). AreCopied z.0 (member_of z.1)) (λ i. (sym (stored ∙ ap (λ (j : ℕ). set anchors j value) same) i, sym view i)) (copied_anchor anchors process value m h below place (omega (arith, last)))

-- after that of the turns done
pub copied_done : (anchors : List ℕ) (process place value : ℕ) (m : MemberView) (v : View) → v ≡ Member (with_slot process place value m) → AreCopied anchors m → process < PROCESSES → place ≡ 0 → AreCopied anchors (member_of v)
copied_done anchors process place value m v view h below none_done =
    subst (λ (x : View). AreCopied anchors (member_of x)) (sym (view ∙ ap (λ (n : ℕ). Member (with_slot process n value m)) none_done)) (copied_turns anchors process value m h below)
