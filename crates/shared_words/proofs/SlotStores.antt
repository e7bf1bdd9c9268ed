-- A store of a word of a slot by a member keeps the rule.
use Rattle.std.proofs.Common.{◌≡◌, ◌≢◌, ℕ, zero, suc, ◌+◌, ◌-◌, ◌%◌, ◌<◌, ◌≤◌, ◌⊎◌, inl, inr, true, ◌||◌, List, length, length-set, set, get_or-set_other, refl, sym, ap, subst, ◌∙◌, arith}
use mathlib.Core.Option.{none, some}
use mathlib.Core.Logic.{dite}
use native.Mathlib.Decide.{ℕ_discrete}
use lib.ListN.{get_elem?}
use Rattle.std.specs.Prelude.{◌==◌, nat_le, Some, slice_get, slice_set, slice_index}
use Rattle.std.proofs.lemmas.Bool.{cases_Bool, and_from, or_left, or_right, eq-eqb, eqb-false, not-true, le-leb}
use Rattle.atomic_table.specs.Table.{State, keeps, step, Allows}
use Rattle.prgr_core.specs.Members as members
use Rattle.prgr_core.specs.declared.progress.Progress.{Progress}
use Rattle.area_core.specs.declared.map.TheConstants.{PROCESSES}
use Rattle.area_core.specs.declared.map.WordKind.TheVariants.{Slot}
use Rattle.area_core.specs.declared.table.Published.{Published}
use Rattle.area_core.specs.declared.table.Table.{Table}
use Rattle.area_core.specs.Map.{word_at, slot_place}
use Rattle.area_core.specs.Generations.{is_current, is_instance, is_key_area, is_kept, has_serial, serial_in, is_naming, names_frame, names_literal}
use Rattle.area_core.specs.Blocks.{Blocks, BlockInvariant, IsAnchor}
use Rattle.area_core.proofs.Places.{kind_slot, slots_differ}
use Rattle.area_core.proofs.BlockStores.{stored_off}
use Rattle.area_core.proofs.Frames.{code_after, breakpoints_after, terms_after, entries_after, retired_after, doomed_after, images_after}
use Rattle.area_core.proofs.SlotStores.{slot_word_kept}
use Rattle.area_core.proofs.Anchors.{frame_kept, literal_kept, used_is_kept}
use Rattle.marks.specs.declared.mark.ProcessView.{ProcessView}
use Rattle.shared_words.specs.declared.table.TheConstants.{ROOT, COUNTER, LEAD, DELAYS, CONFIRMED}
use Rattle.shared_words.specs.declared.opening.Opening.{Opening}
use Rattle.shared_words.specs.declared.view.MemberView.{MemberView}
use Rattle.shared_words.specs.declared.view.View.{View}
use Rattle.shared_words.specs.declared.view.View.TheVariants.{Member}
use Rattle.shared_words.specs.Views.{published_at}
use Rattle.shared_words.specs.Shown.{views_shown, progress_of, state_of}
use Rattle.shared_words.specs.Seats.{member_of}
use Rattle.shared_words.specs.Processes.{process_of, under_of}
use Rattle.shared_words.specs.Kinds.{Sat}
use Rattle.shared_words.specs.Rule.{IsOwn, MayBeRead, SlotStands, SlotKnown, WordsAgree, MemberKnows, RunningRule}
use Rattle.shared_words.specs.Slots.{process_at, place_at, FitsAnchor, FitsSlot, MayStoreSlot, process_stored, with_slot, slot_stored}
use Rattle.shared_words.proofs.ShownMembers.{shown_at, shown_length, set_same, there, there_is, within_get}
use Rattle.shared_words.proofs.ShownViews.{views_at}
use Rattle.shared_words.proofs.ShownWords.{shown_stored, shown_word}
use Rattle.shared_words.proofs.SoundState.{shows_sound}
use Rattle.shared_words.proofs.SlotFrames.{anchor_word, slot_still}
use Rattle.shared_words.proofs.Frames.{after_step, progress_set, progress_words, member_changes}
use Rattle.shared_words.proofs.ClearLooks.{awake_reads, awake_published, all_over}
use Rattle.shared_words.proofs.MemberStores.{seat_of}
use Rattle.shared_words.proofs.AnchorStores.{may_become, turns_known, anchor_known, slot_else, process_here, process_else}

-- ---- the rule

module _ {Served : Published → Type 0} {opening : Opening} (s : State (Unit {0}) View) (r : RunningRule Served opening s) (k : ℕ) (m : MemberView) (at : get_elem? r.seats k ≡ some (Member m)) (process place value : ℕ) (may : MayStoreSlot opening process place value m) where
  knows : MemberKnows r.writer k m
  knows = r.each_seat k (Member m) at

  abbrev t : Table
  t = state_of s.words r.writer r.seats

  -- the process is this member's
  own : process % length r.writer.members ≡ k
  own = ap (λ (n : ℕ). process % n) r.published.made ∙ may.own ∙ knows.numbered

  -- what it knows is shown
  in_view : slice_get (views_shown r.writer.members r.seats) k ≡ Some m
  in_view = views_at r.writer.members r.seats k m knows.made at

  -- what is known of the process
  known : SlotKnown s.words r.writer m process
  known = r.marks process k m may.below own in_view

  room : slot_place process 16 < length s.words
  room = (let below = may.below in let size = r.words.all in omega (arith, below, size))

  abbrev p : Published
  p = published_at m.seen m.member.generation

  -- the word of an anchor in the state that is shown
  shown_anchor : (place x : ℕ) → slice_get (process_of m process).slot.anchors place ≡ Some x → word_at t.words (slot_place process (place + 1)) ≡ x
  shown_anchor place x here = shown_word s.words (slot_place process (place + 1)) (omega arith) ∙ known.anchors place x here

  place_within : (a x : ℕ) → slice_get (process_of m process).slot.anchors a ≡ Some x → a < 16
  place_within a x here = (let within = within_get (process_of m process).slot.anchors a x here in let wide = known.known.wide in omega (arith, within, wide))

  -- what an anchor names is kept
  named_frame : (a x serial : ℕ) → slice_get (process_of m process).slot.anchors a ≡ Some x → names_frame x serial ≡ true → is_kept t.kept serial ≡ true
  named_frame a x serial here named =
      let within = place_within a x here in
      frame_kept t (shows_sound s r) process may.below (a + 1) serial (omega arith) (omega (arith, within)) (ap (λ (y : ℕ). names_frame y serial) (shown_anchor a x here) ∙ named)

  named_literal : (a x serial : ℕ) → slice_get (process_of m process).slot.anchors a ≡ Some x → names_literal x serial ≡ true → is_kept t.kept serial ≡ true
  named_literal a x serial here named =
      let within = place_within a x here in
      literal_kept t (shows_sound s r) process may.below (a + 1) serial (omega arith) (omega (arith, within)) (ap (λ (y : ℕ). names_literal y serial) (shown_anchor a x here) ∙ named)

  -- what its generation uses is kept
  used : (serial : ℕ) → (is_current p serial ≡ true) ⊎ (is_key_area p serial ≡ true) → is_kept t.kept serial ≡ true
  used serial comes = used_is_kept t (shows_sound s r) process may.below m.member.generation p serial (awake_reads s r k m in_view may.awake) (awake_published s r k m in_view may.awake)
      (elim comes as (λ _. (is_instance p serial || is_key_area p serial) ≡ true) [
        | inl current ↦ or_left (is_instance p serial) (is_key_area p serial) (or_left (is_current p serial) (has_serial p.state.old serial) current)
        | inr key ↦ or_right (is_instance p serial) (is_key_area p serial) key
      ])

  module _ (a : ℕ) (few : a < 16) (fits : FitsAnchor p (process_of m process).slot.anchors a value) where
    here : slice_get (process_of m process).slot.anchors a ≡ Some (word_at (process_of m process).slot.anchors a)
    here = there_is (process_of m process).slot.anchors a 0 (let wide = known.known.wide in omega (arith, few, wide))

    by_frame : (serial : ℕ) → names_frame value serial ≡ true → is_kept t.kept serial ≡ true
    by_frame serial named =
        elim (fits.frame serial named) as (λ _. is_kept t.kept serial ≡ true) [ inl before ↦ named_frame before.place before.word serial before.at before.passes | inr current ↦ used serial (inl current) ]

    by_literal : (serial : ℕ) → names_literal value serial ≡ true → is_kept t.kept serial ≡ true
    by_literal serial named =
        elim (fits.literal serial named) as (λ _. is_kept t.kept serial ≡ true) [
          | inl before ↦ named_literal before.place before.word serial before.at before.passes
          | inr others ↦ elim others as (λ _. is_kept t.kept serial ≡ true) [
            | inl key ↦ used serial (inr key)
            | inr framed ↦ named_frame framed.place framed.word serial framed.at framed.passes
          ]
        ]

    -- what the word names is kept
    names_kept : is_naming value ≡ true → is_kept t.kept (serial_in value) ≡ true
    names_kept naming =
        elim (cases_Bool (value % 2 == 1)) as (λ _. is_kept t.kept (serial_in value) ≡ true) [
          | inl odd ↦ by_frame (serial_in value) (and_from (value % 2 == 1) (serial_in value == serial_in value) odd (eq-eqb (serial_in value) (serial_in value) refl))
          | inr even ↦
              let some_kind = eqb-false (value % 4) 0 (not-true (value % 4 == 0) naming) in
              let whole = eqb-false (value % 2) 1 even in
              by_literal (serial_in value) (and_from (nat_le 2 (value % 4)) (serial_in value == serial_in value) (le-leb 2 (value % 4) (two value some_kind whole)) (eq-eqb (serial_in value) (serial_in value) refl))
        ]
      where
        two : (value : ℕ) → (value % 4 ≡ 0 → ⊥) → (value % 2 ≡ 1 → ⊥) → 2 ≤ value % 4
        two value some_kind whole = omega (arith)

    -- its area stands in no other anchor, since no two anchors of a slot are of one area
    apart_now : (other word : ℕ) → slice_get (process_of m process).slot.anchors other ≡ Some word → other ≢ a → value ≢ 0 → word ≢ 0 → serial_in word ≢ serial_in value
    apart_now other word there differ some_value some_word same =
        let this = fits.apart other word there differ some_value some_word same in
        let within = place_within other word there in
        let mine = shown_anchor a (word_at (process_of m process).slot.anchors a) here in
        let its = shown_anchor other word there in
        r.words.blocks.anchors_apart process (other + 1) (a + 1) (record { slot = may.below; first = omega arith; last = omega (arith, within) }) (record { slot = may.below; first = omega arith; last = omega (arith, few) })
        (λ e. differ (omega (arith, e))) (λ empty. some_word (sym its ∙ empty)) (λ empty. this.some (sym mine ∙ empty)) (ap serial_in its ∙ same ∙ sym this.of ∙ ap serial_in (sym mine))

    -- and stands in no other anchor
    names_apart : (anchor : ℕ) → IsAnchor process anchor → anchor ≢ suc a → value ≢ 0 → word_at t.words (slot_place process anchor) ≢ 0 → serial_in (word_at t.words (slot_place process anchor)) ≢ serial_in value
    names_apart anchor is other some_value standing =
        let word = anchor_word s.words r.writer.looks (under_of m) process (process_of m process) known anchor is in
        let first = is.first in
        let shown : word_at t.words (slot_place process anchor) ≡ word.0 = shown_word s.words (slot_place process anchor) (omega arith) ∙ word.2 in
        λ e. apart_now (anchor - 1) word.0 word.1 (λ same. other (omega (arith, same, first))) some_value (λ empty. standing (shown ∙ empty)) (ap serial_in (sym shown) ∙ e)

  -- the test of an anchor, by its place
  by_place : (n : ℕ) → n ≡ place → FitsSlot m process n value → (1 ≤ place → is_naming value ≡ true → is_kept t.kept (serial_in value) ≡ true)
      × ((anchor : ℕ) → IsAnchor process anchor → 1 ≤ place → anchor ≢ place → value ≢ 0 → word_at t.words (slot_place process anchor) ≢ 0 → serial_in (word_at t.words (slot_place process anchor)) ≢ serial_in value)
  by_place zero is fits = (λ first. absurd (omega (arith, is, first)), λ anchor there first. absurd (omega (arith, is, first)))
  by_place (suc a) is fits =
      let last = may.last in
      let few : a < 16 = omega (arith, is, last) in (
        λ first naming. names_kept a few fits naming,
        λ anchor there first other. names_apart a few fits anchor there (λ e. other (e ∙ is)),
      )

  -- blocks and slots stand after the store
  after_blocks : BlockInvariant (record { word = word_at (set t.words (slot_place process place) value); published = r.writer.published; kept = r.writer.kept }) (MayBeRead r.writer)
  after_blocks =
      let tests = by_place place refl may.fits in
      let slots = (slot_word_kept t (shows_sound s r) process place value may.below may.last tests.0 tests.1).blocks in
      let b : Blocks = record { word = word_at t.words; published = r.writer.published; kept = r.writer.kept } in
      let new : ℕ → ℕ = word_at (set t.words (slot_place process place) value) in
      let off = stored_off t.words (slot_place process place) value Slot (kind_slot process place may.below may.last) in
      let sound = r.words.blocks in
      record {
        roots_fit = sound.roots_fit;
        instances_placed = sound.instances_placed;
        code_stands = code_after b (MayBeRead r.writer) new Slot off sound (λ g p counts here root entry within same. absurd (cc));
        breakpoints_stand = breakpoints_after b (MayBeRead r.writer) new Slot off sound (λ g p counts here root a among instance placed function few same. absurd (cc));
        terms_stand = terms_after b (MayBeRead r.writer) new Slot off sound (λ g p counts here root at within same. absurd (cc));
        used_kept = sound.used_kept;
        areas_stand = λ g p counts here k among. record {
          entries = entries_after b (MayBeRead r.writer) new Slot off sound g p counts here k among (λ function has same none. absurd (cc));
          retired = retired_after b (MayBeRead r.writer) new Slot off sound g p counts here k among (λ same. absurd (cc));
          doomed = doomed_after b (MayBeRead r.writer) new Slot off sound g p counts here k among (λ same big unretired. absurd (cc));
        };
        images_stand = λ k among. images_after b (MayBeRead r.writer) new Slot off sound k among (λ place old has plain same. absurd (cc));
        kept_fit = sound.kept_fit;
        kept_apart = sound.kept_apart;
        named_kept = slots.named_kept;
        anchors_apart = slots.anchors_apart;
      }

  agrees : WordsAgree (set s.words (slot_place process place) value) r.writer
  agrees =
      let below = may.below in
      let last = may.last in
      let size = r.words.all in
      let shown = shown_stored s.words (slot_place process place) value (omega arith) (omega (arith, below, last, size)) in
      record {
        all = length-set s.words (slot_place process place) value ∙ r.words.all;
        root = get_or-set_other s.words (slot_place process place) ROOT value 0 (λ e. absurd (omega (arith, e))) ∙ r.words.root;
        mirror = r.words.mirror;
        mirrored = λ other late. get_or-set_other s.words (slot_place process place) other value 0 (λ e. absurd (omega (arith, e, late, below, last))) ∙ r.words.mirrored other late;
        reached = (let same = get_or-set_other s.words (slot_place process place) COUNTER value 0 (λ e. absurd (omega (arith, e))) in let before = r.words.reached in omega arith);
        blocks = subst (λ (ws : List ℕ). BlockInvariant (record { word = word_at ws; published = r.writer.published; kept = r.writer.kept }) (MayBeRead r.writer)) (sym shown) after_blocks;
      }

  -- what is known of the process after the store
  stored_slot : (n : ℕ) → n ≤ 16 → FitsSlot m process n value → SlotStands (set s.words (slot_place process n) value) r.writer.looks (under_of m) process (process_stored n value m.member.generation (process_of m process))
  stored_slot zero last fits = turns_known s.words r.writer.looks (under_of m) process (process_of m process) known r.looks.backed (all_over s r k m in_view may.awake) may.noted room value fits.0 fits.1
  stored_slot (suc a) last fits =
      let few : a < 16 = omega (arith, last) in
      let here = here a few fits in
      anchor_known s.words r.writer.looks (under_of m) process (process_of m process) known r.looks.backed (all_over s r k m in_view may.awake) may.noted room a value few may.awake here
      (may_become p (process_of m process).slot.anchors a value here fits (apart_now a few fits) (members.is_value m.member.word) m.member.generation)

  mine : (other : ℕ) → other < PROCESSES → SlotKnown s.words r.writer m other → SlotKnown (set s.words (slot_place process place) value) r.writer (with_slot process place value m) other
  mine other below h =
      dite (ℕ_discrete other process)
      (λ (same : other ≡ process). subst (λ (i : ℕ). SlotKnown (set s.words (slot_place process place) value) r.writer (with_slot process place value m) i) (sym same)
      (subst (λ (q : ProcessView). SlotStands (set s.words (slot_place process place) value) r.writer.looks (under_of m) process q) (sym (process_here process place value m)) (stored_slot place may.last may.fits)))
      (λ (apart : other ≡ process → ⊥). subst (λ (q : ProcessView). SlotStands (set s.words (slot_place process place) value) r.writer.looks (under_of m) other q) (sym (process_else process place value m other apart))
      (slot_still s.words (set s.words (slot_place process place) value) r.writer r.writer m other refl
      (λ a within. get_or-set_other s.words (slot_place process place) (slot_place other a) value 0 (λ e. apart (slots_differ other a process place within may.last e).0)) h))

  pub stores_slot : RunningRule Served opening (after_step s (set s.words (slot_place process place) value) (suc k) (Member (with_slot process place value m)))
  stores_slot =
      let m' = with_slot process place value m in
      let shown = shown_at r.writer.members r.seats k m knows.made at in
      let few_members = r.machine.progress.few in
      let many = shown_length r.writer.members r.seats in
      let made = knows.made in
      let q : Progress = progress_of s.words r.writer r.seats in
      let front = progress_words s.words (set s.words (slot_place process place) value) r.writer r.seats (slice_index s.words COUNTER) (slice_index s.words LEAD)
      (get_or-set_other s.words (slot_place process place) COUNTER value 0 (λ e. absurd (omega (arith, e))))
      (get_or-set_other s.words (slot_place process place) LEAD value 0 (λ e. absurd (omega (arith, e))))
      (get_or-set_other s.words (slot_place process place) DELAYS value 0 (λ e. absurd (omega (arith, e))))
      (get_or-set_other s.words (slot_place process place) (DELAYS + 1) value 0 (λ e. absurd (omega (arith, e)))) in
      member_changes s r (set s.words (slot_place process place) value) k m m' at (record {
        agree = agrees;
        knows = record { numbered = knows.numbered; made = knows.made; seen = knows.seen; holds = knows.holds; noted = knows.noted; own_slots = λ other apart. slot_else m.slots process other (process_stored place value m.member.generation (process_of m process)) (λ same. apart (subst (λ (i : ℕ). IsOwn (length r.writer.members) k i) (sym same) (record { below = may.below; own = own }))) ∙ knows.own_slots other apart; words = knows.words };
        moves = inr (progress_set (set s.words (slot_place process place) value) r.writer r.seats k m' knows.made (there r.seats k (Member m) at) ∙ (λ i. record (front i) { members = slice_set (front i).members k m.member }) ∙ (λ i. record q { members = set_same q.members k m.member shown i }));
        own = get_or-set_other s.words (slot_place process place) (CONFIRMED + k) value 0 (λ e. absurd (omega (arith, e, few_members, many, made))) ∙ r.machine.own_words k m.member shown;
        others = λ j other few. get_or-set_other s.words (slot_place process place) (CONFIRMED + j) value 0 (λ e. elim few as (λ _. ⊥) [ inl low ↦ absurd (omega (arith, e, few_members, many, low)) | inr low ↦ absurd (omega (arith, e, low)) ]);
        leader = subst (λ (n : ℕ). n ≤ length r.writer.members) (sym (get_or-set_other s.words (slot_place process place) LEAD value 0 (λ e. absurd (omega (arith, e))))) r.machine.leader_made;
        mine = λ other below own h. mine other below h;
        elsewhere = λ other a below apart within. get_or-set_other s.words (slot_place process place) (slot_place other a) value 0 (λ e. apart (ap (λ (i : ℕ). i % length r.writer.members) (slots_differ other a process place within may.last e).0 ∙ own));
      })

-- a member may store a word of the slot of one of its processes
pub store_slot_is_allowed : (Served : Published → Type 0) (opening : Opening) (slots id process place value : ℕ) (me : Sat) → me.0 ≡ Member (member_of me.0) → MayStoreSlot opening process place value (member_of me.0)
    → Allows (RunningRule Served opening) slots id me (slot_place process place) (λ _. value) (λ _. slot_stored (step slots (slot_place process place) value 0 none) me value)
store_slot_is_allowed Served opening slots id process place value me is may s r wide at fits =
    let m = member_of me.0 in
    let seat = seat_of s r id m (at ∙ ap some is) in
    let last = may.last in
    let process_is : process_at (slot_place process place) ≡ process = omega (arith, last) in
    let place_is : place_at (slot_place process place) ≡ place = omega (arith, last) in (
      Member (with_slot process place value m),
      keeps,
      tt,
      subst (λ (i : ℕ). RunningRule Served opening (after_step s (set s.words (slot_place process place) value) i (Member (with_slot process place value m)))) (sym seat.1) (stores_slot s r seat.0 m seat.2 process place value may),
      (λ i. (Member (with_slot (sym process_is i) (sym place_is i) value m), me.1)),
    )

-- the same of a word that is known to be this one
pub store_slot_may : (Served : Published → Type 0) (opening : Opening) (slots id process place value word : ℕ) (me : Sat) → word ≡ slot_place process place → me.0 ≡ Member (member_of me.0) → MayStoreSlot opening process place value (member_of me.0)
    → Allows (RunningRule Served opening) slots id me word (λ _. value) (λ _. slot_stored (step slots word value 0 none) me value)
store_slot_may Served opening slots id process place value word me same is may =
    subst (λ (n : ℕ). Allows (RunningRule Served opening) slots id me n (λ _. value) (λ _. slot_stored (step slots n value 0 none) me value)) (sym same) (store_slot_is_allowed Served opening slots id process place value me is may)
