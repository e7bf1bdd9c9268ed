-- What steps on other words leave of the slots, and of what is known of processes.
use Rattle.std.proofs.Common.{◌≡◌, ℕ, ◌+◌, ◌-◌, ◌%◌, ◌^◌, ◌<◌, ◌≤◌, ◌⊎◌, inl, inr, Bool, true, false, List, ◌++◌, length, drop, refl, sym, ap, subst, ◌∙◌, arith}
use Rattle.std.specs.Prelude.{Option, Some, None, unwrap_or, slice_get, slice_index}
use Rattle.std.proofs.lemmas.Bool.{both_ways}
use Rattle.prgr_core.specs.declared.member.Member as machines
use Rattle.prgr_core.specs.declared.member.Retirement.{Retirement}
use Rattle.prgr_core.specs.Members as members
use Rattle.area_core.specs.declared.map.TheConstants.{SLOTS_START, PROCESSES, ANCHORS}
use Rattle.area_core.specs.declared.table.Published.{Published}
use Rattle.area_core.specs.Map.{opening_words, word_at, slot_place}
use Rattle.area_core.specs.Blocks.{Among, IsAnchor}
use Rattle.area_core.specs.Step.{opening_published}
use Rattle.marks.specs.declared.kept.EndedWait.{EndedWait}
use Rattle.marks.specs.declared.kept.WriterKept.{WriterKept}
use Rattle.marks.specs.declared.mark.ProcessView.{ProcessView}
use Rattle.marks.specs.Names.{IsAtRest}
use Rattle.marks.specs.Kept.{Under, IsNoted, IsKnown, IsBacked}
use Rattle.marks.specs.Steps.{holding}
use Rattle.marks.proofs.Anchors.{has_element}
use Rattle.shared_words.specs.declared.view.ProcessSlot.{ProcessSlot}
use Rattle.shared_words.specs.declared.view.FoundWord.{FoundWord}
use Rattle.shared_words.specs.declared.view.MemberView.{MemberView}
use Rattle.shared_words.specs.declared.view.WriterView.{WriterView}
use Rattle.shared_words.specs.declared.view.View.{View}
use Rattle.shared_words.specs.Views.{published_at}
use Rattle.shared_words.specs.Shown.{views_shown}
use Rattle.shared_words.specs.Processes.{slot_in, process_of, under_of}
use Rattle.shared_words.specs.Rule.{IsBeginning, HasEnded, LooksKept, SlotStands, SlotKnown, MarksKept}
use Rattle.shared_words.proofs.ShownMembers.{within_get, still_at, there_is}
use Rattle.shared_words.proofs.ShownWords.{shown_word}

-- ---- words

-- what stands behind the words of the machine is as before
pub same_behind : (words words' : List ℕ) → drop SLOTS_START words' ≡ drop SLOTS_START words → (place : ℕ) → SLOTS_START ≤ place → slice_index words' place ≡ slice_index words place
same_behind words words' same place late =
    sym (shown_word words' place late)
    ∙ ap (λ (ws : List ℕ). word_at (opening_words SLOTS_START ++ ws) place) same
    ∙ shown_word words place late

-- so is the word of a slot
pub same_slot : (words words' : List ℕ) → drop SLOTS_START words' ≡ drop SLOTS_START words → (process place : ℕ) → slice_index words' (slot_place process place) ≡ slice_index words (slot_place process place)
same_slot words words' same process place = same_behind words words' same (slot_place process place) (omega arith)

-- ---- one process

-- the word of an anchor
pub anchor_word : (words : List ℕ) (k : WriterKept) (u : Under) (process : ℕ) (p : ProcessView) → SlotStands words k u process p → (anchor : ℕ) → IsAnchor process anchor
    → (x : ℕ) × (slice_get p.slot.anchors (anchor - 1) ≡ Some x) × (slice_index words (slot_place process anchor) ≡ x)
anchor_word words k u process p h anchor is =
    let first = is.first in
    let last = is.last in
    let wide = h.known.wide in
    let found = has_element p.slot.anchors (anchor - 1) (omega (arith, first, last, wide)) in
    let same : anchor ≡ anchor - 1 + 1 = omega (arith, first) in
    (found.0, found.1, ap (λ (a : ℕ). slice_index words (slot_place process a)) same ∙ h.anchors (anchor - 1) found.0 found.1)

-- what is known of a process while the words of its slot stay
pub slot_still : (words words' : List ℕ) (w w' : WriterView) (m : MemberView) (process : ℕ) → w'.looks ≡ w.looks → ((place : ℕ) → place ≤ ANCHORS → slice_index words' (slot_place process place) ≡ slice_index words (slot_place process place)) → SlotKnown words w m process → SlotKnown words' w' m process
slot_still words words' w w' m process looks same h = record {
  turns = same 0 (omega arith) ∙ h.turns;
  anchors = λ place word at.
      let within = within_get (process_of m process).slot.anchors place word at in
      let wide = h.known.wide in
      same (place + 1) (omega (arith, within, wide)) ∙ h.anchors place word at;
  narrow = h.narrow;
  known = subst (IsKnown (under_of m) process (process_of m process)) (sym looks) h.known;
}

-- what a step of a member that stores no word of a slot leaves of its processes
pub record SlotsGoOn (w : WriterView) (old m : MemberView) : Type 0 where
  pub slots : m.slots ≡ old.slots
  pub known : (process : ℕ) → IsKnown (under_of old) process (process_of old process) w.looks → IsKnown (under_of m) process (process_of m process) w.looks

-- then what is known of a process stays so
pub slot_goes_on : (words words' : List ℕ) (w : WriterView) (old m : MemberView) (process : ℕ) → SlotsGoOn w old m → drop SLOTS_START words' ≡ drop SLOTS_START words → SlotKnown words w old process → SlotKnown words' w m process
slot_goes_on words words' w old m process on behind h = record {
  turns = same_slot words words' behind process 0 ∙ h.turns ∙ ap (λ (xs : List ProcessSlot). (slot_in xs process).slot.turns) (sym on.slots);
  anchors = λ place word at. same_slot words words' behind process (place + 1) ∙ h.anchors place word (ap (λ (xs : List ProcessSlot). slice_get (slot_in xs process).slot.anchors place) (sym on.slots) ∙ at);
  narrow = subst (λ (xs : List ProcessSlot). (slot_in xs process).slot.turns < 2 ^ 32) (sym on.slots) h.narrow;
  known = on.known process h.known;
}

-- a step that leaves the member's word and generation, and its slots and notes, whatever words it finds
pub goes_on : (w : WriterView) (m : MemberView) (a : machines.Member) (found : List FoundWord) → a.word ≡ m.member.word → a.generation ≡ m.member.generation → SlotsGoOn w m (record m { member = a; found = found })
goes_on w m a found word generation = record {
  slots = refl;
  known = λ process h. subst (λ (u : Under). IsKnown u process (process_of m process) w.looks)
      (λ i. holding (members.is_value (sym word i)) (sym generation i) (published_at m.seen (sym generation i))) h;
}

-- ---- members that sleep, wake and learn

noted_as : (note : Option ℕ) (u : Under) (b : Bool) (p : ProcessView) → IsNoted note u p → IsNoted note (record u { awake = b }) p
noted_as None u b p noted = noted
noted_as (Some n) u b p noted = noted

-- what is known of a process stays so while its member wakes
pub known_awake : (u : Under) (b : Bool) (process : ℕ) (p : ProcessView) (k : WriterKept) → (u.awake ≡ true → b ≡ true) → IsKnown u process p k → IsKnown (record u { awake = b }) process p k
known_awake u b process p k still h = record {
  wide = h.wide;
  rest = elim h.rest as (λ _. IsAtRest p ⊎ (b ≡ true)) [ inl rest ↦ inl rest | inr awake ↦ inr (still awake) ];
  current = h.current;
  falling = h.falling;
  counted = h.counted;
  looked = h.looked;
  read = h.read;
  dropped = h.dropped;
  lingering = h.lingering;
  noted = noted_as p.note u b p h.noted;
}

-- a process whose member is not awake is at rest
pub rests : (u : Under) (process : ℕ) (p : ProcessView) (k : WriterKept) → u.awake ≡ false → IsKnown u process p k → IsAtRest p
rests u process p k asleep h = elim h.rest as (λ _. IsAtRest p) [ inl rest ↦ rest | inr awake ↦ absurd (both_ways u.awake asleep awake) ]

-- what was published is read from each beginning that has it
pub published_begins : (few all : List Published) (g : ℕ) → IsBeginning few all → g < length few → published_at all g ≡ published_at few g
published_begins few all g is within =
    let at = there_is few g opening_published within in
    ap (λ (xs : List Published). published_at xs g) is.1
    ∙ ap (λ (o : Option Published). unwrap_or o opening_published) (still_at few is.0 g _ at)

-- ---- steps of the writer

-- what the writer keeps of looks, and the words of slots, are as before, and waits that were over are over
pub record LooksStay (words words' : List ℕ) (w w' : WriterView) : Type 0 where
  pub looks : w'.looks ≡ w.looks
  pub ended : (wait : EndedWait) → HasEnded w wait → HasEnded w' wait
  pub slots : (process place : ℕ) → process < PROCESSES → place ≤ ANCHORS → slice_index words' (slot_place process place) ≡ slice_index words (slot_place process place)

pub looks_stay : (words words' : List ℕ) (w w' : WriterView) → LooksStay words words' w w' → LooksKept w → LooksKept w'
looks_stay words words' w w' stay h = record {
  backed = subst IsBacked (sym stay.looks) h.backed;
  over = λ wait among. stay.ended wait (h.over wait (subst (λ k. Among k.waits wait) stay.looks among));
}

pub marks_stay : (words words' : List ℕ) (w w' : WriterView) (seats seats' : List View) → LooksStay words words' w w' → length w'.members ≡ length w.members → views_shown w'.members seats' ≡ views_shown w.members seats → MarksKept words w seats → MarksKept words' w' seats'
marks_stay words words' w w' seats seats' stay long shown h process k m below own at =
    slot_still words words' w w' m process stay.looks (λ place within. stay.slots process place below within)
    (h process k m below (subst (λ (n : ℕ). process % n ≡ k) long own) (ap (λ (xs : List MemberView). slice_get xs k) (sym shown) ∙ at))

-- a wait that is over stays over while pairs and generations are added, and the counter does not fall
pub ended_still : (w w' : WriterView) (pairs : List Retirement) (published : List Published) → w'.pairs ≡ w.pairs ++ pairs → w'.published ≡ w.published ++ published → w.counter ≤ w'.counter → (wait : EndedWait) → HasEnded w wait → HasEnded w' wait
ended_still w w' pairs published more later counter wait h = record {
  need = h.need;
  kept = (h.kept.0, ap (λ (xs : List Retirement). slice_get xs h.kept.0) more ∙ still_at w.pairs pairs h.kept.0 _ h.kept.1);
  reached = (let reached = h.reached in omega (arith, reached, counter));
  published = h.published;
  at = ap (λ (xs : List Published). slice_get xs wait.generation) later ∙ still_at w.published published wait.generation h.published h.at;
  gone = h.gone;
}

-- the same where none is added
pub ended_as : (w w' : WriterView) → w'.pairs ≡ w.pairs → w'.published ≡ w.published → w.counter ≤ w'.counter → (wait : EndedWait) → HasEnded w wait → HasEnded w' wait
ended_as w w' pairs published counter wait h = record {
  need = h.need;
  kept = (h.kept.0, ap (λ (xs : List Retirement). slice_get xs h.kept.0) pairs ∙ h.kept.1);
  reached = (let reached = h.reached in omega (arith, reached, counter));
  published = h.published;
  at = ap (λ (xs : List Published). slice_get xs wait.generation) published ∙ h.at;
  gone = h.gone;
}

-- none of these changes
pub looks_same : (words : List ℕ) (w w' : WriterView) → w'.looks ≡ w.looks → ((wait : EndedWait) → HasEnded w wait → HasEnded w' wait) → LooksStay words words w w'
looks_same words w w' looks ended = record { looks = looks; ended = ended; slots = λ process place below within. refl }
