-- A member that has joined the note of its process, and reports that it holds the first generation after the empty one.
use Rattle.std.proofs.Common.{◌≡◌, ℕ, zero, suc, ◌%◌, ◌<◌, ◌≤◌, Bool, true, not, cond, List, [], ◌∷◌, ◌++◌, length, replicate, refl, sym, ap, subst, ◌∙◌, arith}
use Rattle.std.specs.Prelude.{Option, Some, slice_get, unwrap_or, ◌==◌, IsTrue}
use Rattle.std.proofs.lemmas.Bool.{and_from, eq-eqb, ne_eqb, lt-ltb}
use Rattle.std.proofs.lemmas.Bool.Decides.{nat_tests}
use Rattle.std.proofs.Math.Nat.{mod-eq_of_lt}
use Rattle.atomic_table.specs.Seated.{TableId}
use Rattle.prgr_core.specs.Step.{follows}
use Rattle.area_core.specs.declared.table.Published.{Published}
use Rattle.area_core.specs.declared.readers.Slots.TheVariants.{OfMember}
use Rattle.area_core.specs.Readers.{is_slot_of}
use Rattle.area_core.specs.Step.{opening_published}
use Rattle.area_core.proofs.Counted.{opened}
use Rattle.marks.specs.Names.{tells_kill}
use Rattle.marks.specs.Steps.{HasNote}
use Rattle.shared_words.specs.declared.opening.Opening.{Opening}
use Rattle.shared_words.specs.declared.seats.Member as tokens
use Rattle.shared_words.specs.declared.seats.Note as notes
use Rattle.shared_words.specs.declared.view.ProcessSlot.{ProcessSlot}
use Rattle.shared_words.specs.declared.view.MemberView.{MemberView}
use Rattle.shared_words.specs.declared.view.NoteView.{NoteView}
use Rattle.shared_words.specs.declared.view.WriterView.{WriterView}
use Rattle.shared_words.specs.Views.{newest_number, published_at}
use Rattle.shared_words.specs.Opening.{member_begun}
use Rattle.shared_words.specs.Notes.{note_begun, note_joined}
use Rattle.shared_words.specs.Processes.{slot_in, note_in, under_of, AreAtRest, AreCopied}
use Rattle.shared_words.specs.Rule.{IsBeginning}
use Rattle.shared_words.specs.Seats.{IsRooted}
use Rattle.shared_words.proofs.ShownMembers.{still_at, there_is}
use Rattle.progress_words.specs.Tokens.{view_of, noted_by, IsMemberOf, IsSameMember, IsNoteOf}
use Rattle.progress_words.specs.Reports.{IsAwake, HoldsReported, having_reported}
use Rattle.anchors.specs.Holds.{anchors_of, IsUnkilled, MayRun}
use Rattle.new_tables.proofs.Begun.{empty_rests}
use Rattle.area_tests.specs.Work.{IsWorking, IsUnder, turns_done}

-- ---- a member without a slot

zeros : (n place word : ℕ) → slice_get (replicate n 0) place ≡ Some word → word ≡ 0
zeros zero place word at = absurd (none_at place at) where
  none_at : (k : ℕ) → slice_get {X = ℕ} [] k ≡ Some word → ⊥
  none_at k e = (cc)
zeros (suc n) zero word at = cc
zeros (suc n) (suc place) word at = zeros n place word at

no_kill : (s : ℕ) → tells_kill 0 s ≡ true → ⊥
no_kill s told = grind (arith, nat_tests)

empty_unkilled : (m : MemberView) (process : ℕ) → m.slots ≡ [] → IsUnkilled (anchors_of m process)
empty_unkilled m process none = subst (λ (xs : List ProcessSlot). IsUnkilled (slot_in xs process).slot.anchors) (sym none) (λ place word s at told. no_kill s (subst (λ (w : ℕ). tells_kill w s ≡ true) (zeros 16 place word (ap (λ (xs : List ℕ). slice_get xs place) (opened 16) ∙ at)) told))

empty_copied : (items : List ℕ) (k : ℕ) (m : MemberView) → m.slots ≡ [] → AreCopied items (member_begun k) → AreCopied items m
empty_copied items k m none h =
    subst (λ (xs : List ProcessSlot). AreCopied items (record m { slots = xs })) (sym none) (record { all = h.all; wide = λ process below. h.wide process below; each = λ process place below few. h.each process place below few })

-- ---- the note and the report

module _ (process counter : ℕ) (w : WriterView) (mid new : MemberView) (joined : mid ≡ note_joined (note_begun process w) (member_begun process)) (is : new ≡ having_reported counter new.seen mid) (two : length w.published ≡ 2) where
  abbrev at_first : MemberView
  at_first = having_reported counter new.seen (note_joined (note_begun process w) (member_begun process))

  now : new ≡ at_first
  now = is ∙ ap (having_reported counter new.seen) joined

  slots_none : new.slots ≡ []
  slots_none = ap (λ (m : MemberView). m.slots) now

  -- it has learnt of what was published
  mid_seen : mid.seen ≡ w.published
  mid_seen = ap (λ (m : MemberView). m.seen) joined ∙ ap (λ (b : Bool). cond b w.published (opening_published ∷ [])) (lt-ltb 1 (length w.published) (omega (arith, two)))

  under_first : IsBeginning mid.seen new.seen → newest_number new.seen ≡ 1 → IsUnder (published_at w.published 1) new
  under_first learnt one =
      let there = there_is w.published 1 opening_published (omega (arith, two)) in
      ap (λ (g : ℕ). published_at new.seen g) (ap (λ (m : MemberView). m.member.generation) now ∙ one)
      ∙ ap (λ (o : Option Published). unwrap_or o opening_published) (ap (λ (xs : List Published). slice_get xs 1) (learnt.1 ∙ ap (λ (xs : List Published). xs ++ learnt.0) mid_seen) ∙ still_at w.published learnt.0 1 _ there)

  note_there : note_in new.notes process ≡ Some (newest_number w.published)
  note_there =
      ap (λ (m : MemberView). note_in m.notes process) now
      ∙ ap (λ (b : Bool). cond b (Some (newest_number w.published)) (note_in [] process)) (eq-eqb process process refl)

  has_note : newest_number new.seen ≡ 1 → HasNote (note_in new.notes process) (under_of new)
  has_note one =
      let generation : new.member.generation ≡ 1 = ap (λ (m : MemberView). m.member.generation) now ∙ one in
      subst (λ (o : Option ℕ). HasNote o (under_of new)) (sym note_there) (omega (arith, generation, two))

  runs : (opening : Opening) → process < opening.members → opening.members ≤ 16 → IsAwake new → newest_number new.seen ≡ 1 → MayRun opening process new
  runs opening below few awake one = record {
    awake = awake;
    below = omega (arith, below, few);
    own = mod-eq_of_lt below ∙ sym (ap (λ (m : MemberView). m.member.number) now);
    noted = has_note one;
  }

-- who begins follows, and still does when it knows the counter
begun_follows : (process counter : ℕ) (w : WriterView) (mid new : MemberView) → mid ≡ note_joined (note_begun process w) (member_begun process) → new ≡ having_reported counter new.seen mid → length w.published ≡ 2 → IsTrue (follows new.member.role)
begun_follows process counter w mid new joined is two = subst (λ (m : MemberView). IsTrue (follows m.member.role)) (sym (now process counter w mid new joined is two)) refl

-- ---- the tokens

pub begins : (Served : Published → Type 0) (table : TableId) (opening : Opening) (process generation : ℕ) (w : WriterView) (note : notes.Note) (old mid new : tokens.Member) → process < opening.members → opening.members ≤ 16 → length w.published ≡ 2 → view_of old ≡ member_begun process → AreCopied old.anchors.items (view_of old) → IsSameMember old mid
    → noted_by note ≡ note_begun process w → view_of mid ≡ note_joined (noted_by note) (view_of old) → IsMemberOf table new → IsSameMember mid new → IsAwake (view_of new) → IsRooted new.root (view_of new) → HoldsReported Served (view_of mid) (view_of new) generation → generation ≡ 1 → IsWorking table opening process new
begins Served table opening process generation w note old mid new below few two begun copied first noted joined of second awake rooted told one =
    let joined_now : view_of mid ≡ note_joined (note_begun process w) (member_begun process) = joined ∙ (λ i. note_joined (noted i) (begun i)) in
    let latest : newest_number (view_of new).seen ≡ 1 = sym told.newest ∙ one in
    let none = slots_none process told.counter w (view_of mid) (view_of new) joined_now told.view two in
    record {
      ends = record {
        of = of;
        copied = subst (λ (xs : List ℕ). AreCopied xs (view_of new)) (sym (second.anchors ∙ first.anchors)) (empty_copied old.anchors.items process (view_of new) none (subst (AreCopied old.anchors.items) begun copied));
        run = runs process told.counter w (view_of mid) (view_of new) joined_now told.view two opening below few awake latest;
        learnt = rooted.learnt;
        follows = begun_follows process told.counter w (view_of mid) (view_of new) joined_now told.view two;
        others = λ other apart. empty_rests (view_of new) none other;
      };
      unkilled = empty_unkilled (view_of new) process none;
    }

pub begins_under : (Served : Published → Type 0) (process generation : ℕ) (w : WriterView) (note : notes.Note) (old mid new : MemberView) → length w.published ≡ 2 → old ≡ member_begun process → noted_by note ≡ note_begun process w → mid ≡ note_joined (noted_by note) old → HoldsReported Served mid new generation → generation ≡ 1 → IsUnder (published_at w.published 1) new
begins_under Served process generation w note old mid new two begun noted joined told one =
    under_first process told.counter w mid new (joined ∙ (λ i. note_joined (noted i) (begun i))) told.view two told.learnt (sym told.newest ∙ one)

pub begins_turns : (Served : Published → Type 0) (process generation : ℕ) (w : WriterView) (note : notes.Note) (old mid new : MemberView) → length w.published ≡ 2 → old ≡ member_begun process → noted_by note ≡ note_begun process w → mid ≡ note_joined (noted_by note) old → HoldsReported Served mid new generation → turns_done process new ≡ 0
begins_turns Served process generation w note old mid new two begun noted joined told =
    ap (λ (xs : List ProcessSlot). length (slot_in xs process).marks) (slots_none process told.counter w mid new (joined ∙ (λ i. note_joined (noted i) (begun i))) told.view two)

-- ---- before the report

pub own_note : (table : TableId) (opening : Opening) (process : ℕ) (token : tokens.Member) (note : notes.Note) → IsMemberOf table token → view_of token ≡ member_begun process → process < opening.members → IsNoteOf table process note → IsTrue (is_slot_of (OfMember token.number opening.members) note.process)
own_note table opening process token note of view below is =
    let number : token.number ≡ process = sym of.numbered ∙ ap (λ (m : MemberView). m.member.number) view in
    subst (λ (z : ℕ × ℕ). IsTrue (is_slot_of (OfMember z.0 opening.members) z.1)) (λ i. (sym number i, sym is.process i)) (and_from (not (opening.members == 0)) (process % opening.members == process) (ap not (ne_eqb opening.members 0 (λ none. absurd (omega (arith, none, below))))) (eq-eqb (process % opening.members) process (mod-eq_of_lt below)))

pub note_its : (table : TableId) (process : ℕ) (token : notes.Note) → IsNoteOf table process token → IsNoteOf table token.process token
note_its table process token is = record { process = refl; seat = is.seat }

pub joined_awake : (process : ℕ) (w : WriterView) (n : NoteView) (old mid : MemberView) → old ≡ member_begun process → mid ≡ note_joined n old → IsAwake mid
joined_awake process w n old mid begun is = subst IsAwake (sym (is ∙ ap (note_joined n) begun)) refl

pub joined_rests : (process : ℕ) (n : NoteView) (old mid : MemberView) → old ≡ member_begun process → mid ≡ note_joined n old → AreAtRest mid
joined_rests process n old mid begun is = empty_rests mid (ap (λ (m : MemberView). m.slots) (is ∙ ap (note_joined n) begun))
