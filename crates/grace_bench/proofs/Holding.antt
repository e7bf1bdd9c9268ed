-- How a member comes to know of the instance, and what naming it and dropping it leaves.
use Rattle.std.proofs.Common.{◌≡◌, ℕ, zero, suc, ◌*◌, ◌%◌, true, List, [], ◌∷◌, ◌++◌, length, length-append, replicate, refl, sym, ap, subst, ◌∙◌, arith}
use Rattle.std.specs.Prelude.{◌==◌, not, Some, slice_get, IsTrue}
use Rattle.std.proofs.lemmas.Bool.{and_parts, eqb-true}
use Rattle.atomic_table.specs.Seated.{TableId}
use Rattle.term_core.specs.declared.hold.Kind.TheVariants.{Frame}
use Rattle.prgr_core.proofs.Parts.{some_same}
use Rattle.area_core.specs.declared.map.TheConstants.{ANCHORS}
use Rattle.area_core.specs.declared.readers.Slots.TheVariants.{OfMember}
use Rattle.area_core.specs.declared.table.Published.{Published}
use Rattle.area_core.specs.Generations.{is_current}
use Rattle.area_core.specs.Readers.{is_slot_of}
use Rattle.area_core.specs.Step.{opening_published}
use Rattle.area_core.proofs.Counted.{opened}
use Rattle.marks.specs.Names.{tells_kill}
use Rattle.marks.specs.Steps.{HasNote}
use Rattle.shared_words.specs.declared.opening.Opening.{Opening}
use Rattle.shared_words.specs.declared.seats.Member as members
use Rattle.shared_words.specs.declared.seats.Writer as writers
use Rattle.shared_words.specs.declared.view.MemberView.{MemberView}
use Rattle.shared_words.specs.declared.view.NoteNumber.{NoteNumber}
use Rattle.shared_words.specs.declared.view.NoteView.{NoteView}
use Rattle.shared_words.specs.declared.view.ProcessSlot.{ProcessSlot}
use Rattle.shared_words.specs.declared.view.WriterView.{WriterView}
use Rattle.shared_words.specs.Making.{IsHanding, IsMemberBegun, AreMembersBegun}
use Rattle.shared_words.specs.Notes.{MaySplitNote, note_begun, note_joined, longer}
use Rattle.shared_words.specs.Opening.{member_begun}
use Rattle.shared_words.specs.Processes.{AreAtRest, AreCopied, note_in, slot_in, under_of}
use Rattle.shared_words.specs.Publishing.{with_next}
use Rattle.shared_words.specs.Seats.{member_of, writer_of}
use Rattle.shared_words.specs.Views.{published_at, newest_number}
use Rattle.shared_words.proofs.OpeningRule.{last_get}
use Rattle.progress_words.specs.Tokens.{view_of, written_by, IsMemberOf, IsSameMember}
use Rattle.progress_words.specs.Reports.{IsAwake, HoldsReported}
use Rattle.new_tables.proofs.Begun.{empty_rests}
use Rattle.new_tables.proofs.Emptied.{no_element}
use Rattle.anchors.specs.Holds.{anchors_of, IsUnkilled, HasHeld}
use Rattle.anchors.specs.Drops.{AnchorsStored, HasDropped}
use Rattle.anchors.proofs.Stored.{hold_stored, run_still}
use Rattle.grace_bench.specs.Used.{used_published}
use Rattle.grace_bench.specs.Holding.{TellsOfUse, MayUse, IsUser}

-- ---- the note

-- a note that is made once the instance is published tells of it
pub tells_now : (table : TableId) (opening : Opening) (handed : ℕ) (begun : writers.Writer) (w : WriterView) (n : NoteView) → IsHanding table opening handed begun.seat → w ≡ with_next used_published (written_by begun) → n ≡ note_begun 0 w → TellsOfUse n
tells_now table opening handed begun w n is next noted =
    let published : w.published ≡ opening_published ∷ used_published ∷ [] = ap (λ (v : WriterView). v.published) (next ∙ ap (with_next used_published) (ap writer_of is.view)) in
    record {
      note = ap (λ (v : NoteView). v.note) noted ∙ ap (λ (ps : List Published). record { process = 0; published = newest_number ps }) published;
      seen = ap (λ (v : NoteView). v.seen) noted ∙ published;
    }

-- it may be made for process 0
pub may_tell : (table : TableId) (opening : Opening) (handed : ℕ) (begun : writers.Writer) (w : WriterView) → IsHanding table opening handed begun.seat → w ≡ with_next used_published (written_by begun) → MaySplitNote w 0
may_tell table opening handed begun w is next =
    let none : w.notes ≡ [] = ap (λ (v : WriterView). v.notes) (next ∙ ap (with_next used_published) (ap writer_of is.view)) in
    record { below = omega (arith); first = λ note among same. no_element among.0 (subst (λ (ns : List NoteNumber). slice_get ns among.0 ≡ Some note) none among.1) }

-- ---- the member

-- the only member is the first one
pub only_begun : (table : TableId) (all rest : List members.Member) (last : members.Member) → all ≡ rest ++ last ∷ [] → AreMembersBegun table 1 all → IsMemberBegun table 0 last
only_begun table all rest last taken begun =
    let long : length all ≡ length (rest ++ last ∷ []) = ap length taken in
    let counted : length all ≡ 1 = begun.all in
    let none : length rest ≡ 0 = omega (arith, long, counted, length-append rest (last ∷ [])) in
    subst (λ (n : ℕ). IsMemberBegun table n last) none (begun.each (length rest) last (ap (λ (xs : List members.Member). slice_get xs (length rest)) taken ∙ last_get rest last))

-- the process of the note is its own
pub own_process : (number count process : ℕ) → number ≡ 0 → count ≡ 1 → process ≡ 0 → IsTrue (is_slot_of (OfMember number count) process)
own_process number count process first one is = subst (λ (z : ℕ × ℕ × ℕ). IsTrue (is_slot_of (OfMember z.0 z.1) z.2)) (λ i. (sym first i, sym one i, sym is i)) refl

zeros : (count place word : ℕ) → slice_get (replicate count 0) place ≡ Some word → word ≡ 0
zeros zero place word at = absurd (cc)
zeros (suc n) zero word at = sym (some_same 0 word at)
zeros (suc n) (suc place) word at = zeros n place word at

no_kill : (serial : ℕ) → tells_kill 0 serial ≡ true → ⊥
no_kill zero e = (cc)
no_kill (suc n) e = let same : 0 ≡ suc n * 4 = eqb-true 0 (suc n * 4) (and_parts (0 == suc n * 4) (not (suc n == 0)) e).0 in absurd (omega (arith, same))

-- no anchor tells of a kill as long as nothing was stored
begun_unkilled : (m : MemberView) → m.slots ≡ [] → IsUnkilled (anchors_of m 0)
begun_unkilled m none place word serial at tells =
    let words : anchors_of m 0 ≡ replicate ANCHORS 0 = ap (λ (s : List ProcessSlot). (slot_in s 0).slot.anchors) none ∙ sym (opened ANCHORS) in
    let is : word ≡ 0 = zeros ANCHORS place word (ap (λ (xs : List ℕ). slice_get xs place) (sym words) ∙ at) in
    no_kill serial (subst (λ (n : ℕ). tells_kill n serial ≡ true) is tells)

-- what it knows once it has joined the note, and reported generation 1
module _ (Served : Published → Type 0) (opening : Opening) (n : NoteView) (old joined new : MemberView) (begun : old ≡ member_begun 0) (tells : TellsOfUse n) (is : joined ≡ note_joined n old) (told : HoldsReported Served joined new 1) where
  learnt : joined.seen ≡ opening_published ∷ used_published ∷ []
  learnt = ap (λ (m : MemberView). m.seen) is ∙ (λ i. longer (begun i).seen (tells.seen i))

  seen : new.seen ≡ opening_published ∷ used_published ∷ told.learnt.0
  seen = told.learnt.1 ∙ ap (λ (xs : List Published). xs ++ told.learnt.0) learnt

  generation : new.member.generation ≡ 1
  generation = ap (λ (m : MemberView). m.member.generation) told.view ∙ sym told.newest

  number : new.member.number ≡ 0
  number = ap (λ (m : MemberView). m.member.number) told.view ∙ ap (λ (m : MemberView). m.member.number) is ∙ ap (λ (m : MemberView). m.member.number) begun

  noted : new.notes ≡ record { process = 0; published = 1 } ∷ []
  noted = ap (λ (m : MemberView). m.notes) told.view ∙ ap (λ (m : MemberView). m.notes) is ∙ (λ i. (begun i).notes ++ tells.note i ∷ [])

  pub learnt_slots : new.slots ≡ []
  learnt_slots = ap (λ (m : MemberView). m.slots) told.view ∙ ap (λ (m : MemberView). m.slots) is ∙ ap (λ (m : MemberView). m.slots) begun

  pub may_use : opening.members ≡ 1 → IsAwake new → MayUse opening new
  may_use one awake = record {
    run = record {
      awake = awake;
      below = omega (arith);
      own = ap (λ (k : ℕ). 0 % k) one ∙ sym number;
      noted = subst (λ (ns : List NoteNumber). HasNote (note_in ns 0) (under_of new)) (sym noted) (let g = generation in omega (arith, g));
    };
    current = subst (λ (z : List Published × ℕ). is_current (published_at z.0 z.1) 1 ≡ true) (λ i. (sym seen i, sym generation i)) refl;
    unkilled = begun_unkilled new learnt_slots;
  }

-- the copy of the anchors is that of a member without slots
copied_still : (xs ys : List ℕ) (old new : MemberView) → ys ≡ xs → old.slots ≡ [] → new.slots ≡ [] → AreCopied xs old → AreCopied ys new
copied_still xs ys old new same before after copied =
    subst (λ (z : List ℕ × List ProcessSlot). AreCopied z.0 (record new { slots = z.1 })) (λ i. (sym same i, (before ∙ sym after) i)) (record { all = copied.all; wide = copied.wide; each = copied.each })

-- so its token is one of a member that may name the instance
pub user_learnt : (Served : Published → Type 0) (table : TableId) (opening : Opening) (n : NoteView) (old joined new : members.Member) (told : ℕ) → IsMemberBegun table 0 old → TellsOfUse n → view_of joined ≡ note_joined n (view_of old) → opening.members ≡ 1
    → IsSameMember old joined → IsSameMember joined new → IsMemberOf table new → IsAwake (view_of new) → HoldsReported Served (view_of joined) (view_of new) told → told ≡ 1 → IsUser table opening new
user_learnt Served table opening n old joined new told begun tells is one first second of awake reported newest_number =
    let view : view_of old ≡ member_begun 0 = ap member_of begun.view in
    let newest_told : HoldsReported Served (view_of joined) (view_of new) 1 = subst (λ (g : ℕ). HoldsReported Served (view_of joined) (view_of new) g) newest_number reported in
    let none = learnt_slots Served opening n (view_of old) (view_of joined) (view_of new) view tells is newest_told in record {
      of = of;
      copied = copied_still old.anchors.items new.anchors.items (member_begun 0) (view_of new) (second.anchors ∙ first.anchors) refl none begun.copied;
      may = may_use Served opening n (view_of old) (view_of joined) (view_of new) view tells is newest_told one awake;
    }

-- ---- a member that has joined the note

joined_begun : (n : NoteView) (old joined : MemberView) → old ≡ member_begun 0 → joined ≡ note_joined n old → joined ≡ note_joined n (member_begun 0)
joined_begun n old joined begun is = is ∙ ap (note_joined n) begun

pub joined_awake : (n : NoteView) (old joined : MemberView) → old ≡ member_begun 0 → joined ≡ note_joined n old → IsAwake joined
joined_awake n old joined begun is = subst IsAwake (sym (joined_begun n old joined begun is)) refl

pub joined_rests : (n : NoteView) (old joined : MemberView) → old ≡ member_begun 0 → joined ≡ note_joined n old → AreAtRest joined
joined_rests n old joined begun is = empty_rests joined (ap (λ (m : MemberView). m.slots) (joined_begun n old joined begun is))

-- ---- names and drops

current_still : (process : ℕ) (old new : MemberView) → AnchorsStored process old new → is_current (published_at old.seen old.member.generation) 1 ≡ true → is_current (published_at new.seen new.member.generation) 1 ≡ true
current_still process old new stored current = subst (λ (m : MemberView). is_current (published_at m.seen m.member.generation) 1 ≡ true) (sym stored.same) current

pub use_held : (opening : Opening) (old new : MemberView) → MayUse opening old → HasHeld 0 Frame 1 old new → MayUse opening new
use_held opening old new may held =
    let stored = hold_stored 0 old new held.stored in
    record { run = run_still opening 0 0 old new stored may.run; current = current_still 0 old new stored may.current; unkilled = held.unkilled }

pub use_dropped : (opening : Opening) (old new : MemberView) → MayUse opening old → HasDropped 0 Frame 1 old new → MayUse opening new
use_dropped opening old new may dropped = record {
  run = run_still opening 0 0 old new dropped.stored may.run;
  current = current_still 0 old new dropped.stored may.current;
  unkilled = λ place word serial at tells.
      let before = (dropped.kills serial).0 (record { place = place; word = word; at = at; passes = tells }) in
      may.unkilled before.place before.word serial before.at before.passes;
}
