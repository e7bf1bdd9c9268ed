-- A note of a table on which the empty generation alone was published, and the member that joins it.
use Rattle.std.proofs.Common.{◌≡◌, ℕ, zero, suc, ◌≤◌, Bool, true, false, cond, List, [], ◌∷◌, length, refl, sym, ap, subst, ◌∙◌, arith}
use Rattle.std.specs.Prelude.{Some, slice_get, nat_lt, IsTrue}
use Rattle.std.proofs.lemmas.Bool.{ltb-true}
use Rattle.atomic_table.specs.Seated.{TableId}
use Rattle.prgr_core.specs.declared.member.Member as machines
use Rattle.area_core.specs.declared.readers.Slots.TheVariants.{OfMember}
use Rattle.area_core.specs.declared.table.Published.{Published}
use Rattle.area_core.specs.Blocks.{RootFits}
use Rattle.area_core.specs.Readers.{is_slot_of}
use Rattle.area_core.specs.Step.{opening_published}
use Rattle.shared_words.specs.declared.opening.Opening.{Opening}
use Rattle.shared_words.specs.declared.seats.Member as tokens
use Rattle.shared_words.specs.declared.seats.Writer as writers
use Rattle.shared_words.specs.declared.seats.Note as notes
use Rattle.shared_words.specs.declared.view.NoteNumber.{NoteNumber}
use Rattle.shared_words.specs.declared.view.NoteView.{NoteView}
use Rattle.shared_words.specs.declared.view.MemberView.{MemberView}
use Rattle.shared_words.specs.declared.view.WriterView.{WriterView}
use Rattle.shared_words.specs.Views.{published_at, root_word}
use Rattle.shared_words.specs.Seats.{IsRooted, root_held, writer_of}
use Rattle.shared_words.specs.Opening.{member_begun}
use Rattle.marks.specs.Names.{IsAtRest}
use Rattle.shared_words.specs.Processes.{process_of}
use Rattle.shared_words.specs.Making.{IsHanding}
use Rattle.shared_words.specs.Notes.{MaySplitNote, note_begun, note_joined}
use Rattle.shared_words.specs.Publishing.{with_next}
use Rattle.progress_words.specs.Tokens.{view_of, written_by, IsMemberOf, IsNoteOf}
use Rattle.progress_words.specs.Reports.{IsAwake}
use Rattle.new_tables.specs.Running.{IsEmpty}
use Rattle.new_tables.proofs.Begun.{empty_rests}

-- ---- the split

no_note : (note : NoteNumber) (i : ℕ) → slice_get {X = NoteNumber} [] i ≡ Some note → ⊥
no_note note i at = (cc)

may_split : (w : WriterView) → w.notes ≡ [] → MaySplitNote w 0
may_split w none = record { below = omega arith; first = λ note among same. no_note note among.0 (subst (λ (ns : List NoteNumber). slice_get ns among.0 ≡ Some note) none among.1) }

-- a note may be made for process 0 where nothing was done yet
pub begun_note : (table : TableId) (opening : Opening) (handed : ℕ) (writer : writers.Writer) → IsHanding table opening handed writer.seat → MaySplitNote (written_by writer) 0
begun_note table opening handed writer is = may_split (written_by writer) (ap (λ (w : WriterView). w.notes) (ap writer_of is.view))

-- a note may be made for process 0 where a writer has published once
pub first_note : (table : TableId) (opening : Opening) (handed : ℕ) (old new : writers.Writer) → IsHanding table opening handed old.seat → written_by new ≡ with_next opening_published (written_by old) → MaySplitNote (written_by new) 0
first_note table opening handed old new is next = may_split (written_by new) (ap (λ (w : WriterView). w.notes) next ∙ ap (λ (w : WriterView). w.notes) (ap writer_of is.view))

-- ---- the join

-- the note is one for its own process
pub note_own : (table : TableId) (process : ℕ) (token : notes.Note) → IsNoteOf table process token → IsNoteOf table token.process token
note_own table process token is = record { process = refl; seat = is.seat }

-- process 0 is one of the first of two members
pub own_process : (table : TableId) (opening : Opening) (token : tokens.Member) (note : notes.Note) → IsMemberOf table token → view_of token ≡ member_begun 0 → opening.members ≡ 2 → IsNoteOf table 0 note → IsTrue (is_slot_of (OfMember token.number opening.members) note.process)
own_process table opening token note of view two is =
    let number : token.number ≡ 0 = sym of.numbered ∙ ap (λ (m : MemberView). m.member.number) view in
    subst (λ (z : ℕ × ℕ × ℕ). IsTrue (is_slot_of (OfMember z.0 z.1) z.2)) (λ i. (sym number i, sym two i, sym is.process i)) refl

abbrev AreOpening : List Published → Type 0
AreOpening xs = (g : ℕ) (p : Published) → slice_get xs g ≡ Some p → p ≡ opening_published

at_opening : (xs : List Published) (g : ℕ) → AreOpening xs → published_at xs g ≡ opening_published
at_opening [] g each = refl
at_opening (x ∷ xs) zero each = each 0 x refl
at_opening (x ∷ xs) (suc g) each = at_opening xs g (λ k p at. each (suc k) p at)

either_opening : (b : Bool) (mine other : List Published) → AreOpening mine → AreOpening other → AreOpening (cond b other mine)
either_opening true mine other first second = second
either_opening false mine other first second = first

either_long : (b : Bool) (mine other : List Published) → nat_lt (length mine) (length other) ≡ b → length mine ≤ length (cond b other mine)
either_long true mine other is = let less = ltb-true (length mine) (length other) is in omega arith
either_long false mine other is = omega arith

begun_opening : AreOpening (opening_published ∷ [])
begun_opening zero p at = cc
begun_opening (suc g) p at = absurd (cc)

-- the root word that a member keeps is that of the generation which it holds, as long as all generations are empty
rooted_alike : (root : ℕ) (old new : MemberView) → AreOpening old.seen → AreOpening new.seen → new.member ≡ old.member → length old.seen ≤ length new.seen → IsRooted root old → IsRooted root new
rooted_alike root old new first second same long is =
    let generation : new.member.generation ≡ old.member.generation = ap (λ (m : machines.Member). m.generation) same in
    let learnt = is.learnt in
    let before : root_held old ≡ root_word opening_published.root old.member.generation = ap (λ (p : Published). root_word p.root old.member.generation) (at_opening old.seen old.member.generation first) in
    let after : root_held new ≡ root_word opening_published.root new.member.generation = ap (λ (p : Published). root_word p.root new.member.generation) (at_opening new.seen new.member.generation second) in
    let fits : RootFits (published_at new.seen new.member.generation).root = subst (λ (p : Published). RootFits p.root) (sym (at_opening new.seen new.member.generation second)) (record { code = omega arith; bp = omega arith; term = omega arith }) in
    record { learnt = omega (arith, generation, learnt, long); fits = fits; held = is.held ∙ before ∙ ap (λ (g : ℕ). root_word opening_published.root g) (sym generation) ∙ sym after }

joined_rooted : (root k process : ℕ) (w : WriterView) → IsEmpty w → IsRooted root (member_begun k) → IsRooted root (note_joined (note_begun process w) (member_begun k))
joined_rooted root k process w empty is =
    let mine = (member_begun k).seen in
    let b = nat_lt (length mine) (length w.published) in
    rooted_alike root (member_begun k) (note_joined (note_begun process w) (member_begun k)) begun_opening
    (either_opening b mine w.published begun_opening (λ g p at. empty.published p (g, at))) refl (either_long b mine w.published refl) is

-- who joins a note still holds the generation that it held
pub learnt_rooted : (root old_root k process : ℕ) (w : WriterView) (n : NoteView) (old new : MemberView) → IsEmpty w → n ≡ note_begun process w → old ≡ member_begun k → new ≡ note_joined n old → root ≡ old_root → IsRooted old_root old → IsRooted root new
learnt_rooted root old_root k process w n old new empty noted begun joined same is =
    let at : new ≡ note_joined (note_begun process w) (member_begun k) = joined ∙ (λ i. note_joined (noted i) (begun i)) in
    subst (λ (z : ℕ × MemberView). IsRooted z.0 z.1) (λ i. (sym same i, sym at i)) (joined_rooted old_root k process w empty (subst (IsRooted old_root) begun is))

-- and is awake where it was
pub learnt_awake : (k : ℕ) (n : NoteView) (old new : MemberView) → old ≡ member_begun k → new ≡ note_joined n old → IsAwake new
learnt_awake k n old new begun joined = subst IsAwake (sym (joined ∙ ap (note_joined n) begun)) refl

-- and no turn of its is under way
pub learnt_rests : (k : ℕ) (n : NoteView) (old new : MemberView) → old ≡ member_begun k → new ≡ note_joined n old → (process : ℕ) → IsAtRest (process_of new process)
learnt_rests k n old new begun joined = empty_rests new (ap (λ (m : MemberView). m.slots) (joined ∙ ap (note_joined n) begun))
