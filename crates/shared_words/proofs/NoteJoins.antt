-- The join of a note to a member keeps the rule: the member has learnt of what the note had, and the note's seat is spent.
use Rattle.std.proofs.Common.{◌≡◌, ℕ, zero, suc, ◌<◌, ◌⊎◌, inl, inr, ⊎_elim, Bool, true, false, cond, List, [], ◌∷◌, ◌++◌, length, refl, sym, ap, subst, ◌∙◌, arith}
use mathlib.Core.Option.{some, some-injective}
use lib.ListN.{get_elem?}
use Rattle.std.specs.Prelude.{Option, Some, None, ◌==◌, slice_get, nat_lt}
use Rattle.std.proofs.lemmas.Bool.{ltb-true}
use Rattle.atomic_table.specs.Table.{State, Joins}
use Rattle.atomic_table.proofs.Lists.{set_else}
use Rattle.prgr_core.proofs.Parts.{slice_get-push_at}
use Rattle.area_core.specs.declared.table.Published.{Published}
use Rattle.area_core.specs.Blocks.{Among}
use Rattle.shared_words.specs.declared.opening.Opening.{Opening}
use Rattle.shared_words.specs.declared.view.NoteView.{NoteView}
use Rattle.shared_words.specs.declared.view.MemberView.{MemberView}
use Rattle.shared_words.specs.declared.view.WriterView.{WriterView}
use Rattle.shared_words.specs.declared.view.View.{View}
use Rattle.shared_words.specs.declared.view.View.TheVariants.{Writer, Member, Note, Spent}
use Rattle.shared_words.specs.Shown.{progress_of}
use Rattle.shared_words.specs.Seats.{member_of, note_of}
use Rattle.shared_words.specs.Notes as noting
use Rattle.shared_words.specs.Notes.{longer, note_join}
use Rattle.shared_words.specs.declared.view.NoteNumber.{NoteNumber}
use Rattle.shared_words.specs.Views.{published_at}
use Rattle.shared_words.specs.Processes.{note_in, process_of, under_of}
use Rattle.marks.specs.declared.kept.WriterKept.{WriterKept}
use Rattle.marks.specs.declared.mark.ProcessView.{ProcessView}
use Rattle.marks.specs.Kept.{IsKnown}
use Rattle.marks.specs.Steps.{holding}
use Rattle.marks.proofs.MemberSteps.{note_joined}
use Rattle.prgr_core.specs.Members as members
use Rattle.shared_words.specs.Rule.{IsBeginning, MemberKnows, NoteKnows, RunningRule}
use Rattle.shared_words.proofs.ShownMembers.{shown_at, there, set_same}
use Rattle.shared_words.proofs.SlotFrames.{SlotsGoOn, published_begins}
use Rattle.shared_words.proofs.Frames.{after_step, same_rest, progress_set, Moves, member_step, behind_step}
use Rattle.shared_words.proofs.MemberStores.{seat_of}

-- ---- what the member knows then

-- the longer of two beginnings is one, and no shorter than the first
longer_begins : (mine other all : List Published) (b : Bool) → nat_lt (length mine) (length other) ≡ b → IsBeginning mine all → IsBeginning other all → IsBeginning (cond b other mine) all
longer_begins mine other all true is first second = second
longer_begins mine other all false is first second = first

longer_keeps : (mine other : List Published) (n : ℕ) (b : Bool) → nat_lt (length mine) (length other) ≡ b → n < length mine → n < length (cond b other mine)
longer_keeps mine other n true is below = (let more = ltb-true (length mine) (length other) is in omega (arith, more, below))
longer_keeps mine other n false is below = below

knows_joined : (w : WriterView) (k j : ℕ) (m : MemberView) (n : NoteView) → MemberKnows w k m → NoteKnows w j n → MemberKnows w k (noting.note_joined n m)
knows_joined w k j m n h note = record {
  numbered = h.numbered;
  made = h.made;
  seen = longer_begins m.seen n.seen w.published (nat_lt (length m.seen) (length n.seen)) refl h.seen note.seen;
  holds = longer_keeps m.seen n.seen m.member.generation (nat_lt (length m.seen) (length n.seen)) refl h.holds;
  noted = λ x among. ⊎_elim (λ (before : slice_get m.notes among.0 ≡ Some x). h.noted x (among.0, before))
      (λ (last : (among.0 ≡ length m.notes) × (x ≡ n.note)). subst (Among w.notes) (sym last.1) note.noted)
      (slice_get-push_at m.notes n.note among.0 x among.1);
  own_slots = h.own_slots;
  words = h.words;
}

-- ---- what is known of its processes

-- a note more is the first of its process, or another came before it
note_push : (notes : List NoteNumber) (n : NoteNumber) (process : ℕ) → (note_in (notes ++ n ∷ []) process ≡ note_in notes process) ⊎ ((note_in notes process ≡ None) × (note_in (notes ++ n ∷ []) process ≡ Some n.published))
note_push [] n process = by_test (n.process == process)
  where
    by_test : (b : Bool) → (cond b (Some n.published) None ≡ None) ⊎ ((note_in [] process ≡ None) × (cond b (Some n.published) None ≡ Some n.published))
    by_test true = inr (refl, refl)
    by_test false = inl refl
note_push (x ∷ notes) n process = by_test (x.process == process) (note_push notes n process)
  where
    by_test : (b : Bool) → (note_in (notes ++ n ∷ []) process ≡ note_in notes process) ⊎ ((note_in notes process ≡ None) × (note_in (notes ++ n ∷ []) process ≡ Some n.published))
        → (cond b (Some x.published) (note_in (notes ++ n ∷ []) process) ≡ cond b (Some x.published) (note_in notes process)) ⊎ ((cond b (Some x.published) (note_in notes process) ≡ None) × (cond b (Some x.published) (note_in (notes ++ n ∷ []) process) ≡ Some n.published))
    by_test true rest = inl refl
    by_test false rest = rest

-- what is known of a process with another note
abbrev noted_as : MemberView → ℕ → Option ℕ → ProcessView
noted_as m process note = record (process_of m process) { note = note }

known_with_note : (m : MemberView) (n : NoteNumber) (process : ℕ) (k : WriterKept) → IsKnown (under_of m) process (process_of m process) k → IsKnown (under_of m) process (noted_as m process (note_in (m.notes ++ n ∷ []) process)) k
known_with_note m n process k h =
    ⊎_elim (λ (same : note_in (m.notes ++ n ∷ []) process ≡ note_in m.notes process). subst (λ (note : Option ℕ). IsKnown (under_of m) process (noted_as m process note) k) (sym same) h)
    (λ (first : (note_in m.notes process ≡ None) × (note_in (m.notes ++ n ∷ []) process ≡ Some n.published)). subst (λ (note : Option ℕ). IsKnown (under_of m) process (noted_as m process note) k) (sym first.1)
    (note_joined (under_of m) process (process_of m process) k n.published h first.0))
    (note_push m.notes n process)

module _ (w : WriterView) (m : MemberView) (n : NoteView) (seen : IsBeginning m.seen w.published) (other : IsBeginning n.seen w.published) (holds : m.member.generation < length m.seen) where
  -- its generation is what it was
  same_published : published_at (longer m.seen n.seen) m.member.generation ≡ published_at m.seen m.member.generation
  same_published =
      let b = nat_lt (length m.seen) (length n.seen) in
      sym (published_begins (longer m.seen n.seen) w.published m.member.generation (longer_begins m.seen n.seen w.published b refl seen other) (longer_keeps m.seen n.seen m.member.generation b refl holds))
      ∙ published_begins m.seen w.published m.member.generation seen holds

  goes_on_joined : SlotsGoOn w m (noting.note_joined n m)
  goes_on_joined = record {
    slots = refl;
    known = λ process h. subst (λ (p : Published). IsKnown (holding (members.is_value m.member.word) m.member.generation p) process (noted_as m process (note_in (m.notes ++ n.note ∷ []) process)) w.looks) (sym same_published)
        (known_with_note m n.note process w.looks h);
  }

module _ {Served : Published → Type 0} {about : Opening} (s : State (Unit {0}) View) (r : RunningRule Served about s) where
  -- the member with the note
  takes_note : (k j : ℕ) (m : MemberView) (n : NoteView) → get_elem? r.seats k ≡ some (Member m) → get_elem? r.seats j ≡ some (Note n) → RunningRule Served about (after_step s s.words (suc k) (Member (noting.note_joined n m)))
  takes_note k j m n at note =
      let knows = r.each_seat k (Member m) at in
      let p = progress_of s.words r.writer r.seats in
      let shown = shown_at r.writer.members r.seats k m knows.made at in
      let m' : MemberView = noting.note_joined n m in
      member_step s r s.words k m m' at (record {
        rest = same_rest s.words;
        knows = knows_joined r.writer k j m n knows (r.each_seat j (Note n) note);
        moves = subst (Moves p) (sym (progress_set s.words r.writer r.seats k m' knows.made (there r.seats k (Member m) at))) (inr (λ i. record p { members = set_same p.members k m.member shown i }));
        own = r.machine.own_words k m.member shown;
        others = λ x other. refl;
        leader = r.machine.leader_made;
        slots = goes_on_joined r.writer m n knows.seen (r.each_seat j (Note n) note).seen knows.holds;
      })

-- the note's seat is spent
spends : {Served : Published → Type 0} {about : Opening} (s : State (Unit {0}) View) (r : RunningRule Served about s) (j : ℕ) (n : NoteView) → get_elem? s.views (suc j) ≡ some (Note n) → RunningRule Served about (after_step s s.words (suc j) Spent)
spends s r j n at = behind_step s r j Spent (r.each_seat j (Note n) (ap (λ (vs : List View). get_elem? vs (suc j)) (sym r.views) ∙ at)).behind tt

joins : (Served : Published → Type 0) (about : Opening) (id other : ℕ) (m : MemberView) (n : NoteView) → Joins (RunningRule Served about) id (Member m) other (Note n) (Member (noting.note_joined n m)) Spent
joins Served about id zero m n s r at apart there =
    let here : get_elem? s.views 0 ≡ some (Note n) = sym (set_else s.views id 0 (Member (noting.note_joined n m)) apart) ∙ there in
    absurd (let is : Writer r.writer ≡ Note n = some-injective (Writer r.writer) (Note n) (ap (λ (vs : List View). get_elem? vs 0) (sym r.views) ∙ here) in cc)
joins Served about id (suc j) m n s r at apart there =
    let seat = seat_of s r id m at in
    let here : get_elem? s.views (suc j) ≡ some (Note n) = sym (set_else s.views id (suc j) (Member (noting.note_joined n m)) apart) ∙ there in
    let note : get_elem? r.seats j ≡ some (Note n) = ap (λ (vs : List View). get_elem? vs (suc j)) (sym r.views) ∙ here in
    let taken = subst (λ (i : ℕ). RunningRule Served about (after_step s s.words i (Member (noting.note_joined n m)))) (sym seat.1) (takes_note s r seat.0 j m n seat.2 note) in
    spends (after_step s s.words id (Member (noting.note_joined n m))) taken j n there

-- a note may be joined to a member
pub join_note_is_allowed : (Served : Published → Type 0) (about : Opening) (id other : ℕ) (v u : View) → v ≡ Member (member_of v) → u ≡ Note (note_of u) → Joins (RunningRule Served about) id v other u (note_join v u) Spent
join_note_is_allowed Served about id other v u is note =
    subst (λ (z : View × View). Joins (RunningRule Served about) id z.0 other z.1 (note_join z.0 z.1) Spent) (λ i. (sym is i, sym note i)) (joins Served about id other (member_of v) (note_of u))
