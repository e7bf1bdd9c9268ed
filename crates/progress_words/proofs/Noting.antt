-- Who has joined a note has learnt of at least as many generations as the note.
use Rattle.std.proofs.Common.{◌≡◌, ◌≤◌, Bool, true, false, cond, List, length, refl, sym, subst, arith}
use Rattle.std.specs.Prelude.{nat_lt}
use Rattle.std.proofs.lemmas.Bool.{ltb-false}
use Rattle.area_core.specs.declared.table.Published.{Published}
use Rattle.shared_words.specs.declared.view.NoteView.{NoteView}
use Rattle.shared_words.specs.declared.view.MemberView.{MemberView}
use Rattle.shared_words.specs.Notes.{note_joined}

by_length : (b : Bool) (mine other : List Published) → nat_lt (length mine) (length other) ≡ b → length other ≤ length (cond b other mine)
by_length true mine other is = omega arith
by_length false mine other is = let most = ltb-false (length mine) (length other) is in omega arith

pub learnt_as_much : (n : NoteView) (old new : MemberView) → new ≡ note_joined n old → length n.seen ≤ length new.seen
learnt_as_much n old new is = subst (λ (m : MemberView). length n.seen ≤ length m.seen) (sym is) (by_length (nat_lt (length old.seen) (length n.seen)) old.seen n.seen refl)
