-- Once a value that was taken at a generation is reached, no thread reads an earlier one.
use Rattle.std.proofs.Common.{◌≡◌, ℕ, ◌+◌, ◌≤◌, List, [], ◌∷◌, ◌++◌, length, refl, sym, ap, subst, ◌∙◌, arith}
use Rattle.std.specs.Prelude.{Some, slice_get}
use Rattle.prgr_core.specs.declared.member.Retirement.{Retirement}
use Rattle.prgr_core.specs.Invariant.{CounterInRange}
use Rattle.prgr_core.specs.Machine.{machine_of}
use Rattle.prgr_core.proofs.GraceHolds.{grace_holds}
use Rattle.area_core.specs.declared.table.Published.{Published}
use Rattle.shared_words.specs.declared.opening.Opening.{Opening}
use Rattle.shared_words.specs.declared.view.WriterView.{WriterView}
use Rattle.shared_words.specs.declared.view.View.{View}
use Rattle.shared_words.specs.declared.view.View.TheVariants.{Writer}
use Rattle.atomic_table.specs.Seated.{TableId}
use Rattle.shared_words.specs.declared.seats.Writer as writers
use Rattle.shared_words.specs.Seats.{IsSameSeat, IsWriterSeat, writer_of}
use Rattle.shared_words.specs.Views.{newest_number}
use Rattle.shared_words.specs.Shown.{progress_of}
use Rattle.shared_words.specs.Kinds.{IsRising, counter_kept, counter_found}
use Rattle.shared_words.proofs.ShownMembers.{still_at}
use Rattle.shared_words.proofs.WriterSeats.{writer_seat_next}
use Rattle.progress_words.specs.Tokens.{IsWriterOf}
use Rattle.progress_words.specs.Needs.{HasTaken, HasLoadedCounter, HasPassed}

-- grace beneath running threads
pub has_passed : (Served : Published → Type 0) (opening : Opening) (w : WriterView) (generation need : ℕ) → HasTaken w generation need → need ≤ w.counter → HasPassed Served opening w generation
has_passed Served opening w generation need taken enough s r is g readable =
    let kept : HasTaken r.writer generation need = subst (λ (x : WriterView). HasTaken x generation need) (sym is) taken in
    let known : need ≤ r.writer.counter = subst (λ (x : WriterView). need ≤ x.counter) (sym is) enough in
    let reached = r.words.reached in
    grace_holds (machine_of (progress_of s.words r.writer r.seats)) r.machine.progress.invariant generation need kept (omega arith) g readable

-- what was put at the end of a list is there
got_last : {A : Type 0} (xs : List A) (x : A) → slice_get (xs ++ x ∷ []) (length xs) ≡ Some x
got_last [] x = refl
got_last (y ∷ ys) x = got_last ys x

-- what the writer knows once it has loaded the counter
pub view_now : (counter : ℕ) (old new : View) → old ≡ Writer (writer_of old) → new ≡ counter_found counter old → writer_of new ≡ counter_kept counter (writer_of old)
view_now counter old new is found = ap writer_of (found ∙ ap (counter_found counter) is)

-- that is a load of the counter
pub loaded_now : (counter : ℕ) (old new : View) → old ≡ Writer (writer_of old) → CounterInRange counter → IsRising old counter → new ≡ counter_found counter old → HasLoadedCounter (writer_of old) (writer_of new)
loaded_now counter old new is range rising found = record { counter = counter; range = range; rising = rising (writer_of old) is; view = view_now counter old new is found }

-- the writer's token after a load of the counter
pub writer_counts : (table : TableId) (opening : Opening) (old new : writers.Writer) (counter : ℕ) → IsWriterOf table opening old → IsSameSeat old.seat new.seat → new.generation ≡ old.generation → new.seat.me.0 ≡ counter_found counter old.seat.me.0 → IsWriterOf table opening new
writer_counts table opening old new counter h same generation found =
    subst (λ (n : ℕ). IsWriterSeat table opening n new.seat) (sym generation)
    (writer_seat_next table opening old.generation old.generation old.seat new.seat (counter_kept counter (writer_of old.seat.me.0)) h same (found ∙ ap (counter_found counter) h.view) h.published refl (omega arith))

-- the value that a load of the counter takes
pub taken_now : (old new : WriterView) (need : ℕ) → HasLoadedCounter old new → need ≡ new.counter + 2 → HasTaken new (newest_number old.published) need
taken_now old new need loaded is =
    let last : Retirement = record { generation = newest_number old.published; need = loaded.counter + 2 } in
    let same : need ≡ loaded.counter + 2 = is ∙ ap (λ (w : WriterView). w.counter + 2) loaded.view in
    subst (λ (z : WriterView × ℕ). HasTaken z.0 (newest_number old.published) z.1) (λ i. (sym loaded.view i, sym same i)) (length old.pairs, got_last old.pairs last)

-- where the value that was taken is reached, its generation has passed
pub passed_now : (Served : Published → Type 0) (opening : Opening) (counter : ℕ) (old new : WriterView) (need : ℕ) → new ≡ counter_kept counter old → need ≤ counter → (generation : ℕ) → HasTaken old generation need → HasPassed Served opening new generation
passed_now Served opening counter old new need is enough generation taken =
    let kept : HasTaken (counter_kept counter old) generation need = (taken.0, still_at old.pairs _ taken.0 _ taken.1) in
    has_passed Served opening new generation need (subst (λ (w : WriterView). HasTaken w generation need) (sym is) kept) (subst (λ (w : WriterView). need ≤ w.counter) (sym is) enough)
