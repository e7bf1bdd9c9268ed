-- The writer's token after each of its steps, and as the table is made.
use Rattle.std.proofs.Common.{◌≡◌, ℕ, ◌+◌, ◌≤◌, length, sym, ap, subst, ◌∙◌, arith}
use Rattle.atomic_table.specs.Seated.{TableId}
use Rattle.shared_words.specs.declared.opening.Opening.{Opening}
use Rattle.shared_words.specs.declared.view.WriterView.{WriterView}
use Rattle.shared_words.specs.declared.view.View.{View}
use Rattle.shared_words.specs.declared.view.View.TheVariants.{Writer}
use Rattle.shared_words.specs.Making.{IsHanding}
use Rattle.shared_words.specs.Publishing.{word_found}
use Rattle.shared_words.proofs.OpeningRule.{begun_length}
use Rattle.shared_words.specs.Seats.{SeatPlace, IsSameSeat, IsWriterSeat, writer_of}

-- after a step
pub writer_seat_next : (table : TableId) (opening : Opening) (n m : ℕ) (old new : SeatPlace) (w : WriterView) → IsWriterSeat table opening n old → IsSameSeat old new → new.me.0 ≡ Writer w → length w.published ≡ m + 1 → length w.members ≡ length (writer_of old.me.0).members → (writer_of old.me.0).handed ≤ w.handed → IsWriterSeat table opening m new
writer_seat_next table opening n m old new w h same view number members handed =
    let here : writer_of new.me.0 ≡ w = ap writer_of view in record {
      of_table = record { same_table = same.same_table ∙ h.of_table.same_table; no_slots = same.same_slots ∙ h.of_table.no_slots };
      view = view ∙ ap Writer (sym here);
      published = ap (λ (x : WriterView). length x.published) here ∙ number;
      made = ap (λ (x : WriterView). length x.members) here ∙ members ∙ h.made;
      out = subst (λ (x : WriterView). opening.members + opening.watchers ≤ x.handed) (sym here) (omega (arith, h.out, handed));
    }

-- once all seats of members and watchers are handed out
pub writer_seat_begins : (table : TableId) (opening : Opening) (watchers : ℕ) (seat : SeatPlace) → opening.watchers ≡ watchers → IsHanding table opening (opening.members + watchers) seat → IsWriterSeat table opening 0 seat
writer_seat_begins table opening watchers seat watched h =
    let here = ap writer_of h.view in record {
      of_table = h.of_table;
      view = h.view ∙ ap Writer (sym here);
      published = ap (λ (x : WriterView). length x.published) here;
      made = ap (λ (x : WriterView). length x.members) here ∙ begun_length opening.members;
      out = subst (λ (x : WriterView). opening.members + opening.watchers ≤ x.handed) (sym here) (omega (arith, watched));
    }

-- the same, by the number of members that the call was given
pub handing_all : (table : TableId) (opening : Opening) (members watchers : ℕ) (seat : SeatPlace) → opening.members ≡ members → IsHanding table opening (opening.members + watchers) seat → IsHanding table opening (members + watchers) seat
handing_all table opening members watchers seat same h = subst (λ (n : ℕ). IsHanding table opening (n + watchers) seat) same h

-- after a load of a word, which leaves what the writer knows
pub writer_loads_word : (word found : ℕ) (old new : View) → old ≡ Writer (writer_of old) → new ≡ word_found word found old → new ≡ old
writer_loads_word word found old new is loaded = loaded ∙ ap (word_found word found) is ∙ sym is
