-- The two members of a table that play are begun with a note each, while areas are retired.
use Rattle.std.proofs.Common.{◌≡◌, ℕ, zero, suc, List, [], ◌∷◌, ◌++◌, length, sym, ap, subst, ◌∙◌, arith}
use Rattle.std.specs.Prelude.{Some, slice_get}
use Rattle.atomic_table.specs.Seated.{TableId}
use Rattle.area_core.specs.declared.table.Published.{Published}
use Rattle.shared_words.specs.declared.opening.Opening.{Opening}
use Rattle.shared_words.specs.declared.seats.Member as tokens
use Rattle.shared_words.specs.declared.seats.Writer as writers
use Rattle.shared_words.specs.declared.view.NoteNumber.{NoteNumber}
use Rattle.shared_words.specs.declared.view.WriterView.{WriterView}
use Rattle.shared_words.specs.Making.{IsMemberBegun}
use Rattle.shared_words.specs.Notes.{MaySplitNote, with_note, note_number}
use Rattle.shared_words.specs.Views.{published_at}
use Rattle.progress_words.specs.Tokens.{view_of, written_by, IsWriterOf}
use Rattle.literal_areas.specs.declared.areas.Areas.{Areas}
use Rattle.area_tests.specs.Several.{three_published, AreRetiring}
use Rattle.area_tests.specs.Three.{ArePrepared}
use Rattle.area_tests.specs.Work.{IsWorking, IsUnder, turns_done}

none_at : (k : ℕ) {x : NoteNumber} → slice_get {X = NoteNumber} [] k ≡ Some x → ⊥
none_at k e = (cc)

pub first_note : (w : WriterView) → w.notes ≡ [] → MaySplitNote w 0
first_note w none = record {
  below = omega (arith);
  first = λ note among same. none_at among.0 (ap (λ (xs : List NoteNumber). slice_get xs among.0) (sym none) ∙ among.1);
}

pub second_note : (w v : WriterView) → w.notes ≡ [] → v ≡ with_note 0 w → MaySplitNote v 1
second_note w v none is = record {
  below = omega (arith);
  first = λ note among same. apart note among.0 (ap (λ (xs : List NoteNumber). slice_get xs among.0) (sym one) ∙ among.1) same;
}
  where
    one : v.notes ≡ note_number 0 w ∷ []
    one = ap (λ (x : WriterView). x.notes) is ∙ ap (λ (xs : List NoteNumber). xs ++ note_number 0 w ∷ []) none

    apart : (note : NoteNumber) (k : ℕ) → slice_get (note_number 0 w ∷ []) k ≡ Some note → note.process ≡ 1 → ⊥
    apart note zero at same =
        let here : note_number 0 w ≡ note = cc in
        let process : 0 ≡ note.process = ap (λ (n : NoteNumber). n.process) here in
        omega (arith, process, same)
    apart note (suc k) at same = none_at k at

-- a note changes nothing else
pub retiring_noted : (s : Areas) (process : ℕ) (w v : WriterView) → v ≡ with_note process w → AreRetiring 3 s w → AreRetiring 3 s v
retiring_noted s process w v is h = subst (AreRetiring 3 s) (sym is) (record {
  owned = record {
    sound = h.owned.sound;
    all = h.owned.all;
    kept = h.owned.kept;
    reached = λ g p counts at area among reaches. h.owned.reached g p counts at area among reaches;
    taken = h.owned.taken;
    past = h.owned.past;
    since = h.owned.since;
  };
  retired = h.retired;
  live = h.live;
  others = h.others;
  published = h.published;
  kept = h.kept;
  told = h.told;
  blank = h.blank;
})

-- two generations are published
pub two_retiring : (s : Areas) (w : WriterView) → AreRetiring 3 s w → length w.published ≡ 2
two_retiring s w h = ap (λ (ps : List Published). length ps) h.published

under_first : (s : Areas) (w : WriterView) → AreRetiring 3 s w → published_at w.published 1 ≡ three_published
under_first s w h = ap (λ (ps : List Published). published_at ps 1) h.published

module _ (table : TableId) (opening : Opening) (s : Areas) (old mid new : writers.Writer) (first_old first second_old second : tokens.Member) where
  pub prepared : AreRetiring 3 s (written_by old) → IsMemberBegun table 0 first_old → IsMemberBegun table 1 second_old → written_by mid ≡ with_note 0 (written_by old) → written_by new ≡ with_note 1 (written_by mid) → IsWriterOf table opening new
      → IsWorking table opening 0 first → IsUnder (published_at (written_by old).published 1) (view_of first) → turns_done 0 (view_of first) ≡ 0 → first.number ≡ first_old.number
      → IsWorking table opening 1 second → IsUnder (published_at (written_by mid).published 1) (view_of second) → turns_done 1 (view_of second) ≡ 0 → second.number ≡ second_old.number → ArePrepared table opening s new first second
  prepared retiring first_begun second_begun one two token first_works first_under first_turns first_number second_works second_under second_turns second_number =
      let between = retiring_noted s 0 (written_by old) (written_by mid) one retiring in record {
        token = token;
        retiring = retiring_noted s 1 (written_by mid) (written_by new) two between;
        first_plays = record { works = first_works; under = first_under ∙ under_first s (written_by old) retiring; turns = first_turns };
        first_is = first_number ∙ first_begun.number_is;
        second_plays = record { works = second_works; under = second_under ∙ under_first s (written_by mid) between; turns = second_turns };
        second_is = second_number ∙ second_begun.number_is;
      }
