-- The generation of seventeen instances may be published once the doom word of the sixteenth is stored.
use Rattle.std.proofs.Common.{◌≡◌, ℕ, suc, ◌+◌, ◌-◌, ◌<◌, ◌≤◌, Bool, true, false, ◌||◌, List, [], ◌∷◌, ◌++◌, length, refl, sym, ap, subst, ◌∙◌, arith}
use mathlib.Core.Logic.{dite}
use native.Mathlib.Decide.{ℕ_discrete}
use Rattle.std.specs.Prelude.{slice_get}
use Rattle.std.proofs.lemmas.Bool.{ne_eqb}
use Rattle.atomic_table.specs.Seated.{TableId}
use Rattle.area_core.specs.declared.table.Published.{Published}
use Rattle.area_core.specs.declared.table.KeptArea.{KeptArea}
use Rattle.area_core.specs.Generations.{has_serial, is_current, tells}
use Rattle.area_core.specs.Map.{word_at, doom_place}
use Rattle.area_core.proofs.Places.{kind_doom, word_here, word_there}
use Rattle.shared_words.specs.declared.opening.Opening.{Opening}
use Rattle.shared_words.specs.declared.seats.Member as tokens
use Rattle.shared_words.specs.declared.seats.Writer as writers
use Rattle.shared_words.specs.declared.view.NoteNumber.{NoteNumber}
use Rattle.shared_words.specs.declared.view.WriterView.{WriterView}
use Rattle.shared_words.specs.declared.view.View.TheVariants.{Writer}
use Rattle.shared_words.specs.Seats.{writer_of}
use Rattle.shared_words.specs.Making.{IsHanding}
use Rattle.shared_words.specs.Notes.{MaySplitNote}
use Rattle.shared_words.specs.Views.{published_at}
use Rattle.shared_words.specs.Publishing.{MayPublish, MayStoreWord, FitsWord, IsRootOf, with_next, with_word}
use Rattle.progress_words.specs.Tokens.{view_of, written_by, IsWriterOf}
use Rattle.new_tables.proofs.Blank.{handing_blank}
use Rattle.new_tables.proofs.Emptied.{handing_first, no_element}
use Rattle.area_tests.specs.Many.{many_serials, many_published, IsPrepared}
use Rattle.area_tests.specs.Work.{IsPlaying, IsUnder, IsWorking, turns_done}
use Rattle.area_tests.proofs.Instances.{serial_there, may_publish_current}

-- ---- what is published

module _ (w : WriterView) (h : IsPrepared w) where
  not_doomed : (i : ℕ) → (i ≡ 15 → ⊥) → word_at w.words (doom_place (9 + i)) ≡ 0
  not_doomed i differ = h.others (doom_place (9 + i)) (λ same. differ (let there : 1429 + (9 + i) ≡ 1453 = same in omega (arith, there)))

  -- the doom words tell that the sixteenth is doomed
  doomed_now : (i : ℕ) → i < 17 → tells (word_at w.words (doom_place (9 + i))) 1 ≡ has_serial (16 ∷ []) (suc i)
  doomed_now i low =
      dite (ℕ_discrete i 15)
      (λ (same : i ≡ 15). subst (λ (j : ℕ). tells (word_at w.words (doom_place (9 + j))) 1 ≡ has_serial (16 ∷ []) (suc j)) (sym same) (ap (λ (n : ℕ). tells n 1) h.doom))
      (λ (differ : i ≡ 15 → ⊥). ap (λ (n : ℕ). tells n 1) (not_doomed i differ) ∙ sym (ap (λ (b : Bool). b || false) (ne_eqb 16 (suc i) (λ same. differ (omega (arith, same))))))

  doomed_before : (i : ℕ) → i < 17 → tells (word_at w.words (doom_place (9 + i))) 0 ≡ false
  doomed_before i low =
      dite (ℕ_discrete i 15)
      (λ (same : i ≡ 15). subst (λ (j : ℕ). tells (word_at w.words (doom_place (9 + j))) 0 ≡ false) (sym same) (ap (λ (n : ℕ). tells n 0) h.doom))
      (λ (differ : i ≡ 15 → ⊥). ap (λ (n : ℕ). tells n 0) (not_doomed i differ))

  pub may_publish_many : (Served : Published → Type 0) → Served many_published → MayPublish Served w many_published
  may_publish_many = may_publish_current 17 (omega (arith)) (16 ∷ []) refl refl w h.published h.kept h.others doomed_now doomed_before

pub many_root : IsRootOf many_published.root 0 0 0
many_root = record { code_is = refl; bp_is = refl; term_is = refl }

-- ---- before it is published

-- the doom word may be stored where no area is kept
pub may_doom : (w : WriterView) → w.kept ≡ [] → MayStoreWord w 1453 1
may_doom w none = subst (FitsWord w 1) (sym (kind_doom 24 (omega (arith)))) (λ g p counts here k among. absurd (no_element among.0 (ap (λ (xs : List KeptArea). slice_get xs among.0) (sym none) ∙ among.1)))

pub prepared : (table : TableId) (opening : Opening) (handed : ℕ) (old new : writers.Writer) → IsHanding table opening handed old.seat → new.seat.me.0 ≡ Writer (with_word 1453 1 (written_by old)) → IsPrepared (written_by new)
prepared table opening handed old new is view =
    let blank = handing_blank table opening handed old is in
    subst IsPrepared (sym (ap writer_of view)) (record {
      published = blank.published;
      kept = blank.kept;
      doom = word_here (written_by old).words 1453 1 (let long = blank.all in omega (arith, long));
      others = λ place differ. word_there (written_by old).words 1453 1 place differ ∙ blank.words place;
    })

-- ---- after it

pub two_published : (w v : WriterView) → IsPrepared w → v ≡ with_next many_published w → length v.published ≡ 2
two_published w v h is = ap (λ (x : WriterView). length x.published) is ∙ ap (λ (xs : List Published). length (xs ++ many_published ∷ [])) h.published

second_many : (w v : WriterView) → IsPrepared w → v ≡ with_next many_published w → published_at v.published 1 ≡ many_published
second_many w v h is = ap (λ (x : WriterView). published_at x.published 1) is ∙ ap (λ (xs : List Published). published_at (xs ++ many_published ∷ []) 1) h.published

-- who begins is under it
pub plays_many : (table : TableId) (opening : Opening) (w v : WriterView) (token : tokens.Member) → IsPrepared w → v ≡ with_next many_published w → IsWorking table opening 0 token → IsUnder (published_at v.published 1) (view_of token) → turns_done 0 (view_of token) ≡ 0 → IsPlaying table opening 0 many_published token
plays_many table opening w v token h is works under turns = record { works = works; under = under ∙ second_many w v h is; turns = turns }

-- each instance is current, and the sixteenth is doomed
pub current_many : (p : Published) (serial : ℕ) → p ≡ many_published → 1 ≤ serial → serial ≤ 17 → is_current p serial ≡ true
current_many p serial is first last =
    let next : suc (serial - 1) ≡ serial = omega (arith, first) in
    ap (λ (x : Published). is_current x serial) is ∙ ap (has_serial (many_serials 17)) (sym next) ∙ serial_there 17 (serial - 1) (omega (arith, first, last))

-- no note was made yet
pub may_note : (table : TableId) (opening : Opening) (handed : ℕ) (old mid new : writers.Writer) → IsHanding table opening handed old.seat → mid.seat.me.0 ≡ Writer (with_word 1453 1 (written_by old)) → written_by new ≡ with_next many_published (written_by mid) → MaySplitNote (written_by new) 0
may_note table opening handed old mid new is view next = record {
  below = omega (arith);
  first = λ note among same. absurd (no_element among.0 (ap (λ (xs : List NoteNumber). slice_get xs among.0) (sym none) ∙ among.1));
}
  where
    none : (written_by new).notes ≡ []
    none = ap (λ (w : WriterView). w.notes) next ∙ ap (λ (w : WriterView). w.notes) (ap writer_of view) ∙ ap (λ (w : WriterView). w.notes) (ap writer_of is.view)

-- ---- as the table begins

pub may_doom_begun : (table : TableId) (opening : Opening) (handed : ℕ) (writer : writers.Writer) → IsHanding table opening handed writer.seat → MayStoreWord (written_by writer) 1453 1
may_doom_begun table opening handed writer is = may_doom (written_by writer) (handing_blank table opening handed writer is).kept

-- its newest generation is 0, and still is
pub begun_zero : (table : TableId) (opening : Opening) (handed : ℕ) (old new : writers.Writer) → IsHanding table opening handed old.seat → IsWriterOf table opening old → new.generation ≡ old.generation → new.generation ≡ 0
begun_zero table opening handed old new is token same = same ∙ handing_first table opening handed old is token
