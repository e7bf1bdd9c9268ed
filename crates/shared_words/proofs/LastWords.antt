-- The words of a table at its end: each load tells of its word what the writer knows.
use Rattle.std.proofs.Common.{◌≡◌, ℕ, ◌+◌, ⊎_elim, List, [], ◌∷◌, ◌++◌, length, length-append, refl, sym, ap, subst, ◌∙◌}
use mathlib.Core.Option.{none, some}
use lib.Seq.{set-get_or}
use Rattle.std.specs.Prelude.{Some, slice_get, slice_index}
use Rattle.atomic_table.specs.Table.{keeps, step, Allows}
use Rattle.prgr_core.proofs.Parts.{slice_get-push_at}
use Rattle.area_core.specs.declared.table.Published.{Published}
use Rattle.shared_words.specs.declared.opening.Opening.{Opening}
use Rattle.shared_words.specs.declared.view.WriterView.{WriterView}
use Rattle.shared_words.specs.declared.view.View.TheVariants.{Writer}
use Rattle.shared_words.specs.Seats.{SeatPlace, writer_of}
use Rattle.shared_words.specs.Kinds.{Sat}
use Rattle.shared_words.specs.Rule.{RunningRule}
use Rattle.shared_words.specs.Closing.{IsLastWord, word_seen}
use Rattle.shared_words.proofs.MemberJoins.{slot_brought}
use Rattle.shared_words.proofs.Frames.{after_step}
use Rattle.shared_words.proofs.CounterLoads.{same_step}
use Rattle.shared_words.proofs.WriterFrames.{writer_at}

-- each word may be loaded, and is as the writer knows it
pub see_word_is_allowed : (Served : Published → Type 0) (about : Opening) (slots id word : ℕ) (me : Sat) → Allows (RunningRule Served about) slots id me word (λ n. n) (word_seen (step slots word 0 0 none) me)
see_word_is_allowed Served about slots id word me s r wide at fits = (
  me.0,
  keeps,
  tt,
  subst (λ (ws : List ℕ). RunningRule Served about (after_step s ws id me.0)) (sym (set-get_or s.words word 0)) (same_step s r id me.0 at),
  record {
    same = refl;
    told = λ w view.
        let seat = writer_at s r id w (at ∙ ap some view) in
        subst (λ (x : WriterView). IsLastWord x word (slice_index s.words word)) seat.1 (record {
          root = λ here. ap (λ (i : ℕ). slice_index s.words i) here ∙ r.words.root;
          slots = λ process m brought.
              let known = slot_brought s r process m brought in
              record {
                turns = λ here. ap (λ (i : ℕ). slice_index s.words i) here ∙ known.turns;
                anchors = λ anchor x at here. ap (λ (i : ℕ). slice_index s.words i) here ∙ known.anchors anchor x at;
              };
          behind = λ late. r.words.mirrored word late;
        });
  },
)

-- the words that were loaded so far
pub record AreSeen (old new : SeatPlace) (words : List ℕ) (count : ℕ) : Type 0 where
  pub seat : new.table_id ≡ old.table_id
  pub view : new.me.0 ≡ old.me.0
  pub long : length words ≡ count
  pub each : (place word : ℕ) → slice_get words place ≡ Some word → IsLastWord (writer_of old.me.0) place word

-- none at first
pub none_seen : (old : SeatPlace) (words : List ℕ) → words ≡ [] → AreSeen old old words 0
none_seen old words is = record {
  seat = refl;
  view = refl;
  long = ap length is;
  each = λ place word at. absurd (let now = ap (λ (ws : List ℕ). slice_get ws place) (sym is) ∙ at in cc);
}

-- one more
pub more_seen : (old new newer : SeatPlace) (words more : List ℕ) (slots count found : ℕ) → old.me.0 ≡ Writer (writer_of old.me.0) → AreSeen old new words count → newer.table_id ≡ new.table_id → word_seen (step slots count 0 0 none) new.me found newer.me → more ≡ words ++ found ∷ [] → AreSeen old newer more (count + 1)
more_seen old new newer words more slots count found is h same told all = record {
  seat = same ∙ h.seat;
  view = ap (λ (me : Sat). me.0) told.same ∙ h.view;
  long = ap length all ∙ length-append words (found ∷ []) ∙ ap (λ (n : ℕ). n + 1) h.long;
  each = λ place word at. ⊎_elim (λ (before : slice_get words place ≡ Some word). h.each place word before)
      (λ (last : (place ≡ length words) × (word ≡ found)). subst (λ (z : ℕ × ℕ). IsLastWord (writer_of old.me.0) z.0 z.1) (λ i. (sym (last.0 ∙ h.long) i, sym last.1 i)) (told.told (writer_of old.me.0) (h.view ∙ is)))
      (slice_get-push_at words found place word (ap (λ (ws : List ℕ). slice_get ws place) (sym all) ∙ at));
}
