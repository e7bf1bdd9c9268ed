-- What a writer and its pools are while the words of an area are written.
use Rattle.std.proofs.Common.{◌≡◌, ℕ, ◌+◌, ◌<◌, ◌≤◌, List, length, get_or, refl, sym, ap, subst, ◌∙◌, arith}
use Rattle.std.specs.Prelude.{Some, slice_get}
use Rattle.std.proofs.lemmas.Option.{slice_get-get_or}
use Rattle.atomic_table.specs.Seated.{TableId}
use Rattle.term_core.specs.declared.area.AreaRef.{AreaRef}
use Rattle.area_core.specs.Map.{block_place, room_of}
use Rattle.shared_words.specs.declared.opening.Opening.{Opening}
use Rattle.shared_words.specs.declared.seats.Writer as writers
use Rattle.shared_words.specs.declared.view.View.TheVariants.{Writer}
use Rattle.shared_words.specs.Seats.{IsSameSeat, writer_of}
use Rattle.shared_words.specs.Publishing.{MayStoreWord, with_word}
use Rattle.progress_words.specs.Tokens.{written_by, IsWriterOf, IsSameWriter}
use Rattle.literal_areas.specs.declared.areas.Areas.{Areas}
use Rattle.literal_areas.specs.Blocks.{IsLive}
use Rattle.literal_areas.specs.Owned.{AreOf, IsUnpublished}
use Rattle.literal_areas.specs.Written.{HasWritten, KeepsOtherBlocks}
use Rattle.literal_areas.proofs.Stores.{AreWriting, none_written, one_written, may_write, within, others_kept}

-- so many words are written
pub record WritesOn (table : TableId) (opening : Opening) (s : Areas) (area : AreaRef) (count : ℕ) (words : List ℕ) (old now : writers.Writer) : Type 0 where
  pub token : IsWriterOf table opening now
  pub same : IsSameWriter old now
  pub state : AreWriting s area count words (written_by old) (written_by now)

pub writes_none : (table : TableId) (opening : Opening) (s : Areas) (area : AreaRef) (words : List ℕ) (old : writers.Writer) → IsWriterOf table opening old → AreOf s (written_by old) → IsUnpublished (written_by old) area → WritesOn table opening s area 0 words old old
writes_none table opening s area words old token own new = record {
  token = token;
  same = record { seat = record { same_table = refl; same_number = refl; same_slots = refl }; generation = refl };
  state = none_written s area words (written_by old) own new;
}

module _ (table : TableId) (opening : Opening) (s : Areas) (area : AreaRef) (count : ℕ) (words : List ℕ) (old now : writers.Writer) (h : WritesOn table opening s area count words old now) (live : IsLive s area) (room : length words ≤ room_of area.block) (less : count < length words) where
  abbrev value : ℕ
  value = get_or words count 0

  here : slice_get words count ≡ Some value
  here = slice_get-get_or words count 0 less

  -- the next word may be stored
  pub may_store : (word : ℕ) → word ≡ block_place area.block count → MayStoreWord (written_by now) word value
  may_store word is = subst (λ (n : ℕ). MayStoreWord (written_by now) n value) (sym is) (may_write s (written_by now) h.state.owned area live h.state.unpublished count value (omega (arith, less, room)))

  -- and is then written
  pub writes_more : (next : writers.Writer) (word : ℕ) → word ≡ block_place area.block count → IsWriterOf table opening next → IsSameSeat now.seat next.seat → next.generation ≡ now.generation → next.seat.me.0 ≡ Writer (with_word word value (written_by now)) → WritesOn table opening s area (count + 1) words old next
  writes_more next word is token same generation view = record {
    token = token;
    same = record {
      seat = record {
        same_table = same.same_table ∙ h.same.seat.same_table;
        same_number = same.same_number ∙ h.same.seat.same_number;
        same_slots = same.same_slots ∙ h.same.seat.same_slots;
      };
      generation = generation ∙ h.same.generation;
    };
    state = subst (AreWriting s area (count + 1) words (written_by old)) (sym (ap writer_of view ∙ ap (λ (n : ℕ). with_word n value (written_by now)) is))
        (one_written s area count words (written_by old) (written_by now) h.state live value here room);
  }

-- the whole list is written
pub all_written : (table : TableId) (opening : Opening) (s : Areas) (area : AreaRef) (count : ℕ) (words : List ℕ) (old now : writers.Writer) → WritesOn table opening s area count words old now → count ≡ length words → HasWritten area.block (length words) words (written_by old) (written_by now)
all_written table opening s area count words old now h same = subst (λ (n : ℕ). HasWritten area.block n words (written_by old) (written_by now)) same h.state.written

pub others_stay : (table : TableId) (opening : Opening) (s : Areas) (area : AreaRef) (count : ℕ) (words : List ℕ) (old now : writers.Writer) → WritesOn table opening s area count words old now → count ≡ length words → IsLive s area → length words ≤ room_of area.block → KeepsOtherBlocks area.block (written_by old) (written_by now)
others_stay table opening s area count words old now h same live room =
    others_kept area.block (length words) words (written_by old) (written_by now) (all_written table opening s area count words old now h same) (within s (written_by now) h.state.owned area live) room
