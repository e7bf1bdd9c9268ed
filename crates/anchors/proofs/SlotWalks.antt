-- The writer's token while it goes through the anchors of one slot.
use Rattle.std.proofs.Common.{◌≡◌, ℕ, ◌+◌, ◌≤◌, Bool, true, false, ◌||◌, Some, refl, sym, ap, subst, ◌∙◌, arith}
use Rattle.atomic_table.specs.Seated.{TableId}
use Rattle.term_core.specs.declared.area.AreaRef.{AreaRef}
use Rattle.term_core.specs.declared.hold.Kind.{Kind}
use Rattle.std.specs.Prelude.{Option}
use Rattle.marks.specs.declared.kept.LookKind.{LookKind}
use Rattle.marks.specs.declared.kept.EndedWait.{EndedWait}
use Rattle.marks.specs.Names.{names_in, tells_kill}
use Rattle.shared_words.specs.declared.opening.Opening.{Opening}
use Rattle.shared_words.specs.declared.seats.Writer as tokens
use Rattle.shared_words.specs.declared.view.WriterView.{WriterView}
use Rattle.shared_words.specs.declared.view.View.{View}
use Rattle.shared_words.specs.declared.view.View.TheVariants.{Writer}
use Rattle.shared_words.specs.Seats.{SeatPlace, IsSameSeat, IsWriterSeat, writer_of}
use Rattle.shared_words.specs.Slots.{look_kind, LookMayBegin, wait_for, wait_looked, slot_looked}
use Rattle.shared_words.proofs.SlotFrames.{ended_as}
use Rattle.anchors.specs.Scans.{scan_wait, LooksMore, IsSlotNamed}
use Rattle.anchors.proofs.Scanning.{same_wait, SlotLooked, turn_looked, anchor_clear, anchor_named}

-- two steps leave the same seat
pub same_again : (a b c : SeatPlace) → IsSameSeat a b → IsSameSeat b c → IsSameSeat a c
same_again a b c first second = record {
  same_table = second.same_table ∙ first.same_table;
  same_number = second.same_number ∙ first.same_number;
  same_slots = second.same_slots ∙ first.same_slots;
}

-- a look may still begin after a part of it
pub may_still : (old new : WriterView) (kind : LookKind) (serial : ℕ) → LooksMore old new → LookMayBegin old kind serial → LookMayBegin new kind serial
may_still old new kind serial more may =
    let mid : WriterView = record old { looks = new.looks; named = new.named } in
    subst (λ (w : WriterView). LookMayBegin w kind serial) (sym more.same) (record { generation = may.generation; ended = ended_as old mid refl refl (omega arith) _ may.ended })

-- what the token has gone through
pub record SlotSteps (table : TableId) (key : Opening) (kind : Option Kind) (serial process turn : ℕ) (old : tokens.Writer) (count : ℕ) (killed : Bool) (new : tokens.Writer) : Type 0 where
  pub token : IsWriterSeat table key new.generation new.seat
  pub same : IsSameSeat old.seat new.seat
  pub generation : new.generation ≡ old.generation
  pub looked : SlotLooked (scan_wait (writer_of old.seat.me.0) kind serial) process turn (writer_of old.seat.me.0) count killed (writer_of new.seat.me.0)

-- a load in the look
loaded : (area : AreaRef) (kind : Option Kind) (process place found : ℕ) (w : WriterView) (v : View) → v ≡ Writer (slot_looked process place (Some (area, kind)) found w) → writer_of v ≡ wait_looked (wait_for w (look_kind kind) area.serial) process place found w
loaded area kind process place found w v view = ap writer_of view

pub steps_begin : (table : TableId) (key : Opening) (area : AreaRef) (kind : Option Kind) (process turn : ℕ) (old new : tokens.Writer) → IsWriterSeat table key new.generation new.seat → IsSameSeat old.seat new.seat → new.generation ≡ old.generation → new.seat.me.0 ≡ Writer (slot_looked process 0 (Some (area, kind)) turn (writer_of old.seat.me.0))
    → SlotSteps table key kind area.serial process turn old 1 false new
steps_begin table key area kind process turn old new token same generation view = record {
  token = token;
  same = same;
  generation = generation;
  looked = turn_looked (scan_wait (writer_of old.seat.me.0) kind area.serial) process turn (writer_of old.seat.me.0) (writer_of new.seat.me.0) (loaded area kind process 0 turn (writer_of old.seat.me.0) new.seat.me.0 view);
}

module _ (table : TableId) (key : Opening) (area : AreaRef) (kind : Option Kind) (process turn : ℕ) (old : tokens.Writer) (count : ℕ) (killed : Bool) (mid new : tokens.Writer) (word : ℕ) (h : SlotSteps table key kind area.serial process turn old count killed mid) (view : new.seat.me.0 ≡ Writer (slot_looked process count (Some (area, kind)) word (writer_of mid.seat.me.0))) where
  abbrev wait : EndedWait
  wait = scan_wait (writer_of old.seat.me.0) kind area.serial

  now : writer_of new.seat.me.0 ≡ wait_looked wait process count word (writer_of mid.seat.me.0)
  now = loaded area kind process count word (writer_of mid.seat.me.0) new.seat.me.0 view
      ∙ ap (λ (x : EndedWait). wait_looked x process count word (writer_of mid.seat.me.0)) (same_wait (writer_of old.seat.me.0) (writer_of mid.seat.me.0) (look_kind kind) area.serial h.looked.more)

  pub steps_next : IsWriterSeat table key new.generation new.seat → IsSameSeat mid.seat new.seat → new.generation ≡ mid.generation → names_in (look_kind kind) word area.serial ≡ false → (killed' : Bool) → killed' ≡ (killed || tells_kill word area.serial) → SlotSteps table key kind area.serial process turn old (count + 1) killed' new
  steps_next token same generation clear killed' told = record {
    token = token;
    same = same_again old.seat mid.seat new.seat h.same same;
    generation = generation ∙ h.generation;
    looked = anchor_clear wait process turn (writer_of old.seat.me.0) (writer_of mid.seat.me.0) (writer_of new.seat.me.0) count word killed killed' h.looked now clear told;
  }

  pub steps_named : names_in (look_kind kind) word area.serial ≡ true → count ≤ 16 → IsSlotNamed wait process turn count word (writer_of old.seat.me.0) (writer_of new.seat.me.0) × LooksMore (writer_of old.seat.me.0) (writer_of new.seat.me.0)
  steps_named names last = anchor_named wait process turn (writer_of old.seat.me.0) (writer_of mid.seat.me.0) (writer_of new.seat.me.0) count word killed h.looked now names last
