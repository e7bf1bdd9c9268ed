-- A look through all slots, one after another.
use Rattle.std.proofs.Common.{◌≡◌, ℕ, ◌+◌, ◌-◌, ◌≤◌, ⊎_elim, Bool, false, ◌||◌, List, [], ◌∷◌, ◌++◌, length, length-append, append_assoc, Option, Some, refl, sym, ap, subst, ◌∙◌, arith}
use Rattle.std.specs.Prelude.{slice_get}
use Rattle.prgr_core.proofs.Parts.{slice_get-push_at}
use Rattle.atomic_table.specs.Seated.{TableId}
use Rattle.term_core.specs.declared.hold.Kind.{Kind}
use Rattle.area_core.specs.declared.map.TheConstants.{PROCESSES}
use Rattle.area_core.specs.Blocks.{Among}
use Rattle.area_core.proofs.Joined.{any_joined}
use Rattle.marks.specs.declared.kept.EndedWait.{EndedWait}
use Rattle.marks.specs.declared.kept.ReadTurn.{ReadTurn}
use Rattle.marks.specs.Names.{tells_kill}
use Rattle.marks.proofs.Anchors.{has_element}
use Rattle.shared_words.specs.declared.opening.Opening.{Opening}
use Rattle.shared_words.specs.declared.seats.Writer as tokens
use Rattle.shared_words.specs.declared.view.WriterView.{WriterView}
use Rattle.shared_words.specs.Seats.{IsSameSeat, IsWriterSeat, writer_of}
use Rattle.shared_words.specs.Rule.{HasEnded}
use Rattle.shared_words.specs.Slots.{look_kind, LookMayBegin, IsClear}
use Rattle.shared_words.proofs.SlotFrames.{ended_as}
use Rattle.shared_words.proofs.SlotLoads.{wait_over}
use Rattle.anchors.specs.Scans.{scan_wait, tells_any, LooksMore, AreFound, IsSlotClear, IsSlotNamed, AreClear}
use Rattle.anchors.proofs.Scanning.{same_wait, more_again, loaded_kept, loaded_since, loaded_still, or_none}
use Rattle.anchors.proofs.SlotWalks.{same_again}

-- the first slots were found clear
pub record SlotsLooked (table : TableId) (key : Opening) (kind : Option Kind) (serial : ℕ) (old : tokens.Writer) (count : ℕ) (killed : Bool) (new : tokens.Writer) : Type 0 where
  pub token : IsWriterSeat table key new.generation new.seat
  pub same : IsSameSeat old.seat new.seat
  pub generation : new.generation ≡ old.generation
  pub more : LooksMore (writer_of old.seat.me.0) (writer_of new.seat.me.0)
  pub named : (writer_of new.seat.me.0).named ≡ (writer_of old.seat.me.0).named
  pub clear : AreClear (scan_wait (writer_of old.seat.me.0) kind serial) count killed (writer_of old.seat.me.0) (writer_of new.seat.me.0)

-- anchors that were found stay found
found_still : (wait : EndedWait) (process : ℕ) (words : List ℕ) (a b c : WriterView) → LooksMore b c → AreFound wait process words a b → AreFound wait process words a c
found_still wait process words a b c more h = record { clear = h.clear; loaded = λ place word at. loaded_still a b c _ more (h.loaded place word at) }

-- and were since an earlier time
found_since : (wait : EndedWait) (process : ℕ) (words : List ℕ) (a b c : WriterView) → LooksMore a b → AreFound wait process words b c → AreFound wait process words a c
found_since wait process words a b c more h = record { clear = h.clear; loaded = λ place word at. loaded_since a b c _ more (h.loaded place word at) }

-- each is kept
found_kept : (wait : EndedWait) (process : ℕ) (words : List ℕ) (old new : WriterView) → AreFound wait process words old new → (place word : ℕ) → slice_get words place ≡ Some word → Among new.looks.anchors (record { wait = wait; process = process; place = place; told = tells_kill word wait.serial })
found_kept wait process words old new h place word at = loaded_kept old new _ (h.loaded place word at)

-- none at first
pub none_looked : (table : TableId) (key : Opening) (kind : Option Kind) (serial : ℕ) (old : tokens.Writer) → IsWriterSeat table key old.generation old.seat → LooksMore (writer_of old.seat.me.0) (writer_of old.seat.me.0) → SlotsLooked table key kind serial old 0 false old
none_looked table key kind serial old token more = record {
  token = token;
  same = record { same_table = refl; same_number = refl; same_slots = refl };
  generation = refl;
  more = more;
  named = refl;
  clear = record { rows = []; all = refl; wide = λ process words at. absurd (cc); found = λ process words at. absurd (cc); told = refl };
}

module _ (table : TableId) (key : Opening) (kind : Option Kind) (serial : ℕ) (old : tokens.Writer) (count : ℕ) (killed : Bool) (mid new : tokens.Writer) (h : SlotsLooked table key kind serial old count killed mid) (more : LooksMore (writer_of mid.seat.me.0) (writer_of new.seat.me.0)) where
  abbrev a : WriterView
  a = writer_of old.seat.me.0

  abbrev b : WriterView
  b = writer_of mid.seat.me.0

  abbrev c : WriterView
  c = writer_of new.seat.me.0

  wait_is : scan_wait b kind serial ≡ scan_wait a kind serial
  wait_is = same_wait a b (look_kind kind) serial h.more

  -- one more
  row_more : (told : Bool) → IsSlotClear (scan_wait a kind serial) count told b c → AreClear (scan_wait a kind serial) (count + 1) (killed || told) a c
  row_more told slot =
      let rows = h.clear.rows in
      let many = h.clear.all in
      record {
        rows = rows ++ slot.words ∷ [];
        all = length-append rows (slot.words ∷ []) ∙ ap (λ (n : ℕ). n + 1) many;
        wide = λ process words at. ⊎_elim (λ (before : slice_get rows process ≡ Some words). h.clear.wide process words before)
            (λ (last : (process ≡ length rows) × (words ≡ slot.words)). ap (λ (ws : List ℕ). length ws) last.1 ∙ slot.all) (slice_get-push_at rows slot.words process words at);
        found = λ process words at. ⊎_elim (λ (before : slice_get rows process ≡ Some words). found_still (scan_wait a kind serial) process words a b c more (h.clear.found process words before))
            (λ (last : (process ≡ length rows) × (words ≡ slot.words)). subst (λ (z : ℕ × List ℕ). AreFound (scan_wait a kind serial) z.0 z.1 a c) (λ i. (sym (last.0 ∙ many) i, sym last.1 i)) (found_since (scan_wait a kind serial) count slot.words a b c h.more slot.found)) (slice_get-push_at rows slot.words process words at);
        told = (λ i. h.clear.told i || (slot.told ∙ sym (or_none (tells_any serial slot.words))) i) ∙ sym (any_joined (tells_any serial) rows (slot.words ∷ []));
      }

  pub slots_next : IsWriterSeat table key new.generation new.seat → IsSameSeat mid.seat new.seat → new.generation ≡ mid.generation → (told : Bool) → IsSlotClear (scan_wait b kind serial) count told b c → SlotsLooked table key kind serial old (count + 1) (killed || told) new
  slots_next token same generation told slot = record {
    token = token;
    same = same_again old.seat mid.seat new.seat h.same same;
    generation = generation ∙ h.generation;
    more = more_again a b c h.more more;
    named = slot.named ∙ h.named;
    clear = row_more told (subst (λ (x : EndedWait). IsSlotClear x count told b c) wait_is slot);
  }

  -- the first slot with an anchor that names the area
  pub slots_named : (turn place word : ℕ) → IsSlotNamed (scan_wait b kind serial) count turn place word b c → IsSlotNamed (scan_wait a kind serial) count turn place word a c
  slots_named turn place word named =
      let here = subst (λ (x : EndedWait). IsSlotNamed x count turn place word b c) wait_is named in
      record {
        first = here.first;
        last = here.last;
        names = here.names;
        found = here.found ∙ ap (λ xs. record { wait = scan_wait a kind serial; process = count; place = place - 1; word = word; behind = Some (record { wait = scan_wait a kind serial; process = count; turns = turn }) } ∷ xs) h.named;
        turn_read = (
          here.turn_read.0 ++ h.more.turns.0,
          here.turn_read.1 ∙ ap (λ (ts : List ReadTurn). record { wait = scan_wait a kind serial; process = count; turns = turn } ∷ (here.turn_read.0 ++ ts)) h.more.turns.1
              ∙ ap (λ (ts : List ReadTurn). record { wait = scan_wait a kind serial; process = count; turns = turn } ∷ ts) (sym (append_assoc here.turn_read.0 h.more.turns.0 a.looks.turns)),
        );
      }

-- ---- all are clear

pub all_clear : (table : TableId) (key : Opening) (kind : Option Kind) (serial : ℕ) (old new : tokens.Writer) (count : ℕ) (killed : Bool) → SlotsLooked table key kind serial old count killed new → 64 ≤ count → count ≤ 64 → LookMayBegin (writer_of old.seat.me.0) (look_kind kind) serial
    → AreClear (scan_wait (writer_of old.seat.me.0) kind serial) PROCESSES killed (writer_of old.seat.me.0) (writer_of new.seat.me.0) × IsClear (writer_of new.seat.me.0) (look_kind kind) serial
all_clear table key kind serial old new count killed h late early may =
    let a = writer_of old.seat.me.0 in
    let w = writer_of new.seat.me.0 in
    let wait : EndedWait = scan_wait a kind serial in
    let mid : WriterView = record a { looks = w.looks; named = w.named } in
    let full : count ≡ PROCESSES = omega (arith, late, early) in
    let clear = subst (λ (n : ℕ). AreClear wait n killed a w) full h.clear in (
      clear,
      record {
        generation = wait.generation;
        over = subst (λ (x : WriterView). HasEnded x wait) (sym h.more.same) (ended_as a mid refl refl (omega arith) wait (wait_over a (look_kind kind) serial may));
        looked = λ process below place few.
            let all = clear.all in
            let row = has_element clear.rows process (omega (arith, all, below)) in
            let wide = clear.wide process row.0 row.1 in
            let word = has_element row.0 place (omega (arith, wide, few)) in
            (tells_kill word.0 serial, found_kept wait process row.0 a w (clear.found process row.0 row.1) place word.0 word.1);
      },
    )
