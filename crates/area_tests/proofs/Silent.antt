-- At the end of a table no anchor names an area for which a look was clear.
use Rattle.std.proofs.Common.{◌≡◌, ℕ, suc, ◌+◌, ◌%◌, ◌<◌, false, List, length, refl, sym, ap, subst, ◌∙◌, arith}
use Rattle.std.specs.Prelude.{Some, slice_get}
use Rattle.std.proofs.lemmas.Nat.{mod_below}
use Rattle.atomic_table.specs.Seated.{TableId}
use Rattle.area_core.specs.declared.map.TheConstants.{PROCESSES, ANCHORS}
use Rattle.area_core.specs.Map.{slot_place}
use Rattle.area_core.specs.Blocks.{Among}
use Rattle.marks.specs.declared.kept.LookKind.TheVariants.{Both}
use Rattle.marks.specs.declared.kept.LookedAnchor.{LookedAnchor}
use Rattle.marks.specs.Names.{names_in}
use Rattle.marks.proofs.Anchors.{has_element}
use Rattle.shared_words.specs.declared.opening.Opening.{Opening}
use Rattle.shared_words.specs.declared.seats.Member as tokens
use Rattle.shared_words.specs.declared.seats.Writer as writers
use Rattle.shared_words.specs.declared.view.MemberView.{MemberView}
use Rattle.shared_words.specs.declared.view.WriterView.{WriterView}
use Rattle.shared_words.specs.Closing.{AreAllMembers, HasAllMembers, HaveMarks, HasBrought, AreLastWords}
use Rattle.shared_words.specs.Processes.{process_of}
use Rattle.shared_words.specs.Seats.{member_of}
use Rattle.shared_words.specs.Slots.{IsClear, LookMayBegin}
use Rattle.progress_words.specs.Tokens.{written_by, IsWriterOf}
use Rattle.anchors.specs.Scans.{LooksMore}
use Rattle.anchors.proofs.Scanning.{among_behind}
use Rattle.area_tests.specs.Several.{AreClear, NamesNowhere, NamesNone}

-- ---- a look that was clear stays so

-- one more look may begin
pub clear_begins : (at count : ℕ) (w : WriterView) → at < count → AreClear count w → LookMayBegin w Both (suc at)
clear_begins at count w low clear = (let one = clear.each at low in record { generation = one.generation; ended = one.over })

-- after one more look
one_looked : (serial : ℕ) (old new : WriterView) → LooksMore old new → IsClear old Both serial → IsClear new Both serial
one_looked serial old new more clear =
    let mid : WriterView = record old { looks = new.looks; named = new.named } in
    subst (λ (w : WriterView). IsClear w Both serial) (sym more.same) (record {
      generation = clear.generation;
      over = record { need = clear.over.need; kept = clear.over.kept; reached = clear.over.reached; published = clear.over.published; at = clear.over.at; gone = clear.over.gone };
      looked = λ process below place few.
          let was = clear.looked process below place few in
          let looked : LookedAnchor = record { wait = record { generation = clear.generation; serial = serial; kind = Both }; process = process; place = place; told = was.0 } in
          (was.0, subst (λ (ls : List LookedAnchor). Among ls looked) (sym more.anchors.1) (among_behind more.anchors.0 old.looks.anchors looked was.1));
    })

pub clear_looked : (count : ℕ) (old new : WriterView) → LooksMore old new → AreClear count old → AreClear count new
clear_looked count old new more clear = record { each = λ i low. one_looked (suc i) old new more (clear.each i low) }

-- after a release
pub clear_kept : (serial : ℕ) (v z : WriterView) → z ≡ record v { words = z.words; kept = z.kept } → IsClear v Both serial → IsClear z Both serial
clear_kept serial v z is clear = subst (λ (w : WriterView). IsClear w Both serial) (sym is) (record {
  generation = clear.generation;
  over = record { need = clear.over.need; kept = clear.over.kept; reached = clear.over.reached; published = clear.over.published; at = clear.over.at; gone = clear.over.gone };
  looked = λ process below place few. clear.looked process below place few;
})

-- ---- the end of the table

module _ (serial : ℕ) (members : List tokens.Member) (old new : WriterView) (words : List ℕ) (clear : IsClear old Both serial) (three : length members ≡ 3) (made : length old.members ≡ 3) (come : HasAllMembers members old new) (marks : HaveMarks members new) (last : AreLastWords new words) where
  module _ (process : ℕ) (below : process < PROCESSES) where
    within : process % length members < length members
    within = mod_below process (length members) (omega (arith, three))

    abbrev token : (t : tokens.Member) × (slice_get members (process % length members) ≡ Some t)
    token = has_element members (process % length members) within

    abbrev view : MemberView
    view = member_of token.0.seat.me.0

    brought : HasBrought new process view
    brought =
        let long = come.long in
        let same : length members ≡ length new.members = omega (arith, three, made, long) in record {
          below = below;
          come = subst (λ (n : ℕ). Among new.taken (process % n)) same (come.come (process % length members) token.0 token.1);
          knew = ap (λ (n : ℕ). slice_get new.members (process % n)) (sym same) ∙ come.each (process % length members) token.0 token.1;
        }

    silent_at : (place word : ℕ) → place < ANCHORS → slice_get words (slot_place process (place + 1)) ≡ Some word → names_in Both word serial ≡ false
    silent_at place word few at =
        let known = marks process token.0 below token.1 in
        let wide = known.wide in
        let was = clear.looked process below place few in
        let looked : LookedAnchor = record { wait = record { generation = clear.generation; serial = serial; kind = Both }; process = process; place = place; told = was.0 } in
        let kept : Among new.looks.anchors looked = subst (λ (w : WriterView). Among w.looks.anchors looked) (sym come.same) was.1 in
        let there = has_element (process_of view process).slot.anchors place (omega (arith, few, wide)) in
        let same = ((last.each (slot_place process (place + 1)) word at).slots process view brought).anchors place there.0 there.1 refl in
        ap (λ (x : ℕ). names_in Both x serial) same ∙ (known.looked looked kept refl).clear there.0 there.1

  silent : NamesNowhere words serial
  silent process place word below few at = silent_at process below place word few at

pub silent_end : (table : TableId) (opening : Opening) (released : ℕ) (members : List tokens.Member) (writer : writers.Writer) (new : WriterView) (words : List ℕ) → opening.members ≡ 3 → IsWriterOf table opening writer → AreClear released (written_by writer) → AreAllMembers table opening.members members
    → HasAllMembers members (written_by writer) new → HaveMarks members new → AreLastWords new words → NamesNone words released
silent_end table opening released members writer new words three token clear all come marks last = record {
  each = λ i low. silent (suc i) members (written_by writer) new words (clear.each i low) (all.all ∙ three) (token.made ∙ three) come marks last;
}
