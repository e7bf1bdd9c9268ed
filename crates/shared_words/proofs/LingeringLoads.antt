-- A load of an anchor by which the writer keeps the answer that a process lingers keeps the rule.
use Rattle.std.proofs.Common.{◌≡◌, ℕ, ◌+◌, ◌-◌, ◌<◌, ◌≤◌, Bool, true, false, cond, List, ◌∷◌, length, length-append, refl, sym, ap, subst, ◌∙◌, arith}
use mathlib.Core.Option.{none, some}
use lib.Seq.{set-get_or}
use Rattle.std.specs.Prelude.{Some, slice_get, slice_index}
use Rattle.atomic_table.specs.Table.{State, keeps, step, Allows}
use Rattle.area_core.specs.declared.map.TheConstants.{PROCESSES, ANCHORS}
use Rattle.area_core.specs.declared.table.Published.{Published}
use Rattle.area_core.specs.Generations.{names_frame}
use Rattle.area_core.specs.Map.{slot_place}
use Rattle.marks.specs.declared.kept.LingeringFrame.{LingeringFrame}
use Rattle.marks.specs.declared.kept.WriterKept.{WriterKept}
use Rattle.marks.specs.Kept.{IsKnown}
use Rattle.marks.specs.Names.{HasAnchor}
use Rattle.marks.proofs.WriterSteps.{answer_kept, answer_backed}
use Rattle.shared_words.specs.declared.opening.Opening.{Opening}
use Rattle.shared_words.specs.declared.view.MemberView.{MemberView}
use Rattle.shared_words.specs.declared.view.NamedAnchor.{NamedAnchor}
use Rattle.shared_words.specs.declared.view.WriterView.{WriterView}
use Rattle.shared_words.specs.declared.view.View.{View}
use Rattle.shared_words.specs.declared.view.View.TheVariants.{Writer}
use Rattle.shared_words.specs.Shown.{views_shown}
use Rattle.shared_words.specs.Seats.{writer_of}
use Rattle.shared_words.specs.Processes.{process_of, under_of}
use Rattle.shared_words.specs.Kinds.{Sat}
use Rattle.shared_words.specs.Rule.{LooksKept, SlotKnown, RunningRule}
use Rattle.shared_words.specs.Slots.{process_at, place_at}
use Rattle.shared_words.specs.Lingering.{lingering_of, IsLooked, with_lingering, anchor_again, with_anchor_found, lingering_found, lingering_loaded}
use Rattle.shared_words.proofs.KeptWords.{kept_as}
use Rattle.shared_words.proofs.SlotFrames.{anchor_word, ended_as}
use Rattle.shared_words.proofs.Frames.{after_step}
use Rattle.shared_words.proofs.WriterFrames.{writer_changes, writer_at}
use Rattle.shared_words.proofs.ClearLooks.{knows_shown}

module _ {Served : Published → Type 0} {opening : Opening} (s : State (Unit {0}) View) (r : RunningRule Served opening s) (process place serial turns : ℕ) (first : 1 ≤ place) (last : place ≤ ANCHORS) (looked : IsLooked r.writer process serial turns) where
  abbrev found : ℕ
  found = slice_index s.words (slot_place process place)

  abbrev answer : LingeringFrame
  answer = lingering_of r.writer process serial turns

  -- no member is under a later generation than the newest
  under_newest : (k : ℕ) (m : MemberView) → slice_get (views_shown r.writer.members r.seats) k ≡ Some m → m.member.generation ≤ answer.wait.generation
  under_newest k m at =
      let knows = knows_shown s r k m at in
      let holds = knows.holds in
      let long : length r.writer.published ≡ length m.seen + length knows.seen.0 = ap length knows.seen.1 ∙ length-append m.seen knows.seen.0 in
      let newest_is = looked.newest_is in
      omega (arith, holds, long, newest_is)

  module _ (named : names_frame found serial ≡ true) where
    -- the slot of the process names the instance for a frame
    stands : (other : ℕ) (m : MemberView) → process ≡ other → other < PROCESSES → SlotKnown s.words r.writer m other → HasAnchor names_frame (process_of m other).slot.anchors serial
    stands other m own below h =
        let word = anchor_word s.words r.writer.looks (under_of m) other (process_of m other) h place (record { slot = below; first = first; last = last }) in
        record { place = place - 1; word = word.0; at = word.1; passes = ap (λ (x : ℕ). names_frame x serial) (sym word.2 ∙ ap (λ (p : ℕ). slice_index s.words (slot_place p place)) (sym own)) ∙ named }

  -- whatever anchor the writer knows of besides, what it keeps of looks decides
  kept_besides : (seen : NamedAnchor) (kept : WriterKept) → LooksKept (record r.writer { looks = kept; named = seen ∷ r.writer.named })
      → ((other k : ℕ) (m : MemberView) → other < PROCESSES → slice_get (views_shown r.writer.members r.seats) k ≡ Some m → SlotKnown s.words r.writer m other → IsKnown (under_of m) other (process_of m other) kept)
      → RunningRule Served opening (after_step s s.words 0 (Writer (record r.writer { looks = kept; named = seen ∷ r.writer.named })))
  kept_besides seen kept looks known =
      let w' : WriterView = record r.writer { looks = kept; named = seen ∷ r.writer.named } in
      writer_changes s r s.words w' (record { members = refl; watchers = refl; learnt = λ xs is. is; noted = λ note is. is; words = kept_as r.writer w' refl refl refl (λ g may. may) }) refl refl refl refl
      (record { made = r.published.made; staffed = r.published.staffed; watched = r.published.watched; some = r.published.some; served = r.published.served; old_stays = r.published.old_stays; retired_stays = r.published.retired_stays; areas_stay = r.published.areas_stay; notes_fit = r.published.notes_fit })
      (record { all = r.words.all; root = r.words.root; mirror = r.words.mirror; mirrored = r.words.mirrored; reached = r.words.reached; blocks = r.words.blocks })
      (record { progress = r.machine.progress; own_words = r.machine.own_words; others_wait = r.machine.others_wait; leader_made = r.machine.leader_made })
      looks
      (λ other k m below own at.
      let h = r.marks other k m below own at in
      record { turns = h.turns; anchors = h.anchors; narrow = h.narrow; known = known other k m below at h })

  -- the answer is kept where the anchor names the instance
  by_word : (seen : NamedAnchor) (b : Bool) → names_frame found serial ≡ b → RunningRule Served opening (after_step s s.words 0 (Writer (with_anchor_found seen (cond b (with_lingering answer r.writer) r.writer))))
  by_word seen true named =
      let w' : WriterView = with_anchor_found seen (with_lingering answer r.writer) in
      kept_besides seen w'.looks
      (record {
        backed = answer_backed r.writer.looks r.looks.backed answer (r.looks.backed.turns _ looked.read);
        over = λ wait among. ended_as r.writer w' refl refl (omega arith) wait (r.looks.over wait among);
      })
      (λ other k m below at h. answer_kept (under_of m) other (process_of m other) r.writer.looks answer h.known (λ is. (looked.read, stands named other m is below h, under_newest k m at)))
  by_word seen false unnamed =
      let w' : WriterView = with_anchor_found seen r.writer in
      kept_besides seen r.writer.looks (record { backed = r.looks.backed; over = λ wait among. ended_as r.writer w' refl refl (omega arith) wait (r.looks.over wait among) }) (λ other k m below at h. h.known)

  pub loads_lingering : RunningRule Served opening (after_step s s.words 0 (Writer (lingering_found place found answer r.writer)))
  loads_lingering = by_word (anchor_again place found answer r.writer) (names_frame found serial) refl

-- the writer may load the anchor
load_lingering_is_allowed : (Served : Published → Type 0) (opening : Opening) (slots id process place serial turns : ℕ) (me : Sat) → me.0 ≡ Writer (writer_of me.0) → 1 ≤ place → place ≤ ANCHORS → IsLooked (writer_of me.0) process serial turns
    → Allows (RunningRule Served opening) slots id me (slot_place process place) (λ n. n) (lingering_loaded serial turns (step slots (slot_place process place) 0 0 none) me)
load_lingering_is_allowed Served opening slots id process place serial turns me is first last looked s r wide at fits =
    let w = writer_of me.0 in
    let seat = writer_at s r id w (at ∙ ap some is) in
    let found = slice_index s.words (slot_place process place) in
    let process_is : process_at (slot_place process place) ≡ process = omega (arith, last) in
    let place_is : place_at (slot_place process place) ≡ place = omega (arith, last) in
    let done = loads_lingering s r process place serial turns first last (subst (λ (x : WriterView). IsLooked x process serial turns) (sym seat.1) looked) in (
      Writer (lingering_found place found (lingering_of w process serial turns) w),
      keeps,
      tt,
      subst (λ (z : List ℕ × (ℕ × WriterView)). RunningRule Served opening (after_step s z.0 z.1.0 (Writer (lingering_found place found (lingering_of z.1.1 process serial turns) z.1.1)))) (λ i. (sym (set-get_or s.words (slot_place process place) 0) i, (sym seat.0 i, seat.1 i))) done,
      λ i. (Writer (lingering_found (sym place_is i) found (lingering_of w (sym process_is i) serial turns) w), me.1),
    )

-- the same of a word that is known to be this one
pub load_lingering_may : (Served : Published → Type 0) (opening : Opening) (slots id process place word serial turns : ℕ) (me : Sat) → word ≡ slot_place process place → me.0 ≡ Writer (writer_of me.0) → 1 ≤ place → place ≤ ANCHORS → IsLooked (writer_of me.0) process serial turns
    → Allows (RunningRule Served opening) slots id me word (λ n. n) (lingering_loaded serial turns (step slots word 0 0 none) me)
load_lingering_may Served opening slots id process place word serial turns me same is first last looked =
    subst (λ (n : ℕ). Allows (RunningRule Served opening) slots id me n (λ x. x) (lingering_loaded serial turns (step slots n 0 0 none) me)) (sym same) (load_lingering_is_allowed Served opening slots id process place serial turns me is first last looked)
