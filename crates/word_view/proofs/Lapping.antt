-- What stays known of a member's processes over a report, over stores in the slot of one of them, and over steps that store no slot.
use Rattle.std.proofs.Common.{◌≡◌, ◌≢◌, ℕ, ◌*◌, ◌≤◌, true, inl, inr, List, length, Option, sym, ap, subst, ◌∙◌, arith}
use Rattle.std.specs.Prelude.{◌==◌, not, IsTrue}
use Rattle.std.proofs.lemmas.Bool.{and_parts, both_ways, cases_eq, eq-eqb, eqb-true, not-true}
use Rattle.term_core.specs.declared.atom.Mfa.{Mfa}
use Rattle.area_core.specs.declared.map.TheConstants.{ANCHORS}
use Rattle.area_core.specs.declared.table.Published.{Published}
use Rattle.area_core.specs.Blocks.{InstancesPlaced}
use Rattle.area_core.specs.Generations as tests
use Rattle.area_core.specs.Map.{word_at}
use Rattle.marks.specs.declared.mark.ProcessView.{ProcessView}
use Rattle.marks.specs.Names.{HasAnchor, IsAtRest, tells_kill}
use Rattle.marks.specs.Steps.{HasNote}
use Rattle.shared_words.specs.declared.opening.Opening.{Opening}
use Rattle.shared_words.specs.declared.view.MemberView.{MemberView}
use Rattle.shared_words.specs.declared.view.ProcessSlot.{ProcessSlot}
use Rattle.shared_words.specs.Kinds.{now_entering, now_waiting}
use Rattle.shared_words.specs.Processes.{AreAtRest, AreCopied, held_by_view, note_in, process_of, slot_in, under_of}
use Rattle.shared_words.specs.Rule.{AreAreasApart, HasItsAreas}
use Rattle.shared_words.specs.Slots.{with_slot}
use Rattle.shared_words.specs.Views.{newest_number, published_at}
use Rattle.shared_words.proofs.AnchorStores.{process_else, process_here}
use Rattle.shared_words.proofs.RootLoads.{shorter}
use Rattle.progress_words.specs.Reports.{IsAwake, HoldsReported}
use Rattle.anchors.specs.Drops.{AnchorsStored}
use Rattle.anchors.specs.Holds.{AnchorsApart, IsUnkilled, MayRun, anchors_of, view_of}
use Rattle.code_law.specs.Served.{IsServed}
use Rattle.word_view.specs.Laps.{HasComeTo, NamesNothing}
use Rattle.word_view.specs.Views.{HasGoneOn, IsReader, MayBegin, NamedListed, StandsIn, Viewed}

-- ---- a process that came

-- a word that is 0 tells of no kill
no_kill : (serial : ℕ) → tells_kill 0 serial ≡ true → ⊥
no_kill serial h =
    let parts = and_parts (0 == serial * 4) (not (serial == 0)) h in
    let of = eqb-true 0 (serial * 4) parts.0 in
    both_ways (serial == 0) (not-true (serial == 0) parts.1) (eq-eqb serial 0 (omega (arith, of)))

-- nor does it name an area
no_name : (word serial : ℕ) → word ≡ 0 → tests.anchor_names_area word serial ≡ true → ⊥
no_name word serial none passes = both_ways (tests.is_naming word) (ap tests.is_naming none) (and_parts (tests.is_naming word) (tests.serial_in word == serial) passes).0

module _ (names : List Mfa) (opening : Opening) (process published : ℕ) (old new : MemberView) (generation : ℕ) (h : HasComeTo opening process published old)
    (awake : IsAwake new) (r : HoldsReported (IsServed names) old new generation) where
  own_newest : new.member.generation ≡ newest_number new.seen
  own_newest = ap (λ (m : MemberView). m.member.generation) r.view

  reached : published ≤ new.member.generation
  reached =
      let more = shorter old.seen new.seen r.learnt published h.learnt in
      let is = own_newest in
      omega (arith, more, is)

  empty : NamesNothing (anchors_of new process)
  empty = subst NamesNothing (sym (ap (λ (m : MemberView). anchors_of m process) r.view)) h.empty

  pub newcomer_begins : MayBegin names opening process new
  newcomer_begins = record {
    run = record {
      awake = awake;
      below = h.below;
      own = h.own ∙ sym (ap (λ (m : MemberView). m.member.number) r.view);
      noted = subst (λ (o : Option ℕ). HasNote o (under_of new)) (sym (ap (λ (m : MemberView). note_in m.notes process) r.view ∙ h.noted)) reached;
    };
    unkilled = λ place word serial at kills. no_kill serial (subst (λ (n : ℕ). tells_kill n serial ≡ true) (empty place word at) kills);
    apart = λ a b v w at_a at_b some_v some_w same. absurd (some_v (empty a v at_a));
    served = subst (λ (n : ℕ). IsServed names (published_at new.seen n)) (r.newest ∙ sym own_newest) r.served;
    areas = r.areas;
    named = λ serial anchor. absurd (no_name anchor.word serial (empty anchor.place anchor.word anchor.at) anchor.passes);
  }

-- ---- a wake

pub wake_reports : (names : List Mfa) (m new : MemberView) (generation : ℕ) → HoldsReported (IsServed names) (now_entering (now_waiting m)) new generation
    → HoldsReported (IsServed names) m new generation
wake_reports names m new generation r = record {
  counter = r.counter;
  range = r.range;
  learnt = r.learnt;
  some = r.some;
  newest = r.newest;
  holds = r.holds;
  served = r.served;
  areas = r.areas;
  named = λ a named among. let same = r.named a named among in record { listed = same.listed; image = same.image };
  view = r.view;
}

-- ---- stores in one slot

-- the view but for the slots is as it was, and so are the anchors of this process
module _ (names : List Mfa) (opening : Opening) (other : ℕ) (old new : MemberView) (same : new ≡ record old { slots = new.slots })
    (anchors : anchors_of new other ≡ anchors_of old other) where
  held_on : held_by_view new ≡ held_by_view old
  held_on = ap held_by_view same

  run_on : MayRun opening other old → MayRun opening other new
  run_on run = subst (MayRun opening other) (sym same) (record { awake = run.awake; below = run.below; own = run.own; noted = run.noted })

  at_held : (P : Published → Type 0) → P (held_by_view old) → P (held_by_view new)
  at_held P x = subst P (sym held_on) x

  pub begins_on : MayBegin names opening other old → MayBegin names opening other new
  begins_on h = record {
    run = run_on h.run;
    unkilled = subst IsUnkilled (sym anchors) h.unkilled;
    apart = subst AnchorsApart (sym anchors) h.apart;
    served = at_held (IsServed names) h.served;
    areas = at_held HasItsAreas h.areas;
    named = subst (λ (xs : List ℕ). NamedListed (held_by_view new) xs) (sym anchors) (at_held (λ (p : Published). NamedListed p (anchors_of old other)) h.named);
  }

  reads_on : IsReader names opening other old → IsReader names opening other new
  reads_on h = record {
    run = run_on h.run;
    unkilled = subst IsUnkilled (sym anchors) h.unkilled;
    apart = subst AnchorsApart (sym anchors) h.apart;
    served = at_held (IsServed names) h.served;
    areas = at_held AreAreasApart h.areas;
    placed = at_held InstancesPlaced h.placed;
    used = at_held (λ (p : Published). (serial : ℕ) → IsTrue (tests.is_used p serial) → StandsIn p serial) h.used;
    named = λ serial anchor. subst (λ (p : Published). StandsIn p serial) (sym held_on) (h.named serial (subst (λ (xs : List ℕ). HasAnchor tests.anchor_names_area xs serial) anchors anchor));
  }

  -- so both are known of it still
  pub known_on : (MayBegin names opening other old → MayBegin names opening other new) × (IsReader names opening other old → IsReader names opening other new)
  known_on = (begins_on, reads_on)

-- the anchors of another process stay
pub other_anchors : (process other : ℕ) (old new : MemberView) → AnchorsStored process old new → other ≢ process → anchors_of new other ≡ anchors_of old other
other_anchors process other old new stored apart = ap (λ (p : ProcessView). p.slot.anchors) (stored.others other apart)

-- the store of a turn word leaves all anchors
pub marked_anchors : (process other turns : ℕ) (m : MemberView) → anchors_of (with_slot process 0 turns m) other ≡ anchors_of m other
marked_anchors process other turns m =
    elim (cases_eq other process) as (λ _. anchors_of (with_slot process 0 turns m) other ≡ anchors_of m other) [
      | inl is ↦ subst (λ (n : ℕ). anchors_of (with_slot process 0 turns m) n ≡ anchors_of m n) (sym is) (ap (λ (p : ProcessView). p.slot.anchors) (process_here process 0 turns m))
      | inr apart ↦ ap (λ (p : ProcessView). p.slot.anchors) (process_else process 0 turns m other apart)
    ]

-- over a turn
module _ (v w : Viewed) (other : ℕ) (gone : HasGoneOn v w) (apart : other ≢ v.process) (h : MayBegin v.names v.opening other (view_of v.token)) where
  abbrev read : MemberView
  read = record (view_of v.token) { blocks = (view_of w.token).blocks }

  begins_read : MayBegin v.names v.opening other read
  begins_read = record {
    run = record { awake = h.run.awake; below = h.run.below; own = h.run.own; noted = h.run.noted };
    unkilled = h.unkilled;
    apart = h.apart;
    served = h.served;
    areas = h.areas;
    named = h.named;
  }

  pub beginning_stays : MayBegin w.names w.opening other (view_of w.token)
  beginning_stays =
      subst (λ (x : Viewed). MayBegin x.names x.opening other (view_of w.token)) (sym gone.given)
      (begins_on v.names v.opening other read (view_of w.token) gone.stored.same (other_anchors v.process other read (view_of w.token) gone.stored apart) begins_read)

-- ---- no store in a slot

pub copies_stay : (anchors : List ℕ) (old new : MemberView) → new.slots ≡ old.slots → AreCopied anchors old → AreCopied anchors new
copies_stay anchors old new same h = record {
  all = h.all;
  wide = λ process below. subst (λ (slots : List ProcessSlot). length (slot_in slots process).slot.anchors ≡ ANCHORS) (sym same) (h.wide process below);
  each = λ process place below within. h.each process place below within ∙ ap (λ (slots : List ProcessSlot). word_at (slot_in slots process).slot.anchors place) (sym same);
}

-- a process is at rest by its slot and its marks, whatever its note is
rests_by : (came : Option ℕ) (p : ProcessView) → IsAtRest p → IsAtRest (record p { note = came })
rests_by came p h = record { frames = h.frames; literals = h.literals }

pub rests_stay : (old new : MemberView) → new.slots ≡ old.slots → AreAtRest old → AreAtRest new
rests_stay old new same h process =
    subst (λ (slots : List ProcessSlot). IsAtRest (record { slot = (slot_in slots process).slot; marks = (slot_in slots process).marks; note = note_in new.notes process }))
    (sym same) (rests_by (note_in new.notes process) (process_of old process) (h process))
