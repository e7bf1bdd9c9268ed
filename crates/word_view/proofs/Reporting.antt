-- What is known of a view and its member over a report, and of other processes over a turn.
use Rattle.std.proofs.Common.{◌≡◌, ◌≢◌, ℕ, ◌<◌, ◌≤◌, List, length, Option, Some, None, sym, ap, subst, ◌∙◌, arith}
use Rattle.std.specs.Prelude.{IsTrue}
use Rattle.term_core.specs.declared.atom.Mfa.{Mfa}
use Rattle.area_core.specs.declared.table.Published.{Published}
use Rattle.area_core.specs.Blocks.{InstancesPlaced}
use Rattle.area_core.specs.Generations as tests
use Rattle.marks.specs.declared.mark.ProcessView.{ProcessView}
use Rattle.marks.specs.Names.{HasAnchor}
use Rattle.marks.specs.Steps.{HasNote}
use Rattle.shared_words.specs.declared.opening.Opening.{Opening}
use Rattle.shared_words.specs.declared.view.MemberView.{MemberView}
use Rattle.shared_words.specs.Processes.{held_by_view, note_in, under_of}
use Rattle.shared_words.specs.Rule.{AreAreasApart}
use Rattle.shared_words.specs.Views.{newest_number, published_at}
use Rattle.shared_words.proofs.RootLoads.{shorter}
use Rattle.progress_words.specs.Reports.{IsAwake, HoldsReported}
use Rattle.anchors.specs.Holds.{AnchorsApart, IsUnkilled, MayRun, anchors_of, view_of}
use Rattle.code_law.specs.Served.{IsServed}
use Rattle.word_view.specs.Views.{HasGoneOn, IsReader, MayBegin, NamedListed, StandsIn, Viewed}

-- ---- a report

-- the note of a process came with no later generation than the newest one
note_still : (o : Option ℕ) (old new : MemberView) → old.member.generation ≤ new.member.generation → HasNote o (under_of old) → HasNote o (under_of new)
note_still None old new more h = h
note_still (Some n) old new more h = omega (arith, more, h)

module _ (names : List Mfa) (opening : Opening) (process : ℕ) (old new : MemberView) (generation : ℕ) (h : IsReader names opening process old) (learnt : old.member.generation < length old.seen) (awake : IsAwake new) (r : HoldsReported (IsServed names) old new generation) where
  own_newest : new.member.generation ≡ newest_number new.seen
  own_newest = ap (λ (m : MemberView). m.member.generation) r.view

  same_anchors : anchors_of new process ≡ anchors_of old process
  same_anchors = ap (λ (m : MemberView). anchors_of m process) r.view

  later : old.member.generation ≤ new.member.generation
  later =
      let more = shorter old.seen new.seen r.learnt old.member.generation learnt in
      let is = own_newest in
      omega (arith, more, is)

  may_run : MayRun opening process new
  may_run = record {
    awake = awake;
    below = h.run.below;
    own = h.run.own ∙ sym (ap (λ (m : MemberView). m.member.number) r.view);
    noted = subst (λ (o : Option ℕ). HasNote o (under_of new)) (sym (ap (λ (m : MemberView). note_in m.notes process) r.view)) (note_still (note_in old.notes process) old new later h.run.noted);
  }

  named : NamedListed (held_by_view new) (anchors_of new process)
  named serial anchor =
      let own : HasAnchor tests.anchor_names_area (anchors_of old process) serial = subst (λ (xs : List ℕ). HasAnchor tests.anchor_names_area xs serial) same_anchors anchor in
      let s : StandsIn (held_by_view old) serial = h.named serial own in
      let there = r.named s.area (process, subst (HasAnchor tests.anchor_names_area (anchors_of old process)) (sym s.is) own) s.stands.listed in
      (s.area, there.listed, s.is)

  pub report_begins : MayBegin names opening process new
  report_begins = record {
    run = may_run;
    unkilled = subst IsUnkilled (sym same_anchors) h.unkilled;
    apart = subst AnchorsApart (sym same_anchors) h.apart;
    served = subst (λ (n : ℕ). IsServed names (published_at new.seen n)) (r.newest ∙ sym own_newest) r.served;
    areas = r.areas;
    named = named;
  }

-- ---- a turn of another process

module _ (v w : Viewed) (other : ℕ) (gone : HasGoneOn v w) (apart : other ≢ v.process) (h : IsReader v.names v.opening other (view_of v.token)) where
  held_on : held_by_view (view_of w.token) ≡ held_by_view (view_of v.token)
  held_on = ap held_by_view gone.stored.same

  anchors_on : anchors_of (view_of w.token) other ≡ anchors_of (view_of v.token) other
  anchors_on = ap (λ (p : ProcessView). p.slot.anchors) (gone.stored.others other apart)

  at_held : (P : Published → Type 0) → P (held_by_view (view_of v.token)) → P (held_by_view (view_of w.token))
  at_held P x = subst P (sym held_on) x

  stays_own : IsReader v.names v.opening other (view_of w.token)
  stays_own = record {
    run = subst (MayRun v.opening other) (sym gone.stored.same) (record { awake = h.run.awake; below = h.run.below; own = h.run.own; noted = h.run.noted });
    unkilled = subst IsUnkilled (sym anchors_on) h.unkilled;
    apart = subst AnchorsApart (sym anchors_on) h.apart;
    served = at_held (IsServed v.names) h.served;
    areas = at_held AreAreasApart h.areas;
    placed = at_held InstancesPlaced h.placed;
    used = at_held (λ (p : Published). (serial : ℕ) → IsTrue (tests.is_used p serial) → StandsIn p serial) h.used;
    named = λ serial anchor. subst (λ (p : Published). StandsIn p serial) (sym held_on) (h.named serial (subst (λ (xs : List ℕ). HasAnchor tests.anchor_names_area xs serial) anchors_on anchor));
  }

  pub other_stays : IsReader w.names w.opening other (view_of w.token)
  other_stays = subst (λ (x : Viewed). IsReader x.names x.opening other (view_of w.token)) (sym gone.given) stays_own
