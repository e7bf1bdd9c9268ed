-- What a step of the writer leaves of the rule: what every seat knows, and which seats there are.
use Rattle.std.proofs.Common.{◌≡◌, ℕ, zero, suc, ◌+◌, ◌%◌, ◌<◌, ◌≤◌, List, length, set, refl, sym, ap, subst, ◌∙◌, arith}
use mathlib.Core.Option.{some, some-injective}
use lib.ListN.{get_elem?}
use Rattle.std.specs.Prelude.{slice_get}
use Rattle.atomic_table.specs.Table.{State}
use Rattle.area_core.specs.declared.table.Published.{Published}
use Rattle.area_core.specs.Blocks.{Among}
use Rattle.shared_words.specs.declared.opening.Opening.{Opening}
use Rattle.shared_words.specs.declared.view.BlockWord.{BlockWord}
use Rattle.shared_words.specs.declared.view.NoteNumber.{NoteNumber}
use Rattle.shared_words.specs.declared.view.MemberView.{MemberView}
use Rattle.shared_words.specs.declared.view.WatcherView.{WatcherView}
use Rattle.shared_words.specs.declared.view.WriterView.{WriterView}
use Rattle.shared_words.specs.declared.view.View.{View}
use Rattle.shared_words.specs.declared.view.View.TheVariants.{Writer, Member, Watcher, Note, Spent}
use Rattle.shared_words.specs.Seats.{writer_of}
use Rattle.shared_words.specs.Shown.{views_shown}
use Rattle.shared_words.specs.Rule.{IsBeginning, WordKept, PublishedKept, LooksKept, WordsAgree, MarksKept, Knows, MachineHolds, RunningRule}
use Rattle.shared_words.proofs.SlotFrames.{LooksStay, looks_stay, marks_stay}
use Rattle.shared_words.proofs.Frames.{after_step}

-- the writer knows what it knew, and more was published, or more notes were made
pub record WriterGrows (w w' : WriterView) : Type 0 where
  pub members : length w'.members ≡ length w.members
  pub watchers : length w'.watchers ≡ length w.watchers
  pub learnt : (xs : List Published) → IsBeginning xs w.published → IsBeginning xs w'.published
  pub noted : (note : NoteNumber) → Among w.notes note → Among w'.notes note
  pub words : (f : BlockWord) → WordKept w f → WordKept w' f

-- then each seat knows what it must
pub knows_more : (w w' : WriterView) → WriterGrows w w' → (place : ℕ) (v : View) → Knows w place v → Knows w' place v
knows_more w w' more place (Writer x) h = h
knows_more w w' more place (Member m) h = record {
  numbered = h.numbered;
  made = subst (λ (n : ℕ). place < n) (sym more.members) h.made;
  seen = more.learnt m.seen h.seen;
  holds = h.holds;
  noted = λ note among. more.noted note (h.noted note among);
  own_slots = λ process other. h.own_slots process (λ is. other (record { below = is.below; own = ap (λ (n : ℕ). process % n) more.members ∙ is.own }));
  words = λ f among. more.words f (h.words f among);
}
knows_more w w' more place (Watcher v) h = record {
  numbered = subst (λ (n : ℕ). n + v.watcher.number ≡ place) (sym more.members) h.numbered;
  made = subst (λ (n : ℕ). v.watcher.number < n) (sym more.watchers) h.made;
  seen = more.learnt v.seen h.seen;
  words = λ f among. more.words f (h.words f among);
}
knows_more w w' more place (Note n) h = record {
  behind = subst (λ (z : ℕ × ℕ). z.0 + z.1 ≤ place) (λ i. (sym more.members i, sym more.watchers i)) h.behind;
  seen = more.learnt n.seen h.seen;
  noted = more.noted n.note h.noted;
  learnt = h.learnt;
}
knows_more w w' more place Spent h = h

module _ {Served : Published → Type 0} {opening : Opening} (s : State (Unit {0}) View) (r : RunningRule Served opening s) where
  -- the rule after a step of the writer
  pub writer_changes : (words' : List ℕ) (w' : WriterView) → WriterGrows r.writer w' → w'.members ≡ r.writer.members → w'.watchers ≡ r.writer.watchers → w'.handed ≡ r.writer.handed → w'.taken ≡ r.writer.taken → PublishedKept Served opening w' → WordsAgree words' w' → MachineHolds words' w' r.seats → LooksKept w' → MarksKept words' w' r.seats → RunningRule Served opening (after_step s words' 0 (Writer w'))
  writer_changes words' w' more members watchers handed taken published words machine looks marks = record {
    writer = w';
    seats = r.seats;
    views = ap (λ (vs : List View). set vs 0 (Writer w')) r.views;
    published = published;
    words = words;
    each_seat = λ place v at. knows_more r.writer w' more place v (r.each_seat place v at);
    machine = machine;
    handed = λ few. r.handed (let long = more.members in let watched = more.watchers in omega (arith, few, handed, long, watched)) ∙ sym handed;
    out = subst (λ (n : ℕ). n ≤ length r.seats) (sym handed) r.out;
    at_home = λ k m at. knows_more r.writer w' more k (Member m) (r.at_home k m (ap (λ (xs : List MemberView). slice_get xs k) (sym members) ∙ at));
    watchers_home = λ k v at. more.learnt v.seen (r.watchers_home k v (ap (λ (xs : List WatcherView). slice_get xs k) (sym watchers) ∙ at));
    looks = looks;
    marks = marks;
    come = λ number among.
        let come = r.come number (subst (λ (xs : List ℕ). Among xs number) taken among) in
        record { made = subst (λ (n : ℕ). number < n) (sym more.members) come.made; spent = come.spent };
  }

  -- the same of a step that leaves the slots, and what is kept of looks
  pub writer_step : (words' : List ℕ) (w' : WriterView) → WriterGrows r.writer w' → w'.members ≡ r.writer.members → w'.watchers ≡ r.writer.watchers → w'.handed ≡ r.writer.handed → w'.taken ≡ r.writer.taken → LooksStay s.words words' r.writer w' → PublishedKept Served opening w' → WordsAgree words' w' → MachineHolds words' w' r.seats → RunningRule Served opening (after_step s words' 0 (Writer w'))
  writer_step words' w' more members watchers handed taken stay published words machine =
      writer_changes words' w' more members watchers handed taken published words machine (looks_stay s.words words' r.writer w' stay r.looks)
      (marks_stay s.words words' r.writer w' r.seats r.seats stay more.members (ap (λ (xs : List MemberView). views_shown xs r.seats) members) r.marks)

  -- the seat with a writer's view is the first
  pub writer_at : (id : ℕ) (w : WriterView) → get_elem? s.views id ≡ some (Writer w) → (id ≡ 0) × (r.writer ≡ w)
  writer_at zero w at = (refl, ap writer_of (some-injective (Writer r.writer) (Writer w) (ap (λ (vs : List View). get_elem? vs 0) (sym r.views) ∙ at)))
  writer_at (suc k) w at = absurd (r.each_seat k (Writer w) (ap (λ (vs : List View). get_elem? vs (suc k)) (sym r.views) ∙ at))
