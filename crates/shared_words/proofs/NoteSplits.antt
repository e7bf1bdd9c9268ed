-- The split of a note keeps the rule: a new seat stands behind all others, and the writer keeps its number.
use Rattle.std.proofs.Common.{◌≡◌, ℕ, zero, suc, ◌+◌, ◌≤◌, ⊎_elim, List, [], ◌∷◌, ◌++◌, length, length-append, drop, set, refl, sym, ap, subst, ◌∙◌, arith}
use mathlib.Core.Option.{some, some-injective}
use lib.ListN.{get_elem?}
use Rattle.std.specs.Prelude.{Some, slice_get}
use Rattle.atomic_table.specs.Table.{State, Splits}
use Rattle.atomic_table.proofs.Lists.{at_longer}
use Rattle.prgr_core.specs.declared.member.Member as machines
use Rattle.prgr_core.specs.declared.watcher.Watcher as watching
use Rattle.prgr_core.specs.Step.{IsSound}
use Rattle.prgr_core.proofs.Parts.{slice_get-push_at}
use Rattle.area_core.specs.declared.table.Published.{Published}
use Rattle.shared_words.specs.declared.opening.Opening.{Opening}
use Rattle.shared_words.specs.declared.view.NoteView.{NoteView}
use Rattle.shared_words.specs.declared.view.MemberView.{MemberView}
use Rattle.shared_words.specs.declared.view.WatcherView.{WatcherView}
use Rattle.shared_words.specs.declared.view.WriterView.{WriterView}
use Rattle.shared_words.specs.declared.view.View.{View}
use Rattle.shared_words.specs.declared.view.View.TheVariants.{Writer, Member, Note, Spent}
use Rattle.shared_words.specs.Shown.{member_shown, members_shown, watcher_shown, watchers_shown, progress_of}
use Rattle.shared_words.specs.Notes.{SplitsNote, IsSplittingNote, note_number, with_note, note_begun, note_left, note_right}
use Rattle.shared_words.specs.Rule.{NoteFits, Knows, RunningRule}
use Rattle.shared_words.proofs.ShownMembers.{still_at}
use Rattle.shared_words.proofs.KeptWords.{kept_as}
use Rattle.shared_words.proofs.OpeningRule.{last_get, at_push}
use Rattle.shared_words.proofs.RootLoads.{whole}
use Rattle.shared_words.proofs.ShownViews.{views_more}
use Rattle.shared_words.proofs.SlotFrames.{LooksStay, looks_same, looks_stay, marks_stay, ended_as}
use Rattle.shared_words.proofs.WriterFrames.{WriterGrows, knows_more}

-- ---- a seat more at the end

pub members_more : (members : List MemberView) (seats : List View) (v : View) → length members ≤ length seats → members_shown members (seats ++ v ∷ []) ≡ members_shown members seats
members_more [] seats v few = refl
members_more (kept ∷ members) [] v few = absurd (omega arith)
members_more (kept ∷ members) (seat ∷ seats) v few = ap (λ (xs : List machines.Member). member_shown kept seat ∷ xs) (members_more members seats v (omega arith))

watchers_more_first : (watchers : List WatcherView) (seats : List View) (v : View) → length watchers ≤ length seats → watchers_shown watchers (seats ++ v ∷ []) ≡ watchers_shown watchers seats
watchers_more_first [] seats v few = refl
watchers_more_first (kept ∷ watchers) [] v few = absurd (omega arith)
watchers_more_first (kept ∷ watchers) (seat ∷ seats) v few = ap (λ (xs : List watching.Watcher). watcher_shown kept seat ∷ xs) (watchers_more_first watchers seats v (omega arith))

watchers_more : (n : ℕ) (watchers : List WatcherView) (seats : List View) (v : View) → n + length watchers ≤ length seats → watchers_shown watchers (drop n (seats ++ v ∷ [])) ≡ watchers_shown watchers (drop n seats)
watchers_more zero watchers seats v few = watchers_more_first watchers seats v (omega arith)
watchers_more (suc n) watchers [] v few = absurd (omega arith)
watchers_more (suc n) watchers (seat ∷ seats) v few = watchers_more n watchers seats v (omega arith)

-- ---- the rule

splits : {Served : Published → Type 0} {about : Opening} (process : ℕ) (s : State (Unit {0}) View) (r : RunningRule Served about s) → SplitsNote about process r.writer
    → RunningRule Served about record { words = s.words; homes = s.homes; views = set s.views 0 (note_left process (Writer r.writer)) ++ note_right process (Writer r.writer) ∷ [] }
splits process s r may =
    let w = r.writer in
    let w' : WriterView = with_note process w in
    let n : NoteView = note_begun process w in
    let first = r.published.some in
    let behind : length w.members + length w.watchers ≤ length r.seats = omega (arith, r.published.made, r.published.watched, may.out, r.out) in
    let same = members_more w.members r.seats (Note n) (omega (arith, behind)) in
    let more : WriterGrows w w' = record { members = refl; watchers = refl; learnt = λ xs is. is; noted = λ note among. (among.0, still_at w.notes (note_number process w ∷ []) among.0 note among.1); words = kept_as w w' refl refl refl (λ g may. may) } in
    let stay : LooksStay s.words s.words w w' = looks_same s.words w w' refl (ended_as w w' refl refl (omega arith)) in
    record {
      writer = w';
      seats = r.seats ++ Note n ∷ [];
      views = ap (λ (vs : List View). set vs 0 (Writer w') ++ Note n ∷ []) r.views;
      published = record {
        made = r.published.made;
        staffed = r.published.staffed;
        watched = r.published.watched;
        some = r.published.some;
        served = r.published.served;
        old_stays = r.published.old_stays;
        retired_stays = r.published.retired_stays;
        areas_stay = r.published.areas_stay;
        notes_fit = λ note among. ⊎_elim (λ (before : slice_get w.notes among.0 ≡ Some note). r.published.notes_fit note (among.0, before))
            (λ (last : (among.0 ≡ length w.notes) × (note ≡ note_number process w)). subst (NoteFits w.published) (sym last.1) (record { process = may.may.below; counted = omega (arith, first) }))
            (slice_get-push_at w.notes (note_number process w) among.0 note among.1);
      };
      words = record { all = r.words.all; root = r.words.root; mirror = r.words.mirror; mirrored = r.words.mirrored; reached = r.words.reached; blocks = r.words.blocks };
      each_seat = λ place v at. ⊎_elim (λ (t : get_elem? r.seats place ≡ some v). knows_more w w' more place v (r.each_seat place v t))
          (λ (t : (place ≡ length r.seats) × (Note n ≡ v)). subst (λ (z : ℕ × View). Knows w' z.0 z.1) (λ i. (sym t.0 i, t.1 i)) (record {
            behind = behind;
            seen = whole w.published;
            noted = (length w.notes, last_get w.notes (note_number process w));
            learnt = omega (arith, first);
          }))
          (at_push r.seats (Note n) place v at);
      machine = record {
        progress = subst IsSound (λ i. record (progress_of s.words w r.seats) { members = sym same i; watchers = sym (watchers_more (length w.members) w.watchers r.seats (Note n) behind) i }) r.machine.progress;
        own_words = λ k a at. r.machine.own_words k a (ap (λ (xs : List machines.Member). slice_get xs k) (sym same) ∙ at);
        others_wait = r.machine.others_wait;
        leader_made = r.machine.leader_made;
      };
      handed = λ few. absurd (omega (arith, few, r.published.made, r.published.watched, may.out));
      out = omega (arith, r.out, length-append r.seats (Note n ∷ []));
      at_home = λ k x at. knows_more w w' more k (Member x) (r.at_home k x at);
      watchers_home = r.watchers_home;
      looks = looks_stay s.words s.words w w' stay r.looks;
      marks = marks_stay s.words s.words w w' r.seats (r.seats ++ Note n ∷ []) stay refl (views_more w.members r.seats (Note n) (omega (arith, behind))) r.marks;
      come = λ number among. record { made = (r.come number among).made; spent = at_longer r.seats (Note n ∷ []) number Spent (r.come number among).spent };
    }

-- the writer may split a note once all other seats are handed out
pub split_note_is_allowed : (Served : Published → Type 0) (about : Opening) (process id : ℕ) (v : View) → IsSplittingNote about process v → Splits (RunningRule Served about) id v (note_left process v) (note_right process v)
split_note_is_allowed Served about process zero v may s r at =
    let is : Writer r.writer ≡ v = some-injective (Writer r.writer) v (ap (λ (vs : List View). get_elem? vs 0) (sym r.views) ∙ at) in
    subst (λ (x : View). IsSplittingNote about process x → RunningRule Served about record { words = s.words; homes = s.homes; views = set s.views 0 (note_left process x) ++ note_right process x ∷ [] }) is
    (λ may. splits process s r may) may
split_note_is_allowed Served about process (suc k) (Writer w) may s r at = absurd (r.each_seat k (Writer w) (ap (λ (vs : List View). get_elem? vs (suc k)) (sym r.views) ∙ at))
split_note_is_allowed Served about process (suc k) v may s r at = absurd may
