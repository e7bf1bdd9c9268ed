-- What a step of a watcher leaves of the rule, and of the watchers that the seats show.
use Rattle.std.proofs.Common.{◌≡◌, ℕ, zero, suc, ◌+◌, ◌<◌, ◌≤◌, List, [], ◌∷◌, ◌++◌, length, length-set, drop, set, refl, sym, ap, subst, ◌∙◌, arith}
use mathlib.Core.Option.{some, some-injective, some-ne-none}
use lib.ListN.{get_elem?}
use Rattle.std.specs.Prelude.{Some, slice_get, slice_set, slice_index}
use Rattle.atomic_table.specs.Table.{State}
use Rattle.atomic_table.proofs.Lists.{set_else}
use Rattle.prgr_core.specs.declared.member.Member as machines
use Rattle.prgr_core.specs.declared.watcher.Watcher as watching
use Rattle.prgr_core.specs.Step.{with_watcher}
use Rattle.area_core.specs.declared.table.Published.{Published}
use Rattle.shared_words.specs.declared.table.TheConstants.{LEAD, CONFIRMED}
use Rattle.shared_words.specs.declared.opening.Opening.{Opening}
use Rattle.shared_words.specs.declared.view.WatcherView.{WatcherView}
use Rattle.shared_words.specs.declared.view.WriterView.{WriterView}
use Rattle.shared_words.specs.declared.view.View.{View}
use Rattle.shared_words.specs.declared.view.View.TheVariants.{Writer, Watcher}
use Rattle.shared_words.specs.Shown.{watcher_shown, watchers_shown, progress_of}
use Rattle.shared_words.specs.Rule.{WatcherKnows, RunningRule}
use Rattle.shared_words.proofs.ShownMembers.{shown_behind}
use Rattle.shared_words.proofs.ShownViews.{views_behind}
use Rattle.shared_words.proofs.SlotFrames.{same_slot, LooksStay, marks_stay}
use Rattle.shared_words.proofs.Frames.{after_step, KeepsRest, words_kept, seats_kept, Moves, moves_sound}

-- ---- the watchers that are shown

at_first : (watchers : List WatcherView) (seats : List View) (k : ℕ) (v : WatcherView) → k < length watchers → get_elem? seats k ≡ some (Watcher v) → slice_get (watchers_shown watchers seats) k ≡ Some v.watcher
at_first [] seats k v few at = absurd (omega arith)
at_first (kept ∷ watchers) [] k v few at = absurd (some-ne-none (Watcher v) (sym at))
at_first (kept ∷ watchers) (seat ∷ seats) zero v few at = ap (λ x. Some (watcher_shown kept x)) (some-injective seat (Watcher v) at)
at_first (kept ∷ watchers) (seat ∷ seats) (suc k) v few at = at_first watchers seats k v (omega arith) at

-- a watcher whose seat is handed out is the one in its view
pub watcher_at : (n : ℕ) (watchers : List WatcherView) (seats : List View) (place k : ℕ) (v : WatcherView) → n + k ≡ place → k < length watchers → get_elem? seats place ≡ some (Watcher v) → slice_get (watchers_shown watchers (drop n seats)) k ≡ Some v.watcher
watcher_at zero watchers seats place k v is few at = at_first watchers seats k v few (let same : k ≡ place = omega (arith, is) in ap (get_elem? seats) same ∙ at)
watcher_at (suc n) watchers [] place k v is few at = absurd (some-ne-none (Watcher v) (sym at))
watcher_at (suc n) watchers (seat ∷ seats) zero k v is few at = absurd (omega (arith, is))
watcher_at (suc n) watchers (seat ∷ seats) (suc place) k v is few at = watcher_at n watchers seats place k v (omega (arith, is)) few at

set_first : (watchers : List WatcherView) (seats : List View) (k : ℕ) (v : WatcherView) → k < length watchers → k < length seats → watchers_shown watchers (set seats k (Watcher v)) ≡ slice_set (watchers_shown watchers seats) k v.watcher
set_first [] seats k v few within = absurd (omega arith)
set_first (kept ∷ watchers) [] k v few within = absurd (omega arith)
set_first (kept ∷ watchers) (seat ∷ seats) zero v few within = refl
set_first (kept ∷ watchers) (seat ∷ seats) (suc k) v few within = ap (λ (xs : List watching.Watcher). watcher_shown kept seat ∷ xs) (set_first watchers seats k v (omega arith) (omega arith))

-- a new view of a watcher's seat changes that watcher alone
pub watcher_set : (n : ℕ) (watchers : List WatcherView) (seats : List View) (place k : ℕ) (v : WatcherView) → n + k ≡ place → k < length watchers → place < length seats → watchers_shown watchers (drop n (set seats place (Watcher v))) ≡ slice_set (watchers_shown watchers (drop n seats)) k v.watcher
watcher_set zero watchers seats place k v is few within =
    let same : k ≡ place = omega (arith, is) in
    ap (λ (i : ℕ). watchers_shown watchers (set seats i (Watcher v))) (sym same) ∙ set_first watchers seats k v few (omega (arith, same, within))
watcher_set (suc n) watchers [] place k v is few within = absurd (omega arith)
watcher_set (suc n) watchers (seat ∷ seats) zero k v is few within = absurd (omega (arith, is))
watcher_set (suc n) watchers (seat ∷ seats) (suc place) k v is few within = watcher_set n watchers seats place k v (omega (arith, is)) few (omega (arith, within))

kept_first : (watchers : List WatcherView) (seats : List View) (k : ℕ) (kept : WatcherView) → length seats ≤ k → slice_get watchers k ≡ Some kept → slice_get (watchers_shown watchers seats) k ≡ Some kept.watcher
kept_first [] seats k kept late at = absurd (cc)
kept_first (first ∷ watchers) [] zero kept late at = (let is : first ≡ kept = cc in ap (λ (x : WatcherView). Some x.watcher) is)
kept_first (first ∷ watchers) [] (suc k) kept late at = kept_first watchers [] k kept (omega arith) at
kept_first (first ∷ watchers) (seat ∷ seats) zero kept late at = absurd (omega arith)
kept_first (first ∷ watchers) (seat ∷ seats) (suc k) kept late at = kept_first watchers seats k kept (omega arith) at

-- a watcher whose seat is at home is the one that the writer keeps
pub watcher_kept : (n : ℕ) (watchers : List WatcherView) (seats : List View) (k : ℕ) (kept : WatcherView) → length seats ≤ n + k → slice_get watchers k ≡ Some kept → slice_get (watchers_shown watchers (drop n seats)) k ≡ Some kept.watcher
watcher_kept zero watchers seats k kept late at = kept_first watchers seats k kept (omega arith) at
watcher_kept (suc n) watchers [] k kept late at = kept_first watchers [] k kept (omega arith) at
watcher_kept (suc n) watchers (seat ∷ seats) k kept late at = watcher_kept n watchers seats k kept (omega arith) at

push_first : (watchers : List WatcherView) (seats : List View) (v kept : WatcherView) → slice_get watchers (length seats) ≡ Some kept → v.watcher ≡ kept.watcher → watchers_shown watchers (seats ++ Watcher v ∷ []) ≡ watchers_shown watchers seats
push_first [] seats v kept at same = absurd (cc)
push_first (first ∷ watchers) [] v kept at same = (let is : first ≡ kept = cc in ap (λ (x : watching.Watcher). x ∷ watchers_shown watchers []) (same ∙ ap (λ (x : WatcherView). x.watcher) (sym is)))
push_first (first ∷ watchers) (seat ∷ seats) v kept at same = ap (λ (xs : List watching.Watcher). watcher_shown first seat ∷ xs) (push_first watchers seats v kept at same)

-- a watcher's seat that is handed out shows the watcher as it was kept
pub watcher_push : (n : ℕ) (watchers : List WatcherView) (seats : List View) (k : ℕ) (v kept : WatcherView) → length seats ≡ n + k → slice_get watchers k ≡ Some kept → v.watcher ≡ kept.watcher → watchers_shown watchers (drop n (seats ++ Watcher v ∷ [])) ≡ watchers_shown watchers (drop n seats)
watcher_push zero watchers seats k v kept long at same = push_first watchers seats v kept (let is : length seats ≡ k = omega (arith, long) in ap (slice_get watchers) is ∙ at) same
watcher_push (suc n) watchers [] k v kept long at same = absurd (omega (arith, long))
watcher_push (suc n) watchers (seat ∷ seats) k v kept long at same = watcher_push n watchers seats k v kept (omega (arith, long)) at same

-- ---- a step

-- the state of the machine with another watcher
pub progress_watched : (words : List ℕ) (w : WriterView) (seats : List View) (place k : ℕ) (v : WatcherView) → length w.members + k ≡ place → k < length w.watchers → place < length seats → progress_of words w (set seats place (Watcher v)) ≡ with_watcher (progress_of words w seats) k v.watcher
progress_watched words w seats place k v is few within = λ i. record (progress_of words w seats) {
  members = shown_behind w.members seats place (Watcher v) (omega (arith, is)) i;
  watchers = watcher_set (length w.members) w.watchers seats place k v is few within i;
}

-- what a step of a watcher owes, with a new view and perhaps a new delay count
pub record WatcherStep (words words' : List ℕ) (w : WriterView) (seats : List View) (place : ℕ) (v : WatcherView) : Type 0 where
  pub rest : KeepsRest words words'
  pub knows : WatcherKnows w place v
  pub moves : Moves (progress_of words w seats) (progress_of words' w (set seats place (Watcher v)))
  pub members : (j : ℕ) → slice_index words' (CONFIRMED + j) ≡ slice_index words (CONFIRMED + j)
  pub leader : slice_index words' LEAD ≡ slice_index words LEAD

module _ {Served : Published → Type 0} {opening : Opening} (s : State (Unit {0}) View) (r : RunningRule Served opening s) where
  -- a seat with a watcher's view is one behind the writer's
  pub watcher_seat : (id : ℕ) (v : WatcherView) → get_elem? s.views id ≡ some (Watcher v) → (k : ℕ) × (id ≡ suc k) × (get_elem? r.seats k ≡ some (Watcher v))
  watcher_seat zero v at = absurd (let is : Writer r.writer ≡ Watcher v = some-injective (Writer r.writer) (Watcher v) (ap (λ (vs : List View). get_elem? vs 0) (sym r.views) ∙ at) in cc)
  watcher_seat (suc k) v at = (k, refl, ap (λ (vs : List View). get_elem? vs (suc k)) (sym r.views) ∙ at)

  -- its record is the one in its view
  pub watcher_here : (place : ℕ) (v : WatcherView) → get_elem? r.seats place ≡ some (Watcher v) → slice_get (progress_of s.words r.writer r.seats).watchers v.watcher.number ≡ Some v.watcher
  watcher_here place v at =
      let knows = r.each_seat place (Watcher v) at in
      watcher_at (length r.writer.members) r.writer.watchers r.seats place v.watcher.number v knows.numbered knows.made at

  -- the rule after the step
  pub watcher_step : (words' : List ℕ) (place : ℕ) (v : WatcherView) → WatcherStep s.words words' r.writer r.seats place v → RunningRule Served opening (after_step s words' (suc place) (Watcher v))
  watcher_step words' place v step =
      let behind : length r.writer.members ≤ place = (let number = step.knows.numbered in omega (arith, number)) in
      let same = shown_behind r.writer.members r.seats place (Watcher v) behind in
      let stay : LooksStay s.words words' r.writer r.writer = record { looks = refl; ended = λ wait h. h; slots = λ process at below within. same_slot s.words words' step.rest.behind process at } in record {
        writer = r.writer;
        seats = set r.seats place (Watcher v);
        views = ap (λ (vs : List View). set vs (suc place) (Watcher v)) r.views;
        published = r.published;
        words = words_kept s.words words' r.writer step.rest r.words;
        each_seat = seats_kept r.writer r.seats place (Watcher v) r.each_seat step.knows;
        machine = record {
          progress = moves_sound (progress_of s.words r.writer r.seats) (progress_of words' r.writer (set r.seats place (Watcher v))) r.machine.progress step.moves;
          own_words = λ j a here. step.members j ∙ r.machine.own_words j a (ap (λ (xs : List machines.Member). slice_get xs j) (sym same) ∙ here);
          others_wait = λ j late few. step.members j ∙ r.machine.others_wait j late few;
          leader_made = subst (λ (n : ℕ). n ≤ length r.writer.members) (sym step.leader) r.machine.leader_made;
        };
        handed = λ more. length-set r.seats place (Watcher v) ∙ r.handed more;
        out = omega (arith, r.out, length-set r.seats place (Watcher v));
        at_home = r.at_home;
        watchers_home = r.watchers_home;
        looks = r.looks;
        marks = marks_stay s.words words' r.writer r.writer r.seats (set r.seats place (Watcher v)) stay refl (views_behind r.writer.members r.seats place (Watcher v) behind) r.marks;
        come = λ number among.
            let come = r.come number among in
            let made = come.made in
            record { made = come.made; spent = set_else r.seats place number (Watcher v) (λ e. absurd (omega (arith, behind))) ∙ come.spent };
      }
