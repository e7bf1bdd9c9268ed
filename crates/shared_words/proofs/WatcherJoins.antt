-- The join of a watcher's seat to the writer's keeps the rule: the writer keeps what the watcher knew, and its seat is spent.
use Rattle.std.proofs.Common.{◌≡◌, ℕ, zero, suc, ◌+◌, ◌<◌, ◌≤◌, ⊎_elim, List, [], ◌∷◌, length, length-set, drop, set, refl, sym, ap, subst, ◌∙◌, arith}
use mathlib.Core.Option.{none, some, some-injective, some-ne-none}
use lib.ListN.{get_elem?}
use lib.Seq.{set-get_or}
use Rattle.std.specs.Prelude.{slice_get, slice_set}
use Rattle.atomic_table.specs.Table.{State, Joins, keeps, step, Allows}
use Rattle.atomic_table.proofs.Lists.{at_set, set_else}
use Rattle.prgr_core.specs.declared.member.Member as machines
use Rattle.prgr_core.specs.declared.watcher.Watcher as watching
use Rattle.prgr_core.specs.Step.{IsSound}
use Rattle.prgr_core.proofs.Parts.{slice_get-slice_set}
use Rattle.area_core.specs.declared.table.Published.{Published}
use Rattle.shared_words.specs.declared.table.TheConstants.{ROOT}
use Rattle.shared_words.specs.declared.opening.Opening.{Opening}
use Rattle.shared_words.specs.declared.view.WatcherView.{WatcherView}
use Rattle.shared_words.specs.declared.view.WriterView.{WriterView}
use Rattle.shared_words.specs.declared.view.View.{View}
use Rattle.shared_words.specs.declared.view.View.TheVariants.{Writer, Member, Watcher, Spent}
use Rattle.shared_words.specs.Shown.{members_shown, watcher_shown, watchers_shown, progress_of}
use Rattle.shared_words.specs.Seats.{watcher_of, writer_of}
use Rattle.shared_words.specs.Kinds.{Sat}
use Rattle.shared_words.specs.Rule.{IsBeginning, Knows, WatcherKnows, RunningRule}
use Rattle.shared_words.specs.Closing.{watcher_put, with_watcher, watcher_taken, HaveLearnt, watchers_seen}
use Rattle.shared_words.proofs.KeptWords.{kept_as}
use Rattle.shared_words.proofs.ShownMembers.{shown_behind}
use Rattle.shared_words.proofs.ShownViews.{views_behind}
use Rattle.shared_words.proofs.SlotFrames.{LooksStay, looks_same, looks_stay, marks_stay, ended_as}
use Rattle.shared_words.proofs.Frames.{after_step}
use Rattle.shared_words.proofs.CounterLoads.{same_step}
use Rattle.shared_words.proofs.WatcherFrames.{watcher_seat}
use Rattle.shared_words.proofs.WriterFrames.{WriterGrows, knows_more, writer_at}

-- ---- the watchers that are shown

-- within the list, the watcher takes the place of the one there
put_is : (k : ℕ) (v : WatcherView) (watchers : List WatcherView) → k < length watchers → watcher_put k v watchers ≡ slice_set watchers k v
put_is k v [] few = absurd (omega arith)
put_is zero v (kept ∷ watchers) few = refl
put_is (suc k) v (kept ∷ watchers) few = ap (λ (xs : List WatcherView). kept ∷ xs) (put_is k v watchers (omega arith))

taken_first : (watchers : List WatcherView) (seats : List View) (k : ℕ) (v : WatcherView) → k < length watchers → get_elem? seats k ≡ some (Watcher v) → watchers_shown (slice_set watchers k v) (set seats k Spent) ≡ watchers_shown watchers seats
taken_first [] seats k v few at = absurd (omega arith)
taken_first (kept ∷ watchers) [] k v few at = absurd (some-ne-none (Watcher v) (sym at))
taken_first (kept ∷ watchers) (seat ∷ seats) zero v few at = ap (λ (x : View). watcher_shown kept x ∷ watchers_shown watchers seats) (sym (some-injective seat (Watcher v) at))
taken_first (kept ∷ watchers) (seat ∷ seats) (suc k) v few at = ap (λ (xs : List watching.Watcher). watcher_shown kept seat ∷ xs) (taken_first watchers seats k v (omega arith) at)

-- the watchers are shown as before
shown_taken : (n : ℕ) (watchers : List WatcherView) (seats : List View) (place k : ℕ) (v : WatcherView) → n + k ≡ place → k < length watchers → get_elem? seats place ≡ some (Watcher v) → watchers_shown (slice_set watchers k v) (drop n (set seats place Spent)) ≡ watchers_shown watchers (drop n seats)
shown_taken zero watchers seats place k v is few at =
    let same : k ≡ place = omega (arith, is) in
    ap (λ (i : ℕ). watchers_shown (slice_set watchers k v) (set seats i Spent)) (sym same) ∙ taken_first watchers seats k v few (ap (get_elem? seats) same ∙ at)
shown_taken (suc n) watchers [] place k v is few at = absurd (some-ne-none (Watcher v) (sym at))
shown_taken (suc n) watchers (seat ∷ seats) zero k v is few at = absurd (omega (arith, is))
shown_taken (suc n) watchers (seat ∷ seats) (suc place) k v is few at = shown_taken n watchers seats place k v (omega (arith, is)) few at

-- ---- the rule

module _ {Served : Published → Type 0} {about : Opening} (s : State (Unit {0}) View) (r : RunningRule Served about s) (place : ℕ) (v : WatcherView) (at : get_elem? r.seats place ≡ some (Watcher v)) where
  abbrev taken : WriterView
  taken = record r.writer { watchers = slice_set r.writer.watchers v.watcher.number v }

  knows : WatcherKnows r.writer place v
  knows = r.each_seat place (Watcher v) at

  long : length (slice_set r.writer.watchers v.watcher.number v) ≡ length r.writer.watchers
  long = length-set r.writer.watchers v.watcher.number v

  behind : length r.writer.members ≤ place
  behind = (let number = knows.numbered in omega (arith, number))

  more : WriterGrows r.writer taken
  more = record { members = refl; watchers = long; learnt = λ xs is. is; noted = λ note is. is; words = kept_as r.writer taken refl refl refl (λ g may. may) }

  members_same : members_shown r.writer.members (set r.seats place Spent) ≡ members_shown r.writer.members r.seats
  members_same = shown_behind r.writer.members r.seats place Spent behind

  same : watchers_shown (slice_set r.writer.watchers v.watcher.number v) (drop (length r.writer.members) (set r.seats place Spent)) ≡ watchers_shown r.writer.watchers (drop (length r.writer.members) r.seats)
  same = shown_taken (length r.writer.members) r.writer.watchers r.seats place v.watcher.number v knows.numbered knows.made at

  stay : LooksStay s.words s.words r.writer taken
  stay = looks_same s.words r.writer taken refl (ended_as r.writer taken refl refl (omega arith))

  takes : RunningRule Served about record { words = s.words; homes = s.homes; views = set (set s.views 0 (Writer taken)) (suc place) Spent }
  takes = record {
    writer = taken;
    seats = set r.seats place Spent;
    views = ap (λ (vs : List View). set (set vs 0 (Writer taken)) (suc place) Spent) r.views;
    published = record { made = r.published.made; staffed = r.published.staffed; watched = long ∙ r.published.watched; some = r.published.some; served = r.published.served; old_stays = r.published.old_stays; retired_stays = r.published.retired_stays; areas_stay = r.published.areas_stay; notes_fit = r.published.notes_fit };
    words = record { all = r.words.all; root = r.words.root; mirror = r.words.mirror; mirrored = r.words.mirrored; reached = r.words.reached; blocks = r.words.blocks };
    each_seat = λ at' x here. ⊎_elim (λ (t : (at' ≡ place) × (Spent ≡ x)). subst (λ (y : View). Knows taken at' y) t.1 tt)
        (λ t. knows_more r.writer taken more at' x (r.each_seat at' x t.1))
        (at_set r.seats place at' Spent x here);
    machine = record {
      progress = subst IsSound (λ i. record (progress_of s.words r.writer r.seats) { members = sym members_same i; watchers = sym same i }) r.machine.progress;
      own_words = λ j a here. r.machine.own_words j a (ap (λ (xs : List machines.Member). slice_get xs j) (sym members_same) ∙ here);
      others_wait = r.machine.others_wait;
      leader_made = r.machine.leader_made;
    };
    handed = λ few. length-set r.seats place Spent ∙ r.handed (omega (arith, few, long));
    out = omega (arith, r.out, length-set r.seats place Spent);
    at_home = λ j x here. knows_more r.writer taken more j (Member x) (r.at_home j x here);
    watchers_home = λ j x here. ⊎_elim (λ (t : (j ≡ v.watcher.number) × (x ≡ v)). subst (λ (y : WatcherView). IsBeginning y.seen r.writer.published) (sym t.1) knows.seen)
        (λ t. r.watchers_home j x t.1)
        (slice_get-slice_set r.writer.watchers v.watcher.number v j x here);
    looks = looks_stay s.words s.words r.writer taken stay r.looks;
    marks = marks_stay s.words s.words r.writer taken r.seats (set r.seats place Spent) stay refl (views_behind r.writer.members r.seats place Spent behind) r.marks;
    come = λ number among.
        let come = r.come number among in
        let made = come.made in
        record { made = come.made; spent = set_else r.seats place number Spent (λ e. absurd (omega (arith, behind))) ∙ come.spent };
  }

  pub takes_in_watcher : RunningRule Served about record { words = s.words; homes = s.homes; views = set (set s.views 0 (Writer (with_watcher v r.writer))) (suc place) Spent }
  takes_in_watcher = subst (λ (ws : List WatcherView). RunningRule Served about record { words = s.words; homes = s.homes; views = set (set s.views 0 (Writer (record r.writer { watchers = ws }))) (suc place) Spent }) (sym (put_is v.watcher.number v r.writer.watchers knows.made)) takes

joins : (Served : Published → Type 0) (about : Opening) (id other : ℕ) (w : WriterView) (v : WatcherView) → Joins (RunningRule Served about) id (Writer w) other (Watcher v) (Writer (with_watcher v w)) Spent
joins Served about id other w v s r at apart there =
    let seat = writer_at s r id w at in
    let here : get_elem? s.views other ≡ some (Watcher v) = sym (set_else s.views id other (Writer (with_watcher v w)) apart) ∙ there in
    let place = watcher_seat s r other v here in
    subst (λ (z : ℕ × (ℕ × WriterView)). RunningRule Served about record { words = s.words; homes = s.homes; views = set (set s.views z.0 (Writer (with_watcher v z.1.1))) z.1.0 Spent }) (λ i. (sym seat.0 i, (sym place.1 i, seat.1 i))) (takes_in_watcher s r place.0 v place.2)

-- a watcher's seat may be joined to the writer's
pub take_in_watcher_is_allowed : (Served : Published → Type 0) (about : Opening) (id other : ℕ) (v u : View) → v ≡ Writer (writer_of v) → u ≡ Watcher (watcher_of u) → Joins (RunningRule Served about) id v other u (watcher_taken v u) Spent
take_in_watcher_is_allowed Served about id other v u is watcher =
    subst (λ (z : View × View). Joins (RunningRule Served about) id z.0 other z.1 (watcher_taken z.0 z.1) Spent) (λ i. (sym is i, sym watcher i)) (joins Served about id other (writer_of v) (watcher_of u))

-- a load tells of which generations the watchers had learnt that came in
pub see_watchers_is_allowed : (Served : Published → Type 0) (about : Opening) (slots id : ℕ) (me : Sat) → me.0 ≡ Writer (writer_of me.0) → Allows (RunningRule Served about) slots id me ROOT (λ n. n) (watchers_seen (step slots ROOT 0 0 none) me)
see_watchers_is_allowed Served about slots id me is s r wide at fits = (
  me.0,
  keeps,
  tt,
  subst (λ (ws : List ℕ). RunningRule Served about (after_step s ws id me.0)) (sym (set-get_or s.words ROOT 0)) (same_step s r id me.0 at),
  record {
    same = refl;
    learnt = λ w view. (let seat = writer_at s r id w (at ∙ ap some view) in subst HaveLearnt seat.1 r.watchers_home);
  },
)
