-- The seats of watchers as they are handed out, once those of the members are.
use Rattle.std.proofs.Common.{◌≡◌, ℕ, zero, suc, ◌+◌, ◌-◌, ◌<◌, ◌≤◌, ⊎_elim, List, [], ◌∷◌, ◌++◌, length, length-append, set, refl, sym, ap, subst, ◌∙◌, arith}
use mathlib.Core.Option.{some, some-injective}
use mathlib.Core.Logic.{dite}
use native.Mathlib.Decide.{ℕ_discrete}
use lib.ListN.{get_elem?}
use Rattle.std.specs.Prelude.{Option, Some, slice_get, unwrap_or}
use Rattle.atomic_table.specs.Table.{State, Splits}
use Rattle.atomic_table.specs.Seated.{TableId}
use Rattle.atomic_table.proofs.Lists.{at_longer}
use Rattle.prgr_core.specs.declared.member.Member as machines
use Rattle.prgr_core.specs.Step.{IsSound}
use Rattle.prgr_core.proofs.Parts.{slice_get-push_at}
use Rattle.area_core.specs.declared.table.Published.{Published}
use Rattle.area_core.specs.Step.{opening_published}
use Rattle.shared_words.specs.declared.opening.Opening.{Opening}
use Rattle.shared_words.specs.declared.seats.Watcher as tokens
use Rattle.shared_words.specs.declared.view.WatcherView.{WatcherView}
use Rattle.shared_words.specs.declared.view.WriterView.{WriterView}
use Rattle.shared_words.specs.declared.view.View.{View}
use Rattle.shared_words.specs.declared.view.View.TheVariants.{Writer, Member, Watcher, Spent}
use Rattle.shared_words.specs.Opening.{members_begun, watcher_begun, watchers_begun}
use Rattle.shared_words.specs.Shown.{progress_of}
use Rattle.shared_words.specs.Seats.{SeatPlace, IsSeatOf}
use Rattle.shared_words.specs.Making.{HasWatchersAtHome, handed_on, watcher_handed_out, IsHanding, IsWatcherBegun, AreWatchersBegun}
use Rattle.shared_words.specs.Rule.{Knows, RunningRule}
use Rattle.shared_words.proofs.ShownMembers.{still_at, there_is}
use Rattle.shared_words.proofs.ShownViews.{views_more}
use Rattle.shared_words.proofs.OpeningRule.{begun_length, last_get, at_push, same_handed}
use Rattle.shared_words.proofs.RootLoads.{whole}
use Rattle.shared_words.proofs.NoteSplits.{members_more}
use Rattle.shared_words.proofs.SlotFrames.{LooksStay, looks_same, looks_stay, marks_stay, ended_as}
use Rattle.shared_words.proofs.WatcherFrames.{watcher_kept, watcher_push}
use Rattle.shared_words.proofs.WatchersBegun.{watched_length}

-- ---- the rule

-- all seats of members are handed out, and not all of watchers
record HasMore (w : WriterView) : Type 0 where
  out : length w.members ≤ w.handed
  more : w.handed < length w.members + length w.watchers

hands_out : {Served : Published → Type 0} {about : Opening} (s : State (Unit {0}) View) (r : RunningRule Served about s) → HasMore r.writer
    → RunningRule Served about record { words = s.words; homes = s.homes; views = set s.views 0 (handed_on (Writer r.writer)) ++ watcher_handed_out (Writer r.writer) ∷ [] }
hands_out s r left =
    let w = r.writer in
    let out = left.out in
    let more = left.more in
    let k = w.handed - length w.members in
    let kept = unwrap_or (slice_get w.watchers k) (watcher_begun 0) in
    let v : WatcherView = record { watcher = kept.watcher; seen = w.published; blocks = [] } in
    let w' : WriterView = record w { handed = w.handed + 1 } in
    let few : k < length w.watchers = omega (arith, out, more) in
    let here : slice_get w.watchers k ≡ Some kept = there_is w.watchers k (watcher_begun 0) few in
    let long : length r.seats ≡ w.handed = r.handed more in
    let place : length r.seats ≡ length w.members + k = omega (arith, long, out) in
    let same = members_more w.members r.seats (Watcher v) (omega (arith, place)) in
    let watched = watcher_push (length w.members) w.watchers r.seats k v kept place here refl in
    let number : kept.watcher.number ≡ k = r.machine.progress.watchers_numbered k kept.watcher (watcher_kept (length w.members) w.watchers r.seats k kept (omega (arith, place)) here) in
    let stay : LooksStay s.words s.words w w' = looks_same s.words w w' refl (ended_as w w' refl refl (omega arith)) in
    record {
      writer = w';
      seats = r.seats ++ Watcher v ∷ [];
      views = ap (λ (vs : List View). set vs 0 (Writer w') ++ Watcher v ∷ []) r.views;
      published = record { made = r.published.made; staffed = r.published.staffed; watched = r.published.watched; some = r.published.some; served = r.published.served; old_stays = r.published.old_stays; retired_stays = r.published.retired_stays; areas_stay = r.published.areas_stay; notes_fit = r.published.notes_fit };
      words = record { all = r.words.all; root = r.words.root; mirror = r.words.mirror; mirrored = r.words.mirrored; reached = r.words.reached; blocks = r.words.blocks };
      each_seat = λ at x is. ⊎_elim (λ (t : get_elem? r.seats at ≡ some x). same_handed w (w.handed + 1) at x (r.each_seat at x t))
          (λ (t : (at ≡ length r.seats) × (Watcher v ≡ x)). subst (λ (z : ℕ × View). Knows w' z.0 z.1) (λ i. (sym t.0 i, t.1 i)) (record {
            numbered = ap (λ (n : ℕ). length w.members + n) number ∙ sym place;
            made = subst (λ (n : ℕ). n < length w.watchers) (sym number) few;
            seen = whole w.published;
            words = λ f among. absurd (cc);
          }))
          (at_push r.seats (Watcher v) at x is);
      machine = record {
        progress = subst IsSound (λ i. record (progress_of s.words w r.seats) { members = sym same i; watchers = sym watched i }) r.machine.progress;
        own_words = λ j a at. r.machine.own_words j a (ap (λ (xs : List machines.Member). slice_get xs j) (sym same) ∙ at);
        others_wait = r.machine.others_wait;
        leader_made = r.machine.leader_made;
      };
      handed = λ still. length-append r.seats (Watcher v ∷ []) ∙ ap (λ (n : ℕ). n + 1) long;
      out = omega (arith, r.out, length-append r.seats (Watcher v ∷ []));
      at_home = λ j x at. same_handed w (w.handed + 1) j (Member x) (r.at_home j x at);
      watchers_home = r.watchers_home;
      looks = looks_stay s.words s.words w w' stay r.looks;
      marks = marks_stay s.words s.words w w' r.seats (r.seats ++ Watcher v ∷ []) stay refl (views_more w.members r.seats (Watcher v) (omega (arith, place))) r.marks;
      come = λ number among. record { made = (r.come number among).made; spent = at_longer r.seats (Watcher v ∷ []) number Spent (r.come number among).spent };
    }

-- the writer may hand out a watcher's seat while one is at home
pub hand_out_watcher_is_allowed : (Served : Published → Type 0) (about : Opening) (id : ℕ) (v : View) → HasWatchersAtHome about v → Splits (RunningRule Served about) id v (handed_on v) (watcher_handed_out v)
hand_out_watcher_is_allowed Served about zero v home s r at =
    let is : Writer r.writer ≡ v = some-injective (Writer r.writer) v (ap (λ (vs : List View). get_elem? vs 0) (sym r.views) ∙ at) in
    subst (λ (x : View). HasWatchersAtHome about x → RunningRule Served about record { words = s.words; homes = s.homes; views = set s.views 0 (handed_on x) ++ watcher_handed_out x ∷ [] }) is
    (λ left. hands_out s r (let first = left.0 in let last = left.1 in record { out = omega (arith, first, r.published.made); more = omega (arith, last, r.published.made, r.published.watched) })) home
hand_out_watcher_is_allowed Served about (suc k) (Writer w) home s r at = absurd (r.each_seat k (Writer w) (ap (λ (vs : List View). get_elem? vs (suc k)) (sym r.views) ∙ at))
hand_out_watcher_is_allowed Served about (suc k) v home s r at = absurd home

-- ---- the tokens

-- a seat is at home while not all are handed out
pub watcher_is_at_home : (table : TableId) (opening : Opening) (n : ℕ) (seat : SeatPlace) → n < opening.watchers → IsHanding table opening (opening.members + n) seat → HasWatchersAtHome opening seat.me.0
watcher_is_at_home table opening n seat few h = subst (HasWatchersAtHome opening) (sym h.view) (omega arith, omega (arith, few))

-- the watcher at a place as it begins
watched_get : (n k : ℕ) → k < n → slice_get (watchers_begun n) k ≡ Some (watcher_begun k)
unfolding watchers_begun
watched_get zero k few = absurd (omega arith)
watched_get (suc n) k few =
    dite (ℕ_discrete k n)
    (λ here. ap (slice_get (watchers_begun n ++ watcher_begun n ∷ [])) (here ∙ sym (watched_length n)) ∙ last_get (watchers_begun n) (watcher_begun n) ∙ ap (λ (j : ℕ). Some (watcher_begun j)) (sym here))
    (λ other. still_at (watchers_begun n) (watcher_begun n ∷ []) k (watcher_begun k) (watched_get n k (omega arith)))

-- the next one
next_begun : (opening : Opening) (n : ℕ) → n < opening.watchers → unwrap_or (slice_get (watchers_begun opening.watchers) (opening.members + n - length (members_begun opening.members))) (watcher_begun 0) ≡ watcher_begun n
next_begun opening n few =
    let place : opening.members + n - length (members_begun opening.members) ≡ n = omega (arith, begun_length opening.members) in
    ap (λ (o : Option WatcherView). unwrap_or o (watcher_begun 0)) (ap (slice_get (watchers_begun opening.watchers)) place ∙ watched_get opening.watchers n few)

-- the tokens with one more
pub watchers_next : (table : TableId) (opening : Opening) (n : ℕ) (old : SeatPlace) (watchers : List tokens.Watcher) (token : tokens.Watcher) → n < opening.watchers → IsHanding table opening (opening.members + n) old → AreWatchersBegun table n watchers
    → IsSeatOf table token.seat → token.seat.me.0 ≡ watcher_handed_out old.me.0 → token.holds ≡ 0 → AreWatchersBegun table (n + 1) (watchers ++ token ∷ [])
watchers_next table opening n old watchers token few h made of out holds = record {
  all = length-append watchers (token ∷ []) ∙ ap (λ (k : ℕ). k + 1) made.all;
  each = λ k t at. ⊎_elim (λ (before : slice_get watchers k ≡ Some t). made.each k t before)
      (λ (last : (k ≡ length watchers) × (t ≡ token)). subst (λ (z : ℕ × tokens.Watcher). IsWatcherBegun table z.0 z.1) (λ i. (sym (last.0 ∙ made.all) i, sym last.1 i)) (record {
        of_table = of;
        view = out ∙ ap watcher_handed_out h.view ∙ ap (λ (v : WatcherView). Watcher (record { watcher = v.watcher; seen = opening_published ∷ []; blocks = [] })) (next_begun opening n few);
        holds_is = holds;
      }))
      (slice_get-push_at watchers token k t at);
}

-- none at first
pub no_watchers_made : (table : TableId) (watchers : List tokens.Watcher) → watchers ≡ [] → AreWatchersBegun table 0 watchers
no_watchers_made table watchers is = subst (AreWatchersBegun table 0) (sym is) (record { all = refl; each = λ k t at. absurd (cc) })
