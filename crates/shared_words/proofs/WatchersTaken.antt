-- What the writer knows while the seats of watchers come in, the last one first.
use Rattle.std.proofs.Common.{◌≡◌, ℕ, zero, suc, ◌+◌, ◌≤◌, List, [], ◌∷◌, ◌++◌, length, length-append, append-nil, append_assoc, refl, sym, ap, subst, ◌∙◌, arith}
use mathlib.Core.Logic.{dite}
use native.Mathlib.Decide.{ℕ_discrete}
use Rattle.std.specs.Prelude.{Some, slice_get}
use Rattle.atomic_table.specs.Seated.{TableId}
use Rattle.shared_words.specs.declared.seats.Watcher as tokens
use Rattle.shared_words.specs.declared.view.WatcherView.{WatcherView}
use Rattle.shared_words.specs.declared.view.WriterView.{WriterView}
use Rattle.shared_words.specs.declared.view.View.{View}
use Rattle.shared_words.specs.declared.view.View.TheVariants.{Writer, Watcher}
use Rattle.shared_words.specs.Seats.{SeatPlace, IsSameSeat, IsWatcherSeat, counts_held, watcher_of, writer_of}
use Rattle.shared_words.specs.Making.{AreWatchersBegun}
use Rattle.shared_words.specs.Closing.{AreWatchers, watcher_put, with_watcher, watcher_taken, HaveLearnt}
use Rattle.shared_words.specs.Rule.{IsBeginning}
use Rattle.shared_words.proofs.ShownMembers.{still_at, within_get}
use Rattle.shared_words.proofs.OpeningRule.{last_get}

-- ---- one watcher

put_get : (k : ℕ) (v : WatcherView) (watchers : List WatcherView) → slice_get (watcher_put k v watchers) k ≡ Some v
put_get zero v [] = refl
put_get zero v (kept ∷ watchers) = refl
put_get (suc k) v [] = put_get k v []
put_get (suc k) v (kept ∷ watchers) = put_get k v watchers

joined : (w w' : WriterView) (v : WatcherView) → Writer w' ≡ watcher_taken (Writer w) (Watcher v) → HaveLearnt w' → IsBeginning v.seen w'.published
joined w w' v is learnt =
    let same : w' ≡ with_watcher v w = ap writer_of is in
    learnt v.watcher.number v (ap (λ (x : WriterView). slice_get x.watchers v.watcher.number) same ∙ put_get v.watcher.number v w.watchers)

module _ (old new other : View) (is : old ≡ Writer (writer_of old)) (watcher : other ≡ Watcher (watcher_of other)) (taken : new ≡ watcher_taken old other) where
  view_joined : new ≡ watcher_taken (Writer (writer_of old)) (Watcher (watcher_of other))
  view_joined = taken ∙ (λ i. watcher_taken (is i) (watcher i))

  -- the view behind the join is still the writer's
  pub writer_joined : new ≡ Writer (writer_of new)
  writer_joined = view_joined ∙ ap Writer (ap writer_of (sym view_joined))

  -- what the watcher had learnt of, of which the load tells that follows
  pub learnt_joined : ((w : WriterView) → new ≡ Writer w → HaveLearnt w) → IsBeginning (watcher_of other).seen (writer_of new).published
  learnt_joined told = joined (writer_of old) (writer_of new) (watcher_of other) (sym writer_joined ∙ view_joined) (told (writer_of new) writer_joined)

-- ---- the seats that are left, and those that came in

pub record HasTakenWatchers (watchers left : List tokens.Watcher) (old new : SeatPlace) : Type 0 where
  pub seat : IsSameSeat old new
  pub view : new.me.0 ≡ Writer (writer_of new.me.0)
  pub same : writer_of new.me.0 ≡ record (writer_of old.me.0) { watchers = (writer_of new.me.0).watchers }
  pub rest : List tokens.Watcher
  pub split : watchers ≡ left ++ rest
  pub learnt : (k : ℕ) (token : tokens.Watcher) → length left ≤ k → slice_get watchers k ≡ Some token → IsBeginning (watcher_of token.seat.me.0).seen (writer_of new.me.0).published

-- none at first
pub no_watcher_taken : (watchers : List tokens.Watcher) (old : SeatPlace) → old.me.0 ≡ Writer (writer_of old.me.0) → HasTakenWatchers watchers watchers old old
no_watcher_taken watchers old is = record {
  seat = record { same_table = refl; same_number = refl; same_slots = refl };
  view = is;
  same = refl;
  rest = [];
  split = sym (append-nil watchers);
  learnt = λ k token late at. absurd (let within = within_get watchers k token at in omega arith);
}

-- the last of those that are left
last_here : (watchers left few : List tokens.Watcher) (watcher : tokens.Watcher) (old new : SeatPlace) → HasTakenWatchers watchers left old new → left ≡ few ++ watcher ∷ [] → slice_get watchers (length few) ≡ Some watcher
last_here watchers left few watcher old new h is =
    ap (λ (xs : List tokens.Watcher). slice_get xs (length few)) (h.split ∙ ap (λ (xs : List tokens.Watcher). xs ++ h.rest) is) ∙ still_at (few ++ watcher ∷ []) h.rest (length few) watcher (last_get few watcher)

pub last_watcher : (table : TableId) (watchers left few : List tokens.Watcher) (watcher : tokens.Watcher) (old new : SeatPlace) → AreWatchers table watchers → HasTakenWatchers watchers left old new → left ≡ few ++ watcher ∷ [] → IsWatcherSeat table watcher.holds watcher.seat
last_watcher table watchers left few watcher old new all h is = all (length few) watcher (last_here watchers left few watcher old new h is)

-- one more
pub watcher_taken_next : (table : TableId) (watchers left few : List tokens.Watcher) (watcher : tokens.Watcher) (old new newer : SeatPlace) → AreWatchers table watchers → HasTakenWatchers watchers left old new → left ≡ few ++ watcher ∷ []
    → IsSameSeat new newer → newer.me.0 ≡ watcher_taken new.me.0 watcher.seat.me.0 → IsBeginning (watcher_of watcher.seat.me.0).seen (writer_of newer.me.0).published → HasTakenWatchers watchers few old newer
watcher_taken_next table watchers left few watcher old new newer all h is same taken begins =
    let at_end = last_here watchers left few watcher old new h is in
    let seat = all (length few) watcher at_end in
    let v = watcher_of watcher.seat.me.0 in
    let w = writer_of new.me.0 in
    let view : newer.me.0 ≡ Writer (with_watcher v w) = taken ∙ (λ i. watcher_taken (h.view i) (seat.view i)) in
    let here : writer_of newer.me.0 ≡ with_watcher v w = ap writer_of view in
    let size : length left ≡ length few + 1 = ap length is ∙ length-append few (watcher ∷ []) in
    record {
      seat = record { same_table = same.same_table ∙ h.seat.same_table; same_number = same.same_number ∙ h.seat.same_number; same_slots = same.same_slots ∙ h.seat.same_slots };
      view = view ∙ ap Writer (sym here);
      same = here ∙ ap (λ (x : WriterView). with_watcher v x) h.same ∙ ap (λ (x : WriterView). record (writer_of old.me.0) { watchers = x.watchers }) (sym here);
      rest = watcher ∷ h.rest;
      split = h.split ∙ ap (λ (xs : List tokens.Watcher). xs ++ h.rest) is ∙ append_assoc few (watcher ∷ []) h.rest;
      learnt = λ k token late at. dite (ℕ_discrete k (length few))
          (λ (first : k ≡ length few).
          let mine : watcher ≡ token = (let one : Some watcher ≡ Some token = sym at_end ∙ ap (slice_get watchers) (sym first) ∙ at in cc) in
          subst (λ (t : tokens.Watcher). IsBeginning (watcher_of t.seat.me.0).seen (writer_of newer.me.0).published) mine begins)
          (λ (other : k ≡ length few → ⊥). subst (λ (x : WriterView). IsBeginning (watcher_of token.seat.me.0).seen x.published) (sym here) (h.learnt k token (omega (arith, late, other, size)) at));
    }

-- ---- the tokens that are given

-- those of a new table are all of watchers
pub begun_are_watchers : (table : TableId) (count : ℕ) (watchers : List tokens.Watcher) → AreWatchersBegun table count watchers → AreWatchers table watchers
begun_are_watchers table count watchers begun = λ k token at.
    let is = begun.each k token at in
    let view = ap watcher_of is.view in
    record { of_table = is.of_table; view = is.view ∙ ap Watcher (sym view); counted = is.holds_is ∙ ap (λ (v : WatcherView). counts_held v) (sym view) }

-- and so are none
pub none_are_watchers : (table : TableId) (watchers : List tokens.Watcher) → watchers ≡ [] → AreWatchers table watchers
none_are_watchers table watchers none = subst (AreWatchers table) (sym none) (λ k token at. absurd (cc))
