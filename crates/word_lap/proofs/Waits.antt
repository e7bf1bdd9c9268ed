-- A member that waits between two rows of laps.
use Rattle.std.proofs.Common.{◌≡◌, ℕ, List, refl, sym, ap, subst}
use Rattle.atomic_table.specs.Seated.{TableId}
use Rattle.area_core.specs.declared.table.Published.{Published}
use Rattle.shared_words.specs.declared.seats.Member as tokens
use Rattle.shared_words.specs.declared.view.MemberView.{MemberView}
use Rattle.shared_words.specs.Kinds.{MayEnter, now_entering, now_waiting}
use Rattle.shared_words.specs.Processes.{AreCopied}
use Rattle.shared_words.specs.Seats.{IsRooted}
use Rattle.progress_words.specs.Reports.{IsAwake, HoldsReported}
use Rattle.progress_words.specs.Tokens.{IsMemberOf, IsSameMember}
use Rattle.anchors.specs.Holds.{view_of}
use Rattle.word_view.proofs.Lapping.{copies_stay}
use Rattle.word_lap.specs.Schedulers.{IsBetweenTurns, IsToken}
use Rattle.word_lap.specs.Waiting.{IsWaiting, WaitsAfter}
use Rattle.word_lap.proofs.Tokens.{between_reported}

pub waits_now : (table : TableId) (old new : tokens.Member) → IsToken table old → IsBetweenTurns (view_of old) → IsMemberOf table new → IsSameMember old new → view_of new ≡ now_waiting (view_of old) → WaitsAfter table (view_of old) new
waits_now table old new h between seat same waits = record {
  seat = seat;
  copied = subst (λ (xs : List ℕ). AreCopied xs (view_of new)) (sym same.anchors) (copies_stay old.anchors.items (view_of old) (view_of new) (ap (λ (m : MemberView). m.slots) waits) h.copied);
  learnt = h.rooted.learnt;
  between = between;
  waits = waits;
}

pub may_wake : (table : TableId) (token : tokens.Member) → IsWaiting table token → MayEnter (view_of token)
may_wake table token h = subst MayEnter (sym h.1.waits) refl

module _ (Served : Published → Type 0) (table : TableId) (old new : tokens.Member) (generation : ℕ) (r : HoldsReported Served (now_entering (view_of old)) (view_of new) generation) where
  -- what holds of a report behind the wait holds of one behind what the member knew before
  pub report_woken : (before : MemberView) → WaitsAfter table before old → HoldsReported Served before (view_of new) generation
  report_woken before h =
      let woken : HoldsReported Served (now_entering (now_waiting before)) (view_of new) generation = subst (λ (m : MemberView). HoldsReported Served (now_entering m) (view_of new) generation) h.waits r in
      record {
        counter = woken.counter;
        range = woken.range;
        learnt = woken.learnt;
        some = woken.some;
        newest = woken.newest;
        holds = woken.holds;
        served = woken.served;
        areas = woken.areas;
        named = λ a named among. let same = woken.named a named among in record { listed = same.listed; image = same.image };
        view = woken.view;
      }

  pub token_woken : IsWaiting table old → IsMemberOf table new → IsSameMember old new → IsRooted new.root (view_of new) → IsToken table new
  token_woken h seat same rooted = record {
    seat = seat;
    copied = subst (λ (xs : List ℕ). AreCopied xs (view_of new)) (sym same.anchors) (copies_stay old.anchors.items (view_of old) (view_of new) (ap (λ (m : MemberView). m.slots) r.view) h.1.copied);
    rooted = rooted;
  }

  pub between_woken : IsWaiting table old → IsAwake (view_of new) → IsBetweenTurns (view_of new)
  between_woken h awake = between_reported Served h.0 (view_of new) generation h.1.between awake (report_woken h.0 h.1)
